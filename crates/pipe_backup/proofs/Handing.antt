-- Containers on their way through the sealing lane and onto the shelf.
use Rattle.std.proofs.Common.{◌≡◌, ⊎_elim, ℕ, ◌+◌, ◌<◌, ◌≤◌, List, [], ◌∷◌, ◌++◌, length, sym, ap, ◌∙◌, subst, append_assoc, Option, Some, None, arith}
use Rattle.std.proofs.lemmas.List.{length-map, map-append}
use Rattle.vault_types.specs.declared.Flow.{Flow}
use Rattle.vault_types.specs.declared.Flow.TheVariants.{Part}
use Rattle.vault_types.specs.Stages.{IsFront}
use Rattle.vault_types.specs.Tables.{Container}
use Rattle.stage_flows.specs.declared.Last.{Last}
use Rattle.stage_flows.specs.Runs.{run, item_of}
use Rattle.stage_flows.proofs.Running.{run-part, run-last, run-begins}
use Rattle.keeper_catalog.specs.View.{View}
use Rattle.seal_lane.specs.Lanes.{SealView}
use Rattle.backup_jobs.specs.Going.{Began, AreNamed, AreOfJob, IsUnderway, HasPut, len_of}
use Rattle.backup_jobs.proofs.Jobs.{named_then, next_of_all, room_of_all}
use Rattle.pipe_backup.specs.declared.sealing.Halt.{Halt}
use Rattle.pipe_backup.specs.declared.sealing.Halt.TheVariants as halt
use Rattle.pipe_backup.specs.declared.sealing.Span.{Span}
use Rattle.pipe_backup.specs.Sealing.{IsSpanOf, IsNext, HasHanded, IsPutHalt, IsHalt}

-- as many are noted as are put
pub noted : (b : Began) (now : View) (lens : List ℕ) (put : List Container) → HasPut b now lens put → length lens ≡ length put
noted b now lens put h = ap length h.lens_are ∙ length-map put len_of

-- there is no room for one more
pub no_more : (b : Began) (now : View) (lens : List ℕ) (put : List Container) (s : Span) (c : Container) → HasPut b now lens put → IsSpanOf b s → s.limit ≤ length lens → IsNext b put c → ⊥
no_more b now lens put s c h is most next = omega (arith, noted b now lens put h, is.limit, most, next.room)

-- it is the next one
pub is_next : (b : Began) (now : View) (lens : List ℕ) (put : List Container) (s : Span) (c : Container) (n : ℕ) → HasPut b now lens put → IsSpanOf b s → n ≡ length lens → n < s.limit → c.table.id ≡ s.first + n → IsNext b put c
is_next b now lens put s c n h is count less id = record { number = omega (arith, noted b now lens put h, is.first, count, id); room = omega (arith, noted b now lens put h, is.limit, count, less) }

-- it is another one
pub no_next : (b : Began) (now : View) (lens : List ℕ) (put : List Container) (s : Span) (c : Container) → HasPut b now lens put → IsSpanOf b s → (c.table.id ≡ s.first + length lens → ⊥) → IsNext b put c → ⊥
no_next b now lens put s c h is other next = other (omega (arith, noted b now lens put h, is.first, next.number))

-- one is put
pub put_more : (b : Began) (before now : View) (lens lens' : List ℕ) (put : List Container) (c : Container) → HasPut b before lens put
    → IsUnderway b now (put ++ c ∷ []) → now.pending ≡ before.pending → AreNamed before now (c ∷ []) → lens' ≡ lens ++ len_of c ∷ [] → HasPut b now lens' (put ++ c ∷ [])
put_more b before now lens lens' put c h under waits named more = record {
  underway = under;
  waits = waits ∙ h.waits;
  named = named_then b.keeper before now put (c ∷ []) h.named named;
  lens_are = more ∙ ap (λ xs. xs ++ len_of c ∷ []) h.lens_are ∙ sym (map-append len_of put (c ∷ []));
}

-- the lane is as it was
pub handed_as : (b : Began) (now : View) (lens : List ℕ) (s t : SealView) (given : List (Flow Container)) → t ≡ s → HasHanded b now lens s given → HasHanded b now lens t given
handed_as b now lens s t given same h = subst (λ (v : SealView). HasHanded b now lens v given) (sym same) h

-- one item more was handed
pub handed_more : (b : Began) (now : View) (lens : List ℕ) (s t : SealView) (given : List (Flow Container)) (item : Flow Container) → t ≡ record s { given = s.given ++ item ∷ [] } → HasHanded b now lens s given → HasHanded b now lens t (given ++ item ∷ [])
handed_more b now lens s t given item is h = record {
  put = h.put;
  given_are = ap (λ (v : SealView). v.given) is ∙ ap (λ l. l ++ item ∷ []) h.given_are;
  back_are = ap (λ (v : SealView). v.back) is ∙ h.back_are;
  all = h.all;
}

pub handed_item : (b : Began) (now : View) (lens : List ℕ) (s t : SealView) (given : List (Flow Container)) (item other : Flow Container) → item ≡ other → t ≡ record s { given = s.given ++ item ∷ [] } → HasHanded b now lens s given → HasHanded b now lens t (given ++ other ∷ [])
handed_item b now lens s t given item other same is h = subst (λ (i : Flow Container). HasHanded b now lens t (given ++ i ∷ [])) same (handed_more b now lens s t given item is h)

pub handed_part : (b : Began) (now : View) (lens : List ℕ) (s : SealView) (gone : List Container) (c : Container) → HasHanded b now lens s (run gone None ++ Part c ∷ []) → HasHanded b now lens s (run (gone ++ c ∷ []) None)
handed_part b now lens s gone c h = subst (λ (g : List (Flow Container)). HasHanded b now lens s g) (run-part gone c) h

pub handed_last : (b : Began) (now : View) (lens : List ℕ) (s : SealView) (gone : List Container) (l : Last) → HasHanded b now lens s (run gone None ++ item_of l ∷ []) → HasHanded b now lens s (run gone (Some l))
handed_last b now lens s gone l h = subst (λ (g : List (Flow Container)). HasHanded b now lens s g) (run-last gone l) h

-- an item came back
module _ (s t : SealView) (put : List Container) (item : Flow Container) (back : s.back ≡ run put None) (is : t ≡ record s { back = s.back ++ item ∷ [] }) where
  came : t.back ≡ run put None ++ item ∷ []
  came = ap (λ (v : SealView). v.back) is ∙ ap (λ l. l ++ item ∷ []) back

  pub given_still : t.given ≡ s.given
  given_still = ap (λ (v : SealView). v.given) is

  pub came_part : (c : Container) → item ≡ Part c → t.back ≡ run (put ++ c ∷ []) None
  came_part c part = came ∙ ap (λ i. run put None ++ i ∷ []) part ∙ run-part put c

  pub came_last : (l : Last) → item ≡ item_of l → t.back ≡ run put (Some l)
  came_last l last = came ∙ ap (λ i. run put None ++ i ∷ []) last ∙ run-last put l

-- what begins what was given is the next container
next_back : (b : Began) (gone put : List Container) (c : Container) (m : Option Last) → AreOfJob b gone → IsFront (run (put ++ c ∷ []) None) (run gone m) → IsNext b put c
next_back b gone put c m of front =
    let begins = (run-begins (put ++ c ∷ []) gone None m front).0 in
    let are : gone ≡ put ++ c ∷ begins.0 = sym begins.1 ∙ append_assoc put (c ∷ []) begins.0 in
    record { number = next_of_all b.first [] put begins.0 gone c are of.numbered; room = room_of_all b.limits.chunks [] put begins.0 gone c are of.few }

-- why a container was not put is why the handing breaks off
pub halts : (b : Began) (now : View) (s : SealView) (gone put : List Container) (c : Container) (m : Option Last) → AreOfJob b gone → s.given ≡ run gone m → s.back ≡ run (put ++ c ∷ []) None → (h : Halt) → IsPutHalt b now put c h → IsHalt b now s h
halts b now s gone put c m of given back (halt.Failed f) stop = stop
halts b now s gone put c m of given back halt.Never other = λ front. other (next_back b gone put c m of (subst (λ (p : List (Flow Container) × List (Flow Container)). IsFront p.0 p.1) (λ i. (back i, given i)) front))

-- no last item comes back where none was given
pub never_early : (s : SealView) (gone put : List Container) (l : Last) → s.given ≡ run gone None → s.back ≡ run put (Some l) → IsFront s.back s.given → ⊥
never_early s gone put l given back front =
    let begins = (run-begins put gone (Some l) None (subst (λ (p : List (Flow Container) × List (Flow Container)). IsFront p.0 p.1) (λ i. (back i, given i)) front)).1 in
    ⊎_elim (λ (e : Some l ≡ None). cc) (λ (e : (Some l ≡ None) × (put ≡ gone)). let none : Some l ≡ None = e.0 in cc) begins

-- with the last item all came back
pub all_back : (b : Began) (now : View) (lens : List ℕ) (s : SealView) (gone put : List Container) (l m : Last) → s.given ≡ run gone (Some m) → s.back ≡ run put (Some l) → HasPut b now lens put → IsFront s.back s.given → HasPut b now lens gone
all_back b now lens s gone put l m given back h front =
    let begins = (run-begins put gone (Some l) (Some m) (subst (λ (p : List (Flow Container) × List (Flow Container)). IsFront p.0 p.1) (λ i. (back i, given i)) front)).1 in
    ⊎_elim (λ (e : Some l ≡ None). cc) (λ (e : (Some l ≡ Some m) × (put ≡ gone)). subst (HasPut b now lens) e.1 h) begins

-- it came back and is put
pub handed_back : (b : Began) (now : View) (lens : List ℕ) (s : SealView) (given : List (Flow Container)) (put : List Container) (c : Container) → s.given ≡ given → s.back ≡ run (put ++ c ∷ []) None → HasPut b now lens (put ++ c ∷ []) → HasHanded b now lens s given
handed_back b now lens s given put c given_are back_are all = record { put = put ++ c ∷ []; given_are = given_are; back_are = back_are; all = all }
