-- Decided chunks that a filler takes.
use Rattle.std.proofs.Common.{◌≡◌, ℕ, ◌+◌, ◌<◌, ◌≤◌, List, [], ◌∷◌, ◌++◌, length, map, refl, sym, ap, ◌∙◌, subst, arith, append-nil, length-append, Option}
use Rattle.std.specs.Prelude.{option_to_list, Result, Ok, Err, OnOk, IfOk}
use Rattle.std.specs.List.{zip}
use Rattle.std.proofs.lemmas.List.{map-append, length-map}
use Rattle.vault_types.specs.declared.How.{How}
use Rattle.vault_types.specs.Names.{NamedChunk}
use Rattle.vault_types.specs.Pieces.{pieces}
use Rattle.vault_types.specs.Tables.{Container}
use Rattle.vault_types.specs.Fill.{fill, writes}
use Rattle.vault_types.specs.Stages.{decided_parts}
use Rattle.fp_index.specs.Index.{found_in}
use Rattle.container_fill.specs.Carried.{carried, AreInTurn}
use Rattle.container_fill.specs.Filling.{Filling, HasFilled, IsFilledBy, opened}
use Rattle.backup_pass.proofs.Decisions.{decide_in_turn}
use Rattle.keeper_catalog.specs.View.{View}
use Rattle.backup_jobs.specs.declared.closing.Rest.{Rest}
use Rattle.backup_jobs.specs.Going.{Began, AreNumbered, AreOfJob, HasFilledParts, HasPut, HasPutAll, rules_of, chunks_of}
use Rattle.backup_jobs.proofs.Chunks.{hows, hows_len, chunks_len, fill_few, numbered_new}
use Rattle.backup_jobs.proofs.Ends.{none_left}

firsts_with : (parts : List (NamedChunk × How)) (p : NamedChunk × How) → map (λ q. q.0) (parts ++ p ∷ []) ≡ map (λ q. q.0) parts ++ p.0 ∷ []
firsts_with parts p = map-append (λ (q : NamedChunk × How). q.0) parts (p ∷ [])

seconds_with : (parts : List (NamedChunk × How)) (p : NamedChunk × How) → map (λ q. q.1) (parts ++ p ∷ []) ≡ map (λ q. q.1) parts ++ p.1 ∷ []
seconds_with parts p = map-append (λ (q : NamedChunk × How). q.1) parts (p ∷ [])

-- the filler has taken one part more
takes_part : (b : Began) (old new : Filling) (gone given : List Container) (parts : List (NamedChunk × How)) (p : NamedChunk × How) → HasFilledParts b old gone parts → length parts < b.limits.chunks
    → HasFilled new b.first (gone ++ given) (map (λ q. q.0) parts ++ p.0 ∷ []) (map (λ q. q.1) parts ++ p.1 ∷ []) → new.capacity ≡ old.capacity → HasFilledParts b new (gone ++ given) (parts ++ p ∷ [])
takes_part b old new gone given parts p h room taken capacity = record {
  filled =
      subst (λ (cs : List NamedChunk). HasFilled new b.first (gone ++ given) cs (map (λ q. q.1) (parts ++ p ∷ []))) (sym (firsts_with parts p))
      (subst (λ (hs : List How). HasFilled new b.first (gone ++ given) (map (λ q. q.0) parts ++ p.0 ∷ []) hs) (sym (seconds_with parts p)) taken);
  capacity = capacity ∙ h.capacity;
  cuttable = h.cuttable;
  few = omega (arith, room, length-append parts (p ∷ []));
}

pub took_part : (b : Began) (old new : Filling) (gone : List Container) (parts : List (NamedChunk × How)) (p : NamedChunk × How) → HasFilledParts b old gone parts → length parts < b.limits.chunks → {E : Type 0} (r : Result (Option Container) E)
    → IfOk r (λ given. (first : ℕ) (before : List Container) (chunks : List NamedChunk) (hows : List How) → HasFilled old first before chunks hows → HasFilled new first (before ++ option_to_list given) (chunks ++ p.0 ∷ []) (hows ++ p.1 ∷ []))
    → OnOk r (new.capacity ≡ old.capacity) → IfOk r (λ given. HasFilledParts b new (gone ++ option_to_list given) (parts ++ p ∷ []))
took_part b old new gone parts p h room (Ok given) taken capacity = takes_part b old new gone (option_to_list given) parts p h room (taken b.first gone (map (λ q. q.0) parts) (map (λ q. q.1) parts) h.filled) capacity
took_part b old new gone parts p h room (Err e) taken capacity = tt

-- the containers that it gave out are the job's
pub gone_of_job : (b : Began) (f : Filling) (gone : List Container) (parts : List (NamedChunk × How)) → HasFilledParts b f gone parts → AreOfJob b gone
gone_of_job b f gone parts h = record {
  numbered = subst (AreNumbered b.first) (sym h.filled.gone_are) (numbered_new b.first h.filled.full);
  few =
      let few = h.filled.keeps.few in
      let all = length-append gone (opened f.next f.held) in
      let same : length (map (λ (p : NamedChunk × How). p.0) parts) ≡ length parts = length-map parts (λ p. p.0) in
      omega (arith, few, all, same, h.few);
}

-- and so is the one that it held
pub all_of_job : (b : Began) (f : Filling) (gone last : List Container) (parts : List (NamedChunk × How)) → HasFilledParts b f gone parts
    → gone ++ last ≡ (fill b.first (map (λ p. p.0) parts) (carried (map (λ p. p.0) parts) (map (λ p. p.1) parts)) f.capacity).containers → AreOfJob b (gone ++ last)
all_of_job b f gone last parts h all =
    let cs : List NamedChunk = map (λ (p : NamedChunk × How). p.0) parts in
    let hs : List How = carried cs (map (λ (p : NamedChunk × How). p.1) parts) in
    record {
      numbered = subst (AreNumbered b.first) (sym all) (numbered_new b.first (pieces (λ c. length c.bytes) f.capacity (writes cs hs)));
      few =
          let same : length (gone ++ last) ≡ length (fill b.first cs hs f.capacity).containers = ap length all in
          let few : length (fill b.first cs hs f.capacity).containers ≤ length cs = fill_few b.first cs hs f.capacity in
          let count : length cs ≡ length parts = length-map parts (λ p. p.0) in
          omega (arith, same, few, count, h.few);
    }

-- ---- the end

firsts : (cs : List NamedChunk) (hs : List How) → length hs ≡ length cs → map (λ (p : NamedChunk × How). p.0) (zip cs hs) ≡ cs
firsts [] hs e = refl
firsts (c ∷ cs) [] e = absurd (omega arith)
firsts (c ∷ cs) (h ∷ hs) e = ap (λ xs. c ∷ xs) (firsts cs hs (omega arith))

seconds : (cs : List NamedChunk) (hs : List How) → length hs ≡ length cs → map (λ (p : NamedChunk × How). p.1) (zip cs hs) ≡ hs
seconds [] [] e = refl
seconds [] (h ∷ hs) e = absurd (omega arith)
seconds (c ∷ cs) [] e = absurd (omega arith)
seconds (c ∷ cs) (h ∷ hs) e = ap (λ xs. h ∷ xs) (seconds cs hs (omega arith))

module _ (b : Began) (f : Filling) (gone : List Container) (parts : List (NamedChunk × How)) (h : HasFilledParts b f gone parts) (read : List ℕ) (are : parts ≡ decided_parts (found_in b.index) (rules_of b) (chunks_of b.config read)) where
  chunks_are : map (λ p. p.0) parts ≡ chunks_of b.config read
  chunks_are = ap (λ (ps : List (NamedChunk × How)). map (λ p. p.0) ps) are ∙ firsts (chunks_of b.config read) (hows b read) (hows_len b read)

  hows_are : map (λ p. p.1) parts ≡ hows b read
  hows_are = ap (λ (ps : List (NamedChunk × How)). map (λ p. p.1) ps) are ∙ seconds (chunks_of b.config read) (hows b read) (hows_len b read)

  -- what was filled, by the chunks of the bytes
  pub filled_all : HasFilled f b.first gone (chunks_of b.config read) (hows b read)
  filled_all =
      subst (λ (cs : List NamedChunk). HasFilled f b.first gone cs (hows b read)) chunks_are
      (subst (λ (hs : List How). HasFilled f b.first gone (map (λ p. p.0) parts) hs) hows_are h.filled)

  pub all_in_turn : AreInTurn (chunks_of b.config read) (hows b read)
  all_in_turn = decide_in_turn (found_in b.index) (rules_of b) (chunks_of b.config read)

  -- where all are put
  pub all_put : (last : List Container) (r : Rest) → IsFilledBy last r.rows r.next r.containers r.written b.first gone (length (chunks_of b.config read)) (fill b.first (chunks_of b.config read) (hows b read) f.capacity)
      → (now : View) (lens : List ℕ) → HasPut b now lens (gone ++ last) → HasPutAll b now r lens read
  all_put last r filled now lens put =
      let F = fill b.first (chunks_of b.config read) (hows b read) b.config.container in
      let same : IsFilledBy last r.rows r.next r.containers r.written b.first gone (length (chunks_of b.config read)) F = subst (λ (capacity : ℕ). IsFilledBy last r.rows r.next r.containers r.written b.first gone (length (chunks_of b.config read)) (fill b.first (chunks_of b.config read) (hows b read) capacity)) h.capacity filled in
      none_left b now (gone ++ last) r lens read (record {
        underway = put.underway;
        waits = put.waits;
        named = put.named;
        lens_are = put.lens_are;
        cuttable = h.cuttable;
        few =
            let count : length (chunks_of b.config read) ≡ length parts = ap length (sym chunks_are) ∙ length-map parts (λ p. p.0) in
            omega (arith, count, chunks_len b read, h.few);
        filled = record {
          containers_are = append-nil (gone ++ last) ∙ same.containers_are;
          rows_are = same.rows_are;
          next_is = same.next_is;
          count_is = same.count_is;
          written_is = same.written_is;
          count_exact = same.count_exact;
          written_exact = same.written_exact;
        };
      })
