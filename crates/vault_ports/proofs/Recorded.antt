-- One more entry in a record.
use Rattle.std.proofs.Common.{◌≡◌, ℕ, ◌+◌, ◌<◌, ◌≤◌, List, [], ◌∷◌, ◌++◌, length, Option, Some, None, refl, sym, ◌∙◌, ap, subst, arith}
use Rattle.std.specs.Prelude.{IsSome}
use Rattle.vault_types.specs.declared.Name.{Name}
use Rattle.vault_types.specs.Shelf.{Blobs, with_blob}
use Rattle.vault_traits.specs.Crash.{ShelfStep, Wrote, Settled}
use Rattle.vault_traits.specs.Shelf.{IsWritten, history_settled}
use Rattle.vault_ports.specs.declared.entries.Entry.{Entry}
use Rattle.vault_ports.specs.Record.{Write, Record, reading, history_from, history_then, history_of, entry_step, steps_after, entry_write}

pub length-steps : (base : Blobs) (past : List ShelfStep) (es : List Entry) → length (steps_after base past es) ≡ length es + length past
length-steps base past [] = omega arith
length-steps base past (e ∷ es) = length-steps base (entry_step (reading base past) e ∷ past) es ∙ (let f : length es + length (entry_step (reading base past) e ∷ past) ≡ length (e ∷ es) + length past = omega arith in f)

pub steps_push : (base : Blobs) (past : List ShelfStep) (es : List Entry) (e : Entry) → steps_after base past (es ++ e ∷ []) ≡ entry_step (reading base (steps_after base past es)) e ∷ steps_after base past es
steps_push base past [] e = refl
steps_push base past (x ∷ es) e = steps_push base (entry_step (reading base past) x ∷ past) es e

-- nothing failed before the stop
pub no_last : (last : Option Entry) (stop calls : ℕ) → (IsSome last → stop ≤ calls) → calls < stop → entry_write last ≡ None
no_last None stop calls stopped before = refl
no_last (Some e) stop calls stopped before = absurd (omega (arith, stopped refl))

pub no_last_in : (last : Option Entry) (now : Option Write) (stop calls : ℕ) → (IsSome last → stop ≤ calls) → entry_write last ≡ now → calls < stop → now ≡ None
no_last_in last now stop calls stopped same before = sym same ∙ no_last last stop calls stopped before

some_of : Blobs → Option Blobs → Blobs
some_of m None = m
some_of m (Some n) = n

some_same : (m n : Blobs) → Some m ≡ Some n → m ≡ n
unfolding some_of
some_same m n e = ap (some_of m) e

module _ (base : Blobs) (es fs : List Entry) (e : Entry) (pushed : fs ≡ es ++ e ∷ []) where
  abbrev so_far : List ShelfStep
  so_far = steps_after base [] es

  -- the steps of one entry more
  one_more : steps_after base [] fs ≡ entry_step (reading base (steps_after base [] es)) e ∷ steps_after base [] es
  one_more = ap (steps_after base []) pushed ∙ steps_push base [] es e

  module _ (name : Name) (bytes : Option (List ℕ)) (step : (m : Blobs) → entry_step m e ≡ Wrote name bytes) where
    write_more : steps_after base [] fs ≡ Wrote name bytes ∷ steps_after base [] es
    write_more = one_more ∙ ap (λ (s : ShelfStep). s ∷ steps_after base [] es) (step (reading base (steps_after base [] es)))

    pub still_read : (now next : Blobs) → now ≡ reading base (steps_after base [] es) → Some next ≡ Some (with_blob now name bytes) → next ≡ reading base (steps_after base [] fs)
    still_read now next same written =
        some_same next (with_blob now name bytes) written ∙ ap (λ (m : Blobs). with_blob m name bytes) same ∙ sym (ap (reading base) write_more)

    pub is_recorded : (last : Option Write) (r : Record) → base ≡ r.base → steps_after base [] es ≡ r.steps → last ≡ r.last → r.last ≡ None
        → IsWritten (Some (reading r.base r.steps)) (Some (reading base (steps_after base [] fs))) (Some (history_of r)) (Some (history_then (history_from base (steps_after base [] fs)) last)) name bytes
    is_recorded last r base_is steps_is last_is none =
        subst (λ (b : Blobs). Written b r.steps r.last) base_is (subst (λ (s : List ShelfStep). Written base s r.last) steps_is (subst (λ (l : Option Write). Written base (steps_after base [] es) l) last_is (record {
          blobs = ap (λ (s : List ShelfStep). Some (reading base s)) write_more;
          history = ap (λ (s : List ShelfStep). Some (history_then (history_from base s) last)) write_more
              ∙ ap (λ (l : Option Write). Some (history_then (history_from base (Wrote name bytes ∷ steps_after base [] es)) l)) (last_is ∙ none)
              ∙ sym (ap (λ (l : Option Write). Some (Wrote name bytes ∷ history_then (history_from base (steps_after base [] es)) l)) (last_is ∙ none));
        })))
      where
        Written : Blobs → List ShelfStep → Option Write → Type 0
        Written b s l = IsWritten (Some (reading b s)) (Some (reading base (steps_after base [] fs))) (Some (history_then (history_from b s) l)) (Some (history_then (history_from base (steps_after base [] fs)) last)) name bytes

  module _ (step : (m : Blobs) → entry_step m e ≡ Settled m) where
    settle_more : steps_after base [] fs ≡ Settled (reading base (steps_after base [] es)) ∷ steps_after base [] es
    settle_more = one_more ∙ ap (λ (s : ShelfStep). s ∷ steps_after base [] es) (step (reading base (steps_after base [] es)))

    pub settle_read : (now : Blobs) → now ≡ reading base (steps_after base [] es) → now ≡ reading base (steps_after base [] fs)
    settle_read now same = same ∙ sym (ap (reading base) settle_more)

    pub reads_same : (r : Record) → base ≡ r.base → steps_after base [] es ≡ r.steps → reading base (steps_after base [] fs) ≡ reading r.base r.steps
    reads_same r base_is steps_is = ap (reading base) settle_more ∙ ap (reading base) steps_is ∙ ap (λ (b : Blobs). reading b r.steps) base_is

    pub is_settled : (last : Option Write) (r : Record) → base ≡ r.base → steps_after base [] es ≡ r.steps → last ≡ r.last → r.last ≡ None
        → Some (history_then (history_from base (steps_after base [] fs)) last) ≡ history_settled (Some (reading r.base r.steps)) (Some (history_of r))
    is_settled last r base_is steps_is last_is none =
        ap (λ (s : List ShelfStep). Some (history_then (history_from base s) last)) settle_more
        ∙ ap (λ (l : Option Write). Some (history_then (history_from base (Settled (reading base (steps_after base [] es)) ∷ steps_after base [] es)) l)) (last_is ∙ none)
        ∙ ap (λ (s : List ShelfStep). Some (Settled (reading base s) ∷ history_from base s)) steps_is
        ∙ ap (λ (b : Blobs). Some (Settled (reading b r.steps) ∷ history_from b r.steps)) base_is
        ∙ sym (ap (λ (l : Option Write). Some (Settled (reading r.base r.steps) ∷ history_then (history_from r.base r.steps) l)) none)

-- there is room for one more
pub fits : (base : Blobs) (es : List Entry) (steps : List ShelfStep) (len capacity : ℕ) → steps_after base [] es ≡ steps → length steps < 1024 → 1024 ≤ capacity → len ≡ length es → len < capacity
fits base es steps len capacity same few wide is = omega (arith, length-steps base [] es, ap length same)
