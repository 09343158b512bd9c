-- For callers: the lists as those of pins with their containers.
use Rattle.std.proofs.Common.{◌≡◌, ℕ, Bool, true, false, cond, not, ◌||◌, List, [], ◌∷◌, ◌++◌, map, refl, sym, ap, ◌∙◌}
use Rattle.std.specs.Prelude.{nat_eq, ◌==◌}
use Rattle.std.proofs.lemmas.List.{map-append}
use Rattle.std.proofs.lemmas.List.Folds.{list_any-append}
use Rattle.vault_types.specs.Lists.{has}
use Rattle.vault_types.specs.Tables.{id_of}
use Rattle.vault_types.specs.Events.{Pin, pinned_containers, pins_without}
use Rattle.restore_pins.specs.Pins.{Listed, numbers, listed_ids, without_pin, IsListOf, AreListsOf}

-- the numbers are the same
pub numbers-same : (ls : List Listed) (ps : List Pin) → AreListsOf ls ps → map (λ p. p.number) ps ≡ numbers ls
numbers-same [] [] h = refl
numbers-same [] (p ∷ ps) h = absurd h
numbers-same (l ∷ ls) [] h = absurd h
numbers-same (l ∷ ls) (p ∷ ps) h = ap (λ n. n ∷ map (λ q. q.number) ps) h.0.number ∙ ap (λ ns. l.number ∷ ns) (numbers-same ls ps h.1)

-- so are the ids
pub has-pinned : (c : ℕ) (ls : List Listed) (ps : List Pin) → AreListsOf ls ps → has c (listed_ids ls) ≡ has c (map id_of (pinned_containers ps))
has-pinned c [] [] h = refl
has-pinned c [] (p ∷ ps) h = absurd h
has-pinned c (l ∷ ls) [] h = absurd h
has-pinned c (l ∷ ls) (p ∷ ps) h =
    list_any-append (nat_eq c) l.ids (listed_ids ls)
    ∙ ap (λ b. b || has c (listed_ids ls)) (sym (h.0.ids c))
    ∙ ap (λ b. has c (map id_of p.containers) || b) (has-pinned c ls ps h.1)
    ∙ sym (ap (has c) (map-append id_of p.containers (pinned_containers ps)) ∙ list_any-append (nat_eq c) (map id_of p.containers) (map id_of (pinned_containers ps)))

-- one pin more
pub lists-more : (ls : List Listed) (ps : List Pin) (l : Listed) (p : Pin) → AreListsOf ls ps → IsListOf l p → AreListsOf (ls ++ l ∷ []) (ps ++ p ∷ [])
lists-more [] [] l p h i = (i, tt)
lists-more [] (q ∷ ps) l p h i = absurd h
lists-more (k ∷ ls) [] l p h i = absurd h
lists-more (k ∷ ls) (q ∷ ps) l p h i = (h.0, lists-more ls ps l p h.1 i)

-- one pin less
pub lists-without : (n : ℕ) (ls : List Listed) (ps : List Pin) → AreListsOf ls ps → AreListsOf (without_pin n ls) (pins_without n ps)
lists-without n [] [] h = tt
lists-without n [] (p ∷ ps) h = absurd h
lists-without n (l ∷ ls) [] h = absurd h
lists-without n (l ∷ ls) (p ∷ ps) h = step (l.number == n) (p.number == n) (ap (λ m. m == n) h.0.number) (lists-without n ls ps h.1)
  where
    step : (a b : Bool) → b ≡ a → AreListsOf (without_pin n ls) (pins_without n ps) → AreListsOf (cond (not a) (l ∷ without_pin n ls) (without_pin n ls)) (cond (not b) (p ∷ pins_without n ps) (pins_without n ps))
    step true true e i = i
    step true false e i = absurd (cc)
    step false true e i = absurd (cc)
    step false false e i = (h.0, i)
