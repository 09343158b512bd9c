-- Plans step by step: their loads, and what it means that they serve.
use Rattle.std.proofs.Common.{◌≡◌, ℕ, ◌+◌, ◌<◌, false, IsTrue, not, cond, ◌&&◌, ltb, List, ◌∷◌, ◌++◌, length}
use Rattle.std.proofs.lemmas.Bool.{and_parts, not-true, ltb-true}
use Rattle.std.proofs.lemmas.List.Sums.{sum_by-append, sum_by-cons}
use Rattle.vault_types.specs.declared.Step.{Step}
use Rattle.vault_types.specs.declared.Step.TheVariants.{Load, Evict, Serve}
use Rattle.vault_types.specs.Lists.{has}
use Rattle.vault_types.specs.Plans.{serves, is_load, loads}
use Rattle.belady_cache.proofs.Counts.{without}

pub loads_append : (xs ys : List Step) → loads (xs ++ ys) ≡ loads xs + loads ys
loads_append xs ys = sum_by-append (λ s. cond (is_load s) 1 0) xs ys

pub loads_cons : (s : Step) (xs : List Step) → loads (s ∷ xs) ≡ cond (is_load s) 1 0 + loads xs
loads_cons s xs = sum_by-cons (λ s. cond (is_load s) 1 0) s xs

-- a load meets an absent id and a free slot
pub serves_load : (slots c : ℕ) (present : List ℕ) (steps : List Step) (reqs : List ℕ) → IsTrue (serves slots present (Load c ∷ steps) reqs) → (has c present ≡ false) × (length present < slots) × IsTrue (serves slots (c ∷ present) steps reqs)
serves_load slots c present steps reqs e =
    let parts = and_parts (not (has c present) && ltb (length present) slots) (serves slots (c ∷ present) steps reqs) e in
    let met = and_parts (not (has c present)) (ltb (length present) slots) parts.0 in
    (not-true _ met.0, ltb-true _ _ met.1, parts.1)

-- an eviction meets a present id
pub serves_evict : (slots c : ℕ) (present : List ℕ) (steps : List Step) (reqs : List ℕ) → IsTrue (serves slots present (Evict c ∷ steps) reqs) → IsTrue (has c present) × IsTrue (serves slots (without c present) steps reqs)
serves_evict slots c present steps reqs e = and_parts (has c present) (serves slots (without c present) steps reqs) e

-- what is served is present
pub serves_next : (slots q : ℕ) (present : List ℕ) (steps : List Step) (reqs : List ℕ) → IsTrue (serves slots present (Serve ∷ steps) (q ∷ reqs)) → IsTrue (has q present) × IsTrue (serves slots present steps reqs)
serves_next slots q present steps reqs e = and_parts (has q present) (serves slots present steps reqs) e
