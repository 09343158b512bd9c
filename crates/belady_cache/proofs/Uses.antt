-- The next uses of each place, from the last place on.
use Rattle.std.proofs.Common.{◌≡◌, ℕ, zero, suc, ◌+◌, ◌<◌, List, [], ◌∷◌, length, drop, get_or, slice_index, refl, ap, ◌∙◌, arith, add-one}
use Rattle.vault_types.specs.Plans.{next_use, next_uses_from, next_uses}

pub length-next_uses_from : (i : ℕ) (reqs : List ℕ) → length (next_uses_from i reqs) ≡ length reqs
length-next_uses_from i [] = refl
length-next_uses_from i (c ∷ reqs) = ap suc (length-next_uses_from (i + 1) reqs)

-- what stands at a place
next_uses_from_at : (reqs : List ℕ) (i k d e : ℕ) → k < length reqs → get_or (next_uses_from i reqs) k d ≡ i + k + 1 + next_use (drop (suc k) reqs) (get_or reqs k e)
next_uses_from_at [] i k d e l = absurd (omega arith)
next_uses_from_at (c ∷ reqs) i zero d e l = omega arith
next_uses_from_at (c ∷ reqs) i (suc k) d e l = next_uses_from_at reqs (i + 1) k d e (omega arith) ∙ omega arith

pub next_uses_at : (reqs : List ℕ) (i : ℕ) → i < length reqs → slice_index (next_uses reqs) i ≡ i + 1 + next_use (drop (i + 1) reqs) (slice_index reqs i)
next_uses_at reqs i l =
    next_uses_from_at reqs 0 i 0 0 l ∙ omega (arith, ap (λ j. next_use (drop j reqs) (slice_index reqs i)) (add-one i))
