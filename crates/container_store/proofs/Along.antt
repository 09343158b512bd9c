-- A fact along three equations.
use Rattle.std.proofs.Common.{◌≡◌, ℕ, List, subst}

pub along : (P : ℕ → List ℕ → List ℕ → Type 0) {n k : ℕ} {p q s t : List ℕ} → n ≡ k → p ≡ q → s ≡ t → P n p s → P k q t
along P {n} {k} {p} {q} {s} {t} first second third h =
    subst (λ (m : ℕ). P m q t) first (subst (λ (x : List ℕ). P n x t) second (subst (λ (y : List ℕ). P n p y) third h))
