-- The order of parts a of p, which are compared by products.
use Rattle.std.proofs.Common.{◌≡◌, ◌⊎◌, ℕ, zero, suc, ◌+◌, ◌*◌, ◌<◌, ◌≤◌, Bool, true, false, ◌&&◌, ◌||◌, ap, arith, inl, inr, max, is_lt, nat_cmp, ltb-true}
use Rattle.std.specs.Prelude.{nat_lt, ◌==◌}
use Rattle.std.specs.Ordering.{ordering_then}
use Rattle.std.specs.Cmp.{IsStrictWeakOrder}
use Rattle.std.proofs.lemmas.Bool.Decides.{nat_tests}
use Rattle.std.proofs.lemmas.Bool.{cases_lt}
use Rattle.std.proofs.Math.Nat.{mul-le-mul_left}
use Rattle.har_monitor.specs.Used.{goes_first}

-- m against n, and on a tie x against y
abbrev pub lower : ℕ → ℕ → ℕ → ℕ → Bool
lower m n x y = nat_lt m n || ((m == n) && nat_lt x y)

lower-way : (m n x y : ℕ) → lower m n x y ≡ true → lower n m y x ≡ false
lower-way m n x y h = grind (arith, nat_tests)

lower-apart : (m n x y : ℕ) → lower m n x y ≡ false → lower n m y x ≡ false → x ≡ y
lower-apart m n x y h i = grind (arith, nat_tests)

pub compared : (m n x y : ℕ) → is_lt (ordering_then (nat_cmp m n) (nat_cmp x y)) ≡ lower m n x y
compared m n x y = grind (arith, nat_tests)

-- what it says that m is not lower than n
record IsNotLower (m n x y : ℕ) : Type 0 where
  pub least : n ≤ m
  pub tie : m ≡ n → y ≤ x

not_lower : (m n x y : ℕ) → lower m n x y ≡ false → IsNotLower m n x y
not_lower m n x y h = record { least = grind (arith, nat_tests); tie = λ e. grind (arith, nat_tests) }

lower-false : (m n x y : ℕ) → IsNotLower m n x y → lower m n x y ≡ false
lower-false m n x y h = step (cases_lt n m)
  where
    step : (n < m) ⊎ (m ≤ n) → lower m n x y ≡ false
    step (inl less) = grind (arith, nat_tests)
    step (inr more) =
        let least : n ≤ m = h.least in
        let same : m ≡ n = omega arith in
        let last : y ≤ x = h.tie same in
        grind (arith, nat_tests)

cancel : (q m n : ℕ) → 1 ≤ q → q * m ≤ q * n → m ≤ n
cancel q m n p h = step (cases_lt n m)
  where
    step : (n < m) ⊎ (m ≤ n) → m ≤ n
    step (inl less) =
        let next : n + 1 ≤ m = omega arith in
        let big : q * (n + 1) ≤ q * m = mul-le-mul_left q next in
        absurd (omega arith)
    step (inr more) = more

cancel-eq : (q m n : ℕ) → 1 ≤ q → q * m ≡ q * n → m ≡ n
cancel-eq q m n p e =
    let a : m ≤ n = cancel q m n p (omega arith) in
    let b : n ≤ m = cancel q n m p (omega arith) in
    omega arith

-- the part a of p, at x, against the part b of q, at y
abbrev pub fewer : ℕ → ℕ → ℕ → ℕ → ℕ → ℕ → Bool
fewer a p x b q y = lower (a * q) (b * p) x y

pub fewer-way : (a p x b q y : ℕ) → fewer a p x b q y ≡ true → fewer b q y a p x ≡ false
fewer-way a p x b q y h = lower-way (a * q) (b * p) x y h

pub fewer-apart : (a p x b q y : ℕ) → fewer a p x b q y ≡ false → fewer b q y a p x ≡ false → x ≡ y
fewer-apart a p x b q y h i = lower-apart (a * q) (b * p) x y h i

pub fewer-chain : (a p x b q y c r z : ℕ) → 1 ≤ p → 1 ≤ q → 1 ≤ r → fewer a p x b q y ≡ false → fewer b q y c r z ≡ false → fewer a p x c r z ≡ false
fewer-chain a p x b q y c r z pos-p pos-q pos-r h i =
    let f : IsNotLower (a * q) (b * p) x y = not_lower (a * q) (b * p) x y h in
    let g : IsNotLower (b * r) (c * q) y z = not_lower (b * r) (c * q) y z i in
    let first : r * (b * p) ≤ r * (a * q) = mul-le-mul_left r f.least in
    let second : p * (c * q) ≤ p * (b * r) = mul-le-mul_left p g.least in
    let both : q * (c * p) ≤ q * (a * r) = omega arith in
    lower-false (a * r) (c * p) x z (record {
      least = cancel q (c * p) (a * r) pos-q both;
      tie = λ e.
          let equal : q * (a * r) ≡ q * (c * p) = ap (λ n. q * n) e in
          let ab : r * (a * q) ≡ r * (b * p) = omega arith in
          let bc : p * (b * r) ≡ p * (c * q) = omega arith in
          let yx : y ≤ x = f.tie (cancel-eq r (a * q) (b * p) pos-r ab) in
          let zy : z ≤ y = g.tie (cancel-eq p (b * r) (c * q) pos-p bc) in
          omega arith;
    })

some_payload : (p : ℕ) → 1 ≤ max 1 p
some_payload p = omega arith

pub weak_order : IsStrictWeakOrder goes_first
weak_order = record {
  one_way = λ a b h. fewer-way a.referenced (max 1 a.payload) a.id b.referenced (max 1 b.payload) b.id h;
  chain = λ a b c h i. fewer-chain a.referenced (max 1 a.payload) a.id b.referenced (max 1 b.payload) b.id c.referenced (max 1 c.payload) c.id (some_payload a.payload) (some_payload b.payload) (some_payload c.payload) h i;
}

-- a part that is less than some of p says that p is not empty
pub not_empty : (m t p : ℕ) → nat_lt m (t * p) ≡ true → 1 ≤ p
not_empty m t zero h = let less : m < t * 0 = ltb-true m (t * 0) h in absurd (omega arith)
not_empty m t (suc p) h = omega arith
