-- Texts of hexadecimal digits.
use Rattle.std.proofs.Common.{◌≡◌, ◌<◌, ◌≤◌, ◌+◌, ◌*◌, ◌/◌, ◌%◌, ◌^◌, ℕ, zero, suc, List, [], ◌∷◌, ◌++◌, length, drop, get_or, Some, None, Option, ◌≢◌, ◌↔◌, refl, sym, ◌∙◌, ap, subst, arith}
use Rattle.std.proofs.lemmas.List.{length-append}
use Rattle.std.proofs.Math.Nat.{pow-le-pow_right, pow-succ'}
use Rattle.folder_shelf.specs.FileNames.{digit, hex}

-- two texts with parts of the same length are equal part by part
pub parts : (xs ys s t : List ℕ) → length xs ≡ length ys → xs ++ s ≡ ys ++ t → (xs ≡ ys) × (s ≡ t)
parts [] [] s t len e = (refl, e)
parts [] (y ∷ ys) s t len e = absurd (omega (arith, len))
parts (x ∷ xs) [] s t len e = absurd (omega (arith, len))
parts (x ∷ xs) (y ∷ ys) s t len e =
    let r = parts xs ys s t (omega (arith, len)) (ap (λ (l : List ℕ). drop 1 l) e) in
    let head : x ≡ y = ap (λ (l : List ℕ). get_or l 0 0) e in
    (λ i. head i ∷ r.0 i, r.1)

pub hex_length : (count n : ℕ) → length (hex count n) ≡ count
hex_length zero n = refl
hex_length (suc count) n = length-append (hex count (n / 16)) (digit (n % 16) ∷ []) ∙ (let h = hex_length count (n / 16) in omega (arith, h))

-- a digit more
pub one_more : (k n : ℕ) → n < 16 ^ suc k → n / 16 < 16 ^ k
one_more k n h = omega (arith, h, pow-succ' 16 k)

pub within : (k n : ℕ) → n < 16 ^ k → k ≤ 15 → n * 16 + 15 < 2 ^ 64
within k n h le = let p : 16 ^ k ≤ 16 ^ 15 = pow-le-pow_right (omega arith) le in omega (arith, h, p)

-- what an option has
abbrev pub inner : Option ℕ → ℕ
inner None = 0
inner (Some n) = n

-- the last digit stands at the end
pub hex_more : (k n : ℕ) → hex (suc k) n ≡ hex k (n / 16) ++ digit (n % 16) ∷ []
hex_more k n = refl

pub hex_none : (n : ℕ) → hex zero n ≡ []
hex_none n = refl

-- a number is read exactly where its front and its last digit are
pub is_read : (text before : List ℕ) (last high low : ℕ) → text ≡ before ++ last ∷ [] → length before + 1 ≡ length text
    → low < 16 → high < 16 ^ length before
    → ((n : ℕ) → n < 16 ^ length before → (Some high ≡ Some n ↔ hex (length before) n ≡ before))
    → ((v : ℕ) → v < 16 → (Some low ≡ Some v ↔ last ≡ digit v))
    → (n : ℕ) → n < 16 ^ length text → (Some (high * 16 + low) ≡ Some n ↔ hex (length text) n ≡ text)
is_read text before last high low is len small fits front back n le =
    let k = length before in
    let len_is : length text ≡ suc k = omega (arith, len) in
    let more : hex (length text) n ≡ hex k (n / 16) ++ digit (n % 16) ∷ [] = ap (λ (m : ℕ). hex m n) len_is ∙ hex_more k n in
    let le : n < 16 ^ suc k = subst (λ (m : ℕ). n < 16 ^ m) len_is le in (
      (λ e.
          let value : n ≡ high * 16 + low = sym (ap inner e) in
          let high_is : n / 16 ≡ high = omega (arith, value, small) in
          let low_is : n % 16 ≡ low = omega (arith, value, small) in
          more ∙ ap (λ (q : ℕ). hex k q ++ digit (n % 16) ∷ []) high_is ∙ ap (λ (r : ℕ). hex k high ++ digit r ∷ []) low_is
          ∙ ap (λ (x : List ℕ). x ++ digit low ∷ []) ((front high fits).0 refl) ∙ ap (λ (z : ℕ). before ++ z ∷ []) (sym ((back low small).0 refl)) ∙ sym is),
      (λ h.
          let both = parts (hex k (n / 16)) before (digit (n % 16) ∷ []) (last ∷ []) (hex_length k (n / 16)) (sym more ∙ h ∙ is) in
          let high_is : high ≡ n / 16 = ap inner ((front (n / 16) (one_more k n le)).1 both.0) in
          let low_is : low ≡ n % 16 = ap inner ((back (n % 16) (omega arith)).1 (sym (ap (λ (l : List ℕ). get_or l 0 0) both.1))) in
          let value : high * 16 + low ≡ n = omega (arith, high_is, low_is) in ap (λ (m : ℕ). Some m) value),
    )

-- no number has these digits where the last is none
pub is_no_digit : (text before : List ℕ) (last : ℕ) → text ≡ before ++ last ∷ [] → length before + 1 ≡ length text
    → ((v : ℕ) → v < 16 → last ≢ digit v) → (n : ℕ) → hex (length text) n ≢ text
is_no_digit text before last is len none n h =
    let k = length before in
    let len_is : length text ≡ suc k = omega (arith, len) in
    let more : hex (length text) n ≡ hex k (n / 16) ++ digit (n % 16) ∷ [] = ap (λ (m : ℕ). hex m n) len_is ∙ hex_more k n in
    let both = parts (hex k (n / 16)) before (digit (n % 16) ∷ []) (last ∷ []) (hex_length k (n / 16)) (sym more ∙ h ∙ is) in
    none (n % 16) (omega arith) (sym (ap (λ (l : List ℕ). get_or l 0 0) both.1))
