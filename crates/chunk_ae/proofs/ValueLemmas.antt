-- The value behind one more byte.
use Rattle.std.proofs.Common.{◌≡◌, ℕ, zero, suc, ◌+◌, ◌*◌, ◌-◌, ◌%◌, ◌^◌, ◌<◌, List, [], ◌∷◌, ◌++◌, length, drop, replicate, refl, sym, ap, ◌∙◌, arith, length-append, length-drop, append_assoc}
use Rattle.std.specs.List.{AllByRecursion}
use Rattle.std.specs.Int.{w64, from_be_bytes}
use Rattle.std.proofs.lemmas.List.{drop-append-le, take_all}
use Rattle.vault_types.specs.Cuts.{value_at}

abbrev pub AreBytes : List ℕ → Type 0
AreBytes bs = AllByRecursion (λ b. b < 256) bs

pub bytes-more : (xs : List ℕ) (b : ℕ) → AreBytes xs → b < 256 → AreBytes (xs ++ b ∷ [])
bytes-more [] b h i = (i, tt)
bytes-more (x ∷ xs) b h i = (h.0, bytes-more xs b h.1 i)

bytes-behind : (n : ℕ) (xs : List ℕ) → AreBytes xs → AreBytes (drop n xs)
bytes-behind zero xs h = h
bytes-behind (suc n) [] h = tt
bytes-behind (suc n) (x ∷ xs) h = bytes-behind n xs h.1

-- eight bytes with one more behind them
shifted : (y : List ℕ) (b : ℕ) → length y ≡ 8 → AreBytes y → b < 256 → from_be_bytes w64 (drop 1 y ++ b ∷ []) ≡ (from_be_bytes w64 y * 256) % 2 ^ 64 + b
shifted (y0 ∷ y1 ∷ y2 ∷ y3 ∷ y4 ∷ y5 ∷ y6 ∷ y7 ∷ []) b len h i = eight y0 y1 y2 y3 y4 y5 y6 y7 b h.0 h.1.0 h.1.1.0 h.1.1.1.0 h.1.1.1.1.0 h.1.1.1.1.1.0 h.1.1.1.1.1.1.0 h.1.1.1.1.1.1.1.0 i
  where
    eight : (y0 y1 y2 y3 y4 y5 y6 y7 b : ℕ) → y0 < 256 → y1 < 256 → y2 < 256 → y3 < 256 → y4 < 256 → y5 < 256 → y6 < 256 → y7 < 256 → b < 256
        → from_be_bytes w64 (y1 ∷ y2 ∷ y3 ∷ y4 ∷ y5 ∷ y6 ∷ y7 ∷ b ∷ []) ≡ (from_be_bytes w64 (y0 ∷ y1 ∷ y2 ∷ y3 ∷ y4 ∷ y5 ∷ y6 ∷ y7 ∷ []) * 256) % 2 ^ 64 + b
    eight y0 y1 y2 y3 y4 y5 y6 y7 b h0 h1 h2 h3 h4 h5 h6 h7 i = omega arith
shifted y b len h i = absurd (omega arith)

-- the last value of some bytes, as the number of their last eight
last-eight : (x : List ℕ) → value_at x (length x) ≡ from_be_bytes w64 (drop (length x) (replicate 8 0 ++ x))
last-eight x =
    let all : length (replicate 8 0 ++ x) ≡ 8 + length x = length-append (replicate 8 0) x in
    let left : length (drop (length x) (replicate 8 0 ++ x)) ≡ length (replicate 8 0 ++ x) - length x = length-drop (length x) (replicate 8 0 ++ x) in
    ap (from_be_bytes w64) (take_all 8 (drop (length x) (replicate 8 0 ++ x)) (omega arith))

drop-next : (n : ℕ) (xs : List ℕ) → drop (n + 1) xs ≡ drop 1 (drop n xs)
drop-next zero xs = refl
drop-next (suc n) [] = let e : suc n + 1 ≡ suc (n + 1) = omega arith in ap (λ k. drop {A = ℕ} k []) e
drop-next (suc n) (x ∷ xs) = let e : suc n + 1 ≡ suc (n + 1) = omega arith in ap (λ k. drop k (x ∷ xs)) e ∙ drop-next n xs

pub value-next : (x : List ℕ) (b : ℕ) → AreBytes x → b < 256 → value_at (x ++ b ∷ []) (length (x ++ b ∷ [])) ≡ (value_at x (length x) * 256) % 2 ^ 64 + b
value-next x b h i =
    let zeros : List ℕ = replicate 8 0 in
    let len : length (x ++ b ∷ []) ≡ length x + 1 = length-append x (b ∷ []) in
    let all : length (zeros ++ x) ≡ 8 + length x = length-append zeros x in
    let left : length (drop (length x) (zeros ++ x)) ≡ length (zeros ++ x) - length x = length-drop (length x) (zeros ++ x) in
    let z : 0 < 256 = omega arith in
    let bytes : AreBytes (zeros ++ x) = (z, (z, (z, (z, (z, (z, (z, (z, h)))))))) in
    last-eight (x ++ b ∷ [])
    ∙ ap (λ n. from_be_bytes w64 (drop n (zeros ++ (x ++ b ∷ [])))) len
    ∙ ap (λ ys. from_be_bytes w64 (drop (length x + 1) ys)) (sym (append_assoc zeros x (b ∷ [])))
    ∙ ap (from_be_bytes w64) (drop-append-le (length x + 1) (zeros ++ x) (b ∷ []) (omega arith))
    ∙ ap (λ ys. from_be_bytes w64 (ys ++ b ∷ [])) (drop-next (length x) (zeros ++ x))
    ∙ shifted (drop (length x) (zeros ++ x)) b (omega arith) (bytes-behind (length x) (zeros ++ x) bytes) i
    ∙ ap (λ v. (v * 256) % 2 ^ 64 + b) (sym (last-eight x))
