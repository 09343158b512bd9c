-- The pieces of a list with one more length: the last piece takes it where it fits.
use Rattle.std.proofs.Common.{◌≡◌, ℕ, zero, suc, ◌+◌, ◌-◌, ◌<◌, ◌≤◌, Bool, true, false, cond, List, [], ◌∷◌, ◌++◌, length, take, drop, refl, sym, ap, append-nil, inl, inr, ◌∙◌, arith, length-drop, Option, Some, None}
use Rattle.std.specs.Prelude.{nat_le, max, sum}
use Rattle.std.proofs.lemmas.Bool.Decides.{nat_tests}
use Rattle.std.proofs.lemmas.Bool.{cases_lt}
use Rattle.std.proofs.lemmas.List.{take-append-le, drop-append-le}
use Rattle.std.proofs.lemmas.List.Sums.{sum_by-cons, sum_by-append}
use Rattle.std.proofs.Math.Seq.{take-append_seam, drop-append_seam}
use Rattle.vault_types.specs.Lists.{fitting}
use Rattle.vault_types.specs.Pieces.{piece_len}
use Rattle.vault_types.proofs.PartsLemmas.{parts_step}
use Rattle.vault_types.proofs.PieceLemmas.{piece_rule}
use Rattle.segmenter.specs.Segments.{segments_of, in_last, last_sum}

abbrev fit : ℕ → List ℕ → ℕ
fit room xs = fitting (λ n. n) room xs

sum-cons : (x : ℕ) (xs : List ℕ) → sum (x ∷ xs) ≡ x + sum xs
sum-cons x xs = sum_by-cons (λ n. n) x xs

-- a front that fits
fit-within : (room left : ℕ) (xs ys : List ℕ) → sum xs + left ≡ room → fit room (xs ++ ys) ≡ length xs + fit left ys
fit-within room left [] ys e = let s : left ≡ room = omega arith in ap (λ r. fit r ys) (sym s) ∙ omega arith
fit-within room left (x ∷ xs) ys e =
    let s : sum (x ∷ xs) ≡ x + sum xs = sum-cons x xs in
    let yes : nat_le x room ≡ true = grind (arith, nat_tests) in
    rw yes (let h : fit (room - x) (xs ++ ys) ≡ length xs + fit left ys = fit-within (room - x) left xs ys (omega arith) in omega arith)

-- one that does not
pub record IsCutShort (room : ℕ) (xs ys : List ℕ) : Type 0 where
  pub same : fit room (xs ++ ys) ≡ fit room xs
  pub short : fit room xs < length xs

fit-beyond : (room : ℕ) (xs ys : List ℕ) → room < sum xs → IsCutShort room xs ys
fit-beyond room [] ys h = absurd (omega arith)
fit-beyond room (x ∷ xs) ys h = step (nat_le x room) refl (λ more. fit-beyond (room - x) xs ys more)
  where
    step : (b : Bool) → nat_le x room ≡ b → (room - x < sum xs → IsCutShort (room - x) xs ys) → IsCutShort room (x ∷ xs) ys
    step true e i =
        let s : sum (x ∷ xs) ≡ x + sum xs = sum-cons x xs in
        let low : x ≤ room = grind (arith, nat_tests) in
        let more : room - x < sum xs = omega arith in
        let below : fit (room - x) xs < length xs = (i more).short in
        record {
          same = rw e (ap (λ n. 1 + n) (i more).same);
          short = rw e (omega arith);
        }
    step false e i = record { same = rw e refl; short = rw e (omega arith) }

abbrev len_of : ℕ → List ℕ → Option ℕ
len_of size xs = piece_len (λ n. n) size xs

step_by : (size : ℕ) (xs : List ℕ) (k : ℕ) → len_of size xs ≡ Some k → segments_of size xs ≡ take k xs ∷ segments_of size (drop k xs)
step_by size xs k e = parts_step (len_of size) (piece_rule (λ n. n) size) xs k e

-- a list that is one piece, with ys behind it
whole_front : (size : ℕ) (xs ys : List ℕ) → len_of size (xs ++ ys) ≡ Some (length xs) → segments_of size (xs ++ ys) ≡ xs ∷ segments_of size ys
whole_front size xs ys e =
    step_by size (xs ++ ys) (length xs) e
    ∙ ap (λ p. p ∷ segments_of size (drop (length xs) (xs ++ ys))) (take-append_seam xs ys)
    ∙ ap (λ zs. xs ∷ segments_of size zs) (drop-append_seam xs ys)

pub segments-one : (size y : ℕ) → segments_of size (y ∷ []) ≡ (y ∷ []) ∷ []
segments-one size y = step_by size (y ∷ []) 1 (step (nat_le y size))
  where
    step : (b : Bool) → Some (max 1 (cond b (1 + 0) 0)) ≡ Some 1
    step true = refl
    step false = refl

some_piece : (size x : ℕ) (xs : List ℕ) → (p : List ℕ) × (ps : List (List ℕ)) × (segments_of size (x ∷ xs) ≡ p ∷ ps)
some_piece size x xs = (_, _, refl)

-- how the pieces of a list begin, with one more length y behind it
pub data Front (size : ℕ) (y : ℕ) (xs : List ℕ) : Type 0 where
  -- it is one piece, which fits or has one length
  whole : segments_of size xs ≡ xs ∷ [] → (sum xs + y ≤ size → segments_of size (xs ++ y ∷ []) ≡ (xs ++ y ∷ []) ∷ []) → (size < sum xs + y → segments_of size (xs ++ y ∷ []) ≡ xs ∷ (y ∷ []) ∷ []) → Front size y xs
  -- a piece is closed, and there is more
  closed : (p : List ℕ) (z : ℕ) (zs : List ℕ) → length (z ∷ zs) < length xs → segments_of size xs ≡ p ∷ segments_of size (z ∷ zs) → segments_of size (xs ++ y ∷ []) ≡ p ∷ segments_of size ((z ∷ zs) ++ y ∷ []) → Front size y xs

all_fits : (size y : ℕ) (x : ℕ) (xs : List ℕ) → sum (x ∷ xs) + y ≤ size → segments_of size ((x ∷ xs) ++ y ∷ []) ≡ ((x ∷ xs) ++ y ∷ []) ∷ []
all_fits size y x xs h =
    let all : List ℕ = (x ∷ xs) ++ y ∷ [] in
    let s : sum all ≡ sum (x ∷ xs) + sum (y ∷ []) = sum_by-append (λ n. n) (x ∷ xs) (y ∷ []) in
    let t : sum (y ∷ []) ≡ y + sum [] = sum-cons y [] in
    let f : fit size (all ++ []) ≡ length all + fit (size - sum all) [] = fit-within size (size - sum all) all [] (omega arith) in
    let g : fit size (all ++ []) ≡ length all = omega arith in
    ap (segments_of size) (sym (append-nil all))
    ∙ whole_front size all [] (ap (λ n. Some (max 1 n)) g ∙ ap Some (omega arith))

no_room : (size y : ℕ) (x : ℕ) (xs : List ℕ) → max 1 (fit size (x ∷ xs)) ≡ length (x ∷ xs) → size < sum (x ∷ xs) + y → fit size ((x ∷ xs) ++ y ∷ []) ≡ fit size (x ∷ xs)
no_room size y x xs e h = elim (cases_lt size (sum (x ∷ xs))) [
  | inl less ↦ (fit-beyond size (x ∷ xs) (y ∷ []) less).same
  | inr fits ↦
      let left : ℕ = size - sum (x ∷ xs) in
      let f : fit size ((x ∷ xs) ++ y ∷ []) ≡ length (x ∷ xs) + fit left (y ∷ []) = fit-within size left (x ∷ xs) (y ∷ []) (omega arith) in
      let g : fit size ((x ∷ xs) ++ []) ≡ length (x ∷ xs) + fit left [] = fit-within size left (x ∷ xs) [] (omega arith) in
      let no : nat_le y left ≡ false = grind (arith, nat_tests) in
      let none : fit left (y ∷ []) ≡ 0 = rw no refl in
      let same : fit size ((x ∷ xs) ++ []) ≡ fit size (x ∷ xs) = ap (fit size) (append-nil (x ∷ xs)) in
      omega arith
]

fit-whole : (size : ℕ) (xs : List ℕ) → sum xs ≤ size → fit size xs ≡ length xs
fit-whole size xs h =
    let f : fit size (xs ++ []) ≡ length xs + fit (size - sum xs) [] = fit-within size (size - sum xs) xs [] (omega arith) in
    ap (fit size) (sym (append-nil xs)) ∙ f ∙ omega arith

fit-le : (size : ℕ) (xs : List ℕ) → fit size xs ≤ length xs
fit-le size xs = elim (cases_lt size (sum xs)) [
  | inl less ↦ let h : fit size xs < length xs = (fit-beyond size xs [] less).short in omega arith
  | inr fits ↦ let h : fit size xs ≡ length xs = fit-whole size xs fits in omega arith
]

fit-short : (size : ℕ) (xs ys : List ℕ) → fit size xs < length xs → fit size (xs ++ ys) ≡ fit size xs
fit-short size xs ys h = elim (cases_lt size (sum xs)) [
  | inl less ↦ (fit-beyond size xs ys less).same
  | inr fits ↦ let f : fit size xs ≡ length xs = fit-whole size xs fits in absurd (omega arith)
]

not_empty : (xs : List ℕ) → 0 < length xs → (z : ℕ) × (zs : List ℕ) × (xs ≡ z ∷ zs)
not_empty [] h = absurd (omega arith)
not_empty (z ∷ zs) h = (z, zs, refl)

one_piece : (size x : ℕ) (xs : List ℕ) → max 1 (fit size (x ∷ xs)) ≡ length (x ∷ xs) → segments_of size (x ∷ xs) ≡ (x ∷ xs) ∷ []
one_piece size x xs e =
    ap (segments_of size) (sym (append-nil (x ∷ xs)))
    ∙ whole_front size (x ∷ xs) [] (ap (len_of size) (append-nil (x ∷ xs)) ∙ ap Some e)

cut_behind : (size y x : ℕ) (xs : List ℕ) → max 1 (fit size (x ∷ xs)) ≡ length (x ∷ xs) → size < sum (x ∷ xs) + y → segments_of size ((x ∷ xs) ++ y ∷ []) ≡ (x ∷ xs) ∷ (y ∷ []) ∷ []
cut_behind size y x xs e h =
    whole_front size (x ∷ xs) (y ∷ []) (ap (λ n. Some (max 1 n)) (no_room size y x xs e h) ∙ ap Some e)
    ∙ ap (λ ps. (x ∷ xs) ∷ ps) (segments-one size y)

closed_front : (size y x : ℕ) (xs : List ℕ) → max 1 (fit size (x ∷ xs)) < length (x ∷ xs) → Front size y (x ∷ xs)
closed_front size y x xs h =
    let k : ℕ = max 1 (fit size (x ∷ xs)) in
    let left : length (drop k (x ∷ xs)) ≡ length (x ∷ xs) - k = length-drop k (x ∷ xs) in
    let n : (z : ℕ) × (zs : List ℕ) × (drop k (x ∷ xs) ≡ z ∷ zs) = not_empty (drop k (x ∷ xs)) (omega arith) in
    let same : fit size ((x ∷ xs) ++ y ∷ []) ≡ fit size (x ∷ xs) = fit-short size (x ∷ xs) (y ∷ []) (omega arith) in
    let within : k ≤ length (x ∷ xs) = omega arith in
    closed (take k (x ∷ xs)) n.0 n.1
    (let e : length (n.0 ∷ n.1) ≡ length (drop k (x ∷ xs)) = ap length (sym n.2) in omega arith)
    (step_by size (x ∷ xs) k refl ∙ ap (λ zs. take k (x ∷ xs) ∷ segments_of size zs) n.2)
    (step_by size ((x ∷ xs) ++ y ∷ []) k (ap (λ n. Some (max 1 n)) same)
    ∙ ap (λ p. p ∷ segments_of size (drop k ((x ∷ xs) ++ y ∷ []))) (take-append-le k (x ∷ xs) (y ∷ []) within)
    ∙ ap (λ zs. take k (x ∷ xs) ∷ segments_of size zs) (drop-append-le k (x ∷ xs) (y ∷ []) within ∙ ap (λ zs. zs ++ y ∷ []) n.2))

front : (size y x : ℕ) (xs : List ℕ) → Front size y (x ∷ xs)
front size y x xs = elim (cases_lt (max 1 (fit size (x ∷ xs))) (length (x ∷ xs))) [
  | inl less ↦ closed_front size y x xs less
  | inr more ↦
      let most : fit size (x ∷ xs) ≤ length (x ∷ xs) = fit-le size (x ∷ xs) in
      let e : max 1 (fit size (x ∷ xs)) ≡ length (x ∷ xs) = omega arith in
      whole (one_piece size x xs e) (all_fits size y x xs) (cut_behind size y x xs e)
]

-- the last piece of more than one

last_sum-cons : (p : List ℕ) (size z : ℕ) (zs : List ℕ) → last_sum (p ∷ segments_of size (z ∷ zs)) ≡ last_sum (segments_of size (z ∷ zs))
last_sum-cons p size z zs = refl

in_last-cons : (p : List ℕ) (size z : ℕ) (zs : List ℕ) (y : ℕ) → in_last (p ∷ segments_of size (z ∷ zs)) y ≡ p ∷ in_last (segments_of size (z ∷ zs)) y
in_last-cons p size z zs y = refl

-- a length goes into the last piece where it fits
pub segments-same : (n size u y : ℕ) (xs : List ℕ) → length xs ≤ n → last_sum (segments_of size xs) ≡ Some u → u + y ≤ size → segments_of size (xs ++ y ∷ []) ≡ in_last (segments_of size xs) y
segments-same n size u y [] p e h = cc
segments-same zero size u y (x ∷ xs) p e h = absurd (omega arith)
segments-same (suc n) size u y (x ∷ xs) p e h = elim (front size y x xs) [
  | whole one fits cuts ↦
      let f : Some (sum (x ∷ xs)) ≡ Some u = sym (ap last_sum one) ∙ e in
      let s : sum (x ∷ xs) ≡ u = cc in
      fits (omega arith) ∙ sym (ap (λ ps. in_last ps y) one)
  | closed q z zs less one more ↦
      more
      ∙ ap (λ ps. q ∷ ps) (segments-same n size u y (z ∷ zs) (omega arith) (sym (last_sum-cons q size z zs) ∙ sym (ap last_sum one) ∙ e) h)
      ∙ sym (in_last-cons q size z zs y)
      ∙ sym (ap (λ ps. in_last ps y) one)
]

-- and else begins a piece of its own
pub segments-new : (n size u y : ℕ) (xs : List ℕ) → length xs ≤ n → last_sum (segments_of size xs) ≡ Some u → size < u + y → segments_of size (xs ++ y ∷ []) ≡ segments_of size xs ++ (y ∷ []) ∷ []
segments-new n size u y [] p e h = cc
segments-new zero size u y (x ∷ xs) p e h = absurd (omega arith)
segments-new (suc n) size u y (x ∷ xs) p e h = elim (front size y x xs) [
  | whole one fits cuts ↦
      let f : Some (sum (x ∷ xs)) ≡ Some u = sym (ap last_sum one) ∙ e in
      let s : sum (x ∷ xs) ≡ u = cc in
      cuts (omega arith) ∙ sym (ap (λ ps. ps ++ (y ∷ []) ∷ []) one)
  | closed q z zs less one more ↦
      more
      ∙ ap (λ ps. q ∷ ps) (segments-new n size u y (z ∷ zs) (omega arith) (sym (last_sum-cons q size z zs) ∙ sym (ap last_sum one) ∙ e) h)
      ∙ sym (ap (λ ps. ps ++ (y ∷ []) ∷ []) one)
]

-- the sum of the last piece, after either

pub last_sum-in_last : (ps : List (List ℕ)) (u y : ℕ) → last_sum ps ≡ Some u → last_sum (in_last ps y) ≡ Some (u + y)
last_sum-in_last [] u y e = cc
last_sum-in_last (p ∷ []) u y e =
    let s : sum p ≡ u = cc in
    let t : sum (p ++ y ∷ []) ≡ sum p + sum (y ∷ []) = sum_by-append (λ n. n) p (y ∷ []) in
    let v : sum (y ∷ []) ≡ y + sum [] = sum-cons y [] in
    ap Some (omega arith)
last_sum-in_last (p ∷ q ∷ []) u y e = last_sum-in_last (q ∷ []) u y e
last_sum-in_last (p ∷ q ∷ r ∷ ps) u y e = last_sum-in_last (q ∷ r ∷ ps) u y e

pub last_sum-new : (ps : List (List ℕ)) (y : ℕ) → last_sum (ps ++ (y ∷ []) ∷ []) ≡ Some y
last_sum-new [] y = let v : sum (y ∷ []) ≡ y + sum [] = sum-cons y [] in ap Some (omega arith)
last_sum-new (p ∷ []) y = last_sum-new [] y
last_sum-new (p ∷ q ∷ ps) y = last_sum-new (q ∷ ps) y

-- where there is no piece there is no length
pub no_segments : (size : ℕ) (xs : List ℕ) → last_sum (segments_of size xs) ≡ None → xs ≡ []
no_segments size [] e = refl
no_segments size (x ∷ xs) e =
    let some : (p : List ℕ) × (ps : List (List ℕ)) × (segments_of size (x ∷ xs) ≡ p ∷ ps) = some_piece size x xs in
    step some.0 some.1 (sym (ap last_sum some.2) ∙ e)
  where
    step : (p : List ℕ) (ps : List (List ℕ)) → last_sum (p ∷ ps) ≡ None → x ∷ xs ≡ []
    step p [] e = cc
    step p (q ∷ ps) e = step q ps e
