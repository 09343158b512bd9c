-- How what is written is packed: an element that fits joins the piece that is held, and another closes it.
use Rattle.std.proofs.Common.{◌≡◌, ◌⊎◌, inl, inr, ℕ, ◌+◌, ◌-◌, ◌≤◌, ◌<◌, Bool, true, false, List, [], ◌∷◌, ◌++◌, length, drop, refl, sym, ap, ◌∙◌, arith, append_assoc, append-nil, Some}
use Rattle.std.specs.Prelude.{sum_by, nat_le, max}
use Rattle.std.proofs.lemmas.Bool.Decides.{nat_tests}
use Rattle.std.proofs.lemmas.List.Sums.{sum_by-append, sum_by-cons}
use Rattle.std.proofs.Math.Seq.{take-length}
use Rattle.vault_types.specs.Names.{NamedChunk}
use Rattle.vault_types.specs.Lists.{fitting}
use Rattle.vault_types.specs.Pieces.{piece_len, pieces}
use Rattle.vault_types.proofs.PartsLemmas.{parts_step}
use Rattle.vault_types.proofs.PieceLemmas.{weight_of, piece_rule, pieces-closed, pieces-large}
use Rattle.container_fill.specs.Filling.{size_of, ArePacked}

weight-sum : (xs : List NamedChunk) → sum_by size_of xs ≡ weight_of size_of xs
weight-sum [] = refl
weight-sum (x ∷ xs) = sum_by-cons size_of x xs ∙ ap (λ n. size_of x + n) (weight-sum xs)

pub packed-none : (capacity : ℕ) → ArePacked capacity [] [] []
packed-none capacity = record { split = λ more. refl; fits = inl (omega arith) }

pub packed-fits : (capacity : ℕ) (written : List NamedChunk) (full : List (List NamedChunk)) (held : List NamedChunk) (c : NamedChunk)
    → ArePacked capacity written full held → (1 ≤ length held → sum_by size_of held + size_of c ≤ capacity)
    → ArePacked capacity (written ++ c ∷ []) full (held ++ c ∷ [])
packed-fits capacity written full held c h room = record {
  split = λ more.
      ap (pieces size_of capacity) (append_assoc written (c ∷ []) more)
      ∙ h.split (c ∷ more)
      ∙ ap (λ xs. full ++ pieces size_of capacity xs) (sym (append_assoc held (c ∷ []) more));
  fits = fit held room;
}
  where
    fit : (held : List NamedChunk) → (1 ≤ length held → sum_by size_of held + size_of c ≤ capacity) → (length (held ++ c ∷ []) ≤ 1) ⊎ (sum_by size_of (held ++ c ∷ []) ≤ capacity)
    fit [] room = inl (omega arith)
    fit (o ∷ os) room =
        let s : sum_by size_of ((o ∷ os) ++ c ∷ []) ≡ sum_by size_of (o ∷ os) + (0 + size_of c) = sum_by-append size_of (o ∷ os) (c ∷ []) in
        let r : sum_by size_of (o ∷ os) + size_of c ≤ capacity = room (omega arith) in
        inr (omega arith)

closes : (capacity : ℕ) (o : NamedChunk) (os : List NamedChunk) (c : NamedChunk) (more : List NamedChunk)
    → (length (o ∷ os) ≤ 1) ⊎ (sum_by size_of (o ∷ os) ≤ capacity) → capacity < sum_by size_of (o ∷ os) + size_of c
    → pieces size_of capacity ((o ∷ os) ++ c ∷ more) ≡ (o ∷ os) ∷ pieces size_of capacity (c ∷ more)
closes capacity o os c more (inr fits) over =
    let w : sum_by size_of (o ∷ os) ≡ weight_of size_of (o ∷ os) = weight-sum (o ∷ os) in
    pieces-closed size_of capacity o os c more (omega arith) (omega arith)
closes capacity o (p ∷ ps) c more (inl few) over = absurd (omega arith)
closes capacity o [] c more (inl few) over =
    let w : sum_by size_of (o ∷ []) ≡ weight_of size_of (o ∷ []) = weight-sum (o ∷ []) in
    step (nat_le (size_of o) capacity) refl
  where
    step : (b : Bool) → nat_le (size_of o) capacity ≡ b → pieces size_of capacity ((o ∷ []) ++ c ∷ more) ≡ (o ∷ []) ∷ pieces size_of capacity (c ∷ more)
    step true e =
        let fits : size_of o ≤ capacity = grind (arith, nat_tests) in
        let w : sum_by size_of (o ∷ []) ≡ weight_of size_of (o ∷ []) = weight-sum (o ∷ []) in
        pieces-closed size_of capacity o [] c more (omega arith) (omega arith)
    step false e =
        let large : capacity < size_of o = grind (arith, nat_tests) in
        pieces-large size_of capacity o (c ∷ more) large

pub packed-over : (capacity : ℕ) (written : List NamedChunk) (full : List (List NamedChunk)) (o : NamedChunk) (os : List NamedChunk) (c : NamedChunk)
    → ArePacked capacity written full (o ∷ os) → capacity < sum_by size_of (o ∷ os) + size_of c
    → ArePacked capacity (written ++ c ∷ []) (full ++ (o ∷ os) ∷ []) (c ∷ [])
packed-over capacity written full o os c h over = record {
  split = λ more.
      ap (pieces size_of capacity) (append_assoc written (c ∷ []) more)
      ∙ h.split (c ∷ more)
      ∙ ap (λ ps. full ++ ps) (closes capacity o os c more h.fits over)
      ∙ sym (append_assoc full ((o ∷ os) ∷ []) (pieces size_of capacity (c ∷ more)));
  fits = inl (omega arith);
}

-- a piece, if there is one
abbrev pub only : List NamedChunk → List (List NamedChunk)
only [] = []
only (c ∷ cs) = (c ∷ cs) ∷ []

fitting-all : (room : ℕ) (xs : List NamedChunk) → weight_of size_of xs ≤ room → fitting size_of room xs ≡ length xs
fitting-all room [] p = refl
fitting-all room (x ∷ xs) p =
    let yes : nat_le (size_of x) room ≡ true = grind (arith, nat_tests) in
    rw yes (let h : fitting size_of (room - size_of x) xs ≡ length xs = fitting-all (room - size_of x) xs (omega arith) in omega arith)

drop-length : (xs : List NamedChunk) → drop (length xs) xs ≡ []
drop-length [] = refl
drop-length (x ∷ xs) = drop-length xs

one_whole : (capacity : ℕ) (o : NamedChunk) (os : List NamedChunk) → weight_of size_of (o ∷ os) ≤ capacity → pieces size_of capacity (o ∷ os) ≡ (o ∷ os) ∷ []
one_whole capacity o os p =
    let fit : fitting size_of capacity (o ∷ os) ≡ length (o ∷ os) = fitting-all capacity (o ∷ os) p in
    let long : max 1 (fitting size_of capacity (o ∷ os)) ≡ length (o ∷ os) = omega arith in
    parts_step (piece_len size_of capacity) (piece_rule size_of capacity) (o ∷ os) (length (o ∷ os)) (ap Some long)
    ∙ ap (λ ys. ys ∷ pieces size_of capacity (drop (length (o ∷ os)) (o ∷ os))) (take-length (o ∷ os))
    ∙ ap (λ ys. (o ∷ os) ∷ pieces size_of capacity ys) (drop-length (o ∷ os))

one_piece : (capacity : ℕ) (held : List NamedChunk) → (length held ≤ 1) ⊎ (sum_by size_of held ≤ capacity) → pieces size_of capacity held ≡ only held
one_piece capacity [] fits = refl
one_piece capacity (o ∷ os) (inr fits) = one_whole capacity o os (let w : sum_by size_of (o ∷ os) ≡ weight_of size_of (o ∷ os) = weight-sum (o ∷ os) in omega arith)
one_piece capacity (o ∷ p ∷ ps) (inl few) = absurd (omega arith)
one_piece capacity (o ∷ []) (inl few) = step (nat_le (size_of o) capacity) refl
  where
    step : (b : Bool) → nat_le (size_of o) capacity ≡ b → pieces size_of capacity (o ∷ []) ≡ (o ∷ []) ∷ []
    step true e =
        let fits : size_of o ≤ capacity = grind (arith, nat_tests) in
        one_whole capacity o [] (omega arith)
    step false e =
        let large : capacity < size_of o = grind (arith, nat_tests) in
        pieces-large size_of capacity o [] large

pub packed-end : (capacity : ℕ) (written : List NamedChunk) (full : List (List NamedChunk)) (held : List NamedChunk)
    → ArePacked capacity written full held → pieces size_of capacity written ≡ full ++ only held
packed-end capacity written full held h =
    ap (pieces size_of capacity) (sym (append-nil written))
    ∙ h.split []
    ∙ ap (λ xs. full ++ pieces size_of capacity xs) (append-nil held)
    ∙ ap (λ ps. full ++ ps) (one_piece capacity held h.fits)
