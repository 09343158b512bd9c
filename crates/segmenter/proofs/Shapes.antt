-- For callers: the cut of the lengths of some elements is the cut of the elements.
use Rattle.std.proofs.Common.{◌≡◌, ℕ, zero, suc, ◌-◌, ◌≤◌, List, [], ◌∷◌, ◌++◌, map, length, take, drop, refl, sym, ap, ◌∙◌, arith, append_assoc, length-drop, take-append-drop}
use Rattle.std.specs.Prelude.{max}
use Rattle.std.proofs.lemmas.List.{take-map, drop-map, map-append, length-map}
use Rattle.std.proofs.Math.Seq.{take-append_seam, drop-append_seam}
use Rattle.segmenter.specs.declared.Cut.{Cut}
use Rattle.segmenter.specs.declared.Cut.TheVariants.{Same, NewBefore}
use Rattle.vault_types.specs.Lists.{fitting, parts_up_to}
use Rattle.vault_types.specs.Pieces.{piece_len, pieces}
use Rattle.segmenter.specs.Segments.{segments_of, in_last, with_next}

abbrev joined : {X : Type 0} → List (List X) → List X
joined [] = []
joined (p ∷ ps) = p ++ joined ps

fitting-map : {X : Type 0} (w : X → ℕ) (room : ℕ) (xs : List X) → fitting (λ n. n) room (map w xs) ≡ fitting w room xs
fitting-map w room [] = refl
fitting-map w room (x ∷ xs) = rw (fitting-map w (room - w x) xs) refl

-- the pieces of the lengths are the lengths of the pieces
map-parts : {X : Type 0} (w : X → ℕ) (size n : ℕ) (xs : List X) → map (map w) (parts_up_to n (piece_len w size) xs) ≡ parts_up_to n (piece_len (λ n. n) size) (map w xs)
map-parts w size zero xs = refl
map-parts w size (suc n) [] = refl
map-parts w size (suc n) (x ∷ xs) =
    let k : ℕ = max 1 (fitting w size (x ∷ xs)) in
    let same : max 1 (fitting (λ n. n) size (map w (x ∷ xs))) ≡ k = ap (max 1) (fitting-map w size (x ∷ xs)) in
    let first : map w (take k (x ∷ xs)) ≡ take k (map w (x ∷ xs)) = sym (take-map w k (x ∷ xs)) in
    let others : map (map w) (parts_up_to n (piece_len w size) (drop k (x ∷ xs))) ≡ parts_up_to n (piece_len (λ n. n) size) (drop k (map w (x ∷ xs))) =
    map-parts w size n (drop k (x ∷ xs)) ∙ ap (parts_up_to n (piece_len (λ n. n) size)) (sym (drop-map w k (x ∷ xs))) in
    ap (λ p. p ∷ map (map w) (parts_up_to n (piece_len w size) (drop k (x ∷ xs)))) first
    ∙ ap (λ ps. take k (map w (x ∷ xs)) ∷ ps) others
    ∙ sym (ap (λ m. take m (map w (x ∷ xs)) ∷ parts_up_to n (piece_len (λ n. n) size) (drop m (map w (x ∷ xs)))) same)

map-pieces : {X : Type 0} (w : X → ℕ) (size : ℕ) (xs : List X) → map (map w) (pieces w size xs) ≡ segments_of size (map w xs)
map-pieces w size xs =
    map-parts w size (length xs) xs ∙ ap (λ n. parts_up_to n (piece_len (λ n. n) size) (map w xs)) (sym (length-map xs w))

joined-parts : {X : Type 0} (w : X → ℕ) (size n : ℕ) (xs : List X) → length xs ≤ n → joined (parts_up_to n (piece_len w size) xs) ≡ xs
joined-parts w size zero [] h = refl
joined-parts w size zero (x ∷ xs) h = absurd (omega arith)
joined-parts w size (suc n) [] h = refl
joined-parts w size (suc n) (x ∷ xs) h =
    let k : ℕ = max 1 (fitting w size (x ∷ xs)) in
    let left : length (drop k (x ∷ xs)) ≡ length (x ∷ xs) - k = length-drop k (x ∷ xs) in
    ap (λ ys. take k (x ∷ xs) ++ ys) (joined-parts w size n (drop k (x ∷ xs)) (omega arith)) ∙ take-append-drop k (x ∷ xs)

-- lists of lists that join to one list and whose parts are as long are equal
same_shape : {X : Type 0} (ps qs : List (List X)) → map length ps ≡ map length qs → joined ps ≡ joined qs → ps ≡ qs
same_shape [] [] e f = refl
same_shape [] (q ∷ qs) e f = cc
same_shape (p ∷ ps) [] e f = cc
same_shape (p ∷ ps) (q ∷ qs) e f =
    let len : length p ≡ length q = cc in
    let lens : map length ps ≡ map length qs = cc in
    let first : p ≡ q = sym (take-append_seam p (joined ps)) ∙ ap (take (length p)) f ∙ ap (λ n. take n (q ++ joined qs)) len ∙ take-append_seam q (joined qs) in
    let others : joined ps ≡ joined qs = sym (drop-append_seam p (joined ps)) ∙ ap (drop (length p)) f ∙ ap (λ n. drop n (q ++ joined qs)) len ∙ drop-append_seam q (joined qs) in
    ap (λ r. r ∷ ps) first ∙ ap (λ rs. q ∷ rs) (same_shape ps qs lens others)

lengths : {X : Type 0} (w : X → ℕ) (ps : List (List X)) → map length (map (map w) ps) ≡ map length ps
lengths w [] = refl
lengths w (p ∷ ps) = ap (λ n. n ∷ map length (map (map w) ps)) (length-map p w) ∙ ap (λ ns. length p ∷ ns) (lengths w ps)

map-in_last : {X : Type 0} (w : X → ℕ) (ps : List (List X)) (x : X) → map (map w) (in_last ps x) ≡ in_last (map (map w) ps) (w x)
map-in_last w [] x = refl
map-in_last w (p ∷ []) x = ap (λ q. q ∷ []) (map-append w p (x ∷ []))
map-in_last w (p ∷ q ∷ ps) x = ap (λ qs. map w p ∷ qs) (map-in_last w (q ∷ ps) x)

map-with_next : {X : Type 0} (w : X → ℕ) (cut : Cut) (ps : List (List X)) (x : X) → map (map w) (with_next cut ps x) ≡ with_next cut (map (map w) ps) (w x)
map-with_next w Same ps x = map-in_last w ps x
map-with_next w NewBefore ps x = map-append (map w) ps ((x ∷ []) ∷ [])

joined-in_last : {X : Type 0} (ps : List (List X)) (x : X) → joined (in_last ps x) ≡ joined ps ++ x ∷ []
joined-in_last [] x = refl
joined-in_last (p ∷ []) x = append_assoc p (x ∷ []) [] ∙ sym (append_assoc p [] (x ∷ []))
joined-in_last (p ∷ q ∷ ps) x = ap (λ ys. p ++ ys) (joined-in_last (q ∷ ps) x) ∙ sym (append_assoc p (joined (q ∷ ps)) (x ∷ []))

joined-new : {X : Type 0} (ps : List (List X)) (x : X) → joined (ps ++ (x ∷ []) ∷ []) ≡ joined ps ++ x ∷ []
joined-new [] x = refl
joined-new (p ∷ ps) x = ap (λ ys. p ++ ys) (joined-new ps x) ∙ sym (append_assoc p (joined ps) (x ∷ []))

joined-with_next : {X : Type 0} (cut : Cut) (ps : List (List X)) (x : X) → joined (with_next cut ps x) ≡ joined ps ++ x ∷ []
joined-with_next Same ps x = joined-in_last ps x
joined-with_next NewBefore ps x = joined-new ps x

pub pieces-next : {X : Type 0} (w : X → ℕ) (size : ℕ) (xs : List X) (x : X) (cut : Cut)
    → segments_of size (map w xs ++ w x ∷ []) ≡ with_next cut (segments_of size (map w xs)) (w x)
    → pieces w size (xs ++ x ∷ []) ≡ with_next cut (pieces w size xs) x
pieces-next {X} w size xs x cut e =
    let after : List (List X) = pieces w size (xs ++ x ∷ []) in
    let want : List (List X) = with_next cut (pieces w size xs) x in
    let same : map (map w) after ≡ map (map w) want =
    map-pieces w size (xs ++ x ∷ []) ∙ ap (segments_of size) (map-append w xs (x ∷ []))
    ∙ e ∙ ap (λ ps. with_next cut ps (w x)) (sym (map-pieces w size xs)) ∙ sym (map-with_next w cut (pieces w size xs) x) in
    same_shape after want
    (sym (lengths w after) ∙ ap (map length) same ∙ lengths w want)
    (joined-parts w size (length (xs ++ x ∷ [])) (xs ++ x ∷ []) (omega arith)
    ∙ sym (joined-with_next cut (pieces w size xs) x ∙ ap (λ ys. ys ++ x ∷ []) (joined-parts w size (length xs) xs (omega arith))))
