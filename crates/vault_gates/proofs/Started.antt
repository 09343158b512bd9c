-- Pieces of which some were given.
use Rattle.std.proofs.Common.{◌≡◌, ◌<◌, ◌≤◌, ◌+◌, ◌∷◌, ◌++◌, [], ℕ, zero, suc, List, Vec, length, get_or, take, drop, map, refl, sym, ◌∙◌, ap, subst, arith, append_assoc}
use Rattle.std.specs.Prelude.{All}
use Rattle.std.specs.declared.alloc.Global.{Global}
use Rattle.std.specs.List.{concat}
use Rattle.std.proofs.lemmas.List.{take-append-drop, drop-drop, length-drop, length-take-le}
use Rattle.std.proofs.Math.Seq.{drop-cons, take-append_seam}
use Rattle.vault_gates.specs.Streams.{first_piece, before_pieces, once_given}
use Rattle.vault_gates.specs.Pieces.{pieces_left, AreStarted}

abbrev Held : Type 0
Held = List (Vec ℕ Global)

-- nothing was given of pieces of which none is empty
pub all_started : (ps : Held) → All (λ p. 0 < length p.items) ps → AreStarted 0 ps
all_started [] all = tt
all_started (p ∷ ps) all = (all 0 p (omega arith), λ k d l. all (suc k) d (omega arith))

-- the pieces after the first
pub rest_started : (given : ℕ) (ps : Held) → AreStarted given ps → AreStarted 0 (drop 1 ps)
rest_started given [] started = tt
rest_started given (p ∷ ps) started = all_started ps started.1

pub next_started : (at given : ℕ) (ps : Held) → AreStarted given (drop at ps) → AreStarted 0 (drop (at + 1) ps)
next_started at given ps started = subst (AreStarted 0) (drop-drop 1 at ps) (rest_started given (drop at ps) started)

-- bytes before pieces
before_some : (bytes : List ℕ) (pieces : List (List ℕ)) → 0 < length bytes → before_pieces bytes pieces ≡ bytes ∷ pieces
before_some [] pieces some = absurd (omega arith)
before_some (b ∷ bs) pieces some = refl

-- part of a piece was given
part_given : (given n : ℕ) (p : Vec ℕ Global) (ps : Held) → given + n < length p.items → pieces_left (given + n) (p ∷ ps) ≡ once_given n (pieces_left given (p ∷ ps))
part_given given n p ps within =
    let rest : drop n (drop given p.items) ≡ drop (given + n) p.items = drop-drop n given p.items in
    let some : 0 < length (drop (given + n) p.items) = omega (arith, length-drop (given + n) p.items) in
    sym (before_some (drop (given + n) p.items) (map (λ q. q.items) ps) some) ∙ ap (λ (l : List ℕ). before_pieces l (map (λ q. q.items) ps)) (sym rest)

pub still_given : (at given n : ℕ) (ps : Held) (p : Vec ℕ Global) → at < length ps → p ≡ get_or ps at p → given + n < length p.items
    → pieces_left (given + n) (drop at ps) ≡ once_given n (pieces_left given (drop at ps))
still_given at given n ps p in_list is within =
    let front : drop at ps ≡ p ∷ drop (suc at) ps = drop-cons ps at p in_list ∙ ap (λ (q : Vec ℕ Global). q ∷ drop (suc at) ps) (sym is) in
    subst (λ (l : Held). pieces_left (given + n) l ≡ once_given n (pieces_left given l)) (sym front) (part_given given n p (drop (suc at) ps) within)

-- no more was given than the piece has
pub given_within : (at given n : ℕ) (ps : Held) (p : Vec ℕ Global) → at < length ps → p ≡ get_or ps at p → AreStarted given (drop at ps)
    → n ≤ length (first_piece (pieces_left given (drop at ps))) → given + n ≤ length p.items
given_within at given n ps p in_list is started few =
    let front : drop at ps ≡ p ∷ drop (suc at) ps = drop-cons ps at p in_list ∙ ap (λ (q : Vec ℕ Global). q ∷ drop (suc at) ps) (sym is) in
    let first : given < length p.items = (subst (AreStarted given) front started).0 in
    let left : n ≤ length (drop given p.items) = subst (λ (l : Held). n ≤ length (first_piece (pieces_left given l))) front few in
    omega (arith, length-drop given p.items)

-- what is left before and after
pub given_front : (n : ℕ) (pieces : List (List ℕ)) → concat pieces ≡ take n (first_piece pieces) ++ concat (once_given n pieces)
given_front zero [] = refl
given_front (suc n) [] = refl
given_front n (p ∷ ps) =
    let parts : p ≡ take n p ++ drop n p = sym (take-append-drop n p) in
    ap (λ (l : List ℕ). l ++ concat ps) parts ∙ append_assoc (take n p) (drop n p) (concat ps) ∙ ap (λ (l : List ℕ). take n p ++ l) (behind (drop n p) ps)
  where
    behind : (l : List ℕ) (ps : List (List ℕ)) → l ++ concat ps ≡ concat (before_pieces l ps)
    behind [] ps = refl
    behind (b ∷ bs) ps = refl

-- what was copied to the front of a buffer
pub copied_front : (n : ℕ) (piece copied rest : List ℕ) → n ≤ length piece → copied ≡ take n piece → take n (copied ++ rest) ≡ take n piece
copied_front n piece copied rest within is =
    let len : length copied ≡ n = ap length is ∙ length-take-le n piece within in
    ap (λ (k : ℕ). take k (copied ++ rest)) (sym len) ∙ take-append_seam copied rest ∙ is
