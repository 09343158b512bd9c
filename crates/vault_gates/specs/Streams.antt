-- What is seen of sources and sinks with a gate.
use Rattle.std.specs.Prelude.{ℕ, Bool, List, [], ◌∷◌, drop}

-- of a source: the pieces that are left; the number of the read that is guarded, how many reads
-- there were, and how many failed
pub record GatedGiving : Type 0 where
  pub pieces : List (List ℕ)
  pub nth : ℕ
  pub calls : ℕ
  pub faults : ℕ

-- the next piece; where none is left, no bytes
abbrev pub first_piece : List (List ℕ) → List ℕ
first_piece [] = []
first_piece (piece ∷ pieces) = piece

-- the pieces with these bytes before them, where there are any
abbrev pub before_pieces : List ℕ → List (List ℕ) → List (List ℕ)
before_pieces [] pieces = pieces
before_pieces (byte ∷ bytes) pieces = (byte ∷ bytes) ∷ pieces

-- the pieces once so many bytes of the next one were given: what it has left is the next one then
abbrev pub once_given : ℕ → List (List ℕ) → List (List ℕ)
once_given n [] = []
once_given n (piece ∷ pieces) = before_pieces (drop n piece) pieces

-- of a sink: what it has taken, for how many bytes it has room in all, whether the first write is
-- still to come and is guarded, and how many writes failed
pub record GatedTaking : Type 0 where
  pub taken : List ℕ
  pub room : ℕ
  pub gated : Bool
  pub faults : ℕ
