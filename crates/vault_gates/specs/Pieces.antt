-- Pieces of which some were given.
use Rattle.std.specs.Prelude.{◌<◌, ℕ, List, [], ◌∷◌, Vec, map, drop, length, All}
use Rattle.std.specs.declared.alloc.Global.{Global}

-- the pieces without so many bytes of the first
abbrev pub pieces_left : ℕ → List (Vec ℕ Global) → List (List ℕ)
pieces_left given [] = []
pieces_left given (p ∷ ps) = drop given p.items ∷ map (λ q. q.items) ps

-- the first has more bytes than those, and no other is empty
abbrev pub AreStarted : ℕ → List (Vec ℕ Global) → Type 0
AreStarted given [] = Unit {0}
AreStarted given (p ∷ ps) = (given < length p.items) × All (λ q. 0 < length q.items) ps
