-- What a chunker by size holds, and what a step of feeding does.
use Rattle.std.specs.Prelude.{ℕ, ◌<◌, ◌≤◌, List, length}
use Rattle.vault_types.specs.Cuts.{Chunker}
use Rattle.vault_types.specs.Feeds.{MakesChunk, HoldsPiece}
use Rattle.chunk_fixed.specs.declared.step.Feeding.{Feeding}
use Rattle.chunk_fixed.specs.declared.step.Feeding.TheVariants.{Whole, Held}

-- the size is a chunk's, and a chunk that is held is not whole
pub record IsHeld (size : ℕ) (held : List ℕ) : Type 0 where
  pub some : 1 ≤ size
  pub most : size ≤ 65536
  pub less : length held < size

abbrev pub IsFilled : Chunker → Chunker → List ℕ → Feeding → Type 0
IsFilled old new piece (Whole chunk taken) = MakesChunk old new piece chunk.items taken
IsFilled old new piece Held = HoldsPiece old new piece
