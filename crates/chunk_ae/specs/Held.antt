-- What a step of feeding does.
use Rattle.std.specs.Prelude.{ℕ, List}
use Rattle.vault_types.specs.Cuts.{Chunker}
use Rattle.vault_types.specs.Feeds.{MakesChunk, HoldsPiece}
use Rattle.chunk_ae.specs.declared.step.Feeding.{Feeding}
use Rattle.chunk_ae.specs.declared.step.Feeding.TheVariants.{Whole, Held}

abbrev pub IsFilled : Chunker → Chunker → List ℕ → Feeding → Type 0
IsFilled old new piece (Whole chunk taken) = MakesChunk old new piece chunk.items taken
IsFilled old new piece Held = HoldsPiece old new piece
