-- What a step of feeding a chunker does.
use Rattle.std.specs.Prelude.{◌≡◌, ℕ, ◌≤◌, List, [], ◌++◌, take, length, Option, Some, None, Vec}
use Rattle.std.specs.Option.{option_map_or}
use Rattle.vault_types.specs.Cuts.{Chunker, settled_len}
use Rattle.vault_types.specs.JobRanges.{IsCuttable}

-- the bytes of the chunk in hand, if there is one
abbrev pub held_bytes : {Z : Type 0} → Option (Vec ℕ Z) → List ℕ
held_bytes v = option_map_or (λ c. c.items) v []

-- a chunk is whole with so many bytes of the piece
pub record MakesChunk (old new : Chunker) (piece chunk : List ℕ) (taken : ℕ) : Type 0 where
  pub cuttable : IsCuttable old.cutting
  pub cutting : new.cutting ≡ old.cutting
  pub some : 1 ≤ taken
  pub within : taken ≤ length piece
  pub bytes : chunk ≡ old.held ++ take taken piece
  pub fixed : settled_len old.cutting chunk ≡ Some (length chunk)
  pub held : new.held ≡ []

-- the whole piece is held, and makes no chunk yet
pub record HoldsPiece (old new : Chunker) (piece : List ℕ) : Type 0 where
  pub cuttable : IsCuttable old.cutting
  pub cutting : new.cutting ≡ old.cutting
  pub held : new.held ≡ old.held ++ piece
  pub none : settled_len new.cutting new.held ≡ None
