use Rattle.std.proofs.Common.{◌≡◌, take}
use Rattle.std.specs.Map.{lookup}
use Rattle.keeper_open.specs.declared.notes.Chunk.{Chunk}
use Rattle.keeper_open.specs.Reading.{same_chunk, has_chunk, left_of}
use Rattle.keeper_open.proofs.notes.strike.Given as goal

abbrev pub invariant-loop-row : goal.invariant-loop-row
invariant-loop-row l = (k : Chunk) → lookup (same_chunk k) l.places.entries ≡ left_of (has_chunk l.id (take l.row-index l.rows) k) (lookup (same_chunk k) l.initial.places.entries)
