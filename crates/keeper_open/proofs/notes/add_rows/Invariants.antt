use Rattle.std.proofs.Common.{◌++◌, List, take}
use Rattle.keeper_open.specs.declared.notes.Chunk.{Chunk}
use Rattle.keeper_open.specs.declared.notes.RowPlace.{RowPlace}
use Rattle.keeper_open.specs.Reading.{placed_rows, AreFirst, ArePlacesBefore}
use Rattle.keeper_open.proofs.notes.add_rows.Given as goal

abbrev pub invariant-loop-at : goal.invariant-loop-at
invariant-loop-at l = (before : List (Chunk × RowPlace)) → AreFirst l.initial.places.entries before → ArePlacesBefore before (record { number = l.number; row = 0 }) → AreFirst l.places.entries (before ++ placed_rows l.number 0 (take l.at l.rows))
