use Rattle.std.proofs.Common.{◌≡◌, take}
use Rattle.std.specs.Prelude.{filter, not}
use Rattle.keeper_open.specs.Reading.{needs}
use Rattle.keeper_open.proofs.room.strays_of.Given as goal

abbrev pub invariant-loop-name : goal.invariant-loop-name
invariant-loop-name l = l.strays.items ≡ filter (λ n. not (needs l.sets l.tables.entries n)) (take l.name-index l.names)
