use Rattle.std.proofs.Common.{◌≡◌, ◌++◌, List}
use Rattle.std.specs.Map.{values_of}
use Rattle.keeper_open.specs.declared.notes.RowPlace.{RowPlace}
use Rattle.keeper_open.proofs.Noting.{IsLeastOf}
use Rattle.keeper_open.proofs.notes.least.Given as goal

abbrev pub invariant-loop-place : goal.invariant-loop-place
invariant-loop-place l = (done : List RowPlace) × (done ++ l.place-iterator ≡ values_of l.places.entries) × IsLeastOf l.best done
