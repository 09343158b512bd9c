use Rattle.std.proofs.Common.{◌≡◌, ◌≤◌, length}
use Rattle.std.specs.Prelude.{vec_len, vec_capacity}
use Rattle.store_model.specs.Room.{StepsWithin}
use Rattle.script_laws.proofs.Chained.{Chained}
use Rattle.script_runner.proofs.run.script_plain.Given as goal

abbrev pub invariant-loop-line : goal.invariant-loop-line
invariant-loop-line g l = record {
  chained : Chained (StepsWithin g.K.StateKeeper.shelf g.K.StateKeeper.keeps g.K.StateKeeper.strays l.limits g.P.Places.room) (record { keeper = l.fn.store; places = g.P.Places.told l.fn.places }) l.lines l.line-index l.answers.items
      (record { keeper = l.store; places = g.P.Places.told l.places });
  count : vec_len l.answers ≡ l.line-index;
  room : length l.lines ≤ vec_capacity l.answers;
  within : l.line-index ≤ length l.lines;
}
