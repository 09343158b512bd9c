use Rattle.std.proofs.Common.{◌≡◌, ◌≤◌, length}
use Rattle.std.specs.Prelude.{vec_len, vec_capacity}
use Rattle.store_model.specs.Room.{StepsWithin}
use Rattle.keeper_catalog.specs.View.{View}
use Rattle.keeper_core.specs.Keeping.{IsStateOf, IsKnownStray}
use Rattle.script_laws.proofs.Chained.{Chained}
use Rattle.piped_script.proofs.run.script_piped.Given as goal

abbrev pub invariant-loop-line : goal.invariant-loop-line
invariant-loop-line g l = record {
  chained : Chained (StepsWithin (λ (k : View). k.told) IsStateOf IsKnownStray l.limits g.P.Places.room) (record { keeper = l.fn.store; places = g.P.Places.told l.fn.places }) l.lines l.line-index l.answers.items
      (record { keeper = l.store; places = g.P.Places.told l.places });
  count : vec_len l.answers ≡ l.line-index;
  room : length l.lines ≤ vec_capacity l.answers;
  within : l.line-index ≤ length l.lines;
}
