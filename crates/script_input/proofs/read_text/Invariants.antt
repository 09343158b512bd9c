use Rattle.std.proofs.Common.{◌≤◌, length}
use Rattle.script_input.specs.Reading.{HasGiven}
use Rattle.script_input.proofs.read_text.Given as goal

abbrev pub invariant-loop-turn : goal.invariant-loop-turn
invariant-loop-turn g l = record {
  given : HasGiven (g.I.Source.told l.fn.input) (g.I.Source.told l.input) l.text.items;
  few : length l.text.items ≤ l.most;
  grown : l._turn ≤ length l.text.items;
}
