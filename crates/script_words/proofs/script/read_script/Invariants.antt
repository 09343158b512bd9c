use Rattle.std.proofs.Common.{◌≤◌, ◌+◌, ◌-◌, length}
use Rattle.script_words.specs.Names.{HasNames}
use Rattle.script_words.proofs.Scripts.{sources, outputs, ReadSoFar}
use Rattle.script_words.proofs.script.read_script.Given as goal

abbrev pub invariant-loop-start : goal.invariant-loop-start
invariant-loop-start l = record {
  within : l.start ≤ length l.text + 1;
  counted : l.number ≤ l.start;
  names : HasNames l.names (sources l.lines.items) (outputs l.lines.items);
  so_far : ReadSoFar l.text l.start l.number l.lines.items;
}

abbrev pub decreases-loop-start : goal.decreases-loop-start
decreases-loop-start l = length l.text - l.start
