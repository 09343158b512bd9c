use Rattle.std.proofs.Common.{◌≡◌, ◌≤◌, ◌-◌, ◌++◌, map, drop, length}
use Rattle.vault_types.specs.Words as spec
use Rattle.script_words.proofs.script_line.split_at_byte.Given as goal

abbrev pub invariant-loop-parts : goal.invariant-loop-parts
invariant-loop-parts l = record {
  within : l.start ≤ length l.text;
  so_far : spec.split_at_byte l.byte l.text ≡ map (λ p. p.now) l.parts.items ++ spec.split_at_byte l.byte (drop l.start l.text);
}

abbrev pub decreases-loop-parts : goal.decreases-loop-parts
decreases-loop-parts l = length l.text - l.start
