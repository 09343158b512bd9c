use Rattle.std.proofs.Common.{◌≡◌, ◌+◌, drop, nat_eq}
use Rattle.std.specs.List.{position_or_len}
use Rattle.script_words.proofs.reader.position_of.Given as goal

abbrev pub invariant-loop-i : goal.invariant-loop-i
invariant-loop-i l = position_or_len (nat_eq l.byte) l.text ≡ l.i + position_or_len (nat_eq l.byte) (drop l.i l.text)
