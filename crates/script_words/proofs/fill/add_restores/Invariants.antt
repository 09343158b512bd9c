use Rattle.std.proofs.Common.{◌≡◌, ◌++◌, map, codes, decimal}
use Rattle.std.specs.List.{range_with_len}
use Rattle.vault_types.specs.declared.Line.TheVariants as line
use Rattle.script_words.proofs.fill.add_restores.Given as goal

abbrev pub invariant-loop-earlier : goal.invariant-loop-earlier
invariant-loop-earlier l = l.lines.items ≡ l.fn.lines.items ++ map (λ v. line.Restore 0 v (codes "out-" ++ decimal v) 16) (range_with_len 1 l.earlier)
