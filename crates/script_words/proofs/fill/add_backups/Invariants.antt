use Rattle.std.proofs.Common.{◌≡◌, ◌++◌, map, codes, decimal}
use Rattle.std.specs.List.{range_with_len}
use Rattle.vault_types.specs.declared.Line.TheVariants as line
use Rattle.vault_types.specs.Generator.{fill_config}
use Rattle.script_words.proofs.fill.add_backups.Given as goal

abbrev pub invariant-loop-earlier : goal.invariant-loop-earlier
invariant-loop-earlier l = l.lines.items ≡ l.fn.lines.items ++ map (λ v. line.Backup 0 (codes "gen-" ++ decimal v) fill_config) (range_with_len 1 l.earlier)
