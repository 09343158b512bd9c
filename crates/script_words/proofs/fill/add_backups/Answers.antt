use Rattle.std.proofs.Common.{◌++◌, codes, decimal}
use Rattle.vault_types.specs.declared.Line.TheVariants as line
use Rattle.vault_types.specs.Generator.{fill_config}
use Rattle.script_words.proofs.Fills.{made_more}
use Rattle.script_words.proofs.fill.add_backups.Goals as goal

pub loop-earlier-preserved : goal.loop-earlier-preserved
loop-earlier-preserved c =
    made_more (λ v. line.Backup 0 (codes "gen-" ++ decimal v) fill_config) _ _ _ _ c.loop-earlier.earlier c.loop-earlier.invariant c.in_ok-backup_of.ensures c.in_ok-push.ensures.items
