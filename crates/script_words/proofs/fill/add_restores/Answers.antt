use Rattle.std.proofs.Common.{◌++◌, codes, decimal}
use Rattle.vault_types.specs.declared.Line.TheVariants as line
use Rattle.script_words.proofs.Fills.{made_more}
use Rattle.script_words.proofs.fill.add_restores.Goals as goal

pub loop-earlier-preserved : goal.loop-earlier-preserved
loop-earlier-preserved c =
    made_more (λ v. line.Restore 0 v (codes "out-" ++ decimal v) 16) _ _ _ _ c.loop-earlier.earlier c.loop-earlier.invariant c.in_ok-restore_of.ensures c.in_ok-push.ensures.items
