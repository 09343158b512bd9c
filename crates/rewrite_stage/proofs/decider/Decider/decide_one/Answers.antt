use Rattle.std.proofs.Common.{◌∙◌, ap, cond, true}
use Rattle.std.specs.List.{list_any}
use Rattle.vault_types.specs.Names.{same_fp}
use Rattle.rewrite_stage.proofs.Rule.{decided-write}
use Rattle.rewrite_stage.proofs.decider.Decider.decide_one.Goals as goal

pub returns-in_ok-insert-in-None-clause-decided : goal.returns-in_ok-insert-in-None-clause-decided
returns-in_ok-insert-in-None-clause-decided c = λ r places h.
    decided-write c.args.self.now _ r places c.args.fp
    (ap (λ d. d.rules) c.self.view_is)
    (λ f. c.in_ok-insert-in-None.ensures.updates.0 f ∙ ap (λ d. cond (same_fp c.args.fp f) true (list_any (same_fp f) d.written)) c.self.view_is) h
