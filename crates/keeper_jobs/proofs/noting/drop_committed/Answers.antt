use Rattle.std.proofs.Common.{rules, not}
use Rattle.std.proofs.lemmas.Fn.{filter_same}
use Rattle.vault_types.specs.declared.Name.{Name}
use Rattle.keeper_jobs.specs.Jobs.{is_committed}
use Rattle.keeper_jobs.proofs.noting.drop_committed.Goals as goal

pub returns-clause-left : goal.returns-clause-left
returns-clause-left c = filter_same _ (λ (n : Name). not (is_committed c.args.recipe c.args.first c.args.next n)) _ (λ x b g k. search rules) c.args.strays.now.items _ c.retain.ensures.filtered
