use Rattle.std.proofs.Common.{subst, ◌≢◌, All}
use Rattle.vault_types.specs.declared.Step.TheVariants.{Serve}
use Rattle.restore_assembler.specs.Copying.{Copying}
use Rattle.restore_assembler.proofs.Copied.{none_late, all_served}
use Rattle.restore_assembler.proofs.Copier.wants.Goals as goal

pub returns-clause-served : goal.returns-clause-served
returns-clause-served c = λ none.
    let p = c.self.inside.progress in
    subst (λ (s : Copying). All (λ step. step ≢ Serve) s.steps) c.self.view_is
    (all_served p c.self.invariant.0 (none_late p c.wanted.result c.self.invariant.1 c.wanted.ensures.next none))
