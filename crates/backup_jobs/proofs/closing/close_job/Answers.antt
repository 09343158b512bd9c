use Rattle.std.proofs.Common.{sym, ◌∙◌, subst}
use Rattle.std.specs.Prelude.{Result, IfOk, IfErr}
use Rattle.vault_types.specs.declared.Fault.{Fault}
use Rattle.vault_types.specs.declared.Answer.{Answer}
use Rattle.vault_types.specs.declared.Recipe.{Recipe}
use Rattle.backup_jobs.specs.Going.{IsStopped, HasConcluded, made, job_core, job_with}
use Rattle.backup_jobs.proofs.Closes.{in_job_of, stopped_backs_up, commit_backs_up, refused_backs_up}
use Rattle.backup_jobs.proofs.closing.close_job.Goals as goal

pub abort-requires-clause-lent : goal.abort-requires-clause-lent
abort-requires-clause-lent g c =
    let b = c.requires.0 in
    let to = c.requires.1 in
    let stopped : IsStopped b c.args.keeper.now to c.in-Err.fault = subst (λ (r : Result (Recipe × Answer) Fault). IfErr r (IsStopped b c.args.keeper.now to)) c.in-Err.is (c.conclude_all.ensures.err b to c.requires.2 c.requires.4) in
    c.requires.3 ∙ sym stopped.underway.lent

pub abort-requires-clause-in_job : goal.abort-requires-clause-in_job
abort-requires-clause-in_job g c =
    let b = c.requires.0 in
    let to = c.requires.1 in
    let stopped : IsStopped b c.args.keeper.now to c.in-Err.fault = subst (λ (r : Result (Recipe × Answer) Fault). IfErr r (IsStopped b c.args.keeper.now to)) c.in-Err.is (c.conclude_all.ensures.err b to c.requires.2 c.requires.4) in
    in_job_of b _ _ stopped.underway

pub returns-in-Err : goal.returns-in-Err
returns-in-Err g c b to j same over =
    let stopped : IsStopped b c.args.keeper.now to c.in-Err.fault = subst (λ (r : Result (Recipe × Answer) Fault). IfErr r (IsStopped b c.args.keeper.now to)) c.in-Err.is (c.conclude_all.ensures.err b to j over) in
    stopped_backs_up b _ _ _ _ stopped c.abort.ensures.aborts c.abort.ensures.shelf c.abort.ensures.same.0 c.abort.ensures.same.1 c.abort.ensures.pins

pub commit-requires-clause-lent : goal.commit-requires-clause-lent
commit-requires-clause-lent g c =
    let b = c.requires.0 in
    let to = c.requires.1 in
    let concluded : HasConcluded b c.args.keeper.now to (c.in-Ok.recipe, c.in-Ok.answer) = subst (λ (r : Result (Recipe × Answer) Fault). IfOk r (HasConcluded b c.args.keeper.now to)) c.in-Ok.is (c.conclude_all.ensures.ok b to c.requires.2 c.requires.4) in
    c.requires.3 ∙ sym concluded.underway.lent

pub commit-requires-clause-can : goal.commit-requires-clause-can
commit-requires-clause-can g c =
    let b = c.requires.0 in
    let to = c.requires.1 in
    let concluded : HasConcluded b c.args.keeper.now to (c.in-Ok.recipe, c.in-Ok.answer) = subst (λ (r : Result (Recipe × Answer) Fault). IfOk r (HasConcluded b c.args.keeper.now to)) c.in-Ok.is (c.conclude_all.ensures.ok b to c.requires.2 c.requires.4) in
    let K = concluded.underway.core.0 in
    let kept = concluded.underway.core.1 in
    (job_core b.set (made b concluded.read).containers c.args.keeper.now K, job_with b.set (made b concluded.read).containers, concluded.underway.keeps K kept, concluded.ready.can K kept)

pub returns-in_err-commit-in-Ok : goal.returns-in_err-commit-in-Ok
returns-in_err-commit-in-Ok g c b to j same over =
    let concluded : HasConcluded b c.args.keeper.now to (c.in-Ok.recipe, c.in-Ok.answer) = subst (λ (r : Result (Recipe × Answer) Fault). IfOk r (HasConcluded b c.args.keeper.now to)) c.in-Ok.is (c.conclude_all.ensures.ok b to j over) in
    refused_backs_up b _ c.commit.new.self _ _ concluded c.commit.ensures.any_moment c.commit.ensures.gets c.commit.ensures.causes.later c.commit.ensures.pins c.commit.ensures.tells c.commit.ensures.recipes c.in_err-commit-in-Ok.field-0.0 c.in_err-commit-in-Ok.ensures.causes.each c.in_err-commit-in-Ok.ensures.strays c.in_err-commit-in-Ok.ensures.err c.from_residual.result c.from_residual.ensures.1

pub returns-in_ok-commit-in-Ok : goal.returns-in_ok-commit-in-Ok
returns-in_ok-commit-in-Ok g c b to j same over =
    let concluded : HasConcluded b c.args.keeper.now to (c.in-Ok.recipe, c.in-Ok.answer) = subst (λ (r : Result (Recipe × Answer) Fault). IfOk r (HasConcluded b c.args.keeper.now to)) c.in-Ok.is (c.conclude_all.ensures.ok b to j over) in
    commit_backs_up b _ c.commit.new.self _ _ concluded c.commit.ensures.any_moment c.commit.ensures.gets c.commit.ensures.causes.later c.commit.ensures.pins c.commit.ensures.tells c.commit.ensures.recipes c.in_ok-commit-in-Ok.ensures.ok c.in_ok-commit-in-Ok.ensures.acknowledged c.in_ok-commit-in-Ok.ensures.left c.in_ok-commit-in-Ok.ensures.spelled
