use Rattle.std.proofs.Common.{sym, subst, ap, ◌∙◌}
use Rattle.keeper_catalog.specs.View.{View, Keeps}
use Rattle.keeper_core.specs.Stands.{job_of}
use Rattle.keeper_core.specs.Commits.{halt_fault}
use Rattle.keeper_core.proofs.Commits.{core_behind, done, refused, from_view}
use Rattle.keeper_core.proofs.keeper.Keeper.commit.Goals as goal

pub invariant_of-self : goal.invariant_of-self
invariant_of-self g c =
    let can = c.requires.can in
    let keeps = subst (λ (v : View). Keeps v can.0) (sym c.self.view_is) can.2 in
    let commits = rw c.in-Ok.is at c.commit_recipe-committed.ensures in
    (core_behind _ _ _ _ (done _ _ (ap job_of c.in-Lent.is) c.args.recipe _ _ _ _ (c.requires.lent ∙ ap (λ (v : View). v.index) (sym c.self.view_is)) _ commits) can.0 can.1 keeps can.3, c.commit_recipe-committed.ensures.room)

pub returns-in-Ok : goal.returns-in-Ok
returns-in-Ok g c =
    let commits = rw c.in-Ok.is at c.commit_recipe-committed.ensures in
    from_view _ _ _ _ _ c.self.view_is (done _ _ (ap job_of c.in-Lent.is) c.args.recipe _ _ _ _ (c.requires.lent ∙ ap (λ (v : View). v.index) (sym c.self.view_is)) _ commits)

pub invariant_of-self-in-Err : goal.invariant_of-self-in-Err
invariant_of-self-in-Err g c =
    let can = c.requires.can in
    let keeps = subst (λ (v : View). Keeps v can.0) (sym c.self.view_is) can.2 in
    let commits = rw c.in-Err.is at c.commit_recipe-committed.ensures in
    let fault = c.halt_fault-fault.ensures ∙ ap (λ n. halt_fault n c.in-Err.halt) c.faults.ensures in
    (core_behind _ _ _ _ (refused _ _ (ap job_of c.in-Lent.is) c.args.recipe _ _ _ _ (c.requires.lent ∙ ap (λ (v : View). v.index) (sym c.self.view_is)) c.in-Err.halt commits _ fault _ c.due_after-self-inside.ensures) can.0 can.1 keeps can.3, c.commit_recipe-committed.ensures.room)

pub returns-in-Err : goal.returns-in-Err
returns-in-Err g c =
    let commits = rw c.in-Err.is at c.commit_recipe-committed.ensures in
    let fault = c.halt_fault-fault.ensures ∙ ap (λ n. halt_fault n c.in-Err.halt) c.faults.ensures in
    from_view _ _ _ _ _ c.self.view_is (refused _ _ (ap job_of c.in-Lent.is) c.args.recipe _ _ _ _ (c.requires.lent ∙ ap (λ (v : View). v.index) (sym c.self.view_is)) c.in-Err.halt commits _ fault _ c.due_after-self-inside.ensures)
