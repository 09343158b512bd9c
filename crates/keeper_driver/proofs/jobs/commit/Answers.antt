use Rattle.std.proofs.Common.{refl}
use Rattle.keeper_driver.proofs.Drafting.{can_commit}
use Rattle.keeper_driver.proofs.Ending.{idle}
use Rattle.keeper_driver.proofs.jobs.commit.Goals as goal

pub commit-requires-clause-lent : goal.commit-requires-clause-lent
commit-requires-clause-lent g c = c.requires.opened.lent

pub commit-requires-clause-can : goal.commit-requires-clause-can
commit-requires-clause-can g c =
    let says = c.in-Ok.ensures.says in
    (c.requires.opened.core, c.requires.opened.job, c.requires.opened.keeps, can_commit _ _ c.requires c.in-Ok.recipe c.in-Ok.ensures.rules says.set_is says.version_is says.next_is says.rows_are)

pub returns-in-Ok-commit : goal.returns-in-Ok-commit
returns-in-Ok-commit g c =
    let says = c.in-Ok.ensures.says in
    idle _ _ (c.in-Ok-commit.ensures.ok c.requires.opened.core c.requires.opened.job c.requires.opened.keeps
    (can_commit _ _ c.requires c.in-Ok.recipe c.in-Ok.ensures.rules says.set_is says.version_is says.next_is says.rows_are)) refl

pub returns-in-Ok : goal.returns-in-Ok
returns-in-Ok g c =
    let says = c.in-Ok.ensures.says in
    let half = c.in-Err-commit.ensures.err c.requires.opened.core c.requires.opened.job c.requires.opened.keeps
    (can_commit _ _ c.requires c.in-Ok.recipe c.in-Ok.ensures.rules says.set_is says.version_is says.next_is says.rows_are) in
    idle _ _ half.keeps refl
