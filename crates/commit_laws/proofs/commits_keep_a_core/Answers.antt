use Rattle.std.proofs.Common.{refl}
use Rattle.commit_laws.specs.Laws.{said}
use Rattle.commit_laws.proofs.Committing.{commit_core, commit_next, commit_is_change}
use Rattle.commit_laws.proofs.commits_keep_a_core.Goals as goal

pub returns-clause-core : goal.returns-clause-core
returns-clause-core c = λ K job r strays core can. commit_core K job r (said K job r) core can refl strays

pub returns-clause-next : goal.returns-clause-next
returns-clause-next c = λ K job r core can. commit_next K job r (said K job r) core can refl

pub returns-clause-change : goal.returns-clause-change
returns-clause-change c = λ K job r core can. commit_is_change K job r (said K job r) core can refl
