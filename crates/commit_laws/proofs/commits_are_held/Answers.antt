use Rattle.std.proofs.Common.{refl}
use Rattle.commit_laws.specs.Laws.{said}
use Rattle.commit_laws.proofs.Holding.{commit_held, commit_can, commit_half, half_core, refused_core, refused_held}
use Rattle.commit_laws.proofs.commits_are_held.Goals as goal

pub returns-clause-done : goal.returns-clause-done
returns-clause-done c = λ K job r strays m core can left held. commit_held K job r (said K job r) core can refl strays left m held

pub returns-clause-can : goal.returns-clause-can
returns-clause-can c = λ K job r told core can held. commit_can K job r (said K job r) core can refl told held

pub returns-clause-half : goal.returns-clause-half
returns-clause-half c = λ K job r m m' core can stray may held. commit_half K job r (said K job r) core can refl m m' stray held may

pub returns-clause-half_core : goal.returns-clause-half_core
returns-clause-half_core c = λ K job r strays core can. half_core K job r (said K job r) core can refl strays

pub returns-clause-before : goal.returns-clause-before
returns-clause-before c = λ K m core alone held. (refused_held K K.strays K.pending m alone (λ n stray. stray) held.apart held, refused_core K K.strays K.pending core core.failed)
