use Rattle.std.proofs.Common.{refl}
use Rattle.script_laws.proofs.WholeLines.{backup_line, full_line, no_memory_line, no_source_line}
use Rattle.script_laws.proofs.backups_are_lines.Goals as goal

pub returns-clause-full : goal.returns-clause-full
returns-clause-full g c = λ limits k p s name config latest next full l n. full_line g.K.StateKeeper.shelf g.K.StateKeeper.keeps g.K.StateKeeper.strays limits k k p p p s name config latest next full l n

pub returns-clause-not_opened : goal.returns-clause-not_opened
returns-clause-not_opened g c = λ limits k p q s name config full files reads writes rose. no_source_line g.K.StateKeeper.shelf g.K.StateKeeper.keeps g.K.StateKeeper.strays limits k k p q q s name config full files reads writes q.faults refl rose

pub returns-clause-no_memory : goal.returns-clause-no_memory
returns-clause-no_memory g c = λ limits k p q s name config full files reads writes later. no_memory_line g.K.StateKeeper.shelf g.K.StateKeeper.keeps g.K.StateKeeper.strays limits k k p q q s name config full files reads writes later

pub returns-clause-called : goal.returns-clause-called
returns-clause-called g c = λ limits k k' p m q s name config result r r' around call. backup_line g.K.StateKeeper.shelf g.K.StateKeeper.keeps g.K.StateKeeper.strays limits k k' p m q s name config result r r' around call
