use Rattle.std.proofs.Common.{refl}
use Rattle.script_laws.proofs.WholeLines.{no_room_line, no_sink_line, not_kept_line, restore_line}
use Rattle.script_laws.proofs.restores_are_lines.Goals as goal

pub returns-clause-not_kept : goal.returns-clause-not_kept
returns-clause-not_kept g c = λ limits k p s v name cache floor latest kept f l. not_kept_line g.K.StateKeeper.shelf g.K.StateKeeper.keeps g.K.StateKeeper.strays limits k k p p p s v name cache floor latest kept f l

pub returns-clause-not_opened : goal.returns-clause-not_opened
returns-clause-not_opened g c = λ limits k p q s v name cache kept files reads writes rose. no_sink_line g.K.StateKeeper.shelf g.K.StateKeeper.keeps g.K.StateKeeper.strays limits k k p q q s v name cache kept files reads writes q.faults refl rose

pub returns-clause-no_memory : goal.returns-clause-no_memory
returns-clause-no_memory g c = λ limits k p q s v name cache kept files reads writes later. no_room_line g.K.StateKeeper.shelf g.K.StateKeeper.keeps g.K.StateKeeper.strays limits k k p q q s v name cache kept files reads writes later

pub returns-clause-called : goal.returns-clause-called
returns-clause-called g c = λ limits k k' p m q s v name cache result w w' kept around call. restore_line g.K.StateKeeper.shelf g.K.StateKeeper.keeps g.K.StateKeeper.strays limits k k' p m q s v name cache result w w' kept around call
