use Rattle.marker_gc.proofs.Stepping.{named-since, taken-since}
use Rattle.marker_gc.proofs.taken_ids_are_in_no_newer_list.Goals as goal

pub returns-clause-named : goal.returns-clause-named
returns-clause-named c = λ s k steps h. named-since s k steps h

pub returns-clause-taken : goal.returns-clause-taken
returns-clause-taken c = λ s floor k steps h. taken-since s floor k steps h
