use Rattle.set_markers.proofs.Stepping.{named-since, taken-since}
use Rattle.set_markers.proofs.taken_ids_are_in_no_kept_version.Goals as goal

pub returns-clause-named : goal.returns-clause-named
returns-clause-named c = λ k steps h. named-since k steps h

pub returns-clause-taken : goal.returns-clause-taken
returns-clause-taken c = λ s floor k steps h. taken-since s floor k steps h
