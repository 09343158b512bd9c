use Rattle.deletion_laws.proofs.Marking.{freed_are, delete_marks}
use Rattle.deletion_laws.proofs.markers_free_what_loses_its_last_name.Goals as goal

pub returns-clause-freed : goal.returns-clause-freed
returns-clause-freed c = λ S s n marks valid below low are. freed_are S s n valid below low marks are

pub returns-clause-left : goal.returns-clause-left
returns-clause-left c = λ S s n marks valid below low are. delete_marks S s n valid below low marks are
