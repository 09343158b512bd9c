use Rattle.std.proofs.Common.{refl}
use Rattle.store_model.specs.Steps.{answer_of}
use Rattle.script_laws.proofs.WholeLines.{delete_line}
use Rattle.script_laws.proofs.deletions_are_lines.Goals as goal

pub returns : goal.returns
returns g c = λ limits k k' p s n result call. delete_line g.K.StateKeeper.shelf g.K.StateKeeper.keeps g.K.StateKeeper.strays limits k k' p p p s n result (answer_of result) refl call
