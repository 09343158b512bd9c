use Rattle.script_laws.proofs.Staying.{well_behind}
use Rattle.script_laws.proofs.lines_stay_well.Goals as goal

pub returns : goal.returns
returns c = λ limits sources S line lines answer valid is_answer well. well_behind limits sources S lines line answer valid is_answer well
