use Rattle.script_laws.proofs.Staying.{bytes_kept}
use Rattle.script_laws.proofs.lines_keep_bytes.Goals as goal

pub returns : goal.returns
returns c = λ sources S line answer t v j q valid valid_too is_answer was is. bytes_kept sources S line answer t v j q valid valid_too is_answer was is
