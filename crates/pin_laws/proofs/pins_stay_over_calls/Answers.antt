use Rattle.pin_laws.proofs.Calls as calls
use Rattle.pin_laws.proofs.pins_stay_over_calls.Goals as goal

pub returns-clause-still : goal.returns-clause-still
returns-clause-still c = λ v number. calls.still v number

pub returns-clause-further : goal.returns-clause-further
returns-clause-further c = λ u v w number first second. calls.further u v w number first second
