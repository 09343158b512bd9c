use Rattle.pin_laws.proofs.Calls.{by_event, by_refused, by_commit, by_pin, by_release}
use Rattle.pin_laws.proofs.events_keep_a_pin.Goals as goal

pub returns-clause-event : goal.returns-clause-event
returns-clause-event c = λ u v number event tells same keeps. by_event u v number tells event same keeps

pub returns-clause-refusal : goal.returns-clause-refusal
returns-clause-refusal c = λ u v number tells keeps. by_refused u v number tells keeps

pub returns-clause-commit : goal.returns-clause-commit
returns-clause-commit c = λ u v number recipe version strays tells can keeps. by_commit u v number tells recipe version strays can keeps

pub returns-clause-pin : goal.returns-clause-pin
returns-clause-pin c = λ u v number tells keeps. by_pin u v number tells keeps

pub returns-clause-release : goal.returns-clause-release
returns-clause-release c = λ u v number gone strays tells apart keeps. by_release u v number tells gone strays apart keeps
