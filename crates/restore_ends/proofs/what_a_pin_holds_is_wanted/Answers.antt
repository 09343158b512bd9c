use Rattle.restore_ends.proofs.Wanted.{never_unwanted}
use Rattle.restore_ends.proofs.what_a_pin_holds_is_wanted.Goals as goal

pub returns : goal.returns
returns c = λ v u now s n slots number loads a got met sent r sink t entry h is. never_unwanted v u now s n slots number loads a got met sent sink r t entry h is
