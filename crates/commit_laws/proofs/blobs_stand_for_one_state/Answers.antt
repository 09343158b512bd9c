use Rattle.commit_laws.proofs.Unique.{stands_unique}
use Rattle.commit_laws.proofs.blobs_stand_for_one_state.Goals as goal

pub returns : goal.returns
returns c = λ m T U stands valid also valid2. stands_unique m T U (record { stands = stands; valid = valid }) (record { stands = also; valid = valid2 })
