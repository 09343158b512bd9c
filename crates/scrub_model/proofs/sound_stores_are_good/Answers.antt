use Rattle.scrub_model.proofs.Sound.{sound_good}
use Rattle.scrub_model.proofs.sound_stores_are_good.Goals as goal

pub returns : goal.returns
returns c S sound = sound_good S sound
