use Rattle.std.proofs.Common.{refl}
use Rattle.pipe_backup.proofs.Steps.{piping_as, held_on}
use Rattle.pipe_backup.proofs.stepping.fill_some.Goals as goal

pub take_next-requires : goal.take_next-requires
take_next-requires g c = (c.hand_held.ensures.moved c.in-Moved.is).2

pub returns-in-Moved-clause-ok : goal.returns-in-Moved-clause-ok
returns-in-Moved-clause-ok g c b now h =
    let v = piping_as b (λ s. g.I.Source.told s) now now _ _ refl c.piping.view_is h in
    c.take_next.ensures.ok b now (held_on b (λ s. g.I.Source.told s) now _ v c.hand_held.result c.hand_held.new.lane c.hand_held.new.held c.hand_held.ensures.none c.hand_held.ensures.idle c.hand_held.ensures.moved)

pub returns-in-Moved-clause-err : goal.returns-in-Moved-clause-err
returns-in-Moved-clause-err g c b now h =
    let v = piping_as b (λ s. g.I.Source.told s) now now _ _ refl c.piping.view_is h in
    c.take_next.ensures.err b now (held_on b (λ s. g.I.Source.told s) now _ v c.hand_held.result c.hand_held.new.lane c.hand_held.new.held c.hand_held.ensures.none c.hand_held.ensures.idle c.hand_held.ensures.moved)

pub take_next-requires-in-Done : goal.take_next-requires-in-Done
take_next-requires-in-Done g c = (c.hand_held.ensures.none c.in-Done.is).1

pub returns-in-Done-clause-ok : goal.returns-in-Done-clause-ok
returns-in-Done-clause-ok g c b now h =
    let v = piping_as b (λ s. g.I.Source.told s) now now _ _ refl c.piping.view_is h in
    c.take_next-in-Done.ensures.ok b now (held_on b (λ s. g.I.Source.told s) now _ v c.hand_held.result c.hand_held.new.lane c.hand_held.new.held c.hand_held.ensures.none c.hand_held.ensures.idle c.hand_held.ensures.moved)

pub returns-in-Done-clause-err : goal.returns-in-Done-clause-err
returns-in-Done-clause-err g c b now h =
    let v = piping_as b (λ s. g.I.Source.told s) now now _ _ refl c.piping.view_is h in
    c.take_next-in-Done.ensures.err b now (held_on b (λ s. g.I.Source.told s) now _ v c.hand_held.result c.hand_held.new.lane c.hand_held.new.held c.hand_held.ensures.none c.hand_held.ensures.idle c.hand_held.ensures.moved)
