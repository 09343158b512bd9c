use Rattle.std.proofs.Common.{◌+◌, ◌∙◌, refl, ap, arith}
use Rattle.pipe_backup.specs.Piping.{PipingView}
use Rattle.pipe_backup.proofs.Steps.{piping_as, still_on, part_on, many_on, memory_on, last_on}
use Rattle.pipe_backup.proofs.stepping.take_next.Goals as goal

pub returns-in-None-clause-ok : goal.returns-in-None-clause-ok
returns-in-None-clause-ok g c b now h =
    let v = piping_as b (λ s. g.I.Source.told s) now now _ _ refl c.piping.view_is h in
    still_on b (λ s. g.I.Source.told s) now _ v c.take.new.self c.in-None.ensures.none

pub returns-in-Err-clause-err : goal.returns-in-Err-clause-err
returns-in-Err-clause-err g c b now h =
    let v = piping_as b (λ s. g.I.Source.told s) now now _ _ refl c.piping.view_is h in
    last_on b (λ s. g.I.Source.told s) now _ v c.take.new.self c.in-Some.item c.in-Some.ensures.taken c.in-Err.last c.in-Err.ensures

pub returns-then-piping-clause-err : goal.returns-then-piping-clause-err
returns-then-piping-clause-err g c b now h =
    let v = piping_as b (λ s. g.I.Source.told s) now now _ _ refl c.piping.view_is h in
    many_on b (λ s. g.I.Source.told s) now _ v c.take.new.self c.in-Some.item c.in-Some.ensures.taken c.in-Ok.part c.in-Ok.ensures (omega (arith, c.if-piping.true))

pub returns-in-Err-take_part-clause-err : goal.returns-in-Err-take_part-clause-err
returns-in-Err-take_part-clause-err g c b now h =
    let v = piping_as b (λ s. g.I.Source.told s) now now _ _ refl c.piping.view_is h in
    memory_on b (λ s. g.I.Source.told s) now _ v c.take.new.self c.in-Some.item c.in-Some.ensures.taken c.in-Ok.part c.take_part.new.filler c.in-Ok.ensures

pub returns-in-Ok-take_part-clause-ok : goal.returns-in-Ok-take_part-clause-ok
returns-in-Ok-take_part-clause-ok g c b now h =
    let v = piping_as b (λ s. g.I.Source.told s) now now _ _ refl c.piping.view_is h in
    part_on b (λ s. g.I.Source.told s) now _ v c.take.new.self c.in-Some.item c.in-Some.ensures.taken c.in-Ok.part c.take_part.new.filler c.in-Ok-take_part.given (c.piping.inside.count + 1) c.in-Ok.ensures
    (ap (λ (q : PipingView g.row.I.Denot). q.held) c.piping.view_is ∙ c.requires) (omega (arith, c.if-piping.false)) refl (λ gone parts filled few. c.in-Ok-take_part.ensures b gone parts filled few)
