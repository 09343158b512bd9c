use Rattle.std.proofs.Common.{refl}
use Rattle.pipe_backup.proofs.Fills.{handed_of_job}
use Rattle.pipe_backup.proofs.Steps.{piping_as, put_on, put_ends, still_on}
use Rattle.pipe_backup.proofs.stepping.step_piped.Goals as goal

pub put_some-requires : goal.put_some-requires
put_some-requires g c =
    let b = c.requires.0 in
    let v = piping_as b (λ s. g.I.Source.told s) _ _ _ _ refl c.piping.view_is c.requires.1 in
    (b, v.filling.gone, v.filling.handed, handed_of_job b _ _ _ _ _ _ v.filling, v.backup.span)

pub returns-in-Err-clause-err : goal.returns-in-Err-clause-err
returns-in-Err-clause-err g c b h =
    let v = piping_as b (λ s. g.I.Source.told s) _ _ _ _ refl c.piping.view_is h in
    put_ends b (λ s. g.I.Source.told s) _ _ v c.put_some.new.keeper c.put_some.new.lane c.put_some.new.lens.items c.in-Err.halt (c.in-Err.ensures.err b v.filling.gone v.filling.handed (handed_of_job b _ _ _ _ _ _ v.filling) v.backup.span)

pub returns-in-Err-fill_some-clause-err : goal.returns-in-Err-fill_some-clause-err
returns-in-Err-fill_some-clause-err g c b h =
    let v = piping_as b (λ s. g.I.Source.told s) _ _ _ _ refl c.piping.view_is h in
    let put = put_on b (λ s. g.I.Source.told s) _ _ v c.put_some.new.keeper c.put_some.new.lane c.put_some.new.lens.items (c.in-Ok.ensures.ok b v.filling.gone v.filling.handed (handed_of_job b _ _ _ _ _ _ v.filling) v.backup.span) in
    c.in-Err-fill_some.ensures.err b c.put_some.new.keeper (still_on b (λ s. g.I.Source.told s) _ _ put c.turn_rest-kept.new.self c.turn_rest-kept.ensures)

pub returns-then-eq-clause-ok : goal.returns-then-eq-clause-ok
returns-then-eq-clause-ok g c b h =
    let v = piping_as b (λ s. g.I.Source.told s) _ _ _ _ refl c.piping.view_is h in
    let put = put_on b (λ s. g.I.Source.told s) _ _ v c.put_some.new.keeper c.put_some.new.lane c.put_some.new.lens.items (c.in-Ok.ensures.ok b v.filling.gone v.filling.handed (handed_of_job b _ _ _ _ _ _ v.filling) v.backup.span) in
    c.in-Ok-fill_some.ensures.ok b c.put_some.new.keeper (still_on b (λ s. g.I.Source.told s) _ _ put c.turn_rest-kept.new.self c.turn_rest-kept.ensures)
