use Rattle.std.proofs.Common.{◌≡◌, map, ap, ◌∙◌}
use Rattle.std.specs.Prelude.{Result, Ok}
use Rattle.stage_flows.specs.declared.Last.{Last}
use Rattle.stage_flows.specs.declared.Last.TheVariants as last
use Rattle.backup_jobs.specs.Going.{part_of}
use Rattle.pipe_backup.specs.declared.sealing.Halt.{Halt}
use Rattle.pipe_backup.proofs.Settles.{come_as, drained, filling_at_end, finished, failed, was_stopped, some_last}
use Rattle.pipe_backup.proofs.ending.settle.Goals as goal

pub returns-in-Err-clause-last : goal.returns-in-Err-clause-last
returns-in-Err-clause-last g c =
    let b = c.requires.0 in
    let v = come_as b (λ s. g.I.Source.told s) c.args.keeper.now _ _ c.args.ended c.piping.view_is c.requires.1 in
    let more = c.drain.ensures.taken in
    let all = drained b (λ s. g.I.Source.told s) c.args.keeper.now _ c.args.ended v c.drain.new.job more.0 more.1 c.in-Err.halt c.in-Err.is more.2 in
    (all.parts, all.l, all.taken_are)

pub returns-in-Err-clause-filled : goal.returns-in-Err-clause-filled
returns-in-Err-clause-filled g c b h =
    let v = come_as b (λ s. g.I.Source.told s) c.args.keeper.now _ _ c.args.ended c.piping.view_is h in
    let more = c.drain.ensures.taken in
    rw (← c.piping.view_is) (drained b (λ s. g.I.Source.told s) c.args.keeper.now _ c.args.ended v c.drain.new.job more.0 more.1 c.in-Err.halt c.in-Err.is more.2)

pub finish-filled-requires : goal.finish-filled-requires
finish-filled-requires g c =
    let b = c.requires.0 in
    let v = come_as b (λ s. g.I.Source.told s) c.args.keeper.now _ _ c.args.ended c.piping.view_is c.requires.1 in
    let is : ◌≡◌ {A = Result Last Halt} c.args.ended.last (Ok last.End) = c.in-Ok.is ∙ ap (λ (l : Last). Ok l) c.in-End.is in
    (b, map part_of v.parts, filling_at_end b (λ s. g.I.Source.told s) c.args.keeper.now _ c.args.ended v is, v.backup.span)

pub returns-in-End-clause-last : goal.returns-in-End-clause-last
returns-in-End-clause-last g c =
    let b = c.requires.0 in
    let v = come_as b (λ s. g.I.Source.told s) c.args.keeper.now _ _ c.args.ended c.piping.view_is c.requires.1 in
    some_last b (λ s. g.I.Source.told s) c.args.keeper.now _ c.args.ended v c.in-Ok.last c.in-Ok.is

pub returns-in-End-clause-filled : goal.returns-in-End-clause-filled
returns-in-End-clause-filled g c b h =
    let v = come_as b (λ s. g.I.Source.told s) c.args.keeper.now _ _ c.args.ended c.piping.view_is h in
    let is : ◌≡◌ {A = Result Last Halt} c.args.ended.last (Ok last.End) = c.in-Ok.is ∙ ap (λ (l : Last). Ok l) c.in-End.is in
    let filling = filling_at_end b (λ s. g.I.Source.told s) c.args.keeper.now _ c.args.ended v is in
    rw (← c.piping.view_is)
    (finished b (λ s. g.I.Source.told s) c.args.keeper.now _ c.args.ended v c.finish-filled.new.keeper c.finish-filled.new.lens.items c.finish-filled.new.lane c.finish-filled.result is
    (c.finish-filled.ensures.ok b (map part_of v.parts) filling v.backup.span) (c.finish-filled.ensures.err b (map part_of v.parts) filling v.backup.span))

pub returns-in-Failed-clause-last : goal.returns-in-Failed-clause-last
returns-in-Failed-clause-last g c =
    let b = c.requires.0 in
    let v = come_as b (λ s. g.I.Source.told s) c.args.keeper.now _ _ c.args.ended c.piping.view_is c.requires.1 in
    some_last b (λ s. g.I.Source.told s) c.args.keeper.now _ c.args.ended v c.in-Ok.last c.in-Ok.is

pub returns-in-Failed-clause-filled : goal.returns-in-Failed-clause-filled
returns-in-Failed-clause-filled g c b h =
    let v = come_as b (λ s. g.I.Source.told s) c.args.keeper.now _ _ c.args.ended c.piping.view_is h in
    let is : ◌≡◌ {A = Result Last Halt} c.args.ended.last (Ok (last.Failed c.in-Failed.fault)) = c.in-Ok.is ∙ ap (λ (l : Last). Ok l) c.in-Failed.is in
    rw (← c.piping.view_is) (failed b (λ s. g.I.Source.told s) c.args.keeper.now _ c.args.ended v c.in-Failed.fault is)

pub returns-in-Stopped-clause-last : goal.returns-in-Stopped-clause-last
returns-in-Stopped-clause-last g c =
    let b = c.requires.0 in
    let v = come_as b (λ s. g.I.Source.told s) c.args.keeper.now _ _ c.args.ended c.piping.view_is c.requires.1 in
    some_last b (λ s. g.I.Source.told s) c.args.keeper.now _ c.args.ended v c.in-Ok.last c.in-Ok.is

pub returns-in-Stopped-clause-filled : goal.returns-in-Stopped-clause-filled
returns-in-Stopped-clause-filled g c b h =
    let v = come_as b (λ s. g.I.Source.told s) c.args.keeper.now _ _ c.args.ended c.piping.view_is h in
    let is : ◌≡◌ {A = Result Last Halt} c.args.ended.last (Ok last.Stopped) = c.in-Ok.is ∙ ap (λ (l : Last). Ok l) c.in-Stopped.is in
    rw (← c.piping.view_is) (was_stopped b (λ s. g.I.Source.told s) c.args.keeper.now _ c.args.ended v is)
