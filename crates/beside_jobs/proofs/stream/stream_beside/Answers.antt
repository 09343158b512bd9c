use Rattle.beside_jobs.proofs.Beside.{starts_beside, ends_beside}
use Rattle.beside_jobs.proofs.stream.stream_beside.Goals as goal

pub start_piped-requires-clause-no_job : goal.start_piped-requires-clause-no_job
start_piped-requires-clause-no_job g c κs within = let r = c.requires.restores in r.1.holds.job

pub turn_to_end-ended-requires : goal.turn_to_end-ended-requires
turn_to_end-ended-requires g c =
    let r = c.requires.restores in
    let h = c.in-Ok.ensures.ok in
    (r.0, h.began, starts_beside r.0 (λ s. g.I.Source.told s) c.args.set c.args.config.now c.args.limits.now c.args.keeper.now c.start_piped.new.keeper (g.I.Source.told c.args.source) c.in-Ok.piping c.args.running.now.items c.keeps_some_core.ensures r.1 h)

pub end_piped-requires : goal.end_piped-requires
end_piped-requires g c =
    let r = c.requires.restores in
    let h = c.in-Ok.ensures.ok in
    let k = c.turn_to_end-ended.ensures.come r.0 h.began (starts_beside r.0 (λ s. g.I.Source.told s) c.args.set c.args.config.now c.args.limits.now c.args.keeper.now c.start_piped.new.keeper (g.I.Source.told c.args.source) c.in-Ok.piping c.args.running.now.items c.keeps_some_core.ensures r.1 h) in
    (k.began, k.so)

pub returns-in-Err-clause-backed_up : goal.returns-in-Err-clause-backed_up
returns-in-Err-clause-backed_up g c r h = record { behind = c.args.keeper.now; core = c.keeps_some_core.ensures; backs_up = c.in-Err.ensures.err; restores = h }

pub returns-in-Ok-clause-backed_up : goal.returns-in-Ok-clause-backed_up
returns-in-Ok-clause-backed_up g c r h =
    let s = c.in-Ok.ensures.ok in
    let k = c.turn_to_end-ended.ensures.come r s.began (starts_beside r (λ s. g.I.Source.told s) c.args.set c.args.config.now c.args.limits.now c.args.keeper.now c.start_piped.new.keeper (g.I.Source.told c.args.source) c.in-Ok.piping c.args.running.now.items c.keeps_some_core.ensures h s) in
    ends_beside r (λ s. g.I.Source.told s) c.args.set c.args.config.now c.args.limits.now c.args.keeper.now c.start_piped.new.keeper c.turn_to_end-ended.new.keeper c.end_piped.new.keeper (g.I.Source.told c.args.source) (g.I.Source.told c.end_piped.result.0) c.in-Ok.piping c.turn_to_end-ended.new.piping c.turn_to_end-ended.result c.turn_to_end-ended.new.running.items c.end_piped.result.1 s c.end_piped.ensures k
