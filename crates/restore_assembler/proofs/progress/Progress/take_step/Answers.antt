use Rattle.std.proofs.Common.{arith, rules, ◌<◌, length}
use Rattle.vault_types.specs.declared.Step.TheVariants.{Load, Evict, Serve}
use Rattle.restore_assembler.proofs.Steps.{some_step, next_step, served, going_evicted, advances_evicted, going_served, advances_served, load_starts, going_cut_off, step_stays}
use Rattle.restore_assembler.proofs.progress.Progress.take_step.Goals as goal

pub index-requires : goal.index-requires
index-requires g c =
    let l : c.args.self.now.step < length c.args.self.now.steps.items = some_step c.args.self.now c.requires.going c.requires.some in
    search (rules, l)

pub overflow_add-self : goal.overflow_add-self
overflow_add-self g c = omega (arith, some_step c.args.self.now c.requires.going c.requires.some, c.args.self.now.steps.ok, c.args.self.now.steps.small)

pub serve-requires-clause-present : goal.serve-requires-clause-present
serve-requires-clause-present g c =
    let p = c.args.self.now in
    let l = some_step p c.requires.going c.requires.some in
    (served p _ c.requires.going c.requires.some (next_step p.steps.items p.step c.index.result.now Serve l c.index.ensures c.in-Serve.is)).0

pub overflow_add-self-in-Serve : goal.overflow_add-self-in-Serve
overflow_add-self-in-Serve g c =
    let l = some_step c.args.self.now c.requires.going c.requires.some in
    omega (arith, step_stays c.args.self.now c.serve.new.self c.serve.ensures.stays l, c.serve.new.self.steps.ok, c.serve.new.self.steps.small)

pub returns-in-Load-clause-left : goal.returns-in-Load-clause-left
returns-in-Load-clause-left g c = omega (arith, some_step c.args.self.now c.requires.going c.requires.some)

pub returns-in-Load-clause-load : goal.returns-in-Load-clause-load
returns-in-Load-clause-load g c = λ _.
    let p = c.args.self.now in
    let l = some_step p c.requires.going c.requires.some in
    load_starts p.steps.items p.step c.in-Load.field-0 (next_step p.steps.items p.step c.index.result.now (Load c.in-Load.field-0) l c.index.ensures c.in-Load.is)

pub returns-in-Evict-clause-going : goal.returns-in-Evict-clause-going
returns-in-Evict-clause-going g c =
    let p = c.args.self.now in
    let l = some_step p c.requires.going c.requires.some in
    going_evicted p c.evict.new.present c.in-Evict.id c.requires.going (next_step p.steps.items p.step c.index.result.now (Evict c.in-Evict.id) l c.index.ensures c.in-Evict.is) c.evict.ensures.items c.evict.ensures.capacity

pub returns-in-Evict-clause-left : goal.returns-in-Evict-clause-left
returns-in-Evict-clause-left g c = omega (arith, some_step c.args.self.now c.requires.going c.requires.some)

pub returns-in-Evict-clause-advances : goal.returns-in-Evict-clause-advances
returns-in-Evict-clause-advances g c =
    let p = c.args.self.now in
    let l = some_step p c.requires.going c.requires.some in
    advances_evicted p c.evict.new.present c.in-Evict.id (g.K.Sink.told c.args.sink.now) (next_step p.steps.items p.step c.index.result.now (Evict c.in-Evict.id) l c.index.ensures c.in-Evict.is) c.evict.ensures.items

pub returns-in_ok-serve-in-Serve-clause-going : goal.returns-in_ok-serve-in-Serve-clause-going
returns-in_ok-serve-in-Serve-clause-going g c =
    let p = c.args.self.now in
    let l = some_step p c.requires.going c.requires.some in
    going_served p c.serve.new.self c.requires.going c.requires.some (next_step p.steps.items p.step c.index.result.now Serve l c.index.ensures c.in-Serve.is)
    c.serve.ensures.stays c.in_ok-serve-in-Serve.ensures.done c.in_ok-serve-in-Serve.ensures.within

pub returns-in_ok-serve-in-Serve-clause-left : goal.returns-in_ok-serve-in-Serve-clause-left
returns-in_ok-serve-in-Serve-clause-left g c =
    let l = some_step c.args.self.now c.requires.going c.requires.some in
    omega (arith, step_stays c.args.self.now c.serve.new.self c.serve.ensures.stays l)

pub returns-in_ok-serve-in-Serve-clause-advances : goal.returns-in_ok-serve-in-Serve-clause-advances
returns-in_ok-serve-in-Serve-clause-advances g c =
    let told = g.K.Sink.told in
    let p = c.args.self.now in
    let l = some_step p c.requires.going c.requires.some in
    advances_served p c.serve.new.self (told c.args.sink.now) (told c.serve.new.sink) (next_step p.steps.items p.step c.index.result.now Serve l c.index.ensures c.in-Serve.is) c.serve.ensures.stays c.in_ok-serve-in-Serve.ensures.done c.in_ok-serve-in-Serve.ensures.kept c.in_ok-serve-in-Serve.ensures.later c.in_ok-serve-in-Serve.ensures.ok

pub returns-in_err-serve-in-Serve-clause-going : goal.returns-in_err-serve-in-Serve-clause-going
returns-in_err-serve-in-Serve-clause-going g c = going_cut_off c.args.self.now c.serve.new.self c.requires.going c.serve.ensures.stays c.in_err-serve-in-Serve.ensures.err_done
