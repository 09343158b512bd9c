use Rattle.std.proofs.Common.{rules, ◌≡◌, true, false, ℕ, List, refl, sym, ap, subst, ◌∙◌}
use Rattle.std.specs.Prelude.{Err}
use Rattle.vault_types.specs.State.{State, is_kept}
use Rattle.vault_traits.specs.Files.{ChangesOnly, IsEmptied, MayBeEmptied, IsWhatWasTaken}
use Rattle.store_model.specs.Calls.{AroundSink}
use Rattle.store_model.specs.Steps.{write_numbered}
use Rattle.keeper_core.specs.Keeping.{IsKnownStray}
use Rattle.restore_turns.specs.Entry.{IsStateBeside}
use Rattle.running_restore.specs.Views.{RunningView, Starts}
use Rattle.script_laws.proofs.WholeLines.{no_sink_line, no_room_line}
use Rattle.beside_steps.specs.Holding.{BesideView}
use Rattle.beside_steps.proofs.Answered.{told_of, state_in, holds_over}
use Rattle.beside_steps.proofs.Going.{begun, holds_begun}
use Rattle.beside_steps.proofs.Held.{told_before}
use Rattle.beside_steps.proofs.Refused.{refused_line, refused_held}
use Rattle.beside_steps.proofs.restores.begin_kept.Goals as goal

pub returns-in-Err-Failed-clause-refused : goal.returns-in-Err-Failed-clause-refused
returns-in-Err-Failed-clause-refused g c =
    let p = g.P.Places.told c.args.places.now in
    let q = g.P.Places.told c.open_sink.new.self in
    let v = c.args.keeper.now in
    let e = c.open_sink.ensures in
    let named : c.as_str.result.now ≡ c.args.name = search rules in
    no_sink_line told_of IsStateBeside IsKnownStray c.args.limits.now v v p q q c.args.set c.args.version c.args.name c.args.slots
    (state_in v (λ (S : State). true ≡ is_kept S c.args.set c.args.version) c.requires.kept)
    (subst (λ (n : List ℕ). ChangesOnly p.files q.files n MayBeEmptied) named c.in-Err-Failed.ensures.err) e.read_faults e.write_faults c.faults.result c.faults.ensures (e.cause.failed (c.in-Err-Failed.is ∙ ap (λ r. Err r) c.in-Err-Failed.field-0-is))

pub returns-in-Err-Memory-clause-refused : goal.returns-in-Err-Memory-clause-refused
returns-in-Err-Memory-clause-refused g c =
    let p = g.P.Places.told c.args.places.now in
    let q = g.P.Places.told c.open_sink.new.self in
    let v = c.args.keeper.now in
    let e = c.open_sink.ensures in
    let named : c.as_str.result.now ≡ c.args.name = search rules in
    no_room_line told_of IsStateBeside IsKnownStray c.args.limits.now v v p q q c.args.set c.args.version c.args.name c.args.slots
    (state_in v (λ (S : State). true ≡ is_kept S c.args.set c.args.version) c.requires.kept)
    (subst (λ (n : List ℕ). ChangesOnly p.files q.files n MayBeEmptied) named c.in-Err-Memory.ensures.err) e.read_faults e.write_faults e.cause.later

pub returns-in-Err-Failed-clause-still : goal.returns-in-Err-Failed-clause-still
returns-in-Err-Failed-clause-still g c es h =
    let a = (g.P.Places.told c.args.places.now).files in
    let b = (g.P.Places.told c.open_sink.new.self).files in
    holds_over c.args.keeper.now a b (told_before a b c.as_str.result.now MayBeEmptied c.in-Err-Failed.ensures.err) es h

pub returns-in-Err-Memory-clause-still : goal.returns-in-Err-Memory-clause-still
returns-in-Err-Memory-clause-still g c es h =
    let a = (g.P.Places.told c.args.places.now).files in
    let b = (g.P.Places.told c.open_sink.new.self).files in
    holds_over c.args.keeper.now a b (told_before a b c.as_str.result.now MayBeEmptied c.in-Err-Memory.ensures.err) es h

pub returns-in-Ok-new-clause-begun : goal.returns-in-Ok-new-clause-begun
returns-in-Ok-new-clause-begun g c =
    let p = g.P.Places.told c.args.places.now in
    let m = g.P.Places.told c.open_sink.new.self in
    let w = g.P.Writer.Sink.told c.in-Ok.sink in
    let o = c.in-Ok.ensures in
    let named : c.as_str.result.now ≡ c.args.name = search rules in
    let e : BesideView = record { restore = c.run.result; name = c.args.name; place = c.args.at; ended = false } in
    begun c.args.keeper.now c.new.new.keeper c.args.set c.args.version c.args.slots c.args.name c.args.at p m c.in-Ok-new.planned w e c.in-Ok-new.ensures.ok
    (subst (λ (r : RunningView). Starts c.in-Ok-new.planned w r) (sym c.run.ensures) c.ready-restore.ensures.starts)
    (subst (λ (n : List ℕ). ChangesOnly p.files m.files n IsEmptied) named o.ok) o.writer refl refl o.cause.later o.read_faults o.write_faults

pub returns-in-Ok-new-clause-holds : goal.returns-in-Ok-new-clause-holds
returns-in-Ok-new-clause-holds g c es h =
    let p = g.P.Places.told c.args.places.now in
    let m = g.P.Places.told c.open_sink.new.self in
    let w = g.P.Writer.Sink.told c.in-Ok.sink in
    let o = c.in-Ok.ensures in
    let named : c.as_str.result.now ≡ c.args.name = search rules in
    let e : BesideView = record { restore = c.run.result; name = c.args.name; place = c.args.at; ended = false } in
    holds_begun c.args.keeper.now c.new.new.keeper c.args.set c.args.version c.args.slots c.args.name c.args.at p m c.in-Ok-new.planned w e c.in-Ok-new.ensures.ok
    (subst (λ (r : RunningView). Starts c.in-Ok-new.planned w r) (sym c.run.ensures) c.ready-restore.ensures.starts)
    (subst (λ (n : List ℕ). ChangesOnly p.files m.files n IsEmptied) named o.ok) o.writer es h

pub returns-in-Err-clause-refused : goal.returns-in-Err-clause-refused
returns-in-Err-clause-refused g c =
    let p = g.P.Places.told c.args.places.now in
    let m = g.P.Places.told c.open_sink.new.self in
    let q = g.P.Places.told c.close_sink.new.self in
    let w = g.P.Writer.Sink.told c.in-Ok.sink in
    let o = c.in-Ok.ensures in
    let k = c.close_sink.ensures in
    let named : c.as_str.result.now ≡ c.args.name = search rules in
    let again : c.as_str-in-Err.result.now ≡ c.args.name = search rules in
    let around : AroundSink p m q c.args.name w w = record {
      writer = o.writer;
      opened_files = subst (λ (n : List ℕ). ChangesOnly p.files m.files n IsEmptied) named o.ok;
      later = o.cause.later;
      reads = o.read_faults;
      writes = o.write_faults;
      closed_files = subst (λ (n : List ℕ). ChangesOnly m.files q.files n (IsWhatWasTaken w.taken)) again k.files;
      same = k.faults;
      same_reads = k.read_faults;
      added_writes = k.write_faults;
    } in
    refused_line c.args.limits.now c.args.keeper.now c.new.new.keeper c.args.set c.args.version c.args.slots c.args.name p m q c.in-Err.fault w around c.in-Err.ensures.err c.with_write_number.result
    (c.with_write_number.ensures ∙ ap (λ (n : ℕ). write_numbered n c.in-Err.fault) c.write_faults.ensures) c.requires.kept

pub returns-in-Err-clause-still : goal.returns-in-Err-clause-still
returns-in-Err-clause-still g c es h =
    let p = g.P.Places.told c.args.places.now in
    let m = g.P.Places.told c.open_sink.new.self in
    let q = g.P.Places.told c.close_sink.new.self in
    let w = g.P.Writer.Sink.told c.in-Ok.sink in
    let o = c.in-Ok.ensures in
    let k = c.close_sink.ensures in
    let named : c.as_str.result.now ≡ c.args.name = search rules in
    let again : c.as_str-in-Err.result.now ≡ c.args.name = search rules in
    let around : AroundSink p m q c.args.name w w = record {
      writer = o.writer;
      opened_files = subst (λ (n : List ℕ). ChangesOnly p.files m.files n IsEmptied) named o.ok;
      later = o.cause.later;
      reads = o.read_faults;
      writes = o.write_faults;
      closed_files = subst (λ (n : List ℕ). ChangesOnly m.files q.files n (IsWhatWasTaken w.taken)) again k.files;
      same = k.faults;
      same_reads = k.read_faults;
      added_writes = k.write_faults;
    } in
    refused_held c.args.limits.now c.args.keeper.now c.new.new.keeper c.args.set c.args.version c.args.slots c.args.name p m q c.in-Err.fault w around c.in-Err.ensures.err c.in-Err.ensures.rest c.in-Err.ensures.follows es h
