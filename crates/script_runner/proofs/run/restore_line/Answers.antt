use Rattle.std.proofs.Common.{sym, ◌∙◌, ap, ℕ, List, subst}
use Rattle.std.specs.Prelude.{Err}
use Rattle.vault_traits.specs.Files.{IsEmptied, MayBeEmptied, IsWhatWasTaken, ChangesOnly}
use Rattle.vault_types.specs.declared.Fault.{Fault}
use Rattle.vault_types.specs.declared.Answer.TheVariants.{Refused}
use Rattle.vault_types.specs.declared.Line.TheVariants.{Restore}
use Rattle.store_model.specs.Steps.{write_numbered}
use Rattle.script_laws.proofs.LineLemmas.{is_there}
use Rattle.script_laws.proofs.WholeLines.{not_kept_line, no_sink_line, no_room_line, restore_line_ok, restore_line_err}
use Rattle.store_model.specs.Room.{NeedsRoom}
use Rattle.script_laws.proofs.Rooms.{done_needs, sink_needs}
use Rattle.script_runner.proofs.run.restore_line.Goals as goal

pub returns-then-not-kept-clause-steps : goal.returns-then-not-kept-clause-steps
returns-then-not-kept-clause-steps g c =
    let p = g.P.Places.told c.args.places.now in
    not_kept_line g.K.StateKeeper.shelf g.K.StateKeeper.keeps g.K.StateKeeper.strays c.args.limits.now c.args.store.now c.args.store.now p p p c.args.set c.args.version c.args.name.now c.args.slots c.floor.result c.latest.result
    (λ S other keep. sym c.if-not-kept.true ∙ c.kept.ensures S other keep) c.floor.ensures c.latest.ensures

pub returns-in-Err-Failed-clause-steps : goal.returns-in-Err-Failed-clause-steps
returns-in-Err-Failed-clause-steps g c =
    let p = g.P.Places.told c.args.places.now in
    let q = g.P.Places.told c.open_sink.new.self in
    let e = c.open_sink.ensures in
    no_sink_line g.K.StateKeeper.shelf g.K.StateKeeper.keeps g.K.StateKeeper.strays c.args.limits.now c.args.store.now c.args.store.now p q q c.args.set c.args.version c.args.name.now c.args.slots
    (λ S other keep. sym c.if-not-kept.false ∙ c.kept.ensures S other keep)
    (subst (λ (n : List ℕ). ChangesOnly p.files q.files n MayBeEmptied) c.as_str.ensures c.in-Err-Failed.ensures.err) e.read_faults e.write_faults c.faults.result c.faults.ensures (e.cause.failed (c.in-Err-Failed.is ∙ ap (λ r. Err r) c.in-Err-Failed.field-0-is))

pub returns-in-Err-Memory-clause-steps : goal.returns-in-Err-Memory-clause-steps
returns-in-Err-Memory-clause-steps g c =
    let p = g.P.Places.told c.args.places.now in
    let q = g.P.Places.told c.open_sink.new.self in
    let e = c.open_sink.ensures in
    no_room_line g.K.StateKeeper.shelf g.K.StateKeeper.keeps g.K.StateKeeper.strays c.args.limits.now c.args.store.now c.args.store.now p q q c.args.set c.args.version c.args.name.now c.args.slots
    (λ S other keep. sym c.if-not-kept.false ∙ c.kept.ensures S other keep)
    (subst (λ (n : List ℕ). ChangesOnly p.files q.files n MayBeEmptied) c.as_str.ensures c.in-Err-Memory.ensures.err) e.read_faults e.write_faults e.cause.later

pub close_sink-requires : goal.close_sink-requires
close_sink-requires g c =
    let p = g.P.Places.told c.args.places.now in
    let m = g.P.Places.told c.open_sink.new.self in
    is_there p.files m.files _ (subst (λ (n : List ℕ). ChangesOnly p.files m.files n IsEmptied) (c.as_str.ensures ∙ sym c.as_str-in-Ok.ensures) c.in-Ok.ensures.ok)

pub returns-in-Ok-result-clause-steps : goal.returns-in-Ok-result-clause-steps
returns-in-Ok-result-clause-steps g c =
    let p = g.P.Places.told c.args.places.now in
    let m = g.P.Places.told c.open_sink.new.self in
    let q = g.P.Places.told c.close_sink.new.self in
    let w = g.P.Writer.Sink.told c.in-Ok.sink in
    let w' = g.P.Writer.Sink.told c.restore-result.new.sink in
    let o = c.in-Ok.ensures in
    let k = c.close_sink.ensures in
    restore_line_ok g.K.StateKeeper.shelf g.K.StateKeeper.keeps g.K.StateKeeper.strays c.args.limits.now c.args.store.now c.restore-result.new.self p m q c.args.set c.args.version c.args.name.now c.args.slots c.in-Ok-result.answer w w'
    (λ S other keep. sym c.if-not-kept.false ∙ c.kept.ensures S other keep)
    (record {
      writer = o.writer;
      opened_files = subst (λ (n : List ℕ). ChangesOnly p.files m.files n IsEmptied) c.as_str.ensures o.ok;
      later = o.cause.later;
      reads = o.read_faults;
      writes = o.write_faults;
      closed_files = subst (λ (n : List ℕ). ChangesOnly m.files q.files n (IsWhatWasTaken w'.taken)) c.as_str-in-Ok.ensures k.files;
      same = k.faults;
      same_reads = k.read_faults;
      added_writes = k.write_faults;
    })
    c.in-Ok-result.ensures

pub returns-in-Err-clause-steps : goal.returns-in-Err-clause-steps
returns-in-Err-clause-steps g c =
    let p = g.P.Places.told c.args.places.now in
    let m = g.P.Places.told c.open_sink.new.self in
    let q = g.P.Places.told c.close_sink.new.self in
    let w = g.P.Writer.Sink.told c.in-Ok.sink in
    let w' = g.P.Writer.Sink.told c.restore-result.new.sink in
    let o = c.in-Ok.ensures in
    let k = c.close_sink.ensures in
    restore_line_err g.K.StateKeeper.shelf g.K.StateKeeper.keeps g.K.StateKeeper.strays c.args.limits.now c.args.store.now c.restore-result.new.self p m q c.args.set c.args.version c.args.name.now c.args.slots c.in-Err.fault c.with_write_number.result w w'
    (c.with_write_number.ensures ∙ ap (λ (n : ℕ). write_numbered n c.in-Err.fault) c.write_faults.ensures)
    (λ S other keep. sym c.if-not-kept.false ∙ c.kept.ensures S other keep)
    (record {
      writer = o.writer;
      opened_files = subst (λ (n : List ℕ). ChangesOnly p.files m.files n IsEmptied) c.as_str.ensures o.ok;
      later = o.cause.later;
      reads = o.read_faults;
      writes = o.write_faults;
      closed_files = subst (λ (n : List ℕ). ChangesOnly m.files q.files n (IsWhatWasTaken w'.taken)) c.as_str-in-Ok.ensures k.files;
      same = k.faults;
      same_reads = k.read_faults;
      added_writes = k.write_faults;
    })
    c.in-Err.ensures

pub returns-in-Ok-result-clause-room : goal.returns-in-Ok-result-clause-room
returns-in-Ok-result-clause-room g c S other keep told = done_needs g.P.Places.room S c.args.set c.args.version c.args.name.now c.args.slots c.in-Ok-result.answer c.in-Ok-result.ensures.done

pub returns-in-Err-clause-room : goal.returns-in-Err-clause-room
returns-in-Err-clause-room g c S other keep told =
    let p = g.P.Places.told c.args.places.now in
    let w = g.P.Writer.Sink.told c.in-Ok.sink in
    let w' = g.P.Writer.Sink.told c.restore-result.new.sink in
    let call = c.in-Err.ensures in
    subst (λ (f : Fault). NeedsRoom g.P.Places.room S (Restore c.args.set c.args.version c.args.name.now c.args.slots) (Refused f)) (sym c.with_write_number.ensures)
    (sink_needs g.P.Places.room S c.args.set c.args.version c.args.name.now c.args.slots p.files (g.K.StateKeeper.shelf c.args.store.now) (g.K.StateKeeper.shelf c.restore-result.new.self) w w' c.in-Err.fault c.write_faults.result told
    c.in-Ok.ensures.writer c.close_sink.ensures.room call.causes (call.short S other keep))
