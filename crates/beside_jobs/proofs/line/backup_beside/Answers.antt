use Rattle.std.proofs.Common.{◌≡◌, true, false, sym, ◌∙◌, ap, ℕ, List, Option, subst}
use Rattle.std.specs.Prelude.{Err}
use Rattle.vault_types.specs.State.{State, is_full, latest_of, next_of}
use Rattle.vault_types.specs.declared.Line.TheVariants.{Backup}
use Rattle.vault_traits.specs.Told.{PlacesTold}
use Rattle.store_model.specs.Steps.{read_numbered}
use Rattle.keeper_core.specs.Keeping.{IsKnownStray}
use Rattle.restore_turns.specs.Entry.{IsStateBeside}
use Rattle.script_laws.proofs.WholeLines.{full_line, no_source_line, no_memory_line, backup_line_ok, backup_line_err}
use Rattle.beside_steps.specs.Holding.{Holds}
use Rattle.beside_steps.proofs.Held.{told_kept}
use Rattle.beside_steps.proofs.Answered.{state_in, holds_over}
use Rattle.beside_jobs.specs.Under.{told_of}
use Rattle.beside_jobs.proofs.Lines.{answers_at, held_there, backed_up, holds_backed}
use Rattle.beside_jobs.proofs.line.backup_beside.Goals as goal

pub stream_beside-source-requires-clause-restores : goal.stream_beside-source-requires-clause-restores
stream_beside-source-requires-clause-restores g c κs within = let r = c.requires.restores in (r.0, r.2)

pub returns-then-full-clause-answers : goal.returns-then-full-clause-answers
returns-then-full-clause-answers g c r limited told h =
    let p = g.P.Places.told c.args.places.now in
    let v = c.args.keeper.now in
    answers_at r c.args.running.now.items v c.args.limits.now p _ _ _ limited told h
    (full_line told_of IsStateBeside IsKnownStray c.args.limits.now v v p p p c.args.set c.args.name.now c.args.config.now c.latest.result c.next_id.result
    (state_in v (λ (S : State). true ≡ is_full S c.args.set c.args.limits.now) (λ K keeps. sym c.if-full.true ∙ c.full.ensures K keeps))
    (state_in v (λ (S : State). c.latest.result ≡ latest_of S c.args.set) c.latest.ensures) (state_in v (λ (S : State). c.next_id.result ≡ next_of S) c.next_id.ensures))

pub returns-in-Err-Failed-clause-answers : goal.returns-in-Err-Failed-clause-answers
returns-in-Err-Failed-clause-answers g c r limited told h =
    let p = g.P.Places.told c.args.places.now in
    let q = g.P.Places.told c.open_source.new.self in
    let v = c.args.keeper.now in
    let e = c.open_source.ensures in
    answers_at r c.args.running.now.items v c.args.limits.now p _ _ _ limited told h
    (no_source_line told_of IsStateBeside IsKnownStray c.args.limits.now v v p q q c.args.set c.args.name.now c.args.config.now
    (state_in v (λ (S : State). false ≡ is_full S c.args.set c.args.limits.now) (λ K keeps. sym c.if-full.false ∙ c.full.ensures K keeps)) e.files e.read_faults e.write_faults c.faults.result c.faults.ensures (e.cause.failed (c.in-Err-Failed.is ∙ ap (λ r. Err r) c.in-Err-Failed.field-0-is)))

pub returns-in-Err-Memory-clause-answers : goal.returns-in-Err-Memory-clause-answers
returns-in-Err-Memory-clause-answers g c r limited told h =
    let p = g.P.Places.told c.args.places.now in
    let q = g.P.Places.told c.open_source.new.self in
    let v = c.args.keeper.now in
    let e = c.open_source.ensures in
    answers_at r c.args.running.now.items v c.args.limits.now p _ _ _ limited told h
    (no_memory_line told_of IsStateBeside IsKnownStray c.args.limits.now v v p q q c.args.set c.args.name.now c.args.config.now
    (state_in v (λ (S : State). false ≡ is_full S c.args.set c.args.limits.now) (λ K keeps. sym c.if-full.false ∙ c.full.ensures K keeps)) e.files e.read_faults e.write_faults e.cause.later)

pub returns-in-Ok-result-clause-answers : goal.returns-in-Ok-result-clause-answers
returns-in-Ok-result-clause-answers g c r limited told h =
    let p = g.P.Places.told c.args.places.now in
    let m = g.P.Places.told c.open_source.new.self in
    let q = g.P.Places.told c.close_source.new.self in
    let o = c.in-Ok.ensures in
    let k = c.close_source.ensures in
    let done = c.stream_beside-source.ensures.backed_up r h in
    answers_at r c.stream_beside-source.new.running.items done.behind c.args.limits.now p (Backup c.args.set c.args.name.now c.args.config.now) _ _ limited told done.restores
    (backup_line_ok told_of IsStateBeside IsKnownStray c.args.limits.now done.behind c.stream_beside-source.new.keeper p m q c.args.set c.args.name.now c.as_str.result.now c.args.config.now c.in-Ok-result.answer
    (g.P.Reader.Source.told c.in-Ok.source) (g.P.Reader.Source.told c.stream_beside-source.result.0) c.as_str.ensures
    (record { reader = o.reader; opened_files = o.files; later = o.cause.later; reads = o.read_faults; writes = o.write_faults; closed_files = k.files; same = k.faults; added_reads = k.read_faults; same_writes = k.write_faults })
    (backed_up done.behind c.stream_beside-source.new.keeper c.args.set c.args.config.now c.args.limits.now (g.P.Reader.Source.told c.in-Ok.source) (g.P.Reader.Source.told c.stream_beside-source.result.0) c.stream_beside-source.result.1 _ done.core c.requires.config.cutting done.backs_up c.in-Ok-result.is))

pub returns-in-Err-clause-answers : goal.returns-in-Err-clause-answers
returns-in-Err-clause-answers g c r limited told h =
    let p = g.P.Places.told c.args.places.now in
    let m = g.P.Places.told c.open_source.new.self in
    let q = g.P.Places.told c.close_source.new.self in
    let o = c.in-Ok.ensures in
    let k = c.close_source.ensures in
    let numbered : c.with_read_number.result ≡ read_numbered q.read_faults c.in-Err.fault = c.with_read_number.ensures ∙ ap (λ (n : ℕ). read_numbered n c.in-Err.fault) c.read_faults.ensures in
    let done = c.stream_beside-source.ensures.backed_up r h in
    answers_at r c.stream_beside-source.new.running.items done.behind c.args.limits.now p (Backup c.args.set c.args.name.now c.args.config.now) _ _ limited told done.restores
    (backup_line_err told_of IsStateBeside IsKnownStray c.args.limits.now done.behind c.stream_beside-source.new.keeper p m q c.args.set c.args.name.now c.as_str.result.now c.args.config.now c.in-Err.fault c.with_read_number.result
    (g.P.Reader.Source.told c.in-Ok.source) (g.P.Reader.Source.told c.stream_beside-source.result.0) numbered c.as_str.ensures
    (record { reader = o.reader; opened_files = o.files; later = o.cause.later; reads = o.read_faults; writes = o.write_faults; closed_files = k.files; same = k.faults; added_reads = k.read_faults; same_writes = k.write_faults })
    (backed_up done.behind c.stream_beside-source.new.keeper c.args.set c.args.config.now c.args.limits.now (g.P.Reader.Source.told c.in-Ok.source) (g.P.Reader.Source.told c.stream_beside-source.result.0) c.stream_beside-source.result.1 _ done.core c.requires.config.cutting done.backs_up c.in-Err.is))

pub returns-then-full-clause-holds : goal.returns-then-full-clause-holds
returns-then-full-clause-holds g c = let r = c.requires.restores in held_there r.0 _ _ _ r.1 r.2

pub returns-in-Err-Failed-clause-holds : goal.returns-in-Err-Failed-clause-holds
returns-in-Err-Failed-clause-holds g c =
    let a = (g.P.Places.told c.args.places.now).files in
    let b = (g.P.Places.told c.open_source.new.self).files in
    let r = c.requires.restores in
    holds_over c.args.keeper.now a b (told_kept a b c.open_source.ensures.files) _ (held_there r.0 _ _ _ r.1 r.2)

pub returns-in-Err-Memory-clause-holds : goal.returns-in-Err-Memory-clause-holds
returns-in-Err-Memory-clause-holds g c =
    let a = (g.P.Places.told c.args.places.now).files in
    let b = (g.P.Places.told c.open_source.new.self).files in
    let r = c.requires.restores in
    holds_over c.args.keeper.now a b (told_kept a b c.open_source.ensures.files) _ (held_there r.0 _ _ _ r.1 r.2)

pub returns-in-Ok-result-clause-holds : goal.returns-in-Ok-result-clause-holds
returns-in-Ok-result-clause-holds g c =
    let p = g.P.Places.told c.args.places.now in
    let m = (g.P.Places.told c.open_source.new.self).files in
    let q = (g.P.Places.told c.close_source.new.self).files in
    let r = c.requires.restores in
    holds_backed r.0 p m q c.stream_beside-source.new.running.items c.args.set c.args.config.now c.args.limits.now c.stream_beside-source.new.keeper (g.P.Reader.Source.told c.in-Ok.source) (g.P.Reader.Source.told c.stream_beside-source.result.0) c.stream_beside-source.result.1 r.1 c.open_source.ensures.files c.close_source.ensures.files (c.stream_beside-source.ensures.backed_up r.0 r.2)

pub returns-in-Err-clause-holds : goal.returns-in-Err-clause-holds
returns-in-Err-clause-holds g c =
    let p = g.P.Places.told c.args.places.now in
    let m = (g.P.Places.told c.open_source.new.self).files in
    let q = (g.P.Places.told c.close_source.new.self).files in
    let r = c.requires.restores in
    holds_backed r.0 p m q c.stream_beside-source.new.running.items c.args.set c.args.config.now c.args.limits.now c.stream_beside-source.new.keeper (g.P.Reader.Source.told c.in-Ok.source) (g.P.Reader.Source.told c.stream_beside-source.result.0) c.stream_beside-source.result.1 r.1 c.open_source.ensures.files c.close_source.ensures.files (c.stream_beside-source.ensures.backed_up r.0 r.2)
