use Rattle.std.proofs.Common.{ℕ, List, drop, take, flat_map, subst}
use Rattle.std.proofs.lemmas.Result.{err_from_is_err_and}
use Rattle.vault_types.specs.Bytes.{spot_bytes}
use Rattle.restore_assembler.specs.Payloads.{run_length, first_id}
use Rattle.vault_traits.specs.CutOff.{IsCutOff}
use Rattle.restore_assembler.specs.Writing.{IsWrittenWithSum}
use Rattle.restore_assembler.proofs.Runs.{run_found, bytes_found, next_within, next_bytes, run_parts}
use Rattle.restore_assembler.proofs.Written.{cut_off_before}
use Rattle.restore_assembler.proofs.progress.Progress.serve.Goals as goal

pub write_run-requires : goal.write_run-requires
write_run-requires g c =
    let p = c.args.self.now in
    let run = run_found p.spots.items c.deref.result.now p.done c.run_len-run.result c.deref.ensures.value c.run_len-run.ensures.run in
    let bytes = bytes_found p.spots.items c.deref.result.now p.done p.present.items c.as_slice.result.now c.bytes_of-bytes.result.now c.deref.ensures.value c.as_slice.ensures.value c.bytes_of-bytes.ensures in
    next_within p.spots.items c.deref.result.now p.done c.run_len-run.result p.present.items c.bytes_of-bytes.result.now c.deref.ensures.value run bytes c.requires.present c.requires.covering

pub returns-in_err-write_run-clause-err : goal.returns-in_err-write_run-clause-err
returns-in_err-write_run-clause-err g c =
    let p = c.args.self.now in
    let left = drop p.done p.spots.items in
    let told = g.K.Sink.told in
    let run = run_found p.spots.items c.deref.result.now p.done c.run_len-run.result c.deref.ensures.value c.run_len-run.ensures.run in
    let bytes = bytes_found p.spots.items c.deref.result.now p.done p.present.items c.as_slice.result.now c.bytes_of-bytes.result.now c.deref.ensures.value c.as_slice.ensures.value c.bytes_of-bytes.ensures in
    let r = err_from_is_err_and c.from_residual.result c.from_residual.ensures.1 in
    rw r.1 (λ payload known.
    let n : ℕ = run_length (first_id left) left in
    subst (λ (bs : List ℕ). IsCutOff bs (told c.args.sink.now) (told c.write_run.new.sink)) (run_parts payload n left)
    (cut_off_before (flat_map (spot_bytes payload) (take n left)) (flat_map (spot_bytes payload) (drop n left)) (told c.args.sink.now) (told c.write_run.new.sink)
    (subst (λ (bs : List ℕ). IsCutOff bs (told c.args.sink.now) (told c.write_run.new.sink))
    (next_bytes payload p.spots.items c.deref.result.now p.done c.run_len-run.result p.present.items c.bytes_of-bytes.result.now c.deref.ensures.value run bytes c.requires.present known)
    c.in_err-write_run.ensures.err)))

pub returns-clause-ok : goal.returns-clause-ok
returns-clause-ok g c = λ payload known.
    let p = c.args.self.now in
    let told = g.K.Sink.told in
    let run = run_found p.spots.items c.deref.result.now p.done c.run_len-run.result c.deref.ensures.value c.run_len-run.ensures.run in
    let bytes = bytes_found p.spots.items c.deref.result.now p.done p.present.items c.as_slice.result.now c.bytes_of-bytes.result.now c.deref.ensures.value c.as_slice.ensures.value c.bytes_of-bytes.ensures in
    subst (λ (bs : List ℕ). IsWrittenWithSum bs (told c.args.sink.now) (told c.write_run.new.sink) p.sum c.write_run.new.sum)
    (next_bytes payload p.spots.items c.deref.result.now p.done c.run_len-run.result p.present.items c.bytes_of-bytes.result.now c.deref.ensures.value run bytes c.requires.present known)
    c.in_ok-write_run.ensures.ok
