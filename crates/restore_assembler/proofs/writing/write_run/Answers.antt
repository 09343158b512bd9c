use Rattle.std.proofs.Common.{◌≡◌, ◌+◌, ◌≤◌, length, get_or, flat_map, ap, subst}
use Rattle.std.proofs.lemmas.Result.{on_ok_weaker, err_from_is_err_and}
use Rattle.std.proofs.lemmas.List.{take_all}
use Rattle.std.proofs.lemmas.List.Elements.{All-get_or}
use Rattle.vault_types.specs.declared.Spot.{Spot}
use Rattle.restore_assembler.specs.Writing.{IsWaiting}
use Rattle.restore_assembler.proofs.Waiting.{bytes_in, bytes_to, waits_longer, waits_anew, all_written, waiting_cut_off}
use Rattle.restore_assembler.proofs.writing.write_run.Goals as goal
use Rattle.restore_assembler.proofs.writing.write_run.Goals.{then-at-end+in_ok-write_piece, else-at-end}

pub returns-in_err-write_piece-clause-err : goal.returns-in_err-write_piece-clause-err
returns-in_err-write_piece-clause-err g c =
    let told = g.K.Sink.told in
    let p = err_from_is_err_and c.from_residual.result c.from_residual.ensures.1 in
    rw p.1 (waiting_cut_off c.args.payload.now c.args.run.now c.loop-spot.spot-index c.loop-spot.start c.loop-spot.end (told c.args.sink.now) (told c.loop-spot.sink) (told c.write_piece.new.sink) _ _ c.loop-spot.invariant c.in_err-write_piece.ensures.err)

pub loop-spot-preserved : goal.loop-spot-preserved
loop-spot-preserved g c =
    let told = g.K.Sink.told in
    let payload = c.args.payload.now in
    let run = c.args.run.now in
    let i = c.loop-spot.spot-index in
    let d : Spot = record { id = 0; at = 0; len = 0 } in
    let within : (get_or run i d).at + (get_or run i d).len ≤ length payload = All-get_or (λ (spot : Spot). spot.at + spot.len ≤ length payload) run i d c.loop-spot-test.true c.requires in
    elim c.if-at-end.branch [
      | then-at-end+in_ok-write_piece w ↦
          rw w.start-is (rw w.sink-is (rw w.sum-is
          (waits_anew payload run i d (told c.args.sink.now) (told w.write_piece.new.sink) c.args.sum.now w.write_piece.new.sum c.loop-spot-test.true within
          (all_written payload (bytes_to payload run i) c.loop-spot.start c.loop-spot.end (told c.args.sink.now) (told c.loop-spot.sink) (told w.write_piece.new.sink) c.args.sum.now c.loop-spot.sum w.write_piece.new.sum c.loop-spot.invariant w.in_ok-write_piece.ensures.ok))))
      | else-at-end w ↦
          rw w.start-is (rw w.sink-is (rw w.sum-is
          (waits_longer payload run i c.loop-spot.start c.loop-spot.end d (told c.args.sink.now) (told c.loop-spot.sink) c.args.sum.now c.loop-spot.sum c.loop-spot-test.true w.if-at-end.false within c.loop-spot.invariant)))
    ]

pub returns-clause-ok : goal.returns-clause-ok
returns-clause-ok g c =
    let told = g.K.Sink.told in
    let payload = c.args.payload.now in
    let run = c.args.run.now in
    let all : bytes_to payload run c.loop-spot.spot-index ≡ flat_map (bytes_in payload) run = ap (flat_map (bytes_in payload)) (take_all c.loop-spot.spot-index run c.loop-spot-test.false) in
    on_ok_weaker c.write_piece-2.result
    (all_written payload (flat_map (bytes_in payload) run) c.loop-spot.start c.loop-spot.end (told c.args.sink.now) (told c.loop-spot.sink) (told c.write_piece-2.new.sink) c.args.sum.now c.loop-spot.sum c.write_piece-2.new.sum
    (subst (λ bytes. IsWaiting payload bytes c.loop-spot.start c.loop-spot.end (told c.args.sink.now) (told c.loop-spot.sink) c.args.sum.now c.loop-spot.sum) all c.loop-spot.invariant))
    c.write_piece-2.ensures.ok
