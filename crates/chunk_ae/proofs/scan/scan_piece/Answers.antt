use Rattle.std.proofs.Common.{◌≡◌, ◌⊎◌, inl, inr, ◌+◌, ◌-◌, ◌*◌, ◌%◌, ◌^◌, ◌<◌, get_or, refl, ◌∙◌, arith}
use Rattle.std.specs.Prelude.{bit_or, min}
use Rattle.chunk_ae.proofs.ScanLemmas.{Finds, code-on, code-end, code-all}
use Rattle.chunk_ae.proofs.scan.scan_piece.Goals as goal
use Rattle.chunk_ae.proofs.scan.scan_piece.Goals.{then-recent-peak, else-recent-peak}

ends : (c : goal.Then-i-stop) → Finds c.args.window c.args.max c.args.start.now.len c.loop-i.i c.loop-i.peak c.loop-i.stop
    (bit_or ((c.loop-i.recent * 2 ^ 8) % 2 ^ 64) (get_or c.args.piece.now c.loop-i.i 0)) c.if-recent-peak.peak c.if-recent-peak.stop
ends c = elim c.if-recent-peak.branch [
  | then-recent-peak w ↦ inl (w.if-recent-peak.true, w.peak-is, w.stop-is ∙ w.min-stop.ensures)
  | else-recent-peak w ↦ inr (w.if-recent-peak.false, w.peak-is, w.stop-is)
]

goes_on : (c : goal.Else-i-stop) → Finds c.args.window c.args.max c.args.start.now.len c.loop-i.i c.loop-i.peak c.loop-i.stop
    (bit_or ((c.loop-i.recent * 2 ^ 8) % 2 ^ 64) (get_or c.args.piece.now c.loop-i.i 0)) c.if-recent-peak.peak c.if-recent-peak.stop
goes_on c = elim c.if-recent-peak.branch [
  | then-recent-peak w ↦ inl (w.if-recent-peak.true, w.peak-is, w.stop-is ∙ w.min-stop.ensures)
  | else-recent-peak w ↦ inr (w.if-recent-peak.false, w.peak-is, w.stop-is)
]

pub returns-then-i-stop : goal.returns-then-i-stop
returns-then-i-stop c x h =
    code-end c.args.window c.args.max c.args.start.now.len x c.args.piece.now c.loop-i.i c.loop-i.recent c.loop-i.peak c.loop-i.stop
    (bit_or ((c.loop-i.recent * 2 ^ 8) % 2 ^ 64) (get_or c.args.piece.now c.loop-i.i 0)) c.if-recent-peak.peak c.if-recent-peak.stop
    (omega arith) c.loop-i-test.true (c.type_inv.piece c.loop-i.i).fits (c.loop-i.invariant.scan x h) refl (ends c) c.if-i-stop.true

pub loop-i-preserved : goal.loop-i-preserved
loop-i-preserved c =
    let stop_is : (c.if-recent-peak.stop ≡ min (c.loop-i.i + 1 + c.args.window) (c.args.max - c.args.start.now.len)) ⊎ (c.if-recent-peak.stop ≡ c.loop-i.stop) =
    elim c.if-recent-peak.branch [ then-recent-peak w ↦ inl (w.stop-is ∙ w.min-stop.ensures) | else-recent-peak w ↦ inr w.stop-is ] in
    let apart : c.loop-i.i + 1 ≡ c.if-recent-peak.stop → ⊥ = c.if-i-stop.false in
    let below : c.loop-i.i + 1 < c.if-recent-peak.stop = omega arith in
    record {
      below = below;
      within = omega arith;
      scan = λ x h.
          code-on c.args.window c.args.max c.args.start.now.len x c.args.piece.now c.loop-i.i c.loop-i.recent c.loop-i.peak c.loop-i.stop
          (bit_or ((c.loop-i.recent * 2 ^ 8) % 2 ^ 64) (get_or c.args.piece.now c.loop-i.i 0)) c.if-recent-peak.peak c.if-recent-peak.stop
          c.requires.some (omega arith) c.loop-i-test.true (c.type_inv.piece c.loop-i.i).fits (c.loop-i.invariant.scan x h) refl (goes_on c) below;
    }

pub returns : goal.returns
returns c x h =
    code-all c.args.window c.args.max c.args.start.now.len x c.args.piece.now c.loop-i.i c.loop-i.recent c.loop-i.peak c.loop-i.stop
    (omega arith) (c.loop-i.invariant.scan x h)
