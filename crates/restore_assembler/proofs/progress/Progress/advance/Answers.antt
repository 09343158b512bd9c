use Rattle.std.proofs.Common.{◌∙◌}
use Rattle.std.proofs.lemmas.Result.{err_from_is_err_and}
use Rattle.restore_assembler.proofs.Steps.{advances_then, advances_cut_off}
use Rattle.restore_assembler.proofs.progress.Progress.advance.Goals as goal

pub returns-in_err-take_step-clause-err : goal.returns-in_err-take_step-clause-err
returns-in_err-take_step-clause-err g c =
    let told = g.K.Sink.told in
    let r = err_from_is_err_and c.from_residual.result c.from_residual.ensures.1 in
    rw r.1 (λ payload known. advances_cut_off c.args.self.now c.loop-self.self payload (told c.args.sink.now) (told c.loop-self.sink) (told c.take_step.new.sink) c.loop-self.invariant.advances known c.in_err-take_step.ensures.err)

pub loop-self-preserved : goal.loop-self-preserved
loop-self-preserved g c =
    let told = g.K.Sink.told in
    record {
      spots = c.take_step.ensures.stays ∙ c.loop-self.invariant.spots;
      slots = c.take_step.ensures.slots ∙ c.loop-self.invariant.slots;
      whole = c.take_step.ensures.whole ∙ c.loop-self.invariant.whole;
      going = c.take_step.ensures.going;
      advances = advances_then c.args.self.now c.loop-self.self c.take_step.new.self (told c.args.sink.now) (told c.loop-self.sink) (told c.take_step.new.sink) c.loop-self.invariant.advances c.in_ok-take_step.ensures.advances;
    }

pub returns-then-not-branch-clause-advances : goal.returns-then-not-branch-clause-advances
returns-then-not-branch-clause-advances g c =
    let told = g.K.Sink.told in
    advances_then c.args.self.now c.loop-self.self c.take_step.new.self (told c.args.sink.now) (told c.loop-self.sink) (told c.take_step.new.sink) c.loop-self.invariant.advances c.in_ok-take_step.ensures.advances

pub returns-then-not-branch-clause-stays : goal.returns-then-not-branch-clause-stays
returns-then-not-branch-clause-stays g c = c.take_step.ensures.stays ∙ c.loop-self.invariant.spots

pub returns-then-not-branch-clause-whole : goal.returns-then-not-branch-clause-whole
returns-then-not-branch-clause-whole g c = c.take_step.ensures.whole ∙ c.loop-self.invariant.whole

pub returns-in_err-take_step-clause-stays : goal.returns-in_err-take_step-clause-stays
returns-in_err-take_step-clause-stays g c = c.take_step.ensures.stays ∙ c.loop-self.invariant.spots

pub returns-in_err-take_step-clause-whole : goal.returns-in_err-take_step-clause-whole
returns-in_err-take_step-clause-whole g c = c.take_step.ensures.whole ∙ c.loop-self.invariant.whole

pub returns-then-not-branch-clause-slots : goal.returns-then-not-branch-clause-slots
returns-then-not-branch-clause-slots g c = c.take_step.ensures.slots ∙ c.loop-self.invariant.slots

pub returns-in_err-take_step-clause-slots : goal.returns-in_err-take_step-clause-slots
returns-in_err-take_step-clause-slots g c = c.take_step.ensures.slots ∙ c.loop-self.invariant.slots
