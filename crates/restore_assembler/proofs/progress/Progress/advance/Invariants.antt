use Rattle.std.proofs.Common.{◌≡◌, ◌-◌, length}
use Rattle.restore_assembler.specs.Progress.{IsProgress, Advances}
use Rattle.restore_assembler.proofs.progress.Progress.advance.Given as goal

abbrev pub decreases-loop-self : goal.decreases-loop-self
decreases-loop-self g l = length l.self.steps.items - l.self.step

abbrev pub invariant-loop-self : goal.invariant-loop-self
invariant-loop-self g l =
    let s = g.K.Sink in
    record {
      spots : l.self.spots ≡ l.fn.self.spots;
      slots : l.self.slots ≡ l.fn.self.slots;
      whole : l.self.whole ≡ l.fn.self.whole;
      going : IsProgress l.self;
      advances : Advances l.fn.self l.self (s.told l.fn.sink) (s.told l.sink);
    }
