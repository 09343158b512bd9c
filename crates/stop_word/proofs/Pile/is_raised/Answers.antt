use Rattle.std.proofs.Common.{◌≡◌, ap, sym, ◌∙◌, arith, rules}
use Rattle.stop_word.proofs.Words.{knows_at}
use Rattle.stop_word.proofs.Pile.is_raised.Goals as goal

pub load-requires : goal.load-requires
load-requires c = let whole : c.self.inside.seat.me.0.parts ≡ c.deref.result.now.shared.key = ap (λ h. h.parts) c.self.view_is ∙ c.requires ∙ sym (ap (λ h. h.family.count) c.self.view_is) ∙ ap (λ b. b.shared.key) (sym c.deref.ensures) in
    (search rules, rw c.deref.ensures (omega (arith, c.self.invariant.1)), knows_at _ _ _ _ c.self.invariant.2 whole (omega (arith, whole, c.self.invariant.3)))
