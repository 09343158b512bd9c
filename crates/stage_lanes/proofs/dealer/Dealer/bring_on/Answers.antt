use Rattle.std.proofs.Common.{rules, ◌≡◌, ◌++◌, List, [], refl, sym, ap, ◌∙◌, append-nil}
use Rattle.stage_lanes.proofs.Dealers.{HasDealt_still}
use Rattle.stage_lanes.proofs.dealer.Dealer.bring_on.Goals as goal

pub returns-then-is_empty-clause-dealt : goal.returns-then-is_empty-clause-dealt
returns-then-is_empty-clause-dealt g c parts l h = let d = c.args.self.now in let none : d.ready ≡ [] = search rules in
    HasDealt_still d _ parts l h refl refl
    ((λ i. c.take_over.ensures.here i ++ c.take_over.ensures.there i) ∙ append-nil d.later.items ∙ ap (λ q. q ++ d.later.items) (sym none))
    refl refl (λ f all. all)
