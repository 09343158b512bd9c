use Rattle.std.proofs.Common.{◌≡◌, ◌++◌, length, arith, refl, sym, ◌∙◌, ap}
use Rattle.stage_lanes.specs.Lanes.{after}
use Rattle.stage_lanes.proofs.Dealers.{HasDealt_still, HasDealt_part}
use Rattle.stage_lanes.proofs.dealer.Dealer.send.Goals as goal

pub tell-requires-clause-dealt : goal.tell-requires-clause-dealt
tell-requires-clause-dealt g c = let d = c.args.self.now in let r = c.requires.dealt in let e = c.send_to.ensures.done c.in-Done.is in
    (r.0, r.1, HasDealt_still d _ r.0 r.1 r.2 c.send_to.ensures.len refl (ap (λ q. q ++ d.later.items) (e.0 ∙ sym e.1)) refl refl e.2)

pub tell-requires-clause-ready : goal.tell-requires-clause-ready
tell-requires-clause-ready g c = let e = c.send_to.ensures.done c.in-Done.is in (e.0, c.requires.none e.1)

pub returns-in-Moved-clause-dealt : goal.returns-in-Moved-clause-dealt
returns-in-Moved-clause-dealt g c parts l h = let d = c.args.self.now in let m = c.send_to.ensures.moved c.in-Moved.is in
    let count : c.len.result ≡ length d.lanes.items = omega (arith, c.len.ensures, c.send_to.ensures.len) in
    HasDealt_part d _ m.0 parts l h (ap (λ q. q ++ d.later.items) m.1) m.2 c.send_to.ensures.len (c.following-self.ensures.next ∙ ap (λ n. after n d.next) count) (omega (arith, c.following-self.ensures.below, c.len.ensures, c.send_to.ensures.len)) refl refl

pub returns-in-Idle-clause-dealt : goal.returns-in-Idle-clause-dealt
returns-in-Idle-clause-dealt g c parts l h = let e = c.send_to.ensures.idle c.in-Idle.is in
    HasDealt_still c.args.self.now _ parts l h c.send_to.ensures.len refl (ap (λ q. q ++ c.args.self.now.later.items) e.0) refl refl e.1

pub returns-in-Done-clause-dealt : goal.returns-in-Done-clause-dealt
returns-in-Done-clause-dealt g c parts l h = let d = c.args.self.now in let e = c.send_to.ensures.done c.in-Done.is in
    c.tell.ensures.dealt parts l (HasDealt_still d _ parts l h c.send_to.ensures.len refl (ap (λ q. q ++ d.later.items) (e.0 ∙ sym e.1)) refl refl e.2)
