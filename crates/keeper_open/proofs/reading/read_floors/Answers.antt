use Rattle.std.proofs.Common.{◌∙◌, ap, subst, arith, Option, ℕ, length-append, length, ◌+◌, [], ◌∷◌}
use Rattle.vault_types.specs.Shelf.{Blobs}
use Rattle.vault_types.specs.BlobDamage.{IsFloorIn, IsFloorDamage}
use Rattle.vault_types.specs.FirstDamage.{IsDamageOf}
use Rattle.keeper_open.proofs.Gathering.{causes_again, floor_pushed, floor_damage}
use Rattle.keeper_open.proofs.reading.read_floors.Goals as goal

pub returns-in_err-floor-clause-causes : goal.returns-in_err-floor-clause-causes
returns-in_err-floor-clause-causes g c =
    let inv = c.loop-number.invariant in
    let told = (g.S.Shelf.told c.args.shelf.now).blobs in
    let now = (g.S.Shelf.told c.loop-number.shelf).blobs in
    causes_again _ _ _ (IsFloorDamage now c.loop-number.number) (IsDamageOf told) inv.later c.in_err-floor.ensures.causes.later
    (floor_damage told now c.loop-number.floors.items c.loop-number.number inv.kept.blobs inv.floors inv.count (omega arith)) c.in_err-floor.field-0.0 c.in_err-floor.ensures.causes.each c.from_residual.result c.from_residual.ensures.1

pub loop-number-preserved : goal.loop-number-preserved
loop-number-preserved g c =
    let inv = c.loop-number.invariant in
    let told = (g.S.Shelf.told c.args.shelf.now).blobs in
    record {
      kept = record { blobs = c.floor_in.ensures.kept.blobs ∙ inv.kept.blobs; history = c.floor_in.ensures.kept.history ∙ inv.kept.history };
      gets = c.floor_in.ensures.gets ∙ inv.gets;
      later = omega (arith, inv.later, c.floor_in.ensures.causes.later);
      floors = floor_pushed told c.loop-number.floors.items c.push.new.self.items c.loop-number.number c.in_ok-floor.floor inv.floors inv.count
          (subst (λ (t : Option Blobs). IsFloorIn t c.loop-number.number c.in_ok-floor.floor) inv.kept.blobs c.in_ok-floor.ensures.found) c.in_ok-push.ensures.items;
      count = ap length c.in_ok-push.ensures.items ∙ length-append c.loop-number.floors.items (c.in_ok-floor.floor ∷ []) ∙ ap (λ (n : ℕ). n + 1) inv.count;
    }
