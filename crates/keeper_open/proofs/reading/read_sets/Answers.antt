use Rattle.std.proofs.Common.{◌∙◌, sym, subst, arith, Option, ◌++◌, ◌∷◌, [], get_or, refl}
use Rattle.vault_types.specs.Shelf.{Blobs}
use Rattle.vault_traits.specs.Shelf.{IsListing}
use Rattle.std.specs.Prelude.{IfSome}
use Rattle.vault_types.specs.FirstDamage.{IsDamageOf}
use Rattle.keeper_open.specs.Reading.{IsSetDamage, IsSetRead}
use Rattle.keeper_open.proofs.Gathering.{causes_again, floor_of_set, set_more_read}
use Rattle.keeper_open.proofs.Damaging.{set_damage}
use Rattle.keeper_open.proofs.reading.read_sets.Goals as goal

pub read_set-requires : goal.read_set-requires
read_set-requires g c =
    let inv = c.loop-number.invariant in
    let told = (g.S.Shelf.told c.args.shelf.now).blobs in
    let now = (g.S.Shelf.told c.loop-number.shelf).blobs in
    record {
      listing = subst (λ (t : Option Blobs). IfSome t (λ m. IsListing m c.args.names.now)) (sym inv.kept.blobs) c.requires.listing;
      floor = floor_of_set told now c.args.floors.now c.loop-number.number inv.kept.blobs c.requires.floors c.requires.count (omega arith);
    }

pub returns-in_err-info-clause-causes : goal.returns-in_err-info-clause-causes
returns-in_err-info-clause-causes g c =
    let inv = c.loop-number.invariant in
    let told = (g.S.Shelf.told c.args.shelf.now).blobs in
    let now = (g.S.Shelf.told c.loop-number.shelf).blobs in
    let floor = get_or c.args.floors.now c.loop-number.number 0 in
    causes_again _ _ _ (IsSetDamage now c.loop-number.number floor) (IsDamageOf told) inv.later c.in_err-info.ensures.causes.later
    (set_damage told now c.args.floors.now c.loop-number.sets.items c.loop-number.number floor c.args.notes.now c.loop-number.notes inv.read.0 inv.kept.blobs c.requires.floors c.requires.count inv.read.1 (omega arith) (floor_of_set told told c.args.floors.now c.loop-number.number refl c.requires.floors c.requires.count (omega arith)))
    c.in_err-info.field-0.0 c.in_err-info.ensures.causes.each c.from_residual.result c.from_residual.ensures.1

pub loop-number-preserved : goal.loop-number-preserved
loop-number-preserved g c =
    let inv = c.loop-number.invariant in
    let told = (g.S.Shelf.told c.args.shelf.now).blobs in
    let read = c.in_ok-info.ensures.read in
    record {
      kept = record { blobs = c.read_set.ensures.kept.blobs ∙ inv.kept.blobs; history = c.read_set.ensures.kept.history ∙ inv.kept.history };
      gets = c.read_set.ensures.gets ∙ inv.gets;
      later = omega (arith, inv.later, c.read_set.ensures.causes.later);
      read = (
        inv.read.0 ++ record { info = c.in_ok-info.info; recipes = read.0 } ∷ [],
        set_more_read told c.loop-number.sets.items c.push.new.self.items c.loop-number.number c.args.notes.now c.loop-number.notes c.read_set.new.notes inv.read.0 c.in_ok-info.info read.0 inv.read.1
            (subst (λ (t : Option Blobs). IsSetRead t c.loop-number.number c.in_ok-info.info read.0) inv.kept.blobs read.1) read.3 c.in_ok-push.ensures.items,
      );
    }
