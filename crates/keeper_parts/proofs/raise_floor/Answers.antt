use Rattle.std.proofs.Common.{◌∙◌, refl, sym, Some, None, inl}
use Rattle.vault_types.specs.Blobs.{floor_bytes}
use Rattle.vault_types.specs.Shelf.{floor_name, Stands}
use Rattle.vault_types.specs.Events.{IsNear}
use Rattle.vault_traits.proofs.Moments.{then, ends, stays}
use Rattle.state_laws.specs.Parts.{change}
use Rattle.state_laws.proofs.Changing.{raised, settle_moment, settle_leaves, told_same, told_with, done_of, failed_of}
use Rattle.keeper_parts.proofs.raise_floor.Goals as goal

pub returns-in_err-put_floor-clause-any_moment : goal.returns-in_err-put_floor-clause-any_moment
returns-in_err-put_floor-clause-any_moment g c A B changes here = raised A B _ _ _ refl changes c.put_floor.ensures.at_most here

pub returns-then-is_err-clause-any_moment : goal.returns-then-is_err-clause-any_moment
returns-then-is_err-clause-any_moment g c A B changes here =
    let first = raised A B _ _ _ refl changes c.put_floor.ensures.at_most here in
    let P = IsNear A (Some (change (floor_name c.args.set) (floor_bytes c.args.set c.args.floor) B)) in
    then P _ _ _ first (stays P _ _ (failed_of c.settle.result (sym c.is_err.ensures.value ∙ c.if-is_err.true) c.settle.ensures.failed) (ends P _ _ first))

pub returns-clause-any_moment : goal.returns-clause-any_moment
returns-clause-any_moment g c A B changes here =
    let first = raised A B _ _ _ refl changes c.put_floor.ensures.at_most here in
    let P = IsNear A (Some (change (floor_name c.args.set) (floor_bytes c.args.set c.args.floor) B)) in
    then P _ _ _ first (settle_moment P _ _ _ (g.met.S.Shelf.reads_an_image c.put_floor.new.shelf) (done_of c.settle.result (sym c.is_err.ensures.value ∙ c.if-is_err.false) c.settle.ensures.ok) (ends P _ _ first))

pub returns-clause-acknowledged : goal.returns-clause-acknowledged
returns-clause-acknowledged g c A B changes here =
    settle_leaves (IsNear B None) _ _ _ (g.met.S.Shelf.reads_an_image c.put_floor.new.shelf) (done_of c.settle.result (sym c.is_err.ensures.value ∙ c.if-is_err.false) c.settle.ensures.ok)
    (told_same (IsNear B None) _ _ c.in_ok-put_floor.ensures.ok.blobs
    (told_with (λ m. Stands m A) (IsNear B None) _ (floor_name c.args.set) (Some (floor_bytes c.args.set c.args.floor)) (λ m stands. inl (changes m stands)) here))
