use Rattle.std.proofs.Common.{◌≡◌, ◌+◌, ℕ, Bool, cond, Option, sym, ap, subst, ◌∙◌, arith}
use Rattle.vault_types.specs.declared.Fault.{Fault}
use Rattle.vault_types.specs.State.{State}
use Rattle.vault_types.specs.Events.{Change}
use Rattle.keeper_core.specs.Keeping.{IsStateOf}
use Rattle.serial_migrate.specs.Going.{HasEndedBy}
use Rattle.serial_migrate.proofs.Ones.{later_of}
use Rattle.serial_migrate.proofs.Steps.{InSet, enter_here, leave_here, next_here, stop_here, all_sets, err_again}
use Rattle.serial_migrate.proofs.migrating.migrate_all.Goals.{then-branch, else-branch}
use Rattle.serial_migrate.proofs.migrating.migrate_all.Goals as goal

pub loop-keeper-init : goal.loop-keeper-init
loop-keeper-init g c =
    let inv = c.loop-number.invariant in
    record {
      small = omega (arith, inv.small);
      later = inv.later;
      gone = enter_here c.args.keeper.now c.loop-number.keeper c.loop-number.number c.loop-number.recipes c.floor-version.result c.floor-version.ensures inv.gone;
    }

pub returns-in_err-migrate_one-clause-err : goal.returns-in_err-migrate_one-clause-err
returns-in_err-migrate_one-clause-err g c =
    err_again (λ (f : Fault). (S : State) (other : Option Change) → IsStateOf c.args.keeper.now S other → HasEndedBy c.args.keeper.now c.migrate_one.new.keeper S other f) c.from_residual.result c.in_err-migrate_one.field-0.0 c.from_residual.ensures.1
    (stop_here c.args.keeper.now c.loop-keeper.keeper c.loop-number.number c.migrate_one.new.keeper c.loop-keeper.version c.loop-keeper.recipes (λ K keeps. sym c.loop-keeper-test.true ∙ c.kept.ensures K keeps) c.loop-keeper.invariant.gone
    c.in_err-migrate_one.field-0.0 (omega (arith, c.loop-number-test.true)) c.in_err-migrate_one.ensures.err)

pub loop-keeper-preserved : goal.loop-keeper-preserved
loop-keeper-preserved g c =
    let inv = c.loop-keeper.invariant in
    let more = next_here c.args.keeper.now c.loop-keeper.keeper c.loop-number.number c.migrate_one.new.keeper c.loop-keeper.version c.loop-keeper.recipes (λ K keeps. sym c.loop-keeper-test.true ∙ c.kept.ensures K keeps) inv.gone
    c.in_ok-migrate_one.field-0 c.in_ok-migrate_one.ensures.ok in
    elim c.if-branch.branch [
      | then-branch w ↦
          let e : c.loop-keeper.recipes + cond c.in_ok-migrate_one.field-0 1 0 ≡ c.if-branch.recipes = ap (λ (b : Bool). c.loop-keeper.recipes + cond b 1 0) w.if-branch.true ∙ sym w.recipes-is in
          record {
            small = omega (arith, inv.small, w.recipes-is);
            later = later_of c.args.keeper.now c.loop-keeper.keeper c.migrate_one.new.keeper inv.later c.migrate_one.ensures.later;
            gone = λ S other here. subst (λ (r : ℕ). InSet c.args.keeper.now c.migrate_one.new.keeper S other c.loop-number.number (c.loop-keeper.version + 1) r) e (more S other here);
          }
      | else-branch w ↦
          let none : c.loop-keeper.recipes + 0 ≡ c.loop-keeper.recipes = omega arith in
          let e : c.loop-keeper.recipes + cond c.in_ok-migrate_one.field-0 1 0 ≡ c.if-branch.recipes = ap (λ (b : Bool). c.loop-keeper.recipes + cond b 1 0) w.if-branch.false ∙ none ∙ sym w.recipes-is in
          record {
            small = omega (arith, inv.small, w.recipes-is);
            later = later_of c.args.keeper.now c.loop-keeper.keeper c.migrate_one.new.keeper inv.later c.migrate_one.ensures.later;
            gone = λ S other here. subst (λ (r : ℕ). InSet c.args.keeper.now c.migrate_one.new.keeper S other c.loop-number.number (c.loop-keeper.version + 1) r) e (more S other here);
          }
    ]

pub loop-number-preserved : goal.loop-number-preserved
loop-number-preserved g c =
    let inv = c.loop-keeper.invariant in
    record {
      low = omega (arith, c.loop-number-test.true);
      small = omega (arith, inv.small, c.loop-keeper.auto.version-fits);
      later = inv.later;
      gone = leave_here c.args.keeper.now c.loop-keeper.keeper c.loop-number.number c.loop-keeper.version c.loop-keeper.recipes (λ K keeps. sym c.loop-keeper-test.false ∙ c.kept.ensures K keeps) inv.gone;
    }

pub returns-clause-ok : goal.returns-clause-ok
returns-clause-ok g c =
    all_sets c.args.keeper.now c.loop-number.keeper c.loop-number.number c.loop-number.recipes (omega (arith, c.loop-number.invariant.low, c.loop-number-test.false)) c.loop-number.invariant.gone
