use Rattle.std.proofs.Common.{◌≡◌, true, false, refl, sym, ◌∙◌}
use Rattle.std.proofs.Math.Nat.{le_refl}
use Rattle.vault_types.specs.State.{State, is_kept, floor_of, latest_of}
use Rattle.keeper_core.specs.Keeping.{IsKnownStray}
use Rattle.restore_turns.specs.Entry.{IsStateBeside}
use Rattle.script_laws.proofs.WholeLines.{not_kept_line, no_room_line}
use Rattle.beside_steps.proofs.Answered.{told_of, state_in, unopened}
use Rattle.beside_steps.proofs.restores.begin_restore.Goals as goal

pub returns-then-not-kept-clause-refused : goal.returns-then-not-kept-clause-refused
returns-then-not-kept-clause-refused g c =
    let p = g.P.Places.told c.args.places.now in
    let v = c.args.keeper.now in
    not_kept_line told_of IsStateBeside IsKnownStray c.args.limits.now v v p p p c.args.set c.args.version c.args.name.now c.args.slots c.floor.result c.latest.result
    (state_in v (λ (S : State). false ≡ is_kept S c.args.set c.args.version) (λ K keeps. sym c.if-not-kept.true ∙ c.kept.ensures K keeps))
    (state_in v (λ (S : State). c.floor.result ≡ floor_of S c.args.set) c.floor.ensures) (state_in v (λ (S : State). c.latest.result ≡ latest_of S c.args.set) c.latest.ensures)

pub returns-in-Err-clause-refused : goal.returns-in-Err-clause-refused
returns-in-Err-clause-refused g c =
    let p = g.P.Places.told c.args.places.now in
    let v = c.args.keeper.now in
    no_room_line told_of IsStateBeside IsKnownStray c.args.limits.now v v p p p c.args.set c.args.version c.args.name.now c.args.slots
    (state_in v (λ (S : State). true ≡ is_kept S c.args.set c.args.version) (λ K keeps. sym c.if-not-kept.false ∙ c.kept.ensures K keeps))
    (unopened p.files c.args.name.now) refl refl (le_refl p.faults)
