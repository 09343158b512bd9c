use Rattle.std.specs.Prelude.{false, ℕ, List}
use Rattle.std.proofs.Common.{[], sym, subst, None}
use Rattle.vault_types.specs.State.{State}
use Rattle.vault_types.specs.declared.Name.{Name}
use Rattle.vault_traits.specs.Told.{ShelfTold}
use Rattle.store_model.specs.Leaves.{Begins}
use Rattle.store_model.specs.Script.{RunsLines}
use Rattle.store_model.specs.Strays.{StraysOf}
use Rattle.keeper_catalog.specs.View.{View}
use Rattle.keeper_core.specs.Keeping.{IsKnownStray}
use Rattle.restore_turns.specs.Entry.{IsStateBeside}
use Rattle.run_laws.proofs.Earlier.{runs_opened}
use Rattle.threaded_runner.proofs.beside.run_beside.Goals as goal

pub returns-in-Ok-run_lines-clause-ok : goal.returns-in-Ok-run_lines-clause-ok
returns-in-Ok-run_lines-clause-ok g c =
    let old = g.S.Shelf.told c.args.shelf in
    let p = g.P.Places.told c.args.places.now in
    let q = g.P.Places.told c.run_lines.new.places in
    let v = c.in-Ok.store in
    let w = c.run_lines.new.keeper in
    let answers = c.in-Ok-run_lines.answers.items in
    record {
      opened = c.in-Ok.ensures.opened;
      runs = subst (λ (t : ShelfTold). RunsLines false (Begins old) (StraysOf old) c.args.limits.now c.args.lines.now answers old t p q) (sym c.close-in-Ok-run_lines.ensures.told)
          (runs_opened false c.args.limits.now c.args.lines.now answers old v.told w.told p q (λ (T : State). IsStateBeside v T None) (Begins old)
          (λ (T : State) (name : Name). IsKnownStray v name) (StraysOf old) c.in-Ok.ensures.same (λ T begins. ([], c.in-Ok.ensures.keeps T begins)) c.in-Ok.ensures.strays
          (subst (λ (u : View). RunsLines false (λ (T : State). IsStateBeside u T None) (λ (T : State) (name : Name). IsKnownStray u name) c.args.limits.now c.args.lines.now answers u.told w.told p q)
          c.into_keeper-keeper.ensures.keeper c.in-Ok-run_lines.ensures.runs));
    }
