use Rattle.std.specs.Prelude.{true}
use Rattle.std.proofs.Common.{sym, subst, None}
use Rattle.vault_types.specs.State.{State}
use Rattle.vault_traits.specs.Told.{ShelfTold}
use Rattle.store_model.specs.Leaves.{Begins}
use Rattle.store_model.specs.Script.{RunsLines}
use Rattle.store_model.specs.Strays.{StraysOf}
use Rattle.run_laws.proofs.Earlier.{runs_opened}
use Rattle.command_runner.proofs.opened.run_over.Goals as goal

pub returns-in-Ok-script_plain-clause-ok : goal.returns-in-Ok-script_plain-clause-ok
returns-in-Ok-script_plain-clause-ok g c =
    let old = g.S.Shelf.told c.args.shelf in
    let p = g.P.Places.told c.args.places.now in
    let q = g.P.Places.told c.script_plain.new.places in
    let done = c.in-Ok-script_plain.done in
    record {
      opened = c.in-Ok.ensures.opened;
      runs = subst (λ (t : ShelfTold). RunsLines true (Begins old) (StraysOf old) c.args.limits.now c.args.lines.now done.answers.items old t p q) (sym c.close-in-Ok-script_plain.ensures)
          (runs_opened true c.args.limits.now c.args.lines.now done.answers.items old (g.K.StateKeeper.shelf c.in-Ok.store) (g.K.StateKeeper.shelf done.store) p q (λ (T : State). g.K.StateKeeper.keeps c.in-Ok.store T None) (Begins old)
          (λ (T : State). g.K.StateKeeper.strays c.in-Ok.store) (StraysOf old) c.in-Ok.ensures.same c.in-Ok.ensures.keeps c.in-Ok.ensures.strays c.in-Ok-script_plain.ensures.runs);
    }

pub returns-in-Ok-script_plain-clause-room : goal.returns-in-Ok-script_plain-clause-room
returns-in-Ok-script_plain-clause-room g c T sources begins fed told = c.in-Ok-script_plain.ensures.room T sources (c.in-Ok.ensures.keeps T begins) fed told
