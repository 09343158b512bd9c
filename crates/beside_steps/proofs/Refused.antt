-- A restore's line that is refused at its pin or its plan.
use Rattle.std.proofs.Common.{◌≡◌, ℕ, true, List, [], Err, ◌∙◌}
use Rattle.vault_types.specs.declared.Answer.TheVariants.{Refused}
use Rattle.vault_types.specs.declared.Fault.{Fault}
use Rattle.vault_types.specs.declared.Limits.{Limits}
use Rattle.vault_types.specs.declared.Line.TheVariants.{Restore}
use Rattle.vault_types.specs.Events.{Core, Pin}
use Rattle.vault_types.specs.State.{State, is_kept}
use Rattle.vault_traits.specs.Files.{IsEmptied, IsWhatWasTaken}
use Rattle.vault_traits.specs.Told.{SinkTold, PlacesTold}
use Rattle.store_model.specs.Calls.{AroundSink, RestoresLine}
use Rattle.store_model.specs.Steps.{StepsLine, write_numbered}
use Rattle.script_laws.proofs.WholeLines.{restore_line_err}
use Rattle.keeper_catalog.specs.View.{View, Keeps}
use Rattle.keeper_core.specs.Keeping.{IsStateWith, IsKnownStray}
use Rattle.pin_laws.specs.Following.{Follows}
use Rattle.restore_turns.specs.Entry.{IsStateBeside}
use Rattle.restore_ends.proofs.Alone.{line_beside}
use Rattle.running_restore.specs.Planning.{IsAtRest}
use Rattle.beside_steps.specs.Holding.{BesideView, Holds}
use Rattle.beside_steps.proofs.Held.{told_before, holds_still}
use Rattle.beside_steps.proofs.Answered.{told_of, state_in, rise_later}

-- its sink is closed
module _ (limits : Limits) (v x : View) (s n slots : ℕ) (name : List ℕ) (before middle behind : PlacesTold) (f : Fault) (told : SinkTold) (around : AroundSink before middle behind name told told)
    (line : (pins : List Pin) (t : SinkTold) → RestoresLine (IsStateWith v pins) (IsStateWith x pins) (IsKnownStray v) (IsKnownStray x) s n slots v.told x.told t t (Err f)) where
  pub refused_line : (g : Fault) → g ≡ write_numbered behind.write_faults f → ((K : Core) → Keeps v K → true ≡ is_kept K.state s n)
      → StepsLine told_of IsStateBeside IsKnownStray limits (record { keeper = v; places = before }) (Restore s n name slots) (Refused g) (record { keeper = x; places = behind })
  refused_line g is kept =
      restore_line_err told_of IsStateBeside IsKnownStray limits v x before middle behind s n name slots f g told told is (state_in v (λ (S : State). true ≡ is_kept S s n) kept) around
      (line_beside v x (IsStateBeside v) told told s n slots (Err f) (λ S other here. here) (λ pins. line pins told))

  pub refused_held : IsAtRest v x → ((number : ℕ) → Follows v x number) → (es : List BesideView) → Holds v before.files es → Holds x behind.files es
  refused_held rest follows es h =
      holds_still v x before.files behind.files (rise_later v.told.faults x.told.faults _ (line [] told).causes.store)
      (λ some. told_before before.files middle.files name IsEmptied around.opened_files (told_before middle.files behind.files name (IsWhatWasTaken told.taken) around.closed_files some))
      follows es h (rest.job ∙ h.job) rest.pins
