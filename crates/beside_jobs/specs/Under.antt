-- A run of lines over a keeper with places, with restores beside them.
use Rattle.std.specs.Prelude.{ℕ, List, map}
use Rattle.vault_types.specs.declared.Answer.{Answer}
use Rattle.vault_types.specs.declared.Limits.{Limits}
use Rattle.vault_types.specs.declared.Line.{Line}
use Rattle.vault_traits.specs.Told.{ShelfTold, PlacesTold}
use Rattle.store_model.specs.Steps.{Moment}
use Rattle.beside_laws.specs.Progress.{Underway}
use Rattle.keeper_catalog.specs.View.{View}
use Rattle.keeper_core.specs.Keeping.{IsKnownStray}
use Rattle.restore_turns.specs.Entry.{IsStateBeside}
use Rattle.beside_steps.specs.Holding.{BesideView, past_of}

abbrev pub told_of : View → ShelfTold
told_of v = v.told

-- of the lines so many have begun, and these restores run; this is the keeper, and what the places
-- tell
abbrev pub IsUnder : Limits → List Line → Moment View → ℕ → List Answer → List BesideView → View → PlacesTold
    → Type 0
IsUnder limits lines start i answers es v places =
    Underway told_of IsStateBeside IsKnownStray limits lines start i answers (map past_of es)
    (record { keeper = v; places = places })
