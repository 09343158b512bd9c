-- A backup among the lines of a run, with restores beside it.
use Rattle.std.specs.Prelude.{◌≡◌, ℕ, List, Result}
use Rattle.vault_types.specs.declared.Answer.{Answer}
use Rattle.vault_types.specs.declared.Fault.{Fault}
use Rattle.vault_types.specs.declared.JobConfig.{JobConfig}
use Rattle.vault_types.specs.declared.Limits.{Limits}
use Rattle.vault_types.specs.declared.Line.{Line}
use Rattle.vault_traits.specs.Told.{PlacesTold, SourceTold}
use Rattle.store_model.specs.Steps.{Moment, StepsLine}
use Rattle.keeper_catalog.specs.View.{View, HasCore}
use Rattle.keeper_core.specs.Keeping.{IsKnownStray}
use Rattle.backup_jobs.specs.Backup.{BacksUp}
use Rattle.backup_jobs.specs.Going.{Began}
use Rattle.restore_turns.specs.Entry.{IsStateBeside}
use Rattle.beside_steps.specs.Holding.{BesideView, Holds}
use Rattle.beside_jobs.specs.Under.{told_of, IsUnder}

-- how far a run of lines has come, as the next one is to be done: the limits, the lines, the moment
-- that they began at, how many have begun, the answers, and what the places tell
pub record Reached : Type 0 where
  pub limits : Limits
  pub lines : List Line
  pub start : Moment View
  pub begun : ℕ
  pub answers : List Answer
  pub places : PlacesTold

-- these restores run there, over this keeper
pub record RunsThere (r : Reached) (es : List BesideView) (v : View) : Type 0 where
  pub holds : Holds v r.places.files es
  pub under : IsUnder r.limits r.lines r.start r.begun r.answers es v r.places

-- the next line is a backup with this beginning, of which this is so. What is known of the restores
-- beside it is known of the keeper as the job began, whose counts have gone on with their loads
pub record IsBeside (r : Reached) (first : Began) (es : List BesideView) (IsSo : Began → Type 0)
    : Type 0 where
  pub began : Began
  pub same : began ≡ record first { keeper = began.keeper }
  pub core : HasCore began.keeper
  pub so : IsSo began
  pub restores : RunsThere r es began.keeper

-- a source was backed up, or that was refused, over a keeper behind loads of the restores beside it
pub record HasBackedUp (r : Reached) (es : List BesideView) (s : ℕ) (config : JobConfig) (limits : Limits)
    (now : View) (from to : SourceTold) (result : Result Answer Fault) : Type 0 where
  pub behind : View
  pub core : HasCore behind
  pub backs_up : BacksUp s config limits behind now from to result
  pub restores : RunsThere r es behind

-- the next line has answered, over a keeper behind loads of the restores beside it
pub record AnswersBeside (r : Reached) (es : List BesideView) (line : Line) (answer : Answer)
    (now : Moment View) : Type 0 where
  pub behind : View
  pub under : IsUnder r.limits r.lines r.start r.begun r.answers es behind r.places
  pub steps : StepsLine told_of IsStateBeside IsKnownStray r.limits
      (record { keeper = behind; places = r.places }) line answer now
