-- A restore that runs with no other call of its keeper between.
use Rattle.std.specs.Prelude.{◌≡◌, ◌≤◌, ℕ, Option}
use Rattle.vault_traits.specs.Counts.{counted_up}
use Rattle.keeper_catalog.specs.View.{View}
use Rattle.serial_restore.specs.Going.{Stays}
use Rattle.restore_ends.specs.Results.{faults_at}
use Rattle.running_restore.specs.Views.{RunningView, IsStarted, IsRunning}

-- the keeper is the one from behind its pin, but for its counts: each load is a get, and the shelf
-- has failed at least as often as where the restore met a fault
pub record RunsAlone (now : View) (r : RunningView) : Type 0 where
  pub running : IsRunning now r
  pub started : IsStarted r
  pub stays : Stays r.behind now
  pub gets : now.told.gets ≡ counted_up r.behind.told.gets r.got
  pub met : faults_at r.behind.told.faults r.met ≤ now.told.faults
