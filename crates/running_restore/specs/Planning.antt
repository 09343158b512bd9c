-- How a restore begins, or is refused before it does.
use Rattle.std.specs.Prelude.{◌≡◌, ◌≤◌, ℕ}
use Rattle.keeper_catalog.specs.View.{View}
use Rattle.running_restore.specs.Views.{PlannedView, IsPlannedView}

-- it is pinned, from the keeper v to w, and planned
pub record BeginsAt (v w : View) (s n slots : ℕ) (p : PlannedView) : Type 0 where
  pub from : p.from ≡ v
  pub behind : p.behind ≡ w
  pub set : p.set ≡ s
  pub version : p.version ≡ n
  pub slots_are : p.slots ≡ slots
  pub planned : IsPlannedView p

-- the pins and the job are as before, and no payload was got
pub record IsAtRest (v w : View) : Type 0 where
  pub pins : w.pins ≡ v.pins
  pub job : w.job ≡ v.job
  pub gets : w.told.gets ≡ v.told.gets
