-- What a load and a turn of a restore that runs come to.
use Rattle.std.specs.Prelude.{◌≡◌, ◌+◌, ℕ, List, [], ◌∷◌, ◌++◌, Option}
use Rattle.vault_types.specs.declared.Spot.{Spot}
use Rattle.vault_traits.specs.Counts.{counted_up}
use Rattle.restore_stage.specs.declared.Loaded.{Loaded}
use Rattle.restore_stage.specs.declared.Loaded.TheVariants as loaded
use Rattle.keeper_catalog.specs.View.{View}
use Rattle.serial_restore.specs.Going.{Stays}
use Rattle.restore_turns.specs.Entry.{IsEntry, IsGoing, MeetsFirst}
use Rattle.restore_turns.specs.Sent.{IsPart, number_of}
use Rattle.running_restore.specs.Views.{RunningView}

-- the number that was met, behind a load
abbrev pub met_by : Option ℕ → Loaded → Option ℕ
met_by met (loaded.Payload p) = met
met_by met (loaded.Failed f) = number_of f

-- one load more was tried, and gave this
pub record HasLoaded (u v w : View) (number : ℕ) (spots : List Spot) (ids : List ℕ) (got : ℕ) (met : Option ℕ)
    (sent : List Loaded) (item : Loaded) : Type 0 where
  pub entry : IsEntry u w number spots ids (got + 1) (met_by met item) (sent ++ item ∷ [])
  pub going : IsPart item → IsGoing (got + 1) (met_by met item) (sent ++ item ∷ [])
  pub meets : MeetsFirst v.told.faults met (met_by met item) w.told.faults

-- some loads more were tried: the keeper stays, but for its counts
pub record HasFed (v w : View) (r q : RunningView) : Type 0 where
  pub more : ℕ
  pub met : Option ℕ
  pub sent : List Loaded
  pub is : q ≡ record r { got = r.got + more; met = met; sent = sent }
  pub stays : Stays v w
  pub gets : w.told.gets ≡ counted_up v.told.gets more
  pub meets : MeetsFirst v.told.faults r.met met w.told.faults
