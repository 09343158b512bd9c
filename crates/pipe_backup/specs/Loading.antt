-- Payloads that are loaded while a backup runs.
use Rattle.std.specs.Prelude.{◌≡◌, ◌≤◌}
use Rattle.keeper_catalog.specs.View.{View}
use Rattle.backup_jobs.specs.Going.{Began}

-- payloads were loaded: the keeper is as it was, but for what its shelf counts
pub record IsLoaded (before now : View) : Type 0 where
  pub memo : now.memo ≡ before.memo
  pub index : now.index ≡ before.index
  pub pins : now.pins ≡ before.pins
  pub job : now.job ≡ before.job
  pub pending : now.pending ≡ before.pending
  pub blobs : now.told.blobs ≡ before.told.blobs
  pub history : now.told.history ≡ before.told.history
  pub later : before.told.faults ≤ now.told.faults

-- the keeper with these counts of its shelf
abbrev pub counted_as : View → View → View
counted_as v now =
    record v { told = record v.told { faults = now.told.faults; gets = now.told.gets } }

-- the backup that would have begun only behind those loads
abbrev pub moved : Began → View → Began
moved b now = record b { keeper = counted_as b.keeper now }
