-- What contracts see of a sealing lane.
use Rattle.std.specs.Prelude.{◌≡◌, List}
use Rattle.atomic_table.specs.Seated.{TableId}
use Rattle.stage_queue.specs.Ends.{Sender, Receiver}
use Rattle.vault_types.specs.declared.Flow.{Flow}
use Rattle.vault_types.specs.Tables.{Container}
use Rattle.seal_stage.specs.Sealing.{Sealing}

-- all that was given to it, and all that came back
pub record SealView : Type 0 where
  pub given : List (Flow Container)
  pub back : List (Flow Container)

-- the stage lies between the two lines
pub record IsLane (unsealed sealed : TableId) (near : Sender (Flow Container))
    (far : Receiver (Flow Container)) (stage : Sealing) : Type 0 where
  pub near_line : near.line ≡ unsealed
  pub from_line : stage.from.line ≡ unsealed
  pub to_line : stage.to.line ≡ sealed
  pub far_line : far.line ≡ sealed
