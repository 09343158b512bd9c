-- What was handed to the sealing lane, and what is put of what came back.
use Rattle.std.specs.Prelude.{◌≡◌, ◌<◌, ◌+◌, ◌++◌, ℕ, List, length, Option, None, option_to_list}
use Rattle.vault_types.specs.declared.How.{How}
use Rattle.vault_types.specs.declared.Flow.{Flow}
use Rattle.vault_types.specs.Names.{NamedChunk}
use Rattle.vault_types.specs.Stages.{IsFront}
use Rattle.vault_types.specs.Tables.{Container}
use Rattle.stage_flows.specs.Runs.{run}
use Rattle.container_fill.specs.Filling.{Filling}
use Rattle.keeper_catalog.specs.View.{View}
use Rattle.seal_lane.specs.Lanes.{SealView}
use Rattle.backup_jobs.specs.Going.{Began, IsPutStop, HasPut, HasFilledParts}
use Rattle.pipe_backup.specs.declared.sealing.Halt.{Halt}
use Rattle.pipe_backup.specs.declared.sealing.Halt.TheVariants as halt
use Rattle.pipe_backup.specs.declared.sealing.Span.{Span}

-- these are the numbers of the job
pub record IsSpanOf (b : Began) (s : Span) : Type 0 where
  pub first : s.first ≡ b.first
  pub limit : s.limit ≡ b.limits.chunks

-- behind the containers that are put, this one is to be put next
pub record IsNext (b : Began) (put : List Container) (c : Container) : Type 0 where
  pub number : c.table.id ≡ b.first + length put
  pub room : length put < b.limits.chunks

-- all this was handed to the lane, and all that came back is put
pub record HasHanded (b : Began) (now : View) (lens : List ℕ) (s : SealView) (given : List (Flow Container))
    : Type 0 where
  pub put : List Container
  pub given_are : s.given ≡ given
  pub back_are : s.back ≡ run put None
  pub all : HasPut b now lens put

-- why a container that came back was not put
abbrev pub IsPutHalt : Began → View → List Container → Container → Halt → Type 0
IsPutHalt b now put c (halt.Failed f) = IsPutStop b now f
IsPutHalt b now put c halt.Never = IsNext b put c → ⊥

-- why the handing broke off: a put stopped; or there came back what was not given
abbrev pub IsHalt : Began → View → SealView → Halt → Type 0
IsHalt b now s (halt.Failed f) = IsPutStop b now f
IsHalt b now s halt.Never = IsFront s.back s.given → ⊥

-- these parts went into the filler, and what it gave out was handed to the lane, but for the container
-- that is still held, if there is one
pub record IsFilling (b : Began) (now : View) (f : Filling) (held : Option Container) (lens : List ℕ)
    (s : SealView) (parts : List (NamedChunk × How)) : Type 0 where
  pub gone : List Container
  pub filled : HasFilledParts b f (gone ++ option_to_list held) parts
  pub handed : HasHanded b now lens s (run gone None)
