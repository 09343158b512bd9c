-- A backup whose stream passes through stages, from its start to its last step.
use Rattle.std.specs.Prelude.{◌≡◌, ◌⊎◌, ◌<◌, ℕ, false, List, map, length, Option, Some, None, Result, Ok, Err}
use Rattle.vault_types.specs.declared.JobConfig.{JobConfig}
use Rattle.vault_types.specs.declared.Limits.{Limits}
use Rattle.vault_types.specs.JobRanges.{IsCuttable}
use Rattle.vault_types.specs.Stages.{IsFront}
use Rattle.vault_types.specs.Tables.{Container}
use Rattle.vault_traits.specs.Told.{SourceTold}
use Rattle.rewrite_stage.specs.declared.Decided.{Decided}
use Rattle.stage_flows.specs.declared.Last.{Last}
use Rattle.stage_flows.specs.declared.Last.TheVariants as last
use Rattle.stage_flows.specs.Runs.{run}
use Rattle.container_fill.specs.Filling.{Filling}
use Rattle.keeper_catalog.specs.View.{View}
use Rattle.pipe_run.specs.Jobs.{JobView}
use Rattle.seal_lane.specs.Lanes.{SealView}
use Rattle.backup_jobs.specs.declared.opening.Job.{Job}
use Rattle.backup_jobs.specs.Going.{Began, IsJobOf, IsUnderway, IsPutStop, part_of, rules_of}
use Rattle.pipe_backup.specs.declared.piping.Ended.{Ended}
use Rattle.pipe_backup.specs.declared.sealing.Halt.{Halt}
use Rattle.pipe_backup.specs.declared.sealing.Halt.TheVariants as halt
use Rattle.pipe_backup.specs.declared.sealing.Span.{Span}
use Rattle.pipe_backup.specs.Sealing.{IsSpanOf, IsFilling}

-- a backup that runs: the numbers of its job; its stages, and its sealing lane; its filler, with the
-- container that it gave out and the lane has not taken, if there is one; the first id and the limit of
-- chunks; how many bytes each container has that is put; and how many parts came
pub record PipingView (I : Type 0) : Type 0 where
  pub job : Job
  pub stages : JobView I
  pub lane : SealView
  pub filler : Filling
  pub held : Option Container
  pub span : Span
  pub lens : List ℕ
  pub count : ℕ

-- the stages are those of this backup, and were not stopped
pub record IsJobFor {I : Type 0} (b : Began) (told : I → SourceTold) (j : JobView I) : Type 0 where
  pub source : told j.source ≡ b.source
  pub cutting : j.cutting ≡ b.config.cutting
  pub rules : j.rules ≡ rules_of b
  pub limit : j.limit ≡ b.limits.chunks
  pub index : j.index ≡ b.index
  pub stopped : j.stopped ≡ false

-- this backup runs
pub record IsBackupOf {I : Type 0} (b : Began) (told : I → SourceTold) (p : PipingView I) : Type 0 where
  pub job : IsJobOf b p.job
  pub span : IsSpanOf b p.span
  pub stages : IsJobFor b told p.stages
  pub cuttable : IsCuttable b.config.cutting

-- this backup runs. Parts came of its stages and no last item, and the filler took them all
pub record IsPiping {I : Type 0} (b : Began) (told : I → SourceTold) (now : View) (p : PipingView I)
    : Type 0 where
  pub backup : IsBackupOf b told p
  pub parts : List Decided
  pub taken : p.stages.taken ≡ run parts None
  pub count_is : p.count ≡ length parts
  pub filling : IsFilling b now p.filler p.held p.lens p.lane (map part_of parts)

-- a backup into this set with these settings has started, from this keeper and this source
pub record HasStartedPiping {I : Type 0} (told : I → SourceTold) (s : ℕ) (config : JobConfig) (limits : Limits)
    (before now : View) (from : SourceTold) (p : PipingView I) : Type 0 where
  pub began : Began
  pub set_is : began.set ≡ s
  pub config_is : began.config ≡ config
  pub limits_are : began.limits ≡ limits
  pub keeper_is : began.keeper ≡ before
  pub source_is : began.source ≡ from
  pub piping : IsPiping began told now p

-- the last item that came, if it did
abbrev pub last_came : Result Last Halt → Option Last
last_came (Ok l) = Some l
last_came (Err h) = None

-- why there are no more steps behind these parts: at the end the filler took them all; else the stages
-- failed, or a put stopped. A stop of stages that were not stopped, more parts than the limit, and
-- another container than the next one never come
abbrev pub IsLastStep : {I : Type 0} → Began → View → PipingView I → List Decided → Result Last Halt → Type 0
IsLastStep b now p parts (Ok last.End) = IsFilling b now p.filler p.held p.lens p.lane (map part_of parts)
IsLastStep b now p parts (Ok (last.Failed f)) = (containers : List Container) × IsUnderway b now containers
IsLastStep b now p parts (Ok last.Stopped) = Unit {0}
IsLastStep b now p parts (Err (halt.Failed f)) = IsPutStop b now f
IsLastStep b now p parts (Err halt.Never) =
    (b.limits.chunks < length parts) ⊎ (IsFront p.lane.back p.lane.given → ⊥)

-- this backup has come to its last step
pub record HasCome {I : Type 0} (b : Began) (told : I → SourceTold) (now : View) (p : PipingView I)
    (e : Ended) : Type 0 where
  pub backup : IsBackupOf b told p
  pub parts : List Decided
  pub taken : p.stages.taken ≡ run parts (last_came e.last)
  pub comes : IsLastStep b now p parts e.last
