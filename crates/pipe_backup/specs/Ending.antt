-- What a backup comes to behind its last step.
use Rattle.std.specs.Prelude.{◌≡◌, ◌⊎◌, ◌<◌, ℕ, false, List, [], map, length, Some, Result, Ok, Err}
use Rattle.vault_types.specs.Stages.{decided_parts, IsFront}
use Rattle.vault_types.specs.Tables.{Container}
use Rattle.fp_index.specs.Index.{found_in}
use Rattle.rewrite_stage.specs.declared.Decided.{Decided}
use Rattle.stage_flows.specs.declared.Last.{Last}
use Rattle.stage_flows.specs.declared.Last.TheVariants as last
use Rattle.stage_flows.specs.Runs.{run}
use Rattle.keeper_catalog.specs.View.{View}
use Rattle.pipe_run.specs.Jobs.{JobView}
use Rattle.seal_lane.specs.Lanes.{SealView}
use Rattle.backup_jobs.specs.declared.closing.Rest.{Rest}
use Rattle.backup_jobs.specs.Going.{Began, IsUnderway, IsPutStop, HasPutAll, part_of, rules_of, chunks_of}
use Rattle.pipe_backup.specs.declared.sealing.Halt.{Halt}
use Rattle.pipe_backup.specs.declared.sealing.Halt.TheVariants as halt

-- a job as it began
abbrev pub as_begun : {I : Type 0} → JobView I → JobView I
as_begun j = record j { taken = []; stopped = false }

-- what a filling comes to behind these parts and this last item. At the end all is put, where what came
-- back of the sealing lane begins what was given to it, and the parts are those of the bytes that were
-- read; else a put stopped, or the job failed. More parts than the limit, a stop of a job that was not
-- stopped, and another container than the next one never come
abbrev pub ComesTo : {I : Type 0} → Began → View → List ℕ → JobView I → JobView I → SealView → List Decided
    → Last → Result Rest Halt → Type 0
ComesTo b now lens from to s parts l (Ok r) =
    (l ≡ last.End)
    × (IsFront s.back s.given → (read : List ℕ)
    → map part_of parts ≡ decided_parts (found_in b.index) (rules_of b) (chunks_of b.config read)
    → HasPutAll b now r lens read)
ComesTo b now lens from to s parts l (Err (halt.Failed f)) =
    IsPutStop b now f ⊎ ((containers : List Container) × IsUnderway b now containers × (l ≡ last.Failed f))
ComesTo b now lens from to s parts l (Err halt.Never) =
    (b.limits.chunks < length parts)
    ⊎ (((l ≡ last.Stopped) × (to.stopped ≡ from.stopped)) ⊎ (IsFront s.back s.given → ⊥))

-- all that came out of a job was taken
pub record IsFilledFrom {I : Type 0} (b : Began) (now : View) (lens : List ℕ) (from to : JobView I)
    (s : SealView) (r : Result Rest Halt) : Type 0 where
  pub parts : List Decided
  pub l : Last
  pub taken_are : to.taken ≡ run parts (Some l)
  pub comes : ComesTo b now lens from to s parts l r
