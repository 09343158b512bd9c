-- A backup while it is under way.
use Rattle.std.specs.Prelude.{◌≡◌, ◌⊎◌, ◌≤◌, ◌<◌, ◌+◌, ◌-◌, ◌*◌, ◌^◌, ℕ, false, nat_lt, if◌then◌else◌, slice_get, unwrap_or, List, [], ◌∷◌, map, length, sum_by, Contains, Some, None, option_map, IsSome, Result, IfOk, IfErr}
use Rattle.vault_types.specs.declared.Fp.{Fp}
use Rattle.vault_types.specs.declared.How.{How}
use Rattle.vault_types.specs.declared.Name.{Name}
use Rattle.vault_types.specs.declared.JobConfig.{JobConfig}
use Rattle.vault_types.specs.declared.Limits.{Limits}
use Rattle.vault_types.specs.declared.Recipe.{Recipe}
use Rattle.vault_types.specs.declared.Answer.{Answer}
use Rattle.vault_types.specs.declared.Pending.TheVariants as pending
use Rattle.vault_types.specs.declared.Fault.{Fault}
use Rattle.vault_types.specs.declared.Fault.TheVariants as fault
use Rattle.vault_types.specs.Cuts.{cuts}
use Rattle.vault_types.specs.Names.{NamedChunk, named_chunk, fp}
use Rattle.vault_types.specs.Decide.{Rules, decide}
use Rattle.vault_types.specs.Fill.{Filled, fill}
use Rattle.vault_types.specs.Tables.{Container, payload_len}
use Rattle.vault_types.specs.State.{State, latest_of, next_of, container_in, is_full}
use Rattle.vault_types.specs.Backup.{inherited_ids, version_from, stored}
use Rattle.vault_types.specs.Events.{Core, Job as OpenJob, IsContainerName, IsNear, CanCommit, after_refused}
use Rattle.vault_traits.specs.Told.{SourceTold, Gives, IsAtEnd}
use Rattle.vault_traits.specs.Crash.{LeavesNowIfTold, LeavesOnlyIfTold}
use Rattle.fp_index.specs.Index.{found_in, IsIndexOf}
use Rattle.rewrite_stage.specs.declared.Decided.{Decided}
use Rattle.container_fill.specs.Filling.{Filling, HasFilled}
use Rattle.vault_types.specs.JobRanges.{IsCuttable}
use Rattle.vault_types.specs.RecipeForms.{KeepsRecipes}
use Rattle.keeper_catalog.specs.View.{View, Keeps, HasCore}
use Rattle.keeper_jobs.specs.Jobs.{version_by}
use Rattle.backup_jobs.specs.declared.closing.Rest.{Rest}
use Rattle.backup_jobs.specs.declared.closing.StreamEnd.{StreamEnd}
use Rattle.backup_jobs.specs.declared.opening.Job.{Job}
use Rattle.backup_jobs.specs.declared.opening.Opened.{Opened}
use Rattle.backup_jobs.specs.Backup.{IsNumber, IsBackupFault, IsJobName}

-- what a backup began with: the set, the number of its version, the settings, the first free id,
-- the sparse list and the index that it was told, and the keeper and the source as they were
pub record Began : Type 0 where
  pub set : ℕ
  pub version : ℕ
  pub config : JobConfig
  pub limits : Limits
  pub first : ℕ
  pub sparse : List ℕ
  pub index : List (Fp × List ℕ)
  pub keeper : View
  pub source : SourceTold

-- what it was told is that of the state
pub record IsBegunAt (b : Began) (S : State) : Type 0 where
  pub version : b.version ≡ latest_of S b.set + 1
  pub first : b.first ≡ next_of S
  pub sparse : b.sparse ≡ inherited_ids S b.set
  pub index : IsIndexOf b.index (map (λ c. c.table) S.containers)

-- the containers are numbered from this id on
abbrev pub AreNumbered : ℕ → List Container → Type 0
AreNumbered id [] = Unit {0}
AreNumbered id (c ∷ cs) = (c.table.id ≡ id) × AreNumbered (id + 1) cs

-- the job of a set with these containers
abbrev pub job_with : ℕ → List Container → OpenJob
job_with s containers = record { set = s; containers = containers }

-- the core with the open job
abbrev pub job_core : ℕ → List Container → View → Core → Core
job_core s containers v K = after_refused None (Some (job_with s containers)) v.memo.strays v.pending K

-- each stray is one from before, or a name of one of these containers
pub record AreNamed (before now : View) (containers : List Container) : Type 0 where
  pub each : (n : Name) → Contains now.memo.strays n
      → Contains before.memo.strays n ⊎ IsContainerName containers n

-- the job has put these containers. Its set was not full
pub record IsUnderway (b : Began) (now : View) (containers : List Container) : Type 0 where
  pub core : HasCore b.keeper
  pub told : (K : Core) → Keeps b.keeper K → IsBegunAt b K.state
  pub roomy : (K : Core) → Keeps b.keeper K → is_full K.state b.set b.limits ≡ false
  pub set : b.set < 256
  pub version : b.version ≤ 4294967294
  pub fits : b.first + b.limits.chunks ≤ 2 ^ 63
  pub low : 1 ≤ b.first
  pub most : b.limits.chunks ≤ 4194304
  pub keeps : (K : Core) → Keeps b.keeper K → Keeps now (job_core b.set containers now K)
  pub lent : now.index ≡ b.index
  pub pins : now.pins ≡ b.keeper.pins
  pub tells : IsSome b.keeper.told.blobs → IsSome now.told.blobs
  pub recipes : (K : Core) → Keeps b.keeper K → KeepsRecipes K.state b.keeper.told.blobs now.told.blobs
  pub strays : (n : Name) → Contains now.memo.strays n
      → Contains b.keeper.memo.strays n ⊎ IsJobName b.first b.limits.chunks n
  pub later : b.keeper.told.faults ≤ now.told.faults
  pub gets : now.told.gets ≡ b.keeper.told.gets
  pub crash : (K : Core) → Keeps b.keeper K → LeavesNowIfTold b.keeper.told.history (IsNear K.state K.other)
      → LeavesOnlyIfTold b.keeper.told.history now.told.history (IsNear K.state K.other)
  pub images : (K : Core) → Keeps b.keeper K
      → (b.keeper.pending ≡ pending.Not → LeavesNowIfTold b.keeper.told.history (IsNear K.state K.other))
      → LeavesNowIfTold now.told.history (IsNear K.state None)

-- there was no memory, or the shelf failed
abbrev pub IsPutFault : ℕ → ℕ → Fault → Type 0
IsPutFault before now fault.Memory = Unit {0}
IsPutFault before now (fault.StoreFault n) = IsNumber before n now
IsPutFault before now other = ⊥

-- a put stopped: the job has put some containers, and the shelf failed or there was no memory
pub record IsPutStop (b : Began) (now : View) (f : Fault) : Type 0 where
  pub containers : List Container
  pub underway : IsUnderway b now containers
  pub cause : IsPutFault b.keeper.told.faults now.told.faults f

abbrev pub rules_of : Began → Rules
rules_of b = record { sparse = b.sparse; config = b.config }

-- the chunks of a stream, and what the job makes of them
abbrev pub chunks_of : JobConfig → List ℕ → List NamedChunk
chunks_of config x = map named_chunk (cuts x config.cutting)

abbrev pub made : Began → List ℕ → Filled
made b x =
    fill b.first (chunks_of b.config x) (decide (found_in b.index) (rules_of b) (chunks_of b.config x))
    b.config.container

-- how many bytes the payload of a container has
abbrev pub len_of : Container → ℕ
len_of c = payload_len c.table.rows

-- the same of a container of the job, where the first has this id
abbrev pub own_len : ℕ → List ℕ → ℕ → ℕ
own_len first lens c = if nat_lt c first then 0 else unwrap_or (slice_get lens (c - first)) 0

-- the same of an old container or one of the job
abbrev pub len_at : List Container → ℕ → List ℕ → ℕ → ℕ
len_at old first lens c = unwrap_or (option_map len_of (container_in old c)) (own_len first lens c)

-- the backup stopped
pub record IsStopped (b : Began) (now : View) (to : SourceTold) (f : Fault) : Type 0 where
  pub read : List ℕ
  pub given : Gives b.source.left to.left read
  pub within : length read ≤ b.limits.chunks * 65536 + 65536
  pub source_later : b.source.faults ≤ to.faults
  pub containers : List Container
  pub underway : IsUnderway b now containers
  pub cause : IsBackupFault b.config b.limits b.keeper.told.faults now.told.faults b.source to read f

-- the job has put these containers, and no mending is due
pub record HasPut (b : Began) (now : View) (lens : List ℕ) (containers : List Container) : Type 0 where
  pub underway : IsUnderway b now containers
  pub waits : now.pending ≡ pending.Not
  pub named : AreNamed b.keeper now containers
  pub lens_are : lens ≡ map len_of containers

-- they are numbered as the job's, and are no more than its limit of chunks
pub record AreOfJob (b : Began) (containers : List Container) : Type 0 where
  pub numbered : AreNumbered b.first containers
  pub few : length containers ≤ b.limits.chunks

-- these parts went into the filler, and it gave out these containers
pub record HasFilledParts (b : Began) (f : Filling) (gone : List Container) (parts : List (NamedChunk × How))
    : Type 0 where
  pub filled : HasFilled f b.first gone (map (λ p. p.0) parts) (map (λ p. p.1) parts)
  pub capacity : f.capacity ≡ b.config.container
  pub cuttable : IsCuttable b.config.cutting
  pub few : length parts ≤ b.limits.chunks

-- a chunk with what was decided of it
abbrev pub part_of : Decided → NamedChunk × How
part_of d = (named_chunk d.chunk, d.how)

-- the rows and counts are those of these bytes' chunks
pub record IsMade (b : Began) (r : Rest) (lens read : List ℕ) : Type 0 where
  pub cuttable : IsCuttable b.config.cutting
  pub few : length (cuts read b.config.cutting) ≤ b.limits.chunks
  pub rows : r.rows ≡ (made b read).rows
  pub next : r.next ≡ b.first + length (made b read).containers
  pub containers : r.containers ≡ length (made b read).containers
  pub written : r.written ≡ sum_by len_of (made b read).containers
  pub lens_are : lens ≡ map len_of (made b read).containers

-- the containers of these bytes' chunks are put
pub record HasPutAll (b : Began) (now : View) (r : Rest) (lens read : List ℕ) : Type 0 where
  pub underway : IsUnderway b now (made b read).containers
  pub waits : now.pending ≡ pending.Not
  pub named : AreNamed b.keeper now (made b read).containers
  pub is : IsMade b r lens read

-- all is put but the recipe
pub record HasEnded (b : Began) (now : View) (e : StreamEnd) (lens read : List ℕ) : Type 0 where
  pub put : HasPutAll b now e.rest lens read
  pub whole : e.whole ≡ fp read

-- the source was read to its end, and all is put but the recipe
pub record HasReadAll (b : Began) (now : View) (to : SourceTold) (lens : List ℕ) (e : StreamEnd) : Type 0 where
  pub read : List ℕ
  pub given : Gives b.source.left to.left read
  pub source_later : b.source.faults ≤ to.faults
  pub end : IsAtEnd to
  pub ended : HasEnded b now e lens read

-- the stream has ended, or the backup stopped
abbrev pub IsOver : Began → View → SourceTold → List ℕ → Result StreamEnd Fault → Type 0
IsOver b now to lens ended = IfOk ended (HasReadAll b now to lens) × IfErr ended (IsStopped b now to)

-- the numbers of the job
pub record IsJobOf (b : Began) (job : Job) : Type 0 where
  pub set : job.set ≡ b.set
  pub version : job.version ≡ b.version
  pub first : job.first ≡ b.first
  pub config : job.config ≡ b.config

-- the recipe may be committed and says the version of the definition, with the sum of its bytes,
-- and the answer is that of it
pub record IsReady (b : Began) (now : View) (read : List ℕ) (p : Recipe × Answer) : Type 0 where
  pub can : (K : Core) → Keeps b.keeper K
      → CanCommit (job_core b.set (made b read).containers now K) (job_with b.set (made b read).containers)
      p.0
  pub says : (K : Core) → Keeps b.keeper K
      → version_by (job_core b.set (made b read).containers now K) (job_with b.set (made b read).containers)
      p.0
      ≡ version_from K.state (made b read) (fp read) b.config
  pub whole : IsSome p.0.whole
  pub answer : (K : Core) → Keeps b.keeper K → p.1 ≡ stored K.state b.set read b.config

-- all is put but the recipe, which is ready
pub record HasConcluded (b : Began) (now : View) (to : SourceTold) (p : Recipe × Answer) : Type 0 where
  pub read : List ℕ
  pub given : Gives b.source.left to.left read
  pub within : length read ≤ b.limits.chunks * 65536 + 65536
  pub source_later : b.source.faults ≤ to.faults
  pub end : IsAtEnd to
  pub few : length (cuts read b.config.cutting) ≤ b.limits.chunks
  pub underway : IsUnderway b now (made b read).containers
  pub waits : now.pending ≡ pending.Not
  pub named : AreNamed b.keeper now (made b read).containers
  pub ready : IsReady b now read p

-- what a backup of these settings begins with, where its job is this one
abbrev pub began_with : ℕ → JobConfig → Limits → View → SourceTold → Opened → Began
began_with s config limits v from o = record {
  set = s;
  version = o.job.version;
  config = config;
  limits = limits;
  first = o.job.first;
  sparse = o.sparse.items;
  index = o.index;
  keeper = v;
  source = from;
}

-- the job has begun, and has put nothing
pub record IsOpened (s : ℕ) (config : JobConfig) (limits : Limits) (before now : View) (from : SourceTold)
    (o : Opened) : Type 0 where
  pub job : IsJobOf (began_with s config limits before from o) o.job
  pub underway : IsUnderway (began_with s config limits before from o) now []
  pub waits : now.pending ≡ pending.Not
  pub named : AreNamed before now []
