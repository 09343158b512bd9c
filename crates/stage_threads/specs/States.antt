-- The stage that was handed in, in its thread or kept.
use Rattle.std.specs.Prelude.{◌≡◌, Option, Some, None}
use Rattle.stage_threads.specs.declared.stage_thread.State.{State}
use Rattle.stage_threads.specs.declared.stage_thread.State.TheVariants.{Away, Thread, Kept}

-- what comes back is the same as the first stage
abbrev pub StandsFor : {S : Type 0} → (S → S → Type 0) → S → State S → Type 0
StandsFor same first Away = ⊥
StandsFor same first (Thread handle) = handle.promise.0.value ≡ first
StandsFor same first (Kept stage) = same first stage

-- the stage itself, where it is kept
abbrev pub kept_stage : {S : Type 0} → State S → Option S
kept_stage Away = None
kept_stage (Thread handle) = None
kept_stage (Kept stage) = Some stage
