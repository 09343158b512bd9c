-- A stream on its way through the pass.
use Rattle.std.specs.Prelude.{◌≡◌, ◌⊎◌, ◌≤◌, ◌+◌, ◌*◌, ℕ, option_to_list, List, ◌++◌, map, length}
use Rattle.vault_types.specs.declared.Pending.TheVariants as pending
use Rattle.vault_types.specs.declared.Fault.{Fault}
use Rattle.vault_types.specs.Cuts.{cuts, settled}
use Rattle.vault_types.specs.Names.{fp}
use Rattle.vault_types.specs.Tables.{Container}
use Rattle.vault_traits.specs.Told.{SourceTold, Gives, IsAtEnd}
use Rattle.container_fill.specs.Filling.{IsFilledBy}
use Rattle.vault_types.specs.JobRanges.{IsCuttable}
use Rattle.backup_pass.specs.declared.pass.Pass.{Pass}
use Rattle.backup_pass.specs.declared.pass.Passed.{Passed}
use Rattle.backup_pass.specs.Passing.{HasPassed, IsPassFault, index_in}
use Rattle.keeper_catalog.specs.View.{View}
use Rattle.backup_jobs.specs.Going.{Began, AreNamed, IsUnderway, IsPutFault, rules_of, chunks_of, made, len_of}

-- these bytes went through the pass, and the containers that it gave out are put
pub record IsFed (b : Began) (now : View) (pass : Pass) (lens read : List ℕ) : Type 0 where
  pub containers : List Container
  pub underway : IsUnderway b now containers
  pub passed : HasPassed pass (rules_of b) b.limits.chunks b.first read containers
  pub index : index_in pass ≡ b.index
  pub waits : now.pending ≡ pending.Not
  pub named : AreNamed b.keeper now containers
  pub lens_are : lens ≡ map len_of containers

-- the job has put some containers, and then there was a fault
pub record IsHalted (b : Began) (now : View) (Why : Fault → Type 0) (f : Fault) : Type 0 where
  pub containers : List Container
  pub underway : IsUnderway b now containers
  pub cause : IsPutFault b.keeper.told.faults now.told.faults f ⊎ Why f

-- too many chunks have an end, or chunks in all
abbrev pub IsTooMany : Began → List ℕ → Fault → Type 0
IsTooMany b read f = IsPassFault b.limits.chunks (length (settled read b.config.cutting)) f

abbrev pub IsTooManyInAll : Began → List ℕ → Fault → Type 0
IsTooManyInAll b read f = IsPassFault b.limits.chunks (length (cuts read b.config.cutting)) f

-- the bytes that were read went through the pass
pub record IsGoing (b : Began) (now : View) (to : SourceTold) (pass : Pass)
    (lens read : List ℕ) : Type 0 where
  pub given : Gives b.source.left to.left read
  pub within : length read ≤ b.limits.chunks * 65536 + 65536
  pub source_later : b.source.faults ≤ to.faults
  pub fed : IsFed b now pass lens read

-- a piece more went through the pass; none is the end
pub record HasPassedPiece (b : Began) (now : View) (to : SourceTold) (pass : Pass) (lens read : List ℕ)
    (n : ℕ) : Type 0 where
  pub piece : List ℕ
  pub len : n ≡ length piece
  pub going : IsGoing b now to pass lens (read ++ piece)
  pub end : n ≡ 0 → IsAtEnd to

-- the pass took the end: what it gave and the last container are to be put
pub record HasPassedAll (b : Began) (now : View) (p : Passed) (full : List Container)
    (lens read : List ℕ) : Type 0 where
  pub containers : List Container
  pub underway : IsUnderway b now containers
  pub waits : now.pending ≡ pending.Not
  pub named : AreNamed b.keeper now containers
  pub lens_are : lens ≡ map len_of containers
  pub cuttable : IsCuttable b.config.cutting
  pub whole : p.whole ≡ fp read
  pub few : length (cuts read b.config.cutting) ≤ b.limits.chunks
  pub filled : IsFilledBy (option_to_list p.filled.last) p.filled.rows p.filled.next p.filled.containers
      p.filled.written b.first (containers ++ full) (length (chunks_of b.config read)) (made b read)
