-- A run of `fill`, from its first line on.
use Rattle.std.specs.Prelude.{◌≡◌, ◌≤◌, ℕ, Bool, List, [], ◌∷◌, ◌++◌, codes, decimal, unwrap_or, Option, Some, IsSomeAnd}
use Rattle.vault_types.specs.declared.Limits.{Limits}
use Rattle.vault_types.specs.declared.Fault.{Fault}
use Rattle.vault_types.specs.declared.Answer.{Answer}
use Rattle.vault_types.specs.declared.Answer.TheVariants.{Restored}
use Rattle.vault_types.specs.declared.Line.{Line}
use Rattle.vault_types.specs.declared.Line.TheVariants.{Restore}
use Rattle.vault_types.specs.State.{State}
use Rattle.vault_types.specs.Generator.{generated, fill_lines}
use Rattle.vault_types.specs.Script.{Sources}
use Rattle.vault_types.specs.Texts.{output_text}
use Rattle.vault_traits.specs.Told.{PlacesTold, Files}
use Rattle.store_model.specs.Leaves.{Begins}
use Rattle.store_model.specs.Outputs.{AreFedBy}
use Rattle.store_model.specs.Room.{NeedRoom}
use Rattle.store_model.specs.Script.{RunsLines}
use Rattle.store_model.specs.Strays.{StraysOf}
use Rattle.store_model.specs.World.{World, IsPrinted, report_text}

-- what is printed of a restore that was done: the sum of the bytes under its name
abbrev pub output_of : Files → Line → Answer → List ℕ
output_of files (Restore s v name cache) (Restored t w bytes loads) =
    output_text v (unwrap_or (files name) [])
output_of files line answer = []

abbrev pub outputs_text : Files → List Line → List Answer → List ℕ
outputs_text files [] answers = []
outputs_text files (line ∷ lines) [] = []
outputs_text files (line ∷ lines) (answer ∷ answers) =
    output_of files line answer ++ outputs_text files lines answers

-- places whose sources are the versions of the generator, and that have not failed
pub record AreGenerated (seed versions : ℕ) (places : PlacesTold) : Type 0 where
  pub sources : IsSomeAnd places.files (λ files. (v : ℕ) → 1 ≤ v → v ≤ versions
      → files (codes "gen-" ++ decimal v) ≡ Some (generated seed v))
  pub opened : places.faults ≡ 0
  pub read : places.read_faults ≡ 0
  pub written : places.write_faults ≡ 0

-- the script of `fill` over places of its own, none of which fails to be opened or read, and whose
-- sinks have room for the longest version of the generator; the report and the sums of the outputs
-- are on `out`
pub record RunsFill (in_order : Bool) (seed versions : ℕ) (limits : Limits) (before now : World)
    (answers : List Answer) (f : Option Fault) : Type 0 where
  pub made : PlacesTold
  pub left : PlacesTold
  pub generated : AreGenerated seed versions made
  pub opened : left.faults ≡ 0
  pub read : left.read_faults ≡ 0
  pub runs : RunsLines in_order (Begins before.shelf) (StraysOf before.shelf) limits (fill_lines versions)
      answers before.shelf now.shelf made left
  pub room : (S : State) (sources : Sources) → Begins before.shelf S
      → AreFedBy made.files sources (fill_lines versions)
      → NeedRoom (Some 8388671) sources S (fill_lines versions) answers
  pub printed : IsSomeAnd left.files
      (λ files.
      IsPrinted (report_text answers ++ outputs_text files (fill_lines versions) answers) before.out
      now.out f)
  pub report : now.report ≡ before.report
  pub input : now.input ≡ before.input
  pub places : now.places ≡ before.places
