-- What contracts see of a job, and what its end tells.
use Rattle.std.specs.Prelude.{◌≡◌, ◌≤◌, ◌+◌, ◌*◌, ◌||◌, ℕ, Bool, true, List, length, map, Option, Some}
use Rattle.std.specs.List.{concat}
use Rattle.std.specs.Option.{is_some}
use Rattle.vault_types.specs.declared.Cutting.{Cutting}
use Rattle.vault_types.specs.declared.Fault.{Fault}
use Rattle.vault_types.specs.declared.Flow.{Flow}
use Rattle.vault_types.specs.declared.Flow.TheVariants.{Part, End, Failed, Stopped}
use Rattle.vault_types.specs.declared.Fp.{Fp}
use Rattle.vault_types.specs.declared.How.{How}
use Rattle.vault_types.specs.Names.{NamedChunk, fp}
use Rattle.vault_types.specs.Decide.{Rules}
use Rattle.vault_traits.specs.Told.{SourceTold}
use Rattle.rewrite_stage.specs.declared.Decided.{Decided}
use Rattle.stage_flows.specs.declared.Last.{Last}
use Rattle.stage_flows.specs.declared.Last.TheVariants as last
use Rattle.stage_flows.specs.Runs.{run}
use Rattle.source_reads.specs.Reading.{IsOwnEnd, WentOn}
use Rattle.stage_rules.specs.Chunking.{IsOwnFault}
use Rattle.segment_gather.specs.Segmented.{part_of}
use Rattle.pipe_laws.specs.Pipe.{ReadBack}

-- a job: its source and its index as they were handed in, its settings, what was taken of it, and
-- whether it was stopped
pub record JobView (I : Type 0) : Type 0 where
  pub source : I
  pub cutting : Cutting
  pub rules : Rules
  pub limit : ℕ
  pub index : List (Fp × List ℕ)
  pub taken : List (Flow Decided)
  pub stopped : Bool

-- a decision with its chunk's name
abbrev pub named_item : Flow Decided → Flow (NamedChunk × How)
named_item (Part d) = Part (part_of d)
named_item End = End
named_item (Failed f) = Failed f
named_item Stopped = Stopped

abbrev pub named_items : List (Flow Decided) → List (Flow (NamedChunk × How))
named_items items = map named_item items

-- the source went on by these reads and this last item, and has given at most one read more than so
-- many chunks can have; the last item is one of the reading stage's own; what was taken is told by them;
-- after the end all bytes were summed. The word was raised exactly where the job was stopped, or a stage
-- behind the reading one had a fault of its own, which then is the last item that was taken; else that is
-- the reading stage's. A stop comes of a stop
pub record IsJobBack (c : Cutting) (find : Fp
    → Option ℕ) (r : Rules) (limit : ℕ) (from to : SourceTold) (taken : List (Flow Decided)) (sum : Fp) (stopped raised : Bool) : Type 0 where
  pub reads : List (List ℕ)
  pub over : Option Last
  pub went : WentOn from to (run reads over)
  pub within : length (concat reads) ≤ limit * 65536 + 65536
  pub ended : IsOwnEnd limit (length (concat reads)) over
  pub back : ReadBack c find r limit reads over (named_items taken)
  pub summed : (parts : List Decided) → taken ≡ run parts (Some last.End) → sum ≡ fp (concat reads)
  pub own : Option Fault
  pub own_is : (parts : List Decided) (k : Last) → taken ≡ run parts (Some k) → IsOwnFault own over (Some k)
  pub raised_is : raised ≡ (stopped || is_some own)
  pub stopped_by : (parts : List Decided) → taken ≡ run parts (Some last.Stopped) → stopped ≡ true
