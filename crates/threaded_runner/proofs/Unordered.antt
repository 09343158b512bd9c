-- A run whose causes rise in the order of its lines is one whose causes rise in some order.
use Rattle.std.specs.Prelude.{Bool, true, false, IsSomeAnd}
use Rattle.std.proofs.Common.{inl, inr, ⊎_elim, ℕ, List, Option, Some, None}
use Rattle.vault_types.specs.declared.Answer.{Answer}
use Rattle.vault_types.specs.declared.Command.{Command}
use Rattle.vault_types.specs.declared.Command.TheVariants as command
use Rattle.vault_types.specs.declared.Fault.{Fault}
use Rattle.vault_types.specs.declared.Limits.{Limits}
use Rattle.vault_types.specs.declared.Line.{Line}
use Rattle.vault_types.specs.declared.Name.{Name}
use Rattle.vault_types.specs.State.{State}
use Rattle.vault_types.specs.Words.{command_of}
use Rattle.vault_traits.specs.Told.{PlacesTold, ShelfTold}
use Rattle.store_model.specs.Courses.{RunsBatch}
use Rattle.store_model.specs.Filling.{RunsFill}
use Rattle.store_model.specs.Run.{IsRun, Runs}
use Rattle.store_model.specs.Script.{RunsLines}
use Rattle.store_model.specs.World.{World}
use Rattle.command_runner.specs.Unbuilt.{Unbuilt}

lines_run : (From : State → Type 0) (Known : State → Name → Type 0) (limits : Limits) (lines : List Line) (answers : List Answer) (old new : ShelfTold) (before now : PlacesTold) → RunsLines true From Known limits lines answers old new before now
    → RunsLines false From Known limits lines answers old new before now
lines_run From Known limits lines answers old new before now r = record {
  kinds = r.kinds;
  causes = r.causes;
  ordered = λ e. cc;
  others = r.others;
  reads = r.reads;
  read = r.read;
  there = r.there;
  means = r.means;
  outputs = r.outputs;
  complete = r.complete;
}

batch : (limits : Limits) (before now : World) (answers : List Answer) (f : Option Fault) → RunsBatch true limits before now answers f → RunsBatch false limits before now answers f
batch limits before now answers f r = record {
  lines = r.lines;
  script = r.script;
  read = r.read;
  within = r.within;
  runs = lines_run _ _ _ _ _ _ _ _ _ r.runs;
  printed = r.printed;
  report = r.report;
}

fill : (seed versions : ℕ) (limits : Limits) (before now : World) (answers : List Answer) (f : Option Fault) → RunsFill true seed versions limits before now answers f → RunsFill false seed versions limits before now answers f
fill seed versions limits before now answers f r = record {
  made = r.made;
  left = r.left;
  generated = r.generated;
  opened = r.opened;
  read = r.read;
  runs = lines_run _ _ _ _ _ _ _ _ _ r.runs;
  room = r.room;
  printed = r.printed;
  report = r.report;
  input = r.input;
  places = r.places;
}

runs : (c : Command) (limits : Limits) (before now : World) (answers : List Answer) (f : Option Fault) → Runs true Unbuilt c limits before now answers f → Runs false Unbuilt c limits before now answers f
runs (command.Backup a b d e None) limits before now answers f r = r
runs (command.Backup a b d e (Some p)) limits before now answers f r = r
runs (command.Restore a b d None) limits before now answers f r = r
runs (command.Restore a b d (Some p)) limits before now answers f r = r
runs (command.Delete a b) limits before now answers f r = r
runs (command.Show a b) limits before now answers f r = r
runs (command.Batch a b d) limits before now answers f r = record { opened = r.opened; runs = batch limits before now answers f r.runs }
runs (command.Fill a b d e g) limits before now answers f r = record { opened = r.opened; runs = fill a b limits before now answers f r.runs }
runs command.Migrate limits before now answers f r = r
runs (command.Scrub a) limits before now answers f r = r

of_some : (o : Option Command) (limits : Limits) (before now : World) (answers : List Answer) (f : Option Fault) → IsSomeAnd o (λ c. Runs true Unbuilt c limits before now answers f) → IsSomeAnd o (λ c. Runs false Unbuilt c limits before now answers f)
of_some None limits before now answers f r = r
of_some (Some c) limits before now answers f r = runs c limits before now answers f r

pub any_order : (words : List (List ℕ)) (limits : Limits) (before now : World) (answers : List Answer) (f : Option Fault) (status : ℕ) → IsRun true Unbuilt words limits before now answers f status → IsRun false Unbuilt words limits before now answers f status
any_order words limits before now answers f status run = record {
  course = ⊎_elim (λ early. inl early) (λ ran. inr (of_some (command_of words) limits before now answers f ran)) run.course;
  status_is = run.status_is;
}
