-- A run that ends where the shelf is opened ends early; and one of a script that was read.
use Rattle.std.proofs.Common.{Bool, ◌≡◌, ◌⊎◌, inl, inr, ⊎_elim, ◌+◌, ℕ, List, [], Option, Some, None, sym, ◌∙◌, subst}
use Rattle.std.specs.Prelude.{IsSomeAnd, IfSome}
use Rattle.vault_types.specs.declared.Limits.{Limits}
use Rattle.vault_types.specs.declared.Command.{Command}
use Rattle.vault_types.specs.declared.Command.TheVariants as command
use Rattle.vault_types.specs.declared.Fault.{Fault}
use Rattle.vault_types.specs.declared.Fault.TheVariants as fault
use Rattle.vault_types.specs.declared.Answer.{Answer}
use Rattle.vault_types.specs.declared.Line.{Line}
use Rattle.vault_types.specs.Words.{command_of}
use Rattle.vault_traits.specs.Told.{ShelfTold, SourceTold}
use Rattle.store_model.specs.Calls.{GivesAtMost}
use Rattle.store_model.specs.World.{World}
use Rattle.store_model.specs.Early.{IsBatch, IsScript, CanOpen, IsEarly, IsStartFault, IsSameBut, LeavesShelfAlone, EndsEarly}
use Rattle.store_model.specs.Courses.{RunsBatch}
use Rattle.store_model.specs.Run.{EndsAtOpening, RanLines, RunsOpened, with_input}

early_why : (words : List (List ℕ)) (limits : Limits) (before now : World) (f : Fault) → CanOpen (command_of words) limits before.input → IsStartFault before.shelf now.shelf f → IsEarly words limits before now f
early_why words limits before now fault.Memory can why = tt
early_why words limits before now (fault.StoreFault n) can why = (can, why)
early_why words limits before now (fault.Damaged kind number why') can why = (can, why)
early_why words limits before now fault.Usage can why = absurd why
early_why words limits before now (fault.NotKept a b c d) can why = absurd why
early_why words limits before now (fault.ReadFault n) can why = absurd why
early_why words limits before now (fault.WriteFault n) can why = absurd why
early_why words limits before now (fault.TooMany n) can why = absurd why
early_why words limits before now (fault.LastVersion a b c) can why = absurd why
early_why words limits before now (fault.PlaceFault n) can why = absurd why
early_why words limits before now (fault.BadLine n) can why = absurd why
early_why words limits before now (fault.ScriptTooLong n) can why = absurd why
early_why words limits before now (fault.Full a b c) can why = absurd why

early_shelf : (before now : ShelfTold) (f : Fault) → IsStartFault before now f → IsSameBut before now → LeavesShelfAlone before now f
early_shelf before now fault.Memory why same = same
early_shelf before now (fault.StoreFault n) why same = same
early_shelf before now (fault.Damaged a b c) why same = same
early_shelf before now fault.Usage why same = absurd why
early_shelf before now (fault.NotKept a b c d) why same = absurd why
early_shelf before now (fault.ReadFault n) why same = absurd why
early_shelf before now (fault.WriteFault n) why same = absurd why
early_shelf before now (fault.TooMany n) why same = absurd why
early_shelf before now (fault.LastVersion a b c) why same = absurd why
early_shelf before now (fault.PlaceFault n) why same = absurd why
early_shelf before now (fault.BadLine n) why same = absurd why
early_shelf before now (fault.ScriptTooLong n) why same = absurd why
early_shelf before now (fault.Full a b c) why same = absurd why

module _ (words : List (List ℕ)) (limits : Limits) (before now : World) (input : SourceTold) (answers : List Answer) where
  pub ends : (f : Fault) → CanOpen (command_of words) limits before.input → (IsBatch (command_of words) × GivesAtMost (limits.script + 1) before.input input) ⊎ (input ≡ before.input) → EndsAtOpening (with_input before input) now answers f
      → EndsEarly words limits before now answers f
  ends f can batch h = record {
    why = early_why words limits before now f can h.why;
    none = h.none;
    shelf = early_shelf before.shelf now.shelf f h.why h.shelf;
    places = h.places;
    input = ⊎_elim (λ is. inl (is.0, subst (λ (t : SourceTold). GivesAtMost (limits.script + 1) before.input t) (sym h.input) is.1)) (λ same. inr (h.input ∙ same)) batch;
    out = h.out;
    line = h.line;
  }

  pub batch_run : (in_order : Bool) (lines : List Line) (f : Option Fault) (queue lanes workers : ℕ) → command_of words ≡ Some (command.Batch queue lanes workers) → IsScript limits before.input lines → IfSome input.left (λ rest. rest ≡ []) → GivesAtMost (limits.script + 1) before.input input
      → IsSomeAnd f (EndsAtOpening (with_input before input) now answers) ⊎ RunsOpened (RanLines in_order lines limits) (with_input before input) now answers f
      → IsSomeAnd f (EndsEarly words limits before now answers) ⊎ RunsOpened (RunsBatch in_order limits) before now answers f
  batch_run in_order lines f queue lanes workers is script read within (inl ended) = inl (at f ended)
    where
      at : (f : Option Fault) → IsSomeAnd f (EndsAtOpening (with_input before input) now answers) → IsSomeAnd f (EndsEarly words limits before now answers)
      at None h = absurd h
      at (Some f) h = ends f (subst (λ (o : Option Command). CanOpen o limits before.input) (sym is) (lines, script)) (inl (subst (λ (o : Option Command). IsBatch o) (sym is) tt, within)) h
  batch_run in_order lines f queue lanes workers is script read within (inr ran) = inr (record {
    opened = ran.opened;
    runs = record {
      lines = lines;
      script = script;
      read = subst (λ (s : SourceTold). IfSome s.left (λ rest. rest ≡ [])) (sym ran.runs.input) read;
      within = subst (λ (t : SourceTold). GivesAtMost (limits.script + 1) before.input t) (sym ran.runs.input) within;
      runs = ran.runs.runs;
      printed = ran.runs.printed;
      report = ran.runs.report;
    };
  })
