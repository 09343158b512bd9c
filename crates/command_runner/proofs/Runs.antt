-- What a command's run is as a run of the words.
use Rattle.std.specs.Prelude.{Bool, ◌+◌, IsSomeAnd, IfSome}
use Rattle.std.proofs.Common.{◌≡◌, ◌⊎◌, inl, inr, ⊎_elim, ℕ, List, [], Option, Some, None, refl, sym, ap, subst, arith, ◌∙◌}
use Rattle.vault_types.specs.declared.Limits.{Limits}
use Rattle.vault_types.specs.declared.Command.{Command}
use Rattle.vault_types.specs.declared.Command.TheVariants as command
use Rattle.vault_types.specs.declared.Fault.{Fault}
use Rattle.vault_types.specs.declared.Fault.TheVariants as fault
use Rattle.vault_types.specs.declared.Line.{Line}
use Rattle.vault_types.specs.declared.Answer.{Answer}
use Rattle.vault_types.specs.Words.{command_of}
use Rattle.vault_traits.specs.Told.{ShelfTold, SourceTold}
use Rattle.store_model.specs.Calls.{GivesAtMost}
use Rattle.store_model.specs.World.{World, status_after, IsTold}
use Rattle.store_model.specs.Early.{CanOpen, EndsEarly, IsBatch, IsEarly, IsSameBut, IsScript, IsScriptFault, LeavesShelfAlone}
use Rattle.store_model.specs.Run.{EndsAtOpening, IsRun, RanLines, Runs, RunsOpened, with_input}
use Rattle.run_laws.proofs.Openings.{ends, batch_run}
use Rattle.command_runner.specs.Unbuilt.{IsUnbuilt, Unbuilt}
use Rattle.command_runner.specs.Going.{BatchGoes, GoesOn, RefusesScript}

alone : (shelf : ShelfTold) → IsSameBut shelf shelf
alone shelf = record { blobs = refl; history = refl; gets = refl; later = omega arith }

same_shelf : (before now : ShelfTold) → now ≡ before → IsSameBut before now
same_shelf before now same = subst (λ (t : ShelfTold). IsSameBut before t) (sym same) (alone before)

module _ (in_order : Bool) (words : List (List ℕ)) (limits : Limits) (before now : World) (answers : List Answer) where
  -- a command that is built
  as_run : (c : Command) (f : Option Fault) (status : ℕ) → command_of words ≡ Some c → status ≡ status_after answers f
      → IsSomeAnd f (EndsEarly words limits before now answers) ⊎ Runs in_order Unbuilt c limits before now answers f → IsRun in_order Unbuilt words limits before now answers f status
  as_run c f status is stat course = record {
    course = ⊎_elim (λ early. inl early) (λ ran. inr (subst (λ (o : Option Command). IsSomeAnd o (λ d. Runs in_order Unbuilt d limits before now answers f)) (sym is) ran)) course;
    status_is = stat;
  }

  at_opening : (c : Command) (f : Option Fault) → command_of words ≡ Some c → CanOpen (Some c) limits before.input → IsSomeAnd f (EndsAtOpening before now answers) → IsSomeAnd f (EndsEarly words limits before now answers)
  at_opening c None is can h = absurd h
  at_opening c (Some g) is can h = ends words limits before now before.input answers g (subst (λ (o : Option Command). CanOpen o limits before.input) (sym is) can) (inr refl) h

  -- a command of one line
  pub one_line : (c : Command) (f : Option Fault) (status : ℕ) (Line : World → World → List Answer → Option Fault → Type 0) → command_of words ≡ Some c → CanOpen (Some c) limits before.input
      → (RunsOpened Line before now answers f → Runs in_order Unbuilt c limits before now answers f) → GoesOn Line before now answers f status → IsRun in_order Unbuilt words limits before now answers f status
  one_line c f status Line is can to goes = as_run c f status is goes.status_is
      (⊎_elim (λ early. inl (at_opening c f is can early)) (λ ran. inr (to ran)) goes.course)

  script_early : (f : Fault) → IsBatch (command_of words) → IsScriptFault limits before.input now.input f → IsEarly words limits before now f
  script_early fault.Memory batch why = tt
  script_early (fault.ReadFault n) batch why = (batch, why)
  script_early (fault.ScriptTooLong n) batch why = (batch, why)
  script_early (fault.BadLine n) batch why = (batch, why)
  script_early fault.Usage batch why = absurd why
  script_early (fault.NotKept a b c d) batch why = absurd why
  script_early (fault.WriteFault n) batch why = absurd why
  script_early (fault.StoreFault n) batch why = absurd why
  script_early (fault.Damaged a b c) batch why = absurd why
  script_early (fault.TooMany n) batch why = absurd why
  script_early (fault.LastVersion a b c) batch why = absurd why
  script_early (fault.PlaceFault n) batch why = absurd why
  script_early (fault.Full a b c) batch why = absurd why

  untouched : (f : Fault) → now.shelf ≡ before.shelf → LeavesShelfAlone before.shelf now.shelf f
  untouched fault.Memory same = same_shelf before.shelf now.shelf same
  untouched (fault.ReadFault n) same = same
  untouched (fault.ScriptTooLong n) same = same
  untouched (fault.BadLine n) same = same
  untouched fault.Usage same = same
  untouched (fault.NotKept a b c d) same = same_shelf before.shelf now.shelf same
  untouched (fault.WriteFault n) same = same_shelf before.shelf now.shelf same
  untouched (fault.StoreFault n) same = same_shelf before.shelf now.shelf same
  untouched (fault.Damaged a b c) same = same_shelf before.shelf now.shelf same
  untouched (fault.TooMany n) same = same_shelf before.shelf now.shelf same
  untouched (fault.LastVersion a b c) same = same_shelf before.shelf now.shelf same
  untouched (fault.PlaceFault n) same = same_shelf before.shelf now.shelf same
  untouched (fault.Full a b c) same = same_shelf before.shelf now.shelf same

  refused_script : (f : Option Fault) → IsBatch (command_of words) → IsSomeAnd f (RefusesScript limits before now answers) → IsSomeAnd f (EndsEarly words limits before now answers)
  refused_script None batch h = absurd h
  refused_script (Some g) batch h = record { why = script_early g batch h.why; none = h.none; shelf = untouched g h.shelf; places = h.places; input = inl (batch, h.within); out = h.out; line = h.line }

  -- a script
  pub batch : (f : Option Fault) (status queue lanes workers : ℕ) → command_of words ≡ Some (command.Batch queue lanes workers) → BatchGoes in_order limits before now answers f status → IsRun in_order Unbuilt words limits before now answers f status
  batch f status queue lanes workers is goes = as_run (command.Batch queue lanes workers) f status is goes.status_is
      (⊎_elim
      (λ refused. inl (refused_script f (subst (λ (o : Option Command). IsBatch o) (sym is) tt) refused))
      (λ runs. batch_run words limits before now runs.input answers in_order runs.lines f queue lanes workers is runs.script runs.read runs.within runs.goes)
      goes.course)

  -- words that are no command, or no memory to read them
  word_fault : (f : Fault) → (f ≡ fault.Memory) ⊎ ((f ≡ fault.Usage) × (command_of words ≡ None)) → IsEarly words limits before now f
  word_fault f (inl e) = subst (λ (g : Fault). IsEarly words limits before now g) (sym e) tt
  word_fault f (inr (e, none)) = subst (λ (g : Fault). IsEarly words limits before now g) (sym e) none

  pub no_words : (f : Option Fault) (g : Fault) (status : ℕ) → (g ≡ fault.Memory) ⊎ ((g ≡ fault.Usage) × (command_of words ≡ None)) → f ≡ Some g → answers ≡ [] → now.shelf ≡ before.shelf → now.places ≡ before.places → now.input ≡ before.input → now.out ≡ before.out
      → IsTold g before.report now.report → status ≡ status_after [] (Some g) → IsRun in_order Unbuilt words limits before now answers f status
  no_words f g status why is none shelf places input out line stat =
      let early : EndsEarly words limits before now answers g = record { why = word_fault g why; none = none; shelf = untouched g shelf; places = places; input = inr input; out = out; line = line } in
      record {
        course = inl (subst (λ (o : Option Fault). IsSomeAnd o (EndsEarly words limits before now answers)) (sym is) early);
        status_is = stat ∙ ap (λ (l : List Answer). status_after l (Some g)) (sym none) ∙ ap (λ (o : Option Fault). status_after answers o) (sym is);
      }

  -- a command that is not built
  pub unbuilt : (c : Command) (f : Option Fault) (status : ℕ) → command_of words ≡ Some c → (IsUnbuilt before now answers f → Runs in_order Unbuilt c limits before now answers f) → f ≡ Some fault.Usage → answers ≡ [] → now.shelf ≡ before.shelf → now.places ≡ before.places
      → now.input ≡ before.input → now.out ≡ before.out → IsTold fault.Usage before.report now.report → status ≡ status_after [] (Some fault.Usage) → IsRun in_order Unbuilt words limits before now answers f status
  unbuilt c f status is to usage none shelf places input out line stat = as_run c f status is
      (stat ∙ ap (λ (l : List Answer). status_after l (Some fault.Usage)) (sym none) ∙ ap (λ (o : Option Fault). status_after answers o) (sym usage))
      (inr (to (record { usage = usage; none = none; shelf = shelf; places = places; input = input; out = out; line = line })))

-- lines that were read ran
pub read_batch : (in_order : Bool) (limits : Limits) (before now : World) (input : SourceTold) (answers : List Answer) (f : Option Fault) (status : ℕ) (lines : List Line) → IsScript limits before.input lines → IfSome input.left (λ rest. rest ≡ [])
    → GivesAtMost (limits.script + 1) before.input input → GoesOn (RanLines in_order lines limits) (with_input before input) now answers f status → BatchGoes in_order limits before now answers f status
read_batch in_order limits before now input answers f status lines script read within goes = record {
  course = inr (record { input = input; lines = lines; script = script; read = read; within = within; goes = goes.course });
  status_is = goes.status_is;
}
