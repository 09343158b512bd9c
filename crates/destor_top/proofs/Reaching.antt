-- A run of the words, where some commands have a run of their own.
use Rattle.std.proofs.Common.{◌≡◌, ◌⊎◌, inl, inr, ⊎_elim, ◌<◌, ◌-◌, ◌^◌, Bool, true, false, ℕ, List, [], ◌∷◌, Option, Some, None, refl, sym, ap, subst, arith, ◌∙◌}
use Rattle.std.specs.Prelude.{IsSomeAnd}
use Rattle.vault_types.specs.declared.Limits.{Limits}
use Rattle.vault_types.specs.declared.Command.{Command}
use Rattle.vault_types.specs.declared.Command.TheVariants as command
use Rattle.vault_types.specs.declared.Fault.{Fault}
use Rattle.vault_types.specs.declared.Fault.TheVariants as fault
use Rattle.vault_types.specs.declared.Kind.{Kind}
use Rattle.vault_types.specs.declared.Why.{Why}
use Rattle.vault_types.specs.declared.Answer.{Answer}
use Rattle.vault_types.specs.Words.{command_of}
use Rattle.vault_types.specs.Bytes.{IsSound}
use Rattle.vault_types.specs.FirstDamage.{IsDamageOf}
use Rattle.vault_types.specs.Shelf.{Blobs, Stands}
use Rattle.vault_types.specs.State.{State}
use Rattle.vault_traits.specs.Counts.{Rose, RiseFrom}
use Rattle.damage_laws.proofs.Undamaged.{undamaged}
use Rattle.store_model.specs.Leaves.{Begins}
use Rattle.store_model.specs.World.{World, IsPrinted}
use Rattle.store_model.specs.Early.{CanOpen, EndsEarly, IsBatch, IsEarly}
use Rattle.store_model.specs.Run.{EndsAtOpening, IsRun, NoneRose, Runs, RunsOpened}
use Rattle.run_laws.proofs.Openings.{ends}
use Rattle.command_runner.specs.Unbuilt.{Unbuilt}
use Rattle.command_runner.specs.Going.{GoesOn}
use Rattle.command_runner.specs.Completes.{IsBuilt}
use Rattle.command_runner.specs.Completes as built
use Rattle.destor_top.specs.Reached.{Reached, IsReached, IsCompleteRun}

-- the commands with a run of their own
abbrev pub is_own : Command → Bool
is_own (command.Scrub workers) = true
is_own other = false

-- another command does what it does below

other_runs : (in_order : Bool) (c : Command) (limits : Limits) (before now : World) (answers : List Answer) (f : Option Fault) → is_own c ≡ false → Runs in_order Unbuilt c limits before now answers f → Runs in_order Reached c limits before now answers f
other_runs in_order (command.Backup a b d e None) limits before now answers f other r = r
other_runs in_order (command.Backup a b d e (Some p)) limits before now answers f other r = r
other_runs in_order (command.Restore a b d None) limits before now answers f other r = r
other_runs in_order (command.Restore a b d (Some p)) limits before now answers f other r = r
other_runs in_order (command.Delete a b) limits before now answers f other r = r
other_runs in_order (command.Show a b) limits before now answers f other r = r
other_runs in_order (command.Batch a b d) limits before now answers f other r = r
other_runs in_order (command.Fill a b d e g) limits before now answers f other r = r
other_runs in_order command.Migrate limits before now answers f other r = r
other_runs in_order (command.Scrub w) limits before now answers f other r = absurd (let clash : true ≡ false = other in cc)

other_built : (c : Command) → is_own c ≡ false → IsReached c → IsBuilt c
other_built (command.Backup a b d e None) other reached = reached
other_built (command.Backup a b d e (Some p)) other reached = reached
other_built (command.Restore a b d None) other reached = reached
other_built (command.Restore a b d (Some p)) other reached = reached
other_built (command.Delete a b) other reached = reached
other_built (command.Show a b) other reached = reached
other_built (command.Batch a b d) other reached = reached
other_built (command.Fill a b d e g) other reached = reached
other_built command.Migrate other reached = reached
other_built (command.Scrub w) other reached = absurd (let clash : true ≡ false = other in cc)

-- the words are no command, or another one
abbrev pub IsOther : List (List ℕ) → Type 0
IsOther words = (c : Command) → command_of words ≡ Some c → is_own c ≡ false

other_course : (in_order : Bool) (o : Option Command) (limits : Limits) (before now : World) (answers : List Answer) (f : Option Fault) → ((c : Command) → o ≡ Some c → is_own c ≡ false) → IsSomeAnd o (λ c. Runs in_order Unbuilt c limits before now answers f)
    → IsSomeAnd o (λ c. Runs in_order Reached c limits before now answers f)
other_course in_order None limits before now answers f other r = r
other_course in_order (Some c) limits before now answers f other r = other_runs in_order c limits before now answers f (other c refl) r

module _ (in_order : Bool) (words : List (List ℕ)) (limits : Limits) (before now : World) (answers : List Answer) (f : Option Fault) (other : IsOther words) where
  pub run_of_other : (status : ℕ) → IsRun in_order Unbuilt words limits before now answers f status → IsRun in_order Reached words limits before now answers f status
  run_of_other status run = record {
    course = ⊎_elim (λ early. inl early) (λ ran. inr (other_course in_order (command_of words) limits before now answers f other ran)) run.course;
    status_is = run.status_is;
  }

  pub complete_of_other : built.IsCompleteRun words limits before now answers f → IsCompleteRun words limits before now answers f
  complete_of_other complete c S is reached = complete c S is (other_built c (other c is) reached)

-- counts that are where they were

still : (old new n : ℕ) → new ≡ old → old < 2 ^ 64 - 1 → RiseFrom old (n ∷ []) new → ⊥
still old new n same below rose = omega (arith, same, below, rose.0, rose.1)

never_rose : (old new : ℕ) → new ≡ old → old < 2 ^ 64 - 1 → Rose old new → ⊥
never_rose old new same below rose = omega (arith, same, below, rose)

-- what is printed on `out` where none rose is printed whole
pub printed_whole : (before now : World) (text : List ℕ) (f : Option Fault) → NoneRose before now → IsPrinted text before.out now.out f → f ≡ None
printed_whole before now text None none p = refl
printed_whole before now text (Some f) none p = absurd (still before.out.faults now.out.faults p.0 none.out.0 none.out.1 p.2)

sound_opens : (told : Option Blobs) (S : State) (k : Kind) (n : ℕ) (w : Why) → IsSomeAnd told (λ m. Stands m S) → IsSound S → IsDamageOf told k n w → ⊥
sound_opens None S k n w stands sound bad = absurd stands
sound_opens (Some m) S k n w stands sound bad = undamaged m S (record { stands = stands; valid = sound.valid; rows = sound.lens }) k n w bad

-- a command with a run of its own

module _ (in_order : Bool) (words : List (List ℕ)) (limits : Limits) (before now : World) (answers : List Answer) (c : Command) (is : command_of words ≡ Some c) (opens : CanOpen (Some c) limits before.input) (alone : IsBatch (Some c) → ⊥)
    (Own : World → World → List Answer → Option Fault → Type 0) where
  at_opening : (f : Option Fault) → IsSomeAnd f (EndsAtOpening before now answers) → IsSomeAnd f (EndsEarly words limits before now answers)
  at_opening None h = absurd h
  at_opening (Some g) h = ends words limits before now before.input answers g (subst (λ (o : Option Command). CanOpen o limits before.input) (sym is) opens) (inr refl) h

  pub run_of_own : (f : Option Fault) (status : ℕ) → (RunsOpened Own before now answers f → Runs in_order Reached c limits before now answers f) → GoesOn Own before now answers f status → IsRun in_order Reached words limits before now answers f status
  run_of_own f status reached goes = record {
    course = ⊎_elim
        (λ early. inl (at_opening f early))
        (λ ran. inr (subst (λ (o : Option Command). IsSomeAnd o (λ d. Runs in_order Reached d limits before now answers f)) (sym is) (reached ran)))
        goes.course;
    status_is = goes.status_is;
  }

  no_script : IsBatch (command_of words) → ⊥
  no_script batch = alone (subst (λ (o : Option Command). IsBatch o) is batch)

  module _ (S : State) (begins : Begins before.shelf S) (sound : IsSound S) (none : NoneRose before now) where
    early : (f : Fault) → IsEarly words limits before now f → f ≡ fault.Memory
    early fault.Memory why = refl
    early fault.Usage why = absurd (let clash : ◌≡◌ {A = Option Command} None (Some c) = sym why ∙ is in cc)
    early (fault.StoreFault n) why = absurd (never_rose before.shelf.faults now.shelf.faults none.shelf.0 none.shelf.1 why.1.1)
    early (fault.Damaged k n w) why = absurd (sound_opens before.shelf.blobs S k n w begins.blobs sound why.1)
    early other why = absurd (no_script why.0)

    ended : (f : Option Fault) → IsSomeAnd f (EndsEarly words limits before now answers) → (answers ≡ []) × (f ≡ Some fault.Memory)
    ended None h = absurd h
    ended (Some f) h = (h.none, ap (λ (g : Fault). Some g) (early f h.why))

  pub complete_of_own : (f : Option Fault) (status : ℕ) → (Runs in_order Reached c limits before now answers f → RunsOpened Own before now answers f)
      → ((S : State) → Begins before.shelf S → IsSound S → NoneRose before now → Own before now answers f → f ≡ None)
      → IsRun in_order Reached words limits before now answers f status → IsCompleteRun words limits before now answers f
  complete_of_own f status own whole run d S same reached can told begins sound none = ⊎_elim
      (λ e. inr (ended S begins sound none f e))
      (λ r. inl (whole S begins sound none (own (subst (λ (o : Option Command). IsSomeAnd o (λ e. Runs in_order Reached e limits before now answers f)) is r)).runs))
      run.course

-- words that are none, or a want of memory for reading them
pub complete_early : (words : List (List ℕ)) (limits : Limits) (before now : World) (answers : List Answer) (f : Option Fault) (e : Fault) → (e ≡ fault.Memory) ⊎ ((e ≡ fault.Usage) × (command_of words ≡ None)) → f ≡ Some e → answers ≡ []
    → IsCompleteRun words limits before now answers f
complete_early words limits before now answers f e why is none c S same reached can told begins sound rose = ⊎_elim
    (λ memory. inr (none, is ∙ ap (λ (g : Fault). Some g) memory))
    (λ usage. absurd (let clash : ◌≡◌ {A = Option Command} None (Some c) = sym usage.1 ∙ same in cc))
    why

-- a command that is none of its own
pub other_is : (words : List (List ℕ)) (c : Command) → command_of words ≡ Some c → ((workers : ℕ) → c ≡ command.Scrub workers → ⊥) → IsOther words
other_is words c is other d same = step d (let e : Some c ≡ Some d = sym is ∙ same in e)
  where
    not_own : (d : Command) → c ≡ d → is_own d ≡ false
    not_own (command.Backup a b d e p) e' = refl
    not_own (command.Restore a b d p) e' = refl
    not_own (command.Delete a b) e' = refl
    not_own (command.Show a b) e' = refl
    not_own (command.Batch a b d) e' = refl
    not_own (command.Fill a b d e g) e' = refl
    not_own command.Migrate e' = refl
    not_own (command.Scrub w) e' = absurd (other w e')

    step : (d : Command) → Some c ≡ Some d → is_own d ≡ false
    step d e = not_own d (let inner : c ≡ d = cc in inner)
