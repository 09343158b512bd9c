-- The end of a restore that runs beside lines: what it owes of its answer, in each state that was kept before its pin.
use Rattle.std.proofs.Common.{◌≡◌, ◌⊎◌, inl, inr, ⊎_elim, ◌≤◌, ◌<◌, ◌+◌, ◌-◌, ◌^◌, ℕ, true, List, [], ◌∷◌, ◌++◌, length, map, Option, Some, None, Result, Ok, Err, refl, sym, ap, subst, ◌∙◌, arith}
use Rattle.std.specs.Prelude.{Contains, IfSome}
use Rattle.std.specs.Option.{option_map}
use Rattle.vault_types.specs.declared.Answer.{Answer}
use Rattle.vault_types.specs.declared.Answer.TheVariants.{Restored, Refused}
use Rattle.vault_types.specs.declared.Fault.{Fault}
use Rattle.vault_types.specs.declared.Fault.TheVariants as fault
use Rattle.vault_types.specs.declared.Kind.TheVariants as kind
use Rattle.vault_types.specs.declared.Why.TheVariants as why
use Rattle.vault_types.specs.declared.Limits.{Limits}
use Rattle.vault_types.specs.declared.Spot.{Spot}
use Rattle.vault_types.specs.declared.Whole.{Whole}
use Rattle.vault_types.specs.Events.{Core, Change}
use Rattle.vault_types.specs.Plans.{requests, loads}
use Rattle.vault_types.specs.State.{State, is_kept}
use Rattle.vault_traits.specs.Counts.{counted_up, Rose}
use Rattle.vault_traits.specs.Files.{ChangesOnly, IsWhatWasTaken}
use Rattle.vault_traits.specs.Told.{SinkTold, Files}
use Rattle.store_model.specs.Calls.{RestoresLine, restore_answer}
use Rattle.store_model.specs.Causes.{store_number}
use Rattle.store_model.specs.Outputs.{OnFiles}
use Rattle.store_model.specs.Steps.{write_numbered}
use Rattle.beside_laws.specs.Running.{Past, Running, with_answer, owed}
use Rattle.beside_laws.specs.Steps.{IsOwn, GetsMore, HasOutput}
use Rattle.beside_laws.proofs.Alone.{alone_own, alone_got, alone_output}
use Rattle.restore_assembler.specs.Copying.{IsOutputFault}
use Rattle.restore_stage.specs.declared.Loaded.{Loaded}
use Rattle.restore_stage.specs.declared.Reply.{Reply}
use Rattle.restore_stage.specs.declared.Reply.TheVariants as reply
use Rattle.restore_stage.specs.Assembling.{Assembling, load_ids, reply_of, HasCome, HasWritten, AreOf, IsSame}
use Rattle.keeper_catalog.specs.View.{View, Keeps}
use Rattle.keeper_core.specs.Keeping.{IsKnownStray}
use Rattle.serial_restore.specs.Going.{IsCopied, IsRestoreStopped, IsAtMostLeast}
use Rattle.serial_restore.specs.Restoring.{whole_of, HasGone}
use Rattle.serial_restore.proofs.Lines.{kept_line}
use Rattle.restore_turns.specs.Sent.{AreSent, IsLoadFault}
use Rattle.restore_turns.specs.Entry.{IsStateBeside, IsEntry}
use Rattle.restore_turns.specs.Started.{IsPlanned, HasStarted}
use Rattle.restore_ends.specs.Results.{result_of, faults_at}
use Rattle.restore_ends.proofs.Alone.{alone, alone_keeps, alone_back, fresh_of, entry_alone, planned_alone, state_fresh, line_beside}
use Rattle.restore_ends.proofs.Came.{stage_came}
use Rattle.restore_ends.proofs.Ran.{ran}
use Rattle.restore_ends.proofs.Replies.{fault_sent, front_sent}

-- a fault that was sent brings the number that was met, and no other
sent_number : (u : View) (number : ℕ) (spots : List Spot) (met : Option ℕ) (writes : ℕ) (f : Fault) → IsLoadFault u number spots met f → (store_number (Refused (write_numbered writes f)) ≡ None) ⊎ (store_number (Refused (write_numbered writes f)) ≡ met)
sent_number u number spots met writes (fault.StoreFault n) h = inr (sym h)
sent_number u number spots met writes (fault.WriteFault n) h = absurd h
sent_number u number spots met writes (fault.Damaged k n y) h = inl refl
sent_number u number spots met writes fault.Memory h = inl refl
sent_number u number spots met writes other h = absurd h

output_number : (whole : Option Whole) (before now : SinkTold) (writes : ℕ) (f : Fault) → IsOutputFault whole before now f → store_number (Refused (write_numbered writes f)) ≡ None
output_number whole before now writes (fault.WriteFault n) h = refl
output_number whole before now writes (fault.Damaged kind.Recipe n (why.Whole want found)) h = refl
output_number whole before now writes other h = absurd h

-- p is what has been of the restore; a is its first stage, and b the one that replied
module _ {K : Type 0} (keeps : K → State → Option Change → Type 0) (p : Past K) (v u now : View) (number : ℕ) (ids : List ℕ) (a b : Assembling) (sent waiting : List Loaded) (r : Reply) (more : List Reply)
    (t : HasStarted v u p.set p.version p.cache number ids a) (entry : IsEntry u now number a.copying.spots ids p.got p.met sent) (same : IsSame a b) (line : b.loads.taken ++ waiting ≡ sent) (replied : reply_of b ≡ r ∷ more)
    (becomes : (S : State) (other : Option Change) → keeps p.from S other → IsStateBeside v S other) where
  came : HasCome a.sink a.copying.steps b (r ∷ more)
  came = stage_came a b same t.taken t.unsent r more replied

  planned : IsPlanned (fresh_of v) (fresh_of u) p.set p.version p.cache number ids a.bytes a.copying
  planned = planned_alone v u p.set p.version p.cache number ids a.bytes a.copying t.planned

  e : IsEntry (fresh_of u) now number a.copying.spots ids p.got p.met sent
  e = entry_alone u number a.copying.spots now ids p.got p.met sent entry

  abbrev pub faults : ℕ
  faults = faults_at u.told.faults p.met

  -- the keeper from before the pin, over gets that begin at none, and what the restore alone would have left of it
  abbrev pub old : View
  old = fresh_of v

  abbrev pub new : View
  new = alone (fresh_of v) (counted_up 0 p.got) faults

  gone : HasGone old new a.sink b.sink p.set p.version p.cache (result_of p.set p.version ids r)
  unfolding planned e
  gone = ran (fresh_of v) (fresh_of u) now p.set p.version p.cache number ids a b p.got p.met sent waiting r more planned t.taken t.unsent e same line replied

  -- the line of the restore alone, in each state that was kept before the pin
  pub alone_line : RestoresLine (keeps p.from) (IsStateBeside new) (IsKnownStray old) (IsKnownStray new) p.set p.version p.cache old.told new.told a.sink b.sink (result_of p.set p.version ids r)
  unfolding gone
  alone_line = line_beside old new (keeps p.from) a.sink b.sink p.set p.version p.cache (result_of p.set p.version ids r) (λ S other here. state_fresh v S other (becomes S other here))
      (kept_line old new a.sink b.sink p.set p.version p.cache (result_of p.set p.version ids r) (t.planned.core.0, alone_keeps v 0 v.told.faults t.planned.core.0 t.planned.core.1) t.planned.range (λ K keep. t.planned.kept K (alone_back v 0 v.told.faults K keep)) gone)

  module _ (writes : ℕ) where
    abbrev pub answer : Answer
    answer = restore_answer writes (result_of p.set p.version ids r)

    abbrev pub ended : Running K
    ended = with_answer answer p

    -- its answer's number of a store fault is the one that was met
    answer_number : (store_number answer ≡ None) ⊎ (store_number answer ≡ p.met)
    answer_number = at r came
      where
        at : (y : Reply) → HasCome a.sink a.copying.steps b (y ∷ more)
            → (store_number (restore_answer writes (result_of p.set p.version ids y)) ≡ None) ⊎ (store_number (restore_answer writes (result_of p.set p.version ids y)) ≡ p.met)
        at (reply.Written bytes) c = inl refl
        at reply.Unwanted c = inl refl
        at (reply.Failed f) c = ⊎_elim
            (λ there. sent_number u number a.copying.spots p.met writes f
            (fault_sent u number a.copying.spots p.met b.loads.taken f
            (front_sent u number a.copying.spots p.met b.loads.taken waiting (subst (λ (items : List Loaded). AreSent u number a.copying.spots p.met items) (sym line) entry.all)) there))
            (λ cause. inl (output_number b.copying.whole a.sink b.sink writes f cause))
            c

    still_kept : (S : State) (other : Option Change) → keeps p.from S other → true ≡ is_kept S p.set p.version
    still_kept S other here = let is = (becomes S other here).1 in subst (λ (T : State). true ≡ is_kept T p.set p.version) is.state (t.planned.kept is.core is.keeps)

    pub nothing_owed : owed ended ≡ None
    unfolding answer_number
    nothing_owed = at p.met refl
      where
        at : (o : Option ℕ) → p.met ≡ o → owed (record ended { met = o }) ≡ None
        at (Some k) is = refl
        at None is = ⊎_elim (λ none. none) (λ eq. eq ∙ is) answer_number

    module _ (limits : Limits) where
      pub ended_own : IsOwn keeps limits ended
      unfolding alone_line answer_number
      ended_own = alone_own keeps limits ended (IsStateBeside new) (IsKnownStray old) (IsKnownStray new) old.told new.told a.sink b.sink (result_of p.set p.version ids r) writes alone_line refl
          (λ k is. ⊎_elim (λ none. inl none) (λ eq. inr (eq ∙ is)) answer_number)

      pub ended_got : p.got + 0 < 2 ^ 64 - 1 → GetsMore keeps ended 0
      unfolding alone_line
      ended_got few = alone_got keeps limits ended (IsStateBeside new) (IsKnownStray old) (IsKnownStray new) old.told new.told a.sink b.sink (result_of p.set p.version ids r) writes alone_line refl 0 refl
          (ap (counted_up 0) (let e : p.got ≡ p.got + 0 = omega arith in e)) few

      pub ended_output : (x y : Option Files) → IfSome x (λ files. a.sink.taken ≡ Some []) → ChangesOnly x y p.name (IsWhatWasTaken b.sink.taken) → OnFiles x y (λ f g. HasOutput keeps g ended)
      unfolding alone_line still_kept
      ended_output x y empty changed = alone_output keeps limits ended (IsStateBeside new) (IsKnownStray old) (IsKnownStray new) old.told new.told a.sink b.sink (result_of p.set p.version ids r) writes alone_line refl still_kept x y empty changed
