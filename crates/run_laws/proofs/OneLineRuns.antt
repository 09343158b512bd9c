-- Runs of one line behind an opening.
use Rattle.std.proofs.Common.{◌≡◌, ◌≤◌, ℕ, true, IsTrue, List, [], ◌∷◌, Option, None, refl, sym, ap, ◌∙◌, subst}
use Rattle.std.specs.Prelude.{Result, Ok, Err, OnOk, IfOk, IfSome, unwrap_or, false}
use Rattle.vault_types.specs.declared.Limits.{Limits}
use Rattle.vault_types.specs.declared.JobConfig.{JobConfig}
use Rattle.vault_types.specs.declared.Name.{Name}
use Rattle.vault_types.specs.declared.Fault.{Fault}
use Rattle.vault_types.specs.declared.Fault.TheVariants as fault
use Rattle.vault_types.specs.declared.Answer.{Answer}
use Rattle.vault_types.specs.declared.Answer.TheVariants.{Refused}
use Rattle.vault_types.specs.declared.Line.{Line}
use Rattle.vault_types.specs.declared.Line.TheVariants.{Backup, Restore, Delete}
use Rattle.vault_types.specs.Events.{Change}
use Rattle.vault_types.specs.State.{State}
use Rattle.vault_types.specs.Script.{after, is_refused}
use Rattle.vault_traits.specs.Told.{ShelfTold, SourceTold}
use Rattle.store_model.specs.Calls.{BacksUpLine, RestoresLine, DeletesLine}
use Rattle.store_model.specs.Causes.{Counts, CausesRise, fits, counts_of_source, counts_of_sink, counts_of_shelf}
use Rattle.store_model.specs.Leaves.{Begins}
use Rattle.store_model.specs.Steps.{StepsOn, answer_of}
use Rattle.store_model.specs.Strays.{StraysOf}
use Rattle.store_model.specs.View.{IsKept}
use Rattle.script_laws.proofs.Counting.{few_counted}
use Rattle.script_laws.proofs.OneLine.{one_line_means}
use Rattle.script_laws.proofs.Staying.{well_behind}
use Rattle.store_model.specs.World.{World, IsPrinted, report_text}
use Rattle.store_model.specs.Early.{IsSameBut}
use Rattle.store_model.specs.Courses.{RunsLine, RunsBackup, RunsRestore, RunsDelete}
use Rattle.run_laws.proofs.Earlier.{with_store, causes_earlier, complete_earlier, means_opened}

module _ {K : Type 0} (shelf : K → ShelfTold) (keeps : K → State → Option Change → Type 0) (known : K → Name → Type 0) (keeps_is : (k : K) (S : State) (other : Option Change) → keeps k S other → IsKept (shelf k) S other)
    (strays_known : (k : K) (S : State) (other : Option Change) → keeps k S other → (n : Name) → StraysOf (shelf k) S n → known k n) where
  line_run : (limits : Limits) (x : List ℕ) (line : Line) (before : ShelfTold) (k k' : K) (a : Answer) (old new : Counts) → IsSameBut before (shelf k) → old.store ≡ (shelf k).faults
      → ((S : State) → Begins before S → keeps k S None) → ((S : State) → Begins before S → (n : Name) → known k n → StraysOf before S n) → IsTrue (fits limits line a) → CausesRise old new (a ∷ [])
      → ((S : State) → keeps k S None → (next : Option Change) × keeps k' (after (λ _. x) S line a) next × StepsOn limits (λ _. x) S None line a next (known k) (known k') (shelf k) (shelf k'))
      → RunsLine limits x line before (shelf k') a (with_store old before.faults) new
  line_run limits x line before k k' a old new same store begins told kind causes steps = record {
    kind = kind;
    causes = causes_earlier old new before.faults (a ∷ []) later causes;
    means = λ S start. means_opened limits (λ _. x) S (line ∷ []) (a ∷ []) (known k) (StraysOf before S) before (shelf k) (shelf k') (told S start) same
        (one_line_means shelf keeps known keeps_is strays_known limits (λ _. x) S k k' line a (begins S start) (steps S (begins S start)));
    complete = λ S start all.
        let step = steps S (begins S start) in
        complete_earlier limits (λ _. x) S (line ∷ []) (a ∷ []) old new before.faults later
        (record {
          each = (step.2.complete all, tt);
          sound = (well_behind limits (λ _. x) S [] line a (keeps_is k' (after (λ _. x) S line a) step.0 step.1).valid step.2.means.done all).sound;
          few = few_counted old new (a ∷ []) causes;
        });
  }
    where
      later : before.faults ≤ old.store
      later = subst (λ (n : ℕ). before.faults ≤ n) (sym store) same.later

  refused_by : (result : Result Answer Fault) (n : ℕ) → IfOk result (λ a. is_refused a ≡ false) → answer_of result ≡ Refused (fault.TooMany n) → result ≡ Err (fault.TooMany n)
  refused_by (Ok a) n done is = let clash : true ≡ false = sym (ap is_refused is) ∙ done in cc
  refused_by (Err f) n done is = cc

  to_the_end : (result : Result Answer Fault) (now : SourceTold) → OnOk result (IfSome now.left (λ rest. rest ≡ [])) → is_refused (answer_of result) ≡ false → IfSome now.left (λ rest. rest ≡ [])
  to_the_end (Ok a) now end done = end
  to_the_end (Err f) now end done = cc

  pub backup_run : (limits : Limits) (before now : World) (k k' : K) (s : ℕ) (config : JobConfig) (result : Result Answer Fault) (f : Option Fault) → IsSameBut before.shelf (shelf k) → now.shelf ≡ shelf k'
      → ((S : State) → Begins before.shelf S → (n : Name) → known k n → StraysOf before.shelf S n) → ((S : State) → Begins before.shelf S → keeps k S None) → BacksUpLine (keeps k) (keeps k') (known k) (known k') limits s config (shelf k) (shelf k') before.input now.input result
      → IsPrinted (report_text (answer_of result ∷ [])) before.out now.out f → now.report ≡ before.report → now.places ≡ before.places → RunsBackup s config limits before now (answer_of result ∷ []) f
  backup_run limits before now k k' s config result f same closed told begins call printed report places = record {
    answer = answer_of result;
    one = refl;
    read = call.read;
    given = call.given;
    within = call.within;
    too_many = λ n is. call.too_many n (refused_by result n call.done is);
    runs = runs;
    to_the_end = λ done. to_the_end result now.input call.to_the_end done;
    printed = printed;
    report = report;
    places = places;
  }
    where
      runs : RunsLine limits (unwrap_or before.input.left call.read) (Backup s [] config) before.shelf now.shelf (answer_of result) (counts_of_source before.shelf before.input) (counts_of_source now.shelf now.input)
      runs = subst (λ (t : ShelfTold). RunsLine limits (unwrap_or before.input.left call.read) (Backup s [] config) before.shelf t (answer_of result) (counts_of_source before.shelf before.input) (counts_of_source t now.input)) (sym closed)
          (line_run limits (unwrap_or before.input.left call.read) (Backup s [] config) before.shelf k k' (answer_of result) (counts_of_source (shelf k) before.input) (counts_of_source (shelf k') now.input)
          same refl begins told call.kind call.causes (λ S keep. call.steps S None keep))

  pub restore_run : (limits : Limits) (before now : World) (k k' : K) (s v slots : ℕ) (result : Result Answer Fault) (f : Option Fault) → IsSameBut before.shelf (shelf k) → now.shelf ≡ shelf k'
      → ((S : State) → Begins before.shelf S → (n : Name) → known k n → StraysOf before.shelf S n) → ((S : State) → Begins before.shelf S → keeps k S None) → RestoresLine (keeps k) (keeps k') (known k) (known k') s v slots (shelf k) (shelf k') before.out now.out result
      → IsPrinted (report_text (answer_of result ∷ [])) before.report now.report f → now.input ≡ before.input → now.places ≡ before.places → RunsRestore s v slots limits before now (answer_of result ∷ []) f
  restore_run limits before now k k' s v slots result f same closed told begins call printed input places = record {
    answer = answer_of result;
    one = refl;
    runs = runs;
    blobs = λ S start. ap (λ (t : ShelfTold). t.blobs) closed ∙ call.blobs S None (begins S start) ∙ same.blobs;
    written = λ S start. call.written S None (begins S start);
    printed = printed;
    input = input;
    places = places;
  }
    where
      runs : RunsLine limits [] (Restore s v [] slots) before.shelf now.shelf (answer_of result) (counts_of_sink before.shelf before.out) (counts_of_sink now.shelf now.out)
      runs = subst (λ (t : ShelfTold). RunsLine limits [] (Restore s v [] slots) before.shelf t (answer_of result) (counts_of_sink before.shelf before.out) (counts_of_sink t now.out)) (sym closed)
          (line_run limits [] (Restore s v [] slots) before.shelf k k' (answer_of result) (counts_of_sink (shelf k) before.out) (counts_of_sink (shelf k') now.out)
          same refl begins told (call.kind limits) call.causes (λ S keep. call.steps S None limits keep))

  pub delete_run : (limits : Limits) (before now : World) (k k' : K) (s n : ℕ) (result : Result Answer Fault) (f : Option Fault) → IsSameBut before.shelf (shelf k) → now.shelf ≡ shelf k'
      → ((S : State) → Begins before.shelf S → (n : Name) → known k n → StraysOf before.shelf S n) → ((S : State) → Begins before.shelf S → keeps k S None) → DeletesLine (keeps k) (keeps k') (known k) (known k') s n (shelf k) (shelf k') result
      → IsPrinted (report_text (answer_of result ∷ [])) before.out now.out f → now.report ≡ before.report → now.input ≡ before.input → now.places ≡ before.places → RunsDelete s n limits before now (answer_of result ∷ []) f
  delete_run limits before now k k' s n result f same closed told begins call printed report input places = record {
    answer = answer_of result;
    one = refl;
    runs = runs;
    printed = printed;
    report = report;
    input = input;
    places = places;
  }
    where
      runs : RunsLine limits [] (Delete s n) before.shelf now.shelf (answer_of result) (counts_of_shelf before.shelf) (counts_of_shelf now.shelf)
      runs = subst (λ (t : ShelfTold). RunsLine limits [] (Delete s n) before.shelf t (answer_of result) (counts_of_shelf before.shelf) (counts_of_shelf t)) (sym closed)
          (line_run limits [] (Delete s n) before.shelf k k' (answer_of result) (counts_of_shelf (shelf k)) (counts_of_shelf (shelf k'))
          same refl begins told (call.kind limits) call.causes (λ S keep. call.steps S None limits keep))
