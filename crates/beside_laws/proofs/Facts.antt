-- What lines come to in a state, from one moment to another: step by step.
use Rattle.std.proofs.Common.{◌≡◌, inl, inr, ⊎_elim, ◌≤◌, ◌+◌, ◌-◌, ◌*◌, ℕ, IsTrue, List, [], ◌∷◌, ◌++◌, Option, refl, arith, length-append}
use Rattle.std.specs.Prelude.{Contains, IsSomeAnd}
use Rattle.std.proofs.lemmas.List.Elements.{Contains-append_left, Contains-append_right}
use Rattle.vault_types.specs.declared.Limits.{Limits}
use Rattle.vault_types.specs.declared.Name.{Name}
use Rattle.vault_types.specs.declared.Answer.{Answer}
use Rattle.vault_types.specs.declared.Line.{Line}
use Rattle.vault_types.specs.State.{State}
use Rattle.vault_types.specs.Bytes.{IsSound}
use Rattle.vault_types.specs.Script.{Sources, after, state_after}
use Rattle.vault_types.specs.Shelf.{Stands}
use Rattle.vault_types.specs.Events.{Change, IsNear}
use Rattle.vault_traits.specs.Crash.{LeavesNowIfTold}
use Rattle.vault_traits.specs.Told.{ShelfTold}
use Rattle.vault_traits.proofs.Moments.{ends, more, more_now, stays}
use Rattle.store_model.specs.Table.{MeansLine, MeanLines}
use Rattle.store_model.specs.Leaves.{is_change, StandsForOne, IsOr, BearsLines, BearsOnceDone}
use Rattle.store_model.specs.Complete.{IsWell, IsWellAnswered, AreWellAnswered}
use Rattle.store_model.specs.Strays.{StraysAreKnown}
use Rattle.store_model.specs.Steps.{IsNextOther, StraysStep, BearsStep}
use Rattle.store_model.specs.Recipes.{KeepsForms}
use Rattle.store_model.specs.View.{IsKept}
use Rattle.script_laws.proofs.Staying.{AreWell, well_alone, well_behind}
use Rattle.script_laws.proofs.Bytes.{Goes, GoesOn, between, kept_same}
use Rattle.script_laws.proofs.Forms.{forms_then, same_forms, still_forms}
use Rattle.script_laws.proofs.Following.{LeftBy, left_step, stay_through}
use Rattle.script_laws.proofs.Crashing.{AreValid, OfChange, are_valid, one_near, bears_line, bears_later, once_line}
use Rattle.beside_laws.specs.Steps.{LeavesState}

module _ {K : Type 0} (shelf : K → ShelfTold) (keeps : K → State → Option Change → Type 0) (known : K → Name → Type 0) (keeps_is : (k : K) (S : State) (other : Option Change) → keeps k S other → IsKept (shelf k) S other) (limits : Limits) where
  -- of the lines that are left, where a keeper keeps the state: all but their loads and outputs
  pub record Facts (sources : Sources) (S : State) (other : Option Change) (lines : List Line) (answers : List Answer) (old new : K) : Type 0 where
    pub last : (next : Option Change) × keeps new (state_after sources S lines answers) next × ((T : State) → IsSomeAnd next (λ h. h.state ≡ T) → LeftBy sources S other lines answers T)
    pub table : MeanLines limits sources S lines answers
    pub strays : StraysAreKnown limits sources S lines answers (known old) (known new) (shelf old) (shelf new)
    pub forms : KeepsForms S (state_after sources S lines answers) (shelf old).blobs (shelf new).blobs
    pub crashes : LeavesNowIfTold (shelf old).history (IsNear S other) → BearsLines sources S (OfChange other) lines answers (shelf old).history (shelf new).history
    pub once : BearsOnceDone sources S lines answers (shelf new).history
    pub well : AreWell limits sources S lines answers → AreWellAnswered limits sources S lines answers
    pub goes : (most : Limits) → IsWell most sources S lines → Goes most sources S lines answers × IsSound (state_after sources S lines answers)
    pub on : GoesOn sources S lines answers
    pub sound : IsWell limits sources S lines → AreWell limits sources S lines answers × IsSound (state_after sources S lines answers)

  -- what the first line does, besides its loads and its output
  pub record Front (sources : Sources) (S : State) (other : Option Change) (line : Line) (answer : Answer) (next : Option Change) (old new : K) : Type 0 where
    pub means : MeansLine limits sources S line answer
    pub complete : IsWell limits sources S (line ∷ []) → IsWellAnswered limits sources S line answer
    pub next_other : IsNextOther sources S other line answer next
    pub strays : StraysStep limits S line answer (known old) (known new) (shelf old) (shelf new)
    pub forms : KeepsForms S (after sources S line answer) (shelf old).blobs (shelf new).blobs
    pub crash : LeavesNowIfTold (shelf old).history (IsNear S other) → BearsStep sources S other line answer next (shelf old).history (shelf new).history
    pub settles : IsTrue (is_change line answer) → LeavesNowIfTold (shelf new).history (λ m. Stands m (after sources S line answer))

  two : (a b c n m : ℕ) → a ≤ b → b ≤ c → n ≤ 2 * (b - a) → m ≤ 2 * (c - b) → n + m ≤ 2 * (c - a)
  two a b c n m ab bc h k = omega arith

  pub no_lines : (sources : Sources) (S : State) (other : Option Change) (k : K) → keeps k S other → Facts sources S other [] [] k k
  no_lines sources S other k keep = record {
    last = (other, keep, λ T is. inl (is, refl));
    table = tt;
    strays = record { later = omega arith; others = []; few = λ below. omega arith; each = λ n stray. inl stray };
    forms = same_forms S (shelf k).blobs;
    crashes = λ here. stays (StandsForOne (IsOr S (OfChange other))) _ _ refl (more_now (IsNear S other) (StandsForOne (IsOr S (OfChange other))) (one_near S other (are_valid shelf keeps known keeps_is limits k S other keep)) _ here);
    once = tt;
    well = λ all. tt;
    goes = λ most w. (w.sound.valid, w.sound);
    on = (keeps_is k S other keep).valid;
    sound = λ w. (tt, w.sound);
  }

  pub front : (sources : Sources) (S : State) (other next : Option Change) (line : Line) (lines : List Line) (answer : Answer) (answers : List Answer) (old mid new : K) → Front sources S other line answer next old mid
      → keeps old S other → keeps mid (after sources S line answer) next → Facts sources (after sources S line answer) next lines answers mid new → Facts sources S other (line ∷ lines) (answer ∷ answers) old new
  front sources S other next line lines answer answers old mid new f before keep r = record {
    last = (r.last.0, r.last.1, λ T is. left_step sources S other next line answer lines answers T f.next_other (r.last.2 T is));
    table = (f.means, r.table);
    strays = record {
      later = omega (arith, f.strays.later, r.strays.later);
      others = f.strays.others ++ r.strays.others;
      few = λ below. rw (length-append f.strays.others r.strays.others) (two _ _ _ _ _ f.strays.later r.strays.later (f.strays.few (omega (arith, r.strays.later, below))) (r.strays.few below));
      each = λ n stray. ⊎_elim
          (λ stays. ⊎_elim (λ behind. inl behind) (λ more. inr (Contains-append_left f.strays.others r.strays.others n more))
          (stay_through limits sources S' lines answers _ _ (λ k. Contains f.strays.others k) f.strays.each n stays))
          (λ more. inr (Contains-append_right f.strays.others r.strays.others n more))
          (r.strays.each n stray);
    };
    forms = forms_then S S' (state_after sources S' lines answers) (shelf old).blobs (shelf mid).blobs (shelf new).blobs
        (between sources S line answer lines answers goes_on) (kept_same sources S' lines answers r.on) f.forms r.forms;
    crashes = λ here.
        let step = f.crash here in
        bears_line sources S other next line answer lines answers _ (shelf mid).history _ (are_valid shelf keeps known keeps_is limits old S other before) is f.next_other step (r.crashes step.behind);
    once = once_line sources S other next line answer lines answers (shelf mid).history (shelf new).history is f.next_other f.settles r.crashes r.once;
    well = λ all. (f.complete all.0, r.well all.1);
    goes = λ most w.
        let valid = (keeps_is mid S' next keep).valid in
        let rest = r.goes most (well_behind most sources S lines line answer valid f.means.done w) in
        ((w, f.means.done, valid, rest.0), rest.1);
    on = goes_on;
    sound = λ w.
        let kept = keeps_is mid S' next keep in
        let rest = r.sound (well_behind limits sources S lines line answer kept.valid f.means.done w) in
        ((well_alone limits sources S lines line w, rest.0), rest.1);
  }
    where
      S' : State
      S' = after sources S line answer

      is : AreValid S' next
      is = are_valid shelf keeps known keeps_is limits mid S' next keep

      goes_on : GoesOn sources S (line ∷ lines) (answer ∷ answers)
      goes_on = ((keeps_is old S other before).valid, f.means.done, (keeps_is mid S' next keep).valid, r.on)

  -- a call of a restore, beside the lines that are left
  pub beside : (sources : Sources) (S : State) (other : Option Change) (lines : List Line) (answers : List Answer) (old mid new : K) → LeavesState shelf keeps known old mid → keeps old S other
      → Facts sources S other lines answers mid new → Facts sources S other lines answers old new
  beside sources S other lines answers old mid new l keep r = record {
    last = r.last;
    table = r.table;
    strays = record {
      later = omega (arith, l.strays.later, r.strays.later);
      others = l.strays.others ++ r.strays.others;
      few = λ below. rw (length-append l.strays.others r.strays.others) (two _ _ _ _ _ l.strays.later r.strays.later (l.strays.few (omega (arith, r.strays.later, below))) (r.strays.few below));
      each = λ n stray. ⊎_elim
          (λ stays. ⊎_elim (λ behind. inl behind) (λ more. inr (Contains-append_left l.strays.others r.strays.others n more))
          (stay_through limits sources S lines answers (known mid) (known old) (λ k. Contains l.strays.others k) l.strays.each n stays))
          (λ more. inr (Contains-append_right l.strays.others r.strays.others n more))
          (r.strays.each n stray);
    };
    forms = forms_then S S (state_after sources S lines answers) (shelf old).blobs (shelf mid).blobs (shelf new).blobs
        (λ s v j k was is. was) (kept_same sources S lines answers r.on) (still_forms S (shelf old).blobs (shelf mid).blobs (l.recipes S other keep)) r.forms;
    crashes = λ here.
        let leaves = l.crash S other keep here in
        bears_later sources S (OfChange other) lines answers _ (shelf mid).history _ (more (IsNear S other) (StandsForOne (IsOr S (OfChange other))) (one_near S other (are_valid shelf keeps known keeps_is limits old S other keep)) _ _ leaves)
        (r.crashes (ends (IsNear S other) _ _ leaves));
    once = r.once;
    well = r.well;
    goes = r.goes;
    on = r.on;
    sound = r.sound;
  }
