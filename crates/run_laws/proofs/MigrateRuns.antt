-- A migration behind an opening.
use Rattle.std.proofs.Common.{◌≡◌, ◌⊎◌, inl, ⊎_elim, ℕ, [], ◌∷◌, Option, Some, None, refl, sym, ap, subst, ◌∙◌}
use Rattle.std.specs.Prelude.{IsSomeAnd, Result}
use Rattle.vault_types.specs.declared.Name.{Name}
use Rattle.vault_types.specs.declared.Fault.{Fault}
use Rattle.vault_types.specs.declared.Answer.{Answer}
use Rattle.vault_types.specs.State.{State}
use Rattle.vault_types.specs.Shelf.{Blobs, Stands}
use Rattle.vault_types.specs.Events.{Change, IsNear}
use Rattle.vault_traits.specs.Counts.{counted_up}
use Rattle.vault_traits.specs.Crash.{History, LeavesNowIfTold, LeavesOnlyIfTold}
use Rattle.vault_traits.specs.Told.{ShelfTold}
use Rattle.vault_traits.proofs.Moments.{more, more_now}
use Rattle.state_laws.proofs.Changing.{near_alone}
use Rattle.store_model.specs.Causes.{CausesRise, counts_of_shelf}
use Rattle.store_model.specs.Leaves.{Begins}
use Rattle.store_model.specs.Steps.{answer_of}
use Rattle.store_model.specs.Strays.{StraysOf}
use Rattle.store_model.specs.View.{IsKept}
use Rattle.store_model.specs.World.{World, IsPrinted, report_text}
use Rattle.store_model.specs.Early.{IsSameBut}
use Rattle.store_model.specs.Migrating.{AreForms, GetsOf, MigratesIn, MigratesStore, StaysAsIs, RunsMigrate}
use Rattle.run_laws.proofs.Earlier.{causes_earlier}

some_near : (b : Option Blobs) (S : State) (o : Option Change) → o ≡ None → IsSomeAnd b (IsNear S o) → IsSomeAnd b (λ m. Stands m S)
some_near None S o none h = absurd h
some_near (Some m) S o none h = near_alone S m (subst (λ (p : Option Change). IsNear S p m) none h)

-- what is answered in a state, where the shelf was opened before
in_earlier : (S : State) (a : Answer) (old mid new : ShelfTold) → IsSameBut old mid → MigratesIn S a mid new → MigratesIn S a old new
in_earlier S a old mid new same m = record {
  forms = subst (λ (b : Option Blobs). AreForms S a b new.blobs) same.blobs m.forms;
  gets = (m.gets.0, m.gets.1 ∙ ap (λ (g : ℕ). counted_up g m.gets.0) same.gets, subst (λ (b : Option Blobs). GetsOf b S a m.gets.0) same.blobs m.gets.2);
  damage = m.damage;
  complete = m.complete;
}

module _ {K : Type 0} (shelf : K → ShelfTold) (keeps : K → State → Option Change → Type 0) (known : K → Name → Type 0) (keeps_is : (k : K) (S : State) (other : Option Change) → keeps k S other → IsKept (shelf k) S other)
    (strays_known : (k : K) (S : State) (other : Option Change) → keeps k S other → (n : Name) → StraysOf (shelf k) S n → known k n) where
  pub migrate_run : (before now : World) (k k' : K) (result : Result Answer Fault) (f : Option Fault) → IsSameBut before.shelf (shelf k) → now.shelf ≡ shelf k'
      → ((S : State) → Begins before.shelf S → (n : Name) → known k n → StraysOf before.shelf S n) → ((S : State) → Begins before.shelf S → keeps k S None) → MigratesStore (keeps k) (keeps k') (known k) (known k') (shelf k) (shelf k') result
      → IsPrinted (report_text (answer_of result ∷ [])) before.out now.out f → now.report ≡ before.report → now.input ≡ before.input → now.places ≡ before.places → RunsMigrate before now (answer_of result ∷ []) f
  migrate_run before now k k' result f same closed told begins call printed report input places = record {
    answer = answer_of result;
    one = refl;
    kind = call.kind;
    causes = causes_earlier (counts_of_shelf (shelf k)) (counts_of_shelf now.shelf) before.shelf.faults (answer_of result ∷ []) same.later
        (subst (λ (t : ShelfTold). CausesRise (counts_of_shelf (shelf k)) (counts_of_shelf t) (answer_of result ∷ [])) (sym closed) call.causes);
    means = λ S start. subst (λ (t : ShelfTold). MigratesIn S (answer_of result) before.shelf t) (sym closed)
        (in_earlier S (answer_of result) before.shelf (shelf k) (shelf k') same (call.steps S None (begins S start)).3);
    stays = λ S start. subst (λ (t : ShelfTold). StaysAsIs S before.shelf t) (sym closed) (stays S start);
    printed = printed;
    report = report;
    input = input;
    places = places;
  }
    where
      stays : (S : State) → Begins before.shelf S → StaysAsIs S before.shelf (shelf k')
      stays S start =
          let step = call.steps S None (begins S start) in
          let none : step.0 ≡ None = ⊎_elim (λ is. is) (λ is. is) step.2 in
          record {
            blobs = some_near (shelf k').blobs S step.0 none (keeps_is k' S step.0 step.1).blobs;
            strays = λ n stray. told S start n (step.4 n (strays_known k' S step.0 step.1 n stray));
            crash = λ images.
                let near : LeavesNowIfTold (shelf k).history (IsNear S None) =
                more_now (λ m. Stands m S) (IsNear S None) (λ m stands. inl stands) (shelf k).history (subst (λ (h : Option History). LeavesNowIfTold h (λ m. Stands m S)) (sym same.history) images) in
                more (IsNear S None) (λ m. Stands m S) (λ m h. near_alone S m h) before.shelf.history (shelf k').history
                (subst (λ (h : Option History). LeavesOnlyIfTold h (shelf k').history (IsNear S None)) same.history (step.5 near).any_moment);
          }
