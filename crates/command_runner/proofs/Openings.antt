-- A run that ends where the shelf is opened.
use Rattle.std.proofs.Common.{◌≡◌, inl, inr, ℕ, List, [], ◌∷◌, Option, Some, sym, ap, subst, ◌∙◌}
use Rattle.std.specs.Prelude.{IsSomeAnd, Result, Ok, Err, IfOk, IfErr}
use Rattle.vault_types.specs.declared.Fault.{Fault}
use Rattle.vault_types.specs.declared.Answer.{Answer}
use Rattle.vault_traits.specs.Told.{SinkTold}
use Rattle.store_model.specs.World.{World, status_after, report_text, IsPrinted, IsTold}
use Rattle.store_model.specs.Early.{HasOpened, IsSameBut, IsStartFault}
use Rattle.store_model.specs.Run.{EndsAtOpening}
use Rattle.command_runner.specs.Going.{GoesOn}

-- what is known of a result's parts, at those that it has
pub if_ok : {A B : Type 0} (P : A → Type 0) (r : Result A B) (a : A) → r ≡ Ok a → IfOk r P → P a
if_ok {A} {B} P r a is h = subst (λ (x : Result A B). IfOk x P) is h

pub if_err : {A B : Type 0} (P : B → Type 0) (r : Result A B) (e : B) → r ≡ Err e → IfErr r P → P e
if_err {A} {B} P r e is h = subst (λ (x : Result A B). IfErr x P) is h

pub not_opened : (Runs : World → World → List Answer → Option Fault → Type 0) (before now : World) (answers : List Answer) (f : Option Fault) (g : Fault) (status : ℕ) → IsSameBut before.shelf now.shelf × IsStartFault before.shelf now.shelf g
    → f ≡ Some g → answers ≡ [] → now.places ≡ before.places → now.input ≡ before.input → now.out ≡ before.out → IsTold g before.report now.report → status ≡ status_after [] (Some g) → GoesOn Runs before now answers f status
not_opened Runs before now answers f g status shelf is none places input out line stat =
    let ends : EndsAtOpening before now answers g = record { why = shelf.1; none = none; shelf = shelf.0; places = places; input = input; out = out; line = line } in
    record {
      course = inl (subst (λ (o : Option Fault). IsSomeAnd o (EndsAtOpening before now answers)) (sym is) ends);
      status_is = stat ∙ ap (λ (l : List Answer). status_after l (Some g)) (sym none) ∙ ap (λ (o : Option Fault). status_after answers o) (sym is);
    }

pub status_of_same : (status : ℕ) (answers others : List Answer) (f : Option Fault) → answers ≡ others → status ≡ status_after others f → status ≡ status_after answers f
status_of_same status answers others f same is = is ∙ ap (λ (l : List Answer). status_after l f) (sym same)

-- a run of one answer, in the room that was taken for it
module _ (a b : Answer) (one answers : List Answer) (is : one ≡ b ∷ []) (same : b ≡ a) (all : answers ≡ one) where
  alone : one ≡ a ∷ []
  alone = is ∙ ap (λ (x : Answer). x ∷ []) same

  pub printed_one : (before now : SinkTold) (f : Option Fault) → IsPrinted (report_text one) before now f → IsPrinted (report_text (a ∷ [])) before now f
  printed_one before now f printed = subst (λ (l : List Answer). IsPrinted (report_text l) before now f) alone printed

  pub one_answer : (Runs : World → World → List Answer → Option Fault → Type 0) (before now : World) (f : Option Fault) (status : ℕ) → status ≡ status_after one f → HasOpened before.shelf → Runs before now (a ∷ []) f → GoesOn Runs before now answers f status
  one_answer Runs before now f status stat opened runs = record {
    course = inr (record { opened = opened; runs = subst (λ (l : List Answer). Runs before now l f) (sym (all ∙ alone)) runs });
    status_is = status_of_same status answers one f all stat;
  }

-- a run whose end hands on what it was given
pub ran : (Runs : World → World → List Answer → Option Fault → Type 0) (before now end : World) (answers others : List Answer) (f g : Option Fault) (status : ℕ) → end ≡ now → others ≡ answers → g ≡ f → status ≡ status_after answers f
    → HasOpened before.shelf → Runs before now answers f → GoesOn Runs before end others g status
ran Runs before now end answers others f g status there all same stat opened runs = record {
  course = inr (record { opened = opened; runs = subst (λ (w : World). Runs before w others g) (sym there) (subst (λ (l : List Answer). Runs before now l g) (sym all) (subst (λ (h : Option Fault). Runs before now answers h) (sym same) runs)) });
  status_is = stat ∙ ap (λ (l : List Answer). status_after l f) (sym all) ∙ ap (λ (h : Option Fault). status_after others h) (sym same);
}
