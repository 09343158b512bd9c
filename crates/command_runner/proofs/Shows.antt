-- What showing a recipe is.
use Rattle.std.proofs.Common.{◌≡◌, ◌≤◌, ℕ, true, false, IsTrue, List, [], ◌∷◌, length, Option, Some, None, refl, sym, ap, subst, arith, ◌∙◌}
use Rattle.std.specs.Prelude.{◌&&◌, nat_eq, IsSome, IsSomeAnd}
use Rattle.std.proofs.lemmas.List.{append-nil}
use Rattle.vault_types.specs.declared.Answer.{Answer}
use Rattle.vault_types.specs.declared.Answer.TheVariants as answer
use Rattle.vault_types.specs.declared.Answer.TheVariants.{Refused, Shown}
use Rattle.vault_types.specs.declared.Fault.{Fault}
use Rattle.vault_types.specs.declared.Fault.TheVariants as fault
use Rattle.vault_types.specs.declared.Recipe.{Recipe}
use Rattle.vault_types.specs.State.{State, KeptVersion, version_of, recipe_of}
use Rattle.vault_types.specs.Texts.{recipe_text}
use Rattle.vault_traits.specs.Counts.{Rose}
use Rattle.vault_traits.specs.Told.{ShelfTold, SinkTold, Takes}
use Rattle.store_model.specs.Leaves.{Begins}
use Rattle.store_model.specs.Causes.{CausesRise, counts_of_shelf, counts_of_sink}
use Rattle.store_model.specs.World.{World, IsPrinted, TakesFront, report_text}
use Rattle.store_model.specs.Early.{IsSameBut}
use Rattle.store_model.specs.Courses.{IsShown, RunsShow, fits_show}
use Rattle.run_laws.proofs.Earlier.{causes_earlier}
use Rattle.command_runner.specs.Showing.{IsUnread, IsReadersFault, IsWrittenRecipe}

own : (n : ℕ) → nat_eq n n ≡ true
own n = search Rattle.std.proofs.Common.rules

some_more : {X : Type 0} (o : Option X) (P Q : X → Type 0) → ((x : X) → P x → Q x) → IsSomeAnd o P → IsSomeAnd o Q
some_more None P Q more h = absurd h
some_more (Some x) P Q more h = more x h

some_all : {X : Type 0} (o : Option X) (Q : X → Type 0) → ((x : X) → Q x) → IsSome o → IsSomeAnd o Q
some_all None Q all h = absurd (let clash : false ≡ true = h in cc)
some_all (Some x) Q all h = all x

takes_none : (told : Option (List ℕ)) → Takes told told []
takes_none None = refl
takes_none (Some x) = ap Some (sym (append-nil x))

nothing_written : (before : SinkTold) (text : List ℕ) → TakesFront before before text
nothing_written before text = ([], (text, refl), takes_none before.taken)

-- a refusal of the reader, which leaves the sink

pub reader_kind : (s v : ℕ) (f : Fault) → IsReadersFault s v f → IsTrue (fits_show s v (Refused f))
reader_kind s v (fault.WriteFault n) h = absurd h
reader_kind s v fault.Memory h = h
reader_kind s v (fault.ReadFault n) h = h
reader_kind s v (fault.ScriptTooLong n) h = h
reader_kind s v (fault.BadLine n) h = h
reader_kind s v fault.Usage h = h
reader_kind s v (fault.NotKept a b c d) h = h
reader_kind s v (fault.StoreFault n) h = h
reader_kind s v (fault.Damaged a b c) h = h
reader_kind s v (fault.TooMany n) h = h
reader_kind s v (fault.LastVersion a b c) h = h
reader_kind s v (fault.PlaceFault n) h = h
reader_kind s v (fault.Full a b c) h = h

pub reader_causes : (s v : ℕ) (old new : ShelfTold) (out : SinkTold) (f : Fault) → IsReadersFault s v f → CausesRise (counts_of_shelf old) (counts_of_shelf new) (Refused f ∷ []) → CausesRise (counts_of_sink old out) (counts_of_sink new out) (Refused f ∷ [])
reader_causes s v old new out (fault.WriteFault n) h c = absurd h
reader_causes s v old new out fault.Memory h c = record { store = c.store; place = c.place; read = c.read; write = omega arith }
reader_causes s v old new out (fault.ReadFault n) h c = record { store = c.store; place = c.place; read = c.read; write = omega arith }
reader_causes s v old new out (fault.ScriptTooLong n) h c = record { store = c.store; place = c.place; read = c.read; write = omega arith }
reader_causes s v old new out (fault.BadLine n) h c = record { store = c.store; place = c.place; read = c.read; write = omega arith }
reader_causes s v old new out fault.Usage h c = record { store = c.store; place = c.place; read = c.read; write = omega arith }
reader_causes s v old new out (fault.NotKept x y z w) h c = record { store = c.store; place = c.place; read = c.read; write = omega arith }
reader_causes s v old new out (fault.StoreFault n) h c = record { store = c.store; place = c.place; read = c.read; write = omega arith }
reader_causes s v old new out (fault.Damaged x y z) h c = record { store = c.store; place = c.place; read = c.read; write = omega arith }
reader_causes s v old new out (fault.TooMany n) h c = record { store = c.store; place = c.place; read = c.read; write = omega arith }
reader_causes s v old new out (fault.LastVersion x y z) h c = record { store = c.store; place = c.place; read = c.read; write = omega arith }
reader_causes s v old new out (fault.PlaceFault n) h c = record { store = c.store; place = c.place; read = c.read; write = omega arith }
reader_causes s v old new out (fault.Full x y z) h c = record { store = c.store; place = c.place; read = c.read; write = omega arith }

pub reader_shown : (S : State) (s v : ℕ) (f : Fault) (out : SinkTold) → IsUnread S s v f → IsShown S s v (Refused f) out out
reader_shown S s v (fault.NotKept x y z w) out h = (h.0, h.1, h.2, refl)
reader_shown S s v (fault.StoreFault n) out h = (h, refl)
reader_shown S s v fault.Memory out h = some_all (version_of S s v) (λ (k : KeptVersion). TakesFront out out (recipe_text (recipe_of s v k))) (λ k. nothing_written out (recipe_text (recipe_of s v k))) h
reader_shown S s v (fault.WriteFault n) out h = absurd h
reader_shown S s v (fault.ReadFault n) out h = absurd h
reader_shown S s v (fault.ScriptTooLong n) out h = absurd h
reader_shown S s v (fault.BadLine n) out h = absurd h
reader_shown S s v fault.Usage out h = absurd h
reader_shown S s v (fault.Damaged x y z) out h = absurd h
reader_shown S s v (fault.TooMany n) out h = absurd h
reader_shown S s v (fault.LastVersion x y z) out h = absurd h
reader_shown S s v (fault.PlaceFault n) out h = absurd h
reader_shown S s v (fault.Full x y z) out h = absurd h

-- what was written of a recipe that was read

pub record IsWriting (s v : ℕ) (r : Recipe) (old new : ShelfTold) (before now : SinkTold) (a : Answer) : Type 0 where
  pub kind : IsTrue (fits_show s v a)
  pub causes : CausesRise (counts_of_sink old before) (counts_of_sink new now) (a ∷ [])
  pub shown : (S : State) → IsSomeAnd (version_of S s v) (λ k. (length r.rows ≡ length k.rows) × (recipe_text r ≡ recipe_text (recipe_of s v k))) → IsShown S s v a before now

pub writing : (s v : ℕ) (r : Recipe) (old new : ShelfTold) (before now : SinkTold) (a : Answer) → old.faults ≤ new.faults → before.faults ≤ now.faults → IsWrittenRecipe s v r before now a → IsWriting s v r old new before now a
writing s v r old new before now (Shown t w rows) store write h = record {
  kind = subst (λ (x : ℕ). (nat_eq s x && nat_eq v w) ≡ true) (sym h.0) (subst (λ (x : ℕ). (nat_eq s s && nat_eq v x) ≡ true) (sym h.1) (rw (own s, own v) refl));
  causes = record { store = store; place = omega arith; read = omega arith; write = write };
  shown = λ S is. some_more (version_of S s v) _ _ (λ k of. (h.2 ∙ of.0, subst (λ (text : List ℕ). Takes before.taken now.taken text) of.1 h.3)) is;
}
writing s v r old new before now (Refused (fault.WriteFault n)) store write h = record {
  kind = refl;
  causes = record { store = store; place = omega arith; read = omega arith; write = (subst (λ (m : ℕ). Rose before.faults m) (sym h.0) h.1, omega (arith, h.0)) };
  shown = λ S is. some_more (version_of S s v) _ _ (λ k of. subst (λ (text : List ℕ). TakesFront before now text) of.1 h.2) is;
}
writing s v r old new before now (Refused fault.Memory) store write h = record {
  kind = refl;
  causes = record { store = store; place = omega arith; read = omega arith; write = write };
  shown = λ S is. some_more (version_of S s v) _ _ (λ k of. subst (λ (t : SinkTold). TakesFront before t (recipe_text (recipe_of s v k))) (sym h) (nothing_written before (recipe_text (recipe_of s v k)))) is;
}
writing s v r old new before now (Refused (fault.ReadFault n)) store write h = absurd h
writing s v r old new before now (Refused (fault.ScriptTooLong n)) store write h = absurd h
writing s v r old new before now (Refused (fault.BadLine n)) store write h = absurd h
writing s v r old new before now (Refused fault.Usage) store write h = absurd h
writing s v r old new before now (Refused (fault.NotKept x y z w)) store write h = absurd h
writing s v r old new before now (Refused (fault.StoreFault n)) store write h = absurd h
writing s v r old new before now (Refused (fault.Damaged x y z)) store write h = absurd h
writing s v r old new before now (Refused (fault.TooMany n)) store write h = absurd h
writing s v r old new before now (Refused (fault.LastVersion x y z)) store write h = absurd h
writing s v r old new before now (Refused (fault.PlaceFault n)) store write h = absurd h
writing s v r old new before now (Refused (fault.Full x y z)) store write h = absurd h
writing s v r old new before now (answer.Stored x y z u w p q) store write h = absurd h
writing s v r old new before now (answer.Restored x y z u) store write h = absurd h
writing s v r old new before now (answer.Removed x y z u) store write h = absurd h
writing s v r old new before now (answer.Migrated x) store write h = absurd h
writing s v r old new before now (answer.Scrubbed x y) store write h = absurd h

-- behind an opening
pub shows : (s v : ℕ) (before now : World) (opened : ShelfTold) (a : Answer) (f : Option Fault) → IsSameBut before.shelf opened → IsSameBut opened now.shelf → IsTrue (fits_show s v a)
    → CausesRise (counts_of_sink opened before.out) (counts_of_sink now.shelf now.out) (a ∷ []) → ((S : State) → Begins before.shelf S → IsShown S s v a before.out now.out)
    → IsPrinted (report_text (a ∷ [])) before.report now.report f → now.input ≡ before.input → now.places ≡ before.places → RunsShow s v before now (a ∷ []) f
shows s v before now opened a f same shelf kind causes shown printed input places = record {
  answer = a;
  one = refl;
  kind = kind;
  causes = causes_earlier (counts_of_sink opened before.out) (counts_of_sink now.shelf now.out) before.shelf.faults (a ∷ []) same.later causes;
  shown = shown;
  blobs = shelf.blobs ∙ same.blobs;
  history = shelf.history ∙ same.history;
  gets = shelf.gets ∙ same.gets;
  printed = printed;
  input = input;
  places = places;
}
