-- A restore that runs beside other lines answers as one that runs alone, from the keeper from before its pin: what it owes at
-- its end is what the call for one thread ensures, over counts of its own.
use Rattle.std.proofs.Common.{◌≡◌, ◌⊎◌, ◌<◌, ◌+◌, ◌-◌, ◌^◌, ℕ, zero, suc, true, IsTrue, List, [], Option, Some, None, sym, ◌∙◌, ap, subst, arith}
use Rattle.std.specs.Prelude.{IfSome, Result, Ok, Err, min}
use Rattle.vault_types.specs.declared.Limits.{Limits}
use Rattle.vault_types.specs.declared.Name.{Name}
use Rattle.vault_types.specs.declared.Fault.{Fault}
use Rattle.vault_types.specs.declared.Answer.{Answer}
use Rattle.vault_types.specs.declared.Answer.TheVariants.{Refused}
use Rattle.vault_types.specs.declared.Line.TheVariants.{Restore}
use Rattle.vault_types.specs.Bytes.{bytes_of}
use Rattle.vault_types.specs.Events.{Change}
use Rattle.vault_types.specs.Script.{Sources}
use Rattle.vault_types.specs.State.{State, is_kept}
use Rattle.vault_traits.specs.Counts.{counted_up}
use Rattle.vault_traits.specs.Files.{ChangesOnly, IsWhatWasTaken}
use Rattle.vault_traits.specs.Told.{ShelfTold, SinkTold, Files}
use Rattle.store_model.specs.Calls.{Keeping, RestoresLine, restore_answer}
use Rattle.store_model.specs.Causes.{fits, store_number}
use Rattle.store_model.specs.Complete.{IsWellAnswered}
use Rattle.store_model.specs.Leaves.{Gets}
use Rattle.store_model.specs.Outputs.{IsOutput, OnFiles}
use Rattle.store_model.specs.Steps.{StepsOn}
use Rattle.store_model.specs.Table.{MeansLine}
use Rattle.script_laws.proofs.LineLemmas.{as_restore, kind_restore, write_kind, write_steps, written_output, numbered_output}
use Rattle.beside_laws.specs.Running.{Running}
use Rattle.beside_laws.specs.Steps.{IsOwn, GetsMore, HasOutput}

-- so many counts from none are so many, below the last value
counted_from : (n : ℕ) → counted_up 0 n ≡ min n (2 ^ 64 - 1)
counted_from zero = omega arith
counted_from (suc n) = let rest = counted_from n in omega (arith, rest)

same_count : (n m : ℕ) → m < 2 ^ 64 - 1 → counted_up 0 n ≡ counted_up 0 m → n ≡ m
same_count n m low same = let a = counted_from n in let b = counted_from m in omega (arith, a, b, same, low)

module _ {K : Type 0} (keeps : K → State → Option Change → Type 0) (limits : Limits) (p : Running K) (Behind : Keeping) (Known Left : Name → Type 0) (old new : ShelfTold) (w v : SinkTold) (result : Result Answer Fault) (number : ℕ)
    (call : RestoresLine (keeps p.from) Behind Known Left p.set p.version p.cache old new w v result) where
  -- in each state the line did its step, over counts of its own
  steps : (r : Result Answer Fault) → RestoresLine (keeps p.from) Behind Known Left p.set p.version p.cache old new w v r → (S : State) (other : Option Change) (sources : Sources) → keeps p.from S other
      → (next : Option Change) × StepsOn limits sources S other (Restore p.set p.version p.name p.cache) (restore_answer number r) next Known Left old new
  steps (Ok a) c S other sources keep = let st = c.steps S other limits keep in (st.0, as_restore limits sources S other st.0 p.set p.version p.name p.cache a Known Left old new st.2)
  steps (Err f) c S other sources keep = let st = c.steps S other limits keep in
      (st.0, write_steps limits sources S other st.0 p.set p.version p.name p.cache f number Known Left old new (as_restore limits sources S other st.0 p.set p.version p.name p.cache (Refused f) Known Left old new st.2))

  kind : (r : Result Answer Fault) → RestoresLine (keeps p.from) Behind Known Left p.set p.version p.cache old new w v r
      → IsTrue (fits limits (Restore p.set p.version p.name p.cache) (restore_answer number r))
  kind (Ok a) c = kind_restore limits p.set p.version p.name p.cache a (c.kind limits)
  kind (Err f) c = write_kind limits p.set p.version p.name p.cache f number (kind_restore limits p.set p.version p.name p.cache (Refused f) (c.kind limits))

  module _ (is : p.answer ≡ restore_answer number result) where
    pub alone_own : ((n : ℕ) → p.met ≡ Some n → (store_number p.answer ≡ None) ⊎ (store_number p.answer ≡ Some n)) → IsOwn keeps limits p
    alone_own met = record {
      kind = subst (λ (a : Answer). IsTrue (fits limits (Restore p.set p.version p.name p.cache) a)) (sym is) (kind result call);
      met = met;
      means = λ S other sources keep. subst (λ (a : Answer). MeansLine limits sources S (Restore p.set p.version p.name p.cache) a) (sym is) (steps result call S other sources keep).1.means;
      complete = λ S other sources keep well. subst (λ (a : Answer). IsWellAnswered limits sources S (Restore p.set p.version p.name p.cache) a) (sym is) ((steps result call S other sources keep).1.complete well);
    }

    -- over a count of gets that begins at none
    pub alone_got : (r : ℕ) → old.gets ≡ 0 → new.gets ≡ counted_up 0 (p.got + r) → p.got + r < 2 ^ 64 - 1 → GetsMore keeps p r
    alone_got r none all few S other keep =
        let st = (steps result call S other (λ name. []) keep).1 in
        let same : counted_up 0 st.gets.0 ≡ counted_up 0 (p.got + r) = ap (λ (k : ℕ). counted_up k st.gets.0) (sym none) ∙ sym st.gets.1 ∙ all in
        subst (λ (n : ℕ). Gets S (Restore p.set p.version p.name p.cache) p.answer n) (same_count st.gets.0 (p.got + r) few same)
        (subst (λ (a : Answer). Gets S (Restore p.set p.version p.name p.cache) a st.gets.0) (sym is) st.gets.2)

    -- behind the closing of its sink
    output_in : ((S : State) (other : Option Change) → keeps p.from S other → true ≡ is_kept S p.set p.version) → (r : Result Answer Fault) → RestoresLine (keeps p.from) Behind Known Left p.set p.version p.cache old new w v r → w.taken ≡ Some [] → (now : Option (List ℕ)) → IfSome v.taken (λ bytes. now ≡ Some bytes)
        → (S : State) (other : Option Change) → keeps p.from S other → (before : Option (List ℕ)) → IsOutput (bytes_of S p.set p.version) (restore_answer number r) before now
    output_in kept (Ok a) c empty now taken S other keep before =
        written_output limits S p.set p.version p.cache a w.taken v.taken before now _ _ _ _ (kept S other keep) (c.kind limits) c.causes (c.steps S other limits keep).2.means.exact (c.written S other keep) empty taken
    output_in kept (Err f) c empty now taken S other keep before = numbered_output (bytes_of S p.set p.version) f number before now
        (written_output limits S p.set p.version p.cache (Refused f) w.taken v.taken before now _ _ _ _ (kept S other keep) (c.kind limits) c.causes (c.steps S other limits keep).2.means.exact (c.written S other keep) empty taken)

    pub alone_output : ((S : State) (other : Option Change) → keeps p.from S other → true ≡ is_kept S p.set p.version) → (a b : Option Files) → (IfSome a (λ files. w.taken ≡ Some [])) → ChangesOnly a b p.name (IsWhatWasTaken v.taken) → OnFiles a b (λ x y. HasOutput keeps y p)
    alone_output kept None None empty changed = tt
    alone_output kept None (Some y) empty changed = changed
    alone_output kept (Some x) None empty changed = changed
    alone_output kept (Some x) (Some y) empty changed = λ S other keep before.
        subst (λ (answer : Answer). IsOutput (bytes_of S p.set p.version) answer before (y p.name)) (sym is) (output_in kept result call empty (y p.name) changed.0 S other keep before)
