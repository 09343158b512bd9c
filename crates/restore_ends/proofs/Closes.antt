-- A restore that runs ends: the step of the run, from the clauses of the release and of the closing of its sink.
use Rattle.std.proofs.Common.{◌≡◌, ⊎_elim, ◌≤◌, ◌<◌, ◌+◌, ◌-◌, ◌^◌, ℕ, false, List, [], ◌∷◌, ◌++◌, length, Option, Some, Result, Ok, Err, refl, sym, ap, subst, ◌∙◌, arith}
use Rattle.std.specs.Prelude.{◌≢◌, IfSome, IfOk}
use Rattle.std.specs.List.{cons_option}
use Rattle.std.proofs.lemmas.List.{length-append}
use Rattle.vault_types.specs.declared.Answer.{Answer}
use Rattle.vault_types.specs.declared.Answer.TheVariants.{Refused}
use Rattle.vault_types.specs.declared.Fault.{Fault}
use Rattle.vault_types.specs.declared.Limits.{Limits}
use Rattle.vault_types.specs.declared.Name.{Name}
use Rattle.vault_types.specs.Events.{Change}
use Rattle.vault_types.specs.Script.{is_refused}
use Rattle.vault_types.specs.State.{State}
use Rattle.vault_traits.specs.Counts.{RiseFrom, added}
use Rattle.vault_traits.specs.Files.{ChangesOnly, IsWhatWasTaken}
use Rattle.vault_traits.specs.Told.{ShelfTold, SinkTold, PlacesTold}
use Rattle.store_model.specs.Calls.{restore_answer}
use Rattle.store_model.specs.Causes.{CausesRise, counts_of_sink}
use Rattle.store_model.specs.Steps.{Moment, answer_of}
use Rattle.script_laws.proofs.LineLemmas.{causes_sink, causes_write, done_no_write, changes_files}
use Rattle.beside_laws.specs.Running.{Past, with_answer}
use Rattle.beside_laws.specs.Steps.{LeavesState, EndsRestore}
use Rattle.restore_stage.specs.declared.Loaded.{Loaded}
use Rattle.restore_stage.specs.declared.Reply.{Reply}
use Rattle.restore_stage.specs.Assembling.{Assembling, ids}
use Rattle.keeper_catalog.specs.View.{View}
use Rattle.restore_turns.specs.Entry.{AreTried, IsStateBeside, IsEntry}
use Rattle.restore_turns.specs.Started.{HasStarted}
use Rattle.restore_ends.specs.Results.{HasReplied, result_of}
use Rattle.restore_ends.proofs.Ends.{new, alone_line, nothing_owed, ended_own, ended_got, ended_output}

-- a result's answer's faults, over places
rises : (s0 s1 : ShelfTold) (w w' : SinkTold) (p q : PlacesTold) (result : Result Answer Fault) → w.faults ≡ 0 → q.faults ≡ p.faults → q.read_faults ≡ p.read_faults → q.write_faults ≡ added p.write_faults w'.faults
    → IfOk result (λ a. is_refused a ≡ false) → CausesRise (counts_of_sink s0 w) (counts_of_sink s1 w') (answer_of result ∷ [])
    → CausesRise (record { store = s0.faults; place = p.faults; read = p.read_faults; write = p.write_faults }) (record { store = s1.faults; place = q.faults; read = q.read_faults; write = q.write_faults }) (restore_answer q.write_faults result ∷ [])
rises s0 s1 w w' p q (Ok a) fresh place read write done c =
    causes_sink a s0.faults s1.faults p.faults q.faults p.read_faults q.read_faults p.write_faults q.write_faults w'.faults
    (subst (λ (n : ℕ). CausesRise (record { store = s0.faults; place = 0; read = 0; write = n }) (counts_of_sink s1 w') (a ∷ [])) fresh c) (omega (arith, place)) (omega (arith, read)) write (done_no_write a done)
rises s0 s1 w w' p q (Err f) fresh place read write done c =
    causes_write f s0.faults s1.faults p.faults q.faults p.read_faults q.read_faults p.write_faults q.write_faults w'.faults
    (subst (λ (n : ℕ). CausesRise (record { store = s0.faults; place = 0; read = 0; write = n }) (counts_of_sink s1 w') (Refused f ∷ [])) fresh c) (omega (arith, place)) (omega (arith, read)) write

-- no more loads are tried than there are
few_tried : (loads : List ℕ) (got : ℕ) (sent : List Loaded) → AreTried loads got sent → got ≤ length loads
few_tried loads got sent t =
    let parts : length (ids sent) + length t.left ≡ length loads = sym (length-append (ids sent) t.left) ∙ ap length t.parts in
    ⊎_elim (λ all. omega (arith, all, parts)) (λ one. let some = some_left t.left one.1 in let is = one.0 in omega (arith, is, some, parts)) t.count
  where
    some_left : (xs : List ℕ) → xs ≢ [] → 1 ≤ length xs
    some_left [] none = absurd (none refl)
    some_left (x ∷ xs) some = omega arith

module _ {K : Type 0} (shelf : K → ShelfTold) (keeps : K → State → Option Change → Type 0) (known : K → Name → Type 0) (limits : Limits) (old end : Moment K) (p : Past K) (v u now : View) (number : ℕ) (loads : List ℕ) (a : Assembling) (sent : List Loaded) (r : Reply) (sink : SinkTold)
    (t : HasStarted v u p.set p.version p.cache number loads a) (entry : IsEntry u now number a.copying.spots loads p.got p.met sent) (h : HasReplied a sent r sink)
    (becomes : (S : State) (other : Option Change) → keeps p.from S other → IsStateBeside v S other) where
  -- what the restore alone would have left of the keeper from before its pin
  abbrev left : View
  left = new keeps p v u now number loads a h.last sent h.waiting r h.more t entry h.same h.line.same h.replied becomes

  -- its bytes are those that its sink has taken
  pub ends_restore : a.sink.faults ≡ 0 → IfSome old.places.files (λ files. a.sink.taken ≡ Some [])
      → LeavesState shelf keeps known old.keeper end.keeper → (shelf end.keeper).gets ≡ (shelf old.keeper).gets
      → ChangesOnly old.places.files end.places.files p.name (IsWhatWasTaken sink.taken) → end.places.faults ≡ old.places.faults → end.places.read_faults ≡ old.places.read_faults → end.places.write_faults ≡ added old.places.write_faults sink.faults
      → EndsRestore shelf keeps known limits old (with_answer (restore_answer end.places.write_faults (result_of p.set p.version loads r)) p) end
  ends_restore fresh empty leaves gets changed place read write =
      let by = end.places.write_faults in
      let alone = alone_line keeps p v u now number loads a h.last sent h.waiting r h.more t entry h.same h.line.same h.replied becomes in
      let wrote : ChangesOnly old.places.files end.places.files p.name (IsWhatWasTaken h.last.sink.taken) = subst (λ (w : SinkTold). ChangesOnly old.places.files end.places.files p.name (IsWhatWasTaken w.taken)) (sym h.sink_is) changed in
      let up = rises v.told left.told a.sink h.last.sink old.places end.places (result_of p.set p.version loads r) fresh place read (write ∙ ap (λ (w : SinkTold). added old.places.write_faults w.faults) (sym h.sink_is)) alone.done alone.causes in
      record {
        leaves = leaves;
        gets = gets;
        others = changes_files p.set p.version p.name p.name p.cache old.places.files end.places.files (IsWhatWasTaken h.last.sink.taken) refl wrote;
        store = subst (λ (o : Option ℕ). RiseFrom (shelf old.keeper).faults (cons_option o []) (shelf end.keeper).faults) (sym (nothing_owed keeps p v u now number loads a h.last sent h.waiting r h.more t entry h.same h.line.same h.replied becomes by)) leaves.strays.later;
        place = up.place;
        read = up.read;
        write = up.write;
        own = ended_own keeps p v u now number loads a h.last sent h.waiting r h.more t entry h.same h.line.same h.replied becomes by limits;
        got = ended_got keeps p v u now number loads a h.last sent h.waiting r h.more t entry h.same h.line.same h.replied becomes by limits (let few = few_tried loads p.got sent entry.tried in let low = t.planned.plan.few in omega (arith, few, low));
        output = ended_output keeps p v u now number loads a h.last sent h.waiting r h.more t entry h.same h.line.same h.replied becomes by limits old.places.files end.places.files empty wrote;
      }
