-- What a chain of lines comes to in a state.
use Rattle.std.proofs.Common.{◌≡◌, ◌⊎◌, inl, inr, ⊎_elim, ◌≤◌, ◌+◌, ◌-◌, ◌*◌, ℕ, Bool, true, false, not, ◌&&◌, ◌||◌, IsTrue, List, [], ◌∷◌, ◌++◌, Option, Some, None, refl, sym, ◌∙◌, ap, subst, arith, length-append}
use Rattle.std.specs.Prelude.{Contains, IfSome, IsSomeAnd, MatchBool, unwrap_or}
use Rattle.std.specs.List.{AllByRecursion}
use Rattle.std.proofs.lemmas.List.Elements.{Contains-append_left, Contains-append_right}
use Rattle.vault_types.specs.declared.Limits.{Limits}
use Rattle.vault_types.specs.declared.Name.{Name}
use Rattle.vault_types.specs.declared.Answer.{Answer}
use Rattle.vault_types.specs.declared.Line.{Line}
use Rattle.vault_types.specs.declared.Line.TheVariants.{Backup, Restore, Delete}
use Rattle.vault_types.specs.State.{State}
use Rattle.vault_types.specs.Words.{sources_of, outputs_of}
use Rattle.vault_types.specs.Script.{Sources, after, after_line, is_refused, changes, state_after, Reaches}
use Rattle.vault_traits.specs.Counts.{counted_up}
use Rattle.vault_types.specs.Shelf.{Blobs}
use Rattle.vault_types.specs.Events.{Change, IsNear}
use Rattle.vault_traits.specs.Told.{ShelfTold, Files}
use Rattle.store_model.specs.Table.{MeanLines}
use Rattle.store_model.specs.Leaves.{has_change, MayBeDone, StandsForOne, HalfBehind, HasLoaded}
use Rattle.store_model.specs.Complete.{AreWellAnswered}
use Rattle.store_model.specs.Outputs.{OnFiles, KeepsOthers, IsOutputOf, AreOutputs, AreApartFrom, Reads, AreRead, AreFed, AreThere}
use Rattle.store_model.specs.Strays.{IsNumberedBy, MayStayBehind, MayStay, StraysAreKnown}
use Rattle.store_model.specs.Steps.{Moment, StepsLine, StepsOn, IsNextOther, StandsWith, Chain}
use Rattle.script_laws.proofs.Staying.{AreWell}
use Rattle.script_laws.proofs.Rising.{counted_up_twice}
use Rattle.script_laws.proofs.Names.{files_then, others_then, all_front, all_back, read_then, there_then, output_then, outputs_then}

-- ---- one state and the next

-- the other states that may be left behind the lines, where there was this change before
abbrev pub LeftBy : Sources → State → Option Change → List Line → List Answer → State → Type 0
LeftBy sources S other lines answers T = (IsSomeAnd other (λ h. h.state ≡ T) × (has_change lines answers ≡ false)) ⊎ MayBeDone sources S lines answers T

of_none : (o : Option Change) (P : Change → Type 0) → o ≡ None → IsSomeAnd o P → ⊥
of_none None P none h = h
of_none (Some x) P none h = no none
  where
    no : Some x ≡ None → ⊥
    no e = cc

as_before : (next other : Option Change) (P : Change → Type 0) → next ≡ other → IsSomeAnd next P → IsSomeAnd other P
as_before next other P same h = subst (λ (o : Option Change). IsSomeAnd o P) same h

-- the state of a change that is known
is_after : (next : Option Change) (D T : State) → IsSomeAnd next (λ h. h.state ≡ D) → IsSomeAnd next (λ h. h.state ≡ T) → T ≡ D
is_after None D T h k = absurd h
is_after (Some x) D T h k = sym k ∙ h

no_change : (c r rest : Bool) → (IsTrue r ⊎ (c ≡ false)) → rest ≡ false → ((c && not r) || rest) ≡ false
no_change true true rest why e = e
no_change true false rest (inl h) e = cc
no_change true false rest (inr h) e = cc
no_change false r rest why e = e

pub left_step : (sources : Sources) (S : State) (other next : Option Change) (line : Line) (answer : Answer) (lines : List Line) (answers : List Answer) (T : State)
    → IsNextOther sources S other line answer next → LeftBy sources (after sources S line answer) next lines answers T → LeftBy sources S other (line ∷ lines) (answer ∷ answers) T
left_step sources S other next line answer lines answers T is (inr later) = inr (inr later)
left_step sources S other next line answer lines answers T (inl none) (inl here) = absurd (of_none next (λ h. h.state ≡ T) none here.0)
left_step sources S other next line answer lines answers T (inr (inl same)) (inl here) = inl (as_before next other (λ h. h.state ≡ T) same.1 here.0, no_change (changes line) (is_refused answer) _ same.0 here.1)
left_step sources S other next line answer lines answers T (inr (inr done)) (inl here) = inr (inl (done.0, done.1, here.1, is_after next (after_line sources S line) T done.2 here.0))

pub reaches_start : (sources : Sources) (S : State) (lines : List Line) (answers : List Answer) → Reaches sources S lines answers S
reaches_start sources S [] answers = refl
reaches_start sources S (line ∷ lines) [] = refl
reaches_start sources S (line ∷ lines) (answer ∷ answers) = inl refl

-- what is near a state stands for it, or for that of the change
pub near_with : (S : State) (other : Option Change) (m : Blobs) → IsNear S other m → StandsWith S other m
near_with S other m (inl stands) = inl stands
near_with S None m (inr none) = absurd none
near_with S (Some h) m (inr has) = inr has.other

pub stand_more : (P Q : State → Type 0) → ((T : State) → P T → Q T) → (m : Blobs) → StandsForOne P m → StandsForOne Q m
stand_more P Q wider m (T, may, valid, stands) = (T, wider T may, valid, stands)

-- the changes that may be half done behind a line are among those that its answer lets be
pub half_step : (sources : Sources) (S : State) (other next : Option Change) (line : Line) (answer : Answer) (Half : State → Type 0) → IsNextOther sources S other line answer next
    → ((T : State) → IsSomeAnd other (λ h. h.state ≡ T) → Half T) → (T : State) → IsSomeAnd next (λ h. h.state ≡ T) → HalfBehind sources S line answer Half T
half_step sources S other next line answer Half (inl none) half T here = absurd (of_none next (λ h. h.state ≡ T) none here)
half_step sources S other next line answer Half (inr (inl same)) half T here = inl (stays (changes line) (is_refused answer) same.0, half T (as_before next other (λ h. h.state ≡ T) same.1 here))
  where
    stays : (c r : Bool) → (IsTrue r ⊎ (c ≡ false)) → (c && not r) ≡ false
    stays true true why = refl
    stays true false (inl h) = cc
    stays true false (inr h) = cc
    stays false r why = refl
half_step sources S other next line answer Half (inr (inr done)) half T here = inr (done.0, done.1, is_after next (after_line sources S line) T done.2 here)

-- ---- strays

behind_through : (limits : Limits) (S : State) (line : Line) (answer : Answer) (P P' Q : Name → Type 0) → ((n : Name) → P n → P' n ⊎ Q n) → (n : Name)
    → MayStayBehind limits S line answer P n → MayStayBehind limits S line answer P' n ⊎ Q n
behind_through limits S (Backup s name config) answer P P' Q wider n here = by (is_refused answer) here
  where
    by : (b : Bool) → MatchBool b (P n ⊎ IsNumberedBy limits S (Backup s name config) n) (P n) → MatchBool b (P' n ⊎ IsNumberedBy limits S (Backup s name config) n) (P' n) ⊎ Q n
    by true (inl stays) = ⊎_elim (λ (x : P' n). inl (inl x)) (λ (x : Q n). inr x) (wider n stays)
    by true (inr numbered) = inl (inr numbered)
    by false stays = wider n stays
behind_through limits S (Restore s v name cache) answer P P' Q wider n here = wider n here
behind_through limits S (Delete s through) answer P P' Q wider n here = by (is_refused answer) here
  where
    by : (b : Bool) → MatchBool b (P n) ⊥ → MatchBool b (P' n) ⊥ ⊎ Q n
    by true stays = wider n stays
    by false none = absurd none

pub stay_through : (limits : Limits) (sources : Sources) (S : State) (lines : List Line) (answers : List Answer) (P P' Q : Name → Type 0) → ((n : Name) → P n → P' n ⊎ Q n) → (n : Name)
    → MayStay limits sources S lines answers P n → MayStay limits sources S lines answers P' n ⊎ Q n
stay_through limits sources S [] answers P P' Q wider n here = wider n here
stay_through limits sources S (line ∷ lines) [] P P' Q wider n here = wider n here
stay_through limits sources S (line ∷ lines) (answer ∷ answers) P P' Q wider n here =
    stay_through limits sources (after sources S line answer) lines answers (MayStayBehind limits S line answer P) (MayStayBehind limits S line answer P') Q
    (behind_through limits S line answer P P' Q wider) n here

-- what may stay of fewer names may stay of more
pub stay_more : (limits : Limits) (sources : Sources) (S : State) (lines : List Line) (answers : List Answer) (P Q : Name → Type 0) → ((n : Name) → P n → Q n) → (n : Name)
    → MayStay limits sources S lines answers P n → MayStay limits sources S lines answers Q n
stay_more limits sources S lines answers P Q wider n here =
    ⊎_elim (λ stays. stays) (λ none. absurd none) (stay_through limits sources S lines answers P Q (λ k. ⊥) (λ k is. inl (wider k is)) n here)

-- ---- chains

module _ {K : Type 0} (shelf : K → ShelfTold) (keeps : K → State → Option Change → Type 0) (known : K → Name → Type 0) (limits : Limits) where
  -- a chain of lines through states
  abbrev pub Follows : Sources → State → Option Change → Moment K → List Line → List Answer → Moment K → Type 0
  Follows sources S other old [] [] new = new ≡ old
  Follows sources S other old [] (answer ∷ answers) new = ⊥
  Follows sources S other old (line ∷ lines) [] new = ⊥
  Follows sources S other old (line ∷ lines) (answer ∷ answers) new =
      (mid : Moment K) × (next : Option Change) × keeps mid.keeper (after sources S line answer) next
      × StepsOn limits sources S other line answer next (known old.keeper) (known mid.keeper) (shelf old.keeper) (shelf mid.keeper)
      × OnFiles old.places.files mid.places.files (KeepsOthers (line ∷ []))
      × OnFiles old.places.files mid.places.files (IsOutputOf S line answer)
      × Follows sources (after sources S line answer) next mid lines answers new

  -- what the lines of a chain read
  abbrev pub reads_of : (old new : Moment K) (lines : List Line) (answers : List Answer) → Chain (StepsLine shelf keeps known limits) old lines answers new → Reads
  reads_of old new [] [] chain = []
  reads_of old new [] (answer ∷ answers) chain = []
  reads_of old new (line ∷ lines) [] chain = []
  reads_of old new (line ∷ lines) (answer ∷ answers) chain = chain.1.reads ++ reads_of chain.0 new lines answers chain.2

  pub are_read : (old new : Moment K) (before outputs : List (List ℕ)) (lines : List Line) (answers : List Answer) → AreApartFrom before outputs lines → (chain : Chain (StepsLine shelf keeps known limits) old lines answers new)
      → AreRead old.places.files lines (reads_of old new lines answers chain)
  are_read old new before outputs [] [] apart chain = record { names = refl; told = none old.places.files }
    where
      none : (o : Option Files) → IfSome o (λ f. AllByRecursion (λ (r : List ℕ × List ℕ). r.1 ≡ unwrap_or (f r.0) []) [])
      none None = tt
      none (Some f) = tt
  are_read old new before outputs [] (answer ∷ answers) apart chain = absurd chain
  are_read old new before outputs (line ∷ lines) [] apart chain = absurd chain
  are_read old new before outputs (line ∷ lines) (answer ∷ answers) apart chain =
      read_then old.places.files chain.0.places.files (before ++ sources_of line) outputs line lines chain.1.reads (reads_of chain.0 new lines answers chain.2) apart.1 chain.1.others chain.1.read
      (are_read chain.0 new (before ++ sources_of line) (outputs ++ outputs_of line) lines answers apart.1 chain.2)

  pub are_there : (old new : Moment K) (before outputs : List (List ℕ)) (lines : List Line) (answers : List Answer) → AreApartFrom before outputs lines → Chain (StepsLine shelf keeps known limits) old lines answers new
      → AreThere old.places.files lines answers
  are_there old new before outputs [] answers apart chain = tt
  are_there old new before outputs (line ∷ lines) [] apart chain = tt
  are_there old new before outputs (line ∷ lines) (answer ∷ answers) apart chain = (
    chain.1.there,
    there_then old.places.files chain.0.places.files (before ++ sources_of line) outputs line lines answers apart.1 chain.1.others
        (are_there chain.0 new (before ++ sources_of line) (outputs ++ outputs_of line) lines answers apart.1 chain.2),
  )

  pub follows : (sources : Sources) (S : State) (other : Option Change) (old new : Moment K) (lines : List Line) (answers : List Answer)
      → keeps old.keeper S other → (chain : Chain (StepsLine shelf keeps known limits) old lines answers new) → AreFed sources (reads_of old new lines answers chain)
      → Follows sources S other old lines answers new
  follows sources S other old new [] [] keep chain fed = chain
  follows sources S other old new [] (answer ∷ answers) keep chain fed = absurd chain
  follows sources S other old new (line ∷ lines) [] keep chain fed = absurd chain
  follows sources S other old new (line ∷ lines) (answer ∷ answers) keep chain fed =
      let step = chain.1 in
      let more : Reads = reads_of chain.0 new lines answers chain.2 in
      let means = step.means S other sources keep (all_front (λ (r : List ℕ × List ℕ). sources r.0 ≡ r.1) step.reads more fed) in (
        chain.0,
        means.0,
        means.1,
        means.2,
        step.others,
        step.output S other keep,
        follows sources (after sources S line answer) means.0 chain.0 new lines answers means.1 chain.2 (all_back (λ (r : List ℕ × List ℕ). sources r.0 ≡ r.1) step.reads more fed),
      )

  pub table : (sources : Sources) (S : State) (other : Option Change) (old new : Moment K) (lines : List Line) (answers : List Answer) → Follows sources S other old lines answers new → MeanLines limits sources S lines answers
  table sources S other old new [] [] chain = tt
  table sources S other old new [] (answer ∷ answers) chain = absurd chain
  table sources S other old new (line ∷ lines) [] chain = absurd chain
  table sources S other old new (line ∷ lines) (answer ∷ answers) chain = (chain.3.means, table sources (after sources S line answer) chain.1 chain.0 new lines answers chain.6)

  -- the keeper at the end keeps the last state
  pub keeps_last : (sources : Sources) (S : State) (other : Option Change) (old new : Moment K) (lines : List Line) (answers : List Answer) → keeps old.keeper S other → Follows sources S other old lines answers new
      → (next : Option Change) × keeps new.keeper (state_after sources S lines answers) next × ((T : State) → IsSomeAnd next (λ h. h.state ≡ T) → LeftBy sources S other lines answers T)
  keeps_last sources S other old new [] [] keep chain = (other, subst (λ (m : Moment K). keeps m.keeper S other) (sym chain) keep, λ T is. inl (is, refl))
  keeps_last sources S other old new [] (answer ∷ answers) keep chain = absurd chain
  keeps_last sources S other old new (line ∷ lines) [] keep chain = absurd chain
  keeps_last sources S other old new (line ∷ lines) (answer ∷ answers) keep chain =
      let rest = keeps_last sources (after sources S line answer) chain.1 chain.0 new lines answers chain.2 chain.6 in
      (rest.0, rest.1, λ T is. left_step sources S other chain.1 line answer lines answers T chain.3.next_other (rest.2 T is))

  pub loads : (sources : Sources) (S : State) (other : Option Change) (old new : Moment K) (lines : List Line) (answers : List Answer) → Follows sources S other old lines answers new
      → HasLoaded sources S lines answers (shelf old.keeper).gets (shelf new.keeper).gets
  loads sources S other old new [] [] chain = record { gets = 0; counted = ap (λ (m : Moment K). (shelf m.keeper).gets) chain; each = refl }
  loads sources S other old new [] (answer ∷ answers) chain = absurd chain
  loads sources S other old new (line ∷ lines) [] chain = absurd chain
  loads sources S other old new (line ∷ lines) (answer ∷ answers) chain =
      let n = chain.3.gets.0 in
      let rest = loads sources (after sources S line answer) chain.1 chain.0 new lines answers chain.6 in
      record {
        gets = n + rest.gets;
        counted = rest.counted ∙ ap (λ (k : ℕ). counted_up k rest.gets) chain.3.gets.1 ∙ counted_up_twice (shelf old.keeper).gets n rest.gets;
        each = (n, rest.gets, chain.3.gets.2, rest.each, refl);
      }

  pub strays : (sources : Sources) (S : State) (other : Option Change) (old new : Moment K) (lines : List Line) (answers : List Answer) → Follows sources S other old lines answers new
      → StraysAreKnown limits sources S lines answers (known old.keeper) (known new.keeper) (shelf old.keeper) (shelf new.keeper)
  strays sources S other old new [] [] chain = subst (λ (m : Moment K). StraysAreKnown limits sources S [] [] (known old.keeper) (known m.keeper) (shelf old.keeper) (shelf m.keeper)) (sym chain)
      (record { later = omega arith; others = []; few = λ below. omega arith; each = λ n stray. inl stray })
  strays sources S other old new [] (answer ∷ answers) chain = absurd chain
  strays sources S other old new (line ∷ lines) [] chain = absurd chain
  strays sources S other old new (line ∷ lines) (answer ∷ answers) chain =
      let first = chain.3.strays in
      let rest = strays sources (after sources S line answer) chain.1 chain.0 new lines answers chain.6 in
      record {
        later = omega (arith, first.later, rest.later);
        others = first.others ++ rest.others;
        few = λ below. rw (length-append first.others rest.others) (two _ _ _ _ _ first.later rest.later (first.few (omega (arith, rest.later, below))) (rest.few below));
        each = λ n stray. ⊎_elim
            (λ stays. ⊎_elim (λ behind. inl behind) (λ more. inr (Contains-append_left first.others rest.others n more))
            (stay_through limits sources (after sources S line answer) lines answers _ _ (λ k. Contains first.others k) first.each n stays))
            (λ more. inr (Contains-append_right first.others rest.others n more))
            (rest.each n stray);
      }
    where
      two : (a b c n m : ℕ) → a ≤ b → b ≤ c → n ≤ 2 * (b - a) → m ≤ 2 * (c - b) → n + m ≤ 2 * (c - a)
      two a b c n m ab bc h k = omega arith

  -- where all is well at each line, each is well answered
  pub well : (sources : Sources) (S : State) (other : Option Change) (old new : Moment K) (lines : List Line) (answers : List Answer) → Follows sources S other old lines answers new
      → AreWell limits sources S lines answers → AreWellAnswered limits sources S lines answers
  well sources S other old new [] answers chain all = tt
  well sources S other old new (line ∷ lines) [] chain all = tt
  well sources S other old new (line ∷ lines) (answer ∷ answers) chain all =
      (chain.3.complete all.0, well sources (after sources S line answer) chain.1 chain.0 new lines answers chain.6 all.1)

  pub outputs : (sources : Sources) (S : State) (other : Option Change) (old new : Moment K) (before named : List (List ℕ)) (lines : List Line) (answers : List Answer) → AreApartFrom before named lines
      → Follows sources S other old lines answers new
      → OnFiles old.places.files new.places.files (λ x z. AreOutputs sources S lines answers x z × KeepsOthers lines x z)
  outputs sources S other old new before named [] [] apart chain = subst (λ (m : Moment K). OnFiles old.places.files m.places.files (λ x z. AreOutputs sources S [] [] x z × KeepsOthers [] x z)) (sym chain) (same old.places.files)
    where
      same : (o : Option Files) → OnFiles o o (λ x z. AreOutputs sources S [] [] x z × KeepsOthers [] x z)
      same None = tt
      same (Some x) = (tt, λ name none. refl)
  outputs sources S other old new before named [] (answer ∷ answers) apart chain = absurd chain
  outputs sources S other old new before named (line ∷ lines) [] apart chain = absurd chain
  outputs sources S other old new before named (line ∷ lines) (answer ∷ answers) apart chain =
      files_then old.places.files chain.0.places.files new.places.files
      (λ x y. KeepsOthers (line ∷ []) x y × IsOutputOf S line answer x y)
      (λ y z. AreOutputs sources (after sources S line answer) lines answers y z × KeepsOthers lines y z)
      (λ x z. AreOutputs sources S (line ∷ lines) (answer ∷ answers) x z × KeepsOthers (line ∷ lines) x z)
      (λ x y z told first rest. (
        (
          output_then sources S (before ++ sources_of line) named line lines answer x y z apart.1 first.1 rest.1,
          outputs_then sources (after sources S line answer) (before ++ sources_of line) named line lines answers x y z apart.1 first.0 rest.0,
        ),
        others_then line lines x y z first.0 rest.1,
      ))
      (both_files old.places.files chain.0.places.files chain.4 chain.5)
      (outputs sources (after sources S line answer) chain.1 chain.0 new (before ++ sources_of line) (named ++ outputs_of line) lines answers apart.1 chain.6)
    where
      both_files : (a b : Option Files) → OnFiles a b (KeepsOthers (line ∷ [])) → OnFiles a b (IsOutputOf S line answer) → OnFiles a b (λ x y. KeepsOthers (line ∷ []) x y × IsOutputOf S line answer x y)
      both_files None None h k = tt
      both_files None (Some y) h k = h
      both_files (Some x) None h k = h
      both_files (Some x) (Some y) h k = (h, k)
