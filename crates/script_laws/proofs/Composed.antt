-- What a chain of lines comes to, as a run of them.
use Rattle.std.proofs.Common.{◌≡◌, inl, inr, ℕ, true, List, [], ◌∷◌, ◌++◌, Option, Some, None, refl, sym, subst, arith}
use Rattle.std.specs.Prelude.{IsSomeAnd, IfSome}
use Rattle.vault_types.specs.declared.Limits.{Limits}
use Rattle.vault_types.specs.declared.Name.{Name}
use Rattle.vault_types.specs.declared.Answer.{Answer}
use Rattle.vault_types.specs.declared.Line.{Line}
use Rattle.vault_types.specs.State.{State, IsValid}
use Rattle.vault_types.specs.Script.{Sources, after, state_after}
use Rattle.vault_types.specs.Shelf.{Blobs, Stands}
use Rattle.vault_types.specs.Events.{Change, IsNear, IsChange}
use Rattle.vault_traits.specs.Told.{ShelfTold, Files}
use Rattle.vault_traits.proofs.Moments.{more_now}
use Rattle.store_model.specs.Causes.{AreFitting, CausesRise, Counts, counts_over, store_number, place_number, read_number, write_number}
use Rattle.store_model.specs.Leaves.{MayBeDone, StandsOrNearly}
use Rattle.vault_types.specs.Bytes.{IsSound}
use Rattle.store_model.specs.Complete.{IsWell, IsComplete}
use Rattle.script_laws.proofs.Staying.{AreWell, well_alone, well_behind, wide, wide_well}
use Rattle.script_laws.proofs.Bytes.{Goes, GoesOn, between, keep_bytes, kept_on, kept_same, reached_behind}
use Rattle.store_model.specs.Recipes.{KeepsForms}
use Rattle.script_laws.proofs.Forms.{forms_then, same_forms}
use Rattle.store_model.specs.Table.{MeanLines}
use Rattle.store_model.specs.Outputs.{AreApartLines, OnFiles, KeepsOthers, AreOutputs}
use Rattle.store_model.specs.Script.{MeansScript, RunsLines}
use Rattle.store_model.specs.Strays.{StraysOf}
use Rattle.store_model.specs.View.{IsKept}
use Rattle.store_model.specs.Steps.{Moment, StepsLine, Chain}
use Rattle.script_laws.proofs.Rising.{rise_more}
use Rattle.script_laws.proofs.Ordering.{causes_in_order}
use Rattle.script_laws.proofs.Names.{files_then, others_then}
use Rattle.script_laws.proofs.Near.{nearly}
use Rattle.script_laws.proofs.Counting.{few_counted}
use Rattle.script_laws.proofs.Following.{LeftBy, Follows, follows, are_read, are_there, reads_of, table, keeps_last, loads, strays, outputs, well}
use Rattle.script_laws.proofs.Crashing.{crashes, once}

-- behind lines that began with no change, those that may be left
pub left_alone : (sources : Sources) (S : State) (lines : List Line) (answers : List Answer) (T : State) → LeftBy sources S None lines answers T → MayBeDone sources S lines answers T
left_alone sources S lines answers T (inl none) = absurd none.0
left_alone sources S lines answers T (inr done) = done

pub stands_at_end : (S : State) (May : State → Type 0) (next : Option Change) → IsValid S → IfSome next (λ h. (s : ℕ) × IsChange S s h) → IfSome next (λ h. IsValid h.state) → ((T : State) → IsSomeAnd next (λ h. h.state ≡ T) → May T)
    → (o : Option Blobs) → IsSomeAnd o (IsNear S next) → IsSomeAnd o (StandsOrNearly S May)
stands_at_end S May next valid change changed may None h = h
stands_at_end S May next valid change changed may (Some m) (inl stands) = inl stands
stands_at_end S May None valid change changed may (Some m) (inr none) = absurd none
stands_at_end S May (Some h) valid change changed may (Some m) (inr has) = inr (h.state, may h.state refl, changed, has.other, nearly S change.0 h valid change.1 m has)

module _ {K : Type 0} (shelf : K → ShelfTold) (keeps : K → State → Option Change → Type 0) (known : K → Name → Type 0) (keeps_is : (k : K) (S : State) (other : Option Change) → keeps k S other → IsKept (shelf k) S other)
    (strays_known : (k : K) (S : State) (other : Option Change) → keeps k S other → (n : Name) → StraysOf (shelf k) S n → known k n) (limits : Limits) where
  kinds : (old new : Moment K) (lines : List Line) (answers : List Answer) → Chain (StepsLine shelf keeps known limits) old lines answers new → AreFitting limits lines answers
  kinds old new [] [] chain = tt
  kinds old new [] (answer ∷ answers) chain = absurd chain
  kinds old new (line ∷ lines) [] chain = absurd chain
  kinds old new (line ∷ lines) (answer ∷ answers) chain = (chain.1.kind, kinds chain.0 new lines answers chain.2)

  abbrev counts : Moment K → Counts
  counts m = counts_over (shelf m.keeper) m.places

  causes : (old new : Moment K) (lines : List Line) (answers : List Answer) → Chain (StepsLine shelf keeps known limits) old lines answers new → CausesRise (counts old) (counts new) answers
  causes old new [] [] chain = subst (λ (m : Moment K). CausesRise (counts old) (counts m) []) (sym chain) (record { store = omega arith; place = omega arith; read = omega arith; write = omega arith })
  causes old new [] (answer ∷ answers) chain = absurd chain
  causes old new (line ∷ lines) [] chain = absurd chain
  causes old new (line ∷ lines) (answer ∷ answers) chain =
      let first = chain.1.causes in
      let rest = causes chain.0 new lines answers chain.2 in
      record {
        store = rise_more store_number (counts old).store (counts chain.0).store (counts new).store answer answers first.store rest.store;
        place = rise_more place_number (counts old).place (counts chain.0).place (counts new).place answer answers first.place rest.place;
        read = rise_more read_number (counts old).read (counts chain.0).read (counts new).read answer answers first.read rest.read;
        write = rise_more write_number (counts old).write (counts chain.0).write (counts new).write answer answers first.write rest.write;
      }

  others : (old new : Moment K) (lines : List Line) (answers : List Answer) → Chain (StepsLine shelf keeps known limits) old lines answers new → OnFiles old.places.files new.places.files (KeepsOthers lines)
  others old new [] [] chain = subst (λ (m : Moment K). OnFiles old.places.files m.places.files (KeepsOthers [])) (sym chain) (same old.places.files)
    where
      same : (o : Option Files) → OnFiles o o (KeepsOthers [])
      same None = tt
      same (Some x) = λ name none. refl
  others old new [] (answer ∷ answers) chain = absurd chain
  others old new (line ∷ lines) [] chain = absurd chain
  others old new (line ∷ lines) (answer ∷ answers) chain = files_then old.places.files chain.0.places.files new.places.files (KeepsOthers (line ∷ [])) (KeepsOthers lines) (KeepsOthers (line ∷ lines))
      (λ x y z told first rest. others_then line lines x y z first rest) chain.1.others (others chain.0 new lines answers chain.2)

  goes : (most : Limits) (sources : Sources) (S : State) (other : Option Change) (old new : Moment K) (lines : List Line) (answers : List Answer) → Follows shelf keeps known limits sources S other old lines answers new → IsWell most sources S lines
      → Goes most sources S lines answers × IsSound (state_after sources S lines answers)
  goes most sources S other old new [] [] chain w = (w.sound.valid, w.sound)
  goes most sources S other old new [] (answer ∷ answers) chain w = absurd chain
  goes most sources S other old new (line ∷ lines) [] chain w = absurd chain
  goes most sources S other old new (line ∷ lines) (answer ∷ answers) chain w =
      let valid = (keeps_is chain.0.keeper (after sources S line answer) chain.1 chain.2).valid in
      let rest = goes most sources (after sources S line answer) chain.1 chain.0 new lines answers chain.6 (well_behind most sources S lines line answer valid chain.3.means.done w) in
      ((w, chain.3.means.done, valid, rest.0), rest.1)

  on : (sources : Sources) (S : State) (other : Option Change) (old new : Moment K) (lines : List Line) (answers : List Answer) → keeps old.keeper S other → Follows shelf keeps known limits sources S other old lines answers new → GoesOn sources S lines answers
  on sources S other old new [] [] keep chain = (keeps_is old.keeper S other keep).valid
  on sources S other old new [] (answer ∷ answers) keep chain = absurd chain
  on sources S other old new (line ∷ lines) [] keep chain = absurd chain
  on sources S other old new (line ∷ lines) (answer ∷ answers) keep chain =
      ((keeps_is old.keeper S other keep).valid, chain.3.means.done, (keeps_is chain.0.keeper (after sources S line answer) chain.1 chain.2).valid, on sources (after sources S line answer) chain.1 chain.0 new lines answers chain.2 chain.6)

  forms : (sources : Sources) (S : State) (other : Option Change) (old new : Moment K) (lines : List Line) (answers : List Answer) → Follows shelf keeps known limits sources S other old lines answers new → GoesOn sources S lines answers
      → KeepsForms S (state_after sources S lines answers) (shelf old.keeper).blobs (shelf new.keeper).blobs
  forms sources S other old new [] [] chain go = subst (λ (m : Moment K). KeepsForms S S (shelf old.keeper).blobs (shelf m.keeper).blobs) (sym chain) (same_forms S (shelf old.keeper).blobs)
  forms sources S other old new [] (answer ∷ answers) chain go = absurd chain
  forms sources S other old new (line ∷ lines) [] chain go = absurd chain
  forms sources S other old new (line ∷ lines) (answer ∷ answers) chain go =
      forms_then S (after sources S line answer) (state_after sources (after sources S line answer) lines answers) (shelf old.keeper).blobs (shelf chain.0.keeper).blobs (shelf new.keeper).blobs
      (between sources S line answer lines answers go) (kept_same sources (after sources S line answer) lines answers go.3) chain.3.forms (forms sources (after sources S line answer) chain.1 chain.0 new lines answers chain.6 go.3)

  all_well : (sources : Sources) (S : State) (other : Option Change) (old new : Moment K) (lines : List Line) (answers : List Answer) → Follows shelf keeps known limits sources S other old lines answers new → IsWell limits sources S lines
      → AreWell limits sources S lines answers × IsSound (state_after sources S lines answers)
  all_well sources S other old new [] [] chain w = (tt, w.sound)
  all_well sources S other old new [] (answer ∷ answers) chain w = absurd chain
  all_well sources S other old new (line ∷ lines) [] chain w = absurd chain
  all_well sources S other old new (line ∷ lines) (answer ∷ answers) chain w =
      let kept = keeps_is chain.0.keeper (after sources S line answer) chain.1 chain.2 in
      let rest = all_well sources (after sources S line answer) chain.1 chain.0 new lines answers chain.6 (well_behind limits sources S lines line answer kept.valid chain.3.means.done w) in
      ((well_alone limits sources S lines line w, rest.0), rest.1)

  pub means : (sources : Sources) (S : State) (old new : Moment K) (lines : List Line) (answers : List Answer) → keeps old.keeper S None → Follows shelf keeps known limits sources S None old lines answers new
      → MeansScript limits sources S lines answers (known old.keeper) (shelf old.keeper) (shelf new.keeper)
  means sources S old new lines answers keep chain =
      let last = keeps_last shelf keeps known limits sources S None old new lines answers keep chain in
      let is = keeps_is new.keeper (state_after sources S lines answers) last.0 last.1 in
      let passed = strays shelf keeps known limits sources S None old new lines answers chain in
      record {
        table = table shelf keeps known limits sources S None old new lines answers chain;
        shelf = record {
          blobs = stands_at_end (state_after sources S lines answers) (MayBeDone sources S lines answers) last.0 is.valid is.change is.changed (λ T h. left_alone sources S lines answers T (last.2 T h)) (shelf new.keeper).blobs is.blobs;
          valid = is.valid;
          forms = forms sources S None old new lines answers chain (on sources S None old new lines answers keep chain);
          loads = loads shelf keeps known limits sources S None old new lines answers chain;
        };
        strays = record { later = passed.later; others = passed.others; few = passed.few; each = λ n stray. passed.each n (strays_known new.keeper (state_after sources S lines answers) last.0 last.1 n stray) };
        crash = λ images. crashes shelf keeps known keeps_is limits sources S None old new lines answers keep chain
            (more_now (λ m. Stands m S) (IsNear S None) (λ m stands. inl stands) (shelf old.keeper).history images);
        once_done = once shelf keeps known keeps_is limits sources S None old new lines answers chain;
        kept = kept_on sources S lines answers (on sources S None old new lines answers keep chain);
        bytes = λ safe. keep_bytes (wide limits sources lines) sources S lines answers (goes (wide limits sources lines) sources S None old new lines answers chain (wide_well limits sources S lines safe)).0;
        reached = λ front rest given more T before gave long safe valid is.
            let both = goes (wide limits sources lines) sources S None old new lines answers chain (wide_well limits sources S lines safe) in
            let r = reached_behind (wide limits sources lines) limits sources T valid S front rest given more long
            (subst (λ (ls : List Line). Goes (wide limits sources lines) sources S ls (given ++ more)) before (subst (λ (xs : List Answer). Goes (wide limits sources lines) sources S lines xs) gave both.0))
            (subst (λ (ls : List Line). MeanLines limits sources S ls (given ++ more)) before (subst (λ (xs : List Answer). MeanLines limits sources S lines xs) gave (table shelf keeps known limits sources S None old new lines answers chain)))
            (subst (λ (ls : List Line). IsSound (state_after sources S ls (given ++ more))) before (subst (λ (xs : List Answer). IsSound (state_after sources S lines xs)) gave both.1)) is in
            (r.0.sound, r.1);
      }

  completes : (sources : Sources) (S : State) (old new : Moment K) (lines : List Line) (answers : List Answer) → Chain (StepsLine shelf keeps known limits) old lines answers new → Follows shelf keeps known limits sources S None old lines answers new
      → IsWell limits sources S lines → IsComplete limits sources S lines answers (counts old) (counts new)
  completes sources S old new lines answers chain through w =
      let all = all_well sources S None old new lines answers through w in
      record {
        each = well shelf keeps known limits sources S None old new lines answers through all.0;
        sound = all.1;
        few = few_counted (counts old) (counts new) answers (causes old new lines answers chain);
      }

  only_outputs : (sources : Sources) (S : State) (lines : List Line) (answers : List Answer) (a b : Option Files) → OnFiles a b (λ x z. AreOutputs sources S lines answers x z × KeepsOthers lines x z) → OnFiles a b (AreOutputs sources S lines answers)
  only_outputs sources S lines answers None None h = tt
  only_outputs sources S lines answers None (Some z) h = h
  only_outputs sources S lines answers (Some x) None h = h
  only_outputs sources S lines answers (Some x) (Some z) h = h.0

  pub runs_of_chain : (old new : Moment K) (lines : List Line) (answers : List Answer) → AreApartLines lines → Chain (StepsLine shelf keeps known limits) old lines answers new
      → RunsLines true (λ S. keeps old.keeper S None) (λ S. known old.keeper) limits lines answers (shelf old.keeper) (shelf new.keeper) old.places new.places
  runs_of_chain old new lines answers apart chain = record {
    kinds = kinds old new lines answers chain;
    causes = causes_in_order (counts old) (counts new) lines answers (causes old new lines answers chain);
    ordered = λ e. causes old new lines answers chain;
    others = others old new lines answers chain;
    reads = reads_of shelf keeps known limits old new lines answers chain;
    read = are_read shelf keeps known limits old new [] [] lines answers apart chain;
    there = are_there shelf keeps known limits old new [] [] lines answers apart chain;
    means = λ S sources keep fed. means sources S old new lines answers keep (follows shelf keeps known limits sources S None old new lines answers keep chain fed);
    outputs = λ S sources keep fed. only_outputs sources S lines answers old.places.files new.places.files
        (outputs shelf keeps known limits sources S None old new [] [] lines answers apart (follows shelf keeps known limits sources S None old new lines answers keep chain fed));
    complete = λ S sources keep fed all. completes sources S old new lines answers chain (follows shelf keeps known limits sources S None old new lines answers keep chain fed) all;
  }
