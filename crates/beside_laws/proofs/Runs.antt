-- Lines with restores beside them are a run.
use Rattle.std.proofs.Common.{◌++◌, ◌≡◌, false, inl, ◌≤◌, ◌<◌, ◌+◌, ◌-◌, ◌^◌, ℕ, List, [], length, Option, None, refl, sym, ◌∙◌, arith, subst}
use Rattle.std.specs.Prelude.{count_by}
use Rattle.std.specs.List.{filter_map}
use Rattle.std.proofs.lemmas.List.Sorted.{length_permutation}
use Rattle.std.proofs.lemmas.List.Sums.{length-filter}
use Rattle.vault_types.specs.declared.Limits.{Limits}
use Rattle.vault_types.specs.declared.Name.{Name}
use Rattle.vault_types.specs.declared.Answer.{Answer}
use Rattle.vault_types.specs.declared.Line.{Line}
use Rattle.vault_types.specs.State.{State}
use Rattle.vault_types.specs.Shelf.{Stands}
use Rattle.vault_types.specs.Script.{Sources, state_after}
use Rattle.vault_types.specs.Events.{Change, IsNear}
use Rattle.vault_traits.specs.Counts.{counted_up}
use Rattle.vault_traits.specs.Told.{ShelfTold}
use Rattle.vault_traits.proofs.Moments.{more_now}
use Rattle.store_model.specs.Causes.{Counts, AnswersHaveCauses, RiseInSomeOrder, counts_over, store_number, place_number, read_number, write_number}
use Rattle.store_model.specs.Complete.{AreBelowLast, is_counted}
use Rattle.store_model.specs.Leaves.{MayBeDone, AllGets}
use Rattle.store_model.specs.Outputs.{AreApartLines, KeepsOthers}
use Rattle.store_model.specs.Script.{MeansScript, RunsLines}
use Rattle.store_model.specs.Steps.{Moment}
use Rattle.store_model.specs.Strays.{StraysOf}
use Rattle.store_model.specs.View.{IsKept}
use Rattle.script_laws.proofs.Bytes.{Goes, keep_bytes, kept_on, reached_behind}
use Rattle.script_laws.proofs.Staying.{wide, wide_well}
use Rattle.store_model.specs.Table.{MeanLines}
use Rattle.vault_types.specs.Bytes.{IsSound}
use Rattle.script_laws.proofs.Composed.{left_alone, stands_at_end}
use Rattle.script_laws.proofs.Counting.{counted_all, rise_counts}
use Rattle.beside_laws.proofs.Comes.{Comes, KeepsBoth, files_more}
use Rattle.beside_laws.proofs.Facts.{Facts}

-- ---- counts in some order

pub few_in_some_order : (old new : Counts) (lines : List Line) (answers : List Answer) → AnswersHaveCauses old new lines answers → AreBelowLast new
    → count_by is_counted answers ≤ (new.store - old.store) + (new.place - old.place) + (new.read - old.read) + (new.write - old.write)
few_in_some_order old new lines answers h below =
    let all : count_by is_counted answers ≡ length (filter_map store_number answers) + length (filter_map place_number answers) + length (filter_map read_number answers) + length (filter_map write_number answers)
    = sym (length-filter is_counted answers) ∙ counted_all answers in
    sum _ _ _ _ _ _ _ _ _ _ _ _ _ all
    (few old.store new.store (filter_map store_number answers) below.store h.store)
    (few old.place new.place (filter_map place_number answers) below.place h.place)
    (few old.read new.read (filter_map read_number answers) below.read h.read)
    (few old.write new.write (filter_map write_number answers) below.write h.write)
  where
    sum : (all s p r w a b c d a' b' c' d' : ℕ) → all ≡ s + p + r + w → a + s ≤ a' → b + p ≤ b' → c + r ≤ c' → d + w ≤ d' → all ≤ (a' - a) + (b' - b) + (c' - c) + (d' - d)
    sum all s p r w a b c d a' b' c' d' is ha hb hc hd = omega arith

    few : (a b : ℕ) (ns : List ℕ) → b < 2 ^ 64 - 1 → RiseInSomeOrder a ns b → a + length ns ≤ b
    few a b ns low (ms, are, rise) =
        let most : a + length ms ≤ b = rise_counts a b ms low rise in
        let same : length ms ≡ length ns = length_permutation ns ms are in
        omega (arith, most, same)

-- ---- the whole

module _ {K : Type 0} (shelf : K → ShelfTold) (keeps : K → State → Option Change → Type 0) (known : K → Name → Type 0) (keeps_is : (k : K) (S : State) (other : Option Change) → keeps k S other → IsKept (shelf k) S other) (limits : Limits) where
  means : (sources : Sources) (S : State) (old new : K) (lines : List Line) (answers : List Answer) (n : ℕ)
      → ((T : State) (other : Option Change) → keeps new T other → (name : Name) → StraysOf (shelf new) T name → known new name)
      → Facts shelf keeps known keeps_is limits sources S None lines answers old new
      → ((shelf new).gets ≡ counted_up (shelf old).gets n) → AllGets sources S lines answers n
      → MeansScript limits sources S lines answers (known old) (shelf old) (shelf new)
  means sources S old new lines answers n strays_known f counted each =
      let last = f.last in
      let is = keeps_is new (state_after sources S lines answers) last.0 last.1 in
      record {
        table = f.table;
        shelf = record {
          blobs = stands_at_end (state_after sources S lines answers) (MayBeDone sources S lines answers) last.0 is.valid is.change is.changed (λ T h. left_alone sources S lines answers T (last.2 T h)) (shelf new).blobs is.blobs;
          valid = is.valid;
          forms = f.forms;
          loads = record { gets = n; counted = counted; each = each };
        };
        strays = record { later = f.strays.later; others = f.strays.others; few = f.strays.few; each = λ q stray. f.strays.each q (strays_known (state_after sources S lines answers) last.0 last.1 q stray) };
        crash = λ images. f.crashes (more_now (λ m. Stands m S) (IsNear S None) (λ m stands. inl stands) (shelf old).history images);
        once_done = f.once;
        kept = kept_on sources S lines answers f.on;
        bytes = λ safe. keep_bytes (wide limits sources lines) sources S lines answers (f.goes (wide limits sources lines) (wide_well limits sources S lines safe)).0;
        reached = λ front rest given more T before gave long safe valid is.
            let both = f.goes (wide limits sources lines) (wide_well limits sources S lines safe) in
            let r = reached_behind (wide limits sources lines) limits sources T valid S front rest given more long
            (subst (λ (ls : List Line). Goes (wide limits sources lines) sources S ls (given ++ more)) before (subst (λ (xs : List Answer). Goes (wide limits sources lines) sources S lines xs) gave both.0))
            (subst (λ (ls : List Line). MeanLines limits sources S ls (given ++ more)) before (subst (λ (xs : List Answer). MeanLines limits sources S lines xs) gave f.table))
            (subst (λ (ls : List Line). IsSound (state_after sources S ls (given ++ more))) before (subst (λ (xs : List Answer). IsSound (state_after sources S lines xs)) gave both.1)) is in
            (r.0.sound, r.1);
      }

  pub runs_beside : (old new : Moment K) (lines : List Line) (answers : List Answer) → AreApartLines lines
      → ((T : State) (other : Option Change) → keeps new.keeper T other → (name : Name) → StraysOf (shelf new.keeper) T name → known new.keeper name)
      → Comes shelf keeps known keeps_is limits old [] lines answers new
      → RunsLines false (λ S. keeps old.keeper S None) (λ S. known old.keeper) limits lines answers (shelf old.keeper) (shelf new.keeper) old.places new.places
  runs_beside old new lines answers apart strays_known r = record {
    kinds = r.kinds;
    causes = causes;
    ordered = λ e. cc;
    others = files_more old.places.files new.places.files (KeepsBoth [] lines) (KeepsOthers lines) (λ x z h name none. h name refl none) r.others;
    reads = r.reads;
    read = r.are_read [] [] apart tt;
    there = r.are_there [] [] apart tt;
    means = λ S sources keep fed. let f = r.facts S None sources [] [] keep fed apart tt tt in means sources S old.keeper new.keeper lines answers f.1.0 strays_known f.0 f.1.1 f.1.2;
    outputs = λ S sources keep fed. let f = r.facts S None sources [] [] keep fed apart tt tt in files_more old.places.files new.places.files _ _ (λ x z h. h.0) f.2;
    complete = λ S sources keep fed w.
        let f = (r.facts S None sources [] [] keep fed apart tt tt).0 in
        let all = f.sound w in
        record { each = f.well all.0; sound = all.1; few = few_in_some_order (counts_over (shelf old.keeper) old.places) (counts_over (shelf new.keeper) new.places) lines answers causes };
  }
    where
      causes : AnswersHaveCauses (counts_over (shelf old.keeper) old.places) (counts_over (shelf new.keeper) new.places) lines answers
      causes = record {
        store = (r.store.order, r.store.are, r.store.rise);
        place = (r.place.order, r.place.are, r.place.rise);
        read = (r.read.order, r.read.are, r.read.rise);
        write = (r.write.order, r.write.are, r.write.rise);
        changes = r.changes_rise;
      }
