-- What lines come to of which some have begun, with the names of the restores that run: each is apart from the others and from
-- those to come, and is there among the places.
use Rattle.std.proofs.Common.{◌≡◌, ◌<◌, ◌+◌, ℕ, suc, false, List, [], ◌∷◌, ◌++◌, map, length, drop, get_or, set, Option, Some, None, sym, ◌∙◌, ap, subst, add-one}
use Rattle.std.specs.Prelude.{flat_map, IsSome}
use Rattle.std.specs.List.{AllByRecursion}
use Rattle.std.specs.Str.{bytes_eq}
use Rattle.std.proofs.Math.Seq.{drop-cons}
use Rattle.std.proofs.lemmas.List.{append-nil, map-append}
use Rattle.vault_types.specs.declared.Limits.{Limits}
use Rattle.vault_types.specs.declared.Name.{Name}
use Rattle.vault_types.specs.declared.Answer.{Answer}
use Rattle.vault_types.specs.declared.Line.{Line}
use Rattle.vault_types.specs.declared.Line.TheVariants.{Restore}
use Rattle.vault_types.specs.State.{State}
use Rattle.vault_types.specs.Words.{sources_of, outputs_of, is_one_of}
use Rattle.vault_types.specs.Events.{Change}
use Rattle.vault_traits.specs.Files.{AreKept, IsThere}
use Rattle.vault_traits.specs.Told.{ShelfTold, PlacesTold, Files}
use Rattle.store_model.specs.Outputs.{AreApartFrom, AreApartLines, OnFiles}
use Rattle.store_model.specs.Steps.{Moment, StepsLine}
use Rattle.store_model.specs.View.{IsKept}
use Rattle.script_laws.proofs.Names.{any_left, any_nil}
use Rattle.beside_laws.specs.Running.{Past, past_on, just_begun, with_answer}
use Rattle.beside_laws.specs.Steps.{BeginsRestore, GoesOnRestore, EndsRestore, IsPart}
use Rattle.beside_laws.specs.Progress.{Underway}
use Rattle.beside_laws.specs.Progress.Underway.{begins, answers_line, begins_restore, goes_on, ends_restore, part}
use Rattle.beside_laws.proofs.Apart.{AreDistinct, AreWithin, distinct_less, distinct_more, within_less, within_more, within_named, last_named, not_within, given_no_output}
use Rattle.beside_laws.proofs.Comes.{new_name, one_name}
use Rattle.beside_laws.proofs.Loop.{Onward, onward_begins, onward_line, onward_begin, onward_on, onward_ended, onward_part}

abbrev pub past_names : {K : Type 0} → List (Past K) → List (List ℕ)
past_names P = map (λ p. p.name) P

abbrev pub AreThere : {K : Type 0} → PlacesTold → List (Past K) → Type 0
AreThere places P = AllByRecursion (λ p. IsThere places.files p.name) P

pub record Named {K : Type 0} (left : List Line) (P : List (Past K)) (places : PlacesTold) : Type 0 where
  pub before : List (List ℕ)
  pub named : List (List ℕ)
  pub later : AreApartFrom before named left
  pub within : AreWithin named (past_names P)
  pub distinct : AreDistinct (past_names P)
  pub there : AreThere places P

still_there : (a b : Option Files) (Changed : List ℕ → Type 0) (name : List ℕ) → OnFiles a b (λ x y. (n : List ℕ) → Changed n → y n ≡ x n) → Changed name → IsThere a name → IsThere b name
still_there None None Changed name kept apart here = tt
still_there None (Some y) Changed name kept apart here = absurd kept
still_there (Some x) None Changed name kept apart here = tt
still_there (Some x) (Some y) Changed name kept apart here = subst (λ (o : Option (List ℕ)). IsSome o) (sym (kept name apart)) here

module _ {K : Type 0} where
  all_still : (P : List (Past K)) (a b : PlacesTold) (Changed : List ℕ → Type 0) → OnFiles a.files b.files (λ x y. (n : List ℕ) → Changed n → y n ≡ x n) → AllByRecursion (λ p. Changed p.name) P → AreThere a P → AreThere b P
  all_still [] a b Changed kept apart here = tt
  all_still (p ∷ P) a b Changed kept apart here = (still_there a.files b.files Changed p.name kept apart.0 here.0, all_still P a b Changed kept apart.1 here.1)

  -- none of the named ones is an output of the next line
  others_apart : (before named : List (List ℕ)) (line : Line) (lines : List Line) (P : List (Past K)) → AreApartFrom before named (line ∷ lines) → AreWithin named (past_names P) → AllByRecursion (λ p. is_one_of (flat_map outputs_of (line ∷ [])) p.name ≡ false) P
  others_apart before named line lines [] apart within = tt
  others_apart before named line lines (p ∷ P) apart within = (
    any_nil (bytes_eq p.name) (outputs_of line) (any_left (bytes_eq p.name) (outputs_of line) (flat_map outputs_of lines) (given_no_output before named (line ∷ lines) p.name apart within.0)),
    others_apart before named line lines P apart within.1,
  )

  names_at : (first : List (Past K)) (p : Past K) (later : List (Past K)) → past_names (first ++ p ∷ later) ≡ past_names first ++ p.name ∷ past_names later
  names_at first p later = map-append (λ (q : Past K). q.name) first (p ∷ later)

  names_without : (first later : List (Past K)) → past_names (first ++ later) ≡ past_names first ++ past_names later
  names_without first later = map-append (λ (q : Past K). q.name) first later

  there_push : (P : List (Past K)) (q : Past K) (places : PlacesTold) → AreThere places P → IsThere places.files q.name → AreThere places (P ++ q ∷ [])
  there_push [] q places h one = (one, tt)
  there_push (p ∷ P) q places h one = (h.0, there_push P q places h.1 one)

  there_less : (first : List (Past K)) (p : Past K) (later : List (Past K)) (places : PlacesTold) → AreThere places (first ++ p ∷ later) → AreThere places (first ++ later) × IsThere places.files p.name
  there_less [] p later places h = (h.1, h.0)
  there_less (a ∷ first) p later places h = let rest = there_less first p later places h.1 in ((h.0, rest.0), rest.1)

  there_on : (first : List (Past K)) (p : Past K) (n : ℕ) (met : Option ℕ) (later : List (Past K)) (places : PlacesTold) → AreThere places (first ++ p ∷ later) → AreThere places (first ++ past_on p n met ∷ later)
  there_on [] p n met later places h = h
  there_on (a ∷ first) p n met later places h = (h.0, there_on first p n met later places h.1)

  all_other : (name : List ℕ) (P : List (Past K)) → is_one_of (past_names P) name ≡ false → AllByRecursion (λ p. is_one_of (name ∷ []) p.name ≡ false) P
  all_other name [] none = tt
  all_other name (p ∷ P) none = (
    one_name name p.name (Rattle.script_laws.proofs.Names.eq_swap name p.name (Rattle.script_laws.proofs.Names.or_left (bytes_eq name p.name) _ none)),
    all_other name P (Rattle.script_laws.proofs.Names.or_right (bytes_eq name p.name) _ none),
  )

drop_next : {X : Type 0} (xs : List X) (i : ℕ) (x : X) → i < length xs → x ≡ get_or xs i x → drop i xs ≡ x ∷ drop (i + 1) xs
drop_next {X} xs i x below is = drop-cons xs i x below ∙ ap (λ (y : X). y ∷ drop (suc i) xs) (sym is) ∙ ap (λ (k : ℕ). x ∷ drop k xs) (sym (add-one i))

module _ {K : Type 0} (shelf : K → ShelfTold) (keeps : K → State → Option Change → Type 0) (known : K → Name → Type 0) (keeps_is : (k : K) (S : State) (other : Option Change) → keeps k S other → IsKept (shelf k) S other) (limits : Limits) (lines : List Line) (start : Moment K) where
  pub record Standing (i : ℕ) (answers : List Answer) (P : List (Past K)) (now : Moment K) : Type 0 where
    pub all : AreApartLines lines
    pub under : Onward shelf keeps known keeps_is limits lines start i answers P now
    pub names : Named (drop i lines) P now.places

  pub standing_begins : AreApartLines lines → (answers : List Answer) → length answers ≡ length lines → Standing 0 answers [] start
  standing_begins apart answers long = record {
    all = apart;
    under = onward_begins shelf keeps known keeps_is limits lines start answers long;
    names = record { before = []; named = []; later = apart; within = tt; distinct = tt; there = tt };
  }

  pub standing_line : (i : ℕ) (answers : List Answer) (P : List (Past K)) (now mid : Moment K) (line : Line) (answer : Answer) → i < length lines → line ≡ get_or lines i line → StepsLine shelf keeps known limits now line answer mid
      → Standing i answers P now → Standing (i + 1) (set answers i answer) P mid
  standing_line i answers P now mid line answer below is step u =
      let apart : AreApartFrom u.names.before u.names.named (line ∷ drop (i + 1) lines) = subst (λ (ls : List Line). AreApartFrom u.names.before u.names.named ls) (drop_next lines i line below is) u.names.later in
      record {
        all = u.all;
        under = onward_line shelf keeps known keeps_is limits lines start i answers P now mid line answer below is step u.under;
        names = record {
          before = u.names.before ++ sources_of line;
          named = u.names.named ++ outputs_of line;
          later = apart.1;
          within = within_named u.names.named (outputs_of line) (past_names P) u.names.within;
          distinct = u.names.distinct;
          there = all_still P now.places mid.places (λ n. is_one_of (flat_map outputs_of (line ∷ [])) n ≡ false) step.others (others_apart u.names.before u.names.named line (drop (i + 1) lines) P apart u.names.within) u.names.there;
        };
      }

  pub standing_begin : (i : ℕ) (answers : List Answer) (P : List (Past K)) (now mid : Moment K) (s v : ℕ) (name : List ℕ) (cache : ℕ) → i < length lines → Restore s v name cache ≡ get_or lines i (Restore s v name cache)
      → BeginsRestore shelf keeps known now (Restore s v name cache) mid → IsThere mid.places.files name → Standing i answers P now → Standing (i + 1) answers (P ++ just_begun now.keeper s v name cache i ∷ []) mid
  standing_begin i answers P now mid s v name cache below is step here u =
      let apart : AreApartFrom u.names.before u.names.named (Restore s v name cache ∷ drop (i + 1) lines) = subst (λ (ls : List Line). AreApartFrom u.names.before u.names.named ls) (drop_next lines i (Restore s v name cache) below is) u.names.later in
      let q : Past K = just_begun now.keeper s v name cache i in
      let free : is_one_of (past_names P) name ≡ false = not_within u.names.named (past_names P) name u.names.within (new_name u.names.before u.names.named s v name cache (drop (i + 1) lines) apart) in
      record {
        all = u.all;
        under = onward_begin shelf keeps known keeps_is limits lines start i answers P now mid s v name cache below is step u.under;
        names = record {
          before = u.names.before ++ [];
          named = u.names.named ++ name ∷ [];
          later = apart.1;
          within = subst (λ (ns : List (List ℕ)). AreWithin (u.names.named ++ name ∷ []) ns) (sym (names_at P q []))
              (within_more (u.names.named ++ name ∷ []) (past_names P) name [] (subst (λ (ns : List (List ℕ)). AreWithin (u.names.named ++ name ∷ []) ns) (sym (append-nil (past_names P))) (within_named u.names.named (name ∷ []) (past_names P) u.names.within)) (last_named u.names.named name));
          distinct = subst AreDistinct (sym (names_at P q []))
              (distinct_more (past_names P) name [] (subst AreDistinct (sym (append-nil (past_names P))) u.names.distinct) (subst (λ (ns : List (List ℕ)). is_one_of ns name ≡ false) (sym (append-nil (past_names P))) free));
          there = there_push P q mid.places
              (all_still P now.places mid.places (λ n. is_one_of (flat_map outputs_of (Restore s v name cache ∷ [])) n ≡ false) step.others (others_apart u.names.before u.names.named (Restore s v name cache) (drop (i + 1) lines) P apart u.names.within) u.names.there)
              here;
        };
      }

  pub standing_on : (i : ℕ) (answers : List Answer) (first : List (Past K)) (p : Past K) (later : List (Past K)) (now mid : Moment K) (n : ℕ) (met : Option ℕ)
      → GoesOnRestore shelf keeps known now p.met n met mid → Standing i answers (first ++ p ∷ later) now → Standing i answers (first ++ past_on p n met ∷ later) mid
  standing_on i answers first p later now mid n met step u =
      let same : past_names (first ++ past_on p n met ∷ later) ≡ past_names (first ++ p ∷ later) = names_at first (past_on p n met) later ∙ sym (names_at first p later) in
      record {
        all = u.all;
        under = onward_on shelf keeps known keeps_is limits lines start i answers first p later now mid n met step u.under;
        names = record {
          before = u.names.before;
          named = u.names.named;
          later = u.names.later;
          within = subst (λ (ns : List (List ℕ)). AreWithin u.names.named ns) (sym same) u.names.within;
          distinct = subst AreDistinct (sym same) u.names.distinct;
          there = subst (λ (w : PlacesTold). AreThere w (first ++ past_on p n met ∷ later)) (sym step.places) (there_on first p n met later now.places u.names.there);
        };
      }

  -- the name of one that ends is there
  pub there_at : (i : ℕ) (answers : List Answer) (first : List (Past K)) (p : Past K) (later : List (Past K)) (now : Moment K) → Standing i answers (first ++ p ∷ later) now → IsThere now.places.files p.name
  there_at i answers first p later now u = (there_less first p later now.places u.names.there).1

  pub standing_ended : (i : ℕ) (answers : List Answer) (first : List (Past K)) (p : Past K) (later : List (Past K)) (now mid : Moment K) (answer : Answer)
      → EndsRestore shelf keeps known limits now (with_answer answer p) mid → Standing i answers (first ++ p ∷ later) now → Standing i (set answers p.place answer) (first ++ later) mid
  standing_ended i answers first p later now mid answer step u =
      let inside = within_less u.names.named (past_names first) p.name (past_names later) (subst (λ (ns : List (List ℕ)). AreWithin u.names.named ns) (names_at first p later) u.names.within) in
      let differ = distinct_less (past_names first) p.name (past_names later) (subst AreDistinct (names_at first p later) u.names.distinct) in
      record {
        all = u.all;
        under = onward_ended shelf keeps known keeps_is limits lines start i answers first p later now mid answer step u.under;
        names = record {
          before = u.names.before;
          named = u.names.named;
          later = u.names.later;
          within = subst (λ (ns : List (List ℕ)). AreWithin u.names.named ns) (sym (names_without first later)) inside.0;
          distinct = subst AreDistinct (sym (names_without first later)) differ.0;
          there = all_still (first ++ later) now.places mid.places (λ n. is_one_of (p.name ∷ []) n ≡ false) step.others
              (all_other p.name (first ++ later) (subst (λ (ns : List (List ℕ)). is_one_of ns p.name ≡ false) (sym (names_without first later)) differ.1)) (there_less first p later now.places u.names.there).0;
        };
      }

  -- a part of a line leaves them
  kept_all : (a b : Option Files) → AreKept a b → OnFiles a b (λ x y. (n : List ℕ) → Unit {0} → y n ≡ x n)
  kept_all None None h = tt
  kept_all None (Some y) h = h
  kept_all (Some x) None h = h
  kept_all (Some x) (Some y) h = λ n u. h n

  all_units : (P : List (Past K)) → AllByRecursion (λ p. Unit {0}) P
  all_units [] = tt
  all_units (p ∷ P) = (tt, all_units P)

  pub standing_part : (i : ℕ) (answers : List Answer) (P : List (Past K)) (now mid : Moment K) → IsPart shelf keeps known now mid → Standing i answers P now → Standing i answers P mid
  standing_part i answers P now mid step u = record {
    all = u.all;
    under = onward_part shelf keeps known keeps_is limits lines start i answers P now mid step u.under;
    names = record {
      before = u.names.before;
      named = u.names.named;
      later = u.names.later;
      within = u.names.within;
      distinct = u.names.distinct;
      there = all_still P now.places mid.places (λ n. Unit {0}) (kept_all now.places.files mid.places.files step.files) (all_units P) u.names.there;
    };
  }

  -- ---- all steps

  pub standing_of : (i : ℕ) (answers : List Answer) (P : List (Past K)) (now : Moment K) → Underway shelf keeps known limits lines start i answers P now → Standing i answers P now
  standing_of i answers P now (begins given apart long) = standing_begins apart given long
  standing_of i answers P now (answers_line j given Q was mid line answer below is step u) = standing_line j given Q was mid line answer below is step (standing_of j given Q was u)
  standing_of i answers P now (begins_restore j given Q was mid s v name cache below is step there u) = standing_begin j given Q was mid s v name cache below is step there (standing_of j given Q was u)
  standing_of i answers P now (goes_on j given first p later was mid n met step u) = standing_on j given first p later was mid n met step (standing_of j given (first ++ p ∷ later) was u)
  standing_of i answers P now (ends_restore j given first p later was mid answer step u) = standing_ended j given first p later was mid answer step (standing_of j given (first ++ p ∷ later) was u)
  standing_of i answers P now (part j given Q was mid step u) = standing_part j given Q was mid step (standing_of j given Q was u)
