-- What restores that run, and lines that are left, come to from one moment to another: step by step.
use Rattle.std.proofs.Common.{◌≡◌, ◌⊎◌, inl, inr, ◌≤◌, ◌+◌, ℕ, Bool, true, false, ◌&&◌, ◌||◌, List, [], ◌∷◌, ◌++◌, Option, Some, None, refl, sym, ◌∙◌, ap, subst, arith}
use Rattle.std.specs.Prelude.{flat_map, map, IsTrue, IfSome, unwrap_or, if◌then◌else◌}
use Rattle.std.specs.List.{filter_map, cons_option, AllByRecursion}
use Rattle.std.specs.Str.{bytes_eq}
use Rattle.std.specs.Option.{option_map_or}
use Rattle.std.proofs.lemmas.List.Elements.{Contains-push}
use Rattle.vault_types.specs.declared.Limits.{Limits}
use Rattle.vault_types.specs.declared.Name.{Name}
use Rattle.vault_types.specs.declared.Answer.{Answer}
use Rattle.vault_types.specs.declared.Line.{Line}
use Rattle.vault_types.specs.declared.Line.TheVariants.{Backup, Restore, Delete}
use Rattle.vault_types.specs.Bytes.{bytes_of}
use Rattle.vault_types.specs.State.{State}
use Rattle.vault_types.specs.Words.{sources_of, outputs_of, is_one_of, are_apart}
use Rattle.vault_types.specs.Script.{Sources, after, is_refused}
use Rattle.vault_types.specs.Events.{Change, IsNear}
use Rattle.vault_traits.specs.Counts.{counted_up, RiseFrom}
use Rattle.vault_traits.specs.Crash.{LeavesNowIfTold}
use Rattle.vault_traits.specs.Files.{AreKept}
use Rattle.vault_traits.specs.Told.{ShelfTold, PlacesTold, Files}
use Rattle.vault_traits.proofs.Moments.{ends, more}
use Rattle.store_model.specs.Causes.{AreFitting, answers_of_changes, store_number, place_number, read_number, write_number}
use Rattle.store_model.specs.Leaves.{Gets, AllGets}
use Rattle.store_model.specs.Outputs.{IsOutput, IsOutputOf, AreOutputs, KeepsOthers, OnFiles, Reads, AreRead, AreFed, AreThere, AreApartFrom}
use Rattle.store_model.specs.Steps.{Moment, StepsLine, StraysStep, BearsStep, StandsWith}
use Rattle.store_model.specs.Recipes.{KeepsForms}
use Rattle.store_model.specs.View.{IsKept}
use Rattle.script_laws.proofs.Following.{near_with}
use Rattle.script_laws.proofs.Forms.{still_forms}
use Rattle.script_laws.proofs.Names.{any_left, any_right, any_nil, or_left, or_right, and_left, apart_member, files_then, all_front, all_back, read_then, there_then, output_stays, outputs_then, outputs_from}
use Rattle.script_laws.proofs.Rising.{rise_lower, counted_up_twice}
use Rattle.beside_laws.specs.Running.{Running, line_of, owed}
use Rattle.beside_laws.specs.Steps.{StraysLeft, LeavesState, BeginsRestore, GoesOnRestore, EndsRestore, IsOwn, HasOutput, IsPart}
use Rattle.beside_laws.proofs.Numbers.{Owes, owes_end, owes_line, owes_begin, owes_same, owes_less, owes_counted, owes_later, rise_option}
use Rattle.beside_laws.proofs.Facts.{Facts, no_lines, front, beside}
use Rattle.beside_laws.proofs.Apart.{AreDistinct, AreWithin, distinct_less, distinct_more, within_less, within_more, within_named, last_named, not_within, mid_less, mid_one, mid_more, given_no_output, output_not_given, source_not_given}
use Rattle.beside_laws.proofs.SourcesRead.{KeepsWhere, read_before, there_before}
use Rattle.beside_laws.proofs.Loads.{gone_on, Shares, shares_front, shares_begin, shares_went, shares_end}

abbrev pub names_of : {K : Type 0} → List (Running K) → List (List ℕ)
names_of P = map (λ p. p.name) P

-- one that begins, with this keeper before its pin
abbrev pub begun : {K : Type 0} → K → ℕ → ℕ → List ℕ → ℕ → Answer → Running K
begun k s v name cache answer = record { from = k; set = s; version = v; name = name; cache = cache; got = 0; met = None; answer = answer }

-- each name that is none of these, and no output of the lines, keeps its bytes
abbrev pub KeepsBoth : List (List ℕ) → List Line → Files → Files → Type 0
KeepsBoth names lines x z = (name : List ℕ) → is_one_of names name ≡ false → is_one_of (flat_map outputs_of lines) name ≡ false → z name ≡ x name

-- ---- counts

from_none : (n : ℕ) → 0 + n ≡ n
from_none n = omega arith

rise_later : (a b : ℕ) (o : Option ℕ) → RiseFrom a (cons_option o []) b → a ≤ b
rise_later a b None rise = rise
rise_later a b (Some n) rise = omega (arith, rise.0, rise.1)

-- ---- lists

names_here : {K : Type 0} (first : List (Running K)) (p : Running K) (later : List (Running K)) → names_of (first ++ p ∷ later) ≡ names_of first ++ p.name ∷ names_of later
names_here [] p later = refl
names_here (a ∷ first) p later = ap (λ (ns : List (List ℕ)). a.name ∷ ns) (names_here first p later)

names_less : {K : Type 0} (first later : List (Running K)) → names_of (first ++ later) ≡ names_of first ++ names_of later
names_less [] later = refl
names_less (a ∷ first) later = ap (λ (ns : List (List ℕ)). a.name ∷ ns) (names_less first later)

module _ {X : Type 0} (P : X → Type 0) where
  all_less : (first : List X) (x : X) (later : List X) → AllByRecursion P (first ++ x ∷ later) → AllByRecursion P (first ++ later) × P x
  all_less [] x later h = (h.1, h.0)
  all_less (a ∷ first) x later h = let rest = all_less first x later h.1 in ((h.0, rest.0), rest.1)

  all_more : (first : List X) (x : X) (later : List X) → AllByRecursion P (first ++ later) → P x → AllByRecursion P (first ++ x ∷ later)
  all_more [] x later h one = (one, h)
  all_more (a ∷ first) x later h one = (h.0, all_more first x later h.1 one)

-- ---- files

-- the state behind a restore is that before it
same_after : (sources : Sources) (S : State) (s v : ℕ) (name : List ℕ) (cache : ℕ) (answer : Answer) → after sources S (Restore s v name cache) answer ≡ S
same_after sources S s v name cache answer = by (is_refused answer)
  where
    by : (b : Bool) → (if b then S else S) ≡ S
    by true = refl
    by false = refl

pub one_name : (name n : List ℕ) → bytes_eq n name ≡ false → is_one_of (name ∷ []) n ≡ false
one_name name n h = by (bytes_eq n name) h
  where
    by : (b : Bool) → b ≡ false → (b || false) ≡ false
    by true e = e
    by false e = refl

both_then : (names : List (List ℕ)) (line : Line) (lines : List Line) (x y z : Files) → KeepsOthers (line ∷ []) x y → KeepsBoth names lines y z → KeepsBoth names (line ∷ lines) x z
both_then names line lines x y z first second name apart none =
    second name apart (any_right (bytes_eq name) (outputs_of line) (flat_map outputs_of lines) none)
    ∙ first name (any_nil (bytes_eq name) (outputs_of line) (any_left (bytes_eq name) (outputs_of line) (flat_map outputs_of lines) none))

both_begun : (A B : List (List ℕ)) (s v : ℕ) (n : List ℕ) (cache : ℕ) (lines : List Line) (x y z : Files) → KeepsOthers (Restore s v n cache ∷ []) x y → KeepsBoth (A ++ n ∷ B) lines y z → KeepsBoth (A ++ B) (Restore s v n cache ∷ lines) x z
both_begun A B s v n cache lines x y z first second name apart none =
    second name (mid_more (bytes_eq name) A n B apart (or_left (bytes_eq name n) _ none)) (or_right (bytes_eq name n) _ none)
    ∙ first name (one_name n name (or_left (bytes_eq name n) _ none))

both_ended : (A B : List (List ℕ)) (s v : ℕ) (n : List ℕ) (cache : ℕ) (lines : List Line) (x y z : Files) → KeepsOthers (Restore s v n cache ∷ []) x y → KeepsBoth (A ++ B) lines y z → KeepsBoth (A ++ n ∷ B) lines x z
both_ended A B s v n cache lines x y z first second name apart none =
    second name (mid_less (bytes_eq name) A n B apart) none
    ∙ first name (one_name n name (mid_one (bytes_eq name) A n B apart))

both_files : (a b : Option Files) (P Q : Files → Files → Type 0) → OnFiles a b P → OnFiles a b Q → OnFiles a b (λ x y. P x y × Q x y)
both_files None None P Q h k = tt
both_files None (Some y) P Q h k = h
both_files (Some x) None P Q h k = h
both_files (Some x) (Some y) P Q h k = (h, k)

-- a restore's name was not given before
pub new_name : (before named : List (List ℕ)) (s v : ℕ) (name : List ℕ) (cache : ℕ) (lines : List Line) → AreApartFrom before named (Restore s v name cache ∷ lines) → is_one_of named name ≡ false
new_name before named s v name cache lines apart =
    apart_member (name ∷ []) named name (and_left (are_apart (name ∷ []) named) _ (and_left (are_apart (name ∷ []) named && are_apart (name ∷ []) before) _ apart.0)) (Contains-push [] name)

pub files_more : (a b : Option Files) (P Q : Files → Files → Type 0) → ((x z : Files) → P x z → Q x z) → OnFiles a b P → OnFiles a b Q
files_more None None P Q wider h = tt
files_more None (Some z) P Q wider h = h
files_more (Some x) None P Q wider h = h
files_more (Some x) (Some z) P Q wider h = wider x z h

-- the output of the first line is left alone by the others and by what runs
output_left : (S : State) (before named names : List (List ℕ)) (line : Line) (lines : List Line) (answer : Answer) (x y z : Files) → AreApartFrom before named (line ∷ lines) → AreWithin named names
    → IsOutputOf S line answer x y → KeepsBoth names lines y z → IsOutputOf S line answer x z
output_left S before named names (Backup s name config) lines answer x y z apart within out kept = tt
output_left S before named names (Restore s v name cache) lines answer x y z apart within out kept =
    subst (λ (o : Option (List ℕ)). IsOutput (bytes_of S s v) answer (x name) o)
    (sym (kept name (not_within named names name within (new_name before named s v name cache lines apart)) (output_stays (before ++ []) named name lines apart.1))) out
output_left S before named names (Delete s n) lines answer x y z apart within out kept = tt

-- ---- the whole

module _ {K : Type 0} (shelf : K → ShelfTold) (keeps : K → State → Option Change → Type 0) (known : K → Name → Type 0) (keeps_is : (k : K) (S : State) (other : Option Change) → keeps k S other → IsKept (shelf k) S other) (limits : Limits) where
  -- from this moment on the running restores and the lines that are left, with these answers, come to that moment
  pub record Comes (old : Moment K) (P : List (Running K)) (lines : List Line) (answers : List Answer) (new : Moment K) : Type 0 where
    pub kinds : AreFitting limits lines answers
    pub own : AllByRecursion (IsOwn keeps limits) P
    pub store : Owes (λ p. owed p) store_number P answers (shelf old.keeper).faults (shelf new.keeper).faults
    pub place : Owes (λ p. place_number p.answer) place_number P answers old.places.faults new.places.faults
    pub read : Owes (λ p. read_number p.answer) read_number P answers old.places.read_faults new.places.read_faults
    pub write : Owes (λ p. write_number p.answer) write_number P answers old.places.write_faults new.places.write_faults
    pub changes_rise : RiseFrom (shelf old.keeper).faults (filter_map store_number (answers_of_changes lines answers)) (shelf new.keeper).faults
    pub others : OnFiles old.places.files new.places.files (KeepsBoth (names_of P) lines)
    pub reads : Reads
    pub are_read : (before named : List (List ℕ)) → AreApartFrom before named lines → AreWithin named (names_of P) → AreRead old.places.files lines reads
    pub are_there : (before named : List (List ℕ)) → AreApartFrom before named lines → AreWithin named (names_of P) → AreThere old.places.files lines answers
    pub facts : (S : State) (other : Option Change) (sources : Sources) (before named : List (List ℕ)) → keeps old.keeper S other → AreFed sources reads → AreApartFrom before named lines
        → AreWithin named (names_of P) → AreDistinct (names_of P)
        → Facts shelf keeps known keeps_is limits sources S other lines answers old.keeper new.keeper
        × ((n : ℕ) × ((shelf new.keeper).gets ≡ counted_up (shelf old.keeper).gets n) × Shares keeps P n (AllGets sources S lines answers))
        × OnFiles old.places.files new.places.files (λ x z. AreOutputs sources S lines answers x z × AllByRecursion (HasOutput keeps z) P)

  -- ---- the end

  pub comes_end : (m : Moment K) → Comes m [] [] [] m
  comes_end m = record {
    kinds = tt;
    own = tt;
    store = owes_end (λ p. owed p) store_number (shelf m.keeper).faults;
    place = owes_end (λ p. place_number p.answer) place_number m.places.faults;
    read = owes_end (λ p. read_number p.answer) read_number m.places.read_faults;
    write = owes_end (λ p. write_number p.answer) write_number m.places.write_faults;
    changes_rise = omega arith;
    others = same m.places.files;
    reads = [];
    are_read = λ before named apart within. record { names = refl; told = none_read m.places.files };
    are_there = λ before named apart within. tt;
    facts = λ S other sources before named keep fed apart within distinct. (no_lines shelf keeps known keeps_is limits sources S other m.keeper keep, (0, refl, refl), none m.places.files);
  }
    where
      none_read : (o : Option Files) → IfSome o (λ f. AllByRecursion (λ (r : List ℕ × List ℕ). r.1 ≡ unwrap_or (f r.0) []) [])
      none_read None = tt
      none_read (Some f) = tt

      same : (o : Option Files) → OnFiles o o (KeepsBoth [] [])
      same None = tt
      same (Some x) = λ name a b. refl

      none : (o : Option Files) → OnFiles o o (λ x z. Unit {0} × Unit {0})
      none None = tt
      none (Some x) = (tt, tt)

  -- ---- a line at once

  changes_line : (line : Line) (lines : List Line) (answer : Answer) (answers : List Answer) (a b c : ℕ) → RiseFrom a (cons_option (store_number answer) []) b → RiseFrom b (filter_map store_number (answers_of_changes lines answers)) c
      → RiseFrom a (filter_map store_number (answers_of_changes (line ∷ lines) (answer ∷ answers))) c
  changes_line (Backup s name config) lines answer answers a b c first rest = rise_option (store_number answer) a b c _ first rest
  changes_line (Restore s v name cache) lines answer answers a b c first rest = rise_lower a b c _ (rise_later a b (store_number answer) first) rest
  changes_line (Delete s n) lines answer answers a b c first rest = rise_option (store_number answer) a b c _ first rest

  pub comes_line : (old mid new : Moment K) (P : List (Running K)) (line : Line) (lines : List Line) (answer : Answer) (answers : List Answer) → StepsLine shelf keeps known limits old line answer mid
      → Comes mid P lines answers new → Comes old P (line ∷ lines) (answer ∷ answers) new
  comes_line old mid new P line lines answer answers step r = record {
    kinds = (step.kind, r.kinds);
    own = r.own;
    store = owes_line (λ p. owed p) store_number P answer answers _ _ _ step.causes.store r.store;
    place = owes_line (λ p. place_number p.answer) place_number P answer answers _ _ _ step.causes.place r.place;
    read = owes_line (λ p. read_number p.answer) read_number P answer answers _ _ _ step.causes.read r.read;
    write = owes_line (λ p. write_number p.answer) write_number P answer answers _ _ _ step.causes.write r.write;
    changes_rise = changes_line line lines answer answers _ _ _ step.causes.store r.changes_rise;
    others = files_then old.places.files mid.places.files new.places.files (KeepsOthers (line ∷ [])) (KeepsBoth (names_of P) lines) (KeepsBoth (names_of P) (line ∷ lines))
        (λ x y z told first rest. both_then (names_of P) line lines x y z first rest) step.others r.others;
    reads = step.reads ++ r.reads;
    are_read = λ before named apart within.
        read_then old.places.files mid.places.files (before ++ sources_of line) named line lines step.reads r.reads apart.1 step.others step.read
        (r.are_read (before ++ sources_of line) (named ++ outputs_of line) apart.1 (within_named named (outputs_of line) (names_of P) within));
    are_there = λ before named apart within. (
      step.there,
      there_then old.places.files mid.places.files (before ++ sources_of line) named line lines answers apart.1 step.others
          (r.are_there (before ++ sources_of line) (named ++ outputs_of line) apart.1 (within_named named (outputs_of line) (names_of P) within)),
    );
    facts = λ S other sources before named keep fed apart within distinct.
        let means = step.means S other sources keep (all_front (λ (q : List ℕ × List ℕ). sources q.0 ≡ q.1) step.reads r.reads fed) in
        let on = means.2 in
        let rest = r.facts (after sources S line answer) means.0 sources (before ++ sources_of line) (named ++ outputs_of line) means.1
        (all_back (λ (q : List ℕ × List ℕ). sources q.0 ≡ q.1) step.reads r.reads fed) apart.1 (within_named named (outputs_of line) (names_of P) within) distinct in (
          front shelf keeps known keeps_is limits sources S other means.0 line lines answer answers old.keeper mid.keeper new.keeper
              (record { means = on.means; complete = on.complete; next_other = on.next_other; strays = on.strays; forms = on.forms; crash = on.crash; settles = on.settles }) keep means.1 rest.0,
          (
            on.gets.0 + rest.1.0,
            rest.1.1 ∙ ap (λ (k : ℕ). counted_up k rest.1.0) on.gets.1 ∙ counted_up_twice (shelf old.keeper).gets on.gets.0 rest.1.0,
            shares_front keeps P on.gets.0 rest.1.0 (AllGets sources (after sources S line answer) lines answers) (AllGets sources S (line ∷ lines) (answer ∷ answers)) (λ k others. (on.gets.0, k, on.gets.2, others, refl)) rest.1.2,
          ),
          files_then old.places.files mid.places.files new.places.files
              (λ x y. KeepsOthers (line ∷ []) x y × IsOutputOf S line answer x y)
              (λ y z. (AreOutputs sources (after sources S line answer) lines answers y z × AllByRecursion (HasOutput keeps z) P) × KeepsBoth (names_of P) lines y z)
              (λ x z. AreOutputs sources S (line ∷ lines) (answer ∷ answers) x z × AllByRecursion (HasOutput keeps z) P)
              (λ x y z told first more. (
                (
                  output_left S before named (names_of P) line lines answer x y z apart within first.1 more.1,
                  outputs_then sources (after sources S line answer) (before ++ sources_of line) named line lines answers x y z apart.1 first.0 more.0.0,
                ),
                more.0.1,
              ))
              (both_files old.places.files mid.places.files (KeepsOthers (line ∷ [])) (IsOutputOf S line answer) step.others (step.output S other keep))
              (both_files mid.places.files new.places.files (λ y z. AreOutputs sources (after sources S line answer) lines answers y z × AllByRecursion (HasOutput keeps z) P) (KeepsBoth (names_of P) lines) rest.2 r.others),
        );
  }

  -- ---- a restore begins

  -- what is known as strays behind it may stay behind its line
  strays_step : (S : State) (s v : ℕ) (name : List ℕ) (cache : ℕ) (answer : Answer) (old mid : K) → StraysLeft (known old) (known mid) (shelf old) (shelf mid)
      → StraysStep limits S (Restore s v name cache) answer (known old) (known mid) (shelf old) (shelf mid)
  strays_step S s v name cache answer old mid l = record { later = l.later; others = l.others; few = l.few; each = λ n here. l.each n here }

  bears_begin : (sources : Sources) (S : State) (other : Option Change) (s v : ℕ) (name : List ℕ) (cache : ℕ) (answer : Answer) (old mid : K) → LeavesState shelf keeps known old mid → keeps old S other
      → LeavesNowIfTold (shelf old).history (IsNear S other) → BearsStep sources S other (Restore s v name cache) answer other (shelf old).history (shelf mid).history
  bears_begin sources S other s v name cache answer old mid l keep here =
      let leaves = l.crash S other keep here in
      record {
        any_moment = more (IsNear S other) (λ m. StandsWith S other m ⊎ StandsWith (after sources S (Restore s v name cache) answer) other m) (λ m near. inl (near_with S other m near)) _ _ leaves;
        behind = subst (λ (T : State). LeavesNowIfTold (shelf mid).history (IsNear T other)) (sym (same_after sources S s v name cache answer)) (ends (IsNear S other) _ _ leaves);
      }

  pub comes_begin : (old mid new : Moment K) (first later : List (Running K)) (s v : ℕ) (name : List ℕ) (cache : ℕ) (answer : Answer) (lines : List Line) (answers : List Answer)
      → BeginsRestore shelf keeps known old (Restore s v name cache) mid → Comes mid (first ++ begun old.keeper s v name cache answer ∷ later) lines answers new
      → Comes old (first ++ later) (Restore s v name cache ∷ lines) (answer ∷ answers) new
  comes_begin old mid new first later s v name cache answer lines answers step r = record {
    kinds = (mine.kind, r.kinds);
    own = parts.0;
    store = owes_begin (λ p. owed p) store_number first p later answer answers _ _ _ refl step.leaves.strays.later r.store;
    place = owes_begin (λ q. place_number q.answer) place_number first p later answer answers _ _ _ refl step.places.place r.place;
    read = owes_begin (λ q. read_number q.answer) read_number first p later answer answers _ _ _ refl step.places.read r.read;
    write = owes_begin (λ q. write_number q.answer) write_number first p later answer answers _ _ _ refl step.places.write r.write;
    changes_rise = rise_lower _ _ _ _ step.leaves.strays.later r.changes_rise;
    others = files_then old.places.files mid.places.files new.places.files (KeepsOthers (line ∷ [])) (KeepsBoth (names_of (first ++ p ∷ later)) lines) (KeepsBoth (names_of (first ++ later)) (line ∷ lines))
        (λ x y z told one rest. subst (λ (ns : List (List ℕ)). KeepsBoth ns (line ∷ lines) x z) (sym (names_less first later))
        (both_begun (names_of first) (names_of later) s v name cache lines x y z one (subst (λ (ns : List (List ℕ)). KeepsBoth ns lines y z) (names_here first p later) rest)))
        step.others r.others;
    reads = r.reads;
    are_read = λ before named apart within.
        read_then old.places.files mid.places.files (before ++ []) named line lines [] r.reads apart.1 step.others (nothing_read old.places.files)
        (r.are_read (before ++ []) (named ++ name ∷ []) apart.1 (within_begun named within));
    are_there = λ before named apart within. (
      λ done. tt,
      there_then old.places.files mid.places.files (before ++ []) named line lines answers apart.1 step.others (r.are_there (before ++ []) (named ++ name ∷ []) apart.1 (within_begun named within)),
    );
    facts = λ S other sources before named keep fed apart within distinct.
        let S' : State = after sources S line answer in
        let keep_on : keeps mid.keeper S' other = subst (λ (T : State). keeps mid.keeper T other) (sym (same_after sources S s v name cache answer)) (step.leaves.keeps_on S other keep) in
        let free : is_one_of named name ≡ false = new_name before named s v name cache lines apart in
        let within_less' : AreWithin named (names_of first ++ names_of later) = subst (λ (ns : List (List ℕ)). AreWithin named ns) (names_less first later) within in
        let distinct' : AreDistinct (names_of first ++ names_of later) = subst AreDistinct (names_less first later) distinct in
        let within_on : AreWithin (named ++ name ∷ []) (names_of (first ++ p ∷ later)) = within_begun named within in
        let distinct_on : AreDistinct (names_of (first ++ p ∷ later)) = subst AreDistinct (sym (names_here first p later))
        (distinct_more (names_of first) name (names_of later) distinct' (not_within named (names_of first ++ names_of later) name within_less' free)) in
        let rest = r.facts S' other sources (before ++ []) (named ++ name ∷ []) keep_on fed apart.1 within_on distinct_on in (
          front shelf keeps known keeps_is limits sources S other other line lines answer answers old.keeper mid.keeper new.keeper
              (record {
                means = mine.means S other sources keep;
                complete = mine.complete S other sources keep;
                next_other = inr (inl (inr refl, refl));
                strays = strays_step S s v name cache answer old.keeper mid.keeper step.leaves.strays;
                forms = subst (λ (T : State). KeepsForms S T (shelf old.keeper).blobs (shelf mid.keeper).blobs) (sym (same_after sources S s v name cache answer))
                    (still_forms S (shelf old.keeper).blobs (shelf mid.keeper).blobs (step.leaves.recipes S other keep));
                crash = bears_begin sources S other s v name cache answer old.keeper mid.keeper step.leaves keep;
                settles = λ done. cc;
              }) keep keep_on rest.0,
          (
            rest.1.0,
            rest.1.1 ∙ ap (λ (k : ℕ). counted_up k rest.1.0) step.gets,
            shares_begin keeps first p later rest.1.0 (AllGets sources S' lines answers) (AllGets sources S (line ∷ lines) (answer ∷ answers)) (λ n k gets others. (n, k, subst (λ (m : ℕ). Gets S line answer m) (from_none n) (gets S other keep), others, refl)) rest.1.2,
          ),
          files_then old.places.files mid.places.files new.places.files
              (KeepsOthers (line ∷ []))
              (λ y z. AreOutputs sources S' lines answers y z × AllByRecursion (HasOutput keeps z) (first ++ p ∷ later))
              (λ x z. AreOutputs sources S (line ∷ lines) (answer ∷ answers) x z × AllByRecursion (HasOutput keeps z) (first ++ later))
              (λ x y z told one more.
              let outs = all_less (HasOutput keeps z) first p later more.1 in
              ((outs.1 S other keep (x name), outputs_then sources S' (before ++ []) named line lines answers x y z apart.1 one more.0), outs.0))
              step.others rest.2,
        );
  }
    where
      p : Running K
      p = begun old.keeper s v name cache answer

      line : Line
      line = Restore s v name cache

      parts : AllByRecursion (IsOwn keeps limits) (first ++ later) × IsOwn keeps limits p
      parts = all_less (IsOwn keeps limits) first p later r.own

      mine : IsOwn keeps limits p
      mine = parts.1

      nothing_read : (o : Option Files) → AreRead o (line ∷ []) []
      nothing_read None = record { names = refl; told = tt }
      nothing_read (Some f) = record { names = refl; told = tt }

      within_begun : (named : List (List ℕ)) → AreWithin named (names_of (first ++ later)) → AreWithin (named ++ name ∷ []) (names_of (first ++ p ∷ later))
      within_begun named within =
          subst (λ (ns : List (List ℕ)). AreWithin (named ++ name ∷ []) ns) (sym (names_here first p later))
          (within_more (named ++ name ∷ []) (names_of first) name (names_of later)
          (within_named named (name ∷ []) (names_of first ++ names_of later) (subst (λ (ns : List (List ℕ)). AreWithin named ns) (names_less first later) within)) (last_named named name))

  -- ---- a restore goes on

  own_on : (p : Running K) (n : ℕ) (met : Option ℕ) → (met ≡ p.met) ⊎ (p.met ≡ None) → IsOwn keeps limits (gone_on p n met) → IsOwn keeps limits p
  own_on p n met how o = record { kind = o.kind; met = λ m is. by how m is; means = o.means; complete = o.complete }
    where
      by : (met ≡ p.met) ⊎ (p.met ≡ None) → (m : ℕ) → p.met ≡ Some m → (store_number p.answer ≡ None) ⊎ (store_number p.answer ≡ Some m)
      by (inl same) m is = o.met m (same ∙ is)
      by (inr none) m is = let e : None ≡ Some m = sym none ∙ is in cc

  owed_none : (p : Running K) → p.met ≡ None → owed p ≡ store_number p.answer
  owed_none p none = ap (λ (o : Option ℕ). option_map_or (λ n. None) o (store_number p.answer)) none

  met_owes : (o : Option ℕ) (m a b : ℕ) → (o ≡ None) ⊎ (o ≡ Some m) → RiseFrom a (m ∷ []) b → RiseFrom a (cons_option o []) b
  met_owes o m a b (inl none) rise = subst (λ (k : Option ℕ). RiseFrom a (cons_option k []) b) (sym none) (omega (arith, rise.0, rise.1))
  met_owes o m a b (inr some) rise = subst (λ (k : Option ℕ). RiseFrom a (cons_option k []) b) (sym some) rise

  owes_on : (first : List (Running K)) (p : Running K) (later : List (Running K)) (n : ℕ) (met : Option ℕ) (answers : List Answer) (a b c : ℕ) → IsOwn keeps limits (gone_on p n met)
      → ((met ≡ p.met) × (a ≤ b)) ⊎ ((p.met ≡ None) × ((m : ℕ) × (met ≡ Some m) × RiseFrom a (m ∷ []) b))
      → Owes (λ q. owed q) store_number (first ++ gone_on p n met ∷ later) answers b c → Owes (λ q. owed q) store_number (first ++ p ∷ later) answers a c
  owes_on first p later n met answers a b c own (inl same) o =
      owes_same (λ q. owed q) store_number first p (gone_on p n met) later answers a b c (ap (λ (k : Option ℕ). option_map_or (λ n. None) k (store_number p.answer)) (sym same.0)) same.1 o
  owes_on first p later n met answers a b c own (inr one) o =
      owes_counted (λ q. owed q) store_number first p (gone_on p n met) later answers a b c
      (ap (λ (k : Option ℕ). option_map_or (λ n. None) k (store_number p.answer)) one.1.1)
      (subst (λ (k : Option ℕ). RiseFrom a (cons_option k []) b) (sym (owed_none p one.0)) (met_owes (store_number p.answer) one.1.0 a b (own.met one.1.0 one.1.1) one.1.2)) o

  how_met : (p : Running K) (met : Option ℕ) (a b : ℕ) → ((met ≡ p.met) × (a ≤ b)) ⊎ ((p.met ≡ None) × ((m : ℕ) × (met ≡ Some m) × RiseFrom a (m ∷ []) b)) → (met ≡ p.met) ⊎ (p.met ≡ None)
  how_met p met a b (inl same) = inl same.0
  how_met p met a b (inr one) = inr one.0

  pub comes_on : (old mid new : Moment K) (first : List (Running K)) (p : Running K) (later : List (Running K)) (n : ℕ) (met : Option ℕ) (lines : List Line) (answers : List Answer)
      → GoesOnRestore shelf keeps known old p.met n met mid → Comes mid (first ++ gone_on p n met ∷ later) lines answers new → Comes old (first ++ p ∷ later) lines answers new
  comes_on old mid new first p later n met lines answers step r = record {
    kinds = r.kinds;
    own = all_more (IsOwn keeps limits) first p later parts.0 (own_on p n met (how_met p met _ _ step.faults) parts.1);
    store = owes_on first p later n met answers _ _ _ parts.1 step.faults r.store;
    place = owes_same (λ k. place_number k.answer) place_number first p q later answers _ _ _ refl (omega (arith, ap (λ (w : PlacesTold). w.faults) step.places)) r.place;
    read = owes_same (λ k. read_number k.answer) read_number first p q later answers _ _ _ refl (omega (arith, ap (λ (w : PlacesTold). w.read_faults) step.places)) r.read;
    write = owes_same (λ k. write_number k.answer) write_number first p q later answers _ _ _ refl (omega (arith, ap (λ (w : PlacesTold). w.write_faults) step.places)) r.write;
    changes_rise = rise_lower _ _ _ _ step.leaves.strays.later r.changes_rise;
    others = subst (λ (w : PlacesTold). OnFiles w.files new.places.files (KeepsBoth (names_of (first ++ p ∷ later)) lines)) step.places
        (subst (λ (ns : List (List ℕ)). OnFiles mid.places.files new.places.files (KeepsBoth ns lines)) names_same r.others);
    reads = r.reads;
    are_read = λ before named apart within. subst (λ (w : PlacesTold). AreRead w.files lines r.reads) step.places
        (r.are_read before named apart (subst (λ (ns : List (List ℕ)). AreWithin named ns) (sym names_same) within));
    are_there = λ before named apart within. subst (λ (w : PlacesTold). AreThere w.files lines answers) step.places
        (r.are_there before named apart (subst (λ (ns : List (List ℕ)). AreWithin named ns) (sym names_same) within));
    facts = λ S other sources before named keep fed apart within distinct.
        let rest = r.facts S other sources before named (step.leaves.keeps_on S other keep) fed apart
        (subst (λ (ns : List (List ℕ)). AreWithin named ns) (sym names_same) within) (subst AreDistinct (sym names_same) distinct) in (
          beside shelf keeps known keeps_is limits sources S other lines answers old.keeper mid.keeper new.keeper step.leaves keep rest.0,
          (
            n + rest.1.0,
            rest.1.1 ∙ ap (λ (k : ℕ). counted_up k rest.1.0) step.gets ∙ counted_up_twice (shelf old.keeper).gets n rest.1.0,
            shares_went keeps first p later n met rest.1.0 (AllGets sources S lines answers) rest.1.2,
          ),
          subst (λ (w : PlacesTold). OnFiles w.files new.places.files (λ x z. AreOutputs sources S lines answers x z × AllByRecursion (HasOutput keeps z) (first ++ p ∷ later))) step.places
              (files_more mid.places.files new.places.files _ _ (λ x z h. (h.0, let outs = all_less (HasOutput keeps z) first q later h.1 in all_more (HasOutput keeps z) first p later outs.0 outs.1)) rest.2),
        );
  }
    where
      q : Running K
      q = gone_on p n met

      parts : AllByRecursion (IsOwn keeps limits) (first ++ later) × IsOwn keeps limits q
      parts = all_less (IsOwn keeps limits) first q later r.own

      names_same : names_of (first ++ q ∷ later) ≡ names_of (first ++ p ∷ later)
      names_same = names_here first q later ∙ sym (names_here first p later)

  -- ---- a restore ends

  pub comes_ended : (old mid new : Moment K) (first : List (Running K)) (p : Running K) (later : List (Running K)) (lines : List Line) (answers : List Answer)
      → EndsRestore shelf keeps known limits old p mid → Comes mid (first ++ later) lines answers new → Comes old (first ++ p ∷ later) lines answers new
  comes_ended old mid new first p later lines answers step r = record {
    kinds = r.kinds;
    own = all_more (IsOwn keeps limits) first p later r.own step.own;
    store = owes_less (λ k. owed k) store_number first p later answers _ _ _ step.store r.store;
    place = owes_less (λ k. place_number k.answer) place_number first p later answers _ _ _ step.place r.place;
    read = owes_less (λ k. read_number k.answer) read_number first p later answers _ _ _ step.read r.read;
    write = owes_less (λ k. write_number k.answer) write_number first p later answers _ _ _ step.write r.write;
    changes_rise = rise_lower _ _ _ _ step.leaves.strays.later r.changes_rise;
    others = files_then old.places.files mid.places.files new.places.files (KeepsOthers (line_of p ∷ [])) (KeepsBoth (names_of (first ++ later)) lines) (KeepsBoth (names_of (first ++ p ∷ later)) lines)
        (λ x y z told one rest. subst (λ (ns : List (List ℕ)). KeepsBoth ns lines x z) (sym (names_here first p later))
        (both_ended (names_of first) (names_of later) p.set p.version p.name p.cache lines x y z one (subst (λ (ns : List (List ℕ)). KeepsBoth ns lines y z) (names_less first later) rest)))
        step.others r.others;
    reads = r.reads;
    are_read = λ before named apart within.
        let inside = within_ended named within in
        read_before old.places.files mid.places.files (λ n. is_one_of (p.name ∷ []) n ≡ false) lines r.reads (λ n here. source_not_given before named lines p.name n apart inside.1 here) step.others
        (r.are_read before named apart (subst (λ (ns : List (List ℕ)). AreWithin named ns) (sym (names_less first later)) inside.0));
    are_there = λ before named apart within.
        let inside = within_ended named within in
        there_before old.places.files mid.places.files (λ n. is_one_of (p.name ∷ []) n ≡ false) lines answers (λ n here. source_not_given before named lines p.name n apart inside.1 here) step.others
        (r.are_there before named apart (subst (λ (ns : List (List ℕ)). AreWithin named ns) (sym (names_less first later)) inside.0));
    facts = λ S other sources before named keep fed apart within distinct.
        let inside = within_ended named within in
        let differ = distinct_less (names_of first) p.name (names_of later) (subst AreDistinct (names_here first p later) distinct) in
        let rest = r.facts S other sources before named (step.leaves.keeps_on S other keep) fed apart
        (subst (λ (ns : List (List ℕ)). AreWithin named ns) (sym (names_less first later)) inside.0) (subst AreDistinct (sym (names_less first later)) differ.0) in (
          beside shelf keeps known keeps_is limits sources S other lines answers old.keeper mid.keeper new.keeper step.leaves keep rest.0,
          (
            rest.1.0,
            rest.1.1 ∙ ap (λ (k : ℕ). counted_up k rest.1.0) step.gets,
            shares_end keeps first p later rest.1.0 (AllGets sources S lines answers) step.got rest.1.2,
          ),
          files_then old.places.files mid.places.files new.places.files
              (λ x y. KeepsOthers (line_of p ∷ []) x y × HasOutput keeps y p)
              (λ y z. (AreOutputs sources S lines answers y z × AllByRecursion (HasOutput keeps z) (first ++ later)) × KeepsBoth (names_of (first ++ later)) lines y z)
              (λ x z. AreOutputs sources S lines answers x z × AllByRecursion (HasOutput keeps z) (first ++ p ∷ later))
              (λ x y z told one more. (
                outputs_from sources S lines answers x y z (λ n here. one.0 n (output_not_given before named lines p.name n apart inside.1 here)) more.0.0,
                all_more (HasOutput keeps z) first p later more.0.1
                    (λ T o kept was. subst (λ (now : Option (List ℕ)). IsOutput (bytes_of T p.set p.version) p.answer was now)
                    (sym (more.1 p.name (subst (λ (ns : List (List ℕ)). is_one_of ns p.name ≡ false) (sym (names_less first later)) differ.1) (given_no_output before named lines p.name apart inside.1)))
                    (one.1 T o kept was)),
              ))
              (both_files old.places.files mid.places.files (KeepsOthers (line_of p ∷ [])) (λ x y. HasOutput keeps y p) step.others step.output)
              (both_files mid.places.files new.places.files (λ y z. AreOutputs sources S lines answers y z × AllByRecursion (HasOutput keeps z) (first ++ later)) (KeepsBoth (names_of (first ++ later)) lines) rest.2 r.others),
        );
  }
    where
      within_ended : (named : List (List ℕ)) → AreWithin named (names_of (first ++ p ∷ later)) → AreWithin named (names_of first ++ names_of later) × IsTrue (is_one_of named p.name)
      within_ended named within = within_less named (names_of first) p.name (names_of later) (subst (λ (ns : List (List ℕ)). AreWithin named ns) (names_here first p later) within)

  -- ---- a part of a line that has not answered yet

  pub comes_part : (old mid new : Moment K) (P : List (Running K)) (lines : List Line) (answers : List Answer) → IsPart shelf keeps known old mid → Comes mid P lines answers new → Comes old P lines answers new
  comes_part old mid new P lines answers step r = record {
    kinds = r.kinds;
    own = r.own;
    store = owes_later (λ p. owed p) store_number P answers _ _ _ step.leaves.strays.later r.store;
    place = owes_later (λ p. place_number p.answer) place_number P answers _ _ _ step.places.place r.place;
    read = owes_later (λ p. read_number p.answer) read_number P answers _ _ _ step.places.read r.read;
    write = owes_later (λ p. write_number p.answer) write_number P answers _ _ _ step.places.write r.write;
    changes_rise = rise_lower _ _ _ _ step.leaves.strays.later r.changes_rise;
    others = files_then old.places.files mid.places.files new.places.files (λ x y. (name : List ℕ) → y name ≡ x name) (KeepsBoth (names_of P) lines) (KeepsBoth (names_of P) lines)
        (λ x y z told first rest name a b. rest name a b ∙ first name) (as_files old.places.files mid.places.files step.files) r.others;
    reads = r.reads;
    are_read = λ before named apart within. read_before old.places.files mid.places.files (λ n. Unit {0}) lines r.reads (λ n here. tt) kept (r.are_read before named apart within);
    are_there = λ before named apart within. there_before old.places.files mid.places.files (λ n. Unit {0}) lines answers (λ n here. tt) kept (r.are_there before named apart within);
    facts = λ S other sources before named keep fed apart within distinct.
        let rest = r.facts S other sources before named (step.leaves.keeps_on S other keep) fed apart within distinct in (
          beside shelf keeps known keeps_is limits sources S other lines answers old.keeper mid.keeper new.keeper step.leaves keep rest.0,
          (rest.1.0, rest.1.1 ∙ ap (λ (k : ℕ). counted_up k rest.1.0) step.gets, rest.1.2),
          files_then old.places.files mid.places.files new.places.files (λ x y. (name : List ℕ) → y name ≡ x name)
              (λ y z. AreOutputs sources S lines answers y z × AllByRecursion (HasOutput keeps z) P) (λ x z. AreOutputs sources S lines answers x z × AllByRecursion (HasOutput keeps z) P)
              (λ x y z told first more. (outputs_from sources S lines answers x y z (λ n here. first n) more.0, more.1)) (as_files old.places.files mid.places.files step.files) rest.2,
        );
  }
    where
      as_files : (a b : Option Files) → AreKept a b → OnFiles a b (λ x y. (name : List ℕ) → y name ≡ x name)
      as_files None None h = tt
      as_files None (Some y) h = h
      as_files (Some x) None h = h
      as_files (Some x) (Some y) h = h

      kept : OnFiles old.places.files mid.places.files (KeepsWhere (λ n. Unit {0}))
      kept = files_more old.places.files mid.places.files _ _ (λ x y h n u. h n) (as_files old.places.files mid.places.files step.files)
