-- What lines come to of which some have begun: whatever comes of the rest comes of the whole. Each step keeps it.
use Rattle.std.proofs.Common.{◌≡◌, ◌≢◌, ◌≤◌, ◌<◌, ◌+◌, ℕ, suc, Bool, true, false, ◌||◌, List, [], ◌∷◌, ◌++◌, map, length, drop, get_or, set, Option, refl, sym, ◌∙◌, ap, subst, arith, add-one}
use Rattle.std.specs.List.{AllByRecursion, list_any}
use Rattle.std.specs.Prelude.{◌==◌}
use Rattle.std.proofs.Math.Seq.{drop-cons, drop-length}
use Rattle.std.proofs.lemmas.List.{append-nil, get_or-set_same, get_or-set_other, length-set, map-append}
use Rattle.vault_types.specs.declared.Limits.{Limits}
use Rattle.vault_types.specs.declared.Name.{Name}
use Rattle.vault_types.specs.declared.Fault.TheVariants as fault
use Rattle.vault_types.specs.declared.Answer.{Answer}
use Rattle.vault_types.specs.declared.Answer.TheVariants.{Refused}
use Rattle.vault_types.specs.declared.Line.{Line}
use Rattle.vault_types.specs.declared.Line.TheVariants.{Restore}
use Rattle.vault_types.specs.State.{State}
use Rattle.vault_types.specs.Events.{Change}
use Rattle.vault_traits.specs.Told.{ShelfTold}
use Rattle.store_model.specs.Steps.{Moment, StepsLine}
use Rattle.store_model.specs.View.{IsKept}
use Rattle.beside_laws.specs.Running.{Past, Running, just_begun, past_on, with_answer}
use Rattle.beside_laws.specs.Steps.{BeginsRestore, GoesOnRestore, EndsRestore, IsPart}
use Rattle.beside_laws.proofs.Apart.{mid_less, mid_one}
use Rattle.beside_laws.proofs.Comes.{Comes, comes_end, comes_line, comes_begin, comes_on, comes_ended, comes_part}

abbrev pub no_answer : Answer
no_answer = Refused fault.Memory

-- with the answers that they will give, each at the place of its line
abbrev pub answered : {K : Type 0} → List Answer → List (Past K) → List (Running K)
answered final P = map (λ p. with_answer (get_or final p.place no_answer) p) P

-- whether one of them has this place
abbrev pub is_open : {K : Type 0} → List (Past K) → ℕ → Bool
is_open P j = list_any (λ p. p.place == j) P

abbrev pub AreApartPlaces : {K : Type 0} → List (Past K) → Type 0
AreApartPlaces [] = Unit {0}
AreApartPlaces (p ∷ P) = (is_open P p.place ≡ false) × AreApartPlaces P

-- the answers so far are the final ones, but at the places of those that run
abbrev pub Agree : {K : Type 0} → List Answer → List (Past K) → ℕ → List Answer → Type 0
Agree answers P i final = (j : ℕ) → j < i → is_open P j ≡ false → get_or final j no_answer ≡ get_or answers j no_answer

apart_of : (i j : ℕ) → (i == j) ≡ false → j ≢ i
apart_of i j other same = let e : true ≡ false = sym (own i) ∙ ap (λ (k : ℕ). i == k) (sym same) ∙ other in cc
  where
    own : (n : ℕ) → (n == n) ≡ true
    own n = search Rattle.std.proofs.Common.rules

not_same : (i j : ℕ) → j < i → (i == j) ≡ false
not_same i j below = grind (arith, Rattle.std.proofs.lemmas.Bool.Decides.nat_tests)

module _ {K : Type 0} where
  -- none that began before has the place of a later line
  none_open : (P : List (Past K)) (i : ℕ) → AllByRecursion (λ p. p.place < i) P → is_open P i ≡ false
  none_open [] i h = refl
  none_open (p ∷ P) i h = both (p.place == i) (is_open P i) (below p.place i h.0) (none_open P i h.1)
    where
      both : (a b : Bool) → a ≡ false → b ≡ false → (a || b) ≡ false
      both true b e k = e
      both false b e k = k

      below : (a b : ℕ) → a < b → (a == b) ≡ false
      below a b less = grind (arith, Rattle.std.proofs.lemmas.Bool.Decides.nat_tests)

  all_more_of : (P Q : Past K → Type 0) → ((p : Past K) → P p → Q p) → (ps : List (Past K)) → AllByRecursion P ps → AllByRecursion Q ps
  all_more_of P Q wider [] h = tt
  all_more_of P Q wider (p ∷ ps) h = (wider p h.0, all_more_of P Q wider ps h.1)

  open_less : (A : List (Past K)) (p : Past K) (B : List (Past K)) (j : ℕ) → is_open (A ++ B) j ≡ false → (p.place == j) ≡ false → is_open (A ++ p ∷ B) j ≡ false
  open_less A p B j none other = Rattle.beside_laws.proofs.Apart.mid_more (λ q. q.place == j) A p B none other

  apart_less : (A : List (Past K)) (p : Past K) (B : List (Past K)) → AreApartPlaces (A ++ p ∷ B) → AreApartPlaces (A ++ B) × (is_open (A ++ B) p.place ≡ false)
  apart_less [] p B h = (h.1, h.0)
  apart_less (a ∷ A) p B h =
      let rest = apart_less A p B h.1 in
      ((mid_less (λ q. q.place == a.place) A p B h.0, rest.0), both (a.place == p.place) (is_open (A ++ B) p.place) (swap p.place a.place (mid_one (λ q. q.place == a.place) A p B h.0)) rest.1)
    where
      both : (a b : Bool) → a ≡ false → b ≡ false → (a || b) ≡ false
      both true b e k = e
      both false b e k = k

      swap : (a b : ℕ) → (a == b) ≡ false → (b == a) ≡ false
      swap a b other = grind (arith, Rattle.std.proofs.lemmas.Bool.Decides.nat_tests)

  apart_push : (P : List (Past K)) (p : Past K) → AreApartPlaces P → AllByRecursion (λ q. q.place < p.place) P → AreApartPlaces (P ++ p ∷ [])
  apart_push [] p h low = (refl, tt)
  apart_push (a ∷ P) p h low = (open_less P p [] a.place (subst (λ (ps : List (Past K)). is_open ps a.place ≡ false) (sym (append-nil P)) h.0) (not_same p.place a.place low.0), apart_push P p h.1 low.1)

  same_places : (A : List (Past K)) (p : Past K) (n : ℕ) (met : Option ℕ) (B : List (Past K)) (j : ℕ) → is_open (A ++ past_on p n met ∷ B) j ≡ is_open (A ++ p ∷ B) j
  same_places [] p n met B j = refl
  same_places (a ∷ A) p n met B j = ap (λ (b : Bool). (a.place == j) || b) (same_places A p n met B j)

  apart_on : (A : List (Past K)) (p : Past K) (n : ℕ) (met : Option ℕ) (B : List (Past K)) → AreApartPlaces (A ++ p ∷ B) → AreApartPlaces (A ++ past_on p n met ∷ B)
  apart_on [] p n met B h = h
  apart_on (a ∷ A) p n met B h = (same_places A p n met B a.place ∙ h.0, apart_on A p n met B h.1)

  low_on : (A : List (Past K)) (p : Past K) (n : ℕ) (met : Option ℕ) (B : List (Past K)) (i : ℕ) → AllByRecursion (λ q. q.place < i) (A ++ p ∷ B) → AllByRecursion (λ q. q.place < i) (A ++ past_on p n met ∷ B)
  low_on [] p n met B i h = h
  low_on (a ∷ A) p n met B i h = (h.0, low_on A p n met B i h.1)

  low_less : (A : List (Past K)) (p : Past K) (B : List (Past K)) (i : ℕ) → AllByRecursion (λ q. q.place < i) (A ++ p ∷ B) → AllByRecursion (λ q. q.place < i) (A ++ B) × (p.place < i)
  low_less [] p B i h = (h.1, h.0)
  low_less (a ∷ A) p B i h = let rest = low_less A p B i h.1 in ((h.0, rest.0), rest.1)

  low_push : (P : List (Past K)) (p : Past K) (i : ℕ) → p.place ≡ i → AllByRecursion (λ q. q.place < i) P → AllByRecursion (λ q. q.place < i + 1) (P ++ p ∷ [])
  low_push [] p i is h = (omega (arith, is), tt)
  low_push (a ∷ P) p i is h = (omega (arith, h.0), low_push P p i is h.1)

module _ {K : Type 0} (shelf : K → ShelfTold) (keeps : K → State → Option Change → Type 0) (known : K → Name → Type 0) (keeps_is : (k : K) (S : State) (other : Option Change) → keeps k S other → IsKept (shelf k) S other) (limits : Limits) (lines : List Line) (start : Moment K) where
  -- i lines have begun, of which these restores run, and the answers so far are these
  pub record Onward (i : ℕ) (answers : List Answer) (P : List (Past K)) (now : Moment K) : Type 0 where
    pub within : i ≤ length lines
    pub long : length answers ≡ length lines
    pub low : AllByRecursion (λ p. p.place < i) P
    pub apart : AreApartPlaces P
    -- whatever comes of the rest from now on comes of the whole from the start, with the final answers
    pub rest : (final : List Answer) (end : Moment K) → length final ≡ length lines → Agree answers P i final
        → Comes shelf keeps known keeps_is limits now (answered final P) (drop i lines) (drop i final) end → Comes shelf keeps known keeps_is limits start [] lines final end

  pub onward_begins : (answers : List Answer) → length answers ≡ length lines → Onward 0 answers [] start
  onward_begins answers long = record { within = omega arith; long = long; low = tt; apart = tt; rest = λ final end len agree comes. comes }

  drop_here : {X : Type 0} (xs : List X) (i : ℕ) (x d : X) → i < length xs → x ≡ get_or xs i d → drop i xs ≡ x ∷ drop (i + 1) xs
  drop_here {X} xs i x d below is = drop-cons xs i d below ∙ ap (λ (y : X). y ∷ drop (suc i) xs) (sym is) ∙ ap (λ (k : ℕ). x ∷ drop k xs) (sym (add-one i))

  -- ---- a line at once

  pub onward_line : (i : ℕ) (answers : List Answer) (P : List (Past K)) (now mid : Moment K) (line : Line) (answer : Answer) → i < length lines → line ≡ get_or lines i line → StepsLine shelf keeps known limits now line answer mid
      → Onward i answers P now → Onward (i + 1) (set answers i answer) P mid
  onward_line i answers P now mid line answer below is step u = record {
    within = omega (arith, below);
    long = length-set answers i answer ∙ u.long;
    low = all_more_of (λ p. p.place < i) (λ p. p.place < i + 1) (λ p low. omega (arith, low)) P u.low;
    apart = u.apart;
    rest = λ final end len agree comes.
        let here : answer ≡ get_or final i no_answer = sym (agree i (omega arith) (none_open P i u.low) ∙ get_or-set_same answers i answer no_answer (omega (arith, below, u.long))) in
        u.rest final end len
        (λ j less none. agree j (omega (arith, less)) none ∙ get_or-set_other answers i j answer no_answer (λ same. omega (arith, same, less)))
        (subst (λ (ls : List Line). Comes shelf keeps known keeps_is limits now (answered final P) ls (drop i final) end) (sym (drop_here lines i line line below is))
        (subst (λ (xs : List Answer). Comes shelf keeps known keeps_is limits now (answered final P) (line ∷ drop (i + 1) lines) xs end) (sym (drop_here final i answer no_answer (omega (arith, below, len)) here))
        (comes_line shelf keeps known keeps_is limits now mid end (answered final P) line (drop (i + 1) lines) answer (drop (i + 1) final) step comes)));
  }

  -- ---- a restore begins

  pub onward_begin : (i : ℕ) (answers : List Answer) (P : List (Past K)) (now mid : Moment K) (s v : ℕ) (name : List ℕ) (cache : ℕ) → i < length lines → Restore s v name cache ≡ get_or lines i (Restore s v name cache)
      → BeginsRestore shelf keeps known now (Restore s v name cache) mid → Onward i answers P now → Onward (i + 1) answers (P ++ just_begun now.keeper s v name cache i ∷ []) mid
  onward_begin i answers P now mid s v name cache below is step u = record {
    within = omega (arith, below);
    long = u.long;
    low = low_push P q i refl u.low;
    apart = apart_push P q u.apart u.low;
    rest = λ final end len agree comes.
        let answer : Answer = get_or final i no_answer in
        u.rest final end len
        (λ j less none. agree j (omega (arith, less)) (open_less P q [] j (subst (λ (ps : List (Past K)). is_open ps j ≡ false) (sym (append-nil P)) none) (not_same i j less)))
        (subst (λ (ls : List Line). Comes shelf keeps known keeps_is limits now (answered final P) ls (drop i final) end) (sym (drop_here lines i (Restore s v name cache) (Restore s v name cache) below is))
        (subst (λ (xs : List Answer). Comes shelf keeps known keeps_is limits now (answered final P) (Restore s v name cache ∷ drop (i + 1) lines) xs end) (sym (drop_here final i answer no_answer (omega (arith, below, len)) refl))
        (subst (λ (ps : List (Running K)). Comes shelf keeps known keeps_is limits now ps (Restore s v name cache ∷ drop (i + 1) lines) (answer ∷ drop (i + 1) final) end) (append-nil (answered final P))
        (comes_begin shelf keeps known keeps_is limits now mid end (answered final P) [] s v name cache answer (drop (i + 1) lines) (drop (i + 1) final) step
        (subst (λ (ps : List (Running K)). Comes shelf keeps known keeps_is limits mid ps (drop (i + 1) lines) (drop (i + 1) final) end) (map-append (λ (p : Past K). with_answer (get_or final p.place no_answer) p) P (q ∷ [])) comes)))));
  }
    where
      q : Past K
      q = just_begun now.keeper s v name cache i

  -- ---- one goes on

  answered_at : (final : List Answer) (first : List (Past K)) (p : Past K) (later : List (Past K)) → answered final (first ++ p ∷ later) ≡ answered final first ++ with_answer (get_or final p.place no_answer) p ∷ answered final later
  answered_at final first p later = map-append (λ (q : Past K). with_answer (get_or final q.place no_answer) q) first (p ∷ later)

  pub onward_on : (i : ℕ) (answers : List Answer) (first : List (Past K)) (p : Past K) (later : List (Past K)) (now mid : Moment K) (n : ℕ) (met : Option ℕ)
      → GoesOnRestore shelf keeps known now p.met n met mid → Onward i answers (first ++ p ∷ later) now → Onward i answers (first ++ past_on p n met ∷ later) mid
  onward_on i answers first p later now mid n met step u = record {
    within = u.within;
    long = u.long;
    low = low_on first p n met later i u.low;
    apart = apart_on first p n met later u.apart;
    rest = λ final end len agree comes. u.rest final end len (λ j less none. agree j less (same_places first p n met later j ∙ none))
        (subst (λ (ps : List (Running K)). Comes shelf keeps known keeps_is limits now ps (drop i lines) (drop i final) end) (sym (answered_at final first p later))
        (comes_on shelf keeps known keeps_is limits now mid end (answered final first) (with_answer (get_or final p.place no_answer) p) (answered final later) n met (drop i lines) (drop i final) step
        (subst (λ (ps : List (Running K)). Comes shelf keeps known keeps_is limits mid ps (drop i lines) (drop i final) end) (answered_at final first (past_on p n met) later) comes)));
  }

  -- ---- one ends

  pub onward_ended : (i : ℕ) (answers : List Answer) (first : List (Past K)) (p : Past K) (later : List (Past K)) (now mid : Moment K) (answer : Answer)
      → EndsRestore shelf keeps known limits now (with_answer answer p) mid → Onward i answers (first ++ p ∷ later) now → Onward i (set answers p.place answer) (first ++ later) mid
  onward_ended i answers first p later now mid answer step u = record {
    within = u.within;
    long = length-set answers p.place answer ∙ u.long;
    low = lows.0;
    apart = aparts.0;
    rest = λ final end len agree comes.
        let here : answer ≡ get_or final p.place no_answer = sym (agree p.place lows.1 aparts.1 ∙ get_or-set_same answers p.place answer no_answer (omega (arith, lows.1, u.within, u.long))) in
        u.rest final end len
        (λ j less none. agree j less (mid_less (λ q. q.place == j) first p later none) ∙ get_or-set_other answers p.place j answer no_answer (apart_of p.place j (mid_one (λ q. q.place == j) first p later none)))
        (subst (λ (ps : List (Running K)). Comes shelf keeps known keeps_is limits now ps (drop i lines) (drop i final) end) (sym (answered_at final first p later))
        (subst (λ (a : Answer). Comes shelf keeps known keeps_is limits now (answered final first ++ with_answer a p ∷ answered final later) (drop i lines) (drop i final) end) here
        (comes_ended shelf keeps known keeps_is limits now mid end (answered final first) (with_answer answer p) (answered final later) (drop i lines) (drop i final) step
        (subst (λ (ps : List (Running K)). Comes shelf keeps known keeps_is limits mid ps (drop i lines) (drop i final) end) (map-append (λ (q : Past K). with_answer (get_or final q.place no_answer) q) first later) comes))));
  }
    where
      lows : AllByRecursion (λ q. q.place < i) (first ++ later) × (p.place < i)
      lows = low_less first p later i u.low

      aparts : AreApartPlaces (first ++ later) × (is_open (first ++ later) p.place ≡ false)
      aparts = apart_less first p later u.apart

  -- ---- a part of the next line

  pub onward_part : (i : ℕ) (answers : List Answer) (P : List (Past K)) (now mid : Moment K) → IsPart shelf keeps known now mid → Onward i answers P now → Onward i answers P mid
  onward_part i answers P now mid step u = record {
    within = u.within;
    long = u.long;
    low = u.low;
    apart = u.apart;
    rest = λ final end len agree comes. u.rest final end len agree (comes_part shelf keeps known keeps_is limits now mid end (answered final P) (drop i lines) (drop i final) step comes);
  }

  -- ---- the end

  pub onward_ends : (i : ℕ) (answers : List Answer) (now : Moment K) → i ≡ length lines → Onward i answers [] now → Comes shelf keeps known keeps_is limits start [] lines answers now
  onward_ends i answers now all u =
      let no_lines : drop i lines ≡ [] = ap (λ (k : ℕ). drop k lines) all ∙ drop-length lines in
      let no_answers : drop i answers ≡ [] = ap (λ (k : ℕ). drop k answers) (all ∙ sym u.long) ∙ drop-length answers in
      u.rest answers now u.long (λ j less none. refl)
      (subst (λ (ls : List Line). Comes shelf keeps known keeps_is limits now [] ls (drop i answers) now) (sym no_lines)
      (subst (λ (xs : List Answer). Comes shelf keeps known keeps_is limits now [] [] xs now) (sym no_answers)
      (comes_end shelf keeps known keeps_is limits now)))
