-- What one row more changes.
use Rattle.std.proofs.Common.{◌≡◌, ℕ, ◌+◌, ◌*◌, ◌≤◌, Bool, true, false, cond, not, ◌&&◌, ◌||◌, List, [], ◌∷◌, ◌++◌, filter, length, refl, sym, ap, ◌∙◌, arith, append-nil, Option, Some, None, unwrap_or, is_some}
use Rattle.std.specs.Prelude.{nat_eq, sum_by, ◌==◌}
use Rattle.std.specs.List.{list_any, AllByRecursion}
use Rattle.std.specs.Map.{lookup}
use Rattle.std.proofs.lemmas.Bool.Decides.{nat_tests}
use Rattle.std.proofs.lemmas.List.{map-append}
use Rattle.std.proofs.lemmas.List.Folds.{list_any-append}
use Rattle.std.proofs.lemmas.List.Sums.{sum_by-append, sum_by-cons}
use Rattle.vault_types.specs.declared.Fp.{Fp}
use Rattle.vault_types.specs.declared.Row.{Row}
use Rattle.vault_types.specs.Lists.{has, distinct_by}
use Rattle.vault_types.specs.Names.{same_fp}
use Rattle.vault_types.specs.Sparse.{referenced}
use Rattle.vault_types.proofs.FillLemmas.{same_fps}
use Rattle.har_monitor.specs.Monitor.{Counted, HasSeen, ids_of, refers}
use Rattle.har_monitor.specs.Used.{IsAdded}

-- the distinct elements with one more

filter-append : {X : Type 0} (p : X → Bool) (xs ys : List X) → filter p (xs ++ ys) ≡ filter p xs ++ filter p ys
filter-append p [] ys = refl
filter-append p (x ∷ xs) ys = step (p x) (filter-append p xs ys)
  where
    step : (b : Bool) → filter p (xs ++ ys) ≡ filter p xs ++ filter p ys → cond b (x ∷ filter p (xs ++ ys)) (filter p (xs ++ ys)) ≡ cond b (x ∷ filter p xs) (filter p xs) ++ filter p ys
    step true h = ap (λ zs. x ∷ zs) h
    step false h = h

abbrev unless : {X : Type 0} → Bool → X → List X
unless true x = []
unless false x = x ∷ []

distinct_by-push : {X : Type 0} (same : X → X → Bool) (xs : List X) (x : X) → distinct_by same (xs ++ x ∷ []) ≡ distinct_by same xs ++ unless (list_any (λ y. same y x) xs) x
distinct_by-push same [] x = refl
distinct_by-push {X} same (y ∷ ys) x =
    ap (λ zs. y ∷ filter (λ z. not (same y z)) zs) (distinct_by-push same ys x)
    ∙ ap (λ zs. y ∷ zs) (filter-append (λ z. not (same y z)) (distinct_by same ys) (unless (list_any (λ z. same z x) ys) x)
    ∙ ap (λ zs. filter (λ z. not (same y z)) (distinct_by same ys) ++ zs) (step (same y x) refl (list_any (λ z. same z x) ys)))
  where
    one : (b : Bool) → same y x ≡ b → filter (λ z. not (same y z)) (x ∷ []) ≡ unless b x
    one true e = ap (λ b. cond (not b) (x ∷ []) []) e
    one false e = ap (λ b. cond (not b) (x ∷ []) []) e

    step : (b : Bool) → same y x ≡ b → (c : Bool) → filter (λ z. not (same y z)) (unless c x) ≡ unless (same y x || c) x
    step true e true = sym (ap (λ b. unless (b || true) x) e)
    step true e false = one true e ∙ sym (ap (λ b. unless (b || false) x) e)
    step false e true = sym (ap (λ b. unless (b || true) x) e)
    step false e false = one false e ∙ sym (ap (λ b. unless (b || false) x) e)

-- rows of one container

any-filter : (f : Fp) (c : ℕ) (rows : List Row) → list_any (λ q. same_fp q.fp f) (filter (λ q. q.id == c) rows) ≡ refers rows f c
any-filter f c [] = refl
any-filter f c (r ∷ rows) = step (r.id == c) (any-filter f c rows)
  where
    and_true : (b : Bool) → b ≡ (b && true)
    and_true true = refl
    and_true false = refl

    and_false : (b : Bool) → (b && false) ≡ false
    and_false true = refl
    and_false false = refl

    step : (b : Bool) → list_any (λ q. same_fp q.fp f) (filter (λ q. q.id == c) rows) ≡ refers rows f c
        → list_any (λ q. same_fp q.fp f) (cond b (r ∷ filter (λ q. q.id == c) rows) (filter (λ q. q.id == c) rows)) ≡ ((same_fp r.fp f && b) || refers rows f c)
    step true h = ap (λ b. b || list_any (λ q. same_fp q.fp f) (filter (λ q. q.id == c) rows)) (and_true (same_fp r.fp f)) ∙ ap (λ b. (same_fp r.fp f && true) || b) h
    step false h = h ∙ sym (ap (λ b. b || refers rows f c) (and_false (same_fp r.fp f)))

-- the bytes that one row more adds in a container
abbrev pub more_of : List Row → Row → ℕ → ℕ
more_of seen r c = cond (r.id == c) (cond (refers seen r.fp c) 0 r.len) 0

pub referenced-push : (seen : List Row) (r : Row) (c : ℕ) → referenced (seen ++ r ∷ []) c ≡ referenced seen c + more_of seen r c
referenced-push seen r c =
    ap (λ rows. sum_by (λ q. q.len) (distinct_by (λ q p. same_fp q.fp p.fp) rows)) (filter-append (λ q. q.id == c) seen (r ∷ []))
    ∙ step (r.id == c)
  where
    rows : List Row
    rows = filter (λ q. q.id == c) seen

    sums : (xs : List Row) (b : Bool) → sum_by (λ (q : Row). q.len) (xs ++ unless b r) ≡ sum_by (λ (q : Row). q.len) xs + cond b 0 r.len
    sums xs true = ap (sum_by (λ (q : Row). q.len)) (append-nil xs) ∙ omega arith
    sums xs false =
        let e : sum_by (λ (q : Row). q.len) (xs ++ r ∷ []) ≡ sum_by (λ (q : Row). q.len) xs + sum_by (λ (q : Row). q.len) (r ∷ []) = sum_by-append (λ (q : Row). q.len) xs (r ∷ []) in
        let f : sum_by (λ (q : Row). q.len) (r ∷ []) ≡ r.len + sum_by (λ (q : Row). q.len) [] = sum_by-cons (λ (q : Row). q.len) r [] in
        omega arith

    step : (b : Bool) → sum_by (λ q. q.len) (distinct_by (λ q p. same_fp q.fp p.fp) (filter (λ q. q.id == c) seen ++ cond b (r ∷ []) [])) ≡ referenced seen c + cond b (cond (refers seen r.fp c) 0 r.len) 0
    step true =
        ap (sum_by (λ (q : Row). q.len)) (distinct_by-push (λ q p. same_fp q.fp p.fp) (filter (λ q. q.id == c) seen) r)
        ∙ sums (distinct_by (λ q p. same_fp q.fp p.fp) (filter (λ q. q.id == c) seen)) (list_any (λ q. same_fp q.fp r.fp) (filter (λ q. q.id == c) seen))
        ∙ ap (λ b. referenced seen c + cond {A = ℕ} b 0 r.len) (any-filter r.fp c seen)
    step false = ap (λ rows. sum_by (λ (q : Row). q.len) (distinct_by (λ q p. same_fp q.fp p.fp) rows)) (append-nil (filter (λ q. q.id == c) seen)) ∙ omega arith

-- a container that no row names

no_rows : (c : ℕ) (rows : List Row) → has c (ids_of rows) ≡ false → filter (λ r. r.id == c) rows ≡ []
no_rows c [] e = refl
no_rows c (r ∷ rows) e = step (nat_eq c r.id) refl e (λ f. no_rows c rows f)
  where
    step : (b : Bool) → nat_eq c r.id ≡ b → (b || has c (ids_of rows)) ≡ false → (has c (ids_of rows) ≡ false → filter (λ r. r.id == c) rows ≡ []) → filter (λ r. r.id == c) (r ∷ rows) ≡ []
    step true t f i = cc
    step false t f i = let other : (r.id == c) ≡ false = grind (arith, nat_tests) in ap (λ b. cond b (r ∷ filter (λ r. r.id == c) rows) (filter (λ r. r.id == c) rows)) other ∙ i f

pub referenced-none : (c : ℕ) (rows : List Row) → has c (ids_of rows) ≡ false → referenced rows c ≡ 0
referenced-none c rows e = ap (λ rs. sum_by (λ (r : Row). r.len) (distinct_by (λ q p. same_fp q.fp p.fp) rs)) (no_rows c rows e)

refers-named : (f : Fp) (c : ℕ) (rows : List Row) → refers rows f c ≡ true → has c (ids_of rows) ≡ true
refers-named f c [] e = cc
refers-named f c (r ∷ rows) e = step (nat_eq c r.id) refl e (λ g. refers-named f c rows g)
  where
    and_false : (b : Bool) → (b && false) ≡ false
    and_false true = refl
    and_false false = refl

    step : (b : Bool) → nat_eq c r.id ≡ b → ((same_fp r.fp f && (r.id == c)) || refers rows f c) ≡ true → (refers rows f c ≡ true → has c (ids_of rows) ≡ true) → (b || has c (ids_of rows)) ≡ true
    step true t g i = refl
    step false t g i =
        let other : (r.id == c) ≡ false = grind (arith, nat_tests) in
        i (sym (ap (λ b. (same_fp r.fp f && b) || refers rows f c) other ∙ ap (λ b. b || refers rows f c) (and_false (same_fp r.fp f))) ∙ g)

-- bounds

abbrev AreShort : List Row → Type 0
AreShort rows = AllByRecursion (λ r. r.len ≤ 65536) rows

short-filter : (p : Row → Bool) (rows : List Row) → AreShort rows → AreShort (filter p rows)
short-filter p [] h = tt
short-filter p (r ∷ rows) h = step (p r) (short-filter p rows h.1)
  where
    step : (b : Bool) → AreShort (filter p rows) → AreShort (cond b (r ∷ filter p rows) (filter p rows))
    step true i = (h.0, i)
    step false i = i

short-distinct : (same : Row → Row → Bool) (rows : List Row) → AreShort rows → AreShort (distinct_by same rows)
short-distinct same [] h = tt
short-distinct same (r ∷ rows) h = (h.0, short-filter (λ q. not (same r q)) (distinct_by same rows) (short-distinct same rows h.1))

filter-short : {X : Type 0} (p : X → Bool) (xs : List X) → length (filter p xs) ≤ length xs
filter-short p [] = omega arith
filter-short p (x ∷ xs) = step (p x) (filter-short p xs)
  where
    step : (b : Bool) → length (filter p xs) ≤ length xs → length (cond b (x ∷ filter p xs) (filter p xs)) ≤ length (x ∷ xs)
    step true h = omega arith
    step false h = omega arith

distinct-short : (same : Row → Row → Bool) (rows : List Row) → length (distinct_by same rows) ≤ length rows
distinct-short same [] = omega arith
distinct-short same (r ∷ rows) =
    let a : length (filter (λ q. not (same r q)) (distinct_by same rows)) ≤ length (distinct_by same rows) = filter-short (λ q. not (same r q)) (distinct_by same rows) in
    let b : length (distinct_by same rows) ≤ length rows = distinct-short same rows in
    omega arith

pub sum-short : (rows : List Row) → AreShort rows → sum_by (λ r. r.len) rows ≤ 65536 * length rows
sum-short [] h = omega arith
sum-short (r ∷ rows) h =
    let e : sum_by (λ (q : Row). q.len) (r ∷ rows) ≡ r.len + sum_by (λ (q : Row). q.len) rows = sum_by-cons (λ (q : Row). q.len) r rows in
    let i : sum_by (λ (q : Row). q.len) rows ≤ 65536 * length rows = sum-short rows h.1 in
    let l : r.len ≤ 65536 = h.0 in
    omega arith

pub referenced-short : (rows : List Row) (c : ℕ) → AreShort rows → referenced rows c ≤ 65536 * length rows
referenced-short rows c h =
    let mine : List Row = filter (λ r. r.id == c) rows in
    let ds : List Row = distinct_by (λ q p. same_fp q.fp p.fp) mine in
    let a : sum_by (λ (r : Row). r.len) ds ≤ 65536 * length ds = sum-short ds (short-distinct (λ q p. same_fp q.fp p.fp) mine (short-filter (λ r. r.id == c) rows h)) in
    let b : length ds ≤ length mine = distinct-short (λ q p. same_fp q.fp p.fp) mine in
    let d : length mine ≤ length rows = filter-short (λ r. r.id == c) rows in
    omega arith

short-push : (rows : List Row) (r : Row) → AreShort rows → r.len ≤ 65536 → AreShort (rows ++ r ∷ [])
short-push [] r h l = (l, tt)
short-push (q ∷ rows) r h l = (h.0, short-push rows r h.1 l)

length-push : {X : Type 0} (xs : List X) (x : X) → length (xs ++ x ∷ []) ≡ length xs + 1
length-push [] x = omega arith
length-push (y ∷ xs) x = let h : length (xs ++ x ∷ []) ≡ length xs + 1 = length-push xs x in omega arith

-- one row more

ids-push : (seen : List Row) (r : Row) → ids_of (seen ++ r ∷ []) ≡ ids_of seen ++ r.id ∷ []
ids-push seen r = map-append (λ (q : Row). q.id) seen (r ∷ [])

any-flip : (n : ℕ) (ns : List ℕ) → list_any (λ m. nat_eq m n) ns ≡ has n ns
any-flip n [] = refl
any-flip n (m ∷ ms) = let e : nat_eq m n ≡ nat_eq n m = grind (arith, nat_tests) in ap (λ b. b || list_any (λ k. nat_eq k n) ms) e ∙ ap (λ b. nat_eq n m || b) (any-flip n ms)

has-push : (c : ℕ) (seen : List Row) (r : Row) → has c (ids_of (seen ++ r ∷ [])) ≡ (has c (ids_of seen) || (nat_eq c r.id || false))
has-push c seen r = ap (has c) (ids-push seen r) ∙ list_any-append (nat_eq c) (ids_of seen) (r.id ∷ [])

refers-push : (seen : List Row) (r : Row) (f : Fp) (c : ℕ) → refers (seen ++ r ∷ []) f c ≡ (refers seen f c || ((same_fp r.fp f && (r.id == c)) || false))
refers-push seen r f c = list_any-append (λ q. same_fp q.fp f && (q.id == c)) seen (r ∷ [])

total-push : (seen : List Row) (r : Row) → sum_by (λ q. q.len) (seen ++ r ∷ []) ≡ sum_by (λ q. q.len) seen + r.len
total-push seen r =
    let e : sum_by (λ (q : Row). q.len) (seen ++ r ∷ []) ≡ sum_by (λ (q : Row). q.len) seen + sum_by (λ (q : Row). q.len) (r ∷ []) = sum_by-append (λ (q : Row). q.len) seen (r ∷ []) in
    let f : sum_by (λ (q : Row). q.len) (r ∷ []) ≡ r.len + sum_by (λ (q : Row). q.len) [] = sum_by-cons (λ (q : Row). q.len) r [] in
    omega arith

abbrev sum_in : List Row → ℕ → Option ℕ
sum_in seen c = cond (has c (ids_of seen)) (Some (referenced seen c)) None

sum-found : (seen : List Row) (c : ℕ) → unwrap_or (sum_in seen c) 0 ≡ referenced seen c
sum-found seen c = step (has c (ids_of seen)) refl
  where
    step : (b : Bool) → has c (ids_of seen) ≡ b → unwrap_or (cond b (Some (referenced seen c)) None) 0 ≡ referenced seen c
    step true e = refl
    step false e = sym (referenced-none c seen e)

pub found-sum : (m : Counted) (seen : List Row) (c : ℕ) → HasSeen m seen → unwrap_or (lookup (nat_eq c) m.sums) 0 ≡ referenced seen c
found-sum m seen c h = ap (λ o. unwrap_or o 0) (h.sums c) ∙ sum-found seen c

is_some-sum : (seen : List Row) (c : ℕ) → is_some (sum_in seen c) ≡ has c (ids_of seen)
is_some-sum seen c = step (has c (ids_of seen))
  where
    step : (b : Bool) → is_some (cond b (Some (referenced seen c)) None) ≡ b
    step true = refl
    step false = refl

distinct-ids-push : (seen : List Row) (r : Row) → distinct_by nat_eq (ids_of (seen ++ r ∷ [])) ≡ distinct_by nat_eq (ids_of seen) ++ unless (has r.id (ids_of seen)) r.id
distinct-ids-push seen r =
    ap (distinct_by nat_eq) (ids-push seen r) ∙ distinct_by-push nat_eq (ids_of seen) r.id
    ∙ ap (λ b. distinct_by nat_eq (ids_of seen) ++ unless b r.id) (any-flip r.id (ids_of seen))

or_last : (a : Bool) → (a || (true || false)) ≡ true
or_last true = refl
or_last false = refl

or_nothing : (a : Bool) → (a || (false || false)) ≡ a
or_nothing true = refl
or_nothing false = refl

-- a row whose fingerprint was counted in its container
pub seen-again : (m n : Counted) (seen : List Row) (r : Row) → HasSeen m seen → r.len ≤ 65536 → refers seen r.fp r.id ≡ true
    → n.rows ≡ m.rows + 1 → n.total ≡ m.total + r.len → n.ids ≡ m.ids → n.pairs ≡ m.pairs → n.sums ≡ m.sums → HasSeen n (seen ++ r ∷ [])
seen-again m n seen r h l e rows total ids pairs sums = record {
  lens = short-push seen r h.lens l;
  rows = rows ∙ ap (λ k. k + 1) h.rows ∙ sym (length-push seen r);
  total = total ∙ ap (λ k. k + r.len) h.total ∙ sym (total-push seen r);
  ids = ids ∙ h.ids ∙ sym (distinct-ids-push seen r ∙ ap (λ b. distinct_by nat_eq (ids_of seen) ++ unless b r.id) named ∙ append-nil (distinct_by nat_eq (ids_of seen)));
  pairs = λ f c. ap (list_any (λ p. same_fp f p.0 && nat_eq c p.1)) pairs ∙ h.pairs f c ∙ sym (refers-push seen r f c ∙ same f c);
  sums = λ c. ap (lookup (nat_eq c)) sums ∙ h.sums c ∙ sym (ap (λ b. cond b (Some (referenced (seen ++ r ∷ []) c)) None) (still c) ∙ ap (λ k. cond (has c (ids_of seen)) (Some k) None) (nothing c));
}
  where
    named : has r.id (ids_of seen) ≡ true
    named = refers-named r.fp r.id seen e

    same : (f : Fp) (c : ℕ) → (refers seen f c || ((same_fp r.fp f && (r.id == c)) || false)) ≡ refers seen f c
    same f c = step (same_fp r.fp f) (r.id == c) refl refl
      where
        step : (a b : Bool) → same_fp r.fp f ≡ a → (r.id == c) ≡ b → (refers seen f c || ((a && b) || false)) ≡ refers seen f c
        step true true t u =
            let fps : r.fp ≡ f = same_fps r.fp f t in
            let ids : r.id ≡ c = grind (arith, nat_tests) in
            let there : refers seen f c ≡ true = sym (ap (λ g. refers seen g c) fps) ∙ sym (ap (refers seen r.fp) ids) ∙ e in
            ap (λ b. b || (true || false)) there ∙ sym there
        step true false t u = or_nothing (refers seen f c)
        step false b t u = or_nothing (refers seen f c)

    still : (c : ℕ) → has c (ids_of (seen ++ r ∷ [])) ≡ has c (ids_of seen)
    still c = has-push c seen r ∙ step (nat_eq c r.id) refl
      where
        step : (b : Bool) → nat_eq c r.id ≡ b → (has c (ids_of seen) || (b || false)) ≡ has c (ids_of seen)
        step true t = let ids : c ≡ r.id = grind (arith, nat_tests) in or_last (has c (ids_of seen)) ∙ sym (ap (λ k. has k (ids_of seen)) ids ∙ named)
        step false t = or_nothing (has c (ids_of seen))

    nothing : (c : ℕ) → referenced (seen ++ r ∷ []) c ≡ referenced seen c
    nothing c =
        let zero_more : more_of seen r c ≡ 0 = step (r.id == c) refl in
        referenced-push seen r c ∙ ap (λ k. referenced seen c + k) zero_more ∙ omega arith
      where
        step : (b : Bool) → (r.id == c) ≡ b → cond {A = ℕ} b (cond (refers seen r.fp c) 0 r.len) 0 ≡ 0
        step true t = let ids : r.id ≡ c = grind (arith, nat_tests) in ap (λ b. cond {A = ℕ} b 0 r.len) (sym (ap (refers seen r.fp) ids) ∙ e)
        step false t = refl

-- a row whose fingerprint is new in its container
pub seen-new : (m n : Counted) (seen : List Row) (r : Row) → HasSeen m seen → r.len ≤ 65536 → refers seen r.fp r.id ≡ false
    → n.rows ≡ m.rows + 1 → n.total ≡ m.total + r.len
    → n.ids ≡ cond (is_some (lookup (nat_eq r.id) m.sums)) m.ids (m.ids ++ r.id ∷ [])
    → ((f : Fp) (c : ℕ) → list_any (λ p. same_fp f p.0 && nat_eq c p.1) n.pairs ≡ cond (same_fp r.fp f && (r.id == c)) true (list_any (λ p. same_fp f p.0 && nat_eq c p.1) m.pairs))
    → IsAdded m.sums n.sums r.id (unwrap_or (lookup (nat_eq r.id) m.sums) 0 + r.len) → HasSeen n (seen ++ r ∷ [])
seen-new m n seen r h l e rows total ids pairs sums = record {
  lens = short-push seen r h.lens l;
  rows = rows ∙ ap (λ k. k + 1) h.rows ∙ sym (length-push seen r);
  total = total ∙ ap (λ k. k + r.len) h.total ∙ sym (total-push seen r);
  ids = ids ∙ ap (λ b. cond b m.ids (m.ids ++ r.id ∷ [])) (ap is_some (h.sums r.id) ∙ is_some-sum seen r.id) ∙ listed (has r.id (ids_of seen)) ∙ sym (distinct-ids-push seen r);
  pairs = λ f c. pairs f c ∙ ap (λ b. cond (same_fp r.fp f && (r.id == c)) true b) (h.pairs f c) ∙ flip (refers seen f c) (same_fp r.fp f && (r.id == c)) ∙ sym (refers-push seen r f c);
  sums = λ c. sums c ∙ each c (nat_eq r.id c) refl;
}
  where
    flip : (a b : Bool) → cond b true a ≡ (a || (b || false))
    flip true true = refl
    flip true false = refl
    flip false true = refl
    flip false false = refl

    listed : (b : Bool) → cond b m.ids (m.ids ++ r.id ∷ []) ≡ distinct_by nat_eq (ids_of seen) ++ unless b r.id
    listed true = h.ids ∙ sym (append-nil (distinct_by nat_eq (ids_of seen)))
    listed false = ap (λ ns. ns ++ r.id ∷ []) h.ids

    sum : unwrap_or (lookup (nat_eq r.id) m.sums) 0 + r.len ≡ referenced (seen ++ r ∷ []) r.id
    sum =
        let self : (r.id == r.id) ≡ true = grind (arith, nat_tests) in
        let all : more_of seen r r.id ≡ r.len = ap (λ b. cond {A = ℕ} b (cond (refers seen r.fp r.id) 0 r.len) 0) self ∙ ap (λ b. cond {A = ℕ} b 0 r.len) e in
        ap (λ k. k + r.len) (found-sum m seen r.id h) ∙ sym (referenced-push seen r r.id ∙ ap (λ k. referenced seen r.id + k) all)

    each : (c : ℕ) (b : Bool) → nat_eq r.id c ≡ b → cond b (Some (unwrap_or (lookup (nat_eq r.id) m.sums) 0 + r.len)) (lookup (nat_eq c) m.sums) ≡ sum_in (seen ++ r ∷ []) c
    each c true t =
        let same : r.id ≡ c = grind (arith, nat_tests) in
        let t' : nat_eq c r.id ≡ true = grind (arith, nat_tests) in
        let there : has c (ids_of (seen ++ r ∷ [])) ≡ true = has-push c seen r ∙ ap (λ b. has c (ids_of seen) || (b || false)) t' ∙ or_last (has c (ids_of seen)) in
        ap Some (sum ∙ ap (referenced (seen ++ r ∷ [])) same) ∙ sym (ap (λ b. cond b (Some (referenced (seen ++ r ∷ []) c)) None) there)
    each c false t =
        let t' : nat_eq c r.id ≡ false = grind (arith, nat_tests) in
        let u : (r.id == c) ≡ false = t in
        let there : has c (ids_of (seen ++ r ∷ [])) ≡ has c (ids_of seen) = has-push c seen r ∙ ap (λ b. has c (ids_of seen) || (b || false)) t' ∙ or_nothing (has c (ids_of seen)) in
        let none : more_of seen r c ≡ 0 = ap (λ b. cond {A = ℕ} b (cond (refers seen r.fp c) 0 r.len) 0) u in
        let kept : referenced (seen ++ r ∷ []) c ≡ referenced seen c = referenced-push seen r c ∙ ap (λ k. referenced seen c + k) none ∙ omega arith in
        h.sums c ∙ sym (ap (λ b. cond b (Some (referenced (seen ++ r ∷ []) c)) None) there ∙ ap (λ k. cond (has c (ids_of seen)) (Some k) None) kept)

pub not_true : (b : Bool) → not b ≡ true → b ≡ false
not_true true e = cc
not_true false e = refl

pub not_false : (b : Bool) → not b ≡ false → b ≡ true
not_false true e = refl
not_false false e = cc
