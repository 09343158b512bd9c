-- What is noted of recipes.
use Rattle.std.proofs.Common.{◌≡◌, ◌⊎◌, inl, inr, ⊎_elim, ℕ, zero, suc, ◌+◌, ◌<◌, ◌≤◌, Bool, true, false, cond, ◌&&◌, ◌||◌, List, [], ◌∷◌, ◌++◌, map, length, take, get_or, Option, Some, None, refl, sym, ap, subst, ◌∙◌, arith}
use Rattle.std.specs.Prelude.{Contains, IsSome, IfSome, is_some, nat_eq}
use Rattle.std.specs.List.{AllByRecursion, IsDistinct}
use Rattle.std.specs.Map.{lookup, keys_of, values_of}
use Rattle.std.proofs.lemmas.Bool.Decides.{nat_tests}
use Rattle.std.proofs.lemmas.List.{append_assoc, append-nil, map-append, take_more}
use Rattle.std.proofs.lemmas.List.Folds.{list_any-append}
use Rattle.std.proofs.lemmas.List.Elements.{Contains-append_left, Contains-append_cases, Contains-push, Contains-push_cases}
use Rattle.std.proofs.lemmas.List.Concat.{flat_map-append}
use Rattle.std.specs.BTreeSet.{insert_key}
use Rattle.std.specs.Ordering.{nat_cmp}
use Rattle.vault_types.specs.declared.Row.{Row}
use Rattle.vault_types.specs.declared.TableRow.{TableRow}
use Rattle.vault_types.specs.declared.Recipe.{Recipe}
use Rattle.vault_types.specs.Lists.{has, with_number, set_of}
use Rattle.vault_types.specs.Names.{same_fp}
use Rattle.vault_types.specs.Marks.{Mark, marks_of}
use Rattle.vault_types.proofs.FillLemmas.{same_fps, bytes_eq-same}
use Rattle.vault_types.proofs.SetLemmas.{has-set_of, has-with_number, IsAscending-with_number, IsAscending-set_of, ascending_unique}
use Rattle.keeper_catalog.proofs.Ids.{insert_is}
use Rattle.keeper_open.specs.declared.notes.Chunk.{Chunk}
use Rattle.keeper_open.specs.declared.notes.RowPlace.{RowPlace}
use Rattle.keeper_open.specs.Reading.{rows_of_all, marks_in, chunk_of_row, same_chunk, placed_rows, number_of, placed, IsNotAfter, IsLesserOf, AreFirst, ArePlacesBefore, AreBelow, has_chunk, left_of}

-- elements

pub cons_cases : {X : Type 0} (x y : X) (xs : List X) → Contains (x ∷ xs) y → (x ≡ y) ⊎ Contains xs y
cons_cases x y xs there = at there.0 there.1 there.2
  where
    at : (k : ℕ) → k < suc (length xs) → get_or (x ∷ xs) k y ≡ y → (x ≡ y) ⊎ Contains xs y
    at zero below is = inl is
    at (suc k) below is = inr (k, omega arith, is)

pub first_in : {X : Type 0} (x : X) (xs : List X) → Contains (x ∷ xs) x
first_in x xs = (0, omega arith, refl)

pub later_in : {X : Type 0} (x y : X) (xs : List X) → Contains xs y → Contains (x ∷ xs) y
later_in x y xs there = (suc there.0, omega (arith, there.1), there.2)

pub none_in : {X : Type 0} (x : X) → Contains [] x → ⊥
none_in x there = omega (arith, there.1)

-- chunks

both : (a b : Bool) → (a && b) ≡ true → (a ≡ true) × (b ≡ true)
both true b h = (refl, h)
both false b h = absurd cc

pub same_chunks : (a b : Chunk) → same_chunk a b ≡ true → a ≡ b
same_chunks a b h =
    let one = both (same_fp a.fp b.fp) (nat_eq a.id b.id && nat_eq a.len b.len) h in
    let two = both (nat_eq a.id b.id) (nat_eq a.len b.len) one.1 in
    let fps : a.fp ≡ b.fp = same_fps a.fp b.fp one.0 in
    let ids : a.id ≡ b.id = grind (arith, nat_tests, two.0) in
    let lens : a.len ≡ b.len = grind (arith, nat_tests, two.1) in
    λ i. record { fp = fps i; id = ids i; len = lens i }

self_eq : (n : ℕ) → nat_eq n n ≡ true
self_eq n = grind (arith, nat_tests)

pub chunk_self : (a : Chunk) → same_chunk a a ≡ true
chunk_self a = ap (λ b. b && (nat_eq a.id a.id && nat_eq a.len a.len)) (bytes_eq-same a.fp.0) ∙ ap (λ b. b && nat_eq a.len a.len) (self_eq a.id) ∙ self_eq a.len

-- the first places

abbrev Places : Type 0
Places = List (Chunk × RowPlace)

abbrev Entries : Type 0
Entries = List (Chunk × RowPlace)

pub nothing_first : AreFirst [] []
nothing_first = record { sound = λ k p is. absurd (let clash : ◌≡◌ {A = Option RowPlace} None (Some p) = is in cc); first = λ k p there. absurd (none_in (k, p) there) }

not_after_itself : (p : RowPlace) → IsNotAfter p p
not_after_itself p = inr (refl, omega arith)

-- a chunk that has a place keeps it
pub kept_first : (es : Entries) (before : Places) (k : Chunk) (p : RowPlace) → AreFirst es before → ArePlacesBefore before p → IsSome (lookup (same_chunk k) es) → AreFirst es (before ++ (k, p) ∷ [])
kept_first es before k p was below there = record {
  sound = λ j q is. Contains-append_left before ((k, p) ∷ []) (j, q) (was.sound j q is);
  first = λ j q at. ⊎_elim
      (λ old. was.first j q old)
      (λ new. by_found (lookup (same_chunk k) es) refl there j q new)
      (Contains-push_cases before (k, p) (j, q) at);
}
  where
    by_found : (o : Option RowPlace) → lookup (same_chunk k) es ≡ o → IsSome o → (j : Chunk) (q : RowPlace) → ◌≡◌ {A = Chunk × RowPlace} (k, p) (j, q) → (r : RowPlace) × (lookup (same_chunk j) es ≡ Some r) × IsNotAfter r q
    by_found None is none j q new = absurd (let clash : false ≡ true = none in cc)
    by_found (Some r) is some j q new =
        (r, ap (λ (e : Chunk × RowPlace). lookup (same_chunk e.0) es) (sym new) ∙ is, subst (λ (e : Chunk × RowPlace). IsNotAfter r e.1) new (below (k, r) (was.sound k r is)))

-- one that has none is given one
pub new_first : (es fs : Entries) (before : Places) (k : Chunk) (p : RowPlace) → AreFirst es before → lookup (same_chunk k) es ≡ None
    → ((j : Chunk) → lookup (same_chunk j) fs ≡ cond (same_chunk k j) (Some p) (lookup (same_chunk j) es)) → AreFirst fs (before ++ (k, p) ∷ [])
new_first es fs before k p was none update = record {
  sound = λ j q is. by_sound j q (same_chunk k j) refl (sym (update j) ∙ is);
  first = λ j q at. ⊎_elim
      (λ old. by_first j q old (same_chunk k j) refl)
      (λ new. (p, subst (λ (e : Chunk × RowPlace). lookup (same_chunk e.0) fs ≡ Some p) new (update k ∙ ap (λ b. cond b (Some p) (lookup (same_chunk k) es)) (chunk_self k)), subst (λ (e : Chunk × RowPlace). IsNotAfter p e.1) new (not_after_itself p)))
      (Contains-push_cases before (k, p) (j, q) at);
}
  where
    by_sound : (j : Chunk) (q : RowPlace) (b : Bool) → same_chunk k j ≡ b → cond b (Some p) (lookup (same_chunk j) es) ≡ Some q → Contains (before ++ (k, p) ∷ []) (j, q)
    by_sound j q true t is =
        let places : p ≡ q = cc in
        subst (λ (e : Chunk × RowPlace). Contains (before ++ (k, p) ∷ []) e) (λ i. (same_chunks k j t i, places i)) (Contains-push before (k, p))
    by_sound j q false t is = Contains-append_left before ((k, p) ∷ []) (j, q) (was.sound j q is)

    by_first : (j : Chunk) (q : RowPlace) → Contains before (j, q) → (b : Bool) → same_chunk k j ≡ b → (r : RowPlace) × (lookup (same_chunk j) fs ≡ Some r) × IsNotAfter r q
    by_first j q old true t =
        let found = was.first j q old in
        let clash : ◌≡◌ {A = Option RowPlace} None (Some found.0) = sym none ∙ ap (λ (c : Chunk). lookup (same_chunk c) es) (same_chunks k j t) ∙ found.1 in
        absurd cc
    by_first j q old false t =
        let found = was.first j q old in
        (found.0, update j ∙ ap (λ b. cond b (Some p) (lookup (same_chunk j) es)) t ∙ found.1, found.2)

-- places of rows

pub placed_more : (number i : ℕ) (rows : List Row) (r : Row) → placed_rows number i (rows ++ r ∷ []) ≡ placed_rows number i rows ++ (chunk_of_row r, record { number = number; row = i + length rows }) ∷ []
placed_more number i [] r = ap (λ (j : ℕ). (chunk_of_row r, record { number = number; row = j }) ∷ []) (let e : i ≡ i + 0 = omega arith in e)
placed_more number i (q ∷ rows) r =
    ap (λ (es : Places). (chunk_of_row q, record { number = number; row = i }) ∷ es)
    (placed_more number (i + 1) rows r ∙ ap (λ (j : ℕ). placed_rows number (i + 1) rows ++ (chunk_of_row r, record { number = number; row = j }) ∷ []) (let e : i + 1 + length rows ≡ i + suc (length rows) = omega arith in e))

pub placed_in : (number i : ℕ) (rows : List Row) (e : Chunk × RowPlace) → Contains (placed_rows number i rows) e → (e.1.number ≡ number) × (e.1.row < i + length rows)
placed_in number i [] e there = absurd (none_in e there)
placed_in number i (r ∷ rows) e there = ⊎_elim
    (λ here. (ap (λ (f : Chunk × RowPlace). f.1.number) (sym here), let row : e.1.row ≡ i = ap (λ (f : Chunk × RowPlace). f.1.row) (sym here) in omega (arith, row)))
    (λ later. let found = placed_in number (i + 1) rows e later in (found.0, omega (arith, found.1)))
    (cons_cases (chunk_of_row r, record { number = number; row = i }) e (placed_rows number (i + 1) rows) there)

later_row : (p : RowPlace) (number i j : ℕ) → i ≤ j → IsNotAfter p (record { number = number; row = i }) → IsNotAfter p (record { number = number; row = j })
later_row p number i j up = ⊎_elim (λ low. inl low) (λ same. inr (same.0, omega (arith, same.1, up)))

pub before_more : (before : Places) (number i : ℕ) (rows : List Row) → length rows ≤ i → ArePlacesBefore before (record { number = number; row = 0 }) → ArePlacesBefore (before ++ placed_rows number 0 rows) (record { number = number; row = i })
before_more before number i rows short below e there = ⊎_elim
    (λ old. later_row e.1 number 0 i (omega arith) (below e old))
    (λ new. let found = placed_in number 0 rows e new in inr (found.0, omega (arith, found.1, short)))
    (Contains-append_cases before (placed_rows number 0 rows) e there)

length_taken : (rows : List Row) (i : ℕ) → i ≤ length rows → length (take i rows) ≡ i
length_taken rows zero up = refl
length_taken [] (suc i) up = absurd (omega arith)
length_taken (r ∷ rows) (suc i) up = omega (arith, length_taken rows i (omega arith))

pub rows_more : (before : Places) (number : ℕ) (rows : List Row) (i : ℕ) (d : Row) → i < length rows
    → (before ++ placed_rows number 0 (take i rows)) ++ (chunk_of_row (get_or rows i d), record { number = number; row = i }) ∷ [] ≡ before ++ placed_rows number 0 (take (i + 1) rows)
rows_more before number rows i d below =
    append_assoc before (placed_rows number 0 (take i rows)) ((chunk_of_row (get_or rows i d), record { number = number; row = i }) ∷ [])
    ∙ ap (λ (es : Places). before ++ es)
    (ap (λ (j : ℕ). placed_rows number 0 (take i rows) ++ (chunk_of_row (get_or rows i d), record { number = number; row = j }) ∷ []) (let e : i ≡ 0 + length (take i rows) = omega (arith, length_taken rows i (omega arith)) in e)
    ∙ sym (placed_more number 0 (take i rows) (get_or rows i d))
    ∙ ap (λ (l : List Row). placed_rows number 0 l) (sym (take_more rows i d below)))

-- one more row is noted
pub row_noted : (es : Entries) (before : Places) (number : ℕ) (rows : List Row) (i : ℕ) (d : Row) (chunk : Chunk) (place : RowPlace) (fs : Entries) → i < length rows → chunk ≡ chunk_of_row (get_or rows i d) → place ≡ record { number = number; row = i }
    → ((ps : Places) → AreFirst es ps → ArePlacesBefore ps place → AreFirst fs (ps ++ (chunk, place) ∷ []))
    → ArePlacesBefore before (record { number = number; row = 0 }) → AreFirst es (before ++ placed_rows number 0 (take i rows)) → AreFirst fs (before ++ placed_rows number 0 (take (i + 1) rows))
row_noted es before number rows i d chunk place fs below is_chunk is_place step old was =
    subst (λ (ps : Places). AreFirst fs ps) (ap (λ (c : Chunk). (before ++ placed_rows number 0 (take i rows)) ++ (c, place) ∷ []) is_chunk ∙ ap (λ (p : RowPlace). (before ++ placed_rows number 0 (take i rows)) ++ (chunk_of_row (get_or rows i d), p) ∷ []) is_place ∙ rows_more before number rows i d below)
    (step (before ++ placed_rows number 0 (take i rows)) was (subst (λ (p : RowPlace). ArePlacesBefore (before ++ placed_rows number 0 (take i rows)) p) (sym is_place) (before_more before number i (take i rows) (omega (arith, length_taken rows i (omega arith))) old)))

-- recipes

pub placed_of : (rs : List Recipe) (e : Chunk × RowPlace) → Contains (placed rs) e → (r : Recipe) × Contains rs r × (e.1.number ≡ number_of r)
placed_of [] e there = absurd (none_in e there)
placed_of (r ∷ rs) e there = ⊎_elim
    (λ here. (r, first_in r rs, (placed_in (number_of r) 0 r.rows e here).0))
    (λ later. let found = placed_of rs e later in (found.0, later_in r found.0 rs found.1, found.2))
    (Contains-append_cases (placed_rows (number_of r) 0 r.rows) (placed rs) e there)

pub all_before : (rs : List Recipe) (number : ℕ) → AreBelow rs number → ArePlacesBefore (placed rs) (record { number = number; row = 0 })
all_before rs number below e there =
    let found = placed_of rs e there in
    let low = below found.0 found.1 in
    inl (subst (λ (n : ℕ). n < number) (sym found.2) low)

pub placed_recipe : (rs : List Recipe) (r : Recipe) → placed (rs ++ r ∷ []) ≡ placed rs ++ placed_rows (number_of r) 0 r.rows
placed_recipe rs r = flat_map-append (λ (q : Recipe). placed_rows (number_of q) 0 q.rows) rs (r ∷ []) ∙ ap (λ (es : Places). placed rs ++ es) (append-nil (placed_rows (number_of r) 0 r.rows))

pub marks_recipe : (rs : List Recipe) (r : Recipe) → marks_in (rs ++ r ∷ []) ≡ marks_in rs ++ marks_of r.set r.version (set_of (map (λ q. q.id) r.rows))
marks_recipe rs r = flat_map-append (λ (r : Recipe). marks_of r.set r.version (set_of (map (λ q. q.id) r.rows))) rs (r ∷ []) ∙ ap (λ (ms : List Mark). marks_in rs ++ ms) (append-nil (marks_of r.set r.version (set_of (map (λ q. q.id) r.rows))))

-- ids

or_comm : (a b : Bool) → (a || (b || false)) ≡ (b || a)
or_comm true true = refl
or_comm true false = refl
or_comm false true = refl
or_comm false false = refl

pub set_more : (ns : List ℕ) (n : ℕ) → with_number n (set_of ns) ≡ set_of (ns ++ n ∷ [])
set_more ns n = ascending_unique (with_number n (set_of ns)) (set_of (ns ++ n ∷ [])) (IsAscending-with_number n (set_of ns) (IsAscending-set_of ns)) (IsAscending-set_of (ns ++ n ∷ []))
    (λ k. has-with_number k n (set_of ns) ∙ ap (λ b. nat_eq k n || b) (has-set_of k ns) ∙ sym (has-set_of k (ns ++ n ∷ []) ∙ list_any-append (nat_eq k) ns (n ∷ []) ∙ or_comm (has k ns) (nat_eq k n)))

pub ids_more : (keys news before ids : List ℕ) (i d : ℕ) → i < length ids → news ≡ insert_key nat_cmp keys (get_or ids i d) → keys ≡ set_of (before ++ take i ids) → news ≡ set_of (before ++ take (i + 1) ids)
ids_more keys news before ids i d below is was =
    is ∙ insert_is (get_or ids i d) keys ∙ ap (λ (l : List ℕ). with_number (get_or ids i d) l) was ∙ set_more (before ++ take i ids) (get_or ids i d)
    ∙ ap set_of (append_assoc before (take i ids) (get_or ids i d ∷ []) ∙ ap (λ (l : List ℕ). before ++ l) (sym (take_more ids i d below)))

pub ids_recipe : (rs : List Recipe) (r : Recipe) → set_of (map (λ q. q.id) (rows_of_all rs) ++ set_of (map (λ q. q.id) r.rows)) ≡ set_of (map (λ q. q.id) (rows_of_all (rs ++ r ∷ [])))
ids_recipe rs r = ascending_unique _ _ (IsAscending-set_of (map (λ q. q.id) (rows_of_all rs) ++ set_of (map (λ q. q.id) r.rows))) (IsAscending-set_of (map (λ q. q.id) (rows_of_all (rs ++ r ∷ []))))
    (λ k.
    has-set_of k (map (λ q. q.id) (rows_of_all rs) ++ set_of (map (λ q. q.id) r.rows))
    ∙ list_any-append (nat_eq k) (map (λ q. q.id) (rows_of_all rs)) (set_of (map (λ q. q.id) r.rows))
    ∙ ap (λ b. has k (map (λ q. q.id) (rows_of_all rs)) || b) (has-set_of k (map (λ q. q.id) r.rows))
    ∙ sym (has-set_of k (map (λ q. q.id) (rows_of_all (rs ++ r ∷ [])))
    ∙ ap (λ (l : List Row). has k (map (λ q. q.id) l)) (flat_map-append (λ (q : Recipe). q.rows) rs (r ∷ []) ∙ ap (λ (l : List Row). rows_of_all rs ++ l) (append-nil r.rows))
    ∙ ap (has k) (map-append (λ (q : Row). q.id) (rows_of_all rs) r.rows)
    ∙ list_any-append (nat_eq k) (map (λ q. q.id) (rows_of_all rs)) (map (λ q. q.id) r.rows)))

-- chunks that tables have

left_twice : (a b : Bool) (o : Option RowPlace) → left_of b (left_of a o) ≡ left_of (a || (b || false)) o
left_twice true true o = refl
left_twice true false o = refl
left_twice false true o = refl
left_twice false false o = refl

pub struck_more : (es fs gs : Entries) (id : ℕ) (rows : List TableRow) (i : ℕ) (d : TableRow) → i < length rows
    → ((k : Chunk) → lookup (same_chunk k) fs ≡ left_of (has_chunk id (take i rows) k) (lookup (same_chunk k) es))
    → ((k : Chunk) → lookup (same_chunk k) gs ≡ cond (same_chunk (record { fp = (get_or rows i d).fp; id = id; len = (get_or rows i d).len }) k) None (lookup (same_chunk k) fs))
    → (k : Chunk) → lookup (same_chunk k) gs ≡ left_of (has_chunk id (take (i + 1) rows) k) (lookup (same_chunk k) es)
struck_more es fs gs id rows i d below was update k =
    let test : TableRow → Bool = λ (r : TableRow). same_chunk (record { fp = r.fp; id = id; len = r.len }) k in
    update k ∙ ap (left_of (test (get_or rows i d))) (was k)
    ∙ left_twice (has_chunk id (take i rows) k) (test (get_or rows i d)) (lookup (same_chunk k) es)
    ∙ ap (λ b. left_of b (lookup (same_chunk k) es)) (sym (ap (λ (l : List TableRow). has_chunk id l k) (take_more rows i d below) ∙ list_any-append test (take i rows) (get_or rows i d ∷ [])))

-- the least place

abbrev pub IsLeastOf : Option RowPlace → List RowPlace → Type 0
IsLeastOf None places = places ≡ []
IsLeastOf (Some p) places = Contains places p × ((q : RowPlace) → Contains places q → IsNotAfter p q)

pub not_after_trans : (p q r : RowPlace) → IsNotAfter p q → IsNotAfter q r → IsNotAfter p r
not_after_trans p q r a b = ⊎_elim
    (λ low. ⊎_elim (λ next. inl (omega (arith, low, next))) (λ same. inl (omega (arith, low, same.0))) b)
    (λ here. ⊎_elim (λ next. inl (omega (arith, here.0, next))) (λ same. inr (here.0 ∙ same.0, omega (arith, here.1, same.1))) b)
    a

pub least_more : (o : Option RowPlace) (places : List RowPlace) (p q : RowPlace) → IsLeastOf o places → IsLesserOf o p q → IsLeastOf (Some q) (places ++ p ∷ [])
least_more None places p q none is = (
  subst (λ (r : RowPlace). Contains (places ++ p ∷ []) r) (sym is) (Contains-push places p),
  λ r there. ⊎_elim
      (λ old. absurd (none_in r (subst (λ (l : List RowPlace). Contains l r) none old)))
      (λ new. subst (λ (s : RowPlace). IsNotAfter q s) (is ∙ new) (not_after_itself q))
      (Contains-push_cases places p r there),
)
least_more (Some a) places p q least is = (
  ⊎_elim
      (λ first. Contains-append_left places (p ∷ []) q (subst (λ (r : RowPlace). Contains places r) (sym first) least.0))
      (λ second. subst (λ (r : RowPlace). Contains (places ++ p ∷ []) r) (sym second) (Contains-push places p))
      is.0,
  λ r there. ⊎_elim
      (λ old. not_after_trans q a r is.1 (least.1 r old))
      (λ new. subst (λ (s : RowPlace). IsNotAfter q s) new is.2)
      (Contains-push_cases places p r there),
)

value_in : (es : Entries) (k : Chunk) (p : RowPlace) → lookup (same_chunk k) es ≡ Some p → Contains (values_of es) p
value_in [] k p is = absurd (let clash : ◌≡◌ {A = Option RowPlace} None (Some p) = is in cc)
value_in (e ∷ es) k p is = by_test (value_in es k p) (same_chunk k e.0) is
  where
    by_test : (lookup (same_chunk k) es ≡ Some p → Contains (values_of es) p) → (b : Bool) → cond b (Some e.1) (lookup (same_chunk k) es) ≡ Some p → Contains (values_of (e ∷ es)) p
    by_test rest true h = let same : e.1 ≡ p = cc in subst (λ (q : RowPlace). Contains (values_of (e ∷ es)) q) same (first_in e.1 (values_of es))
    by_test rest false h = later_in e.1 p (values_of es) (rest h)

pub none_left : (es : Entries) → values_of es ≡ [] → (k : Chunk) → lookup (same_chunk k) es ≡ None
none_left es none k = by_found (lookup (same_chunk k) es) refl
  where
    by_found : (o : Option RowPlace) → lookup (same_chunk k) es ≡ o → o ≡ None
    by_found None is = refl
    by_found (Some p) is = absurd (none_in p (subst (λ (l : List RowPlace). Contains l p) none (value_in es k p is)))

pub least_of_all : (es : Entries) (p : RowPlace) → IsLeastOf (Some p) (values_of es) → (k : Chunk) (q : RowPlace) → lookup (same_chunk k) es ≡ Some q → IsNotAfter p q
least_of_all es p least k q is = least.1 q (value_in es k q is)

-- a value of a map with distinct keys is what some key finds
pub value_found : (es : Entries) (p : RowPlace) → IsDistinct same_chunk (keys_of es) → Contains (values_of es) p → (k : Chunk) × (lookup (same_chunk k) es ≡ Some p)
unfolding IsDistinct
value_found [] p distinct there = absurd (none_in p there)
value_found (e ∷ es) p distinct there = ⊎_elim
    (λ here. (e.0, ap (λ b. cond b (Some e.1) (lookup (same_chunk e.0) es)) (chunk_self e.0) ∙ ap (λ (q : RowPlace). Some q) here))
    (λ later. behind (value_found es p distinct.1 later))
    (cons_cases e.1 p (values_of es) there)
  where
    at_key : (es : Entries) (k : Chunk) (q : RowPlace) → lookup (same_chunk k) es ≡ Some q → AllByRecursion (λ c. same_chunk e.0 c ≡ false) (keys_of es) → same_chunk e.0 k ≡ false
    at_key [] k q is all = absurd (let clash : ◌≡◌ {A = Option RowPlace} None (Some q) = is in cc)
    at_key (f ∷ fs) k q is all = by_key (at_key fs k q) (same_chunk k f.0) refl is
      where
        by_key : (lookup (same_chunk k) fs ≡ Some q → AllByRecursion (λ c. same_chunk e.0 c ≡ false) (keys_of fs) → same_chunk e.0 k ≡ false) → (b : Bool) → same_chunk k f.0 ≡ b → cond b (Some f.1) (lookup (same_chunk k) fs) ≡ Some q → same_chunk e.0 k ≡ false
        by_key rest true t h = ap (same_chunk e.0) (same_chunks k f.0 t) ∙ all.0
        by_key rest false t h = rest h all.1

    flipped : (k : Chunk) → same_chunk e.0 k ≡ false → same_chunk k e.0 ≡ false
    flipped k apart = by_flip (same_chunk k e.0) refl
      where
        by_flip : (b : Bool) → same_chunk k e.0 ≡ b → b ≡ false
        by_flip true t = absurd (let clash : true ≡ false = sym (chunk_self e.0) ∙ ap (same_chunk e.0) (sym (same_chunks k e.0 t)) ∙ apart in cc)
        by_flip false t = refl

    behind : (k : Chunk) × (lookup (same_chunk k) es ≡ Some p) → (k : Chunk) × (lookup (same_chunk k) (e ∷ es) ≡ Some p)
    behind found = (found.0, ap (λ b. cond b (Some e.1) (lookup (same_chunk found.0) es)) (flipped found.0 (at_key es found.0 p found.1 distinct.0)) ∙ found.1)

pub end_some : (o : Option RowPlace) (es : Entries) → IsLeastOf o (values_of es) → IsDistinct same_chunk (keys_of es) → IfSome o (λ p. (k : Chunk) × (lookup (same_chunk k) es ≡ Some p))
end_some None es least distinct = tt
end_some (Some p) es least distinct = value_found es p distinct least.0

pub end_least : (o : Option RowPlace) (es : Entries) → IsLeastOf o (values_of es) → IfSome o (λ p. (k : Chunk) (q : RowPlace) → lookup (same_chunk k) es ≡ Some q → IsNotAfter p q)
end_least None es least = tt
end_least (Some p) es least = least_of_all es p least

pub whole_least : (o : Option RowPlace) (done left all : List RowPlace) → done ++ left ≡ all → left ≡ [] → IsLeastOf o done → IsLeastOf o all
whole_least o done left all is none = subst (λ (l : List RowPlace). IsLeastOf o l) (sym (append-nil done) ∙ ap (λ (l : List RowPlace). done ++ l) (sym none) ∙ is)

pub is_absent : (b : Bool) (o : Option RowPlace) → b ≡ is_some o → b ≡ false → o ≡ None
is_absent b None e f = refl
is_absent b (Some p) e f = absurd (let clash : true ≡ false = sym e ∙ f in cc)

pub is_present : (b : Bool) (o : Option RowPlace) → b ≡ is_some o → b ≡ true → IsSome o
is_present b o e f = sym e ∙ f
