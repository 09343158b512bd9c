-- Each kind of step of a stop word keeps its rule.
use Rattle.std.proofs.Common.{◌≡◌, ◌≢◌, ◌⊎◌, inl, inr, ⊎_elim, ℕ, zero, suc, ◌+◌, ◌-◌, ◌<◌, ◌≤◌, Bool, true, false, true≢false, ◌||◌, ◌==◌, List, [], ◌∷◌, ◌++◌, set, slice_index, sym, refl, ap, ◌∙◌, subst, arith, add-one}
use mathlib.Core.Option.{some, some-injective, some-ne-none}
use mathlib.Core.Logic.{dite}
use native.Mathlib.Decide.{ℕ_discrete}
use lib.ListN.{get_elem?}
use Rattle.std.proofs.lemmas.Bool.Decides.{nat_tests}
use Rattle.atomic_table.specs.Table.{Me, keeps, Allows, Splits, Joins, opening}
use Rattle.atomic_table.proofs.Lists.{at_set, at_snoc, at_longer, set_else}
use Rattle.stop_word.specs.declared.rule.View.{View}
use Rattle.stop_word.specs.Holders.{Family, HolderState, fresh}
use Rattle.stop_word.specs.Word.{IsConsistent, FitsWord, SomeMark, total, seen_as}

-- the view that is set stands there
set_at : (l : List View) (i : ℕ) (v w : View) → get_elem? l i ≡ some v → get_elem? (set l i w) i ≡ some w
set_at [] i v w e = absurd (some-ne-none v (sym e))
set_at (x ∷ xs) zero v w e = refl
set_at (x ∷ xs) (suc i) v w e = set_at xs i v w e

total-set : (views : List View) (port : ℕ) (v w : View) → get_elem? views port ≡ some v → total (set views port w) + v.parts ≡ total views + w.parts
total-set [] port v w e = absurd (some-ne-none v (sym e))
total-set (x ∷ xs) zero v w e = let same = ap (λ (y : View). y.parts) (some-injective x v e) in omega (arith, same)
total-set (x ∷ xs) (suc port) v w e = omega (arith, total-set xs port v w e)

total-snoc : (views : List View) (w : View) → total (views ++ w ∷ []) ≡ total views + w.parts
total-snoc [] w = omega arith
total-snoc (x ∷ xs) w = omega (arith, total-snoc xs w)

total-one : (views : List View) (port : ℕ) (v : View) → get_elem? views port ≡ some v → v.parts ≤ total views
total-one [] port v e = absurd (some-ne-none v (sym e))
total-one (x ∷ xs) zero v e = let same = ap (λ (y : View). y.parts) (some-injective x v e) in omega (arith, same)
total-one (x ∷ xs) (suc port) v e = omega (arith, total-one xs port v e)

total-two : (views : List View) (i j : ℕ) (v w : View) → i ≢ j → get_elem? views i ≡ some v → get_elem? views j ≡ some w → v.parts + w.parts ≤ total views
total-two [] i j v w n a b = absurd (some-ne-none v (sym a))
total-two (x ∷ xs) zero zero v w n a b = absurd (n refl)
total-two (x ∷ xs) zero (suc j) v w n a b = let same = ap (λ (y : View). y.parts) (some-injective x v a) in omega (arith, same, total-one xs j w b)
total-two (x ∷ xs) (suc i) zero v w n a b = let same = ap (λ (y : View). y.parts) (some-injective x w b) in omega (arith, same, total-one xs i v a)
total-two (x ∷ xs) (suc i) (suc j) v w n a b = omega (arith, total-two xs i j v w (λ e. n (ap suc e)) a b)

-- a mark that some view has stays where the views change at a place, and the new view there keeps the mark of the old one
keep_mark : (views : List View) (port : ℕ) (v w : View) → get_elem? views port ≡ some v → (v.raised ≡ true → w.raised ≡ true) → SomeMark views → SomeMark (set views port w)
keep_mark views port v w at more m = dite (ℕ_discrete m.0 port)
    (λ here. let same : v ≡ m.1 = some-injective v m.1 (sym at ∙ ap (λ i. get_elem? views i) (sym here) ∙ m.2) in (port, w, set_at views port v w at, more (ap (λ (y : View). y.raised) same ∙ m.3)))
    (λ there. (m.0, m.1, set_else views port m.0 w there ∙ m.2, m.3))

or_true : (a b : Bool) → a || b ≡ true → (a ≡ true) ⊎ (b ≡ true)
or_true true b e = inl refl
or_true false b e = inr e

or_left : (a b : Bool) → a ≡ true → a || b ≡ true
or_left true b e = refl
or_left false b e = absurd (true≢false (sym e))

or_right : (a b : Bool) → b ≡ true → a || b ≡ true
or_right true b e = refl
or_right false b e = e

same_bool : (a b : Bool) → (a ≡ true → b ≡ true) → (b ≡ true → a ≡ true) → a ≡ b
same_bool true b f g = sym (f refl)
same_bool false true f g = absurd (true≢false (sym (g refl)))
same_bool false false f g = refl

is_one : (n : ℕ) → (n == 1) ≡ true → n ≡ 1
is_one n e = grind (arith, nat_tests)

one_is : (n : ℕ) → n ≡ 1 → (n == 1) ≡ true
one_is n e = ap (λ k. k == 1) e

unmarked : (x : Bool) → x ≡ false → x ≡ true → ⊥
unmarked x a b = true≢false (sym b ∙ a)

module _ {S : Type 0} (count : ℕ) (slots id : ℕ) (v : View) where
  abbrev me : Me S View
  me = (v, [])

  pub raises : 0 < v.parts → Allows {S = S} (λ s. IsConsistent count s) slots id me 0 (λ _. 1) (λ n after. after ≡ (seen_as v.parts true v.saw, []))
  raises some_part s kept len at fits = let w : View = seen_as v.parts true v.saw in (
    w,
    keeps,
    tt,
    record {
      word = 1;
      words = ap (λ l. set l 0 1) kept.words;
      binary = inr refl;
      counted = omega (arith, total-set s.views id v w at, kept.counted);
      marked = λ _. (id, w, set_at s.views id v w at, refl);
      fits = λ port u e. ⊎_elim
          (λ (x : (port ≡ id) × (w ≡ u)). subst (λ (y : View). FitsWord 1 y) x.1 (record { spent = λ none. absurd (omega (arith, none)); mark = λ _. refl; note = λ _. refl }))
          (λ (x : (port ≢ id) × (get_elem? s.views port ≡ some u)). let f = kept.fits port u x.1 in record { spent = f.spent; mark = λ _. refl; note = λ _. refl })
          (at_set s.views id port w u e);
    },
    refl,
  )

  pub looks : 0 < v.parts → Allows {S = S} (λ s. IsConsistent count s) slots id me 0 (λ n. n) (λ n after. (after ≡ (seen_as v.parts v.raised (v.saw || (n == 1)), [])) × (v.raised || v.saw ≡ true → n ≡ 1))
  looks some_part s kept len at fits = let n = slice_index s.words 0 in let w : View = seen_as v.parts v.raised (v.saw || (n == 1)) in let f = kept.fits id v at in
      let n_is : n ≡ kept.word = ap (λ l. slice_index l 0) kept.words in (
        w,
        keeps,
        tt,
        record {
          word = kept.word;
          words = ap (λ l. set l 0 n) kept.words ∙ ap (λ k. k ∷ []) n_is;
          binary = kept.binary;
          counted = omega (arith, total-set s.views id v w at, kept.counted);
          marked = λ e. keep_mark s.views id v w at (λ m. m) (kept.marked e);
          fits = λ port u e. ⊎_elim
              (λ (x : (port ≡ id) × (w ≡ u)). subst (λ (y : View). FitsWord kept.word y) x.1 (record { spent = λ none. absurd (omega (arith, none)); mark = f.mark; note = λ e. ⊎_elim f.note (λ one. sym n_is ∙ is_one n one) (or_true v.saw (n == 1) e) }))
              (λ (x : (port ≢ id) × (get_elem? s.views port ≡ some u)). kept.fits port u x.1)
              (at_set s.views id port w u e);
        },
        (refl, λ e. n_is ∙ ⊎_elim f.mark f.note (or_true v.raised v.saw e)),
      )

  pub knows : v.parts ≡ count → 0 < count → Allows {S = S} (λ s. IsConsistent count s) slots id me 0 (λ n. n) (λ n after. (after.0 ≡ v) × ((n == 1) ≡ v.raised) × (v.saw ≡ true → n ≡ 1))
  knows whole some_part s kept len at fits = let n = slice_index s.words 0 in let f = kept.fits id v at in let n_is : n ≡ kept.word = ap (λ l. slice_index l 0) kept.words in
      let mine : n ≡ 1 → v.raised ≡ true = λ one. let m = kept.marked (sym n_is ∙ one) in dite (ℕ_discrete m.0 id)
      (λ here. ap (λ (y : View). y.raised) (some-injective v m.1 (sym at ∙ ap (λ i. get_elem? s.views i) (sym here) ∙ m.2)) ∙ m.3)
      (λ there. let none : m.1.parts ≡ 0 = omega (arith, total-two s.views m.0 id m.1 v there m.2 at, kept.counted, whole) in absurd (unmarked m.1.raised ((kept.fits m.0 m.1 m.2).spent none).0 m.3)) in (
        v,
        keeps,
        tt,
        record {
          word = kept.word;
          words = ap (λ l. set l 0 n) kept.words ∙ ap (λ k. k ∷ []) n_is;
          binary = kept.binary;
          counted = omega (arith, total-set s.views id v v at, kept.counted);
          marked = λ e. keep_mark s.views id v v at (λ m. m) (kept.marked e);
          fits = λ port u e. ⊎_elim
              (λ (x : (port ≡ id) × (v ≡ u)). subst (λ (y : View). FitsWord kept.word y) x.1 f)
              (λ (x : (port ≢ id) × (get_elem? s.views port ≡ some u)). kept.fits port u x.1)
              (at_set s.views id port v u e);
        },
        (refl, same_bool (n == 1) v.raised (λ e. mine (is_one n e)) (λ e. one_is n (n_is ∙ f.mark e)), λ e. n_is ∙ f.note e),
      )

  pub splits : 1 < v.parts → Splits {S = S} (λ s. IsConsistent count s) id v (seen_as (v.parts - 1) v.raised v.saw) (seen_as 1 false false)
  splits two s kept at = let l : View = seen_as (v.parts - 1) v.raised v.saw in let r : View = seen_as 1 false false in let f = kept.fits id v at in let vs : List View = set s.views id l in record {
    word = kept.word;
    words = kept.words;
    binary = kept.binary;
    counted = omega (arith, total-snoc vs r, total-set s.views id v l at, kept.counted);
    marked = λ e. let m = keep_mark s.views id v l at (λ x. x) (kept.marked e) in (m.0, m.1, at_longer vs (r ∷ []) m.0 m.1 m.2, m.3);
    fits = λ port u e. ⊎_elim
        (λ (old : get_elem? vs port ≡ some u). ⊎_elim
        (λ (x : (port ≡ id) × (l ≡ u)). subst (λ (y : View). FitsWord kept.word y) x.1 (record { spent = λ none. absurd (omega (arith, none)); mark = f.mark; note = f.note }))
        (λ (x : (port ≢ id) × (get_elem? s.views port ≡ some u)). kept.fits port u x.1)
        (at_set s.views id port l u old))
        (λ (new : r ≡ u). subst (λ (y : View). FitsWord kept.word y) new (record { spent = λ none. absurd (omega (arith, none)); mark = λ m. absurd (true≢false (sym m)); note = λ m. absurd (true≢false (sym m)) }))
        (at_snoc vs r u port e);
  }

  pub joins : (other : ℕ) (u : View) → 0 < v.parts → Joins {S = S} (λ s. IsConsistent count s) id v other u (seen_as (v.parts + u.parts) (v.raised || u.raised) (v.saw || u.saw)) (seen_as 0 false false)
  joins other u some_part s kept at two at' = let b : View = seen_as (v.parts + u.parts) (v.raised || u.raised) (v.saw || u.saw) in let z : View = seen_as 0 false false in
      let vs : List View = set s.views id b in let f = kept.fits id v at in
      let was : get_elem? s.views other ≡ some u = ⊎_elim (λ (x : (other ≡ id) × (b ≡ u)). absurd (two x.0)) (λ (x : (other ≢ id) × (get_elem? s.views other ≡ some u)). x.1) (at_set s.views id other b u at') in
      let f' = kept.fits other u was in record {
        word = kept.word;
        words = kept.words;
        binary = kept.binary;
        counted = omega (arith, total-set vs other u z at', total-set s.views id v b at, kept.counted);
        marked = λ e. let m = keep_mark s.views id v b at (λ x. or_left v.raised u.raised x) (kept.marked e) in dite (ℕ_discrete m.0 other)
            (λ here. let same : u ≡ m.1 = some-injective u m.1 (sym at' ∙ ap (λ i. get_elem? vs i) (sym here) ∙ m.2) in
            (id, b, set_else vs other id z (λ x. two (sym x)) ∙ set_at s.views id v b at, or_right v.raised u.raised (ap (λ (y : View). y.raised) same ∙ m.3)))
            (λ there. (m.0, m.1, set_else vs other m.0 z there ∙ m.2, m.3));
        fits = λ port y e. ⊎_elim
            (λ (x : (port ≡ other) × (z ≡ y)). subst (λ (k : View). FitsWord kept.word k) x.1 (record { spent = λ _. (refl, refl); mark = λ m. absurd (true≢false (sym m)); note = λ m. absurd (true≢false (sym m)) }))
            (λ (x : (port ≢ other) × (get_elem? vs port ≡ some y)). ⊎_elim
            (λ (q : (port ≡ id) × (b ≡ y)). subst (λ (k : View). FitsWord kept.word k) q.1
            (record {
              spent = λ none. absurd (omega (arith, none));
              mark = λ m. ⊎_elim f.mark f'.mark (or_true v.raised u.raised m);
              note = λ m. ⊎_elim f.note f'.note (or_true v.saw u.saw m);
            }))
            (λ (q : (port ≢ id) × (get_elem? s.views port ≡ some y)). kept.fits port y q.1)
            (at_set s.views id port b y x.1))
            (at_set vs other port z y e);
      }

-- the word when the first holder, of all parts, is made
pub opens : {S : Type 0} (count : ℕ) → 0 < count → IsConsistent {S = S} count (opening (0 ∷ []) [] (seen_as count false false))
opens count some_part = record {
  word = 0;
  words = refl;
  binary = inl refl;
  counted = omega arith;
  marked = λ e. absurd (omega (arith, e));
  fits = λ port u e. one port u e;
} where
  one : (port : ℕ) (u : View) → get_elem? (seen_as count false false ∷ []) port ≡ some u → FitsWord 0 u
  one zero u e = subst (λ (y : View). FitsWord 0 y) (some-injective (seen_as count false false) u e) (record { spent = λ none. (refl, refl); mark = λ m. absurd (true≢false (sym m)); note = λ m. absurd (true≢false (sym m)) })
  one (suc port) u e = absurd (some-ne-none u (sym e))

-- the same for a seat that is known to hold no slot
module _ {S : Type 0} (count : ℕ) (slots id : ℕ) (m : Me S View) (empty : m.1 ≡ []) where
  pub raises_at : 0 < m.0.parts → Allows {S = S} (λ s. IsConsistent count s) slots id m 0 (λ _. 1) (λ n after. after ≡ (seen_as m.0.parts true m.0.saw, m.1))
  raises_at some_part = let P : List (ℕ × S) → Type 0 = λ c. Allows {S = S} (λ s. IsConsistent count s) slots id (m.0, c) 0 (λ _. 1) (λ n after. after ≡ (seen_as m.0.parts true m.0.saw, c)) in
      subst P (sym empty) (raises count slots id m.0 some_part)

  pub looks_at : 0 < m.0.parts → Allows {S = S} (λ s. IsConsistent count s) slots id m 0 (λ n. n) (λ n after. (after ≡ (seen_as m.0.parts m.0.raised (m.0.saw || (n == 1)), m.1)) × (m.0.raised || m.0.saw ≡ true → n ≡ 1))
  looks_at some_part = let P : List (ℕ × S) → Type 0 = λ c. Allows {S = S} (λ s. IsConsistent count s) slots id (m.0, c) 0 (λ n. n) (λ n after. (after ≡ (seen_as m.0.parts m.0.raised (m.0.saw || (n == 1)), c)) × (m.0.raised || m.0.saw ≡ true → n ≡ 1)) in
      subst P (sym empty) (looks count slots id m.0 some_part)

  pub knows_at : m.0.parts ≡ count → 0 < count → Allows {S = S} (λ s. IsConsistent count s) slots id m 0 (λ n. n) (λ n after. (after.0 ≡ m.0) × ((n == 1) ≡ m.0.raised) × (m.0.saw ≡ true → n ≡ 1))
  knows_at whole some_part = let P : List (ℕ × S) → Type 0 = λ c. Allows {S = S} (λ s. IsConsistent count s) slots id (m.0, c) 0 (λ n. n) (λ n after. (after.0 ≡ m.0) × ((n == 1) ≡ m.0.raised) × (m.0.saw ≡ true → n ≡ 1)) in
      subst P (sym empty) (knows count slots id m.0 whole some_part)

pub fresh_last : (f : Family) (n m : ℕ) (items all : List HolderState) (h : HolderState) → m + 1 ≡ n → items ≡ fresh f m → h ≡ record { family = f; number = m; raised = false; saw = false } → all ≡ items ++ h ∷ [] → all ≡ fresh f n
fresh_last f n m items all h next made is pushed = pushed ∙ (λ i. made i ++ is i ∷ []) ∙ ap (fresh f) (sym (add-one m) ∙ next)
