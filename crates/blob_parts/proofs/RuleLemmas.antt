-- How the rules of recipes are looked at.
use Rattle.std.proofs.Common.{◌≡◌, ℕ, suc, ◌+◌, ◌*◌, ◌^◌, ◌<◌, ◌≤◌, Bool, true, false, cond, eqb, ◌||◌, List, [], ◌∷◌, ◌++◌, length, take, drop, get_or, map, All, Option, Some, refl, sym, ap, subst, ◌∙◌, arith, add-one}
use Rattle.std.specs.Prelude.{nat_eq, IfSome}
use Rattle.std.specs.List.{AllByRecursion, Contains}
use Rattle.std.specs.Cmp.{nat_eq_equiv}
use Rattle.std.proofs.lemmas.Bool.Decides.{nat_tests}
use Rattle.std.proofs.lemmas.List.{map-append, length-drop, nil_from_length}
use Rattle.std.proofs.lemmas.Bool.{eqb-true}
use Rattle.std.proofs.lemmas.Slice.Eq.{bytes_eq-Decides}
use Rattle.std.specs.Str.{bytes_eq}
use Rattle.std.proofs.lemmas.List.Sums.{sum_by-cons}
use Rattle.std.proofs.lemmas.List.Folds.{list_any-append}
use Rattle.std.proofs.lemmas.List.Elements.{recursion_from_All, All-from_recursion}
use Rattle.std.proofs.Math.Seq.{take-suc, drop-cons}
use Rattle.sha1.specs.Sha1.{sha1}
use Rattle.vault_types.specs.declared.Fp.{Fp}
use Rattle.vault_types.specs.declared.Row.{Row}
use Rattle.vault_types.specs.declared.Recipe.{Recipe}
use Rattle.vault_types.specs.Names.{IsFp}
use Rattle.vault_types.specs.Lists.{has, IsAscending}
use Rattle.vault_types.specs.State.{length_of}
use Rattle.vault_types.specs.Blobs.{IsRecipe, IsVersion}
use Rattle.blob_parts.specs.Recipes.{FitsRow, HasWidths}
use Rattle.blob_parts.proofs.SparseLemmas.{has_contained, few_sparse}

-- ---- ascending

all_above : (a b : ℕ) (ns : List ℕ) → a < b → AllByRecursion (λ m. b < m) ns → AllByRecursion (λ m. a < m) ns
all_above a b [] lt above = tt
all_above a b (n ∷ ns) lt above = (omega (arith, above.0), all_above a b ns lt above.1)

ascending_cons : (a b : ℕ) (ns : List ℕ) → a < b → IsAscending (b ∷ ns) → IsAscending (a ∷ b ∷ ns)
ascending_cons a b ns lt ascending = ((lt, all_above a b ns lt ascending.0), ascending)

-- the list from a place on, and from the next
pub ascending_next : (ns : List ℕ) (p i : ℕ) → suc p ≡ i → p < length ns → IsAscending (drop p ns) → IsAscending (drop i ns)
ascending_next ns p i e lt ascending =
    subst (λ (k : ℕ). IsAscending (drop k ns)) e (subst IsAscending (drop-cons ns p 0 lt) ascending).1

pub ascending_before : (ns : List ℕ) (p i : ℕ) → suc p ≡ i → i < length ns → get_or ns p 0 < get_or ns i 0 → IsAscending (drop i ns) → IsAscending (drop p ns)
ascending_before ns p i e lt less ascending =
    let two : drop p ns ≡ get_or ns p 0 ∷ get_or ns i 0 ∷ drop (suc i) ns =
    drop-cons ns p 0 (omega arith) ∙ ap (λ (k : ℕ). get_or ns p 0 ∷ drop k ns) e ∙ ap (λ (xs : List ℕ). get_or ns p 0 ∷ xs) (drop-cons ns i 0 lt)
    in
    subst IsAscending (sym two) (ascending_cons (get_or ns p 0) (get_or ns i 0) (drop (suc i) ns) less (subst IsAscending (drop-cons ns i 0 lt) ascending))

pub ascending_less : (ns : List ℕ) (p i : ℕ) → suc p ≡ i → i < length ns → IsAscending (drop p ns) → get_or ns p 0 < get_or ns i 0
ascending_less ns p i e lt ascending =
    let two : drop p ns ≡ get_or ns p 0 ∷ get_or ns i 0 ∷ drop (suc i) ns =
    drop-cons ns p 0 (omega arith) ∙ ap (λ (k : ℕ). get_or ns p 0 ∷ drop k ns) e ∙ ap (λ (xs : List ℕ). get_or ns p 0 ∷ xs) (drop-cons ns i 0 lt)
    in
    (subst IsAscending two ascending).0.0

short : (ns : List ℕ) → length ns ≤ 1 → IsAscending ns
short [] le = tt
short (n ∷ []) le = (tt, tt)
short (n ∷ m ∷ ns) le = absurd (omega arith)

pub ascending_end : (ns : List ℕ) (p : ℕ) → length ns ≤ p + 1 → IsAscending (drop p ns)
ascending_end ns p le = short (drop p ns) (omega (arith, length-drop p ns))

-- ---- the ids that rows name

abbrev pub ids : List Row → List ℕ
ids rows = map (λ r. r.id) rows

pub ids_more : (set now : ℕ → Bool) (rows : List Row) (i : ℕ) (d : Row) → i < length rows → ((q : ℕ) → set q ≡ has q (ids (take i rows)))
    → ((q : ℕ) → now q ≡ cond (nat_eq (get_or rows i d).id q) true (set q)) → (q : ℕ) → now q ≡ has q (ids (take (i + 1) rows))
ids_more set now rows i d lt known update q =
    let y = (get_or rows i d).id in
    let grown : ids (take (i + 1) rows) ≡ ids (take i rows) ++ y ∷ [] = ap ids (rw add-one (take-suc rows i d lt)) ∙ map-append (λ (r : Row). r.id) (take i rows) (get_or rows i d ∷ []) in
    update q ∙ ap (λ (b : Bool). cond b true (set q)) (nat_eq_equiv.symm y q) ∙ as_or (nat_eq q y) (set q)
    ∙ ap (λ (b : Bool). b || (nat_eq q y || false)) (known q) ∙ sym (ap (has q) grown ∙ list_any-append (nat_eq q) (ids (take i rows)) (y ∷ []))
  where
    as_or : (a b : Bool) → cond a true b ≡ (b || (a || false))
    as_or true true = refl
    as_or true false = refl
    as_or false true = refl
    as_or false false = refl

contains_suc : (m n : ℕ) (ms : List ℕ) → Contains ms n → Contains (m ∷ ms) n
contains_suc m n ms c = (suc c.0, omega (arith, c.1), c.2)

pub contained : (ms : List ℕ) (n : ℕ) → has n ms ≡ true → Contains ms n
contained [] n e = absurd cc
contained (m ∷ ms) n e = at (λ h. contained ms n h) (nat_eq n m) refl e
  where
    at : (has n ms ≡ true → Contains ms n) → (b : Bool) → nat_eq n m ≡ b → (b || has n ms) ≡ true → Contains (m ∷ ms) n
    at more true is h = let same : m ≡ n = grind (arith, nat_tests) in (0, omega arith, same)
    at more false is h = contains_suc m n ms (more h)

module _ (set : ℕ → Bool) (ms : List ℕ) (known : (q : ℕ) → set q ≡ has q ms) where
  used_each : (ns : List ℕ) → AllByRecursion (λ c. set c ≡ true) ns → AllByRecursion (λ c. Contains ms c) ns
  used_each [] each = tt
  used_each (n ∷ ns) each = (contained ms n (sym (known n) ∙ each.0), used_each ns each.1)

  each_used : (ns : List ℕ) → AllByRecursion (λ c. Contains ms c) ns → AllByRecursion (λ c. set c ≡ true) ns
  each_used [] each = tt
  each_used (n ∷ ns) each = (known n ∙ has_contained ms n each.0, each_used ns each.1)

  pub all_used : (ns : List ℕ) → All (λ c. set c ≡ true) ns → AllByRecursion (λ c. Contains ms c) ns
  all_used ns each = used_each ns (recursion_from_All (λ c. set c ≡ true) ns each)

  pub used_all : (ns : List ℕ) → AllByRecursion (λ c. Contains ms c) ns → All (λ c. set c ≡ true) ns
  used_all ns each = All-from_recursion (λ c. set c ≡ true) ns (each_used ns each)

-- ---- the sum of a version without rows

abbrev IsSumOfNone : Fp → Type 0
IsSumOfNone w = w.0 ≡ sha1 []

pub sum_rule : (rows : List Row) (whole : Option Fp) (w : Fp) (sum : List ℕ) (answer : Bool) → whole ≡ Some w → answer ≡ bytes_eq w.0 sum → sum ≡ sha1 [] → eqb (length rows) 0 ≡ true
    → (answer ≡ true → rows ≡ [] → IfSome whole (λ w. w.0 ≡ sha1 [])) × ((rows ≡ [] → IfSome whole (λ w. w.0 ≡ sha1 [])) → answer ≡ true)
sum_rule rows whole w sum answer is e s none = (
  λ t nil. subst (λ (o : Option Fp). IfSome o IsSumOfNone) (sym is) ((bytes_eq-Decides w.0 sum).0 (sym e ∙ t) ∙ s),
  λ rule. e ∙ (bytes_eq-Decides w.0 sum).1 (subst (λ (o : Option Fp). IfSome o IsSumOfNone) is (rule (nil_from_length rows (eqb-true (length rows) 0 none))) ∙ sym s),
)

-- ---- widths

abbrev pub IsBelow : ℕ → Row → Type 0
IsBelow next r = (1 ≤ r.id) × (r.id < next) × (1 ≤ r.len) × (r.len ≤ 65536)

few_bytes : (next : ℕ) (rows : List Row) → AllByRecursion (IsBelow next) rows → length_of rows ≤ 65536 * length rows
few_bytes next [] below = omega arith
few_bytes next (r ∷ rows) below = omega (arith, few_bytes next rows below.1, below.0.3, sum_by-cons (λ (q : Row). q.len) r rows)

pub short_version : (next : ℕ) (rows : List Row) → All (IsBelow next) rows → length rows < 2 ^ 32 → length_of rows < 2 ^ 64
short_version next rows below few = omega (arith, few_bytes next rows (recursion_from_All (IsBelow next) rows below))

only_fps : (rows : List Row) → AllByRecursion FitsRow rows → AllByRecursion (λ r. IsFp r.fp) rows
only_fps [] fits = tt
only_fps (r ∷ rows) fits = (fits.0.0, only_fps rows fits.1)

row_widths : (next : ℕ) (rows : List Row) → next ≤ 2 ^ 63 → AllByRecursion (λ r. IsFp r.fp) rows → AllByRecursion (IsBelow next) rows → AllByRecursion FitsRow rows
row_widths next [] high fps below = tt
row_widths next (r ∷ rows) high fps below = ((fps.0, (omega (arith, below.0.1), omega (arith, below.0.3))), row_widths next rows high fps.1 below.1)

id_widths : (next : ℕ) (rows : List Row) (n : ℕ) → next ≤ 2 ^ 63 → AllByRecursion (IsBelow next) rows → has n (ids rows) ≡ true → n < 2 ^ 64
id_widths next [] n high below e = absurd cc
id_widths next (r ∷ rows) n high below e = at (λ h. id_widths next rows n high below.1 h) (nat_eq n r.id) refl e
  where
    at : (has n (ids rows) ≡ true → n < 2 ^ 64) → (b : Bool) → nat_eq n r.id ≡ b → (b || has n (ids rows)) ≡ true → n < 2 ^ 64
    at more true is h = let same : n ≡ r.id = grind (arith, nat_tests) in omega (arith, below.0.1)
    at more false is h = more h

sparse_widths : (next : ℕ) (rows : List Row) (ns : List ℕ) → next ≤ 2 ^ 63 → AllByRecursion (IsBelow next) rows → AllByRecursion (λ c. Contains (ids rows) c) ns → AllByRecursion (λ n. n < 2 ^ 64) ns
sparse_widths next rows [] high below used = tt
sparse_widths next rows (n ∷ ns) high below used = (id_widths next rows n high below (has_contained (ids rows) n used.0), sparse_widths next rows ns high below used.1)

-- a recipe that keeps the rules has numbers and sums of their widths
pub has_widths : (r : Recipe) → IsRecipe r → HasWidths r
has_widths r is = record {
  version = omega (arith, is.version.1);
  next = omega (arith, is.rules.next_high);
  len = omega (arith, is.total, is.rules.few, few_bytes r.next r.rows is.rules.each);
  few = is.rules.few;
  rows = row_widths r.next r.rows is.rules.next_high is.rules.fps is.rules.each;
  sparse = (few_sparse r.next r.rows r.sparse is.rules, sparse_widths r.next r.rows r.sparse is.rules.next_high is.rules.each is.rules.used);
  whole = is.whole;
}

pub is_recipe : (r : Recipe) → HasWidths r → IsVersion r.version → 1 ≤ r.next → r.next ≤ 2 ^ 63 → All (IsBelow r.next) r.rows → length_of r.rows ≡ r.length
    → (r.rows ≡ [] → IfSome r.whole (λ w. w.0 ≡ sha1 [])) → IsAscending r.sparse → AllByRecursion (λ c. Contains (ids r.rows) c) r.sparse → IsRecipe r
is_recipe r fits version low high below total no_bytes ascending used = record {
  version = version;
  total = sym total;
  rules = record {
    next_low = low;
    next_high = high;
    few = fits.few;
    fps = only_fps r.rows fits.rows;
    each = recursion_from_All (IsBelow r.next) r.rows below;
    ascending = ascending;
    used = used;
  };
  whole = fits.whole;
  no_bytes = no_bytes;
}
