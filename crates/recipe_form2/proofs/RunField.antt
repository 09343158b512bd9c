-- The rows that are read as runs are those that the runs spell.
use Rattle.std.proofs.Common.{◌≡◌, ◌≢◌, ℕ, zero, suc, ◌+◌, ◌^◌, ◌<◌, ◌≤◌, Bool, true, false, cond, not, ◌&&◌, ltb, List, [], ◌∷◌, ◌++◌, length, Option, Some, refl, sym, ap, subst, ◌∙◌, append_assoc, arith}
use Rattle.std.specs.Prelude.{nat_eq}
use Rattle.std.specs.List.{AllByRecursion, flat_map}
use Rattle.std.specs.Int.{w32, to_be_bytes}
use Rattle.std.proofs.lemmas.Bool.Decides.{nat_tests}
use Rattle.std.proofs.lemmas.List.{length-append}
use Rattle.std.proofs.lemmas.List.Concat.{flat_map-cons}
use Rattle.vault_types.specs.declared.Fp.{Fp}
use Rattle.vault_types.specs.declared.Row.{Row}
use Rattle.vault_types.specs.Names.{IsFp}
use Rattle.vault_types.specs.Blobs.{Run, row_bytes_2, run_bytes, runs_of, onto_runs}
use Rattle.blob_parts.specs.Reading.{◌>>=◌, number_at}
use Rattle.blob_parts.specs.Recipes.{FitsRow}
use Rattle.blob_parts.proofs.Fields.{IsBytes, Takes, IsField, bind_some, some_is, fp_field, u32_field, u64_field, both_field, made_field, tested_field, list_field}
use Rattle.recipe_form2.specs.Reading.{row_of, row_at, run_of, opens, run_at, runs_at, is_few, all_runs_at, rows_at}

-- ---- a row and a run

abbrev FitsRowOf : ℕ → Row → Type 0
FitsRowOf id r = (IsFp r.fp × (r.len < 2 ^ 32)) × (r.id ≡ id)

row_back : Row → Fp × ℕ
row_back r = (r.fp, r.len)

row_field : (id : ℕ) → IsField (row_at id) row_bytes_2 (FitsRowOf id)
unfolding row_back
row_field id =
    made_field (both_field fp_field (λ f fits. u32_field)) (row_of id) row_back row_bytes_2 (FitsRowOf id)
    (λ x fits. ((fits, refl), refl)) (λ r fits. (fits.0, λ i. record { fp = r.fp; id = (sym fits.1) i; len = r.len }))

row_width : (id : ℕ) (r : Row) → FitsRowOf id r → 24 ≤ length (row_bytes_2 r)
row_width id r fits = omega (arith, fits.0.0.len, length-append r.fp.0 (to_be_bytes w32 r.len))

abbrev RowsOf : ℕ → List Row → Type 0
RowsOf id rows = (length rows < 2 ^ 32) × AllByRecursion (FitsRowOf id) rows

abbrev rows_bytes : List Row → List ℕ
rows_bytes rows = to_be_bytes w32 (length rows) ++ flat_map row_bytes_2 rows

abbrev FitsRun : Run → Type 0
FitsRun run = (run.id < 2 ^ 64) × RowsOf run.id run.rows

run_back : Run → ℕ × List Row
run_back run = (run.id, run.rows)

run_field : (before : ℕ) → IsField (run_at before) run_bytes (λ run. FitsRun run × (opens before run ≡ true))
unfolding run_back
run_field before =
    tested_field
    (made_field (both_field u64_field (λ id fits. list_field (row_field id) 24 (row_width id))) run_of run_back run_bytes FitsRun (λ x fits. (fits, refl)) (λ run fits. (fits, refl)))
    (opens before)

-- ---- runs

abbrev flat : List Run → List Row
flat runs = flat_map (λ run. run.rows) runs

-- the first run is of another container, and so is each run's next
abbrev Opens : ℕ → List Run → Type 0
Opens before [] = Unit {0}
Opens before (run ∷ runs) = run.id ≢ before

abbrev AreRuns : List Run → Type 0
AreRuns [] = Unit {0}
AreRuns (run ∷ runs) = FitsRun run × ((0 < length run.rows) × (Opens run.id runs × AreRuns runs))

opened : (before : ℕ) (run : Run) → opens before run ≡ true → (run.id ≢ before) × (0 < length run.rows)
opened before run e = at (nat_eq run.id before) (ltb 0 (length run.rows)) refl refl e
  where
    at : (a b : Bool) → nat_eq run.id before ≡ a → ltb 0 (length run.rows) ≡ b → (not a && b) ≡ true → (run.id ≢ before) × (0 < length run.rows)
    at true b f g h = absurd cc
    at false true f g h = (grind (arith, nat_tests), grind (arith, nat_tests))
    at false false f g h = absurd cc

opening : (before : ℕ) (run : Run) → run.id ≢ before → 0 < length run.rows → opens before run ≡ true
opening before run other some =
    let f : nat_eq run.id before ≡ false = grind (arith, nat_tests) in
    let g : ltb 0 (length run.rows) ≡ true = grind (arith, nat_tests) in
    ap (λ (b : Bool). not b && ltb 0 (length run.rows)) f ∙ g

record IsRead (before n : ℕ) (bytes : List ℕ) (rows : List Row) (rest : List ℕ) : Type 0 where
  runs : List Run
  takes : Takes bytes (flat_map run_bytes runs) rest
  count : length runs ≡ n
  open_first : Opens before runs
  each : AreRuns runs
  rows_are : rows ≡ flat runs

runs_take : (before n : ℕ) (bytes : List ℕ) (rows : List Row) (rest : List ℕ) → IsBytes bytes → runs_at before n bytes ≡ Some (rows, rest) → IsRead before n bytes rows rest
runs_take before zero bytes rows rest fits e =
    let P : List Row × List ℕ → Type 0 = λ z. IsRead before 0 bytes z.0 z.1 in
    subst P (some_is ([], bytes) (rows, rest) e) (record { runs = []; takes = record { parts = refl; rest_fits = fits }; count = refl; open_first = tt; each = tt; rows_are = refl })
runs_take before (suc n) bytes rows rest fits e =
    let a = bind_some (run_at before bytes) (λ run. runs_at run.0.id n run.1 >>= λ xs. Some (run.0.rows ++ xs.0, xs.1)) (rows, rest) e in
    let b = bind_some (runs_at a.0.0.id n a.0.1) (λ xs. Some (a.0.0.rows ++ xs.0, xs.1)) (rows, rest) a.2 in
    let run = a.0.0 in
    let t = (run_field before).takes bytes run a.0.1 fits a.1 in
    let o = opened before run t.1.1 in
    let u = runs_take run.id n a.0.1 b.0.0 b.0.1 t.0.rest_fits b.1 in
    let P : List Row × List ℕ → Type 0 = λ z. IsRead before (suc n) bytes z.0 z.1 in
    subst P (some_is (run.rows ++ b.0.0, b.0.1) (rows, rest) b.2) (record {
      runs = run ∷ u.runs;
      takes = record {
        parts = t.0.parts ∙ ap (λ (x : List ℕ). run_bytes run ++ x) u.takes.parts ∙ sym (append_assoc (run_bytes run) (flat_map run_bytes u.runs) b.0.1) ∙ ap (λ (x : List ℕ). x ++ b.0.1) (sym (flat_map-cons run_bytes run u.runs));
        rest_fits = u.takes.rest_fits;
      };
      count = ap suc u.count;
      open_first = o.0;
      each = (t.1.0, (o.1, (u.open_first, u.each)));
      rows_are = ap (λ (x : List Row). run.rows ++ x) u.rows_are ∙ sym (flat_map-cons (λ (r : Run). r.rows) run u.runs);
    })

runs_again : (before : ℕ) (runs : List Run) (rest : List ℕ) → Opens before runs → AreRuns runs → runs_at before (length runs) (flat_map run_bytes runs ++ rest) ≡ Some (flat runs, rest)
runs_again before [] rest open_first each = refl
runs_again before (run ∷ runs) rest open_first each =
    ap (runs_at before (suc (length runs))) (ap (λ (x : List ℕ). x ++ rest) (flat_map-cons run_bytes run runs) ∙ append_assoc (run_bytes run) (flat_map run_bytes runs) rest)
    ∙ ap (λ (r : Option (Run × List ℕ)). r >>= λ x. runs_at x.0.id (length runs) x.1 >>= λ xs. Some (x.0.rows ++ xs.0, xs.1))
    ((run_field before).again run (flat_map run_bytes runs ++ rest) (each.0, opening before run open_first each.1.0))
    ∙ ap (λ (r : Option (List Row × List ℕ)). r >>= λ xs. Some (run.rows ++ xs.0, xs.1)) (runs_again run.id runs rest each.1.1.0 each.1.1.1)
    ∙ ap (λ (x : List Row). Some (x, rest)) (sym (flat_map-cons (λ (r : Run). r.rows) run runs))

-- ---- the runs of rows

abbrev run : ℕ → List Row → Run
run id rows = record { id = id; rows = rows }

-- rows of one container before runs of which the first is of another
joined : (id : ℕ) (rows more : List Row) (runs : List Run) → 0 < length rows → AllByRecursion (FitsRowOf id) rows → Opens id runs → runs_of more ≡ runs → runs_of (rows ++ more) ≡ record { id = id; rows = rows } ∷ runs
joined id [] more runs some each open_first e = absurd (omega arith)
joined id (r ∷ []) more [] some each open_first e = ap (onto_runs r) e ∙ ap (λ (i : ℕ). record { id = i; rows = r ∷ [] } ∷ []) each.0.1
joined id (r ∷ []) more (first ∷ runs) some each open_first e =
    let is : r.id ≡ id = each.0.1 in
    let other : nat_eq r.id first.id ≡ false = apart r.id first.id (λ same. open_first (sym same ∙ is)) in
    ap (onto_runs r) e
    ∙ ap (λ (b : Bool). cond b (record { id = first.id; rows = r ∷ first.rows } ∷ runs) (record { id = r.id; rows = r ∷ [] } ∷ first ∷ runs)) other
    ∙ ap (λ (i : ℕ). record { id = i; rows = r ∷ [] } ∷ first ∷ runs) is
  where
    apart : (a b : ℕ) → a ≢ b → nat_eq a b ≡ false
    apart a b ne = grind (arith, nat_tests)
joined id (r ∷ q ∷ rows) more runs some each open_first e =
    let same : nat_eq r.id id ≡ true = equal r.id id each.0.1 in
    ap (onto_runs r) (joined id (q ∷ rows) more runs (omega arith) each.1 open_first e)
    ∙ ap (λ (b : Bool). cond b (record { id = id; rows = r ∷ q ∷ rows } ∷ runs) (record { id = r.id; rows = r ∷ [] } ∷ record { id = id; rows = q ∷ rows } ∷ runs)) same
  where
    equal : (a b : ℕ) → a ≡ b → nat_eq a b ≡ true
    equal a b e = grind (arith, nat_tests)

-- the runs of the rows of runs are these runs
canonical : (runs : List Run) → AreRuns runs → runs_of (flat runs) ≡ runs
canonical [] each = refl
canonical (first ∷ runs) each =
    ap runs_of (flat_map-cons (λ (r : Run). r.rows) first runs)
    ∙ joined first.id first.rows (flat runs) runs each.1.0 each.0.1.1 each.1.1.0 (canonical runs each.1.1.1)

-- ---- rows that have runs

apart : (a b : ℕ) → nat_eq a b ≡ false → b ≢ a
apart a b e = grind (arith, nat_tests)

met : (a b : ℕ) → nat_eq a b ≡ true → a ≡ b
met a b e = grind (arith, nat_tests)

-- runs of which a count may be too great to be said
abbrev LooseRuns : List Run → Type 0
LooseRuns [] = Unit {0}
LooseRuns (first ∷ runs) = ((first.id < 2 ^ 64) × AllByRecursion (FitsRowOf first.id) first.rows) × ((0 < length first.rows) × (Opens first.id runs × LooseRuns runs))

onto_good : (r : Row) (runs : List Run) → FitsRow r → LooseRuns runs → LooseRuns (onto_runs r runs) × (flat (onto_runs r runs) ≡ r ∷ flat runs)
onto_good r [] fits each = (((fits.1.0, (((fits.0, fits.1.1), refl), tt)), (omega arith, (tt, tt))), flat_map-cons (λ (q : Run). q.rows) (run r.id (r ∷ [])) [])
onto_good r (first ∷ runs) fits each = at (nat_eq r.id first.id) refl
  where
    at : (b : Bool) → nat_eq r.id first.id ≡ b → LooseRuns (cond b (record { id = first.id; rows = r ∷ first.rows } ∷ runs) (record { id = r.id; rows = r ∷ [] } ∷ first ∷ runs))
        × (flat (cond b (record { id = first.id; rows = r ∷ first.rows } ∷ runs) (record { id = r.id; rows = r ∷ [] } ∷ first ∷ runs)) ≡ r ∷ flat (first ∷ runs))
    at true e = (
      ((each.0.0, (((fits.0, fits.1.1), met r.id first.id e), each.0.1)), (omega arith, each.1.1)),
      flat_map-cons (λ (q : Run). q.rows) (record { id = first.id; rows = r ∷ first.rows }) runs ∙ ap (λ (x : List Row). r ∷ x) (sym (flat_map-cons (λ (q : Run). q.rows) first runs)),
    )
    at false e = (
      ((fits.1.0, (((fits.0, fits.1.1), refl), tt)), (omega arith, (apart r.id first.id e, each))),
      flat_map-cons (λ (q : Run). q.rows) (record { id = r.id; rows = r ∷ [] }) (first ∷ runs),
    )

runs_good : (rows : List Row) → AllByRecursion FitsRow rows → LooseRuns (runs_of rows) × (flat (runs_of rows) ≡ rows)
runs_good [] fits = (tt, refl)
runs_good (r ∷ rows) fits =
    let more = runs_good rows fits.1 in
    let good = onto_good r (runs_of rows) fits.0 more.0 in
    (good.0, good.1 ∙ ap (λ (x : List Row). r ∷ x) more.1)

tight : (runs : List Run) → LooseRuns runs → length (flat runs) < 2 ^ 32 → AreRuns runs
tight [] each few = tt
tight (first ∷ runs) each few =
    let len : length first.rows + length (flat runs) ≡ length (flat (first ∷ runs)) = omega (arith, ap length (flat_map-cons (λ (q : Run). q.rows) first runs), length-append first.rows (flat runs)) in
    ((each.0.0, (omega arith, each.0.1)), (each.1.0, (each.1.1.0, tight runs each.1.1.1 (omega arith))))

count_le : (runs : List Run) → AreRuns runs → length runs ≤ length (flat runs)
count_le [] each = omega arith
count_le (first ∷ runs) each = omega (arith, count_le runs each.1.1.1, each.1.0, ap length (flat_map-cons (λ (q : Run). q.rows) first runs), length-append first.rows (flat runs))

-- the first row is of some container
abbrev pub Begins : List Row → Type 0
Begins [] = Unit {0}
Begins (r ∷ rows) = r.id ≢ 0

opens_onto : (r : Row) (runs : List Run) → r.id ≢ 0 → Opens 0 (onto_runs r runs)
opens_onto r [] some = some
opens_onto r (first ∷ runs) some = at (nat_eq r.id first.id) refl
  where
    at : (b : Bool) → nat_eq r.id first.id ≡ b → Opens 0 (cond b (record { id = first.id; rows = r ∷ first.rows } ∷ runs) (record { id = r.id; rows = r ∷ [] } ∷ first ∷ runs))
    at true e = λ zero_id. some (met r.id first.id e ∙ zero_id)
    at false e = some

opens_runs : (rows : List Row) → Begins rows → Opens 0 (runs_of rows)
opens_runs [] begins = tt
opens_runs (r ∷ rows) begins = opens_onto r (runs_of rows) begins

-- rows that have runs, which a count can say
pub record HasRuns (rows : List Row) : Type 0 where
  count : length (runs_of rows) < 2 ^ 32
  each : AreRuns (runs_of rows)
  open_first : Opens 0 (runs_of rows)
  flat_is : flat (runs_of rows) ≡ rows

pub has_runs : (rows : List Row) → AllByRecursion FitsRow rows → Begins rows → length rows < 2 ^ 32 → HasRuns rows
has_runs rows fits begins few =
    let good = runs_good rows fits in
    let each = tight (runs_of rows) good.0 (omega (arith, ap length good.1)) in
    record { count = omega (arith, count_le (runs_of rows) each, ap length good.1); each = each; open_first = opens_runs rows begins; flat_is = good.1 }

all_append : {X : Type 0} (P : X → Type 0) (xs ys : List X) → AllByRecursion P xs → AllByRecursion P ys → AllByRecursion P (xs ++ ys)
all_append P [] ys first second = second
all_append P (x ∷ xs) ys first second = (first.0, all_append P xs ys first.1 second)

widths : (id : ℕ) (rows : List Row) → id < 2 ^ 64 → AllByRecursion (FitsRowOf id) rows → AllByRecursion FitsRow rows
widths id [] lt each = tt
widths id (r ∷ rows) lt each = ((each.0.0.0, (omega (arith, each.0.1), each.0.0.1)), widths id rows lt each.1)

flat_widths : (runs : List Run) → AreRuns runs → AllByRecursion FitsRow (flat runs)
flat_widths [] each = tt
flat_widths (first ∷ runs) each =
    subst (λ (x : List Row). AllByRecursion FitsRow x) (sym (flat_map-cons (λ (q : Run). q.rows) first runs))
    (all_append FitsRow first.rows (flat runs) (widths first.id first.rows each.0.0 each.0.1.1) (flat_widths runs each.1.1.1))

pub row_widths : (rows : List Row) → HasRuns rows → AllByRecursion FitsRow rows
row_widths rows has = subst (λ (x : List Row). AllByRecursion FitsRow x) has.flat_is (flat_widths (runs_of rows) has.each)

begins_with : (id : ℕ) (rows more : List Row) → 0 < length rows → AllByRecursion (FitsRowOf id) rows → id ≢ 0 → Begins (rows ++ more)
begins_with id [] more some each other = absurd (omega arith)
begins_with id (r ∷ rows) more some each other = λ zero_id. other (sym each.0.1 ∙ zero_id)

flat_begins : (runs : List Run) → AreRuns runs → Opens 0 runs → Begins (flat runs)
flat_begins [] each open_first = tt
flat_begins (first ∷ runs) each open_first =
    subst Begins (sym (flat_map-cons (λ (q : Run). q.rows) first runs)) (begins_with first.id first.rows (flat runs) each.1.0 each.0.1.1 open_first)

pub begins : (rows : List Row) → HasRuns rows → Begins rows
begins rows has = subst Begins has.flat_is (flat_begins (runs_of rows) has.each has.open_first)

-- ---- the field

abbrev pub all_runs_bytes : List Row → List ℕ
all_runs_bytes rows = to_be_bytes w32 (length (runs_of rows)) ++ flat_map run_bytes (runs_of rows)

all_takes : (bytes : List ℕ) (rows : List Row) (rest : List ℕ) → IsBytes bytes → all_runs_at bytes ≡ Some (rows, rest) → Takes bytes (all_runs_bytes rows) rest × HasRuns rows
all_takes bytes rows rest fits e =
    let a = bind_some (number_at w32 bytes) (λ n. runs_at 0 n.0 n.1) (rows, rest) e in
    let t = u32_field.takes bytes a.0.0 a.0.1 fits a.1 in
    let u = runs_take 0 a.0.0 a.0.1 rows rest t.0.rest_fits a.2 in
    let same : u.runs ≡ runs_of rows = sym (ap runs_of u.rows_are ∙ canonical u.runs u.each) in
    let P : List Run → Type 0 = λ runs. Takes bytes (to_be_bytes w32 (length runs) ++ flat_map run_bytes runs) rest × ((length runs < 2 ^ 32) × (AreRuns runs × (Opens 0 runs × (flat runs ≡ rows)))) in
    let whole : P u.runs = (
      record {
        parts = t.0.parts ∙ ap (λ (x : List ℕ). to_be_bytes w32 a.0.0 ++ x) u.takes.parts ∙ sym (append_assoc (to_be_bytes w32 a.0.0) (flat_map run_bytes u.runs) rest)
            ∙ ap (λ (n : ℕ). (to_be_bytes w32 n ++ flat_map run_bytes u.runs) ++ rest) (sym u.count);
        rest_fits = u.takes.rest_fits;
      },
      (omega (arith, u.count, t.1), (u.each, (u.open_first, sym u.rows_are))),
    ) in
    let as_of = subst P same whole in
    (as_of.0, record { count = as_of.1.0; each = as_of.1.1.0; open_first = as_of.1.1.1.0; flat_is = as_of.1.1.1.1 })

all_again : (rows : List Row) (rest : List ℕ) → HasRuns rows → all_runs_at (all_runs_bytes rows ++ rest) ≡ Some (rows, rest)
all_again rows rest has =
    ap all_runs_at (append_assoc (to_be_bytes w32 (length (runs_of rows))) (flat_map run_bytes (runs_of rows)) rest)
    ∙ ap (λ (r : Option (ℕ × List ℕ)). r >>= λ n. runs_at 0 n.0 n.1) (u32_field.again (length (runs_of rows)) (flat_map run_bytes (runs_of rows) ++ rest) has.count)
    ∙ runs_again 0 (runs_of rows) rest has.open_first has.each
    ∙ ap (λ (x : List Row). Some (x, rest)) has.flat_is

pub rows_field : IsField rows_at all_runs_bytes (λ rows. HasRuns rows × (is_few rows ≡ true))
rows_field = tested_field (record { takes = all_takes; again = all_again }) is_few
