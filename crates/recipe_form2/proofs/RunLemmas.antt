-- The runs of some rows begin with the first.
use Rattle.std.proofs.Common.{◌≡◌, ◌≢◌, inl, inr, ℕ, suc, ◌<◌, Bool, true, false, cond, List, [], ◌∷◌, length, get_or, take, drop, refl, sym, ap, ◌∙◌, arith}
use Rattle.std.specs.Prelude.{nat_eq}
use Rattle.std.proofs.lemmas.Bool.{cases_eq}
use Rattle.std.proofs.lemmas.Bool.Decides.{nat_tests}
use Rattle.vault_types.specs.declared.Row.{Row}
use Rattle.vault_types.specs.Blobs.{Run, runs_of, onto_runs}
use Rattle.recipe_form2.specs.Runs.{front_len}

abbrev run : ℕ → List Row → Run
run id rows = record { id = id; rows = rows }

same : (a b : ℕ) → a ≡ b → nat_eq a b ≡ true
same a b e = grind (arith, nat_tests)

other : (a b : ℕ) → a ≢ b → nat_eq a b ≡ false
other a b e = grind (arith, nat_tests)

-- the first run has n of the rows behind the first, which is of this container
abbrev first_run : ℕ → Row → List Row → ℕ → List Run
first_run id r rows n = run id (r ∷ take n rows) ∷ runs_of (drop n rows)

runs-next : (r : Row) (rows : List Row) → runs_of (r ∷ rows) ≡ first_run r.id r rows (front_len r.id rows)
runs-next r [] = refl
runs-next r (q ∷ rows) = elim (cases_eq q.id r.id) [ inl e ↦ joins e (runs-next q rows) | inr ne ↦ parts ne (runs-next q rows) ]
  where
    joins : q.id ≡ r.id → runs_of (q ∷ rows) ≡ first_run q.id q rows (front_len q.id rows) → runs_of (r ∷ q ∷ rows) ≡ first_run r.id r (q ∷ rows) (front_len r.id (q ∷ rows))
    joins e next =
        let t : nat_eq r.id q.id ≡ true = same r.id q.id (sym e) in
        let left : runs_of (r ∷ q ∷ rows) ≡ run q.id (r ∷ q ∷ take (front_len q.id rows) rows) ∷ runs_of (drop (front_len q.id rows) rows) = ap (onto_runs r) next ∙ rw t refl in
        let right : front_len r.id (q ∷ rows) ≡ suc (front_len r.id rows) = ap (λ (b : Bool). cond b (suc (front_len r.id rows)) 0) (same q.id r.id e) in
        left ∙ ap (λ (i : ℕ). run i (r ∷ q ∷ take (front_len i rows) rows) ∷ runs_of (drop (front_len i rows) rows)) e ∙ ap (first_run r.id r (q ∷ rows)) (sym right)

    parts : q.id ≢ r.id → runs_of (q ∷ rows) ≡ first_run q.id q rows (front_len q.id rows) → runs_of (r ∷ q ∷ rows) ≡ first_run r.id r (q ∷ rows) (front_len r.id (q ∷ rows))
    parts ne next =
        let f : nat_eq r.id q.id ≡ false = other r.id q.id (λ e. ne (sym e)) in
        let left : runs_of (r ∷ q ∷ rows) ≡ run r.id (r ∷ []) ∷ first_run q.id q rows (front_len q.id rows) = ap (onto_runs r) next ∙ rw f refl in
        let right : front_len r.id (q ∷ rows) ≡ 0 = ap (λ (b : Bool). cond b (suc (front_len r.id rows)) 0) (other q.id r.id ne) in
        left ∙ ap (λ (runs : List Run). run r.id (r ∷ []) ∷ runs) (sym next) ∙ ap (first_run r.id r (q ∷ rows)) (sym right)

front-first : (r : Row) (rows : List Row) → front_len r.id (r ∷ rows) ≡ suc (front_len r.id rows)
front-first r rows = ap (λ (b : Bool). cond b (suc (front_len r.id rows)) 0) (same r.id r.id refl)

-- the rows of the first run, and the runs of the rest
pub record IsSplit (id : ℕ) (front back rows : List Row) : Type 0 where
  pub runs : runs_of rows ≡ record { id = id; rows = front } ∷ runs_of back
  pub some : 0 < length front

pub runs-first : (rows : List Row) (d : Row) (front back : List Row) (n : ℕ) → 0 < length rows → n ≡ front_len (get_or rows 0 d).id rows → front ≡ take n rows → back ≡ drop n rows
    → IsSplit (get_or rows 0 d).id front back rows
runs-first [] d front back n lt e f b = absurd (omega arith)
runs-first (r ∷ rows) d front back n lt e f b =
    let k : suc (front_len r.id rows) ≡ n = sym (e ∙ front-first r rows) in
    let f-is : r ∷ take (front_len r.id rows) rows ≡ front = ap (λ (m : ℕ). take m (r ∷ rows)) k ∙ sym f in
    let b-is : drop (front_len r.id rows) rows ≡ back = ap (λ (m : ℕ). drop m (r ∷ rows)) k ∙ sym b in
    record {
      runs = runs-next r rows ∙ ap (λ (m : List Row). run r.id m ∷ runs_of (drop (front_len r.id rows) rows)) f-is ∙ ap (λ (m : List Row). run r.id front ∷ runs_of m) b-is;
      some = omega (arith, ap length f-is);
    }
