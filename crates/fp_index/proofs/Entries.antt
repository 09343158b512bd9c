-- The lists of a map after a change at one fingerprint.
use Rattle.std.proofs.Common.{◌≡◌, ℕ, zero, suc, ◌<◌, ◌≤◌, Bool, true, false, cond, not, ◌&&◌, ◌||◌, List, [], ◌∷◌, ◌++◌, take, get_or, length, refl, sym, ap, ◌∙◌, subst, arith, inl, inr, Option, Some, None, vec_len, vec_capacity, unwrap_or, ◌+◌}
use Rattle.std.specs.Prelude.{nat_eq, IsSomeAnd}
use Rattle.std.specs.Global.{Vec}
use Rattle.std.specs.List.{AllByRecursion}
use Rattle.std.specs.Map.{lookup}
use Rattle.std.proofs.lemmas.Bool.Decides.{nat_tests}
use Rattle.std.proofs.lemmas.List.{take_more}
use Rattle.std.proofs.lemmas.List.Folds.{list_any-append}
use Rattle.vault_types.specs.declared.Fp.{Fp}
use Rattle.vault_types.specs.declared.TableRow.{TableRow}
use Rattle.vault_types.specs.Lists.{has, with_number, IsAscending}
use Rattle.vault_types.specs.Names.{same_fp}
use Rattle.vault_types.proofs.FillLemmas.{same_fps, bytes_eq-same}
use Rattle.vault_types.proofs.SetLemmas.{has-with_number, IsAscending-with_number}
use Rattle.fp_index.specs.Lists.{lists, ids_in, row_has, without, HasRoomFor, TakesId, TakesRows, AllAscend}
use Rattle.fp_index.proofs.Ids.{with_number-there, without-none, IsAscending-without, has-without}

abbrev pub vec_at : List (Fp × Vec ℕ) → Fp → Option (Vec ℕ)
vec_at entries f = lookup (same_fp f) entries

abbrev pub items_of : Option (Vec ℕ) → List ℕ
items_of None = []
items_of (Some v) = v.items

pub ids_in-is : (entries : List (Fp × Vec ℕ)) (f : Fp) → ids_in entries f ≡ items_of (vec_at entries f)
ids_in-is [] f = refl
ids_in-is (e ∷ es) f = step (same_fp f e.0) (ids_in-is es f)
  where
    step : (b : Bool) → ids_in es f ≡ items_of (vec_at es f) → unwrap_or (cond b (Some e.1.items) (lookup (same_fp f) (lists es))) [] ≡ items_of (cond b (Some e.1) (vec_at es f))
    step true h = refl
    step false h = h

pub ids_in-at : (entries : List (Fp × Vec ℕ)) (f : Fp) (v : Vec ℕ) → vec_at entries f ≡ Some v → ids_in entries f ≡ v.items
ids_in-at entries f v e = ids_in-is entries f ∙ ap items_of e

pub ids_in-none : (entries : List (Fp × Vec ℕ)) (f : Fp) → vec_at entries f ≡ None → ids_in entries f ≡ []
ids_in-none entries f e = ids_in-is entries f ∙ ap items_of e

pub fp_self : (f : Fp) → same_fp f f ≡ true
fp_self f = bytes_eq-same f.0

-- new has w at the fingerprint, and at each other one what old has
abbrev pub IsUpdated : List (Fp × Vec ℕ) → List (Fp × Vec ℕ) → Fp → Option (Vec ℕ) → Type 0
IsUpdated old new fp w = (q : Fp) → vec_at new q ≡ cond (same_fp fp q) w (vec_at old q)

pub ids-updated : (old new : List (Fp × Vec ℕ)) (fp : Fp) (w : Option (Vec ℕ)) → IsUpdated old new fp w → (f : Fp) → ids_in new f ≡ cond (same_fp fp f) (items_of w) (ids_in old f)
ids-updated old new fp w h f = ids_in-is new f ∙ ap items_of (h f) ∙ step (same_fp fp f)
  where
    step : (b : Bool) → items_of (cond b w (vec_at old f)) ≡ cond b (items_of w) (ids_in old f)
    step true = refl
    step false = sym (ids_in-is old f)

-- where the list at the fingerprint is g of the one before
pub ids-written : (old new : List (Fp × Vec ℕ)) (fp : Fp) (w : Option (Vec ℕ)) → IsUpdated old new fp w → (g : List ℕ → List ℕ) → items_of w ≡ g (ids_in old fp)
    → (f : Fp) → ids_in new f ≡ cond (same_fp fp f) (g (ids_in old f)) (ids_in old f)
ids-written old new fp w h g e f = ids-updated old new fp w h f ∙ step (same_fp fp f) refl
  where
    step : (b : Bool) → same_fp fp f ≡ b → cond b (items_of w) (ids_in old f) ≡ cond b (g (ids_in old f)) (ids_in old f)
    step true t = e ∙ ap (λ q. g (ids_in old q)) (same_fps fp f t)
    step false t = refl

-- where it stays as it was
pub ids-same : (old new : List (Fp × Vec ℕ)) (fp : Fp) (w : Option (Vec ℕ)) → IsUpdated old new fp w → items_of w ≡ ids_in old fp → (f : Fp) → ids_in new f ≡ ids_in old f
ids-same old new fp w h e f = ids-written old new fp w h (λ ns. ns) e f ∙ step (same_fp fp f)
  where
    step : (b : Bool) → cond b (ids_in old f) (ids_in old f) ≡ ids_in old f
    step true = refl
    step false = refl

-- room

pub takes-at : (entries : List (Fp × Vec ℕ)) (id : ℕ) (f : Fp) (v : Vec ℕ) → vec_at entries f ≡ Some v → TakesId entries id f → HasRoomFor id v
takes-at entries id f v e h = subst (λ o. IsSomeAnd o (HasRoomFor id)) e h

pub takes-written : (old new : List (Fp × Vec ℕ)) (id : ℕ) (fp : Fp) (w : Vec ℕ) → IsUpdated old new fp (Some w) → HasRoomFor id w → (f : Fp) → TakesId old id f → TakesId new id f
takes-written old new id fp w h t f i = subst (λ o. IsSomeAnd o (HasRoomFor id)) (sym (h f)) (step (same_fp fp f))
  where
    step : (b : Bool) → IsSomeAnd (cond b (Some w) (vec_at old f)) (HasRoomFor id)
    step true = t
    step false = i

-- the room of v, or its place for the id, is in a vector with its elements and no less capacity
pub takes-grown : (id : ℕ) (v w : Vec ℕ) → w.items ≡ v.items → vec_len w ≡ vec_len v → vec_capacity v ≤ vec_capacity w → HasRoomFor id v → HasRoomFor id w
takes-grown id v w e l c h = elim h [ inl there ↦ inl (ap (has id) e ∙ there) | inr room ↦ inr (omega arith) ]

pub takes-there : (id : ℕ) (w : Vec ℕ) (ns : List ℕ) → w.items ≡ with_number id ns → HasRoomFor id w
takes-there id w ns e =
    let self : nat_eq id id ≡ true = grind (arith, nat_tests) in
    inl (ap (has id) e ∙ has-with_number id id ns ∙ ap (λ b. b || has id ns) self)

-- rows

pub row_has-more : (f : Fp) (rows : List TableRow) (i : ℕ) (d : TableRow) → i < length rows → row_has f (take (i + 1) rows) ≡ (row_has f (take i rows) || (same_fp (get_or rows i d).fp f || false))
row_has-more f rows i d l =
    ap (row_has f) (take_more rows i d l) ∙ list_any-append (λ r. same_fp r.fp f) (take i rows) (get_or rows i d ∷ [])

pub written-at : (old new : List (Fp × Vec ℕ)) (fp : Fp) (w : Option (Vec ℕ)) → IsUpdated old new fp w → ids_in new fp ≡ items_of w
written-at old new fp w h = ids-updated old new fp w h fp ∙ ap (λ b. cond b (items_of w) (ids_in old fp)) (fp_self fp)

-- where there is no list, there is nothing to take out
pub without-absent : (entries : List (Fp × Vec ℕ)) (fp : Fp) (id : ℕ) → vec_at entries fp ≡ None → (f : Fp) → ids_in entries f ≡ cond (same_fp fp f) (without id (ids_in entries f)) (ids_in entries f)
without-absent entries fp id e f = step (same_fp fp f) refl
  where
    step : (b : Bool) → same_fp fp f ≡ b → ids_in entries f ≡ cond b (without id (ids_in entries f)) (ids_in entries f)
    step true t =
        let nothing : ids_in entries f ≡ [] = ap (ids_in entries) (sym (same_fps fp f t)) ∙ ids_in-none entries fp e in
        nothing ∙ sym (ap (without id) nothing)
    step false t = refl

pub takes-kept : (old new : List (Fp × Vec ℕ)) (id : ℕ) (fp : Fp) (v w : Vec ℕ) → vec_at old fp ≡ Some v → IsUpdated old new fp (Some w) → (HasRoomFor id v → HasRoomFor id w) → (f : Fp) → TakesId old id f → TakesId new id f
takes-kept old new id fp v w e h t f i = subst (λ o. IsSomeAnd o (HasRoomFor id)) (sym (h f)) (step (same_fp fp f) refl)
  where
    step : (b : Bool) → same_fp fp f ≡ b → IsSomeAnd (cond b (Some w) (vec_at old f)) (HasRoomFor id)
    step true u = t (takes-at old id fp v e (subst (TakesId old id) (sym (same_fps fp f u)) i))
    step false u = i

pub nothing-left : (ns : List ℕ) → length ns ≡ 0 → ns ≡ []
nothing-left [] e = refl
nothing-left (n ∷ ns) e = absurd (omega arith)

-- the lists stay, and there is room at each of these rows
pub record HasRoom (old new : List (Fp × Vec ℕ)) (id : ℕ) (rows : List TableRow) : Type 0 where
  pub same : (f : Fp) → ids_in new f ≡ ids_in old f
  pub room : TakesRows new id rows

all-append : {X : Type 0} (P : X → Type 0) (xs ys : List X) → AllByRecursion P xs → AllByRecursion P ys → AllByRecursion P (xs ++ ys)
all-append P [] ys h i = i
all-append P (x ∷ xs) ys h i = (h.0, all-append P xs ys h.1 i)

all-at : {X : Type 0} (P : X → Type 0) (xs : List X) (i : ℕ) (d : X) → i < length xs → AllByRecursion P xs → P (get_or xs i d)
all-at P [] i d l h = absurd (omega arith)
all-at P (x ∷ xs) zero d l h = h.0
all-at P (x ∷ xs) (suc i) d l h = all-at P xs i d (omega arith) h.1

all-map : {X : Type 0} (P Q : X → Type 0) → ((x : X) → P x → Q x) → (xs : List X) → AllByRecursion P xs → AllByRecursion Q xs
all-map P Q f [] h = tt
all-map P Q f (x ∷ xs) h = (f x h.0, all-map P Q f xs h.1)

pub rows-room : (entries : List (Fp × Vec ℕ)) (id : ℕ) (rows : List TableRow) (i : ℕ) (d : TableRow) → i < length rows → TakesRows entries id rows → TakesId entries id (get_or rows i d).fp
rows-room entries id rows i d l h = all-at (λ r. TakesId entries id r.fp) rows i d l h

pub rows-kept : (old new : List (Fp × Vec ℕ)) (id : ℕ) (rows : List TableRow) → ((f : Fp) → TakesId old id f → TakesId new id f) → TakesRows old id rows → TakesRows new id rows
rows-kept old new id rows h t = all-map (λ r. TakesId old id r.fp) (λ r. TakesId new id r.fp) (λ r. h r.fp) rows t

pub rows-more : (entries : List (Fp × Vec ℕ)) (id : ℕ) (rows : List TableRow) (i : ℕ) (d : TableRow) → i < length rows → TakesRows entries id (take i rows) → TakesId entries id (get_or rows i d).fp → TakesRows entries id (take (i + 1) rows)
rows-more entries id rows i d l h t = subst (TakesRows entries id) (sym (take_more rows i d l)) (all-append (λ r. TakesId entries id r.fp) (take i rows) (get_or rows i d ∷ []) h (t, tt))

-- g was done at the fingerprints of these rows
abbrev pub AreDone : (List ℕ → List ℕ) → List (Fp × Vec ℕ) → List (Fp × Vec ℕ) → List TableRow → Type 0
AreDone g old new rows = (f : Fp) → ids_in new f ≡ cond (row_has f rows) (g (ids_in old f)) (ids_in old f)

pub done-none : (g : List ℕ → List ℕ) (entries : List (Fp × Vec ℕ)) → AreDone g entries entries []
done-none g entries = λ f. refl

-- where g done twice is g
pub done-more : (g : List ℕ → List ℕ) (old mid new : List (Fp × Vec ℕ)) (rows : List TableRow) (i : ℕ) (d : TableRow) → i < length rows → ((f : Fp) → g (g (ids_in old f)) ≡ g (ids_in old f))
    → AreDone g old mid (take i rows) → ((f : Fp) → ids_in new f ≡ cond (same_fp (get_or rows i d).fp f) (g (ids_in mid f)) (ids_in mid f)) → AreDone g old new (take (i + 1) rows)
done-more g old mid new rows i d l twice h n = λ f.
    n f
    ∙ ap (λ ns. cond (same_fp (get_or rows i d).fp f) (g ns) ns) (h f)
    ∙ step f (row_has f (take i rows)) (same_fp (get_or rows i d).fp f)
    ∙ sym (ap (λ b. cond b (g (ids_in old f)) (ids_in old f)) (row_has-more f rows i d l))
  where
    step : (f : Fp) (a b : Bool) → cond b (g (cond a (g (ids_in old f)) (ids_in old f))) (cond a (g (ids_in old f)) (ids_in old f)) ≡ cond (a || (b || false)) (g (ids_in old f)) (ids_in old f)
    step f true true = twice f
    step f true false = refl
    step f false true = refl
    step f false false = refl

pub ascend-done : (g : List ℕ → List ℕ) (old new : List (Fp × Vec ℕ)) (rows : List TableRow) → ((ns : List ℕ) → IsAscending ns → IsAscending (g ns)) → AllAscend old → AreDone g old new rows → AllAscend new
ascend-done g old new rows up h n = λ f. subst IsAscending (sym (n f)) (step f (row_has f rows))
  where
    step : (f : Fp) (b : Bool) → IsAscending (cond b (g (ids_in old f)) (ids_in old f))
    step f true = up (ids_in old f) (h f)
    step f false = h f

pub with_number-twice : (id : ℕ) (ns : List ℕ) → IsAscending ns → with_number id (with_number id ns) ≡ with_number id ns
with_number-twice id ns h =
    let self : nat_eq id id ≡ true = grind (arith, nat_tests) in
    with_number-there id (with_number id ns) (IsAscending-with_number id ns h) (has-with_number id id ns ∙ ap (λ b. b || has id ns) self)

pub without-twice : (id : ℕ) (ns : List ℕ) → IsAscending ns → without id (without id ns) ≡ without id ns
without-twice id ns h =
    let self : nat_eq id id ≡ true = grind (arith, nat_tests) in
    without-none id (without id ns) (IsAscending-without id ns h) (has-without id id ns ∙ ap (λ b. not b && has id ns) self)
