-- The map of the floors in place.
use Rattle.std.proofs.Common.{◌≡◌, ◌≢◌, ℕ, zero, suc, ◌+◌, ◌≤◌, ◌<◌, List, [], ◌∷◌, ◌++◌, length, Bool, true, false, cond, ◌||◌, Option, Some, None, refl, sym, ◌∙◌, ap, arith, get_or, drop}
use Rattle.std.specs.Prelude.{is_some, replicate}
use Rattle.std.proofs.Math.ListN.{set}
use Rattle.std.proofs.lemmas.List.Folds.{list_any-append}
use Rattle.std.proofs.lemmas.List.{drop_all, append-nil}
use Rattle.std.specs.Set.{is_member}
use Rattle.std.specs.Ordering.{eq_by_cmp}
use Rattle.std.specs.FinMap.{get, get-empty, contains_key, empty}
use Rattle.vault_types.specs.declared.Name.{Name}
use Rattle.vault_types.specs.Shelf.{Blobs, name_cmp, with_blob, floor_name}
use Rattle.vault_traits.proofs.Maps.{get-with_blob, get_other, get_is, with_blob_comm, with_blob_twice, with_blob_absent}
use Rattle.vault_ports.specs.Mem.{floors_from}

pub floors_apart : (i j : ℕ) → i ≢ j → floor_name i ≢ floor_name j
floors_apart i j apart same = apart (ap (λ (n : Name). n.number) same)

pub name_at : (i : ℕ) → floor_name (0 + i) ≡ floor_name i
name_at i = ap floor_name (let e : 0 + i ≡ i = omega arith in e)

-- no floor of a set below s
pub none_below : (s i : ℕ) (fs : List (Option (List ℕ))) → i < s → get (floors_from s fs) (floor_name i) ≡ None
none_below s i [] below = get-empty name_cmp (floor_name i)
none_below s i (f ∷ fs) below = get_other (floors_from (s + 1) fs) (floor_name s) f (floor_name i) (floors_apart i s (λ e. absurd (omega arith))) ∙ none_below (s + 1) i fs (omega arith)

-- nothing but floors of sets in place
pub none_else : (s : ℕ) (fs : List (Option (List ℕ))) (q : Name) → ((i : ℕ) → i < length fs → q ≢ floor_name (s + i)) → get (floors_from s fs) q ≡ None
none_else s [] q other = get-empty name_cmp q
none_else s (f ∷ fs) q other =
    get_other (floors_from (s + 1) fs) (floor_name s) f q (λ e. other 0 (omega arith) (e ∙ ap floor_name (omega arith)))
    ∙ none_else (s + 1) fs q (λ i within e. other (i + 1) (omega arith) (e ∙ ap floor_name (omega arith)))

-- what is in a slot
pub get_slot : (s : ℕ) (fs : List (Option (List ℕ))) (i : ℕ) → i < length fs → get (floors_from s fs) (floor_name (s + i)) ≡ get_or fs i None
get_slot s [] i within = absurd (omega arith)
get_slot s (f ∷ fs) zero within = get_is (floors_from (s + 1) fs) (floor_name s) f (floor_name (s + 0)) (ap floor_name (omega arith))
get_slot s (f ∷ fs) (suc i) within =
    get_other (floors_from (s + 1) fs) (floor_name s) f (floor_name (s + suc i)) (floors_apart (s + suc i) s (λ e. absurd (omega arith)))
    ∙ ap (λ (n : ℕ). get (floors_from (s + 1) fs) (floor_name n)) (let e : s + suc i ≡ s + 1 + i = omega arith in e) ∙ get_slot (s + 1) fs i (omega arith)

-- a slot that is set
pub set_slot : (s : ℕ) (fs : List (Option (List ℕ))) (i : ℕ) (b : Option (List ℕ)) → i < length fs → floors_from s (set fs i b) ≡ with_blob (floors_from s fs) (floor_name (s + i)) b
set_slot s [] i b within = absurd (omega arith)
set_slot s (f ∷ fs) zero b within = sym (with_blob_twice (floors_from (s + 1) fs) (floor_name s) f b) ∙ ap (λ (n : ℕ). with_blob (with_blob (floors_from (s + 1) fs) (floor_name s) f) (floor_name n) b) (let e : s ≡ s + 0 = omega arith in e)
set_slot s (f ∷ fs) (suc i) b within =
    ap (λ (m : Blobs). with_blob m (floor_name s) f) (set_slot (s + 1) fs i b (omega arith))
    ∙ with_blob_comm (floors_from (s + 1) fs) (floor_name (s + 1 + i)) (floor_name s) b f (floors_apart (s + 1 + i) s (λ e. absurd (omega arith)))
    ∙ ap (λ (n : ℕ). with_blob (with_blob (floors_from (s + 1) fs) (floor_name s) f) (floor_name n) b) (let e : s + 1 + i ≡ s + suc i = omega arith in e)

-- a name that has no slot is taken out
pub not_there : (fs : List (Option (List ℕ))) (q : Name) → ((i : ℕ) → i < length fs → q ≢ floor_name i) → floors_from 0 fs ≡ with_blob (floors_from 0 fs) q None
not_there fs q other = sym (with_blob_absent (floors_from 0 fs) q (none_else 0 fs q (λ i within e. other i within (e ∙ ap floor_name (omega arith)))))

pub no_floors : (s n : ℕ) → floors_from s (replicate n None) ≡ empty
no_floors s zero = refl
no_floors s (suc n) = ap (λ (m : Blobs). with_blob m (floor_name s) None) (no_floors (s + 1) n) ∙ with_blob_absent empty (floor_name s) (get-empty name_cmp (floor_name s))

-- ---- names

abbrev pub floor_names : ℕ → List (Option (List ℕ)) → List Name
floor_names s [] = []
floor_names s (None ∷ fs) = floor_names (s + 1) fs
floor_names s (Some b ∷ fs) = floor_name s ∷ floor_names (s + 1) fs

pub names_of_floors : (s : ℕ) (fs : List (Option (List ℕ))) (q : Name) → is_member (eq_by_cmp name_cmp) (floor_names s fs) q ≡ contains_key (floors_from s fs) q
names_of_floors s [] q = sym (ap is_some (get-empty name_cmp q))
names_of_floors s (None ∷ fs) q = names_of_floors (s + 1) fs q ∙ ap is_some (ap (λ (m : Blobs). get m q) (sym (with_blob_absent (floors_from (s + 1) fs) (floor_name s) (none_below (s + 1) s fs (omega arith)))))
names_of_floors s (Some b ∷ fs) q = ap (λ (r : Bool). eq_by_cmp name_cmp q (floor_name s) || r) (names_of_floors (s + 1) fs q) ∙ choose (eq_by_cmp name_cmp q (floor_name s)) (get (floors_from (s + 1) fs) q) ∙ sym (ap is_some (get-with_blob (floors_from (s + 1) fs) (floor_name s) (Some b) q))
  where
    choose : (t : Bool) (o : Option (List ℕ)) → (t || is_some o) ≡ is_some (cond t (Some b) o)
    choose true o = refl
    choose false o = refl

abbrev pub name_if : ℕ → Option (List ℕ) → List Name
name_if s None = []
name_if s (Some b) = floor_name s ∷ []

pub names_step : (s : ℕ) (f : Option (List ℕ)) (fs : List (Option (List ℕ))) → floor_names s (f ∷ fs) ≡ name_if s f ++ floor_names (s + 1) fs
names_step s None fs = refl
names_step s (Some b) fs = refl

pub in_slot : (fs : List (Option (List ℕ))) (m : Blobs) (q : Name) (i : ℕ) → floors_from 0 fs ≡ m → i < length fs → q ≡ floor_name i → get m q ≡ get_or fs i None
in_slot fs m q i is within named =
    ap (λ (b : Blobs). get b q) (sym is) ∙ ap (λ (n : Name). get (floors_from 0 fs) n) (named ∙ sym (name_at i)) ∙ get_slot 0 fs i within

-- a name that is no set's
pub no_slot : (fs : List (Option (List ℕ))) (m : Blobs) (q : Name) → floors_from 0 fs ≡ m → ((i : ℕ) → i < length fs → q ≢ floor_name i) → get m q ≡ None
no_slot fs m q is other = ap (λ (b : Blobs). get b q) (sym is) ∙ none_else 0 fs q (λ i within e. other i within (e ∙ name_at i))

pub joined_names : (names old : List Name) (fs : List (Option (List ℕ))) (m : Blobs) (i : ℕ) → length fs ≤ i → floors_from 0 fs ≡ m → names ++ floor_names i (drop i fs) ≡ old ++ floor_names 0 fs
    → (q : Name) → is_member (eq_by_cmp name_cmp) names q ≡ (is_member (eq_by_cmp name_cmp) old q || contains_key m q)
joined_names names old fs m i done is same q =
    let all : drop i fs ≡ [] = drop_all i fs done in
    let whole : names ≡ old ++ floor_names 0 fs = sym (append-nil names) ∙ ap (λ (l : List (Option (List ℕ))). names ++ floor_names i l) (sym all) ∙ same in
    ap (λ (l : List Name). is_member (eq_by_cmp name_cmp) l q) whole ∙ list_any-append (eq_by_cmp name_cmp q) old (floor_names 0 fs)
    ∙ ap (λ (r : Bool). is_member (eq_by_cmp name_cmp) old q || r) (names_of_floors 0 fs q ∙ ap (λ (b : Blobs). contains_key b q) is)
