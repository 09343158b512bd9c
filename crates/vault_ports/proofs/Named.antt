-- Names and their bytes.
use Rattle.std.proofs.Common.{◌≡◌, ◌≢◌, ℕ, zero, suc, ◌+◌, ◌<◌, List, [], ◌∷◌, ◌++◌, length, Bool, true, false, cond, Option, Some, None, Vec, refl, sym, ◌∙◌, ap, subst, arith, get_or, drop}
use Rattle.std.proofs.Math.ListN.{set}
use Rattle.std.proofs.lemmas.List.{drop_more}
use Rattle.std.specs.declared.alloc.Global.{Global}
use Rattle.std.specs.declared.string.String.{String}
use Rattle.std.specs.String.{string_bytes}
use Rattle.std.specs.Str.{bytes_eq}
use Rattle.vault_types.proofs.FillLemmas.{bytes_eq-same, same_bytes}
use Rattle.vault_ports.specs.Places.{Named, file_at, files_of, IsFirst, IsFiled}

other_bytes : (p q : List ℕ) → p ≢ q → bytes_eq p q ≡ false
other_bytes p q other = by (bytes_eq p q) refl
  where
    by : (b : Bool) → bytes_eq p q ≡ b → bytes_eq p q ≡ false
    by true is = absurd (other (same_bytes p q is))
    by false is = is

-- what stands first is found
pub first_found : (fs : Named) (name : List ℕ) (i : ℕ) (d : List ℕ × List ℕ) → IsFirst fs name i → file_at fs name ≡ Some (get_or fs i d).1
first_found [] name i d first = absurd first
first_found (f ∷ fs) name zero d first = ap (λ (b : Bool). cond b (Some f.1) (file_at fs name)) (ap (bytes_eq name) first ∙ bytes_eq-same name)
first_found (f ∷ fs) name (suc i) d first = ap (λ (b : Bool). cond b (Some f.1) (file_at fs name)) (other_bytes name f.0 (λ e. first.0 (sym e))) ∙ first_found fs name i d first.1

swap : (a b : Bool) (x y z : Option (List ℕ)) → (a ≡ true → b ≡ true → ⊥) → cond a x (cond b y z) ≡ cond b y (cond a x z)
swap true true x y z apart = absurd (apart refl refl)
swap true false x y z apart = refl
swap false true x y z apart = refl
swap false false x y z apart = refl

-- what stands first is given other bytes
pub first_given : (fs : Named) (name bytes : List ℕ) (i : ℕ) → IsFirst fs name i → IsFiled fs (set fs i (name, bytes)) name bytes
first_given [] name bytes i first q = absurd first
first_given (f ∷ fs) name bytes zero first q =
    (again (bytes_eq q name) ∙ ap (λ (n : List ℕ). cond (bytes_eq q name) (Some bytes) (cond (bytes_eq q n) (Some f.1) (file_at fs q))) (sym first))
  where
    again : (b : Bool) → cond b (Some bytes) (file_at fs q) ≡ cond b (Some bytes) (cond b (Some f.1) (file_at fs q))
    again true = refl
    again false = refl
first_given (f ∷ fs) name bytes (suc i) first q =
    ap (cond (bytes_eq q f.0) (Some f.1)) (first_given fs name bytes i first.1 q)
    ∙ swap (bytes_eq q f.0) (bytes_eq q name) (Some f.1) (Some bytes) (file_at fs q) (λ a b. first.0 (sym (same_bytes q f.0 a) ∙ same_bytes q name b))

-- a new name at the end
pub filed_last : (fs : Named) (name bytes : List ℕ) → file_at fs name ≡ None → IsFiled fs (fs ++ (name, bytes) ∷ []) name bytes
filed_last [] name bytes none q = refl
filed_last (f ∷ fs) name bytes none q =
    ap (cond (bytes_eq q f.0) (Some f.1)) (filed_last fs name bytes (rest (bytes_eq name f.0) refl) q)
    ∙ swap (bytes_eq q f.0) (bytes_eq q name) (Some f.1) (Some bytes) (file_at fs q) (λ a b. absent (ap (λ (n : List ℕ). bytes_eq n f.0) (sym (same_bytes q name b)) ∙ a))
  where
    not_none : Some f.1 ≡ None → ⊥
    not_none e = cc

    absent : bytes_eq name f.0 ≡ true → ⊥
    absent is = not_none (sym (ap (λ (b : Bool). cond b (Some f.1) (file_at fs name)) is) ∙ none)

    rest : (b : Bool) → bytes_eq name f.0 ≡ b → file_at fs name ≡ None
    rest true is = absurd (absent is)
    rest false is = sym (ap (λ (b : Bool). cond b (Some f.1) (file_at fs name)) is) ∙ none

-- ---- of the list in memory

abbrev pub Listed : Type 0
Listed = List (String Global × Vec ℕ Global)

-- the search so far: whatever stands first from here on stands first
pub record SearchedTo (fs : Listed) (name : List ℕ) (i : ℕ) : Type 0 where
  pub first : (j : ℕ) → IsFirst (files_of (drop i fs)) name j → IsFirst (files_of fs) name (i + j)
  pub none : file_at (files_of (drop i fs)) name ≡ None → file_at (files_of fs) name ≡ None

pub searched_none : (fs : Listed) (name : List ℕ) → SearchedTo fs name 0
searched_none fs name = record { first = λ j is. subst (IsFirst (files_of fs) name) (let e : j ≡ 0 + j = omega arith in e) is; none = λ is. is }

pub searched_more : (fs : Listed) (name : List ℕ) (i : ℕ) (f : String Global × Vec ℕ Global) → drop i fs ≡ f ∷ drop (i + 1) fs → string_bytes f.0 ≢ name → SearchedTo fs name i → SearchedTo fs name (i + 1)
searched_more fs name i f front other so_far = record {
  first = λ j is. subst (IsFirst (files_of fs) name) (let e : i + suc j ≡ i + 1 + j = omega arith in e) (so_far.first (suc j) (subst (λ (l : Listed). IsFirst (files_of l) name (suc j)) (sym front) (other, is)));
  none = λ is. so_far.none (ap (λ (l : Listed). file_at (files_of l) name) front ∙ ap (λ (b : Bool). cond b (Some f.1.items) (file_at (files_of (drop (i + 1) fs)) name)) (other_bytes name (string_bytes f.0) (λ e. other (sym e))) ∙ is);
}

pub found_here : (fs : Listed) (name : List ℕ) (i : ℕ) (f : String Global × Vec ℕ Global) → drop i fs ≡ f ∷ drop (i + 1) fs → string_bytes f.0 ≡ name → SearchedTo fs name i → IsFirst (files_of fs) name i
found_here fs name i f front is so_far = subst (IsFirst (files_of fs) name) (let e : i + 0 ≡ i = omega arith in e) (so_far.first 0 (subst (λ (l : Listed). IsFirst (files_of l) name 0) (sym front) is))

pub get-files_of : (fs : Listed) (i : ℕ) (d : String Global × Vec ℕ Global) → get_or (files_of fs) i (string_bytes d.0, d.1.items) ≡ (string_bytes (get_or fs i d).0, (get_or fs i d).1.items)
get-files_of [] i d = refl
get-files_of (f ∷ fs) zero d = refl
get-files_of (f ∷ fs) (suc i) d = get-files_of fs i d

pub set-files_of : (fs : Listed) (i : ℕ) (f : String Global × Vec ℕ Global) → files_of (set fs i f) ≡ set (files_of fs) i (string_bytes f.0, f.1.items)
set-files_of [] i f = refl
set-files_of (g ∷ fs) zero f = refl
set-files_of (g ∷ fs) (suc i) f = ap (λ (l : Named). (string_bytes g.0, g.1.items) ∷ l) (set-files_of fs i f)

pub push-files_of : (fs : Listed) (f : String Global × Vec ℕ Global) → files_of (fs ++ f ∷ []) ≡ files_of fs ++ (string_bytes f.0, f.1.items) ∷ []
push-files_of [] f = refl
push-files_of (g ∷ fs) f = ap (λ (l : Named). (string_bytes g.0, g.1.items) ∷ l) (push-files_of fs f)

pub first_name : (fs : Named) (name : List ℕ) (i : ℕ) (d : List ℕ × List ℕ) → IsFirst fs name i → (get_or fs i d).0 ≡ name
first_name [] name i d first = absurd first
first_name (f ∷ fs) name zero d first = first
first_name (f ∷ fs) name (suc i) d first = first_name fs name i d first.1

pub front_is : (fs : Listed) (i : ℕ) (f : String Global × Vec ℕ Global) → f ≡ get_or fs i f → i < length fs → drop i fs ≡ f ∷ drop (i + 1) fs
front_is fs i f is within = drop_more fs i f within ∙ ap (λ (g : String Global × Vec ℕ Global). g ∷ drop (i + 1) fs) (sym is)

pub found_bytes : (fs : Listed) (name : List ℕ) (i : ℕ) (f : String Global × Vec ℕ Global) → f ≡ get_or fs i f → IsFirst (files_of fs) name i → Some f.1.items ≡ file_at (files_of fs) name
found_bytes fs name i f is first = sym (first_found (files_of fs) name i (string_bytes f.0, f.1.items) first ∙ ap (λ (p : List ℕ × List ℕ). Some p.1) (get-files_of fs i f) ∙ ap (λ (g : String Global × Vec ℕ Global). Some g.1.items) (sym is))

pub given_bytes : (fs : Listed) (name : List ℕ) (i : ℕ) (f : String Global × Vec ℕ Global) (v : Vec ℕ Global) → f ≡ get_or fs i f → IsFirst (files_of fs) name i → IsFiled (files_of fs) (files_of (set fs i (f.0, v))) name v.items
given_bytes fs name i f v is first q =
    ap (λ (l : Named). file_at l q) (set-files_of fs i (f.0, v) ∙ ap (λ (n : List ℕ). set (files_of fs) i (n, v.items)) named)
    ∙ first_given (files_of fs) name v.items i first q
  where
    named : string_bytes f.0 ≡ name
    named = ap (λ (g : String Global × Vec ℕ Global). string_bytes g.0) is ∙ sym (ap (λ (p : List ℕ × List ℕ). p.0) (get-files_of fs i f)) ∙ first_name (files_of fs) name i (string_bytes f.0, f.1.items) first
