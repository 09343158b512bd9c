-- Names and what is under them.
use Rattle.std.proofs.Common.{◌≡◌, ◌≢◌, ℕ, zero, suc, ◌+◌, ◌<◌, ◌≤◌, ◌^◌, List, [], ◌∷◌, ◌++◌, length, map, Bool, true, false, cond, Option, Some, None, refl, sym, ◌∙◌, ap, subst, arith, get_or, drop}
use Rattle.std.specs.Prelude.{codes, decimal, nat_eq, option_map, is_some}
use Rattle.std.specs.Option.{option_map_or, MatchOption}
use Rattle.std.specs.List.{range_with_len}
use Rattle.std.specs.Str.{bytes_eq}
use Rattle.std.proofs.Math.ListN.{set}
use Rattle.std.proofs.lemmas.List.{drop_more, append_assoc}
use Rattle.std.proofs.lemmas.List.FromFn.{map-range_with_len_more}
use Rattle.std.proofs.lemmas.Bool.Decides.{nat_tests}
use Rattle.std.proofs.lemmas.Fmt.{decimal_injective}
use Rattle.vault_types.proofs.FillLemmas.{bytes_eq-same, same_bytes}
use Rattle.vault_types.specs.Generator.{generated}
use Rattle.workload.specs.declared.place.FillPlace.{FillPlace}
use Rattle.workload.specs.Places.{source_name, source, written, sources, sources_to, place_at, version_at, generated_version, bytes_of_place, file_at, output_at, FilledPlaces, IsPlaced, IsFirst}

other_bytes : (p q : List ℕ) → p ≢ q → bytes_eq p q ≡ false
other_bytes p q other = by (bytes_eq p q) refl
  where
    by : (b : Bool) → bytes_eq p q ≡ b → bytes_eq p q ≡ false
    by true is = absurd (other (same_bytes p q is))
    by false is = is

-- what stands first is found
pub first_found : (ps : List FillPlace) (name : List ℕ) (i : ℕ) (d : FillPlace) → IsFirst ps name i → place_at ps name ≡ Some (get_or ps i d)
first_found [] name i d first = absurd first
first_found (p ∷ ps) name zero d first = ap (λ (b : Bool). cond b (Some p) (place_at ps name)) (ap (bytes_eq name) first ∙ bytes_eq-same name)
first_found (p ∷ ps) name (suc i) d first = ap (λ (b : Bool). cond b (Some p) (place_at ps name)) (other_bytes name p.name (λ e. first.0 (sym e))) ∙ first_found ps name i d first.1

pub first_name : (ps : List FillPlace) (name : List ℕ) (i : ℕ) (d : FillPlace) → IsFirst ps name i → (get_or ps i d).name ≡ name
first_name [] name i d first = absurd first
first_name (p ∷ ps) name zero d first = first
first_name (p ∷ ps) name (suc i) d first = first_name ps name i d first.1

swap : (a b : Bool) (x y z : Option FillPlace) → (a ≡ true → b ≡ true → ⊥) → cond a x (cond b y z) ≡ cond b y (cond a x z)
swap true true x y z apart = absurd (apart refl refl)
swap true false x y z apart = refl
swap false true x y z apart = refl
swap false false x y z apart = refl

-- what stands first is given bytes
pub first_given : (ps : List FillPlace) (name bytes : List ℕ) (i : ℕ) → IsFirst ps name i → IsPlaced ps (set ps i (written name bytes)) name bytes
first_given [] name bytes i first q = absurd first
first_given (p ∷ ps) name bytes zero first q =
    (again (bytes_eq q name) ∙ ap (λ (n : List ℕ). cond (bytes_eq q name) (Some (written name bytes)) (cond (bytes_eq q n) (Some p) (place_at ps q))) (sym first))
  where
    again : (b : Bool) → cond b (Some (written name bytes)) (place_at ps q) ≡ cond b (Some (written name bytes)) (cond b (Some p) (place_at ps q))
    again true = refl
    again false = refl
first_given (p ∷ ps) name bytes (suc i) first q =
    ap (cond (bytes_eq q p.name) (Some p)) (first_given ps name bytes i first.1 q)
    ∙ swap (bytes_eq q p.name) (bytes_eq q name) (Some p) (Some (written name bytes)) (place_at ps q) (λ a b. first.0 (sym (same_bytes q p.name a) ∙ same_bytes q name b))

-- the place that an index gives is written
pub given_bytes : (ps : List FillPlace) (name : List ℕ) (i : ℕ) (d new : FillPlace) (bytes : List ℕ) → new ≡ written (get_or ps i d).name bytes → IsFirst ps name i → IsPlaced ps (set ps i new) name bytes
given_bytes ps name i d new bytes is first =
    let made : new ≡ written name bytes = is ∙ ap (λ (n : List ℕ). written n bytes) (first_name ps name i d first) in
    subst (λ (q : FillPlace). IsPlaced ps (set ps i q) name bytes) (sym made) (first_given ps name bytes i first)

-- a new name at the end
pub placed_last : (ps : List FillPlace) (name bytes : List ℕ) → place_at ps name ≡ None → IsPlaced ps (ps ++ written name bytes ∷ []) name bytes
placed_last [] name bytes none q = refl
placed_last (p ∷ ps) name bytes none q =
    ap (cond (bytes_eq q p.name) (Some p)) (placed_last ps name bytes (rest (bytes_eq name p.name) refl) q)
    ∙ swap (bytes_eq q p.name) (bytes_eq q name) (Some p) (Some (written name bytes)) (place_at ps q) (λ a b. absent (ap (λ (n : List ℕ). bytes_eq n p.name) (sym (same_bytes q name b)) ∙ a))
  where
    not_none : Some p ≡ None → ⊥
    not_none e = cc

    absent : bytes_eq name p.name ≡ true → ⊥
    absent is = not_none (sym (ap (λ (b : Bool). cond b (Some p) (place_at ps name)) is) ∙ none)

    rest : (b : Bool) → bytes_eq name p.name ≡ b → place_at ps name ≡ None
    rest true is = absurd (absent is)
    rest false is = sym (ap (λ (b : Bool). cond b (Some p) (place_at ps name)) is) ∙ none

-- the search so far: whatever stands first from here on stands first
pub record SearchedTo (ps : List FillPlace) (name : List ℕ) (i : ℕ) : Type 0 where
  pub first : (j : ℕ) → IsFirst (drop i ps) name j → IsFirst ps name (i + j)
  pub none : place_at (drop i ps) name ≡ None → place_at ps name ≡ None

pub searched_none : (ps : List FillPlace) (name : List ℕ) → SearchedTo ps name 0
searched_none ps name = record { first = λ j is. subst (IsFirst ps name) (let e : j ≡ 0 + j = omega arith in e) is; none = λ is. is }

pub searched_more : (ps : List FillPlace) (name : List ℕ) (i : ℕ) (p : FillPlace) → drop i ps ≡ p ∷ drop (i + 1) ps → p.name ≢ name → SearchedTo ps name i → SearchedTo ps name (i + 1)
searched_more ps name i p front other so_far = record {
  first = λ j is. subst (IsFirst ps name) (let e : i + suc j ≡ i + 1 + j = omega arith in e) (so_far.first (suc j) (subst (λ (l : List FillPlace). IsFirst l name (suc j)) (sym front) (other, is)));
  none = λ is. so_far.none (ap (λ (l : List FillPlace). place_at l name) front ∙ ap (λ (b : Bool). cond b (Some p) (place_at (drop (i + 1) ps) name)) (other_bytes name p.name (λ e. other (sym e))) ∙ is);
}

pub found_here : (ps : List FillPlace) (name : List ℕ) (i : ℕ) (p : FillPlace) → drop i ps ≡ p ∷ drop (i + 1) ps → p.name ≡ name → SearchedTo ps name i → IsFirst ps name i
found_here ps name i p front is so_far = subst (IsFirst ps name) (let e : i + 0 ≡ i = omega arith in e) (so_far.first 0 (subst (λ (l : List FillPlace). IsFirst l name 0) (sym front) is))

pub front_is : (ps : List FillPlace) (i : ℕ) (p : FillPlace) → p ≡ get_or ps i p → i < length ps → drop i ps ≡ p ∷ drop (i + 1) ps
front_is ps i p is within = drop_more ps i p within ∙ ap (λ (q : FillPlace). q ∷ drop (i + 1) ps) (sym is)

-- ---- the sources

pub made_more : (before now new : List FillPlace) (place : FillPlace) (n : ℕ) → now ≡ before ++ map source (range_with_len 1 n) → place ≡ source (n + 1) → new ≡ now ++ place ∷ [] → new ≡ before ++ map source (range_with_len 1 (n + 1))
made_more before now new place n h e p =
    let last : 1 + n ≡ n + 1 = omega arith in
    p ∙ ap (λ (ls : List FillPlace). ls ++ place ∷ []) h ∙ append_assoc before (map source (range_with_len 1 n)) (place ∷ [])
    ∙ ap (λ (l : FillPlace). before ++ (map source (range_with_len 1 n) ++ l ∷ [])) e
    ∙ ap (λ (ls : List FillPlace). before ++ ls) (sym (map-range_with_len_more source 1 n (n + 1) last))

strip : (front a b : List ℕ) → front ++ a ≡ front ++ b → a ≡ b
strip [] a b e = e
strip (x ∷ xs) a b e = strip xs a b (let t : xs ++ a ≡ xs ++ b = cc in t)

-- names of different versions differ
names_differ : (u v : ℕ) → u < 2 ^ 64 → v < 2 ^ 64 → u ≢ v → source_name u ≢ source_name v
names_differ u v low high other same = other (decimal_injective u v low high (strip (codes "gen-") (decimal u) (decimal v) same))

-- the source of a version is found among those from a on
source_from : (a n v : ℕ) → a ≤ v → v < a + n → a + n < 2 ^ 64 → place_at (map source (range_with_len a n)) (source_name v) ≡ Some (source v)
source_from a zero v low high bound = absurd (omega arith)
source_from a (suc n) v low high bound =
    at (nat_eq a v) refl (λ (other : a ≢ v). source_from (a + 1) n v (let above : a + 1 ≤ v = omega arith in above) (let below : v < a + 1 + n = omega arith in below) (let fits : a + 1 + n < 2 ^ 64 = omega arith in fits))
  where
    at : (b : Bool) → nat_eq a v ≡ b → (a ≢ v → place_at (map source (range_with_len (a + 1) n)) (source_name v) ≡ Some (source v)) → cond (bytes_eq (source_name v) (source_name a)) (Some (source a)) (place_at (map source (range_with_len (a + 1) n)) (source_name v)) ≡ Some (source v)
    at true is rest =
        let same : a ≡ v = grind (arith, nat_tests) in
        ap (λ (u : ℕ). cond (bytes_eq (source_name v) (source_name u)) (Some (source u)) (place_at (map source (range_with_len (a + 1) n)) (source_name v))) same
        ∙ ap (λ (b : Bool). cond b (Some (source v)) (place_at (map source (range_with_len (a + 1) n)) (source_name v))) (bytes_eq-same (source_name v))
    at false is rest =
        let other : a ≢ v = grind (arith, nat_tests) in
        let back : v ≢ a = λ (e : v ≡ a). other (sym e) in
        let fits_v : v < 2 ^ 64 = omega arith in
        let fits_a : a < 2 ^ 64 = omega arith in
        ap (λ (b : Bool). cond b (Some (source a)) (place_at (map source (range_with_len (a + 1) n)) (source_name v))) (other_bytes (source_name v) (source_name a) (names_differ v a fits_v fits_a back))
        ∙ rest other

pub source_found : (v : ℕ) → 1 ≤ v → v ≤ 64 → place_at sources (source_name v) ≡ Some (source v)
unfolding sources
source_found v low high = source_from 1 64 v low (omega arith) (omega arith)

pub source_version : (v : ℕ) → 1 ≤ v → v ≤ 64 → version_at sources (source_name v) ≡ Some v
source_version v low high = ap (λ (p : Option FillPlace). option_map_or (λ q. q.version) p None) (source_found v low high)

pub source_bytes : (seed v : ℕ) → 1 ≤ v → v ≤ 64 → file_at seed sources (source_name v) ≡ Some (generated seed v)
unfolding generated_version
source_bytes seed v low high = ap (λ (p : Option FillPlace). option_map (λ q. bytes_of_place seed q) p) (source_found v low high)

-- a name that gives a version has its bytes
pub version_file : (seed v : ℕ) (places : List FillPlace) (name : List ℕ) → Some v ≡ version_at places name → Some (generated seed v) ≡ file_at seed places name
unfolding generated_version
version_file seed v places name = by (place_at places name)
  where
    by : (p : Option FillPlace) → Some v ≡ option_map_or (λ q. q.version) p None → Some (generated seed v) ≡ option_map (λ q. bytes_of_place seed q) p
    by None is = cc
    by (Some p) is = ap (λ (o : Option ℕ). Some (option_map_or (λ u. generated_version seed u) o p.bytes)) is

-- ---- of the calls

pub version_found : (ps : List FillPlace) (name : List ℕ) (i : ℕ) (p : FillPlace) → p ≡ get_or ps i p → IsFirst ps name i → version_at ps name ≡ p.version
version_found ps name i p at first = ap (λ (o : Option FillPlace). option_map_or (λ q. q.version) o None) (first_found ps name i p first ∙ ap (λ (q : FillPlace). Some q) (sym at))

output_found : (ps : List FillPlace) (name : List ℕ) (i : ℕ) (d : FillPlace) → IsFirst ps name i → output_at ps name ≡ option_map_or (λ v. None) (get_or ps i d).version (Some (get_or ps i d).bytes)
output_found ps name i d first = ap (λ (o : Option FillPlace). option_map_or (λ q. option_map_or (λ v. None) q.version (Some q.bytes)) o None) (first_found ps name i d first)

pub no_output : (ps : List FillPlace) (name : List ℕ) (i : ℕ) (d : FillPlace) (v : ℕ) → IsFirst ps name i → (get_or ps i d).version ≡ Some v → None ≡ output_at ps name
no_output ps name i d v first is = sym (output_found ps name i d first ∙ ap (λ (o : Option ℕ). option_map_or (λ u. None) o (Some (get_or ps i d).bytes)) is)

same_place : (ps : List FillPlace) (name : List ℕ) (i : ℕ) (d e : FillPlace) → IsFirst ps name i → get_or ps i d ≡ get_or ps i e
same_place [] name i d e first = absurd first
same_place (p ∷ ps) name zero d e first = refl
same_place (p ∷ ps) name (suc i) d e first = same_place ps name i d e first.1

pub some_output : (ps : List FillPlace) (name : List ℕ) (i : ℕ) (d e : FillPlace) (bytes : List ℕ) → IsFirst ps name i → (get_or ps i d).version ≡ None → bytes ≡ (get_or ps i e).bytes → Some bytes ≡ output_at ps name
some_output ps name i d e bytes first is same =
    ap (λ (b : List ℕ). Some b) (same ∙ ap (λ (p : FillPlace). p.bytes) (same_place ps name i e d first))
    ∙ sym (output_found ps name i d first ∙ ap (λ (o : Option ℕ). option_map_or (λ u. None) o (Some (get_or ps i d).bytes)) is)

abbrev pub Found : List FillPlace → List ℕ → Option ℕ → Type 0
Found ps name o = MatchOption o (place_at ps name ≡ None) (λ i. (i < length ps) × IsFirst ps name i)

pub there : (ps : List FillPlace) (name : List ℕ) (o : Option ℕ) → Found ps name o → is_some o ≡ true → is_some (place_at ps name) ≡ true
there ps name None found is = cc
there ps name (Some i) found is = ap (λ (p : Option FillPlace). is_some p) (first_found ps name i (written [] []) found.1)

pub nowhere : (ps : List FillPlace) (name : List ℕ) (o : Option ℕ) → Found ps name o → is_some o ≡ false → place_at ps name ≡ None
nowhere ps name None found is = found
nowhere ps name (Some i) found is = cc

pub placed_new : (ps new : List FillPlace) (name named bytes : List ℕ) → place_at ps name ≡ None → named ≡ name → bytes ≡ [] → new ≡ ps ++ written named bytes ∷ [] → IsPlaced ps new name []
placed_new ps new name named bytes none is empty made =
    let all : new ≡ ps ++ written name [] ∷ [] = made ∙ ap (λ (n : List ℕ). ps ++ written n bytes ∷ []) is ∙ ap (λ (b : List ℕ). ps ++ written name b ∷ []) empty in
    subst (λ (l : List FillPlace). IsPlaced ps l name []) (sym all) (placed_last ps name [] none)

pub all_sources : (before new : List FillPlace) → before ≡ [] → new ≡ before ++ sources_to 64 → new ≡ sources
unfolding sources
all_sources before new none is = is ∙ ap (λ (l : List FillPlace). l ++ sources_to 64) none

-- the places where nothing was written
abbrev pub filling : ℕ → List FillPlace → FilledPlaces
filling seed places = record { seed = seed; places = places; write_faults = 0 }
