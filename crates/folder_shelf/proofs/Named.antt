-- Reading file names back.
use Rattle.std.proofs.Common.{◌≡◌, ◌≢◌, ◌<◌, ◌+◌, ◌*◌, ◌/◌, ◌%◌, ◌^◌, ◌==◌, ℕ, zero, suc, List, [], ◌∷◌, ◌++◌, codes, length, take, drop, get_or, ◌-◌, length-drop, Some, None, Option, Bool, false, if◌then◌else◌, rules, ◌⊎◌, inl, inr, ⊎_elim, IfSome, ◌↔◌, refl, sym, ◌∙◌, ap, subst, arith}
use Rattle.std.specs.Option.{option_map}
use Rattle.std.proofs.lemmas.List.{append_cancel_left, length-take-le, take_all}
use Rattle.vault_types.specs.declared.Kind.{Kind}
use Rattle.vault_types.specs.declared.Kind.TheVariants.{Table, Payload, Recipe, Floor}
use Rattle.vault_types.specs.declared.Name.{Name}
use Rattle.folder_shelf.specs.FileNames.{hex, recipe_tail, text_of, file_name, IsInReach, HasFile}
use Rattle.folder_shelf.proofs.HexTexts.{parts, inner}

-- what is read of a text of so many digits
abbrev pub Reads : ℕ → Option ℕ → List ℕ → Type 0
Reads k r text = (n : ℕ) → n < 16 ^ k → (r ≡ Some n ↔ hex k n ≡ text)

pub at_length : (k : ℕ) (text : List ℕ) (r : Option ℕ) → length text ≡ k → Reads (length text) r text → Reads k r text
at_length k text r e h = subst (λ (m : ℕ). Reads m r text) e h

abbrev is_none_here : Option ℕ → Type 0
is_none_here None = Unit {0}
is_none_here (Some n) = ⊥

pub none_some : {n : ℕ} → ◌≡◌ {A = Option ℕ} None (Some n) → ⊥
none_some e = subst is_none_here e tt

abbrev is_no_name : Option Name → Type 0
is_no_name None = Unit {0}
is_no_name (Some n) = ⊥

no_name : {n : Name} → ◌≡◌ {A = Option Name} None (Some n) → ⊥
no_name e = subst is_no_name e tt

-- a set
abbrev pub ReadsSet : Option ℕ → List ℕ → Type 0
ReadsSet r text = (s : ℕ) → s < 2 ^ 8 → (r ≡ Some s ↔ ((s ≢ 0) × (hex 2 s ≡ text)))

pub set_absent : (text : List ℕ) → Reads 2 None text → ReadsSet None text
set_absent text h s le = (λ e. absurd (none_some e), λ p. absurd (none_some ((h s le).1 p.1)))

pub set_zero : (text : List ℕ) → Reads 2 (Some 0) text → ReadsSet None text
set_zero text h s le = (λ e. absurd (none_some e), λ p. absurd (p.0 (sym (ap inner ((h s le).1 p.1)))))

pub set_some : (text : List ℕ) (set : ℕ) → set ≢ 0 → Reads 2 (Some set) text → ReadsSet (Some set) text
set_some text set some h s le = (λ e. (λ z. some (ap inner e ∙ z), (h s le).0 e), λ p. (h s le).1 p.1)

-- a recipe's tail by its set
pub tail_of_zero : (s v : ℕ) → s ≡ 0 → recipe_tail s v ≡ hex 8 v
tail_of_zero zero v e = refl
tail_of_zero (suc s) v e = absurd (omega (arith, e))

not_zero : (s : ℕ) → s ≢ 0 → (s == 0) ≡ false
not_zero s some = search (rules, some)

pub tail_of_some : (s v : ℕ) → s ≢ 0 → recipe_tail s v ≡ hex 2 s ++ 45 ∷ hex 8 v
tail_of_some s v some = ap (λ (b : Bool). if b then hex 8 v else hex 2 s ++ 45 ∷ hex 8 v) (not_zero s some)

length_of_some : (s v : ℕ) → s ≢ 0 → length (recipe_tail s v) ≡ 11
length_of_some s v some = ap (λ (l : List ℕ). length l) (tail_of_some s v some)

length_of_zero : (s v : ℕ) → s ≡ 0 → length (recipe_tail s v) ≡ 8
length_of_zero s v none = ap (λ (l : List ℕ). length l) (tail_of_zero s v none)

zero_or_not : (s : ℕ) → (s ≡ 0) ⊎ (s ≢ 0)
zero_or_not zero = inl refl
zero_or_not (suc s) = inr (λ e. omega (arith, e))

-- a tail of eight digits is of set 0
pub short_tail : (r : Option ℕ) (tail : List ℕ) → length tail ≡ 8 → IfSome r (λ n. n < 2 ^ 32) → Reads 8 r tail
    → (n : ℕ) → n < 2 ^ 40 → (r ≡ Some n ↔ recipe_tail (n / 2 ^ 32) (n % 2 ^ 32) ≡ tail)
short_tail r tail len small h n le = (forth, back) where
  forth : r ≡ Some n → recipe_tail (n / 2 ^ 32) (n % 2 ^ 32) ≡ tail
  forth e =
      let fits : n < 2 ^ 32 = subst (λ (o : Option ℕ). IfSome o (λ n. n < 2 ^ 32)) e small in
      let low : n % 2 ^ 32 ≡ n = omega (arith, fits) in
      tail_of_zero (n / 2 ^ 32) (n % 2 ^ 32) (omega (arith, fits)) ∙ ap (λ (v : ℕ). hex 8 v) low ∙ (h n fits).0 e

  in_set_zero : n / 2 ^ 32 ≡ 0 → recipe_tail (n / 2 ^ 32) (n % 2 ^ 32) ≡ tail → r ≡ Some n
  in_set_zero high t =
      let fits : n < 2 ^ 32 = omega (arith, high) in
      let low : n % 2 ^ 32 ≡ n = omega (arith, high) in
      (h n fits).1 (ap (λ (v : ℕ). hex 8 v) (sym low) ∙ sym (tail_of_zero (n / 2 ^ 32) (n % 2 ^ 32) high) ∙ t)

  back : recipe_tail (n / 2 ^ 32) (n % 2 ^ 32) ≡ tail → r ≡ Some n
  back t = ⊎_elim (λ z. in_set_zero z t) (λ some. let l = length_of_some (n / 2 ^ 32) (n % 2 ^ 32) some in let t = ap (λ (l : List ℕ). length l) t in absurd (omega (arith, l, t, len))) (zero_or_not (n / 2 ^ 32))

-- a longer tail is a set, a hyphen and a version
pub long_tail : (rs rv : Option ℕ) (tail a b : List ℕ) → tail ≡ a ++ 45 ∷ b → length a ≡ 2 → length tail ≡ 11 → ReadsSet rs a → Reads 8 rv b
    → (s v : ℕ) → s < 2 ^ 8 → v < 2 ^ 32 → (((rs ≡ Some s) × (rv ≡ Some v)) ↔ recipe_tail s v ≡ tail)
long_tail rs rv tail a b is la len hs hv s v les lev = (forth, back) where
  forth : (rs ≡ Some s) × (rv ≡ Some v) → recipe_tail s v ≡ tail
  forth p =
      let set = (hs s les).0 p.0 in
      tail_of_some s v set.0 ∙ ap (λ (l : List ℕ). l ++ 45 ∷ hex 8 v) set.1 ∙ ap (λ (l : List ℕ). a ++ 45 ∷ l) ((hv v lev).0 p.1) ∙ sym is

  apart : s ≢ 0 → recipe_tail s v ≡ tail → (rs ≡ Some s) × (rv ≡ Some v)
  apart some t =
      let both = parts (hex 2 s) a (45 ∷ hex 8 v) (45 ∷ b) (sym la) (sym (tail_of_some s v some) ∙ t ∙ is) in
      ((hs s les).1 (some, both.0), (hv v lev).1 (ap (λ (l : List ℕ). drop 1 l) both.1))

  back : recipe_tail s v ≡ tail → (rs ≡ Some s) × (rv ≡ Some v)
  back t = ⊎_elim (λ z. let l = length_of_zero s v z in let t = ap (λ (l : List ℕ). length l) t in absurd (omega (arith, l, t, len))) (λ some. apart some t) (zero_or_not s)

-- a tail with a set that is none, or a version that is none, is of no recipe
pub no_version : (rs : Option ℕ) (tail a b : List ℕ) → tail ≡ a ++ 45 ∷ b → length a ≡ 2 → length tail ≡ 11 → ReadsSet rs a → Reads 8 None b
    → (n : ℕ) → n < 2 ^ 40 → (None ≡ Some n ↔ recipe_tail (n / 2 ^ 32) (n % 2 ^ 32) ≡ tail)
no_version rs tail a b is la len hs hv n le =
    (λ e. absurd (none_some e), λ t. absurd (none_some ((long_tail rs None tail a b is la len hs hv (n / 2 ^ 32) (n % 2 ^ 32) (omega (arith, le)) (omega arith)).1 t).1))

pub no_set : (tail a b : List ℕ) (rv : Option ℕ) → tail ≡ a ++ 45 ∷ b → length a ≡ 2 → length tail ≡ 11 → ReadsSet None a → Reads 8 rv b
    → (n : ℕ) → n < 2 ^ 40 → (None ≡ Some n ↔ recipe_tail (n / 2 ^ 32) (n % 2 ^ 32) ≡ tail)
no_set tail a b rv is la len hs hv n le =
    (λ e. absurd (none_some e), λ t. absurd (none_some ((long_tail None rv tail a b is la len hs hv (n / 2 ^ 32) (n % 2 ^ 32) (omega (arith, le)) (omega arith)).1 t).0))

pub both_found : (s v : ℕ) (tail a b : List ℕ) → tail ≡ a ++ 45 ∷ b → length a ≡ 2 → length tail ≡ 11 → s < 2 ^ 8 → v < 2 ^ 32
    → ReadsSet (Some s) a → Reads 8 (Some v) b
    → (n : ℕ) → n < 2 ^ 40 → (Some (s * 2 ^ 32 + v) ≡ Some n ↔ recipe_tail (n / 2 ^ 32) (n % 2 ^ 32) ≡ tail)
both_found s v tail a b is la len les lev hs hv n le =
    let long = long_tail (Some s) (Some v) tail a b is la len hs hv (n / 2 ^ 32) (n % 2 ^ 32) (omega (arith, le)) (omega arith) in (
      (λ e.
          let value : n ≡ s * 2 ^ 32 + v = sym (ap inner e) in
          let high : s ≡ n / 2 ^ 32 = omega (arith, value, lev) in
          let low : v ≡ n % 2 ^ 32 = omega (arith, value, lev) in
          long.0 (ap (λ (m : ℕ). Some m) high, ap (λ (m : ℕ). Some m) low)),
      (λ t.
          let both = long.1 t in
          let high : s ≡ n / 2 ^ 32 = ap inner both.0 in
          let low : v ≡ n % 2 ^ 32 = ap inner both.1 in
          let value : s * 2 ^ 32 + v ≡ n = omega (arith, high, low) in
          ap (λ (m : ℕ). Some m) value),
    )

-- a tail of eleven bytes with a hyphen behind the set
pub with_hyphen : (tail : List ℕ) → length tail ≡ 11 → get_or tail 2 0 ≡ 45 → tail ≡ take 2 tail ++ 45 ∷ drop 3 tail
with_hyphen [] len e = absurd (omega (arith, len))
with_hyphen (x ∷ []) len e = absurd (omega (arith, len))
with_hyphen (x ∷ y ∷ []) len e = absurd (omega (arith, len))
with_hyphen (x ∷ y ∷ z ∷ rest) len e = ap (λ (h : ℕ). x ∷ y ∷ h ∷ rest) e

pub cut_tail : (tail : List ℕ) → length tail ≡ 11 → get_or tail 2 0 ≡ 45
    → (tail ≡ take 2 tail ++ 45 ∷ take (length tail - 3) (drop 3 tail)) × (length (take 2 tail) ≡ 2) × (length (take (length tail - 3) (drop 3 tail)) ≡ 8)
cut_tail tail len e =
    let split = with_hyphen tail len e in
    let all : take (length tail - 3) (drop 3 tail) ≡ drop 3 tail = take_all (length tail - 3) (drop 3 tail) (omega (arith, length-drop 3 tail)) in
    (split ∙ ap (λ (l : List ℕ). take 2 tail ++ 45 ∷ l) (sym all), length-take-le 2 tail (omega (arith, len)), ap (λ (l : List ℕ). length l) all ∙ omega (arith, length-drop 3 tail, len))

-- which name a text is read as
abbrev name_in : Option Name → Name
name_in None = record { kind = Table; number = 0 }
name_in (Some name) = name

abbrev pub as_name : Kind → Option ℕ → Option Name
as_name k r = option_map (λ n. record { kind = k; number = n }) r

abbrev pub ReadsKind : Kind → Option ℕ → List ℕ → Type 0
ReadsKind k r text = (n : ℕ) → IsInReach k n → (r ≡ Some n ↔ text_of k n ≡ text)

abbrev pub IsOfKind : Kind → List ℕ → Type 0
IsOfKind k text = (other : Kind) (n : ℕ) → text_of other n ≡ text → other ≡ k

named_forth : (k : Kind) (r : Option ℕ) (text : List ℕ) → ReadsKind k r text → (name : Name) → HasFile name → as_name k r ≡ Some name → file_name name ≡ text
named_forth k None text h name reach e = absurd (no_name e)
named_forth k (Some m) text h name reach e =
    let same : record { kind = k; number = m } ≡ name = ap name_in e in
    ap file_name (sym same) ∙ (h m (subst HasFile (sym same) reach)).0 refl

named_back : (k : Kind) (r : Option ℕ) (text : List ℕ) → ReadsKind k r text → IsOfKind k text → (name : Name) → HasFile name → file_name name ≡ text → as_name k r ≡ Some name
named_back k r text h only name reach t =
    let kinds : name.kind ≡ k = only name.kind name.number t in
    let found : r ≡ Some name.number = (h name.number (subst (λ (q : Kind). IsInReach q name.number) kinds reach)).1 (subst (λ (q : Kind). text_of q name.number ≡ text) kinds t) in
    ap (λ (o : Option ℕ). as_name k o) found ∙ (λ i. Some (record { kind = sym kinds i; number = name.number }))

pub is_named : (k : Kind) (r : Option ℕ) (answer : Option Name) (text : List ℕ) → answer ≡ as_name k r → ReadsKind k r text → IsOfKind k text
    → (name : Name) → HasFile name → (answer ≡ Some name ↔ file_name name ≡ text)
is_named k r answer text is h only name reach =
    (λ e. named_forth k r text h name reach (sym is ∙ e), λ t. is ∙ named_back k r text h only name reach t)

abbrev head_of : List ℕ → ℕ
head_of l = get_or l 0 0

pub is_payload : (text tail : List ℕ) → text ≡ codes "payload-" ++ tail → IsOfKind Payload text
is_payload text tail is Table n t = let h : 116 ≡ 112 = ap head_of (t ∙ is) in absurd (omega (arith, h))
is_payload text tail is Payload n t = refl
is_payload text tail is Recipe n t = let h : 114 ≡ 112 = ap head_of (t ∙ is) in absurd (omega (arith, h))
is_payload text tail is Floor n t = let h : 102 ≡ 112 = ap head_of (t ∙ is) in absurd (omega (arith, h))

pub is_floor : (text tail : List ℕ) → text ≡ codes "floor" ++ tail → IsOfKind Floor text
is_floor text tail is Table n t = let h : 116 ≡ 102 = ap head_of (t ∙ is) in absurd (omega (arith, h))
is_floor text tail is Payload n t = let h : 112 ≡ 102 = ap head_of (t ∙ is) in absurd (omega (arith, h))
is_floor text tail is Recipe n t = let h : 114 ≡ 102 = ap head_of (t ∙ is) in absurd (omega (arith, h))
is_floor text tail is Floor n t = refl

-- a part is read where its text is behind the prefix
pub behind : (k : Kind) (r : Option ℕ) (prefix tail text : List ℕ) (part : ℕ → List ℕ) → text ≡ prefix ++ tail
    → ((n : ℕ) → text_of k n ≡ prefix ++ part n) → ((n : ℕ) → IsInReach k n → (r ≡ Some n ↔ part n ≡ tail)) → ReadsKind k r text
behind k r prefix tail text part is parts h n reach =
    (λ e. parts n ∙ ap (λ (l : List ℕ). prefix ++ l) ((h n reach).0 e) ∙ sym is, λ t. (h n reach).1 (append_cancel_left prefix (part n) tail (sym (parts n) ∙ t ∙ is)))
