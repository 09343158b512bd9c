-- What a field takes is what spells its value, and what spells a value is read as it, whatever follows.
use Rattle.std.proofs.Common.{◌≡◌, ℕ, zero, suc, ◌+◌, ◌-◌, ◌*◌, ◌^◌, ◌<◌, ◌≤◌, Bool, true, false, cond, eqb, ltb, List, [], ◌∷◌, ◌++◌, length, get_or, take, drop, Option, Some, None, Result, Err, refl, sym, ap, subst, ◌∙◌, append_assoc, arith, inl, inr}
use Rattle.std.specs.List.{AllByRecursion, flat_map}
use Rattle.std.specs.Int.{Width, w32, w64, byte_len, from_be_bytes, to_be_bytes}
use Rattle.std.proofs.lemmas.Bool.{cases_lt, ltb-false, le-ltb}
use Rattle.std.proofs.lemmas.List.{append-nil, nil_from_length, take_at, drop_at, take-append-drop, length-append, length-take, get_or-drop, get_or-take, get_or_past}
use Rattle.std.proofs.lemmas.List.Concat.{flat_map-cons}
use Rattle.std.proofs.lemmas.Nat.{be_bytes_4, be_bytes_8, from_be_bytes-to_be_bytes_4, from_be_bytes-to_be_bytes_8}
use Rattle.vault_types.specs.declared.Fp.{Fp}
use Rattle.vault_types.specs.Names.{IsFp}
use Rattle.vault_types.specs.Blobs.{with_sum, set_mark}
use Rattle.sha1.specs.Sha1.{sha1}
use Rattle.blob_parts.specs.declared.unread.Unread.{Unread}
use Rattle.blob_parts.specs.declared.unread.Unread.TheVariants as unread
use Rattle.blob_parts.proofs.SumLemmas.{with_sum-parts, length-sha1}
use Rattle.blob_parts.specs.Reading.{◌>>=◌, Field, Fails, number_at, tag_at, fp_at, both_at, made_at, tested_at, many_at, wide_at, list_at}

abbrev pub IsBytes : List ℕ → Type 0
IsBytes bytes = (i : ℕ) → get_or bytes i 0 < 256

IsBytes-drop : (n : ℕ) (bytes : List ℕ) → IsBytes bytes → IsBytes (drop n bytes)
IsBytes-drop n bytes h i = rw get_or-drop (h (n + i))

IsBytes-take : (n : ℕ) (bytes : List ℕ) → IsBytes bytes → IsBytes (take n bytes)
IsBytes-take n bytes h i =
    elim (cases_lt i n) [
      | inl lt ↦ rw (get_or-take n bytes i 0 lt) (h i)
      | inr le ↦ rw (get_or_past (take n bytes) i 0 (omega (arith, length-take n bytes))) (omega arith)
    ]

each_byte : (bytes : List ℕ) → IsBytes bytes → AllByRecursion (λ b. b < 256) bytes
each_byte [] h = tt
each_byte (b ∷ bytes) h = (h 0, each_byte bytes (λ i. h (suc i)))

-- ---- steps that read something

pub bind_some : {A B : Type 0} (r : Option A) (f : A → Option B) (y : B) → (r >>= f) ≡ Some y → (x : A) × (r ≡ Some x) × (f x ≡ Some y)
bind_some None f y e = absurd cc
bind_some (Some x) f y e = (x, refl, e)

guard_some : {A : Type 0} (b : Bool) (x y : A) → cond b None (Some x) ≡ Some y → (b ≡ false) × (x ≡ y)
guard_some true x y e = absurd cc
guard_some false x y e = (refl, cc)

pub test_some : {A : Type 0} (b : Bool) (x y : A) → cond b (Some x) None ≡ Some y → (b ≡ true) × (x ≡ y)
test_some true x y e = (refl, cc)
test_some false x y e = absurd cc

abbrev found : {A : Type 0} → A → Option A
found x = Some x

pub some_is : {A : Type 0} (x y : A) → found x ≡ found y → x ≡ y
some_is x y e = cc

-- ---- fields

-- what was taken from the front
pub record Takes (bytes text rest : List ℕ) : Type 0 where
  pub parts : bytes ≡ text ++ rest
  pub rest_fits : IsBytes rest

Takes-then : (a x b y c : List ℕ) → Takes a x b → Takes b y c → Takes a (x ++ y) c
Takes-then a x b y c p q = record { parts = p.parts ∙ ap (λ (t : List ℕ). x ++ t) q.parts ∙ sym (append_assoc x y c); rest_fits = q.rest_fits }

-- the field reads exactly the values that fit, each by its spelling
pub record IsField {X : Type 0} (field : Field X) (spell : X → List ℕ) (Fits : X → Type 0) : Type 0 where
  pub takes : (bytes : List ℕ) (x : X) (rest : List ℕ) → IsBytes bytes → field bytes ≡ Some (x, rest) → Takes bytes (spell x) rest × Fits x
  pub again : (x : X) (rest : List ℕ) → Fits x → field (spell x ++ rest) ≡ Some (x, rest)

-- each value has one spelling, and no spelling begins another
pub field_same : {X : Type 0} {field : Field X} {spell : X → List ℕ} {Fits : X → Type 0} → IsField field spell Fits
    → (x y : X) (p q : List ℕ) → Fits x → Fits y → spell x ++ p ≡ spell y ++ q → (x ≡ y) × (p ≡ q)
field_same {X} {field} {spell} {Fits} is x y p q first second e =
    let both : (x, p) ≡ (y, q) = some_is (x, p) (y, q) (sym (is.again x p first) ∙ ap field e ∙ is.again y q second) in
    (ap (λ (z : X × List ℕ). z.0) both, ap (λ (z : X × List ℕ). z.1) both)

-- ---- numbers

record IsWide (w : Width) (limit : ℕ) : Type 0 where
  len : (n : ℕ) → length (to_be_bytes w n) ≡ byte_len w
  back : (bytes : List ℕ) → length bytes ≡ byte_len w → IsBytes bytes → to_be_bytes w (from_be_bytes w bytes) ≡ bytes
  over : (n : ℕ) → n < limit → from_be_bytes w (to_be_bytes w n) ≡ n
  below : (bytes : List ℕ) → IsBytes bytes → from_be_bytes w bytes < limit

number_takes : (w : Width) (limit : ℕ) (wide : IsWide w limit) (bytes : List ℕ) (n : ℕ) (rest : List ℕ) → IsBytes bytes → number_at w bytes ≡ Some (n, rest) → Takes bytes (to_be_bytes w n) rest × (n < limit)
number_takes w limit wide bytes n rest fits e =
    let g = guard_some (ltb (length bytes) (byte_len w)) (from_be_bytes w (take (byte_len w) bytes), drop (byte_len w) bytes) (n, rest) e in
    let long : byte_len w ≤ length bytes = ltb-false _ _ g.0 in
    let n-is : from_be_bytes w (take (byte_len w) bytes) ≡ n = ap (λ (p : ℕ × List ℕ). p.0) g.1 in
    let rest-is : drop (byte_len w) bytes ≡ rest = ap (λ (p : ℕ × List ℕ). p.1) g.1 in
    let front : to_be_bytes w n ≡ take (byte_len w) bytes = rw (← n-is) (wide.back (take (byte_len w) bytes) (omega (arith, length-take (byte_len w) bytes)) (IsBytes-take (byte_len w) bytes fits)) in
    (record { parts = rw (front, ← rest-is) (sym (take-append-drop (byte_len w) bytes)); rest_fits = rw (← rest-is) (IsBytes-drop (byte_len w) bytes fits) }, rw (← n-is) (wide.below (take (byte_len w) bytes) (IsBytes-take (byte_len w) bytes fits)))

number_again : (w : Width) (limit : ℕ) (wide : IsWide w limit) (n : ℕ) (rest : List ℕ) → n < limit → number_at w (to_be_bytes w n ++ rest) ≡ Some (n, rest)
number_again w limit wide n rest lt =
    let len = wide.len n in
    let long : ltb (length (to_be_bytes w n ++ rest)) (byte_len w) ≡ false = le-ltb _ _ (omega (arith, length-append (to_be_bytes w n) rest)) in
    rw (long, take_at (to_be_bytes w n) rest (byte_len w) len, drop_at (to_be_bytes w n) rest (byte_len w) len, wide.over n lt) refl

wide32 : IsWide w32 (2 ^ 32)
wide32 = record {
  len = λ n. refl;
  back = λ bytes len fits. be_bytes_4 bytes _ len fits refl;
  over = λ n lt. from_be_bytes-to_be_bytes_4 n lt;
  below = λ bytes fits. omega (arith, fits 0, fits 1, fits 2, fits 3);
}

wide64 : IsWide w64 (2 ^ 64)
wide64 = record {
  len = λ n. refl;
  back = λ bytes len fits. be_bytes_8 bytes _ len fits refl;
  over = λ n lt. from_be_bytes-to_be_bytes_8 n lt;
  below = λ bytes fits. omega (arith, fits 0, fits 1, fits 2, fits 3, fits 4, fits 5, fits 6, fits 7);
}

pub u32_field : IsField (number_at w32) (to_be_bytes w32) (λ n. n < 2 ^ 32)
u32_field = record { takes = number_takes w32 (2 ^ 32) wide32; again = number_again w32 (2 ^ 32) wide32 }

pub u64_field : IsField (number_at w64) (to_be_bytes w64) (λ n. n < 2 ^ 64)
u64_field = record { takes = number_takes w64 (2 ^ 64) wide64; again = number_again w64 (2 ^ 64) wide64 }

-- ---- sums

fp_takes : (bytes : List ℕ) (f : Fp) (rest : List ℕ) → IsBytes bytes → fp_at bytes ≡ Some (f, rest) → Takes bytes f.0 rest × IsFp f
fp_takes bytes f rest fits e =
    let g = guard_some (ltb (length bytes) 20) (record { 0 = take 20 bytes }, drop 20 bytes) (f, rest) e in
    let long : 20 ≤ length bytes = ltb-false _ _ g.0 in
    let made : Fp × List ℕ = (record { 0 = take 20 bytes }, drop 20 bytes) in
    let P : Fp × List ℕ → Type 0 = λ p. Takes bytes p.0.0 p.1 × IsFp p.0 in
    subst P g.1 (
      record { parts = sym (take-append-drop 20 bytes); rest_fits = IsBytes-drop 20 bytes fits },
      record { len = omega (arith, length-take 20 bytes); bytes = each_byte (take 20 bytes) (IsBytes-take 20 bytes fits) },
    )

fp_again : (f : Fp) (rest : List ℕ) → IsFp f → fp_at (f.0 ++ rest) ≡ Some (f, rest)
fp_again f rest fits =
    let len = fits.len in
    let long : ltb (length (f.0 ++ rest)) 20 ≡ false = le-ltb _ _ (omega (arith, length-append f.0 rest)) in
    rw (long, take_at f.0 rest 20 len, drop_at f.0 rest 20 len) refl

pub fp_field : IsField fp_at (λ f. f.0) IsFp
fp_field = record { takes = fp_takes; again = fp_again }

-- ---- fields of fields

module _ {X Y : Type 0} where
  pub both_field : {first : Field X} {spell : X → List ℕ} {Fits : X → Type 0} → IsField first spell Fits
      → {second : X → Field Y} {spells : X → Y → List ℕ} {AlsoFits : X → Y → Type 0} → ((x : X) → Fits x → IsField (second x) (spells x) (AlsoFits x))
      → IsField (both_at first second) (λ p. spell p.0 ++ spells p.0 p.1) (λ p. Fits p.0 × AlsoFits p.0 p.1)
  both_field {first} {spell} {Fits} one {second} {spells} {AlsoFits} two = record {
    takes = λ bytes p rest fits e.
        let a = bind_some (first bytes) (λ x. second x.0 x.1 >>= λ y. Some ((x.0, y.0), y.1)) (p, rest) e in
        let b = bind_some (second a.0.0 a.0.1) (λ y. Some ((a.0.0, y.0), y.1)) (p, rest) a.2 in
        let t = one.takes bytes a.0.0 a.0.1 fits a.1 in
        let u = (two a.0.0 t.1).takes a.0.1 b.0.0 b.0.1 t.0.rest_fits b.1 in
        let P : (X × Y) × List ℕ → Type 0 = λ z. Takes bytes (spell z.0.0 ++ spells z.0.0 z.0.1) z.1 × (Fits z.0.0 × AlsoFits z.0.0 z.0.1) in
        subst P (some_is ((a.0.0, b.0.0), b.0.1) (p, rest) b.2) (Takes-then bytes (spell a.0.0) a.0.1 (spells a.0.0 b.0.0) b.0.1 t.0 u.0, (t.1, u.1));
    again = λ p rest fits.
        ap (both_at first second) (append_assoc (spell p.0) (spells p.0 p.1) rest)
        ∙ ap (λ (r : Option (X × List ℕ)). r >>= λ x. second x.0 x.1 >>= λ y. Some ((x.0, y.0), y.1)) (one.again p.0 (spells p.0 p.1 ++ rest) fits.0)
        ∙ ap (λ (r : Option (Y × List ℕ)). r >>= λ y. Some ((p.0, y.0), y.1)) ((two p.0 fits.0).again p.1 rest fits.1);
  }

  pub made_field : {field : Field X} {spell : X → List ℕ} {Fits : X → Type 0} → IsField field spell Fits
      → (make : X → Y) (back : Y → X) (spells : Y → List ℕ) (AlsoFits : Y → Type 0)
      → ((x : X) → Fits x → AlsoFits (make x) × (spells (make x) ≡ spell x))
      → ((y : Y) → AlsoFits y → Fits (back y) × (make (back y) ≡ y))
      → IsField (made_at make field) spells AlsoFits
  made_field {field} {spell} {Fits} is make back spells AlsoFits there again = record {
    takes = λ bytes y rest fits e.
        let a = bind_some (field bytes) (λ x. Some (make x.0, x.1)) (y, rest) e in
        let t = is.takes bytes a.0.0 a.0.1 fits a.1 in
        let m = there a.0.0 t.1 in
        let P : Y × List ℕ → Type 0 = λ z. Takes bytes (spells z.0) z.1 × AlsoFits z.0 in
        subst P (some_is (make a.0.0, a.0.1) (y, rest) a.2) (subst (λ (s : List ℕ). Takes bytes s a.0.1) (sym m.1) t.0, m.0);
    again = λ y rest fits.
        let b = again y fits in
        let spelled : spells y ≡ spell (back y) = ap spells (sym b.1) ∙ (there (back y) b.0).1 in
        ap (λ (s : List ℕ). made_at make field (s ++ rest)) spelled
        ∙ ap (λ (r : Option (X × List ℕ)). r >>= λ x. Some (make x.0, x.1)) (is.again (back y) rest b.0)
        ∙ ap (λ (z : Y). Some (z, rest)) b.1;
  }

-- n values have width bytes each at least
long : {X : Type 0} (spell : X → List ℕ) (Fits : X → Type 0) (width : ℕ) → ((x : X) → Fits x → width ≤ length (spell x)) → (xs : List X) → AllByRecursion Fits xs → width * length xs ≤ length (flat_map spell xs)
long spell Fits width wide [] fits = omega arith
long spell Fits width wide (x ∷ xs) fits = omega (arith, wide x fits.0, long spell Fits width wide xs fits.1, ap length (flat_map-cons spell x xs), length-append (spell x) (flat_map spell xs))

module _ {X : Type 0} {field : Field X} {spell : X → List ℕ} {Fits : X → Type 0} where
  pub tested_field : IsField field spell Fits → (test : X → Bool) → IsField (tested_at test field) spell (λ x. Fits x × (test x ≡ true))
  tested_field is test = record {
    takes = λ bytes x rest fits e.
        let a = bind_some (field bytes) (λ x. cond (test x.0) (Some x) None) (x, rest) e in
        let g = test_some (test a.0.0) a.0 (x, rest) a.2 in
        let t = is.takes bytes a.0.0 a.0.1 fits a.1 in
        let P : X × List ℕ → Type 0 = λ z. Takes bytes (spell z.0) z.1 × (Fits z.0 × (test z.0 ≡ true)) in
        subst P g.1 (t.0, (t.1, g.0));
    again = λ x rest fits.
        ap (λ (r : Option (X × List ℕ)). r >>= λ x. cond (test x.0) (Some x) None) (is.again x rest fits.0)
        ∙ ap (λ (b : Bool). cond b (Some (x, rest)) None) fits.1;
  }

  many_takes : IsField field spell Fits → (n : ℕ) (bytes : List ℕ) (xs : List X) (rest : List ℕ) → IsBytes bytes → many_at field n bytes ≡ Some (xs, rest)
      → Takes bytes (flat_map spell xs) rest × ((length xs ≡ n) × AllByRecursion Fits xs)
  many_takes is zero bytes xs rest fits e =
      let P : List X × List ℕ → Type 0 = λ z. Takes bytes (flat_map spell z.0) z.1 × ((length z.0 ≡ 0) × AllByRecursion Fits z.0) in
      subst P (some_is ([], bytes) (xs, rest) e) (record { parts = refl; rest_fits = fits }, (refl, tt))
  many_takes is (suc n) bytes xs rest fits e =
      let a = bind_some (field bytes) (λ x. many_at field n x.1 >>= λ xs. Some (x.0 ∷ xs.0, xs.1)) (xs, rest) e in
      let b = bind_some (many_at field n a.0.1) (λ xs. Some (a.0.0 ∷ xs.0, xs.1)) (xs, rest) a.2 in
      let t = is.takes bytes a.0.0 a.0.1 fits a.1 in
      let u = many_takes is n a.0.1 b.0.0 b.0.1 t.0.rest_fits b.1 in
      let P : List X × List ℕ → Type 0 = λ z. Takes bytes (flat_map spell z.0) z.1 × ((length z.0 ≡ suc n) × AllByRecursion Fits z.0) in
      subst P (some_is (a.0.0 ∷ b.0.0, b.0.1) (xs, rest) b.2)
      (rw flat_map-cons (Takes-then bytes (spell a.0.0) a.0.1 (flat_map spell b.0.0) b.0.1 t.0 u.0), (ap suc u.1.0, (t.1, u.1.1)))

  many_again : IsField field spell Fits → (xs : List X) (rest : List ℕ) → AllByRecursion Fits xs → many_at field (length xs) (flat_map spell xs ++ rest) ≡ Some (xs, rest)
  many_again is [] rest fits = refl
  many_again is (x ∷ xs) rest fits =
      ap (many_at field (suc (length xs))) (ap (λ (s : List ℕ). s ++ rest) (flat_map-cons spell x xs) ∙ append_assoc (spell x) (flat_map spell xs) rest)
      ∙ ap (λ (r : Option (X × List ℕ)). r >>= λ x. many_at field (length xs) x.1 >>= λ xs. Some (x.0 ∷ xs.0, xs.1)) (is.again x (flat_map spell xs ++ rest) fits.0)
      ∙ ap (λ (r : Option (List X × List ℕ)). r >>= λ ys. Some (x ∷ ys.0, ys.1)) (many_again is xs rest fits.1)

  pub many_field : IsField field spell Fits → (n : ℕ) → IsField (many_at field n) (flat_map spell) (λ xs. (length xs ≡ n) × AllByRecursion Fits xs)
  many_field is n = record {
    takes = many_takes is n;
    again = λ xs rest fits. ap (λ (k : ℕ). many_at field k (flat_map spell xs ++ rest)) (sym fits.0) ∙ many_again is xs rest fits.1;
  }

  pub wide_field : IsField field spell Fits → (width : ℕ) → ((x : X) → Fits x → width ≤ length (spell x)) → (n : ℕ) → IsField (wide_at width field n) (flat_map spell) (λ xs. (length xs ≡ n) × AllByRecursion Fits xs)
  wide_field is width wide n = record {
    takes = λ bytes xs rest fits e. many_takes is n bytes xs rest fits (past (ltb (length bytes) (width * n)) (many_at field n bytes) (xs, rest) e);
    again = λ xs rest fits.
        let enough : ltb (length (flat_map spell xs ++ rest)) (width * n) ≡ false = le-ltb _ _ (omega (arith, ap (λ (k : ℕ). width * k) fits.0, long spell Fits width wide xs fits.1, length-append (flat_map spell xs) rest)) in
        ap (λ (b : Bool). cond b None (many_at field n (flat_map spell xs ++ rest))) enough ∙ (many_field is n).again xs rest fits;
  }
    where
      past : (b : Bool) (r : Option (List X × List ℕ)) (y : List X × List ℕ) → cond b None r ≡ Some y → r ≡ Some y
      past true r y e = absurd cc
      past false r y e = e

  pub list_field : IsField field spell Fits → (width : ℕ) → ((x : X) → Fits x → width ≤ length (spell x))
      → IsField (list_at width field) (λ xs. to_be_bytes w32 (length xs) ++ flat_map spell xs) (λ xs. (length xs < 2 ^ 32) × AllByRecursion Fits xs)
  list_field is width wide = record {
    takes = λ bytes xs rest fits e.
        let a = bind_some (number_at w32 bytes) (λ n. wide_at width field n.0 n.1) (xs, rest) e in
        let t = u32_field.takes bytes a.0.0 a.0.1 fits a.1 in
        let u = (wide_field is width wide a.0.0).takes a.0.1 xs rest t.0.rest_fits a.2 in
        let len : a.0.0 ≡ length xs = sym u.1.0 in (
          subst (λ (n : ℕ). Takes bytes (to_be_bytes w32 n ++ flat_map spell xs) rest) len (Takes-then bytes (to_be_bytes w32 a.0.0) a.0.1 (flat_map spell xs) rest t.0 u.0),
          (omega (arith, t.1), u.1.1),
        );
    again = λ xs rest fits.
        ap (list_at width field) (append_assoc (to_be_bytes w32 (length xs)) (flat_map spell xs) rest)
        ∙ ap (λ (r : Option (ℕ × List ℕ)). r >>= λ n. wide_at width field n.0 n.1) (u32_field.again (length xs) (flat_map spell xs ++ rest) fits.0)
        ∙ (wide_field is width wide (length xs)).again xs rest (refl, fits.1);
  }

abbrev pub IsTag : ℕ → ℕ → Type 0
IsTag tag n = (n < 2 ^ 32) × (eqb n tag ≡ true)

pub tag_field : (tag : ℕ) → IsField (tag_at tag) (to_be_bytes w32) (IsTag tag)
tag_field tag = tested_field u32_field (λ n. eqb n tag)

-- ---- blobs

pub IsBytes-body : (s : ℕ) (blob body : List ℕ) → blob ≡ with_sum s body → IsBytes blob → IsBytes body
IsBytes-body s blob body e fits = let P : List ℕ → Type 0 = IsBytes in subst P (with_sum-parts s blob body e).0 (IsBytes-take (length blob - 20) blob fits)

pub body_same : (s : ℕ) (blob body other : List ℕ) → blob ≡ with_sum s body → blob ≡ with_sum s other → body ≡ other
body_same s blob body other e f = sym (with_sum-parts s blob body e).0 ∙ (with_sum-parts s blob other f).0

-- what a call answered that read a field
pub read_none : {Y : Type 0} (e : Unread) (read : Option Y) → Fails e read → e ≡ unread.Spelling → read ≡ None
read_none unread.Memory read fails is = absurd cc
read_none unread.Spelling read fails is = fails

abbrev refused : {X : Type 0} → Unread → Result X Unread
refused e = Err e

refused_same : {X : Type 0} (a b : Unread) → refused {X = X} a ≡ refused b → a ≡ b
refused_same a b e = cc

-- the same behind a `?`, which passes the error on
pub passed_none : {X Y : Type 0} (result : Result X Unread) (passed e : Unread) (read : Option Y) → result ≡ Err passed → passed ≡ e → result ≡ Err unread.Spelling → Fails e read → read ≡ None
passed_none result passed e read was is spelling fails = read_none e read fails (sym is ∙ refused_same passed unread.Spelling (sym was ∙ spelling))

-- ---- a blob whose body is one field

module _ {X : Type 0} {field : Field X} {head : X → List ℕ} {Fits : X → Type 0} where
  pub blob_again : IsField field head Fits → (s : ℕ) (bytes body : List ℕ) → bytes ≡ with_sum s body → (x : X) → Fits x → bytes ≡ with_sum s (head x) → field body ≡ Some (x, [])
  blob_again is s bytes body e x fits spelled =
      ap field (body_same s bytes body (head x) e spelled ∙ sym (append-nil (head x))) ∙ is.again x [] fits

  pub blob_unread : IsField field head Fits → (s : ℕ) (bytes body : List ℕ) → bytes ≡ with_sum s body → field body ≡ None → (x : X) → Fits x → bytes ≡ with_sum s (head x) → ⊥
  blob_unread is s bytes body e none x fits spelled = absurd (cc (blob_again is s bytes body e x fits spelled, none))

  pub blob_other : IsField field head Fits → (s : ℕ) (bytes body : List ℕ) → bytes ≡ with_sum s body → (y : X) (rest : List ℕ) → field body ≡ Some (y, rest)
      → (x : X) → Fits x → bytes ≡ with_sum s (head x) → (y ≡ x) × (rest ≡ [])
  blob_other is s bytes body e y rest read x fits spelled =
      let both : (y, rest) ≡ (x, []) = some_is (y, rest) (x, []) (sym read ∙ blob_again is s bytes body e x fits spelled) in
      (ap (λ (z : X × List ℕ). z.0) both, ap (λ (z : X × List ℕ). z.1) both)

  pub blob_fits : IsField field head Fits → (s : ℕ) (bytes body : List ℕ) → bytes ≡ with_sum s body → IsBytes bytes → (x : X) (rest : List ℕ) → field body ≡ Some (x, rest) → Fits x
  blob_fits is s bytes body e fits x rest read = (is.takes body x rest (IsBytes-body s bytes body e fits) read).1

  pub blob_spelled : IsField field head Fits → (s : ℕ) (bytes body : List ℕ) → bytes ≡ with_sum s body → IsBytes bytes → (x : X) (rest : List ℕ) → field body ≡ Some (x, rest) → length rest ≡ 0
      → bytes ≡ with_sum s (head x)
  blob_spelled is s bytes body e fits x rest read ended =
      let taken = (is.takes body x rest (IsBytes-body s bytes body e fits) read).0.parts in
      e ∙ ap (with_sum s) (taken ∙ ap (λ (r : List ℕ). head x ++ r) (nil_from_length rest ended) ∙ append-nil (head x))

  -- each value has one blob, and no blob begins another
  pub blob_same : IsField field head Fits → (s : ℕ) (x y : X) (rest : List ℕ) → Fits x → Fits y → with_sum s (head x) ++ rest ≡ with_sum s (head y) → (x ≡ y) × (rest ≡ [])
  blob_same is s x y rest first second e =
      let more = field_same is x y (sha1 (head x ++ set_mark s) ++ rest) (sha1 (head y ++ set_mark s)) first second (sym (append_assoc (head x) (sha1 (head x ++ set_mark s)) rest) ∙ e) in
      (more.0, nil_from_length rest (omega (arith, ap length more.1, length-append (sha1 (head x ++ set_mark s)) rest, length-sha1 (head x ++ set_mark s), length-sha1 (head y ++ set_mark s))))

-- what is empty where a test said it isn't
pub not_empty : {X : Type 0} (rest : List X) → eqb (length rest) 0 ≡ false → rest ≡ [] → ⊥
not_empty [] e is = absurd cc
not_empty (b ∷ rest) e is = absurd cc
