-- Names of sources and outputs that are apart, and the bytes under them.
use Rattle.std.proofs.Common.{◌≡◌, inl, inr, ℕ, Bool, true, false, not, ◌&&◌, ◌||◌, IsTrue, List, [], ◌∷◌, ◌++◌, Option, Some, None, refl, sym, ◌∙◌, ap, subst}
use Rattle.std.specs.Prelude.{Contains, map, flat_map, IsSome, IsSomeAnd, IfSome, unwrap_or}
use Rattle.std.specs.List.{AllByRecursion, list_any}
use Rattle.std.proofs.lemmas.List.{append-nil, map-append}
use Rattle.std.specs.Str.{bytes_eq}
use Rattle.vault_types.proofs.FillLemmas.{bytes_eq-same, same_bytes}
use Rattle.std.proofs.lemmas.List.Elements.{Contains-append_left, Contains-append_right, Contains-append_cases, Contains-push_cases, Contains-push}
use Rattle.vault_types.specs.declared.Line.{Line}
use Rattle.vault_types.specs.declared.Line.TheVariants.{Backup, Restore, Delete}
use Rattle.vault_types.specs.Words.{sources_of, outputs_of, are_apart, is_one_of}
use Rattle.vault_types.specs.Script.{Sources, after}
use Rattle.vault_traits.specs.Files.{IsThere}
use Rattle.vault_traits.specs.Told.{Files}
use Rattle.vault_types.specs.declared.Answer.{Answer}
use Rattle.vault_types.specs.State.{State}
use Rattle.vault_types.specs.Bytes.{bytes_of}
use Rattle.store_model.specs.Outputs.{KeepsOthers, OnFiles, AreFedBy, Reads, AreRead, AreFed, AreThere, AreApartFrom, IsOutput, IsOutputOf, AreOutputs}

pub or_left : (a b : Bool) → (a || b) ≡ false → a ≡ false
or_left true b e = e
or_left false b e = refl

pub or_right : (a b : Bool) → (a || b) ≡ false → b ≡ false
or_right true b e = cc
or_right false b e = e

pub and_left : (a b : Bool) → IsTrue (a && b) → IsTrue a
and_left true b e = refl
and_left false b e = cc

pub and_right : (a b : Bool) → IsTrue (a && b) → IsTrue b
and_right true b e = e
and_right false b e = cc

not_true : (a : Bool) → IsTrue (not a) → a ≡ false
not_true true e = cc
not_true false e = refl

pub any_left : {X : Type 0} (p : X → Bool) (xs ys : List X) → list_any p (xs ++ ys) ≡ false → list_any p xs ≡ false
any_left p [] ys e = refl
any_left p (x ∷ xs) ys e = both (p x) (list_any p xs) (or_left (p x) _ e) (any_left p xs ys (or_right (p x) _ e))
  where
    both : (a b : Bool) → a ≡ false → b ≡ false → (a || b) ≡ false
    both true b h k = h
    both false b h k = k

pub any_right : {X : Type 0} (p : X → Bool) (xs ys : List X) → list_any p (xs ++ ys) ≡ false → list_any p ys ≡ false
any_right p [] ys e = e
any_right p (x ∷ xs) ys e = any_right p xs ys (or_right (p x) _ e)

pub any_nil : {X : Type 0} (p : X → Bool) (xs : List X) → list_any p xs ≡ false → list_any p (xs ++ []) ≡ false
any_nil p [] e = refl
any_nil p (x ∷ xs) e = both (p x) (list_any p (xs ++ [])) (or_left (p x) _ e) (any_nil p xs (or_right (p x) _ e))
  where
    both : (a b : Bool) → a ≡ false → b ≡ false → (a || b) ≡ false
    both true b h k = h
    both false b h k = k

-- names that are apart from some are not among them
pub apart_member : (names others : List (List ℕ)) (n : List ℕ) → IsTrue (are_apart names others) → Contains names n → is_one_of others n ≡ false
apart_member [] others n apart here = absurd (none here)
  where
    none : Contains [] n → ⊥
    none h = omega (Rattle.std.proofs.Common.arith, h.1)
apart_member (name ∷ names) others n apart here =
    let e : list_any (is_one_of others) (name ∷ names) ≡ false = not_true _ apart in
    elim (Contains-append_cases (name ∷ []) names n here) [
      | inl one ↦ subst (λ (m : List ℕ). is_one_of others m ≡ false) (only name n one) (or_left (is_one_of others name) _ e)
      | inr more ↦ apart_member names others n (back (list_any (is_one_of others) names) (or_right (is_one_of others name) _ e)) more
    ]
  where
    only : (m k : List ℕ) → Contains (m ∷ []) k → m ≡ k
    only m k h = elim (Contains-push_cases [] m k h) [ inl none ↦ absurd (omega (Rattle.std.proofs.Common.arith, none.1)) | inr same ↦ same ]

    back : (b : Bool) → b ≡ false → IsTrue (not b)
    back true h = cc
    back false h = refl

-- no later source is an output so far, and no later output is one
pub later_source : (sources outputs : List (List ℕ)) (lines : List Line) (n : List ℕ) → AreApartFrom sources outputs lines → Contains (flat_map sources_of lines) n → is_one_of outputs n ≡ false
later_source sources outputs [] n apart here = absurd (omega (Rattle.std.proofs.Common.arith, here.1))
later_source sources outputs (line ∷ lines) n apart here = elim (Contains-append_cases (sources_of line) (flat_map sources_of lines) n here) [
  | inl one ↦ apart_member (sources_of line) outputs n (and_right (are_apart (outputs_of line) outputs && are_apart (outputs_of line) sources) _ apart.0) one
  | inr more ↦ any_left (bytes_eq n) outputs (outputs_of line) (later_source (sources ++ sources_of line) (outputs ++ outputs_of line) lines n apart.1 more)
]

pub later_output : (sources outputs : List (List ℕ)) (lines : List Line) (n : List ℕ) → AreApartFrom sources outputs lines → Contains (flat_map outputs_of lines) n → is_one_of outputs n ≡ false
later_output sources outputs [] n apart here = absurd (omega (Rattle.std.proofs.Common.arith, here.1))
later_output sources outputs (line ∷ lines) n apart here = elim (Contains-append_cases (outputs_of line) (flat_map outputs_of lines) n here) [
  | inl one ↦ apart_member (outputs_of line) outputs n (and_left (are_apart (outputs_of line) outputs) _ (and_left (are_apart (outputs_of line) outputs && are_apart (outputs_of line) sources) _ apart.0)) one
  | inr more ↦ any_left (bytes_eq n) outputs (outputs_of line) (later_output (sources ++ sources_of line) (outputs ++ outputs_of line) lines n apart.1 more)
]

-- a fact on files from one moment to the next, and from there on
pub files_then : (a b c : Option Files) (P Q R : Files → Files → Type 0) → ((x y z : Files) → b ≡ Some y → P x y → Q y z → R x z) → OnFiles a b P → OnFiles b c Q → OnFiles a c R
files_then None None None P Q R both first second = tt
files_then None None (Some z) P Q R both first second = absurd second
files_then None (Some y) c P Q R both first second = absurd first
files_then (Some x) None c P Q R both first second = absurd first
files_then (Some x) (Some y) None P Q R both first second = absurd second
files_then (Some x) (Some y) (Some z) P Q R both first second = both x y z refl first second

pub others_then : (line : Line) (lines : List Line) (x y z : Files) → KeepsOthers (line ∷ []) x y → KeepsOthers lines y z → KeepsOthers (line ∷ lines) x z
others_then line lines x y z first second name none =
    second name (any_right (bytes_eq name) (outputs_of line) (flat_map outputs_of lines) none)
    ∙ first name (any_nil (bytes_eq name) (outputs_of line) (any_left (bytes_eq name) (outputs_of line) (flat_map outputs_of lines) none))

-- the first line's sources are told
pub fed_first : (files : Option Files) (sources : Sources) (line : Line) (lines : List Line) → AreFedBy files sources (line ∷ lines) → AreFedBy files sources (line ∷ [])
fed_first files sources line lines fed name here = fed name (elim (Contains-append_cases (sources_of line) [] name here) [
  | inl one ↦ Contains-append_left (sources_of line) (flat_map sources_of lines) name one
  | inr none ↦ absurd (omega (Rattle.std.proofs.Common.arith, none.1))
])

-- and those of the later ones are told behind it
pub fed_rest : (a b : Option Files) (sources : Sources) (before outputs : List (List ℕ)) (line : Line) (lines : List Line) → AreApartFrom before (outputs ++ outputs_of line) lines
    → OnFiles a b (KeepsOthers (line ∷ [])) → AreFedBy a sources (line ∷ lines) → AreFedBy b sources lines
fed_rest a b sources before outputs line lines apart kept fed name here = goes a b kept (fed name (Contains-append_right (sources_of line) (flat_map sources_of lines) name here))
  where
    other : is_one_of (flat_map outputs_of (line ∷ [])) name ≡ false
    other = any_nil (bytes_eq name) (outputs_of line) (any_right (bytes_eq name) outputs (outputs_of line) (later_source before (outputs ++ outputs_of line) lines name apart here))

    goes : (x y : Option Files) → OnFiles x y (KeepsOthers (line ∷ [])) → IsSomeAnd x (λ f. sources name ≡ unwrap_or (f name) []) → IsSomeAnd y (λ f. sources name ≡ unwrap_or (f name) [])
    goes None y kept told = absurd told
    goes (Some f) None kept told = absurd kept
    goes (Some f) (Some k) kept told = told ∙ ap (λ (o : Option (List ℕ)). unwrap_or o []) (sym (kept name other))

-- ---- what was read

-- the names that the later lines read have behind the first line what they had before it
later_kept : (x y : Files) (before outputs : List (List ℕ)) (line : Line) (lines : List Line) → AreApartFrom before (outputs ++ outputs_of line) lines → KeepsOthers (line ∷ []) x y
    → (name : List ℕ) → Contains (flat_map sources_of lines) name → y name ≡ x name
later_kept x y before outputs line lines apart kept name here =
    kept name (any_nil (bytes_eq name) (outputs_of line) (any_right (bytes_eq name) outputs (outputs_of line) (later_source before (outputs ++ outputs_of line) lines name apart here)))

pub all_both : {X : Type 0} (P : X → Type 0) (xs ys : List X) → AllByRecursion P xs → AllByRecursion P ys → AllByRecursion P (xs ++ ys)
all_both P [] ys h k = k
all_both P (x ∷ xs) ys h k = (h.0, all_both P xs ys h.1 k)

pub all_front : {X : Type 0} (P : X → Type 0) (xs ys : List X) → AllByRecursion P (xs ++ ys) → AllByRecursion P xs
all_front P [] ys h = tt
all_front P (x ∷ xs) ys h = (h.0, all_front P xs ys h.1)

pub all_back : {X : Type 0} (P : X → Type 0) (xs ys : List X) → AllByRecursion P (xs ++ ys) → AllByRecursion P ys
all_back P [] ys h = h
all_back P (x ∷ xs) ys h = all_back P xs ys h.1

abbrev IsUnder : Files → List ℕ × List ℕ → Type 0
IsUnder f r = r.1 ≡ unwrap_or (f r.0) []

-- bytes that are told of some files are told of others that have the same under these names
told_of_same : (x y : Files) (reads : Reads) → ((name : List ℕ) → Contains (map (λ r. r.0) reads) name → y name ≡ x name) → AllByRecursion (IsUnder y) reads → AllByRecursion (IsUnder x) reads
told_of_same x y [] same told = tt
told_of_same x y (r ∷ rs) same told = (
  told.0 ∙ ap (λ (o : Option (List ℕ)). unwrap_or o []) (same r.0 (Contains-append_left (r.0 ∷ []) (map (λ (q : List ℕ × List ℕ). q.0) rs) r.0 (Contains-push [] r.0))),
  told_of_same x y rs (λ name here. same name (Contains-append_right (r.0 ∷ []) (map (λ (q : List ℕ × List ℕ). q.0) rs) name here)) told.1,
)

-- what a line read, and what the lines behind it
pub read_then : (a b : Option Files) (before outputs : List (List ℕ)) (line : Line) (lines : List Line) (one more : Reads) → AreApartFrom before (outputs ++ outputs_of line) lines → OnFiles a b (KeepsOthers (line ∷ []))
    → AreRead a (line ∷ []) one → AreRead b lines more → AreRead a (line ∷ lines) (one ++ more)
read_then a b before outputs line lines one more apart kept first rest = record {
  names = map-append (λ (r : List ℕ × List ℕ). r.0) one more ∙ ap (λ (xs : List (List ℕ)). xs ++ map (λ (r : List ℕ × List ℕ). r.0) more) (first.names ∙ append-nil (sources_of line)) ∙ ap (λ (xs : List (List ℕ)). sources_of line ++ xs) rest.names;
  told = by a b kept first.told rest.told;
}
  where
    by : (x y : Option Files) → OnFiles x y (KeepsOthers (line ∷ [])) → IfSome x (λ f. AllByRecursion (IsUnder f) one) → IfSome y (λ f. AllByRecursion (IsUnder f) more) → IfSome x (λ f. AllByRecursion (IsUnder f) (one ++ more))
    by None y on h k = tt
    by (Some f) None on h k = absurd on
    by (Some f) (Some g) on h k = all_both (IsUnder f) one more h
        (told_of_same f g more (λ name here. later_kept f g before outputs line lines apart on name (subst (λ (xs : List (List ℕ)). Contains xs name) rest.names here)) k)

there_of_same : (a b : Option Files) (names : List (List ℕ)) → ((name : List ℕ) → Contains names name → IsThere b name → IsThere a name) → AllByRecursion (IsThere b) names → AllByRecursion (IsThere a) names
there_of_same a b [] same there = tt
there_of_same a b (n ∷ ns) same there = (
  same n (Contains-append_left (n ∷ []) ns n (Contains-push [] n)) there.0,
  there_of_same a b ns (λ name here. same name (Contains-append_right (n ∷ []) ns name here)) there.1,
)

all_there : (a b : Option Files) (lines : List Line) (answers : List Answer) → ((name : List ℕ) → Contains (flat_map sources_of lines) name → IsThere b name → IsThere a name) → AreThere b lines answers → AreThere a lines answers
all_there a b [] answers same there = tt
all_there a b (line ∷ lines) [] same there = tt
all_there a b (line ∷ lines) (answer ∷ answers) same there = (
  λ done. there_of_same a b (sources_of line) (λ name here. same name (Contains-append_left (sources_of line) (flat_map sources_of lines) name here)) (there.0 done),
  all_there a b lines answers (λ name here. same name (Contains-append_right (sources_of line) (flat_map sources_of lines) name here)) there.1,
)

-- the sources that are there behind a line were there before it
pub there_then : (a b : Option Files) (before outputs : List (List ℕ)) (line : Line) (lines : List Line) (answers : List Answer) → AreApartFrom before (outputs ++ outputs_of line) lines → OnFiles a b (KeepsOthers (line ∷ []))
    → AreThere b lines answers → AreThere a lines answers
there_then a b before outputs line lines answers apart kept there = all_there a b lines answers (λ name here. by a b kept name here) there
  where
    by : (x y : Option Files) → OnFiles x y (KeepsOthers (line ∷ [])) → (name : List ℕ) → Contains (flat_map sources_of lines) name → IsThere y name → IsThere x name
    by None y on name here h = tt
    by (Some f) None on name here h = absurd on
    by (Some f) (Some g) on name here h = subst (λ (o : Option (List ℕ)). IsSome o) (later_kept f g before outputs line lines apart on name here) h

-- sources that are those under the names have the bytes that were read
pub fed_told : (files : Option Files) (sources : Sources) (lines : List Line) (reads : Reads) → AreRead files lines reads → AreFedBy files sources lines → AreFed sources reads
fed_told files sources lines reads read fed = by files reads (λ name here. fed name (subst (λ (xs : List (List ℕ)). Contains xs name) read.names here)) read.told
  where
    by : (o : Option Files) (rs : Reads) → ((name : List ℕ) → Contains (map (λ (q : List ℕ × List ℕ). q.0) rs) name → IsSomeAnd o (λ f. sources name ≡ unwrap_or (f name) [])) → IfSome o (λ f. AllByRecursion (IsUnder f) rs) → AreFed sources rs
    by o [] h told = tt
    by None (r ∷ rs) h told = absurd (h r.0 (Contains-append_left (r.0 ∷ []) (map (λ (q : List ℕ × List ℕ). q.0) rs) r.0 (Contains-push [] r.0)))
    by (Some f) (r ∷ rs) h told = (
      h r.0 (Contains-append_left (r.0 ∷ []) (map (λ (q : List ℕ × List ℕ). q.0) rs) r.0 (Contains-push [] r.0)) ∙ sym told.0,
      by (Some f) rs (λ name here. h name (Contains-append_right (r.0 ∷ []) (map (λ (q : List ℕ × List ℕ). q.0) rs) name here)) told.1,
    )

-- ---- outputs

pub eq_swap : (m n : List ℕ) → bytes_eq m n ≡ false → bytes_eq n m ≡ false
eq_swap m n other = by (bytes_eq n m) refl
  where
    by : (b : Bool) → bytes_eq n m ≡ b → bytes_eq n m ≡ false
    by true is = let e : true ≡ false = sym (bytes_eq-same m) ∙ ap (bytes_eq m) (sym (same_bytes n m is)) ∙ other in cc
    by false is = is

pub absent : (names : List (List ℕ)) (name : List ℕ) → ((m : List ℕ) → Contains names m → bytes_eq name m ≡ false) → is_one_of names name ≡ false
absent [] name each = refl
absent (n ∷ ns) name each = both (bytes_eq name n) (is_one_of ns name) (each n (Contains-append_left (n ∷ []) ns n (Contains-push [] n))) (absent ns name (λ m here. each m (Contains-append_right (n ∷ []) ns m here)))
  where
    both : (a b : Bool) → a ≡ false → b ≡ false → (a || b) ≡ false
    both true b h k = h
    both false b h k = k

-- an output is none of the later ones
pub output_stays : (before outputs : List (List ℕ)) (name : List ℕ) (lines : List Line) → AreApartFrom before (outputs ++ name ∷ []) lines → is_one_of (flat_map outputs_of lines) name ≡ false
output_stays before outputs name lines apart = absent (flat_map outputs_of lines) name (λ m here.
    eq_swap m name (or_left (bytes_eq m name) false (any_right (bytes_eq m) outputs (name ∷ []) (later_output before (outputs ++ name ∷ []) lines m apart here))))

pub output_then : (sources : Sources) (S : State) (before outputs : List (List ℕ)) (line : Line) (lines : List Line) (answer : Answer) (x y z : Files) → AreApartFrom before (outputs ++ outputs_of line) lines
    → IsOutputOf S line answer x y → KeepsOthers lines y z → IsOutputOf S line answer x z
output_then sources S before outputs (Backup s name config) lines answer x y z apart out kept = tt
output_then sources S before outputs (Restore s v name cache) lines answer x y z apart out kept =
    subst (λ (o : Option (List ℕ)). IsOutput (bytes_of S s v) answer (x name) o) (sym (kept name (output_stays before outputs name lines apart))) out
output_then sources S before outputs (Delete s n) lines answer x y z apart out kept = tt

pub outputs_from : (sources : Sources) (S : State) (lines : List Line) (answers : List Answer) (x y z : Files) → ((name : List ℕ) → Contains (flat_map outputs_of lines) name → y name ≡ x name)
    → AreOutputs sources S lines answers y z → AreOutputs sources S lines answers x z
outputs_from sources S [] answers x y z same outs = tt
outputs_from sources S (line ∷ lines) [] x y z same outs = tt
outputs_from sources S (line ∷ lines) (answer ∷ answers) x y z same outs = (
  one line (λ name here. same name (Contains-append_left (outputs_of line) (flat_map outputs_of lines) name here)) outs.0,
  outputs_from sources (after sources S line answer) lines answers x y z (λ name here. same name (Contains-append_right (outputs_of line) (flat_map outputs_of lines) name here)) outs.1,
)
  where
    one : (l : Line) → ((name : List ℕ) → Contains (outputs_of l) name → y name ≡ x name) → IsOutputOf S l answer y z → IsOutputOf S l answer x z
    one (Backup s name config) h out = tt
    one (Restore s v name cache) h out = subst (λ (o : Option (List ℕ)). IsOutput (bytes_of S s v) answer o (z name)) (h name (Contains-push [] name)) out
    one (Delete s n) h out = tt

pub outputs_then : (sources : Sources) (S : State) (before outputs : List (List ℕ)) (line : Line) (lines : List Line) (answers : List Answer) (x y z : Files) → AreApartFrom before (outputs ++ outputs_of line) lines
    → KeepsOthers (line ∷ []) x y → AreOutputs sources S lines answers y z → AreOutputs sources S lines answers x z
outputs_then sources S before outputs line lines answers x y z apart kept outs = outputs_from sources S lines answers x y z
    (λ name here. kept name (any_nil (bytes_eq name) (outputs_of line) (any_right (bytes_eq name) outputs (outputs_of line) (later_output before (outputs ++ outputs_of line) lines name apart here)))) outs
