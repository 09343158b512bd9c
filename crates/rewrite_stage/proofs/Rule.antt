-- What the code tests is what the rule says.
use Rattle.std.proofs.Common.{◌≡◌, ◌<◌, ◌≤◌, ℕ, zero, suc, Bool, true, false, cond, ◌||◌, ◌&&◌, List, [], ◌∷◌, ◌++◌, map, length, get_or, refl, sym, ap, ◌∙◌, arith, inl, inr, Option, Some, None, Result, Ok, Err}
use Rattle.std.specs.Prelude.{nat_eq, is_ok, IfOk, MatchResult}
use Rattle.std.proofs.lemmas.Bool.{cases_lt}
use Rattle.std.specs.List.{list_any}
use Rattle.std.proofs.lemmas.Bool.Decides.{nat_tests}
use Rattle.std.proofs.lemmas.List.Folds.{list_any-append}
use Rattle.vault_types.specs.declared.Fp.{Fp}
use Rattle.vault_types.specs.declared.How.{How}
use Rattle.vault_types.specs.declared.JobConfig.{JobConfig}
use Rattle.vault_types.specs.declared.How.TheVariants.{Write}
use Rattle.vault_types.specs.Lists.{has}
use Rattle.vault_types.specs.Names.{same_fp}
use Rattle.vault_types.specs.Capping.{kept_ids}
use Rattle.vault_types.specs.Decide.{Rules, is_write, is_written, only_if, counted_id, allowed_id, caps, decisions_of}
use Rattle.rewrite_stage.specs.Deciding.{Deciding, HasDecided, looked_with}
use Rattle.rewrite_stage.specs.Steps.{only_kept, allowed_of, fps_with_olds, decide_all}
use Rattle.rewrite_stage.proofs.Steps.{decisions_in-is, fps_with_olds-looked}

-- a list that a search found a number in, and one that it did not

pub has-place : (n : ℕ) (ns : List ℕ) (i : ℕ) → i < length ns → get_or ns i 0 ≡ n → has n ns ≡ true
has-place n [] i l e = absurd (omega arith)
has-place n (m ∷ ms) zero l e = let t : nat_eq n m ≡ true = grind (arith, nat_tests) in ap (λ b. b || has n ms) t
has-place n (m ∷ ms) (suc i) l e = ap (λ b. nat_eq n m || b) (has-place n ms i (omega arith) e) ∙ last (nat_eq n m)
  where
    last : (b : Bool) → (b || true) ≡ true
    last true = refl
    last false = refl

pub has-nowhere : (n : ℕ) (ns : List ℕ) → ((k : ℕ) → k < length ns → get_or ns k 0 ≡ n → ⊥) → has n ns ≡ false
has-nowhere n [] h = refl
has-nowhere n (m ∷ ms) h =
    let t : nat_eq n m ≡ false = step (nat_eq n m) refl in
    ap (λ b. b || has n ms) t ∙ has-nowhere n ms (λ k l e. h (suc k) (omega arith) e)
  where
    step : (b : Bool) → nat_eq n m ≡ b → b ≡ false
    step true e = let same : m ≡ n = grind (arith, nat_tests) in absurd (h 0 (omega arith) same)
    step false e = refl

-- one place more

pub written-more : (places : List (Fp × How)) (g f : Fp) (h : How) → is_written (places ++ (g, h) ∷ []) f ≡ (is_written places f || ((same_fp g f && is_write h) || false))
written-more places g f h = list_any-append (λ p. same_fp p.0 f && is_write p.1) places ((g, h) ∷ [])

or_none : (b c : Bool) → (b || ((c && false) || false)) ≡ b
or_none true c = refl
or_none false true = refl
or_none false false = refl

pub written-not : (places : List (Fp × How)) (g f : Fp) (h : How) → is_write h ≡ false → is_written (places ++ (g, h) ∷ []) f ≡ is_written places f
written-not places g f h e = written-more places g f h ∙ ap (λ b. is_written places f || ((same_fp g f && b) || false)) e ∙ or_none (is_written places f) (same_fp g f)

-- a place that wrote nothing leaves what was decided
pub decided-not : (d : Deciding) (r : Rules) (places : List (Fp × How)) (g : Fp) (h : How) → is_write h ≡ false → HasDecided d r places → HasDecided d r (places ++ (g, h) ∷ [])
decided-not d r places g h e i = record { config = i.config; sparse = i.sparse; written = λ f. i.written f ∙ sym (written-not places g f h e) }

flip : (a b : Bool) → cond b true a ≡ (a || ((b && true) || false))
flip true true = refl
flip true false = refl
flip false true = refl
flip false false = refl

-- and one that wrote adds its fingerprint
pub decided-write : (d e : Deciding) (r : Rules) (places : List (Fp × How)) (g : Fp) → e.rules ≡ d.rules → ((f : Fp) → list_any (same_fp f) e.written ≡ cond (same_fp g f) true (list_any (same_fp f) d.written)) → HasDecided d r places → HasDecided e r (places ++ (g, Write) ∷ [])
decided-write d e r places g same w i = record {
  config = ap (λ r. r.config) same ∙ i.config;
  sparse = λ c. ap (λ r. has c r.sparse) same ∙ i.sparse c;
  written = λ f. w f ∙ ap (λ b. cond (same_fp g f) true b) (i.written f) ∙ flip (is_written places f) (same_fp g f) ∙ sym (written-more places g f Write);
}

-- capping

only_if-true : (o : Option ℕ) → only_if (λ c. true) o ≡ o
only_if-true None = refl
only_if-true (Some c) = refl

map-same : {X : Type 0} (g h : X → Option ℕ) → ((x : X) → g x ≡ h x) → (xs : List X) → map g xs ≡ map h xs
map-same g h e [] = refl
map-same g h e (x ∷ xs) = ap (λ o. o ∷ map g xs) (e x) ∙ ap (λ os. h x ∷ os) (map-same g h e xs)

map-nothing : (os : List (Option ℕ)) → map (λ o. o) os ≡ os
map-nothing [] = refl
map-nothing (o ∷ os) = ap (λ ps. o ∷ ps) (map-nothing os)

map-twice : {X : Type 0} (g : X → Option ℕ) (h : Option ℕ → Option ℕ) (xs : List X) → map h (map g xs) ≡ map (λ x. h (g x)) xs
map-twice g h [] = refl
map-twice g h (x ∷ xs) = ap (λ os. h (g x) ∷ os) (map-twice g h xs)

pub uncapped : (config : JobConfig) (counted : List (Option ℕ)) → caps config.rewrite ≡ false → counted ≡ allowed_of config counted
uncapped config counted e = sym (map-same _ (λ o. o) (λ o. ap (λ b. only_if (λ c. cond b (has c (kept_ids counted config.cap)) true) o) e ∙ only_if-true o) counted ∙ map-nothing counted)

pub capped-is : (config : JobConfig) (counted : List (Option ℕ)) → caps config.rewrite ≡ true → map (only_kept (kept_ids counted config.cap)) counted ≡ allowed_of config counted
capped-is config counted e = sym (map-same _ (only_kept (kept_ids counted config.cap)) (λ o. ap (λ b. only_if (λ c. cond b (has c (kept_ids counted config.cap)) true) o) e) counted)

-- a whole segment
pub whole_segment : (r : Rules) (places : List (Fp × How)) (cs : List (List ℕ)) (found counted allowed : List (Option ℕ)) (config : JobConfig) → config ≡ r.config
    → counted ≡ map (counted_id r places) (looked_with cs found) → allowed ≡ allowed_of config counted
    → decide_all places (fps_with_olds cs allowed) ≡ decisions_of r places (looked_with cs found)
whole_segment r places cs found counted allowed config s n e =
    ap (λ os. decide_all places (fps_with_olds cs os)) (e ∙ ap (λ j. allowed_of j counted) s ∙ ap (allowed_of r.config) n
    ∙ map-twice (counted_id r places) (λ o. only_if (λ c. cond (caps r.config.rewrite) (has c (kept_ids (map (counted_id r places) (looked_with cs found)) r.config.cap)) true) o) (looked_with cs found))
    ∙ ap (decide_all places) (fps_with_olds-looked (allowed_id r places (looked_with cs found)) cs found)
    ∙ sym (decisions_in-is (allowed_id r places (looked_with cs found)) places (looked_with cs found))

-- a search in an ascending list tells whether the number is there
pub among : (x : ℕ) (xs : List ℕ) (r : Result ℕ ℕ)
    → MatchResult r (λ i. (i < length xs) × (get_or xs i 0 ≡ x)) (λ i. (i ≤ length xs) × ((k : ℕ) → k < i → get_or xs k 0 < x) × ((k : ℕ) → i ≤ k → k < length xs → x < get_or xs k 0))
    → is_ok r ≡ has x xs
among x xs (Ok i) h = sym (has-place x xs i h.0 h.1)
among x xs (Err i) h = sym (has-nowhere x xs (λ k l e. elim (cases_lt k i) [ inl less ↦ (let b : get_or xs k 0 < x = h.1 k less in omega arith) | inr more ↦ (let a : x < get_or xs k 0 = h.2 k more l in omega arith) ]))

pub has-flip : (x : ℕ) (xs : List ℕ) → list_any (λ y. nat_eq y x) xs ≡ has x xs
has-flip x [] = refl
has-flip x (y ∷ ys) = let same : nat_eq y x ≡ nat_eq x y = grind (arith, nat_tests) in ap (λ b. b || list_any (λ z. nat_eq z x) ys) same ∙ ap (λ b. nat_eq x y || b) (has-flip x ys)

-- what two clauses say of an answer
pub both_ok : {X Y : Type 0} (r : Result X Y) (P Q R : X → Type 0) → IfOk r P → IfOk r Q → ((x : X) → P x → Q x → R x) → IfOk r R
both_ok (Ok x) P Q R p q f = f x p q
both_ok (Err y) P Q R p q f = tt
