-- Sets of names, and the lines that may follow.
use Rattle.std.proofs.Common.{◌≡◌, ℕ, List, [], ◌∷◌, ◌++◌, Bool, true, false, not, ◌&&◌, ◌||◌, cond, refl, ap, sym, ◌∙◌, inl, inr, String, Global, string_bytes}
use Rattle.std.specs.Str.{bytes_eq}
use Rattle.std.specs.BTreeSet.{BTreeSet, contains_text, Updates}
use Rattle.std.specs.String.{string_cmp}
use Rattle.std.specs.Cmp.Lexicographic.{bytes_decides}
use Rattle.std.proofs.lemmas.Bool.{cases_Bool, false_from_ne_true, both_ways}
use Rattle.std.proofs.lemmas.List.Folds.{list_any-append}
use Rattle.std.proofs.lemmas.Map.Text.{btree_set_updates_text}
use Rattle.vault_types.specs.declared.JobConfig.{JobConfig}
use Rattle.vault_types.specs.declared.Line.TheVariants as line
use Rattle.vault_types.specs.Words.{is_one_of, may_follow}

or_false : (b : Bool) → (b || false) ≡ b
or_false true = refl
or_false false = refl

and_true : (b : Bool) → (b && true) ≡ b
and_true true = refl
and_true false = refl

turned : (a b : List ℕ) → bytes_eq a b ≡ bytes_eq b a
turned a b = elim (cases_Bool (bytes_eq b a)) [
  | inl e ↦ (bytes_decides a b).1 (sym ((bytes_decides b a).0 e)) ∙ sym e
  | inr e ↦ false_from_ne_true (bytes_eq a b) (λ h. both_ways (bytes_eq b a) e ((bytes_decides b a).1 (sym ((bytes_decides a b).0 h)))) ∙ sym e
]

one_more : (b x : Bool) → cond b true x ≡ (x || (b || false))
one_more true true = refl
one_more true false = refl
one_more false true = refl
one_more false false = refl

split : (a b : Bool) → not (a || b) ≡ (not a && not b && true)
split true true = refl
split true false = refl
split false true = refl
split false false = refl

pub has_more : (s n : BTreeSet (String Global)) (key : String Global) (known : List (List ℕ)) (name : List ℕ) → string_bytes key ≡ name
    → ((q : List ℕ) → contains_text s q ≡ is_one_of known q) → Updates string_cmp s n key true
    → (q : List ℕ) → contains_text n q ≡ is_one_of (known ++ name ∷ []) q
has_more s n key known name e h u q =
    btree_set_updates_text (string_bytes key) s n true u q
    ∙ rw (e, h q) (one_more (bytes_eq name q) (is_one_of known q))
    ∙ ap (λ (b : Bool). is_one_of known q || (b || false)) (turned name q)
    ∙ sym (list_any-append (bytes_eq q) known (name ∷ []))

pub backup_may : (ins outs : List (List ℕ)) (s : ℕ) (name : List ℕ) (config : JobConfig) → not (is_one_of outs name) ≡ may_follow ins outs (line.Backup s name config)
backup_may ins outs s name config = rw (or_false (is_one_of outs name)) refl

pub restore_may : (ins outs : List (List ℕ)) (s v : ℕ) (name : List ℕ) (cache : ℕ) → not (is_one_of outs name || is_one_of ins name) ≡ may_follow ins outs (line.Restore s v name cache)
restore_may ins outs s v name cache = rw (or_false (is_one_of outs name), or_false (is_one_of ins name)) (split (is_one_of outs name) (is_one_of ins name))
