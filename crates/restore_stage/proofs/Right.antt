-- Where the payloads of a plan's loads are sent, in order, each long enough for its spots, none is found unwanted.
use Rattle.std.proofs.Common.{◌≡◌, ⊎_elim, ℕ, List, [], ◌∷◌, ◌++◌, refl, sym, ◌∙◌, ap, subst, append_assoc}
use Rattle.std.specs.List.{AllByRecursion}
use Rattle.vault_types.specs.declared.Spot.{Spot}
use Rattle.vault_types.specs.declared.Step.{Step}
use Rattle.restore_assembler.specs.Payloads.{Covers}
use Rattle.restore_stage.specs.declared.Loaded.{Loaded}
use Rattle.restore_stage.specs.declared.Loaded.TheVariants as loaded
use Rattle.restore_stage.specs.Assembling.{Assembling, ids, load_ids, IsRight, IsUnwanted, IsOff}

ids_append : (xs ys : List Loaded) → ids (xs ++ ys) ≡ ids xs ++ ids ys
ids_append [] ys = refl
ids_append (loaded.Payload p ∷ xs) ys = ap (λ (ns : List ℕ). p.id ∷ ns) (ids_append xs ys)
ids_append (loaded.Failed f ∷ xs) ys = ids_append xs ys

right_at : (spots : List Spot) (xs : List Loaded) (x : Loaded) (ys : List Loaded) → AllByRecursion (IsRight spots) (xs ++ x ∷ ys) → IsRight spots x
right_at spots [] x ys h = h.0
right_at spots (y ∷ xs) x ys h = right_at spots xs x ys h.1

same_next : (xs : List ℕ) (a b : ℕ) (ys zs : List ℕ) → xs ++ a ∷ ys ≡ xs ++ b ∷ zs → a ≡ b
same_next [] a b ys zs same = cc
same_next (x ∷ xs) a b ys zs same = let tail : xs ++ a ∷ ys ≡ xs ++ b ∷ zs = cc in same_next xs a b ys zs tail

pub never_off : (steps : List Step) (s : Assembling) (sent rest : List Loaded) (more : List ℕ) → sent ≡ s.loads.taken ++ rest → ids sent ++ more ≡ load_ids steps → AllByRecursion (IsRight s.copying.spots) sent → IsOff steps s → ⊥
never_off steps s sent rest more is loads right off = by off.unwanted
  where
    whole : sent ≡ off.front ++ off.item ∷ rest
    whole = is ∙ ap (λ (xs : List Loaded). xs ++ rest) off.taken ∙ append_assoc off.front (off.item ∷ []) rest

    by : IsUnwanted off.id s.copying.spots off.item → ⊥
    by unwanted =
        let p = unwanted.payload in
        let here : sent ≡ off.front ++ loaded.Payload p ∷ rest = whole ∙ ap (λ (x : Loaded). off.front ++ x ∷ rest) unwanted.is in
        let covers : Covers p.id p.bytes.items s.copying.spots = right_at s.copying.spots off.front (loaded.Payload p) rest (subst (AllByRecursion (IsRight s.copying.spots)) here right) in
        let all : ids off.front ++ p.id ∷ (ids rest ++ more) ≡ load_ids steps = sym (append_assoc (ids off.front) (p.id ∷ ids rest) more) ∙ ap (λ (ns : List ℕ). ns ++ more) (sym (ids_append off.front (loaded.Payload p ∷ rest))) ∙ ap (λ (xs : List Loaded). ids xs ++ more) (sym here) ∙ loads in
        let same : p.id ≡ off.id = same_next (ids off.front) p.id off.id (ids rest ++ more) off.more (all ∙ sym off.wants) in
        ⊎_elim (λ other. other same) (λ short. short (subst (λ (n : ℕ). Covers n p.bytes.items s.copying.spots) same covers)) unwanted.why
