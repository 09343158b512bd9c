-- Payloads that are long enough.
use Rattle.std.proofs.Common.{◌≡◌, ◌⊎◌, inl, inr, ℕ, ◌+◌, ◌<◌, ◌≤◌, max, Bool, true, false, cond, eqb, nat_eq, List, [], ◌∷◌, length, take, get_or, Option, Some, refl, sym, ap, subst, ◌∙◌, arith}
use Rattle.std.specs.Prelude.{IsSomeAnd, unwrap_or}
use Rattle.std.specs.HashMap.{HashMap, get, Updates}
use Rattle.std.proofs.lemmas.Bool.{eq-eqb, ne_eqb, eqb-true, cases_eq}
use Rattle.std.proofs.lemmas.List.{take_more}
use Rattle.std.proofs.lemmas.List.Recursion.{max_push}
use Rattle.vault_types.specs.declared.Spot.{Spot}
use Rattle.restore_assembler.specs.Payloads.{Covers}
use Rattle.restore_assembler.specs.Ends.{end_in, end_of, HasEnds}
use Rattle.restore_assembler.specs.Copying.{Copying, wanted, IsCovered}

-- one more spot
pub end_more : (id : ℕ) (spots : List Spot) (i : ℕ) (d : Spot) → i < length spots → end_of id (take (i + 1) spots) ≡ max (end_of id (take i spots)) (end_in id (get_or spots i d))
end_more id spots i d l = ap (end_of id) (take_more spots i d l) ∙ max_push (end_of id) (end_in id) refl (λ _ _. refl) (take i spots) (get_or spots i d)

pub end_here : (id : ℕ) (spot : Spot) → spot.id ≡ id → end_in id spot ≡ spot.at + spot.len
end_here id spot e = ap (λ b. cond b (spot.at + spot.len) 0) (eq-eqb spot.id id e)

pub end_apart : (id : ℕ) (spot : Spot) → (spot.id ≡ id → ⊥) → end_in id spot ≡ 0
end_apart id spot ne = ap (λ b. cond b (spot.at + spot.len) 0) (ne_eqb spot.id id ne)

-- long enough for the last spot is long enough for each
pub covers_end : (id : ℕ) (bytes : List ℕ) (spots : List Spot) → end_of id spots ≤ length bytes → Covers id bytes spots
covers_end id bytes [] l = tt
covers_end id bytes (spot ∷ spots) l = (λ e. omega (arith, end_here id spot e), covers_end id bytes spots (omega arith))

pub end_covers : (id : ℕ) (bytes : List ℕ) (spots : List Spot) → Covers id bytes spots → end_of id spots ≤ length bytes
end_covers id bytes [] h = omega arith
end_covers id bytes (spot ∷ spots) h = go (eqb spot.id id) refl (end_covers id bytes spots h.1)
  where
    go : (b : Bool) → eqb spot.id id ≡ b → end_of id spots ≤ length bytes → max (cond b (spot.at + spot.len) 0) (end_of id spots) ≤ length bytes
    go true e ih = let here : spot.at + spot.len ≤ length bytes = h.0 (eqb-true spot.id id e) in omega arith
    go false e ih = omega arith

pub covers_is : (s : Copying) (id end : ℕ) (bytes : List ℕ) → end ≡ end_of id s.spots → wanted s ≡ Some id → (end ≤ length bytes → IsCovered s bytes) × (IsCovered s bytes → end ≤ length bytes)
covers_is s id end bytes is wants = (
  λ l. subst (λ (o : Option ℕ). IsSomeAnd o (λ i. Covers i bytes s.spots)) (sym wants) (covers_end id bytes s.spots (omega (arith, l, is))),
  λ h. omega (arith, is, end_covers id bytes s.spots (subst (λ (o : Option ℕ). IsSomeAnd o (λ i. Covers i bytes s.spots)) wants h)),
)

-- the map with one more spot
pub ends_more : {S : Type 0} (ends ends' : HashMap ℕ ℕ S) (spots : List Spot) (i : ℕ) (spot : Spot) (last : ℕ) → i < length spots → HasEnds ends (take i spots)
    → Updates nat_eq ends ends' (get_or spots i spot).id (Some last) → last ≡ max (unwrap_or (get nat_eq ends (get_or spots i spot).id) 0) ((get_or spots i spot).at + (get_or spots i spot).len) → HasEnds ends' (take (i + 1) spots)
ends_more {S} ends ends' spots i spot last l has_ends updates is = λ q. go q (cases_eq (get_or spots i spot).id q)
  where
    go : (q : ℕ) → ((get_or spots i spot).id ≡ q) ⊎ ((get_or spots i spot).id ≡ q → ⊥) → unwrap_or (get nat_eq ends' q) 0 ≡ end_of q (take (i + 1) spots)
    go q (inl e) =
        let x : Spot = get_or spots i spot in
        let found : unwrap_or (get nat_eq ends' x.id) 0 ≡ last = ap (λ (o : Option ℕ). unwrap_or o 0) updates.1 in
        let here : unwrap_or (get nat_eq ends' x.id) 0 ≡ end_of x.id (take (i + 1) spots) = omega (arith, found, is, has_ends x.id, end_more x.id spots i spot l, end_here x.id x refl) in
        subst (λ (k : ℕ). unwrap_or (get nat_eq ends' k) 0 ≡ end_of k (take (i + 1) spots)) e here
    go q (inr apart) =
        let x : Spot = get_or spots i spot in
        let found : unwrap_or (get nat_eq ends' q) 0 ≡ unwrap_or (get nat_eq ends q) 0 = ap (λ (o : Option ℕ). unwrap_or o 0) (updates.2 q (ne_eqb x.id q apart)) in
        omega (arith, found, has_ends q, end_more q spots i spot l, end_apart q x apart)
