-- What the shelf's answers show of damage in a restore, as the table of answers says it; and that a sound state has none.
use Rattle.std.proofs.Common.{◌≡◌, ◌⊎◌, inl, inr, ⊎_elim, ℕ, zero, suc, ◌+◌, ◌*◌, ◌^◌, ◌<◌, false, true, IsTrue, List, [], ◌∷◌, length, map, Option, Some, None, refl, sym, ap, subst, ◌∙◌, length-append}
use Rattle.std.specs.FinMap as fin
use Rattle.std.specs.Prelude.{Contains, IfSome, IsSome, IsSomeAnd, slice_get, ◌==◌}
use Rattle.std.specs.Option.{option_map_or}
use Rattle.std.specs.List.{AllByRecursion, concat}
use Rattle.std.proofs.lemmas.List.Sums.{sum_by-cons}
use Rattle.vault_types.specs.declared.Fp.{Fp}
use Rattle.vault_types.specs.declared.Kind.{Kind}
use Rattle.vault_types.specs.declared.Kind.TheVariants as kind
use Rattle.vault_types.specs.declared.Recipe.{Recipe}
use Rattle.vault_types.specs.declared.Row.{Row}
use Rattle.vault_types.specs.declared.Table.{Table}
use Rattle.vault_types.specs.declared.Why.{Why}
use Rattle.vault_types.specs.declared.Why.TheVariants as why
use Rattle.vault_types.specs.Blobs.{SpellsRecipe, recipe_bytes}
use Rattle.vault_types.specs.Bytes.{bytes_of, HasRow, HasPayload, IsSound}
use Rattle.vault_types.specs.Events.{Core, containers_of}
use Rattle.vault_types.specs.Lists.{has, IsAscending}
use Rattle.vault_types.specs.Names.{fp}
use Rattle.vault_types.specs.Refusals.{is_damage_of}
use Rattle.vault_types.specs.Script.{row_ids}
use Rattle.vault_types.specs.Shelf.{Blobs, recipe_name, payload_name, IsRecipeBlob, Has}
use Rattle.vault_types.specs.State.{State, KeptVersion, version_of, container_in, all_rows, recipe_of}
use Rattle.vault_types.specs.Tables.{Container, id_of, payload_len, table_row, IsWhole}
use Rattle.vault_types.proofs.SetLemmas.{IsAscending-set_of}
use Rattle.vault_types.specs.BlobDamage.{IsPayloadWhy, IsRecipeWhy}
use Rattle.state_laws.specs.Parts.{HeldIfTold}
use Rattle.state_laws.proofs.Growing.{rows_of}
use Rattle.keeper_catalog.specs.View.{View, Keeps}
use Rattle.commit_laws.proofs.Listing.{itself, found_where, found_is, all_at, none_some, some_same}
use Rattle.commit_laws.proofs.Loading.{held_recipe}
use Rattle.commit_laws.proofs.Pinned.{held_has}
use Rattle.commit_laws.proofs.Unique.{plain_of, kept_rules, kept_number, with_whole, without_whole}
use Rattle.state_laws.proofs.Members.{filter_passed, filter_within}
use Rattle.keeper_core.specs.Calls.{IsPinDamage}
use Rattle.store_model.specs.Table as table
use Rattle.serial_restore.specs.Restoring.{IsBadPayloadOf, IsWrongSumOf}

-- ---- a sound state has no damage

all_bytes : (chunks : List (List ℕ)) → length (concat chunks) ≡ payload_len (map table_row chunks)
all_bytes [] = refl
all_bytes (x ∷ xs) = length-append x (concat xs) ∙ ap (λ n. length x + n) (all_bytes xs) ∙ sym (sum_by-cons (λ r. r.len) (table_row x) (map table_row xs))

whole_len : (t : Table) (payload : List ℕ) → IsWhole t payload → length payload ≡ payload_len t.rows
whole_len t payload whole = ap length (sym whole.1) ∙ all_bytes whole.0 ∙ ap payload_len whole.2

abbrev fp_of : List ℕ → Fp
fp_of x = record { 0 = x }

whole_sum : (t : Table) (payload : List ℕ) → IsWhole t payload → fp payload ≡ t.payload_sum
whole_sum t payload whole = ap (λ (x : List ℕ). fp_of x) whole.3

whole_payload : (t : Table) (o : Option (List ℕ)) → IsSomeAnd o (IsWhole t) → (y : Why) → table.IsBadPayload (record { table = t; payload = o }) y → ⊥
whole_payload t None whole y h = absurd whole
whole_payload t (Some p) whole why.Absent h = none_some p (sym h)
whole_payload t (Some p) whole (why.Length want found) h = h.2 (h.0 ∙ sym (whole_len t p whole) ∙ sym h.1)
whole_payload t (Some p) whole (why.Sum want found) h = h.2 (h.0 ∙ sym (whole_sum t p whole) ∙ sym h.1)
whole_payload t (Some p) whole other h = h

bad_in : (P : Row → Type 0) (rows : List Row) (i : ℕ) → AllByRecursion P rows → IsSomeAnd (slice_get rows i) (λ r. P r → ⊥) → ⊥
bad_in P [] i all bad = bad
bad_in P (r ∷ rows) zero all bad = bad all.0
bad_in P (r ∷ rows) (suc i) all bad = bad_in P rows i all.1 bad

module _ (S : State) (sound : IsSound S) (s n : ℕ) where
  sound_row : (i : ℕ) (o : Option KeptVersion) → version_of S s n ≡ o → IsSomeAnd o (λ k. IsSomeAnd (slice_get k.rows i) (λ r. HasRow S.containers r → ⊥)) → ⊥
  sound_row i None is bad = bad
  sound_row i (Some k) is bad = bad_in (HasRow S.containers) k.rows i (rows_of S s n k (HasRow S.containers) sound.lens is) bad

  sound_sum : (want : Fp) (o : Option KeptVersion) → IfSome o (λ k. k.sum ≡ fp (bytes_of S s n)) → IsSomeAnd o (λ k. want ≡ k.sum) → want ≡ fp (bytes_of S s n)
  sound_sum want None sums is = absurd is
  sound_sum want (Some k) sums is = is ∙ sums

  sound_container : (id : ℕ) (y : Why) (o : Option Container) → container_in S.containers id ≡ o → IsSomeAnd o (λ c. table.IsBadPayload c y) → ⊥
  sound_container id y None is bad = bad
  sound_container id y (Some c) is bad = whole_payload c.table c.payload (all_at HasPayload S.containers c sound.payloads (found_is S.containers id c is).0) y bad

  sound_recipe : (y : Why) → table.IsBadRecipe S s n y → ⊥
  sound_recipe (why.BadRow i) h = sound_row i (version_of S s n) refl h
  sound_recipe (why.Whole want found) h = h.2 (sound_sum want (version_of S s n) (sound.sums s n) h.0 ∙ sym h.1)
  sound_recipe other h = h

  pub undamaged : (k : Kind) (i : ℕ) (y : Why) → table.IsDamage S s n k i y → ⊥
  undamaged kind.Table i y h = h
  undamaged kind.Payload i y h = sound_container i y (container_in S.containers i) refl h
  undamaged kind.Recipe i y h = sound_recipe y h
  undamaged kind.Floor i y h = h

-- ---- what is shown of a kept version

-- a recipe that is spelled
said_recipe : (S : State) (s n : ℕ) (k : KeptVersion) (b : Option (List ℕ)) → SpellsRecipe s n (recipe_bytes (recipe_of s n k)) (recipe_of s n k) → SpellsRecipe s n (recipe_bytes (plain_of s n k)) (plain_of s n k) → IsRecipeBlob S s n k b
    → (r : Recipe) × SpellsRecipe s n (recipe_bytes r) r × (b ≡ Some (recipe_bytes r))
said_recipe S s n k b two one (inl is) = (recipe_of s n k, two, is)
said_recipe S s n k b two one (inr is) = (plain_of s n k, one, is.0)

not_damaged : (s n : ℕ) (m : Blobs) (r : Recipe) → SpellsRecipe s n (recipe_bytes r) r → fin.get m (recipe_name s n) ≡ Some (recipe_bytes r) → (y : Why) → IsRecipeWhy (Some m) s n y → ⊥
not_damaged s n m r said is why.Absent h = none_some (recipe_bytes r) (sym h ∙ is)
not_damaged s n m r said is why.Spelling h = h.2 r (subst (λ (b : List ℕ). SpellsRecipe s n b r) (some_same (recipe_bytes r) h.0 (sym is ∙ h.1)) said)
not_damaged s n m r said is other h = h

module _ (v : View) (K : Core) (keeps : Keeps v K) (tells : IsSome v.told.blobs) (s n : ℕ) (below : s < length K.state.datasets) (k : KeptVersion) (kept : version_of K.state s n ≡ Some k) where
  recipe_there : (b : Option Blobs) → IsSome b → HeldIfTold b K → (y : Why) → IsRecipeWhy b s n y → ⊥
  recipe_there None some held y h = absurd (let clash : false ≡ true = some in cc)
  recipe_there (Some m) some held y h =
      let rules = kept_rules K.state keeps.core.state s n k below kept in
      let number = kept_number K.state keeps.core.state s n k below kept in
      let said = said_recipe K.state s n k (fin.get m (recipe_name s n)) (record { set = refl; number = refl; rules = with_whole s n k number rules; spelled = refl }) (record { set = refl; number = refl; rules = without_whole s n k number rules; spelled = refl })
      (held_recipe K keeps.core s n k below kept m held) in
      not_damaged s n m said.0 said.1 said.2 y h

  recipe_number : (i : ℕ) → i ≡ (recipe_name s n).number → IsTrue (is_damage_of K.state s n kind.Recipe i)
  recipe_number i is = ap (λ (m : ℕ). m == s * 2 ^ 32 + n) is ∙ itself (s * 2 ^ 32 + n)

  rows_are : row_ids K.state s n ≡ map (λ r. r.id) k.rows
  rows_are = ap (λ (o : Option KeptVersion). option_map_or (λ j. map (λ r. r.id) j.rows) o []) kept

  abbrev Shown : Kind → ℕ → Why → Type 0
  Shown d i y = IsTrue (is_damage_of K.state s n d i) × table.IsDamage K.state s n d i y

  by_pin : (d : Kind) (i : ℕ) (y : Why) → IsPinDamage v.told.blobs K.state s n d i y → Shown d i y
  by_pin kind.Recipe i (why.BadRow j) h = (
    recipe_number i h.0,
    subst (λ (o : Option KeptVersion). IsSomeAnd o (λ q. IsSomeAnd (slice_get q.rows j) (λ r. HasRow K.state.containers r → ⊥))) (sym kept) (h.1 tells k kept),
  )
  by_pin kind.Recipe i y h = absurd (recipe_there v.told.blobs tells keeps.held y h.1)
  by_pin d i y h = absurd h

  payload_is : (c : Container) → Contains K.state.containers c → (x : Option (List ℕ)) (b : Option Blobs) → IsSome b → HeldIfTold b K → Has b (payload_name c.table.id) x → c.payload ≡ x
  payload_is c there x None some held has = absurd (let clash : false ≡ true = some in cc)
  payload_is c there x (Some m) some held has = sym (held_has K keeps.core m held c there).payload ∙ has

  payload_why : (c : Container) → Contains K.state.containers c → (y : Why) → IsPayloadWhy v.told.blobs c.table y → table.IsBadPayload c y
  payload_why c there why.Absent h = payload_is c there None v.told.blobs tells keeps.held h
  payload_why c there (why.Length want found) h = (
    h.2.0,
    subst (λ (o : Option (List ℕ)). IsSomeAnd o (λ p. found ≡ length p)) (sym (payload_is c there (Some h.0) v.told.blobs tells keeps.held h.1)) h.2.1,
    λ e. h.2.2 (sym e),
  )
  payload_why c there (why.Sum want found) h = (
    h.2.1,
    subst (λ (o : Option (List ℕ)). IsSomeAnd o (λ p. found ≡ fp p)) (sym (payload_is c there (Some h.0) v.told.blobs tells keeps.held h.1)) h.2.2,
    λ e. h.2.3 (sym e),
  )
  payload_why c there other h = absurd h.2

  ascending : IsAscending (map id_of K.state.containers)
  ascending = subst IsAscending (sym keeps.core.state.containers) (IsAscending-set_of (map (λ r. r.id) (all_rows K.state.datasets)))

  by_payload : (d : Kind) (i : ℕ) (y : Why) → IsBadPayloadOf v.told.blobs K.state s n d i y → Shown d i y
  by_payload kind.Payload i y h =
      let c : Container = h.0 in
      let among : Contains (containers_of K.state.containers (map (λ r. r.id) k.rows)) c = h.1 tells k kept in
      let there = filter_within (λ (x : Container). has x.table.id (map (λ r. r.id) k.rows)) K.state.containers c among in
      let named = filter_passed (λ (x : Container). has x.table.id (map (λ r. r.id) k.rows)) K.state.containers c among in
      let found = found_where K.state.containers c ascending there in (
        subst (λ (ids : List ℕ). has i ids ≡ true) (sym rows_are) (subst (λ (m : ℕ). has m (map (λ r. r.id) k.rows) ≡ true) (sym h.2.0) named),
        subst (λ (m : ℕ). IsSomeAnd (container_in K.state.containers m) (λ x. table.IsBadPayload x y)) (sym h.2.0)
            (subst (λ (o : Option Container). IsSomeAnd o (λ x. table.IsBadPayload x y)) (sym found) (payload_why c there y h.2.1)),
      )
  by_payload d i y h = absurd h.2

  by_sum : (d : Kind) (i : ℕ) (y : Why) → IsWrongSumOf v.told.blobs K.state s n d i y → Shown d i y
  by_sum kind.Recipe i (why.Whole want found) h = (
    recipe_number i h.0,
    (
      subst (λ (o : Option KeptVersion). IsSomeAnd o (λ q. want ≡ q.sum)) (sym kept) (h.2 tells k kept).0,
      (h.2 tells k kept).1,
      λ e. h.1 (sym e),
    ),
  )
  by_sum d i y h = absurd h

  pub shown : (d : Kind) (i : ℕ) (y : Why) → IsPinDamage v.told.blobs K.state s n d i y ⊎ (IsBadPayloadOf v.told.blobs K.state s n d i y ⊎ IsWrongSumOf v.told.blobs K.state s n d i y) → Shown d i y
  shown d i y h = ⊎_elim (λ pin. by_pin d i y pin) (λ e. ⊎_elim (λ bad. by_payload d i y bad) (λ wrong. by_sum d i y wrong) e) h
