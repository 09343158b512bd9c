-- The names of a container that a job puts are new.
use Rattle.std.proofs.Common.{◌≡◌, ◌≢◌, ◌⊎◌, inl, inr, ⊎_elim, ℕ, zero, suc, ◌<◌, ◌+◌, length, map, List, [], ◌∷◌, ◌++◌, Option, None, refl, sym, ◌∙◌, ap, subst, arith, get_or}
use Rattle.std.specs.Prelude.{Contains, IfSome, slice_index_or}
use Rattle.std.specs.List.{AllByRecursion, range_with_len}
use Rattle.std.proofs.Math.ListN.{get_or-map}
use Rattle.std.proofs.lemmas.List.FromFn.{get_or-range_with_len}
use Rattle.std.proofs.lemmas.List.Elements.{Contains-append_left, Contains-append_right, Contains-append_cases, Contains-push, Contains-push_cases}
use Rattle.vault_types.specs.declared.Name.{Name}
use Rattle.vault_types.specs.Tables.{Container, id_of}
use Rattle.vault_types.specs.State.{next_of}
use Rattle.vault_types.specs.Shelf.{Blobs, table_name, payload_name}
use Rattle.vault_types.specs.Events.{Core, Held, put_by, pinned_containers, IsCore, IsContainerName, IsNeeded}
use Rattle.vault_types.proofs.NextLemmas.{ids_below}
use Rattle.keeper_jobs.specs.Jobs.{Puts, names_of}
use Rattle.state_laws.specs.Parts.{HeldIfTold, IsSpare, IsFree, with_strays}
use Rattle.state_laws.proofs.Standing.{needs_beside, held_more}
use Rattle.state_laws.proofs.Changing.{told_more, recipe_no_table, recipe_no_payload, floor_no_table, floor_no_payload}

all_at : (P : Container → Type 0) (cs : List Container) (c : Container) → AllByRecursion P cs → Contains cs c → P c
all_at P [] c all h = absurd (omega (arith, h.1))
all_at P (d ∷ cs) c all h = at h.0 h.1 h.2 (λ k b e. all_at P cs c all.1 (k, b, e))
  where
    at : (k : ℕ) → k < suc (length cs) → slice_index_or (d ∷ cs) k c ≡ c → ((k : ℕ) → k < length cs → slice_index_or cs k c ≡ c → P c) → P c
    at zero b e rest = subst P e all.0
    at (suc k) b e rest = rest k (omega arith) e

ranged : (cs : List Container) (a : ℕ) (c : Container) → map id_of cs ≡ range_with_len a (length cs) → Contains cs c → c.table.id < a + length cs
ranged cs a c ids h =
    let e : c.table.id ≡ a + h.0 = ap id_of (sym h.2) ∙ sym (get_or-map id_of cs h.0 c) ∙ ap (λ (l : List ℕ). get_or l h.0 c.table.id) ids ∙ get_or-range_with_len a (length cs) h.0 c.table.id h.1 in
    omega (arith, h.1)

number_is : (n : Name) (i j : ℕ) → ((table_name i ≡ table_name j) ⊎ (table_name i ≡ payload_name j)) → i ≡ j
number_is n i j (inl is) = ap (λ (n : Name). n.number) is
number_is n i j (inr is) = ap (λ (n : Name). n.number) is

names_id : (i : ℕ) (n : Name) → (n ≡ table_name i) ⊎ (n ≡ payload_name i) → n.number ≡ i
names_id i n (inl is) = ap (λ (n : Name). n.number) is
names_id i n (inr is) = ap (λ (n : Name). n.number) is

module _ (K : Core) (core : IsCore K) (id : ℕ) (next : id ≡ next_of K.state + length (put_by K.job)) where
  fresh : (n : Name) → n.number ≡ id → IsContainerName (K.state.containers ++ pinned_containers K.pins) n → ⊥
  fresh n is named = ⊎_elim
      (λ here. let low = all_at (λ c. c.table.id < next_of K.state) K.state.containers named.container (ids_below K.state core.state) here in let e = names_id named.container.table.id n named.is in omega (arith, low))
      (λ pinned. let low = (core.pins named.container pinned).0 in let e = names_id named.container.table.id n named.is in omega (arith, low))
      (Contains-append_cases K.state.containers (pinned_containers K.pins) named.container named.among)

  pub table_fresh : IsNeeded K.state (pinned_containers K.pins) (table_name id) → ⊥
  table_fresh (inl is) = fresh (table_name id) refl is
  table_fresh (inr (inl is)) = recipe_no_table is.set is.version id (sym is.is)
  table_fresh (inr (inr is)) = floor_no_table is.set id (sym is.is)

  pub payload_fresh : IsNeeded K.state (pinned_containers K.pins) (payload_name id) → ⊥
  payload_fresh (inl is) = fresh (payload_name id) refl is
  payload_fresh (inr (inl is)) = recipe_no_payload is.set is.version id (sym is.is)
  payload_fresh (inr (inr is)) = floor_no_payload is.set id (sym is.is)

  not_put : (n : Name) → n.number ≡ id → IsContainerName (put_by K.job) n → ⊥
  not_put n is named = let low = ranged (put_by K.job) (next_of K.state) named.container core.job named.among in let e = names_id named.container.table.id n named.is in omega (arith, low)

  -- what the job puts the core doesn't see
  pub table_spare : (strays : List Name) (bytes : Option (List ℕ)) → K.other ≡ None → Contains strays (table_name id) → IsSpare (with_strays strays K) (table_name id) bytes
  table_spare strays bytes alone stray = record {
    idle = record {
      free = record { unneeded = λ needed. table_fresh (needs_beside K.state (pinned_containers K.pins) (table_name id) needed); newest = λ s v below later last is. absurd (recipe_no_table s v id is) };
      beside = subst (λ o. IfSome o (λ h. (h.name ≢ table_name id) × IsFree h.state (table_name id) bytes)) (sym alone) tt;
    };
    stray = stray;
    not_put = not_put (table_name id) refl;
  }

  pub payload_spare : (strays : List Name) (bytes : Option (List ℕ)) → K.other ≡ None → Contains strays (payload_name id) → IsSpare (with_strays strays K) (payload_name id) bytes
  payload_spare strays bytes alone stray = record {
    idle = record {
      free = record { unneeded = λ needed. payload_fresh (needs_beside K.state (pinned_containers K.pins) (payload_name id) needed); newest = λ s v below later last is. absurd (recipe_no_payload s v id is) };
      beside = subst (λ o. IfSome o (λ h. (h.name ≢ payload_name id) × IsFree h.state (payload_name id) bytes)) (sym alone) tt;
    };
    stray = stray;
    not_put = not_put (payload_name id) refl;
  }

-- the core with the names as strays

pub same_held : (K : Core) (strays : List Name) (b : Option Blobs) → K.strays ≡ strays → HeldIfTold b K → HeldIfTold b (with_strays strays K)
same_held K strays b is held = subst (λ (l : List Name). HeldIfTold b (with_strays l K)) is (told_more (λ m. Held m K) (λ m. Held m (with_strays K.strays K)) b (λ m h. record { near = h.near; containers = h.containers; others = h.others; apart = h.apart }) held)

module _ (K : Core) (strays : List Name) (id : ℕ) (puts : Puts K strays id) where
  name_cases : (n : Name) → Contains (names_of id) n → (payload_name id ≡ n) ⊎ (table_name id ≡ n)
  name_cases n h = ⊎_elim (λ one. inl (⊎_elim (λ none. absurd (omega (arith, none.1))) (λ same. same) (Contains-push_cases [] (payload_name id) n one))) (λ same. inr same) (Contains-push_cases (payload_name id ∷ []) (table_name id) n h)

  pub more_held : (b : Option Blobs) → HeldIfTold b K → HeldIfTold b (with_strays (strays ++ names_of id) K)
  more_held b held = told_more (λ m. Held m K) (λ m. Held m (with_strays (strays ++ names_of id) K)) b
      (λ m h. held_more K (strays ++ names_of id) m
      (λ n stray. Contains-append_left strays (names_of id) n (subst (λ (l : List Name). Contains l n) puts.strays_are stray))
      (λ n stray needed. ⊎_elim
      (λ old. h.apart n (subst (λ (l : List Name). Contains l n) (sym puts.strays_are) old) needed)
      (λ new. ⊎_elim
      (λ same. payload_fresh K puts.core id puts.next (subst (λ (q : Name). IsNeeded K.state (pinned_containers K.pins) q) (sym same) needed))
      (λ same. table_fresh K puts.core id puts.next (subst (λ (q : Name). IsNeeded K.state (pinned_containers K.pins) q) (sym same) needed))
      (name_cases n new))
      (Contains-append_cases strays (names_of id) n stray))
      h)
      held

  pub spare_payload : (bytes : Option (List ℕ)) → IsSpare (with_strays (strays ++ names_of id) K) (payload_name id) bytes
  spare_payload bytes = payload_spare K puts.core id puts.next (strays ++ names_of id) bytes puts.alone (Contains-append_right strays (names_of id) (payload_name id) (Contains-append_left (payload_name id ∷ []) (table_name id ∷ []) (payload_name id) (Contains-push [] (payload_name id))))

  pub spare_table : (bytes : Option (List ℕ)) → IsSpare (with_strays (strays ++ names_of id) K) (table_name id) bytes
  spare_table bytes = table_spare K puts.core id puts.next (strays ++ names_of id) bytes puts.alone (Contains-append_right strays (names_of id) (table_name id) (Contains-push (payload_name id ∷ []) (table_name id)))
