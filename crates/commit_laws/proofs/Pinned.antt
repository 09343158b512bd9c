-- A pin keeps a core, the tables in memory and what the shelf holds.
use Rattle.std.proofs.Common.{◌≡◌, ℕ, ◌+◌, ◌<◌, ◌⊎◌, inl, inr, ⊎_elim, Bool, true, false, cond, map, List, [], ◌∷◌, ◌++◌, Option, Some, None, refl, sym, ap, ◌∙◌, subst}
use Rattle.std.specs.Prelude.{Contains, IfSome, nat_eq, filter, ◌==◌}
use Rattle.std.specs.Option.{option_or}
use Rattle.std.specs.List.{IsDistinct}
use Rattle.std.specs.Cmp.{nat_eq_equiv}
use Rattle.std.proofs.lemmas.List.{map-append, flat_map_more}
use Rattle.std.proofs.lemmas.List.Elements.{Contains-append_left, Contains-append_right, Contains-append_cases}
use Rattle.std.proofs.lemmas.Map.Keys.{IsDistinct-push}
use Rattle.vault_types.specs.declared.Name.{Name}
use Rattle.vault_types.specs.declared.Table.{Table}
use Rattle.vault_types.specs.declared.Pending.TheVariants as pending
use Rattle.vault_types.specs.Lists.{has}
use Rattle.vault_types.specs.Tables.{Container}
use Rattle.vault_types.specs.State.{latest_of, next_of, container_in}
use Rattle.vault_types.specs.Shelf.{Blobs, HasContainer}
use Rattle.vault_types.specs.Events.{Core, Change, Pin, put_by, pinned_containers, containers_of, IsNeeded, IsNear, HasChange, IsChange, IsCore, Held}
use Rattle.vault_types.proofs.NextLemmas.{ids_below}
use Rattle.state_laws.specs.Parts.{HeldIfTold}
use Rattle.state_laws.proofs.Standing.{keeps_container, needs_pinned, needs_container}
use Rattle.state_laws.proofs.Changing.{recipe_no_table, recipe_no_payload, floor_no_table, floor_no_payload, told_more}
use Rattle.keeper_catalog.specs.Catalog.{listed, AreTables}
use Rattle.commit_laws.specs.Laws.{pin_with, pinned_core}
use Rattle.commit_laws.proofs.Listing.{all_at, found_append, found_where, later_of_list}
use Rattle.commit_laws.proofs.Committing.{state_ascends}
use Rattle.commit_laws.proofs.Looking.{same_tables}

-- some of a list

pub filter_was : (p : Container → Bool) (cs : List Container) (c : Container) → Contains (filter p cs) c → Contains cs c
filter_was p [] c there = there
filter_was p (d ∷ cs) c there = step (p d) there (filter_was p cs c)
  where
    step : (b : Bool) → Contains (cond b (d ∷ filter p cs) (filter p cs)) c → (Contains (filter p cs) c → Contains cs c) → Contains (d ∷ cs) c
    step true h rest = ⊎_elim
        (λ here. Contains-append_left (d ∷ []) cs c here)
        (λ more. later_of_list d cs c (rest more))
        (Contains-append_cases (d ∷ []) (filter p cs) c h)
    step false h rest = later_of_list d cs c (rest h)

none_filter : (p : Container → Bool) (cs : List Container) (id : ℕ) → container_in cs id ≡ None → container_in (filter p cs) id ≡ None
none_filter p [] id none = refl
none_filter p (d ∷ cs) id none = step (p d) (d.table.id == id) refl none (none_filter p cs id)
  where
    step : (a b : Bool) → (d.table.id == id) ≡ b → cond b (Some d) (container_in cs id) ≡ None → (container_in cs id ≡ None → container_in (filter p cs) id ≡ None) → container_in (cond a (d ∷ filter p cs) (filter p cs)) id ≡ None
    step a true t e rest = absurd (let clash : ◌≡◌ {A = Option Container} (Some d) None = e in cc)
    step true false t e rest = ap (λ b. cond b (Some d) (container_in (filter p cs) id)) t ∙ rest e
    step false false t e rest = rest e

module _ (K : Core) (core : IsCore K) (number s v : ℕ) (ids : List ℕ) where
  pub pinned_more : pinned_containers (K.pins ++ pin_with number s v ids K.state ∷ []) ≡ pinned_containers K.pins ++ containers_of K.state.containers ids
  pinned_more = sym (flat_map_more (λ (p : Pin). p.containers) [] K.pins (pin_with number s v ids K.state))

  of_state : (c : Container) → Contains (containers_of K.state.containers ids) c → Contains K.state.containers c
  of_state c there = filter_was (λ c. has c.table.id ids) K.state.containers c there

  -- a container that a pin lists was listed, or is the state's
  pinned_cases : (c : Container) → Contains (pinned_containers (K.pins ++ pin_with number s v ids K.state ∷ [])) c → Contains (pinned_containers K.pins) c ⊎ Contains K.state.containers c
  pinned_cases c there = ⊎_elim (λ old. inl old) (λ new. inr (of_state c new))
      (Contains-append_cases (pinned_containers K.pins) (containers_of K.state.containers ids) c (subst (λ (l : List Container). Contains l c) pinned_more there))

  pin_agrees : (c : Container) → Contains K.state.containers c → (c.table.id < next_of K.state) × IfSome (container_in K.state.containers c.table.id) (λ d. d ≡ c)
  pin_agrees c there = (
    all_at (λ (c : Container). c.table.id < next_of K.state) K.state.containers c (ids_below K.state core.state) there,
    subst (λ (o : Option Container). IfSome o (λ d. d ≡ c)) (sym (found_where K.state.containers c (state_ascends K.state core.state) there)) refl,
  )

  -- a pin of a new number keeps a core
  pub pin_core : has number (map (λ p. p.number) K.pins) ≡ false → IsCore (pinned_core number s v ids K)
  pin_core fresh = record {
    state = core.state;
    job = core.job;
    tables = core.tables;
    payloads = core.payloads;
    job_set = core.job_set;
    pins = λ c among. ⊎_elim (core.pins c) (pin_agrees c) (pinned_cases c among);
    numbers = subst (IsDistinct nat_eq) (sym (map-append (λ (p : Pin). p.number) K.pins (pin_with number s v ids K.state ∷ []))) (IsDistinct-push nat_eq_equiv (map (λ (p : Pin). p.number) K.pins) number core.numbers fresh);
    alone = core.alone;
    failed = core.failed;
    other = core.other;
  }

  -- the same is found

  found_pinned : (id : ℕ) → container_in (listed (pinned_core number s v ids K)) id ≡ container_in (listed K) id
  found_pinned id =
      ap (λ (l : List Container). container_in (K.state.containers ++ (l ++ put_by K.job)) id) pinned_more
      ∙ found_append K.state.containers ((pinned_containers K.pins ++ containers_of K.state.containers ids) ++ put_by K.job) id
      ∙ ap (λ (o : Option Container). option_or (container_in K.state.containers id) o)
      (found_append (pinned_containers K.pins ++ containers_of K.state.containers ids) (put_by K.job) id
      ∙ ap (λ (o : Option Container). option_or o (container_in (put_by K.job) id)) (found_append (pinned_containers K.pins) (containers_of K.state.containers ids) id))
      ∙ less (container_in K.state.containers id) (container_in (pinned_containers K.pins) id) (container_in (containers_of K.state.containers ids) id) (container_in (put_by K.job) id)
      (none_filter (λ c. has c.table.id ids) K.state.containers id)
      ∙ ap (λ (o : Option Container). option_or (container_in K.state.containers id) o) (sym (found_append (pinned_containers K.pins) (put_by K.job) id))
      ∙ sym (found_append K.state.containers (pinned_containers K.pins ++ put_by K.job) id)
    where
      less : (a p n j : Option Container) → (a ≡ None → n ≡ None) → option_or a (option_or (option_or p n) j) ≡ option_or a (option_or p j)
      less (Some c) p n j gone = refl
      less None (Some c) n j gone = refl
      less None None n j gone = ap (λ (o : Option Container). option_or o j) (gone refl)

  -- and the tables are those of the core
  pub pin_tables : (t : List (ℕ × Table)) → AreTables t (listed K) → AreTables t (listed (pinned_core number s v ids K))
  pin_tables t are = same_tables t (listed K) (listed (pinned_core number s v ids K)) found_pinned are

  -- what is held

  changed_has : (h : Change) → IsChange K.state s h → (m : Blobs) → HasChange K.state h m → (c : Container) → Contains K.state.containers c → HasContainer m c
  changed_has h of m has c there = subst (λ (b : Blobs). HasContainer b c) (sym has.is)
      (⊎_elim
      (λ kind. keeps_container has.before h.name (Some h.bytes) c
      (λ same. recipe_no_table s (latest_of K.state s + 1) c.table.id (sym (same ∙ kind.0)))
      (λ same. recipe_no_payload s (latest_of K.state s + 1) c.table.id (sym (same ∙ kind.0)))
      (has.stands.containers c there))
      (λ kind. keeps_container has.before h.name (Some h.bytes) c
      (λ same. floor_no_table s c.table.id (sym (same ∙ kind.0)))
      (λ same. floor_no_payload s c.table.id (sym (same ∙ kind.0)))
      (has.stands.containers c there))
      of.kind)

module _ (K : Core) (core : IsCore K) where
  near_has : (o : Option Change) → IfSome o (λ h. (t : ℕ) × (K.pending ≡ pending.FailedFor t) × IsChange K.state t h) → (m : Blobs) → IsNear K.state o m → (c : Container) → Contains K.state.containers c → HasContainer m c
  near_has o of m (inl stands) c there = stands.containers c there
  near_has None of m (inr none) c there = absurd none
  near_has (Some h) of m (inr has) c there = changed_has K core 0 of.0 0 [] h of.2 m has c there

  -- the shelf has the state's containers, also where a write is half done
  pub held_has : (m : Blobs) → Held m K → (c : Container) → Contains K.state.containers c → HasContainer m c
  held_has m held c there = near_has K.other core.other m held.near c there

  pub pin_held : (number s v : ℕ) (ids : List ℕ) (m : Blobs) → Held m K → Held m (pinned_core number s v ids K)
  pin_held number s v ids m held = record {
    near = held.near;
    containers = λ c among. ⊎_elim
        (λ pinned. ⊎_elim
        (λ old. held.containers c (Contains-append_left (pinned_containers K.pins) (put_by K.job) c old))
        (λ new. held_has m held c new)
        (pinned_cases K core number s v ids c pinned))
        (λ put. held.containers c (Contains-append_right (pinned_containers K.pins) (put_by K.job) c put))
        (Contains-append_cases (pinned_containers (K.pins ++ pin_with number s v ids K.state ∷ [])) (put_by K.job) c among);
    others = λ q there. ⊎_elim (λ needed. inl (more q needed)) (λ stray. inr stray) (held.others q there);
    apart = λ q stray needed. held.apart q stray (fewer q needed);
  }
    where
      more : (q : Name) → IsNeeded K.state (pinned_containers K.pins) q → IsNeeded K.state (pinned_containers (K.pins ++ pin_with number s v ids K.state ∷ [])) q
      more q (inl is) = ⊎_elim
          (λ here. needs_container K.state (pinned_containers (K.pins ++ pin_with number s v ids K.state ∷ [])) q (record { container = is.container; among = here; is = is.is }))
          (λ pinned. needs_pinned K.state (pinned_containers (K.pins ++ pin_with number s v ids K.state ∷ [])) q
          (record { container = is.container; among = subst (λ (l : List Container). Contains l is.container) (sym (pinned_more K core number s v ids)) (Contains-append_left (pinned_containers K.pins) (containers_of K.state.containers ids) is.container pinned); is = is.is }))
          (Contains-append_cases K.state.containers (pinned_containers K.pins) is.container is.among)
      more q (inr is) = inr is

      fewer : (q : Name) → IsNeeded K.state (pinned_containers (K.pins ++ pin_with number s v ids K.state ∷ [])) q → IsNeeded K.state (pinned_containers K.pins) q
      fewer q (inl is) = ⊎_elim
          (λ here. needs_container K.state (pinned_containers K.pins) q (record { container = is.container; among = here; is = is.is }))
          (λ pinned. ⊎_elim
          (λ old. needs_pinned K.state (pinned_containers K.pins) q (record { container = is.container; among = old; is = is.is }))
          (λ new. needs_container K.state (pinned_containers K.pins) q (record { container = is.container; among = new; is = is.is }))
          (pinned_cases K core number s v ids is.container pinned))
          (Contains-append_cases K.state.containers (pinned_containers (K.pins ++ pin_with number s v ids K.state ∷ [])) is.container is.among)
      fewer q (inr is) = inr is

  -- the same where the shelf may tell nothing
  pub pin_told : (number s v : ℕ) (ids : List ℕ) (b : Option Blobs) → HeldIfTold b K → HeldIfTold b (pinned_core number s v ids K)
  pin_told number s v ids b held = told_more (λ m. Held m K) (λ m. Held m (pinned_core number s v ids K)) b (pin_held number s v ids) held
