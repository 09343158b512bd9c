-- The tables in memory, where containers go.
use Rattle.std.proofs.Common.{◌≡◌, ℕ, map, Bool, true, false, cond, ◌&&◌, not, List, ◌++◌, Option, Some, None, refl, sym, ◌∙◌, ap, subst}
use Rattle.std.specs.Prelude.{Contains, IfSome, option_map}
use Rattle.std.specs.Option.{option_or}
use Rattle.vault_types.specs.declared.Name.{Name}
use Rattle.vault_types.specs.declared.Table.{Table}
use Rattle.vault_types.specs.Lists.{has}
use Rattle.vault_types.specs.Tables.{Container, id_of}
use Rattle.vault_types.specs.State.{named, container_in}
use Rattle.vault_types.specs.Delete.{delete, reclaimed_ids}
use Rattle.vault_types.specs.Events.{Core, Job, put_by, pinned_containers, IsCore, after_delete}
use Rattle.vault_types.proofs.StateLemmas.{container-kept}
use Rattle.keeper_catalog.specs.Catalog.{listed, table_at, AreTables}
use Rattle.deletion_laws.specs.Deleting.{pinned_ids}
use Rattle.state_laws.proofs.Members.{clash, has-filter, container_in-append, container_in-none, container_in-is, container_in-some}
use Rattle.deletion_laws.proofs.Keeping.{gone}

some_of : (o : Option Container) (c : Container) (P : Container → Type 0) → o ≡ Some c → IfSome o P → P c
some_of o c P is holds = subst (λ (o : Option Container). IfSome o P) is holds

-- the container at an id, first in the state and then in the pins
pub two_parts : (xs ys zs : List Container) (id : ℕ) → container_in (xs ++ (ys ++ zs)) id ≡ option_or (container_in xs id) (option_or (container_in ys id) (container_in zs id))
two_parts xs ys zs id = container_in-append xs (ys ++ zs) id ∙ ap (λ (o : Option Container). option_or (container_in xs id) o) (container_in-append ys zs id)

pub or_none : (o : Option Container) → option_or o None ≡ o
or_none None = refl
or_none (Some c) = refl

module _ (K : Core) (s n : ℕ) (strays : List Name) (core : IsCore K) (no_job : K.job ≡ None) where
  abbrev after : List Container
  after = (delete K.state s n).containers

  abbrev pinned : List Container
  pinned = pinned_containers K.pins

  none_put : (id : ℕ) → container_in (put_by K.job) id ≡ None
  none_put id = ap (λ (j : Option Job). container_in (put_by j) id) no_job

  without_job : (xs : List Container) (id : ℕ) → container_in (xs ++ (pinned ++ put_by K.job)) id ≡ option_or (container_in xs id) (container_in pinned id)
  without_job xs id = two_parts xs pinned (put_by K.job) id ∙ ap (λ (o : Option Container). option_or (container_in xs id) (option_or (container_in pinned id) o)) (none_put id) ∙ ap (λ (o : Option Container). option_or (container_in xs id) o) (or_none (container_in pinned id))

  goes : ℕ → Bool
  goes id = has id (reclaimed_ids K.state (delete K.state s n)) && not (has id (pinned_ids K.pins))

  -- where the state has a container at the id, a pin that has one has the same
  pinned_alike : (id : ℕ) (c : Container) → container_in K.state.containers id ≡ Some c → (d : Container) → container_in pinned id ≡ Some d → d ≡ c
  pinned_alike id c is d has_it =
      let among = container_in-is pinned id d has_it in
      sym (some_of (container_in K.state.containers id) c (λ (e : Container). e ≡ d) is (subst (λ (k : ℕ). IfSome (container_in K.state.containers k) (λ e. e ≡ d)) among.1 (core.pins d among.0).1))

  covered_by : (id : ℕ) (o p : Option Container) → container_in K.state.containers id ≡ o → container_in pinned id ≡ p → (d : Container) → p ≡ Some d → option_or None p ≡ option_or o p
  covered_by id None p is there d some = refl
  covered_by id (Some c) p is there d some = some ∙ ap (λ (x : Container). Some x) (pinned_alike id c is d (there ∙ some))

  -- the container at an id that stays
  same_at : (id : ℕ) → goes id ≡ false → container_in (after ++ (pinned ++ put_by K.job)) id ≡ container_in (K.state.containers ++ (pinned ++ put_by K.job)) id
  unfolding goes
  same_at id stays = by_name (has id (named (delete K.state s n))) refl
    where
      by_pin : has id (named (delete K.state s n)) ≡ false → (b : Bool) → has id (pinned_ids K.pins) ≡ b → option_or (container_in after id) (container_in pinned id) ≡ option_or (container_in K.state.containers id) (container_in pinned id)
      by_pin none true is =
          let d = container_in-some pinned id is in
          ap (λ (o : Option Container). option_or o (container_in pinned id)) (gone (named (delete K.state s n)) id K.state.containers none)
          ∙ covered_by id (container_in K.state.containers id) (container_in pinned id) refl refl d.0 d.1
      by_pin none false is = ap (λ (o : Option Container). option_or o (container_in pinned id)) (gone (named (delete K.state s n)) id K.state.containers none ∙ sym (container_in-none K.state.containers id unnamed))
        where
          unnamed : has id (map id_of K.state.containers) ≡ false
          unnamed = ap (has id) core.state.containers ∙ step (has id (named K.state)) refl
            where
              step : (a : Bool) → has id (named K.state) ≡ a → a ≡ false
              step false e = refl
              step true e = absurd (clash (goes id) (ap (λ (b : Bool). b && not (has id (pinned_ids K.pins))) (has-filter id (λ k. not (has k (named (delete K.state s n)))) (named K.state) ∙ ap (λ (b : Bool). not b && has id (named K.state)) none ∙ e) ∙ ap (λ (b : Bool). not b) is) stays)

      by_name : (b : Bool) → has id (named (delete K.state s n)) ≡ b → container_in (after ++ (pinned ++ put_by K.job)) id ≡ container_in (K.state.containers ++ (pinned ++ put_by K.job)) id
      by_name true is = without_job after id ∙ ap (λ (o : Option Container). option_or o (container_in pinned id)) (container-kept (named (delete K.state s n)) id K.state.containers is) ∙ sym (without_job K.state.containers id)
      by_name false is = without_job after id ∙ by_pin is (has id (pinned_ids K.pins)) refl ∙ sym (without_job K.state.containers id)

  none_at : (id : ℕ) → goes id ≡ true → container_in (after ++ (pinned ++ put_by K.job)) id ≡ None
  unfolding goes
  none_at id leaves = without_job after id ∙ step (has id (reclaimed_ids K.state (delete K.state s n))) (has id (pinned_ids K.pins)) refl refl leaves
    where
      not_named : (a b : Bool) → (not a && b) ≡ true → a ≡ false
      not_named false b e = refl
      not_named true b e = absurd (let c : false ≡ true = e in cc)

      step : (a b : Bool) → has id (reclaimed_ids K.state (delete K.state s n)) ≡ a → has id (pinned_ids K.pins) ≡ b → (a && not b) ≡ true → option_or (container_in after id) (container_in pinned id) ≡ None
      step true false e f h =
          let none = gone (named (delete K.state s n)) id K.state.containers (not_named (has id (named (delete K.state s n))) (has id (named K.state)) (sym (has-filter id (λ k. not (has k (named (delete K.state s n)))) (named K.state)) ∙ e)) in
          ap (λ (o : Option Container). option_or o (container_in pinned id)) none ∙ container_in-none pinned id f
      step true true e f h = absurd (let c : false ≡ true = h in cc)
      step false b e f h = absurd (let c : false ≡ true = h in cc)

  -- the tables but those of containers that lose their last name, and that no pin lists
  pub delete_tables : (t t' : List (ℕ × Table)) → AreTables t (listed K)
      → ((id : ℕ) → table_at t' id ≡ cond (has id (reclaimed_ids K.state (delete K.state s n)) && not (has id (pinned_ids K.pins))) None (table_at t id))
      → AreTables t' (listed (after_delete s n strays K))
  unfolding goes
  delete_tables t t' are left id = left id ∙ step (goes id) refl
    where
      step : (b : Bool) → goes id ≡ b → cond b None (table_at t id) ≡ option_map (λ c. c.table) (container_in (after ++ (pinned ++ put_by K.job)) id)
      step true e = sym (ap (λ (o : Option Container). option_map (λ (c : Container). c.table) o) (none_at id e))
      step false e = are id ∙ sym (ap (λ (o : Option Container). option_map (λ (c : Container). c.table) o) (same_at id e))

-- the table of a named container is in memory
pub named_table : (K : Core) (t : List (ℕ × Table)) → IsCore K → AreTables t (listed K) → (id : ℕ) → has id (named K.state) ≡ true → (c : Container) × Contains K.state.containers c × (c.table.id ≡ id) × (table_at t id ≡ Some c.table)
named_table K t core are id h =
    let c = container_in-some K.state.containers id (ap (has id) core.state.containers ∙ h) in
    let is = container_in-is K.state.containers id c.0 c.1 in
    (c.0, is.0, is.1, are id ∙ ap (λ (o : Option Container). option_map (λ (c : Container). c.table) o) (container_in-append K.state.containers (pinned_containers K.pins ++ put_by K.job) id ∙ ap (λ (o : Option Container). option_or o (container_in (pinned_containers K.pins ++ put_by K.job) id)) c.1))
