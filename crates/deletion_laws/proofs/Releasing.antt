-- What a release leaves of a core, its tables and its blobs.
use Rattle.std.proofs.Common.{◌≡◌, ◌≢◌, ◌⊎◌, inl, inr, ⊎_elim, ℕ, ◌≤◌, map, Bool, true, false, cond, ◌||◌, ◌&&◌, not, List, [], ◌++◌, Option, Some, None, refl, sym, ◌∙◌, ap, subst, arith}
use Rattle.std.specs.Prelude.{Contains, IfSome, option_map, ◌==◌}
use Rattle.std.specs.Option.{option_or}
use Rattle.std.proofs.lemmas.List.Elements.{Contains-append_left, Contains-append_right, Contains-append_cases}
use Rattle.vault_types.specs.declared.Name.{Name}
use Rattle.vault_types.specs.declared.Table.{Table}
use Rattle.vault_types.specs.declared.Pending.TheVariants.{FailedFor}
use Rattle.vault_types.specs.Lists.{has}
use Rattle.vault_types.specs.Tables.{Container, id_of}
use Rattle.vault_types.specs.State.{State, named, next_of, container_in}
use Rattle.vault_types.specs.Shelf.{Blobs, table_name, payload_name}
use Rattle.vault_types.specs.Events.{Core, Change, put_by, pinned_containers, pins_without, IsContainerName, IsNeeded, IsChange, IsCore, Held, after_release}
use Rattle.state_laws.specs.Parts.{IsFree, IsIdle, HeldIfTold}
use Rattle.state_laws.proofs.Standing.{needs_container, needs_pinned, container_name}
use Rattle.state_laws.proofs.Changing.{told_more}
use Rattle.keeper_catalog.specs.Catalog.{listed, table_at, AreTables}
use Rattle.deletion_laws.specs.Deleting.{pinned_ids}
use Rattle.keeper_catalog.specs.View.{AreAlike}
use Rattle.deletion_laws.specs.Releasing.{released_ids, is_released, IsReleased, AreStraysReleased}
use Rattle.state_laws.proofs.Members.{or_left, clash, no_member, of_map, in_map, container_in-none, container_in-is, container_in-some}
use Rattle.deletion_laws.proofs.Keeping.{container_named}
use Rattle.deletion_laws.proofs.Tabling.{two_parts}
use Rattle.deletion_laws.proofs.Going.{same_id, no_recipe, no_floor, name_at}
use Rattle.deletion_laws.proofs.Pinning.{fewer_pinned, fewer_numbers, listed_by, pinned_low, pinned_not_put}

-- a release keeps a core
pub release_core : (K : Core) (number : ℕ) (strays : List Name) → IsCore K → IsCore (after_release number strays K)
release_core K number strays core = record {
  state = core.state;
  job = core.job;
  tables = core.tables;
  payloads = core.payloads;
  job_set = core.job_set;
  pins = λ c among. core.pins c (fewer_pinned (λ p. not (p.number == number)) K.pins c among);
  numbers = fewer_numbers (λ p. not (p.number == number)) K.pins core.numbers;
  alone = core.alone;
  failed = core.failed;
  other = core.other;
}

-- the three tests of what is released

pub released_listed : (K : Core) (number id : ℕ) → is_released K number id ≡ true → has id (released_ids number K.pins) ≡ true
released_listed K number id h = step (has id (released_ids number K.pins)) refl h
  where
    step : (a : Bool) → has id (released_ids number K.pins) ≡ a → (a && (not (has id (named K.state)) && not (has id (pinned_ids (pins_without number K.pins))))) ≡ true → has id (released_ids number K.pins) ≡ true
    step true e i = e
    step false e i = absurd (let c : false ≡ true = i in cc)

not_first : (a b c : Bool) → (a && (not b && not c)) ≡ true → b ≡ false
not_first true false c h = refl
not_first true true c h = absurd (let e : false ≡ true = h in cc)
not_first false b c h = absurd (let e : false ≡ true = h in cc)

not_second : (a b c : Bool) → (a && (not b && not c)) ≡ true → c ≡ false
not_second true false false h = refl
not_second true false true h = absurd (let e : false ≡ true = h in cc)
not_second true true c h = absurd (let e : false ≡ true = h in cc)
not_second false b c h = absurd (let e : false ≡ true = h in cc)

pub released_unnamed : (K : Core) (number id : ℕ) → is_released K number id ≡ true → has id (named K.state) ≡ false
released_unnamed K number id h = not_first (has id (released_ids number K.pins)) (has id (named K.state)) (has id (pinned_ids (pins_without number K.pins))) h

pub released_unpinned : (K : Core) (number id : ℕ) → is_released K number id ≡ true → has id (pinned_ids (pins_without number K.pins)) ≡ false
released_unpinned K number id h = not_second (has id (released_ids number K.pins)) (has id (named K.state)) (has id (pinned_ids (pins_without number K.pins))) h

pub released_pinned : (K : Core) (number id : ℕ) → is_released K number id ≡ true → has id (pinned_ids K.pins) ≡ true
released_pinned K number id h = listed_by number id K.pins ∙ or_left (has id (released_ids number K.pins)) (has id (pinned_ids (pins_without number K.pins))) (released_listed K number id h)

module _ (K : Core) (number : ℕ) (core : IsCore K) where
  abbrev S : State
  S = K.state

  abbrev pinned : List Container
  pinned = pinned_containers K.pins

  abbrev left : List Container
  left = pinned_containers (pins_without number K.pins)

  within : (c : Container) → Contains left c → Contains pinned c
  within c among = fewer_pinned (λ p. not (p.number == number)) K.pins c among

  -- no container of the job is released
  pub released_not_put : (id : ℕ) → is_released K number id ≡ true → has id (map id_of (put_by K.job)) ≡ false
  released_not_put id h = pinned_not_put K core id (released_pinned K number id h)

  unnamed_none : (id : ℕ) → has id (named S) ≡ false → container_in S.containers id ≡ None
  unnamed_none id h = container_in-none S.containers id (ap (has id) core.state.containers ∙ h)

  module _ (alike : AreAlike K.pins) where
    same_pinned : (id : ℕ) (o p : Option Container) → container_in left id ≡ o → container_in pinned id ≡ p → has id (map id_of left) ≡ true → o ≡ p
    same_pinned id o p one two h =
        let c = container_in-some left id h in
        let a = container_in-is left id c.0 c.1 in
        let d = container_in-some pinned id (subst (λ (k : ℕ). has k (map id_of pinned) ≡ true) a.1 (in_map id_of pinned c.0 (within c.0 a.0))) in
        let b = container_in-is pinned id d.0 d.1 in
        sym one ∙ c.1 ∙ ap (λ (x : Container). Some x) (alike c.0 d.0 (within c.0 a.0) b.0 (a.1 ∙ sym b.1)) ∙ sym d.1 ∙ two

    -- the container at an id, after the release
    at_id : (id : ℕ) → container_in (S.containers ++ (left ++ put_by K.job)) id ≡ cond (is_released K number id) None (container_in (S.containers ++ (pinned ++ put_by K.job)) id)
    at_id id = two_parts S.containers left (put_by K.job) id ∙ by_name (has id (named S)) refl ∙ sym (ap (λ (o : Option Container). cond (is_released K number id) None o) (two_parts S.containers pinned (put_by K.job) id))
      where
        by_listed : has id (named S) ≡ false → has id (pinned_ids (pins_without number K.pins)) ≡ false → (b : Bool) → has id (released_ids number K.pins) ≡ b → option_or (container_in left id) (container_in (put_by K.job) id) ≡ cond (b && (not false && not false)) None (option_or (container_in pinned id) (container_in (put_by K.job) id))
        by_listed none free true e =
            ap (λ (o : Option Container). option_or o (container_in (put_by K.job) id)) (container_in-none left id free)
            ∙ container_in-none (put_by K.job) id (pinned_not_put K core id (listed_by number id K.pins ∙ or_left (has id (released_ids number K.pins)) (has id (pinned_ids (pins_without number K.pins))) e))
        by_listed none free false e =
            ap (λ (o : Option Container). option_or o (container_in (put_by K.job) id))
            (container_in-none left id free ∙ sym (container_in-none pinned id (listed_by number id K.pins ∙ ap (λ (b : Bool). b || has id (pinned_ids (pins_without number K.pins))) e ∙ free)))

        by_pin : has id (named S) ≡ false → (b : Bool) → has id (pinned_ids (pins_without number K.pins)) ≡ b → option_or (container_in left id) (container_in (put_by K.job) id) ≡ cond (has id (released_ids number K.pins) && (not false && not b)) None (option_or (container_in pinned id) (container_in (put_by K.job) id))
        by_pin none true e =
            ap (λ (o : Option Container). option_or o (container_in (put_by K.job) id)) (same_pinned id (container_in left id) (container_in pinned id) refl refl e)
            ∙ ap (λ (b : Bool). cond b None (option_or (container_in pinned id) (container_in (put_by K.job) id))) (sym (never (has id (released_ids number K.pins))))
          where
            never : (a : Bool) → (a && (true && false)) ≡ false
            never true = refl
            never false = refl
        by_pin none false e = by_listed none e (has id (released_ids number K.pins)) refl ∙ refl

        by_name : (b : Bool) → has id (named S) ≡ b → option_or (container_in S.containers id) (option_or (container_in left id) (container_in (put_by K.job) id)) ≡ cond (is_released K number id) None (option_or (container_in S.containers id) (option_or (container_in pinned id) (container_in (put_by K.job) id)))
        by_name true e =
            let c = container_in-some S.containers id (ap (has id) core.state.containers ∙ e) in
            ap (λ (o : Option Container). option_or o (option_or (container_in left id) (container_in (put_by K.job) id))) c.1
            ∙ sym (ap (λ (b : Bool). cond b None (option_or (container_in S.containers id) (option_or (container_in pinned id) (container_in (put_by K.job) id)))) (not_released (has id (released_ids number K.pins)) (has id (pinned_ids (pins_without number K.pins))))
            ∙ ap (λ (o : Option Container). option_or o (option_or (container_in pinned id) (container_in (put_by K.job) id))) c.1)
          where
            not_released : (a c : Bool) → (a && (not (has id (named S)) && not c)) ≡ false
            not_released a c = ap (λ (b : Bool). a && (not b && not c)) e ∙ never a
              where
                never : (a : Bool) → (a && false) ≡ false
                never true = refl
                never false = refl
        by_name false e =
            ap (λ (o : Option Container). option_or o (option_or (container_in left id) (container_in (put_by K.job) id))) (unnamed_none id e)
            ∙ by_pin e (has id (pinned_ids (pins_without number K.pins))) refl
            ∙ ap (λ (b : Bool). cond (has id (released_ids number K.pins) && (not b && not (has id (pinned_ids (pins_without number K.pins))))) None (option_or (container_in pinned id) (container_in (put_by K.job) id))) (sym e)
            ∙ ap (λ (o : Option Container). cond (is_released K number id) None (option_or o (option_or (container_in pinned id) (container_in (put_by K.job) id)))) (sym (unnamed_none id e))

    -- the tables but those of released containers
    pub release_tables : (strays : List Name) (t t' : List (ℕ × Table)) → AreTables t (listed K) → ((id : ℕ) → table_at t' id ≡ cond (is_released K number id) None (table_at t id)) → AreTables t' (listed (after_release number strays K))
    release_tables strays t t' are goes id =
        goes id ∙ ap (λ (o : Option Table). cond (is_released K number id) None o) (are id) ∙ sym (ap (λ (o : Option Container). option_map (λ (c : Container). c.table) o) (at_id id) ∙ step (is_released K number id))
      where
        step : (b : Bool) → option_map (λ (c : Container). c.table) (cond b None (container_in (S.containers ++ (pinned ++ put_by K.job)) id)) ≡ cond b None (option_map (λ (c : Container). c.table) (container_in (S.containers ++ (pinned ++ put_by K.job)) id))
        step true = refl
        step false = refl

  -- what is released is not needed any more
  released_unneeded : (q : Name) → IsReleased K number q → IsNeeded S left q → ⊥
  released_unneeded q r (inl is) = ⊎_elim
      (λ there. clash (has r.id (named S)) (subst (λ (k : ℕ). has k (named S) ≡ true) (sym id) (container_named S core.state is.container there)) (released_unnamed K number r.id r.released))
      (λ there. clash (has r.id (pinned_ids (pins_without number K.pins))) (subst (λ (k : ℕ). has k (pinned_ids (pins_without number K.pins)) ≡ true) (sym id) (in_map id_of left is.container there)) (released_unpinned K number r.id r.released))
      (Contains-append_cases S.containers left is.container is.among)
    where
      id : r.id ≡ is.container.table.id
      id = same_id q r.id is.container.table.id r.is is.is
  released_unneeded q r (inr (inl is)) = no_recipe q r.id is.set is.version r.is is.is
  released_unneeded q r (inr (inr is)) = no_floor q r.id is.set r.is is.is

  module _ (strays : List Name) (are : AreStraysReleased K number strays) where
    -- what was needed is needed, or goes
    pinned_covered : (q : Name) (c : Container) → Contains pinned c → (q ≡ table_name c.table.id) ⊎ (q ≡ payload_name c.table.id) → IsNeeded S left q ⊎ Contains strays q
    pinned_covered q c there is = by_name (has c.table.id (named S)) refl
      where
        or_known : (a b : Bool) → (a || b) ≡ true → b ≡ false → a ≡ true
        or_known true b e f = refl
        or_known false b e f = clash b e f

        by_pin : has c.table.id (named S) ≡ false → (b : Bool) → has c.table.id (pinned_ids (pins_without number K.pins)) ≡ b → IsNeeded S left q ⊎ Contains strays q
        by_pin none true e = let d = of_map id_of left c.table.id e in inl (needs_pinned S left q (container_name left d.0 d.1 q (name_at q c.table.id d.0.table.id (sym d.2) is)))
        by_pin none false e = inr (are.gone q (record {
          id = c.table.id;
          released = ap (λ (a : Bool). a && (not (has c.table.id (named S)) && not (has c.table.id (pinned_ids (pins_without number K.pins)))))
              (or_known (has c.table.id (released_ids number K.pins)) (has c.table.id (pinned_ids (pins_without number K.pins))) (sym (listed_by number c.table.id K.pins) ∙ in_map id_of pinned c there) e)
              ∙ ap (λ (b : Bool). not b && not (has c.table.id (pinned_ids (pins_without number K.pins)))) none ∙ ap (λ (b : Bool). not b) e;
          is = is;
        }))

        by_name : (b : Bool) → has c.table.id (named S) ≡ b → IsNeeded S left q ⊎ Contains strays q
        by_name true e =
            let d = of_map id_of S.containers c.table.id (ap (has c.table.id) core.state.containers ∙ e) in
            inl (needs_container S left q (container_name S.containers d.0 d.1 q (name_at q c.table.id d.0.table.id (sym d.2) is)))
        by_name false e = by_pin e (has c.table.id (pinned_ids (pins_without number K.pins))) refl

    covered : (q : Name) → IsNeeded S pinned q → IsNeeded S left q ⊎ Contains strays q
    covered q (inl is) = ⊎_elim
        (λ there. inl (needs_container S left q (container_name S.containers is.container there q is.is)))
        (λ there. pinned_covered q is.container there is.is)
        (Contains-append_cases S.containers pinned is.container is.among)
    covered q (inr is) = inl (inr is)

    more_needed : (q : Name) → IsNeeded S left q → IsNeeded S pinned q
    more_needed q (inl is) = ⊎_elim
        (λ there. needs_container S pinned q (container_name S.containers is.container there q is.is))
        (λ there. needs_pinned S pinned q (container_name pinned is.container (within is.container there) q is.is))
        (Contains-append_cases S.containers left is.container is.among)
    more_needed q (inr is) = inr is

    pub release_held : (m : Blobs) → Held m K → Held m (after_release number strays K)
    release_held m held = record {
      near = held.near;
      containers = λ c among. held.containers c (⊎_elim
          (λ there. Contains-append_left pinned (put_by K.job) c (within c there))
          (λ put. Contains-append_right pinned (put_by K.job) c put)
          (Contains-append_cases left (put_by K.job) c among));
      others = λ q there. ⊎_elim (λ needed. covered q needed) (λ stray. inr (are.before q stray)) (held.others q there);
      apart = λ q stray needed. ⊎_elim (λ old. held.apart q old (more_needed q needed)) (λ goes. released_unneeded q goes needed) (are.only q stray);
    }

    pub told_released : (b : Option Blobs) → HeldIfTold b K → HeldIfTold b (after_release number strays K)
    told_released b held = told_more (λ m. Held m K) (λ m. Held m (after_release number strays K)) b release_held held

  -- the removal of what is released is not seen, also while a write is half done

  free_of : (T : State) (q : Name) (r : IsReleased K number q) → ((c : Container) → Contains T.containers c → r.id ≡ c.table.id → ⊥) → IsFree T q None
  free_of T q r none = record { unneeded = not_needed; newest = λ s v below later last is. refl }
    where
      not_needed : IsNeeded T [] q → ⊥
      not_needed (inl is) = ⊎_elim (λ there. none is.container there (same_id q r.id is.container.table.id r.is is.is)) (λ there. no_member is.container there) (Contains-append_cases T.containers [] is.container is.among)
      not_needed (inr (inl is)) = no_recipe q r.id is.set is.version r.is is.is
      not_needed (inr (inr is)) = no_floor q r.id is.set r.is is.is

  not_in_state : (q : Name) (r : IsReleased K number q) (c : Container) → Contains S.containers c → r.id ≡ c.table.id → ⊥
  not_in_state q r c there same = clash (has r.id (named S)) (subst (λ (k : ℕ). has k (named S) ≡ true) (sym same) (container_named S core.state c there)) (released_unnamed K number r.id r.released)

  beside : (q : Name) (r : IsReleased K number q) (o : Option Change) → IfSome o (λ h. (s : ℕ) × (K.pending ≡ FailedFor s) × IsChange S s h) → IfSome o (λ h. (h.name ≢ q) × IsFree h.state q None)
  beside q r None of = tt
  beside q r (Some h) of = (
    λ same. ⊎_elim (λ kind. no_recipe q r.id of.0 _ r.is (sym same ∙ kind.0)) (λ kind. no_floor q r.id of.0 r.is (sym same ∙ kind.0)) of.2.kind,
    free_of h.state q r (λ c there same. ⊎_elim
        (λ old. not_in_state q r c old same)
        (λ (high : next_of S ≤ c.table.id). let less = pinned_low K core r.id (released_pinned K number r.id r.released) in omega arith)
        (of.2.containers c there)),
  )

  pub release_idle : (q : Name) → IsReleased K number q → IsIdle K.state K.other q None × (IsContainerName (put_by K.job) q → ⊥)
  release_idle q r = (
    record { free = free_of S q r (not_in_state q r); beside = beside q r K.other core.other },
    λ put. clash (has r.id (map id_of (put_by K.job))) (subst (λ (k : ℕ). has k (map id_of (put_by K.job)) ≡ true) (sym (same_id q r.id put.container.table.id r.is put.is)) (in_map id_of (put_by K.job) put.container put.among)) (released_not_put r.id r.released),
  )
