-- What a shelf that was read holds, and its strays.
use Rattle.std.proofs.Common.{◌≡◌, ◌⊎◌, inl, inr, ⊎_elim, ℕ, ◌+◌, ◌-◌, ◌*◌, ◌/◌, ◌%◌, ◌^◌, ◌<◌, ◌≤◌, Bool, true, false, cond, ◌&&◌, List, [], ◌∷◌, ◌++◌, map, length, get_or, Option, Some, None, refl, sym, ap, subst, ◌∙◌, arith}
use Rattle.std.specs.Prelude.{Contains, IsSome, is_some, not, filter, option_map, slice_get, find, ◌==◌, nat_le, nat_lt}
use Rattle.std.specs.Option.{option_map_or}
use Rattle.std.specs.Ordering.{eq_by_cmp}
use Rattle.std.specs.FinMap as fin
use Rattle.std.proofs.lemmas.Bool.Decides.{nat_tests}
use Rattle.std.proofs.lemmas.List.{append-nil}
use Rattle.vault_types.specs.declared.Kind.{Kind}
use Rattle.vault_types.specs.declared.Kind.TheVariants as kind
use Rattle.vault_types.specs.declared.Name.{Name}
use Rattle.vault_types.specs.declared.Table.{Table}
use Rattle.vault_types.specs.Lists.{IsAscending}
use Rattle.vault_types.specs.Tables.{Container}
use Rattle.vault_types.specs.State.{State, KeptVersion, version_of}
use Rattle.vault_types.specs.Shelf.{Blobs, name_cmp, table_name, payload_name, Stands}
use Rattle.vault_types.specs.Events.{IsRecipeName, IsNeeded, Held}
use Rattle.vault_traits.specs.Shelf.{IsListing}
use Rattle.vault_traits.proofs.Maps.{exact_names}
use Rattle.keeper_catalog.specs.declared.SetInfo.{SetInfo}
use Rattle.keeper_catalog.specs.Catalog.{table_at}
use Rattle.keeper_catalog.specs.View.{opened_core}
use Rattle.keeper_open.specs.Reading.{SetRead, IsSetRead, AreSets, keeps, needs_number, needs}
use Rattle.keeper_open.proofs.Noting.{cons_cases, first_in, later_in, none_in}
use Rattle.keeper_open.proofs.Gathering.{set_at, mapped_in}
use Rattle.damage_laws.proofs.Elements.{some_at, at_below}
use Rattle.keeper_open.proofs.Searching.{some_passes, is_equal, present}
use Rattle.keeper_open.proofs.Stated.{container_of, containers_in, state_of, dataset_of, length_map, get_map, map_at, find_is, found_in, version_is, version_back}

-- a list that is filtered

filter_in : (p : Name → Bool) (xs : List Name) (x : Name) → Contains xs x → p x ≡ true → Contains (filter p xs) x
filter_in p [] x there passes = there
filter_in p (y ∷ xs) x there passes = ⊎_elim
    (λ (here : y ≡ x). subst (λ b. Contains (cond b (y ∷ filter p xs) (filter p xs)) x) (sym (ap p here ∙ passes)) (subst (λ (z : Name). Contains (y ∷ filter p xs) z) here (first_in y (filter p xs))))
    (λ later. behind (p y) (filter_in p xs x later passes))
    (cons_cases y x xs there)
  where
    behind : (b : Bool) → Contains (filter p xs) x → Contains (cond b (y ∷ filter p xs) (filter p xs)) x
    behind true h = later_in y x (filter p xs) h
    behind false h = h

in_filter : (p : Name → Bool) (xs : List Name) (x : Name) → Contains (filter p xs) x → Contains xs x × (p x ≡ true)
in_filter p [] x there = absurd (none_in x there)
in_filter p (y ∷ xs) x there = by_test (λ h. in_filter p xs x h) (p y) refl there
  where
    by_test : (Contains (filter p xs) x → Contains xs x × (p x ≡ true)) → (b : Bool) → p y ≡ b → Contains (cond b (y ∷ filter p xs) (filter p xs)) x → Contains (y ∷ xs) x × (p x ≡ true)
    by_test rest true e h = ⊎_elim
        (λ (here : y ≡ x). (subst (λ (z : Name). Contains (y ∷ xs) z) here (first_in y xs), ap p (sym here) ∙ e))
        (λ later. let found = rest later in (later_in y x xs found.0, found.1))
        (cons_cases y x (filter p xs) h)
    by_test rest false e h = let found = rest h in (later_in y x xs found.0, found.1)

listed_in : (m : Blobs) (names : List Name) → IsListing m names → (n : Name) → IsSome (fin.get m n) → Contains names n
listed_in m names listing n there =
    let found = some_passes (eq_by_cmp name_cmp n) n names (listing.exact n ∙ there) in
    (found.0, found.1, sym (exact_names n (get_or names found.0 n) (is_equal (name_cmp n (get_or names found.0 n)) found.2)))

in_listed : (m : Blobs) (names : List Name) → IsListing m names → (n : Name) → Contains names n → IsSome (fin.get m n)
in_listed m names listing n there = present m names listing n there.0 there.1 there.2

-- tests

both_true : (a b : Bool) → (a && b) ≡ true → (a ≡ true) × (b ≡ true)
both_true true b h = (refl, h)
both_true false b h = absurd cc

true_both : (a b : Bool) → a ≡ true → b ≡ true → (a && b) ≡ true
true_both a b e f = ap (λ c. c && b) e ∙ f

flipped : (b : Bool) → b ≡ true → not b ≡ true → ⊥
flipped true e f = let clash : false ≡ true = f in cc
flipped false e f = let clash : false ≡ true = e in cc

module _ (told : Option Blobs) (ds : List SetRead) (ts : List Table) (infos : List SetInfo) (tables : List (ℕ × Table)) (read : AreSets told 0 ds) (count : length ds ≡ 256) (infos_of : map (λ d. d.info) ds ≡ infos)
    (up : IsAscending (map (λ t. t.id) ts)) (at : (c : ℕ) → table_at tables c ≡ find (λ t. t.id == c) ts) where
  abbrev T : State
  T = state_of told ds ts

  some_table : (c : ℕ) → is_some (table_at tables c) ≡ true → (t : Table) × Contains ts t × (t.id ≡ c)
  some_table c is = by_found (find (λ t. t.id == c) ts) refl (sym (ap is_some (at c)) ∙ is)
    where
      by_found : (o : Option Table) → find (λ t. t.id == c) ts ≡ o → is_some o ≡ true → (t : Table) × Contains ts t × (t.id ≡ c)
      by_found None e some = absurd (let clash : false ≡ true = some in cc)
      by_found (Some t) e some = let found = found_in ts c t e in (t, found.0, found.1)

  among : (t : Table) → Contains ts t → Contains (T.containers ++ []) (container_of told t)
  among t there = subst (λ (l : List Container). Contains l (container_of told t)) (sym (append-nil T.containers)) (map_at (container_of told) ts t there)

  info_at : (s : ℕ) → slice_get infos s ≡ option_map (λ (d : SetRead). d.info) (slice_get ds s)
  info_at s = ap (λ (l : List SetInfo). slice_get l s) (sym infos_of) ∙ get_map (λ (d : SetRead). d.info) ds s

  set_read_at : (s : ℕ) (d : SetRead) → slice_get ds s ≡ Some d → IsSetRead told s d.info d.recipes
  set_read_at s d is = subst (λ (t : ℕ). IsSetRead told t d.info d.recipes) (let e : 0 + s ≡ s = omega arith in e) (set_at told 0 ds s d read is)

  recipe_needed : (number : ℕ) → keeps infos number ≡ true → IsRecipeName T (record { kind = kind.Recipe; number = number })
  recipe_needed number is = by_set (slice_get ds (number / 2 ^ 32)) refl (sym (ap (λ (o : Option SetInfo). option_map_or (λ i. nat_le i.floor (number % 2 ^ 32) && nat_le (number % 2 ^ 32) i.latest) o false) (info_at (number / 2 ^ 32))) ∙ is)
    where
      by_set : (o : Option SetRead) → slice_get ds (number / 2 ^ 32) ≡ o → option_map_or (λ i. nat_le i.floor (number % 2 ^ 32) && nat_le (number % 2 ^ 32) i.latest) (option_map (λ (d : SetRead). d.info) o) false ≡ true → IsRecipeName T (record { kind = kind.Recipe; number = number })
      by_set None e h = absurd (let clash : false ≡ true = h in cc)
      by_set (Some d) e h =
          let tests = both_true (nat_le d.info.floor (number % 2 ^ 32)) (nat_le (number % 2 ^ 32) d.info.latest) h in
          let low : d.info.floor ≤ number % 2 ^ 32 = grind (arith, nat_tests, tests.0) in
          let high : number % 2 ^ 32 ≤ d.info.latest = grind (arith, nat_tests, tests.1) in
          let total = (set_read_at (number / 2 ^ 32) d e).count in
          let r = some_at d.recipes (number % 2 ^ 32 - d.info.floor) (omega (arith, low, high, total)) in
          let set_below = at_below ds (number / 2 ^ 32) d e in
          let whole : number ≡ number / 2 ^ 32 * 2 ^ 32 + number % 2 ^ 32 = omega arith in
          record {
            set = number / 2 ^ 32;
            version = number % 2 ^ 32;
            in_range = omega (arith, set_below, length_map (dataset_of (containers_in told ts)) ds);
            kept = ap is_some (version_is told ds ts (number / 2 ^ 32) (number % 2 ^ 32) d r.0 e low r.1);
            is = λ i. record { kind = kind.Recipe; number = whole i };
          }

  needed_number : (k : Kind) (number : ℕ) → needs_number infos tables k number ≡ true → IsNeeded T [] (record { kind = k; number = number })
  needed_number kind.Table number is =
      let t = some_table number is in
      inl (record { container = container_of told t.0; among = among t.0 t.1; is = inl (let e = t.2 in λ i. record { kind = kind.Table; number = sym e i }) })
  needed_number kind.Payload number is =
      let t = some_table number is in
      inl (record { container = container_of told t.0; among = among t.0 t.1; is = inr (let e = t.2 in λ i. record { kind = kind.Payload; number = sym e i }) })
  needed_number kind.Recipe number is = inr (inl (recipe_needed number is))
  needed_number kind.Floor number is =
      let low : number < 256 = grind (arith, nat_tests, is) in
      inr (inr (record { set = number; in_range = omega (arith, low, count, length_map (dataset_of (containers_in told ts)) ds); is = refl }))

  pub needed_is : (n : Name) → needs infos tables n ≡ true → IsNeeded T [] n
  needed_is n is = needed_number n.kind n.number is

  has_table : (c : Container) → Contains (T.containers ++ []) c → is_some (table_at tables c.table.id) ≡ true
  has_table c there =
      let of = mapped_in (container_of told) ts c (subst (λ (l : List Container). Contains l c) (append-nil T.containers) there) in
      ap (λ (d : Container). is_some (table_at tables d.table.id)) (sym of.2) ∙ ap is_some (at of.0.id ∙ find_is ts of.0 up of.1)

  recipe_kept : (s v : ℕ) → IsSome (version_of T s v) → keeps infos (s * 2 ^ 32 + v) ≡ true
  recipe_kept s v kept = by_version (version_of T s v) refl kept
    where
      by_version : (o : Option KeptVersion) → version_of T s v ≡ o → IsSome o → keeps infos (s * 2 ^ 32 + v) ≡ true
      by_version None e some = absurd (let clash : false ≡ true = some in cc)
      by_version (Some k) e some =
          let back = version_back told ds ts s v k e in
          let d = back.0 in
          let set = set_read_at s d back.2 in
          let total = set.count in
          let high = set.high in
          let from = back.3 in
          let below = at_below d.recipes (v - d.info.floor) back.1 back.4 in
          let within : v ≤ d.info.latest = omega (arith, below, total, from) in
          let small : v < 2 ^ 32 = omega (arith, within, high) in
          let quotient : (s * 2 ^ 32 + v) / 2 ^ 32 ≡ s = omega (arith, small) in
          let rest : (s * 2 ^ 32 + v) % 2 ^ 32 ≡ v = omega (arith, small) in
          let one : nat_le d.info.floor v ≡ true = grind (arith, nat_tests, from) in
          let two : nat_le v d.info.latest ≡ true = grind (arith, nat_tests, within) in
          ap (λ (o : Option SetInfo). option_map_or (λ i. nat_le i.floor ((s * 2 ^ 32 + v) % 2 ^ 32) && nat_le ((s * 2 ^ 32 + v) % 2 ^ 32) i.latest) o false)
          (ap (λ (t : ℕ). slice_get infos t) quotient ∙ info_at s ∙ ap (option_map (λ (x : SetRead). x.info)) back.2)
          ∙ ap (λ (u : ℕ). nat_le d.info.floor u && nat_le u d.info.latest) rest ∙ true_both (nat_le d.info.floor v) (nat_le v d.info.latest) one two

  pub is_needed : (n : Name) → IsNeeded T [] n → needs infos tables n ≡ true
  is_needed n (inl is) = ⊎_elim
      (λ (e : n ≡ table_name is.container.table.id). ap (needs infos tables) e ∙ has_table is.container is.among)
      (λ (e : n ≡ payload_name is.container.table.id). ap (needs infos tables) e ∙ has_table is.container is.among)
      is.is
  is_needed n (inr (inl is)) = ap (needs infos tables) is.is ∙ recipe_kept is.set is.version is.kept
  is_needed n (inr (inr is)) =
      let below = is.in_range in
      let low : nat_lt is.set 256 ≡ true = (let less : is.set < 256 = omega (arith, below, count, length_map (dataset_of (containers_in told ts)) ds) in grind (arith, nat_tests, less)) in
      ap (needs infos tables) is.is ∙ low

  module _ (m : Blobs) (names strays : List Name) (listing : IsListing m names) (stands : Stands m T) (strays_are : strays ≡ filter (λ n. not (needs infos tables n)) names) where
    pub held_state : Held m (opened_core T strays)
    held_state = record {
      near = inl stands;
      containers = λ c there. absurd (none_in c there);
      others = λ n there. by_test n there (needs infos tables n) refl;
      apart = λ n stray needed. flipped (needs infos tables n) (is_needed n needed) (in_filter (λ n. not (needs infos tables n)) names n (subst (λ (l : List Name). Contains l n) strays_are stray)).1;
    }
      where
        by_test : (n : Name) → IsSome (fin.get m n) → (b : Bool) → needs infos tables n ≡ b → IsNeeded T [] n ⊎ Contains strays n
        by_test n there true e = inl (needed_is n e)
        by_test n there false e = inr (subst (λ (l : List Name). Contains l n) (sym strays_are) (filter_in (λ n. not (needs infos tables n)) names n (listed_in m names listing n there) (ap not e)))

    pub strays_listed : (n : Name) → Contains strays n → IsSome (fin.get m n)
    strays_listed n stray = in_listed m names listing n (in_filter (λ n. not (needs infos tables n)) names n (subst (λ (l : List Name). Contains l n) strays_are stray)).0
