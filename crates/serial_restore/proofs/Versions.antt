-- What is copied under a pin is the version that was pinned.
use Rattle.std.proofs.Common.{◌≡◌, ◌⊎◌, inl, inr, ⊎_elim, ℕ, ◌<◌, false, true, List, [], ◌∷◌, ◌++◌, length, map, Option, Some, None, refl, sym, ap, subst, ◌∙◌}
use Rattle.std.specs.Prelude.{Contains, IfSome, IsSome, ◌==◌}
use Rattle.std.specs.Option.{option_map, option_map_or}
use Rattle.std.specs.List.{AllByRecursion}
use Rattle.vault_types.specs.declared.Answer.{Answer}
use Rattle.vault_types.specs.declared.Answer.TheVariants.{Restored}
use Rattle.vault_types.specs.declared.Fault.{Fault}
use Rattle.vault_types.specs.declared.Fp.{Fp}
use Rattle.vault_types.specs.declared.Row.{Row}
use Rattle.vault_types.specs.declared.Spot.{Spot}
use Rattle.vault_types.specs.declared.Whole.{Whole}
use Rattle.vault_types.specs.Blobs.{recipe_bytes_1}
use Rattle.vault_types.specs.Bytes.{row_bytes, bytes_of, spot_of}
use Rattle.vault_types.specs.Events.{Core, Pin, pin_of, after_pin, containers_of}
use Rattle.vault_types.specs.Lists.{has, IsAscending}
use Rattle.vault_types.specs.Names.{fp}
use Rattle.vault_types.specs.Plans.{requests, IsLeast}
use Rattle.vault_types.specs.Shelf.{Blobs, recipe_name, Has}
use Rattle.vault_types.specs.State.{KeptVersion, version_of, container_in, all_rows, recipe_of}
use Rattle.vault_types.specs.Tables.{Container, id_of, payload_len}
use Rattle.vault_types.proofs.SetLemmas.{IsAscending-set_of}
use Rattle.vault_traits.specs.Counts.{counted_up}
use Rattle.vault_traits.specs.Told.{SinkTold, Takes}
use Rattle.restore_pins.specs.Pins.{numbers}
use Rattle.restore_pins.proofs.Callers.{numbers-same}
use Rattle.state_laws.specs.Parts.{HeldIfTold}
use Rattle.keeper_catalog.specs.View.{View, Keeps}
use Rattle.commit_laws.proofs.Listing.{itself, found_where, no_member, none_some}
use Rattle.commit_laws.proofs.Loading.{held_says}
use Rattle.commit_laws.proofs.Unique.{plain_of, kept_rules, kept_number, without_whole}
use Rattle.state_laws.proofs.Members.{filter_contains, filter_within, first_or_rest}
use Rattle.keeper_core.specs.Calls.{Lists, HasListed, IsPinned, IsWholeOf}
use Rattle.restore_assembler.specs.Copying.{version_bytes}
use Rattle.store_model.specs.Calls.{IsShortAt}
use Rattle.serial_restore.specs.Going.{HasPinned, ArePayloads, AreGiven, IsFull, HasSum, IsSummed, IsFoundOf, HasTakenFront, IsCopied, IsRestoreStopped, IsAtMostLeast}
use Rattle.serial_restore.specs.Restoring.{whole_of, IsRestored, IsCut}
use Rattle.serial_restore.proofs.Chunks.{fitting, payload_at, fitting_whole, spots_bytes, rows_len, HasWhole}
use Rattle.serial_restore.proofs.Restores.{pins_taken}

ids_of_spots : (containers : List Container) (rows : List Row) → map (λ q. q.id) (map (spot_of containers) rows) ≡ map (λ r. r.id) rows
ids_of_spots containers [] = refl
ids_of_spots containers (r ∷ rows) = ap (λ (ids : List ℕ). r.id ∷ ids) (ids_of_spots containers rows)

no_rows : (containers : List Container) (rows : List Row) → map (spot_of containers) rows ≡ [] → rows ≡ []
no_rows containers [] none = refl
no_rows containers (r ∷ rows) none = absurd (let e : spot_of containers r ∷ map (spot_of containers) rows ≡ [] = none in cc)

-- a recipe of the first format is spelled only where the state's sum is that of the bytes
first_sum : (K : Core) (v : View) (keeps : Keeps v K) (s n : ℕ) (k : KeptVersion) → s < length K.state.datasets → version_of K.state s n ≡ Some k → (b : Option Blobs) → IsSome b → HeldIfTold b K → Has b (recipe_name s n) (Some (recipe_bytes_1 (recipe_of s n k))) → k.sum ≡ fp (bytes_of K.state s n)
first_sum K v keeps s n k below kept None some held has = absurd (let clash : false ≡ true = some in cc)
first_sum K v keeps s n k below kept (Some m) some held has = ⊎_elim
    (λ (same : plain_of s n k ≡ recipe_of s n k). absurd (none_some k.sum (ap (λ q. q.whole) same)))
    (λ both. both.1)
    (held_says K keeps.core s n k below kept m (recipe_bytes_1 (recipe_of s n k)) (plain_of s n k) held has
    (record { set = refl; number = refl; rules = without_whole s n k (kept_number K.state keeps.core.state s n k below kept) (kept_rules K.state keeps.core.state s n k below kept); spelled = refl }))

module _ (v : View) (K : Core) (keeps : Keeps v K) (s n no : ℕ) (k : KeptVersion) (kept : version_of K.state s n ≡ Some k) (fresh : has no (numbers v.pins) ≡ false) where
  -- the pin's containers are those of the version
  pub of_pin : (id : ℕ) (c : Container) → Lists (K.pins ++ pin_of no s n K.state k ∷ []) no id c → Contains (containers_of K.state.containers (map (λ r. r.id) k.rows)) c
  of_pin id c lists =
      let passed = filter_contains (λ (p : Pin). p.number == no) (K.pins ++ pin_of no s n K.state k ∷ []) lists.pin lists.among (ap (λ (m : ℕ). m == no) lists.has_number ∙ itself no) in
      let alone = subst (λ (ps : List Pin). Contains ps lists.pin) (pins_taken no (pin_of no s n K.state k) refl K.pins (ap (has no) (numbers-same v.pins K.pins keeps.pins) ∙ fresh)) passed in
      ⊎_elim
      (λ (same : pin_of no s n K.state k ≡ lists.pin). subst (λ (p : Pin). Contains p.containers c) (sym same) lists.listed)
      (λ none. absurd (no_member lists.pin none))
      (first_or_rest (pin_of no s n K.state k) [] lists.pin alone)

  ascending : IsAscending (map id_of K.state.containers)
  ascending = subst IsAscending (sym keeps.core.state.containers) (IsAscending-set_of (map (λ r. r.id) (all_rows K.state.datasets)))

  found : (id : ℕ) (c : Container) → Lists (K.pins ++ pin_of no s n K.state k ∷ []) no id c → container_in K.state.containers id ≡ Some c
  found id c lists = subst (λ (m : ℕ). container_in K.state.containers m ≡ Some c) lists.has_id
      (found_where K.state.containers c ascending (filter_within (λ x. has x.table.id (map (λ r. r.id) k.rows)) K.state.containers c (of_pin id c lists)))

  are : ArePayloads (K.pins ++ pin_of no s n K.state k ∷ []) no (payload_at K.state.containers)
  are id c bytes lists payload long =
      ap (λ (o : Option Container). option_map_or (λ d. option_map_or (fitting d.table.rows) d.payload []) o []) (found id c lists)
      ∙ ap (λ (p : Option (List ℕ)). option_map_or (fitting c.table.rows) p []) payload
      ∙ fitting_whole c.table.rows bytes long

  bytes_are : bytes_of K.state s n ≡ row_bytes K.state.containers k.rows
  bytes_are = ap (λ (o : Option KeptVersion). option_map_or (λ j. row_bytes K.state.containers j.rows) o []) kept

  module _ (u : View) (total : ℕ) (spots : List Spot) (sum : Option Fp) (given : IsPinned K.state k total spots sum) where
    ids_are : map (λ q. q.id) spots ≡ map (λ r. r.id) k.rows
    ids_are = ap (map (λ q. q.id)) given.spots_are ∙ ids_of_spots K.state.containers k.rows

    copied_bytes : version_bytes (payload_at K.state.containers) spots ≡ bytes_of K.state s n
    copied_bytes = ap (version_bytes (payload_at K.state.containers)) given.spots_are ∙ spots_bytes K.state.containers keeps.core.state.tables k.rows given.rows ∙ sym bytes_are

    module _ (pinned : Keeps u (after_pin no s n k K)) (listed : AllByRecursion (HasListed (K.pins ++ pin_of no s n K.state k ∷ []) no) spots) (tells : IsSome u.told.blobs) where
      held : HasPinned u no spots (after_pin no s n k K)
      held = record { keeps = pinned; listed = listed }

      payloads_given : AreGiven u no spots (payload_at K.state.containers)
      payloads_given = record { tells = tells; core = after_pin no s n k K; pinned = held; are = are }

      whole_rows : (rows : List Row) → AllByRecursion (λ q. IsFull u no spots q.id) (map (spot_of K.state.containers) rows) → AllByRecursion (HasListed (K.pins ++ pin_of no s n K.state k ∷ []) no) (map (spot_of K.state.containers) rows)
          → AllByRecursion (λ r. HasWhole K.state.containers r.id) rows
      whole_rows [] full all = tt
      whole_rows (r ∷ rows) full all = (
        subst (λ (o : Option Container). IfSome o (λ c. (bytes : List ℕ) × (c.payload ≡ Some bytes) × (length bytes ≡ payload_len c.table.rows))) (sym (found r.id all.0.0 all.0.1))
            (full.0 tells (after_pin no s n k K) all.0.0 held all.0.1),
        whole_rows rows full.1 all.1,
      )

      length_is : AllByRecursion (λ q. IsFull u no spots q.id) spots → total ≡ length (bytes_of K.state s n)
      length_is full =
          let whole = whole_rows k.rows (subst (λ (qs : List Spot). AllByRecursion (λ q. IsFull u no spots q.id) qs) given.spots_are full) (subst (λ (qs : List Spot). AllByRecursion (HasListed (K.pins ++ pin_of no s n K.state k ∷ []) no) qs) given.spots_are listed) in
          given.bytes ∙ sym (rows_len K.state.containers keeps.core.state.tables k.rows given.rows whole) ∙ ap length (sym bytes_are)

      empty_sum : s < length K.state.datasets → spots ≡ [] → fp (bytes_of K.state s n) ≡ k.sum
      empty_sum below none =
          let no_row : k.rows ≡ [] = no_rows K.state.containers k.rows (sym given.spots_are ∙ none) in
          ap fp (bytes_are ∙ ap (row_bytes K.state.containers) no_row) ∙ sym ((kept_rules K.state keeps.core.state s n k below kept).1.1 no_row)

      sum_is : s < length K.state.datasets → IsSome v.told.blobs → IsWholeOf v.told.blobs s n k sum → (spots ≡ []) ⊎ IsSummed u no spots (option_map (whole_of s n) sum) → fp (bytes_of K.state s n) ≡ k.sum
      sum_is below told is_whole (inl none) = empty_sum below none
      sum_is below told (inl some) (inr summed) =
          let h : HasSum (payload_at K.state.containers) spots (option_map (whole_of s n) (Some k.sum)) =
          subst (λ (o : Option Fp). HasSum (payload_at K.state.containers) spots (option_map (whole_of s n) o)) some.0 (summed (payload_at K.state.containers) payloads_given) in
          ap fp (sym copied_bytes) ∙ h
      sum_is below told (inr first) (inr summed) = sym (first_sum K v keeps s n k below kept v.told.blobs told keeps.held first.1)

      -- where the sum was wrong, it is that of the version's bytes
      pub found_in : (whole : Option Whole) (IsFew : ℕ → Type 0) (w : View) (before now : SinkTold) (f : Fault) → IsRestoreStopped u w no before now spots whole IsFew f → IsFoundOf (bytes_of K.state s n) f
      found_in whole IsFew w before now f stopped = subst (λ (bytes : List ℕ). IsFoundOf bytes f) copied_bytes (stopped.found (payload_at K.state.containers) payloads_given)

      -- where the sink failed, it has taken less than the version's bytes
      pub short_in : (whole : Option Whole) (IsFew : ℕ → Type 0) (w : View) (before now : SinkTold) (f : Fault) → IsRestoreStopped u w no before now spots whole IsFew f → IsShortAt (bytes_of K.state s n) before.taken now.taken f
      short_in whole IsFew w before now f stopped = subst (λ (bytes : List ℕ). IsShortAt bytes before.taken now.taken f) copied_bytes (stopped.short (payload_at K.state.containers) payloads_given)

      -- what is taken, with the gets of the version's pin and release
      module _ (w x : View) (before now : SinkTold) (slots : ℕ) (gets_before : u.told.gets ≡ v.told.gets) (gets_behind : x.told.gets ≡ w.told.gets) where
        pub restored : s < length K.state.datasets → IsSome v.told.blobs → IsWholeOf v.told.blobs s n k sum → (m : ℕ) (answer : Answer) → answer ≡ Restored s n total m
            → IsCopied u w no before now spots (option_map (whole_of s n) sum) slots m → IsRestored v x before now K s n k slots answer
        restored below told is_whole m answer is copied = record {
          loads = m;
          least = subst (λ (ids : List ℕ). IsLeast (requests ids) slots m) ids_are copied.least;
          gets = gets_behind ∙ copied.gets ∙ ap (λ (g : ℕ). counted_up g m) gets_before;
          taken = subst (λ (bytes : List ℕ). Takes before.taken now.taken bytes) copied_bytes (copied.taken (payload_at K.state.containers) payloads_given);
          sum = sum_is below told is_whole copied.sum;
          is = is ∙ ap (λ (l : ℕ). Restored s n l m) (length_is copied.full);
        }

        pub cut : (whole : Option Whole) (f : Fault) → IsRestoreStopped u w no before now spots whole (IsAtMostLeast (requests (map (λ q. q.id) spots)) slots) f → IsCut v x before now K s n k slots
        cut whole f stopped = record {
          loads = stopped.loads;
          few = subst (λ (ids : List ℕ). IsAtMostLeast (requests ids) slots stopped.loads) ids_are stopped.few;
          gets = gets_behind ∙ stopped.gets ∙ ap (λ (g : ℕ). counted_up g stopped.loads) gets_before;
          front = subst (λ (bytes : List ℕ). HasTakenFront before now bytes) copied_bytes (stopped.front (payload_at K.state.containers) payloads_given);
        }
