-- What the shelf holds over a commit, over one that failed, and over one that wrote nothing.
use Rattle.std.proofs.Common.{◌≡◌, ℕ, ◌+◌, ◌^◌, ◌<◌, ◌⊎◌, inl, inr, ⊎_elim, length, true, false, List, [], ◌++◌, Option, Some, None, refl, sym, ap, ◌∙◌, subst, arith}
use Rattle.std.specs.Prelude.{Contains, IsSome, IfSome, IsSomeAnd, unwrap_or}
use Rattle.std.specs.Option.{option_map_or}
use Rattle.std.proofs.lemmas.List.Elements.{Contains-append_left, Contains-append_right, Contains-append_cases}
use Rattle.std.specs.FinMap as fin
use Rattle.vault_types.specs.declared.Fp.{Fp}
use Rattle.vault_types.specs.declared.Name.{Name}
use Rattle.vault_types.specs.declared.Recipe.{Recipe}
use Rattle.vault_types.specs.declared.Pending.{Pending}
use Rattle.vault_types.specs.declared.Pending.TheVariants as pending
use Rattle.vault_types.specs.Names.{fp}
use Rattle.vault_types.specs.Tables.{Container}
use Rattle.vault_types.specs.State.{State, KeptVersion, latest_of, floor_of, version_of, recipe_of, IsValid}
use Rattle.vault_types.specs.Bytes.{row_bytes}
use Rattle.vault_types.specs.Blobs.{recipe_bytes, recipe_bytes_1, recipe_bytes_2}
use Rattle.vault_types.specs.Shelf.{Blobs, with_blob, recipe_name, floor_name, IsFloorBlob, IsRecipeBlob, Stands}
use Rattle.vault_types.specs.Events.{Core, Job, Change, put_by, pinned_containers, version_in_recipe, CanCommit, committed, after_commit, after_refused, commit_change, IsNeeded, HasChange, IsCore, Held}
use Rattle.vault_types.proofs.GrowLemmas.{version_of-new}
use Rattle.vault_traits.specs.Shelf.{blobs_with}
use Rattle.vault_traits.proofs.Maps.{get_other, get_is, is_or_not, written_or_other, with_blob_twice}
use Rattle.state_laws.specs.Parts.{HeldIfTold, CanChange, change}
use Rattle.state_laws.proofs.Standing.{keeps_container, needs_recipe, needs_pinned, needs_container}
use Rattle.state_laws.proofs.Changing.{version_high, latest_low, recipe_same, recipe_no_floor, recipe_no_table, recipe_no_payload, told_more, told_with, told_same}
use Rattle.state_laws.proofs.Growing as grown
use Rattle.state_laws.proofs.Growing.{floor_pos, version_back, sets_same, grown_needs_new}
use Rattle.commit_laws.specs.Laws.{AreStraysLeft}
use Rattle.commit_laws.proofs.Listing.{some_same, no_member}
use Rattle.commit_laws.proofs.Committing.{job_alone, commit_core, commit_is_change}

-- a kept recipe is spelled anew

module _ (T : State) (s v : ℕ) (k : KeptVersion) (valid : IsValid T) (is : version_of T s v ≡ Some k) (bytes : List ℕ) (blob : IsRecipeBlob T s v k (Some bytes)) where
  low : v < 2 ^ 32
  low = let high = version_high T s v k is in let last = latest_low T s valid in omega arith

  module _ (c : Blobs) (stands : Stands c T) where
    respelled_at : (t w : ℕ) (j : KeptVersion) → t < length T.datasets → version_of T t w ≡ Some j → IsRecipeBlob T t w j (fin.get (with_blob c (recipe_name s v) (Some bytes)) (recipe_name t w))
    respelled_at t w j below there = ⊎_elim
        (λ same.
        let high = version_high T t w j there in
        let last = latest_low T t valid in
        let e = recipe_same t w s v (omega arith) low same in
        let one : k ≡ j = some_same k j (sym is ∙ (ap (λ (u : ℕ). version_of T u v) (sym e.0) ∙ ap (λ (x : ℕ). version_of T t x) (sym e.1) ∙ there)) in
        subst (λ (b : Option (List ℕ)). IsRecipeBlob T t w j b) (sym (get_is c (recipe_name s v) (Some bytes) (recipe_name t w) same))
        (subst (λ (u : ℕ). IsRecipeBlob T u w j (Some bytes)) (sym e.0)
        (subst (λ (x : ℕ). IsRecipeBlob T s x j (Some bytes)) (sym e.1)
        (subst (λ (q : KeptVersion). IsRecipeBlob T s v q (Some bytes)) one blob))))
        (λ other. subst (λ (b : Option (List ℕ)). IsRecipeBlob T t w j b) (sym (get_other c (recipe_name s v) (Some bytes) (recipe_name t w) other))
        (subst (λ (o : Option KeptVersion). IfSome o (λ j. IsRecipeBlob T t w j (fin.get c (recipe_name t w)))) there (stands.recipes t w below)))
        (is_or_not (recipe_name t w) (recipe_name s v))

    respelled_all : (t w : ℕ) → t < length T.datasets → (o : Option KeptVersion) → version_of T t w ≡ o → IfSome o (λ j. IsRecipeBlob T t w j (fin.get (with_blob c (recipe_name s v) (Some bytes)) (recipe_name t w)))
    respelled_all t w below None there = tt
    respelled_all t w below (Some j) there = respelled_at t w j below there

    pub respelled : Stands (with_blob c (recipe_name s v) (Some bytes)) T
    respelled = record {
      floors = λ t below. subst (λ (b : Option (List ℕ)). IsFloorBlob t (floor_of T t) b) (sym (get_other c (recipe_name s v) (Some bytes) (floor_name t) (λ same. recipe_no_floor s v t (sym same)))) (stands.floors t below);
      recipes = λ t w below. respelled_all t w below (version_of T t w) refl;
      containers = λ d among. keeps_container c (recipe_name s v) (Some bytes) d (λ same. recipe_no_table s v d.table.id (sym same)) (λ same. recipe_no_payload s v d.table.id (sym same)) (stands.containers d among);
      newest = λ t w below later last. get_other c (recipe_name s v) (Some bytes) (recipe_name t w) (λ same.
          let e = recipe_same t w s v (omega (arith, last)) low same in
          let high = version_high T s v k is in
          let f : latest_of T s < w = subst (λ (u : ℕ). latest_of T u < w) e.0 later in
          omega (arith, e.1))
          ∙ stands.newest t w below later last;
    }

-- the blob of the version that a recipe says

module _ (K : Core) (job : Job) (r : Recipe) (core : IsCore K) (can : CanCommit K job r) where
  abbrev said : KeptVersion
  said = version_in_recipe (K.state.containers ++ job.containers) r

  abbrev after : State
  after = committed (version_in_recipe (K.state.containers ++ job.containers) r) job K.state

  said_is : version_of after job.set r.version ≡ Some said
  said_is = ap (λ (w : ℕ). version_of after job.set w) can.version ∙ version_of-new K.state job.set said job.containers can.in_range (floor_pos K.state job.set core.state)

  two_bytes : (w : Fp) → recipe_bytes_2 w r ≡ recipe_bytes_2 w (recipe_of job.set r.version said)
  two_bytes w = ap (recipe_bytes_2 w) (λ i. record { set = can.set i; version = r.version; next = r.next; length = can.rules.total i; rows = r.rows; sparse = r.sparse; whole = Some said.sum })

  one_bytes : recipe_bytes_1 r ≡ recipe_bytes_1 (recipe_of job.set r.version said)
  one_bytes = ap recipe_bytes_1 (λ i. record { set = can.set i; version = r.version; next = r.next; length = can.rules.total i; rows = r.rows; sparse = r.sparse; whole = Some said.sum })

  said_blob : IsRecipeBlob after job.set r.version said (Some (recipe_bytes r))
  said_blob = at r.whole refl
    where
      at : (o : Option Fp) → r.whole ≡ o → IsRecipeBlob after job.set r.version said (Some (recipe_bytes r))
      at (Some w) is =
          let sum : said.sum ≡ w = ap (λ (o : Option Fp). unwrap_or o (fp (row_bytes (K.state.containers ++ job.containers) r.rows))) is in
          inl (ap (λ (o : Option Fp). Some (option_map_or (λ x. recipe_bytes_2 x r) o (recipe_bytes_1 r))) is
          ∙ ap (λ (b : List ℕ). Some b) (two_bytes w ∙ ap (λ (x : Fp). recipe_bytes_2 x (recipe_of job.set r.version said)) (sym sum)))
      at None is = inr (
        ap (λ (o : Option Fp). Some (option_map_or (λ x. recipe_bytes_2 x r) o (recipe_bytes_1 r))) is ∙ ap (λ (b : List ℕ). Some b) one_bytes,
        ap (λ (o : Option Fp). unwrap_or o (fp (row_bytes (K.state.containers ++ job.containers) r.rows))) is
            ∙ ap fp (sym (ap (λ (o : Option KeptVersion). option_map_or (λ k. row_bytes after.containers k.rows) o []) said_is)),
      )

module _ (K : Core) (job : Job) (r : Recipe) (k : KeptVersion) (core : IsCore K) (can : CanCommit K job r) (is : k ≡ version_in_recipe (K.state.containers ++ job.containers) r) where
  valid_after : IsValid (committed k job K.state)
  valid_after = (commit_core K job r k core can is []).state

  kept_is : version_of (committed k job K.state) job.set r.version ≡ Some k
  kept_is = ap (λ (w : ℕ). version_of (committed k job K.state) job.set w) can.version ∙ version_of-new K.state job.set k job.containers can.in_range (floor_pos K.state job.set core.state)

  kept_blob : IsRecipeBlob (committed k job K.state) job.set r.version k (Some (recipe_bytes r))
  kept_blob = subst (λ (v : KeptVersion). IsRecipeBlob (committed v job K.state) job.set r.version v (Some (recipe_bytes r))) (sym is) (said_blob K job r core can)

  -- the same blob in format 2 first
  abbrev second : List ℕ
  second = recipe_bytes_2 k.sum (recipe_of job.set (latest_of K.state job.set + 1) k)

  twice : (m : Blobs) → with_blob (with_blob m (recipe_name job.set (latest_of K.state job.set + 1)) (Some second)) (recipe_name job.set r.version) (Some (recipe_bytes r)) ≡ with_blob m (recipe_name job.set r.version) (Some (recipe_bytes r))
  twice m = ap (λ (w : ℕ). with_blob (with_blob m (recipe_name job.set w) (Some second)) (recipe_name job.set r.version) (Some (recipe_bytes r))) (sym can.version)
      ∙ with_blob_twice m (recipe_name job.set r.version) (Some second) (Some (recipe_bytes r))

  -- with the recipe, what the shelf holds stands for the new state
  pub commit_stands : (m : Blobs) → Held m K → Stands (with_blob m (recipe_name job.set r.version) (Some (recipe_bytes r))) (committed k job K.state)
  commit_stands m held = subst (λ (b : Blobs). Stands b (committed k job K.state)) (twice m)
      (respelled (committed k job K.state) job.set r.version k valid_after kept_is (recipe_bytes r) kept_blob
      (with_blob m (recipe_name job.set (latest_of K.state job.set + 1)) (Some second))
      (grown.commit_stands K job k [] core.state can.in_range can.open_job (job_alone K job core can.open_job) second refl m held))

  -- what the strays become

  covered : (strays : List Name) → AreStraysLeft K.strays (recipe_name job.set r.version) job.containers strays → (n : Name) → Contains K.strays n → Contains strays n ⊎ IsNeeded (committed k job K.state) (pinned_containers K.pins) n
  covered strays left n was = ⊎_elim
      (λ still. inl still)
      (λ gone. inr (⊎_elim
      (λ recipe. subst (λ (q : Name). IsNeeded (committed k job K.state) (pinned_containers K.pins) q) (sym (recipe ∙ ap (λ (w : ℕ). recipe_name job.set w) can.version)) (grown_needs_new K.state job.set k job.containers core.state can.in_range (pinned_containers K.pins)))
      (λ put. needs_container (committed k job K.state) (pinned_containers K.pins) n (record { container = put.container; among = Contains-append_right K.state.containers job.containers put.container put.among; is = put.is }))
      gone))
      (left.stay n was)

  apart : (strays : List Name) → AreStraysLeft K.strays (recipe_name job.set r.version) job.containers strays → ((n : Name) → Contains K.strays n → IsNeeded K.state (pinned_containers K.pins) n → ⊥)
      → (n : Name) → Contains strays n → IsNeeded (committed k job K.state) (pinned_containers K.pins) n → ⊥
  apart strays left before n stray (inl needed) = ⊎_elim
      (λ here. ⊎_elim
      (λ old. before n (left.were n stray).0 (needs_container K.state (pinned_containers K.pins) n (record { container = needed.container; among = old; is = needed.is })))
      (λ put. (left.were n stray).2 (record { container = needed.container; among = put; is = needed.is }))
      (Contains-append_cases K.state.containers job.containers needed.container here))
      (λ pinned. before n (left.were n stray).0 (needs_pinned K.state (pinned_containers K.pins) n (record { container = needed.container; among = pinned; is = needed.is })))
      (Contains-append_cases (K.state.containers ++ job.containers) (pinned_containers K.pins) needed.container needed.among)
  apart strays left before n stray (inr (inl needed)) = at (version_of (committed k job K.state) needed.set needed.version) refl needed.kept
    where
      at : (o : Option KeptVersion) → version_of (committed k job K.state) needed.set needed.version ≡ o → IsSome o → ⊥
      at None there some = let clash : false ≡ true = some in cc
      at (Some j) there some = ⊎_elim
          (λ new. (left.were n stray).1 (needed.is ∙ ap (λ (t : ℕ). recipe_name t needed.version) new.0 ∙ ap (λ (w : ℕ). recipe_name job.set w) (new.1 ∙ sym can.version)))
          (λ old. before n (left.were n stray).0 (subst (λ (q : Name). IsNeeded K.state (pinned_containers K.pins) q) (sym needed.is)
          (needs_recipe K.state (pinned_containers K.pins) needed.set needed.version j (omega (arith, needed.in_range, sets_same K.state job.set k job.containers core.state can.in_range)) old)))
          (version_back K.state job.set k job.containers core.state can.in_range needed.set needed.version j there)
  apart strays left before n stray (inr (inr needed)) = before n (left.were n stray).0
      (inr (inr (record { set = needed.set; in_range = omega (arith, needed.in_range, sets_same K.state job.set k job.containers core.state can.in_range); is = needed.is })))

  -- a commit that was done
  pub commit_held : (strays : List Name) → AreStraysLeft K.strays (recipe_name job.set r.version) job.containers strays → (m : Blobs) → Held m K → Held (with_blob m (recipe_name job.set r.version) (Some (recipe_bytes r))) (after_commit k job strays K)
  commit_held strays left m held =
      let first = grown.commit_held K job k strays core.state can.in_range can.open_job (job_alone K job core can.open_job) second refl m (covered strays left) (apart strays left held.apart) held in
      record {
        near = inl (commit_stands m held);
        containers = λ c among. keeps_container m (recipe_name job.set r.version) (Some (recipe_bytes r)) c
            (λ same. recipe_no_table job.set r.version c.table.id (sym same)) (λ same. recipe_no_payload job.set r.version c.table.id (sym same))
            (held.containers c (Contains-append_left (pinned_containers K.pins) (put_by K.job) c (pinned_only c among)));
        others = λ q there. ⊎_elim
            (λ (same : q ≡ recipe_name job.set r.version). first.others q (subst (λ (b : Option (List ℕ)). IsSome b) (sym (get_is m (recipe_name job.set (latest_of K.state job.set + 1)) (Some second) q (same ∙ ap (λ (w : ℕ). recipe_name job.set w) can.version))) refl))
            (λ kept. ⊎_elim
            (λ (same : q ≡ recipe_name job.set (latest_of K.state job.set + 1)). first.others q (subst (λ (b : Option (List ℕ)). IsSome b) (sym (get_is m (recipe_name job.set (latest_of K.state job.set + 1)) (Some second) q same)) refl))
            (λ also. first.others q (subst (λ (b : Option (List ℕ)). IsSome b) (sym also) (subst (λ (b : Option (List ℕ)). IsSome b) kept there)))
            (written_or_other m (recipe_name job.set (latest_of K.state job.set + 1)) (Some second) q))
            (written_or_other m (recipe_name job.set r.version) (Some (recipe_bytes r)) q);
        apart = first.apart;
      }
    where
      pinned_only : (c : Container) → Contains (pinned_containers K.pins ++ []) c → Contains (pinned_containers K.pins) c
      pinned_only c among = ⊎_elim (λ here. here) (λ none. absurd (no_member c none)) (Contains-append_cases (pinned_containers K.pins) [] c among)

  -- the same where the shelf may tell nothing
  pub commit_told : (strays : List Name) → AreStraysLeft K.strays (recipe_name job.set r.version) job.containers strays → (b b' : Option Blobs) → b' ≡ blobs_with b (recipe_name job.set r.version) (Some (recipe_bytes r))
      → HeldIfTold b K → HeldIfTold b' (after_commit k job strays K)
  commit_told strays left b b' written held = told_same (λ m. Held m (after_commit k job strays K)) (blobs_with b (recipe_name job.set r.version) (Some (recipe_bytes r))) b' written
      (told_with (λ m. Held m K) (λ m. Held m (after_commit k job strays K)) b (recipe_name job.set r.version) (Some (recipe_bytes r)) (commit_held strays left) held)

  alone_stands : (m : Blobs) → Held m K → Stands m K.state
  alone_stands m held = ⊎_elim (λ here. here) (λ none. absurd (subst (λ (o : Option Change). IsSomeAnd o (λ h. HasChange K.state h m)) (job_alone K job core can.open_job) none)) held.near

  -- what the shelf's commit asks for
  pub commit_can : (b : Option Blobs) → HeldIfTold b K → CanChange b K.state (change (recipe_name job.set r.version) (recipe_bytes r) (committed k job K.state))
  commit_can b held = record {
    stands = told_more (λ m. Held m K) (λ m. Stands m K.state) b alone_stands held;
    will_stand = told_more (λ m. Held m K) (λ m. Stands (with_blob m (recipe_name job.set r.version) (Some (recipe_bytes r))) (committed k job K.state)) b commit_stands held;
  }

  -- the change by the recipe's own number
  pub change_is : commit_change k job r K.state ≡ change (recipe_name job.set r.version) (recipe_bytes r) (committed k job K.state)
  change_is = ap (λ (w : ℕ). change (recipe_name job.set w) (recipe_bytes r) (committed k job K.state)) (sym can.version)

  -- a commit that is half done

  half_pins : (c : Container) → Contains (pinned_containers K.pins ++ []) c → Contains (pinned_containers K.pins ++ put_by K.job) c
  half_pins c among = Contains-append_left (pinned_containers K.pins) (put_by K.job) c (⊎_elim (λ here. here) (λ none. absurd (no_member c none)) (Contains-append_cases (pinned_containers K.pins) [] c among))

  half_same : (h : Change) (m : Blobs) → Held m K → Held m (after_refused (Some h) None K.strays (pending.FailedFor job.set) K)
  half_same h m held = record { near = inl (alone_stands m held); containers = λ c among. held.containers c (half_pins c among); others = held.others; apart = held.apart }

  half_written : (m : Blobs) → Contains K.strays (recipe_name job.set r.version) → Held m K
      → Held (with_blob m (recipe_name job.set r.version) (Some (recipe_bytes r))) (after_refused (Some (change (recipe_name job.set r.version) (recipe_bytes r) (committed k job K.state))) None K.strays (pending.FailedFor job.set) K)
  half_written m stray held = record {
    near = inr (record { before = m; stands = alone_stands m held; is = refl; other = commit_stands m held });
    containers = λ c among. keeps_container m (recipe_name job.set r.version) (Some (recipe_bytes r)) c
        (λ same. recipe_no_table job.set r.version c.table.id (sym same)) (λ same. recipe_no_payload job.set r.version c.table.id (sym same)) (held.containers c (half_pins c among));
    others = λ q there. ⊎_elim
        (λ (same : q ≡ recipe_name job.set r.version). inr (subst (λ (n : Name). Contains K.strays n) (sym same) stray))
        (λ kept. held.others q (subst (λ (b : Option (List ℕ)). IsSome b) kept there))
        (written_or_other m (recipe_name job.set r.version) (Some (recipe_bytes r)) q);
    apart = held.apart;
  }

  pub commit_half : (m m' : Blobs) → Contains K.strays (recipe_name job.set r.version) → Held m K → (m' ≡ m) ⊎ (m' ≡ with_blob m (recipe_name job.set r.version) (Some (recipe_bytes r)))
      → Held m' (after_refused (Some (commit_change k job r K.state)) None K.strays (pending.FailedFor job.set) K)
  commit_half m m' stray held may = ⊎_elim
      (λ same. subst (λ (b : Blobs). Held b (after_refused (Some (commit_change k job r K.state)) None K.strays (pending.FailedFor job.set) K)) (sym same) (half_same (commit_change k job r K.state) m held))
      (λ made. subst (λ (b : Blobs). Held b (after_refused (Some (commit_change k job r K.state)) None K.strays (pending.FailedFor job.set) K)) (sym made)
      (subst (λ (h : Change). Held (with_blob m (recipe_name job.set r.version) (Some (recipe_bytes r))) (after_refused (Some h) None K.strays (pending.FailedFor job.set) K)) (sym change_is) (half_written m stray held)))
      may

  pub half_told : (b b' : Option Blobs) → Contains K.strays (recipe_name job.set r.version) → (b' ≡ b) ⊎ (b' ≡ blobs_with b (recipe_name job.set r.version) (Some (recipe_bytes r)))
      → HeldIfTold b K → HeldIfTold b' (after_refused (Some (commit_change k job r K.state)) None K.strays (pending.FailedFor job.set) K)
  half_told b b' stray may held = ⊎_elim
      (λ same. told_same (λ m. Held m (after_refused (Some (commit_change k job r K.state)) None K.strays (pending.FailedFor job.set) K)) b b' same
      (told_more (λ m. Held m K) (λ m. Held m (after_refused (Some (commit_change k job r K.state)) None K.strays (pending.FailedFor job.set) K)) b (λ m h. commit_half m m stray h (inl refl)) held))
      (λ made. told_same (λ m. Held m (after_refused (Some (commit_change k job r K.state)) None K.strays (pending.FailedFor job.set) K)) (blobs_with b (recipe_name job.set r.version) (Some (recipe_bytes r))) b' made
      (told_with (λ m. Held m K) (λ m. Held m (after_refused (Some (commit_change k job r K.state)) None K.strays (pending.FailedFor job.set) K)) b (recipe_name job.set r.version) (Some (recipe_bytes r))
      (λ m h. commit_half m (with_blob m (recipe_name job.set r.version) (Some (recipe_bytes r))) stray h (inr refl)) held))
      may

  failed_same : (s t : ℕ) → ◌≡◌ {A = Pending} (pending.FailedFor s) (pending.FailedFor t) → s ≡ t
  failed_same s t e = cc

  no_job : IsSome {T = Job} None → ⊥
  no_job some = let clash : false ≡ true = some in cc

  pub half_core : (strays : List Name) → IsCore (after_refused (Some (commit_change k job r K.state)) None strays (pending.FailedFor job.set) K)
  half_core strays = record {
    state = core.state;
    job = refl;
    tables = tt;
    payloads = tt;
    job_set = tt;
    pins = core.pins;
    numbers = core.numbers;
    alone = λ some. absurd (no_job some);
    failed = λ s e. subst (λ (t : ℕ). t < length K.state.datasets) (failed_same job.set s e) can.in_range;
    other = (job.set, refl, commit_is_change K job r k core can is);
  }

-- where nothing was written

pub refused_core : (K : Core) (strays : List Name) (waits : Pending) → IsCore K → ((s : ℕ) → waits ≡ pending.FailedFor s → s < length K.state.datasets) → IsCore (after_refused None None strays waits K)
refused_core K strays waits core failed = record {
  state = core.state;
  job = refl;
  tables = tt;
  payloads = tt;
  job_set = tt;
  pins = core.pins;
  numbers = core.numbers;
  alone = λ some. refl;
  failed = failed;
  other = tt;
}

pub refused_held : (K : Core) (strays : List Name) (waits : Pending) (m : Blobs) → K.other ≡ None → ((n : Name) → Contains K.strays n → Contains strays n) → ((n : Name) → Contains strays n → IsNeeded K.state (pinned_containers K.pins) n → ⊥)
    → Held m K → Held m (after_refused None None strays waits K)
refused_held K strays waits m alone more apart held = record {
  near = inl (⊎_elim (λ here. here) (λ none. absurd (subst (λ (o : Option Change). IsSomeAnd o (λ h. HasChange K.state h m)) alone none)) held.near);
  containers = λ c among. held.containers c (Contains-append_left (pinned_containers K.pins) (put_by K.job) c (⊎_elim (λ here. here) (λ none. absurd (no_member c none)) (Contains-append_cases (pinned_containers K.pins) [] c among)));
  others = λ q there. ⊎_elim (λ needed. inl needed) (λ stray. inr (more q stray)) (held.others q there);
  apart = apart;
}
