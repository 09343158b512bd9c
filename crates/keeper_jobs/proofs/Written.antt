-- What the shelf holds behind a commit, in the words of the memory.
use Rattle.std.proofs.Common.{◌≡◌, ◌≢◌, ◌⊎◌, inl, inr, ⊎_elim, ℕ, zero, suc, ◌<◌, ◌≤◌, ◌+◌, ◌-◌, length, Bool, true, false, not, ◌&&◌, ◌||◌, List, [], ◌∷◌, ◌++◌, Option, Some, None, refl, sym, ◌∙◌, ap, subst, arith, get_or, take, length-append}
use Rattle.std.specs.Prelude.{Contains, nat_eq, nat_le, nat_lt, ◌==◌}
use Rattle.std.specs.List.{range_with_len}
use Rattle.std.proofs.lemmas.Bool.Decides.{nat_tests}
use Rattle.std.proofs.lemmas.List.Elements.{Contains-append_left, Contains-push, Contains-push_cases}
use Rattle.std.proofs.lemmas.List.FromFn.{get_or-range_with_len}
use Rattle.std.proofs.Math.ListN.{get_or-map}
use Rattle.vault_types.specs.declared.Fp.{Fp}
use Rattle.vault_types.specs.declared.Kind.{Kind}
use Rattle.vault_types.specs.declared.Kind.TheVariants as kind
use Rattle.vault_types.specs.declared.Name.{Name}
use Rattle.vault_types.specs.declared.Pending.{Pending}
use Rattle.vault_types.specs.declared.Pending.TheVariants as pending
use Rattle.vault_types.specs.declared.Recipe.{Recipe}
use Rattle.vault_types.specs.Lists.{has}
use Rattle.vault_types.specs.Blobs.{recipe_bytes}
use Rattle.vault_types.specs.Tables.{Container, id_of}
use Rattle.vault_types.specs.State.{next_of}
use Rattle.vault_types.specs.Shelf.{Blobs, blob_at, kind_rank, same_name, table_name, payload_name, recipe_name, Has}
use Rattle.vault_types.specs.Events.{Core, Change, Job, pinned_containers, IsContainerName, IsNeeded, IsCore, CanCommit, Held, committed, commit_change, after_commit, after_refused}
use Rattle.vault_traits.specs.Shelf.{blobs_with}
use Rattle.vault_traits.proofs.Maps.{get_is, other_blob}
use Rattle.state_laws.specs.Parts.{HeldIfTold, CanChange, change, with_strays}
use Rattle.state_laws.proofs.Changing.{told_more, told_same, next_unneeded}
use Rattle.state_laws.proofs.Standing.{held_more}
use Rattle.keeper_catalog.specs.declared.JobInfo.{JobInfo}
use Rattle.keeper_catalog.specs.Catalog.{Memo}
use Rattle.commit_laws.specs.Laws.{AreStraysLeft}
use Rattle.commit_laws.proofs.Committing.{job_ids, job_alone, job_low}
use Rattle.commit_laws.proofs.Listing.{all_at}
use Rattle.commit_laws.proofs.Holding.{commit_told, commit_can, change_is, half_told, refused_held}
use Rattle.state_laws.proofs.Members.{filter_contains, filter_passed, filter_within, of_map}
use Rattle.keeper_jobs.specs.Jobs.{is_of_container, is_committed, uncommitted, Commits, version_by}
use Rattle.keeper_jobs.proofs.Commits.{first_is, next_is, set_is}

-- tests of names

rank_same : (a b : Kind) → kind_rank a ≡ kind_rank b → a ≡ b
rank_same kind.Table kind.Table e = refl
rank_same kind.Table kind.Payload e = absurd (omega (arith, e))
rank_same kind.Table kind.Recipe e = absurd (omega (arith, e))
rank_same kind.Table kind.Floor e = absurd (omega (arith, e))
rank_same kind.Payload kind.Table e = absurd (omega (arith, e))
rank_same kind.Payload kind.Payload e = refl
rank_same kind.Payload kind.Recipe e = absurd (omega (arith, e))
rank_same kind.Payload kind.Floor e = absurd (omega (arith, e))
rank_same kind.Recipe kind.Table e = absurd (omega (arith, e))
rank_same kind.Recipe kind.Payload e = absurd (omega (arith, e))
rank_same kind.Recipe kind.Recipe e = refl
rank_same kind.Recipe kind.Floor e = absurd (omega (arith, e))
rank_same kind.Floor kind.Table e = absurd (omega (arith, e))
rank_same kind.Floor kind.Payload e = absurd (omega (arith, e))
rank_same kind.Floor kind.Recipe e = absurd (omega (arith, e))
rank_same kind.Floor kind.Floor e = refl

and_left : (a b : Bool) → (a && b) ≡ true → a ≡ true
and_left true b e = refl
and_left false b e = e

and_right : (a b : Bool) → (a && b) ≡ true → b ≡ true
and_right true b e = e
and_right false b e = absurd (let clash : false ≡ true = e in cc)

same_is : (a b : Name) → same_name a b ≡ true → a ≡ b
same_is a b e =
    let ranks : (kind_rank a.kind == kind_rank b.kind) ≡ true = and_left (kind_rank a.kind == kind_rank b.kind) (a.number == b.number) e in
    let numbers : (a.number == b.number) ≡ true = and_right (kind_rank a.kind == kind_rank b.kind) (a.number == b.number) e in
    let k : kind_rank a.kind ≡ kind_rank b.kind = grind (arith, nat_tests) in
    let n : a.number ≡ b.number = grind (arith, nat_tests) in
    λ i. record { kind = rank_same a.kind b.kind k i; number = n i }

same_self : (a : Name) → same_name a a ≡ true
same_self a =
    let k : (kind_rank a.kind == kind_rank a.kind) ≡ true = grind (arith, nat_tests) in
    let n : (a.number == a.number) ≡ true = grind (arith, nat_tests) in
    ap (λ b. b && (a.number == a.number)) k ∙ n

or_first : (a b : Bool) → a ≡ true → (a || b) ≡ true
or_first true b e = refl
or_first false b e = absurd (let clash : false ≡ true = e in cc)

or_second : (a b : Bool) → b ≡ true → (a || b) ≡ true
or_second true b e = refl
or_second false b e = e

or_cases : (a b : Bool) → (a || b) ≡ true → (a ≡ true) ⊎ (b ≡ true)
or_cases true b e = inl refl
or_cases false b e = inr e

pub recipe_goes : (recipe : Name) (first next : ℕ) → is_committed recipe first next recipe ≡ true
recipe_goes recipe first next = or_first (same_name recipe recipe) (is_of_container recipe.kind && (nat_le first recipe.number && nat_lt recipe.number next)) (same_self recipe)

has_range : (a n k : ℕ) → a ≤ k → k < a + n → has k (range_with_len a n) ≡ true
has_range a zero k low high = absurd (omega (arith, low, high))
has_range a (suc n) k low high = step (nat_eq k a) refl (λ next. has_range (a + 1) n k next (omega (arith, high)))
  where
    step : (b : Bool) → nat_eq k a ≡ b → (a + 1 ≤ k → has k (range_with_len (a + 1) n) ≡ true) → (nat_eq k a || has k (range_with_len (a + 1) n)) ≡ true
    step true e rest = or_first (nat_eq k a) (has k (range_with_len (a + 1) n)) e
    step false e rest = let apart : k ≢ a = grind (arith, nat_tests) in or_second (nat_eq k a) (has k (range_with_len (a + 1) n)) (rest (omega (arith, low, apart)))

two_kinds : (n : Name) → is_of_container n.kind ≡ true → (n ≡ table_name n.number) ⊎ (n ≡ payload_name n.number)
two_kinds n e = at n.kind refl e
  where
    at : (k : Kind) → n.kind ≡ k → is_of_container k ≡ true → (n ≡ table_name n.number) ⊎ (n ≡ payload_name n.number)
    at kind.Table is t = inl (λ i. record { kind = is i; number = n.number })
    at kind.Payload is t = inr (λ i. record { kind = is i; number = n.number })
    at kind.Recipe is t = absurd (let clash : false ≡ true = t in cc)
    at kind.Floor is t = absurd (let clash : false ≡ true = t in cc)

module _ (m : Memo) (index : List (Fp × List ℕ)) (info : JobInfo) (r : Recipe) (K : Core) (job : Job) (c : Commits m index info r K job) where
  abbrev recipe : Name
  recipe = recipe_name info.set r.version

  recipe_is : recipe ≡ recipe_name job.set r.version
  recipe_is = ap (λ s. recipe_name s r.version) (set_is m index info r K job c)

  pub pushed_is : recipe_name r.set r.version ≡ recipe
  pushed_is = ap (λ s. recipe_name s r.version) c.can.set ∙ sym recipe_is

  of_job : (n : Name) → is_committed recipe info.first info.next n ≡ true → (n ≡ recipe) ⊎ IsContainerName job.containers n
  of_job n is = ⊎_elim
      (λ same. inl (same_is n recipe same))
      (λ also.
      let container : is_of_container n.kind ≡ true = and_left (is_of_container n.kind) (nat_le info.first n.number && nat_lt n.number info.next) also in
      let range : (nat_le info.first n.number && nat_lt n.number info.next) ≡ true = and_right (is_of_container n.kind) (nat_le info.first n.number && nat_lt n.number info.next) also in
      let a : nat_le info.first n.number ≡ true = and_left (nat_le info.first n.number) (nat_lt n.number info.next) range in
      let b : nat_lt n.number info.next ≡ true = and_right (nat_le info.first n.number) (nat_lt n.number info.next) range in
      let low : info.first ≤ n.number = grind (arith, nat_tests) in
      let high : n.number < info.next = grind (arith, nat_tests) in
      let there = has_range (next_of K.state) (length job.containers) n.number (omega (arith, low, first_is m index info r K job c)) (omega (arith, high, next_is m index info r K job c)) in
      let found = of_map id_of job.containers n.number (subst (λ (l : List ℕ). has n.number l ≡ true) (sym (job_ids K job c.core c.can.open_job)) there) in
      inr (record {
        container = found.0;
        among = found.1;
        is = ⊎_elim (λ t. inl (t ∙ ap table_name (sym found.2))) (λ p. inr (p ∙ ap payload_name (sym found.2))) (two_kinds n container);
      }))
      (or_cases (same_name n recipe) (is_of_container n.kind && (nat_le info.first n.number && nat_lt n.number info.next)) is)

  in_range_of : (d : Container) → Contains job.containers d → (nat_le info.first d.table.id && nat_lt d.table.id info.next) ≡ true
  in_range_of d among =
      let low : next_of K.state ≤ d.table.id = all_at (λ e. next_of K.state ≤ e.table.id) job.containers d (job_low K job c.core c.can.open_job) among in
      let at : d.table.id ≡ next_of K.state + among.0 =
      ap id_of (sym among.2) ∙ sym (get_or-map id_of job.containers among.0 d) ∙ ap (λ (l : List ℕ). get_or l among.0 d.table.id) (job_ids K job c.core c.can.open_job) ∙ get_or-range_with_len (next_of K.state) (length job.containers) among.0 d.table.id among.1 in
      let lo : info.first ≤ d.table.id = omega (arith, low, first_is m index info r K job c) in
      let hi : d.table.id < info.next = omega (arith, at, among.1, next_is m index info r K job c) in
      let a : nat_le info.first d.table.id ≡ true = grind (arith, nat_tests) in
      let b : nat_lt d.table.id info.next ≡ true = grind (arith, nat_tests) in
      ap (λ t. t && nat_lt d.table.id info.next) a ∙ b

  job_goes : (n : Name) → IsContainerName job.containers n → is_committed recipe info.first info.next n ≡ true
  job_goes n is = ⊎_elim
      (λ t. subst (λ (q : Name). is_committed recipe info.first info.next q ≡ true) (sym t) (or_second (same_name (table_name is.container.table.id) recipe) (nat_le info.first is.container.table.id && nat_lt is.container.table.id info.next) (in_range_of is.container is.among)))
      (λ p. subst (λ (q : Name). is_committed recipe info.first info.next q ≡ true) (sym p) (or_second (same_name (payload_name is.container.table.id) recipe) (nat_le info.first is.container.table.id && nat_lt is.container.table.id info.next) (in_range_of is.container is.among)))
      is.is

  abbrev stays : Name → Bool
  stays n = not (is_committed recipe info.first info.next n)

  not_false : (b : Bool) → not b ≡ true → b ≡ true → ⊥
  not_false true e f = let clash : false ≡ true = e in cc
  not_false false e f = let clash : false ≡ true = f in cc

  pub left_is : AreStraysLeft K.strays (recipe_name job.set r.version) job.containers (uncommitted recipe info.first info.next (m.strays ++ recipe ∷ []))
  left_is = record {
    were = λ n there.
        let passed = filter_passed stays (m.strays ++ recipe ∷ []) n there in (
          ⊎_elim
              (λ old. subst (λ (l : List Name). Contains l n) c.memo.strays old)
              (λ same. absurd (not_false (is_committed recipe info.first info.next n) passed (subst (λ (q : Name). is_committed recipe info.first info.next q ≡ true) same (recipe_goes recipe info.first info.next))))
              (Contains-push_cases m.strays recipe n (filter_within stays (m.strays ++ recipe ∷ []) n there)),
          (λ same. not_false (is_committed recipe info.first info.next n) passed (subst (λ (q : Name). is_committed recipe info.first info.next q ≡ true) (recipe_is ∙ sym same) (recipe_goes recipe info.first info.next))),
          (λ put. not_false (is_committed recipe info.first info.next n) passed (job_goes n put)),
        );
    stay = λ n was. by_test n (is_committed recipe info.first info.next n) refl (Contains-append_left m.strays (recipe ∷ []) n (subst (λ (l : List Name). Contains l n) (sym c.memo.strays) was));
  }
    where
      by_test : (n : Name) (b : Bool) → is_committed recipe info.first info.next n ≡ b → Contains (m.strays ++ recipe ∷ []) n → Contains (uncommitted recipe info.first info.next (m.strays ++ recipe ∷ [])) n ⊎ ((n ≡ recipe_name job.set r.version) ⊎ IsContainerName job.containers n)
      by_test n true is there = inr (⊎_elim (λ same. inl (same ∙ recipe_is)) (λ put. inr put) (of_job n is))
      by_test n false is there = inl (filter_contains stays (m.strays ++ recipe ∷ []) n there (ap not is))

  pub left_of : (strays : List Name) → strays ≡ uncommitted recipe info.first info.next (m.strays ++ recipe ∷ []) → AreStraysLeft m.strays (recipe_name job.set r.version) job.containers strays
  left_of strays are = subst (λ (was : List Name). AreStraysLeft was (recipe_name job.set r.version) job.containers strays) (sym c.memo.strays) (subst (AreStraysLeft K.strays (recipe_name job.set r.version) job.containers) (sym are) left_is)

  module _ (bytes : List ℕ) (spelled : bytes ≡ recipe_bytes r) where
    pub change_here : commit_change (version_by K job r) job r K.state ≡ change recipe bytes (committed (version_by K job r) job K.state)
    change_here = change_is K job r (version_by K job r) c.core c.can refl ∙ (λ i. change (sym recipe_is i) (sym spelled i) (committed (version_by K job r) job K.state))

    pub can_here : (b : Option Blobs) → HeldIfTold b K → CanChange b K.state (change recipe bytes (committed (version_by K job r) job K.state))
    can_here b held = subst (λ (h : Change). CanChange b K.state h) (λ i. change (sym recipe_is i) (sym spelled i) (committed (version_by K job r) job K.state)) (commit_can K job r (version_by K job r) c.core c.can refl b held)

    pub done_held : (strays : List Name) → strays ≡ uncommitted recipe info.first info.next (m.strays ++ recipe ∷ []) → (b after : Option Blobs) → after ≡ blobs_with b recipe (Some bytes) → HeldIfTold b K → HeldIfTold after (after_commit (version_by K job r) job strays K)
    done_held strays are b after written held = commit_told K job r (version_by K job r) c.core c.can refl strays (subst (AreStraysLeft K.strays (recipe_name job.set r.version) job.containers) (sym are) left_is) b after
        (written ∙ (λ i. blobs_with b (recipe_is i) (Some (spelled i)))) held

    -- the core with the recipe's name among the strays
    abbrev noted : Core
    noted = with_strays (m.strays ++ recipe ∷ []) K

    noted_core : IsCore noted
    noted_core = record { state = c.core.state; job = c.core.job; tables = c.core.tables; payloads = c.core.payloads; job_set = c.core.job_set; pins = c.core.pins; numbers = c.core.numbers; alone = c.core.alone; failed = c.core.failed; other = c.core.other }

    noted_can : CanCommit noted job r
    noted_can = record { open_job = c.can.open_job; rules = c.can.rules; set = c.can.set; in_range = c.can.in_range; version = c.can.version; rows = c.can.rows; uses = c.can.uses; next = c.can.next }

    unneeded : IsNeeded K.state (pinned_containers K.pins) recipe → ⊥
    unneeded needed = next_unneeded K.state (pinned_containers K.pins) job.set c.core.state (subst (λ (q : Name). IsNeeded K.state (pinned_containers K.pins) q) (recipe_is ∙ ap (λ v. recipe_name job.set v) c.can.version) needed)

    noted_held : (b : Option Blobs) → HeldIfTold b K → HeldIfTold b noted
    noted_held b held = told_more (λ n. Held n K) (λ n. Held n noted) b
        (λ n h. held_more K (m.strays ++ recipe ∷ []) n
        (λ q was. Contains-append_left m.strays (recipe ∷ []) q (subst (λ (l : List Name). Contains l q) (sym c.memo.strays) was))
        (λ q stray needed. ⊎_elim
        (λ old. h.apart q (subst (λ (l : List Name). Contains l q) c.memo.strays old) needed)
        (λ same. unneeded (subst (λ (p : Name). IsNeeded K.state (pinned_containers K.pins) p) (sym same) needed))
        (Contains-push_cases m.strays recipe q stray)) h) held

    pub half_held : (strays : List Name) → strays ≡ m.strays ++ recipe ∷ [] → (b after : Option Blobs) → (after ≡ b) ⊎ (after ≡ blobs_with b recipe (Some bytes)) → HeldIfTold b K
        → HeldIfTold after (after_refused (Some (commit_change (version_by K job r) job r K.state)) None strays (pending.FailedFor info.set) K)
    half_held strays are b after may held =
        subst (λ (l : List Name). HeldIfTold after (after_refused (Some (commit_change (version_by K job r) job r K.state)) None l (pending.FailedFor info.set) K)) (sym are)
        (subst (λ (s : ℕ). HeldIfTold after (after_refused (Some (commit_change (version_by K job r) job r K.state)) None (m.strays ++ recipe ∷ []) (pending.FailedFor s) K)) (sym (set_is m index info r K job c))
        (half_told noted job r (version_by K job r) noted_core noted_can refl b after
        (subst (λ (q : Name). Contains (m.strays ++ recipe ∷ []) q) recipe_is (Contains-push m.strays recipe))
        (⊎_elim (λ same. inl same) (λ made. inr (made ∙ (λ i. blobs_with b (recipe_is i) (Some (spelled i))))) may)
        (noted_held b held)))

    pub spelled_there : (b after : Option Blobs) → after ≡ blobs_with b recipe (Some bytes) → Has after (recipe_name r.set r.version) (Some (recipe_bytes r))
    spelled_there b after written = subst (λ (t : Option Blobs). Has t (recipe_name r.set r.version) (Some (recipe_bytes r))) (sym written) (there b)
      where
        there : (t : Option Blobs) → Has (blobs_with t recipe (Some bytes)) (recipe_name r.set r.version) (Some (recipe_bytes r))
        there None = tt
        there (Some m) = get_is m recipe (Some bytes) (recipe_name r.set r.version) pushed_is ∙ ap (λ (x : List ℕ). Some x) spelled

    pub others_stay : (b after : Option Blobs) → (after ≡ b) ⊎ (after ≡ blobs_with b recipe (Some bytes)) → (q : Name) → q ≢ recipe_name r.set r.version → blob_at after q ≡ blob_at b q
    others_stay b after may q apart = other_blob {before = b} {after = after} {past = None} {now = None} {name = recipe} {bytes = Some bytes} (record { blobs = may; history = inl refl }) q (λ same. apart (same ∙ sym pushed_is))

  pub before_held : (strays : List Name) (waits : Pending) → strays ≡ m.strays → (b after : Option Blobs) → after ≡ b → HeldIfTold b K → HeldIfTold after (after_refused None None strays waits K)
  before_held strays waits are b after same held = told_same (λ n. Held n (after_refused None None strays waits K)) b after same
      (told_more (λ n. Held n K) (λ n. Held n (after_refused None None strays waits K)) b
      (λ n h. refused_held K strays waits n (job_alone K job c.core c.can.open_job)
      (λ q was. subst (λ (l : List Name). Contains l q) (sym (are ∙ c.memo.strays)) was)
      (λ q stray needed. h.apart q (subst (λ (l : List Name). Contains l q) (are ∙ c.memo.strays) stray) needed) h) held)

-- the last name taken away
take_front : (xs : List Name) (x : Name) → take (length xs) (xs ++ x ∷ []) ≡ xs
take_front [] x = refl
take_front (y ∷ xs) x = ap (λ l. y ∷ l) (take_front xs x)

pub popped : (xs old new : List Name) (x : Name) → old ≡ xs ++ x ∷ [] → new ≡ take (length old - 1) old → new ≡ xs
popped xs old new x are is =
    is ∙ ap (λ (l : List Name). take (length l - 1) l) are
    ∙ ap (λ n. take n (xs ++ x ∷ [])) (let e : length (xs ++ x ∷ []) - 1 ≡ length xs = omega (arith, length-append xs (x ∷ [])) in e)
    ∙ take_front xs x
