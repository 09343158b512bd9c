-- Mending, and writes that lead from one state to another.
use Rattle.std.proofs.Common.{◌≡◌, ◌≢◌, ◌⊎◌, inl, inr, ⊎_elim, ℕ, zero, suc, ◌-◌, true, false, cond, ◌<◌, ◌≤◌, ◌+◌, ◌*◌, ◌^◌, length, List, [], ◌∷◌, Option, Some, None, refl, sym, ◌∙◌, ap, subst, arith}
use Rattle.std.specs.Prelude.{Result, Ok, Err, OnOk, OnErr, is_err, IsSome, IfSome, slice_get, slice_index_or, nat_lt}
use Rattle.std.specs.List.{AllByRecursion}
use Rattle.std.proofs.lemmas.Bool.Decides.{nat_tests}
use Rattle.std.specs.FinMap as fin
use Rattle.vault_types.specs.declared.Name.{Name}
use Rattle.vault_types.specs.Tables.{Container}
use Rattle.vault_types.specs.State.{State, Dataset, KeptVersion, dataset, empty_dataset, latest_in, latest_of, floor_of, version_in, version_of, IsDataset, IsValid}
use Rattle.vault_types.specs.Blobs.{floor_bytes}
use Rattle.vault_types.specs.Shelf.{Blobs, with_blob, table_name, payload_name, recipe_name, floor_name, IsFloorBlob, IsRecipeBlob, Stands}
use Rattle.vault_types.specs.Events.{Core, Change, pinned_containers, IsNeeded, Held, IsNear}
use Rattle.vault_traits.specs.Crash.{Wrote, History, LeavesNowIfTold, LeavesOnlyIfTold, ReadsAnImage}
use Rattle.vault_traits.specs.Shelf.{blobs_with, history_with, history_settled, IsWritten, MayBeWritten}
use Rattle.vault_traits.proofs.Maps.{get_other, get_is, is_or_not, written_or_other, with_blob_comm, with_blob_twice}
use Rattle.vault_traits.proofs.Moments.{stays, settles, settled_now, writes_once, told_or_silent, silent, silent_write, silent_settle, more_now, more, then, ends}
use Rattle.state_laws.specs.Parts.{IsFree, HeldIfTold, IsOf, mended_blobs, CanChange, Changes, without_other, change, Mends}
use Rattle.state_laws.proofs.Standing.{free_write, keeps_container, needs_floor}

-- kinds tell names apart

pub recipe_no_floor : (s v t : ℕ) → recipe_name s v ≢ floor_name t
recipe_no_floor s v t is = let kinds = ap (λ (n : Name). n.kind) is in cc

pub recipe_no_table : (s v id : ℕ) → recipe_name s v ≢ table_name id
recipe_no_table s v id is = let kinds = ap (λ (n : Name). n.kind) is in cc

pub recipe_no_payload : (s v id : ℕ) → recipe_name s v ≢ payload_name id
recipe_no_payload s v id is = let kinds = ap (λ (n : Name). n.kind) is in cc

pub floor_no_table : (s id : ℕ) → floor_name s ≢ table_name id
floor_no_table s id is = let kinds = ap (λ (n : Name). n.kind) is in cc

pub floor_no_payload : (s id : ℕ) → floor_name s ≢ payload_name id
floor_no_payload s id is = let kinds = ap (λ (n : Name). n.kind) is in cc

floor_same : (s t : ℕ) → floor_name s ≡ floor_name t → s ≡ t
floor_same s t is = ap (λ (n : Name). n.number) is

-- a state's floor is written

pub floor_write : (S : State) (s floor : ℕ) → floor ≡ floor_of S s → (m : Blobs) → Stands m S → Stands (with_blob m (floor_name s) (Some (floor_bytes s floor))) S
floor_write S s floor is m stands = record {
  floors = λ t below. floors t below (is_or_not (floor_name t) (floor_name s));
  recipes = λ t v below. subst (λ (b : Option (List ℕ)). IfSome (version_of S t v) (λ k. IsRecipeBlob S t v k b)) (sym (get_other m (floor_name s) (Some (floor_bytes s floor)) (recipe_name t v) (recipe_no_floor t v s))) (stands.recipes t v below);
  containers = λ c among. keeps_container m (floor_name s) (Some (floor_bytes s floor)) c (λ same. floor_no_table s c.table.id (sym same)) (λ same. floor_no_payload s c.table.id (sym same)) (stands.containers c among);
  newest = λ t v below later last. get_other m (floor_name s) (Some (floor_bytes s floor)) (recipe_name t v) (recipe_no_floor t v s) ∙ stands.newest t v below later last;
}
  where
    floors : (t : ℕ) → t < length S.datasets → (floor_name t ≡ floor_name s) ⊎ (floor_name t ≢ floor_name s) → IsFloorBlob t (floor_of S t) (fin.get (with_blob m (floor_name s) (Some (floor_bytes s floor))) (floor_name t))
    floors t below (inl same) = inl (get_is m (floor_name s) (Some (floor_bytes s floor)) (floor_name t) same
        ∙ ap (λ (f : ℕ). Some (floor_bytes s f)) is ∙ ap (λ (u : ℕ). Some (floor_bytes u (floor_of S u))) (sym (floor_same t s same)))
    floors t below (inr apart) = subst (λ (b : Option (List ℕ)). IsFloorBlob t (floor_of S t) b) (sym (get_other m (floor_name s) (Some (floor_bytes s floor)) (floor_name t) apart)) (stands.floors t below)

-- the next recipe of a set is free

pub recipe_same : (s v t w : ℕ) → v < 2 ^ 32 → w < 2 ^ 32 → recipe_name s v ≡ recipe_name t w → (s ≡ t) × (v ≡ w)
recipe_same s v t w p q is = let e : s * 2 ^ 32 + v ≡ t * 2 ^ 32 + w = ap (λ (n : Name). n.number) is in (omega arith, omega arith)

get_some : (xs : List KeptVersion) (i : ℕ) (x : KeptVersion) → slice_get xs i ≡ Some x → i < length xs
get_some [] i x is = absurd (let e : ◌≡◌ {A = Option KeptVersion} None (Some x) = is in cc)
get_some (y ∷ xs) zero x is = omega arith
get_some (y ∷ xs) (suc i) x is = omega (arith, get_some xs i x is)

version_in_range : (d : Dataset) (v : ℕ) (k : KeptVersion) → version_in d v ≡ Some k → (d.floor ≤ v) × (v ≤ latest_in d)
version_in_range d v k is = elim (nat_lt v d.floor) as (λ b. nat_lt v d.floor ≡ b → cond b None (slice_get d.versions (v - d.floor)) ≡ Some k → (d.floor ≤ v) × (v ≤ latest_in d)) [
  | true ↦ λ t e. absurd (let clash : ◌≡◌ {A = Option KeptVersion} None (Some k) = e in cc)
  | false ↦ λ t e. let low : d.floor ≤ v = grind (arith, nat_tests) in (low, omega (arith, get_some d.versions (v - d.floor) k e))
] refl is

pub version_low : (S : State) (s v : ℕ) (k : KeptVersion) → version_of S s v ≡ Some k → floor_of S s ≤ v
version_low S s v k is = (version_in_range (dataset S s) v k is).0

pub version_high : (S : State) (s v : ℕ) (k : KeptVersion) → version_of S s v ≡ Some k → v ≤ latest_of S s
version_high S s v k is = (version_in_range (dataset S s) v k is).1

datasets_low : (ds : List Dataset) (s : ℕ) → AllByRecursion IsDataset ds → latest_in (slice_index_or ds s empty_dataset) ≤ 4294967294
datasets_low [] s all = omega arith
datasets_low (d ∷ ds) zero all = all.0.last
datasets_low (d ∷ ds) (suc s) all = datasets_low ds s all.1

pub latest_low : (S : State) (s : ℕ) → IsValid S → latest_of S s ≤ 4294967294
latest_low S s valid = datasets_low S.datasets s valid.datasets

kept_of : (o : Option KeptVersion) → IsSome o → (k : KeptVersion) × (o ≡ Some k)
kept_of (Some k) some = (k, refl)
kept_of None some = absurd (let e : ◌≡◌ {A = Option KeptVersion} None None = refl in cc)

pub next_unneeded : (S : State) (more : List Container) (s : ℕ) → IsValid S → IsNeeded S more (recipe_name s (latest_of S s + 1)) → ⊥
next_unneeded S more s valid (inl is) = ⊎_elim (recipe_no_table s _ is.container.table.id) (recipe_no_payload s _ is.container.table.id) is.is
next_unneeded S more s valid (inr (inl is)) =
    let k = kept_of (version_of S is.set is.version) is.kept in
    let high = version_high S is.set is.version k.0 k.1 in
    let one = latest_low S s valid in
    let two = latest_low S is.set valid in
    let same = recipe_same s (latest_of S s + 1) is.set is.version (omega arith) (omega arith) is.is in
    let there = subst (λ (t : ℕ). is.version ≤ latest_of S t) (sym same.0) high in
    omega (arith, same.1)
next_unneeded S more s valid (inr (inr is)) = recipe_no_floor s _ is.set is.is

pub next_free : (S : State) (s : ℕ) → IsValid S → IsFree S (recipe_name s (latest_of S s + 1)) None
next_free S s valid = record { unneeded = next_unneeded S [] s valid; newest = λ t v below later last is. refl }

-- mending

module _ (S : State) (s : ℕ) (valid : IsValid S) where
  pub near_recipe : (other : Option Change) → IsOf S s other → (c : Blobs) → IsNear S other c → IsNear S other (with_blob c (recipe_name s (latest_of S s + 1)) None)
  near_recipe other of c (inl stands) = inl (free_write S (recipe_name s (latest_of S s + 1)) None (next_free S s valid) c stands)
  near_recipe None of c (inr none) = absurd none
  near_recipe (Some h) of c (inr has) = ⊎_elim
      (λ kind. inl (subst (λ (b : Blobs). Stands b S)
      (sym (ap (λ (b : Blobs). with_blob b (recipe_name s (latest_of S s + 1)) None) (has.is ∙ ap (λ (n : Name). with_blob has.before n (Some h.bytes)) kind.0) ∙ with_blob_twice has.before (recipe_name s (latest_of S s + 1)) (Some h.bytes) None))
      (free_write S (recipe_name s (latest_of S s + 1)) None (next_free S s valid) has.before has.stands)))
      (λ kind. inr (record {
        before = with_blob has.before (recipe_name s (latest_of S s + 1)) None;
        stands = free_write S (recipe_name s (latest_of S s + 1)) None (next_free S s valid) has.before has.stands;
        is = ap (λ (b : Blobs). with_blob b (recipe_name s (latest_of S s + 1)) None) has.is
            ∙ with_blob_comm has.before h.name (recipe_name s (latest_of S s + 1)) (Some h.bytes) None (λ same. recipe_no_floor s (latest_of S s + 1) s (sym same ∙ kind.0));
        other = free_write h.state (recipe_name s (latest_of S s + 1)) None (record { unneeded = kind.1; newest = λ t v below later last is. refl }) c has.other;
      }))
      of.kind

  pub near_floor : (other : Option Change) → IsOf S s other → (c : Blobs) → IsNear S other c → IsNear S other (with_blob c (floor_name s) (Some (floor_bytes s (floor_of S s))))
  near_floor other of c (inl stands) = inl (floor_write S s (floor_of S s) refl c stands)
  near_floor None of c (inr none) = absurd none
  near_floor (Some h) of c (inr has) = ⊎_elim
      (λ kind. inr (record {
        before = with_blob has.before (floor_name s) (Some (floor_bytes s (floor_of S s)));
        stands = floor_write S s (floor_of S s) refl has.before has.stands;
        is = ap (λ (b : Blobs). with_blob b (floor_name s) (Some (floor_bytes s (floor_of S s)))) has.is
            ∙ with_blob_comm has.before h.name (floor_name s) (Some h.bytes) (Some (floor_bytes s (floor_of S s))) (λ same. recipe_no_floor s (latest_of S s + 1) s (sym kind.0 ∙ same));
        other = floor_write h.state s (floor_of S s) (sym kind.1) c has.other;
      }))
      (λ kind. inl (subst (λ (b : Blobs). Stands b S)
      (sym (ap (λ (b : Blobs). with_blob b (floor_name s) (Some (floor_bytes s (floor_of S s)))) (has.is ∙ ap (λ (n : Name). with_blob has.before n (Some h.bytes)) kind.0) ∙ with_blob_twice has.before (floor_name s) (Some h.bytes) (Some (floor_bytes s (floor_of S s)))))
      (floor_write S s (floor_of S s) refl has.before has.stands)))
      of.kind

  -- after both only the state is left
  pub mended : (other : Option Change) → IsOf S s other → (c : Blobs) → IsNear S other c → Stands (mended_blobs S s c) S
  mended other of c (inl stands) = floor_write S s (floor_of S s) refl (with_blob c (recipe_name s (latest_of S s + 1)) None) (free_write S (recipe_name s (latest_of S s + 1)) None (next_free S s valid) c stands)
  mended None of c (inr none) = absurd none
  mended (Some h) of c (inr has) = ⊎_elim
      (λ kind. subst (λ (b : Blobs). Stands (with_blob b (floor_name s) (Some (floor_bytes s (floor_of S s)))) S)
      (sym (ap (λ (b : Blobs). with_blob b (recipe_name s (latest_of S s + 1)) None) (has.is ∙ ap (λ (n : Name). with_blob has.before n (Some h.bytes)) kind.0) ∙ with_blob_twice has.before (recipe_name s (latest_of S s + 1)) (Some h.bytes) None))
      (floor_write S s (floor_of S s) refl (with_blob has.before (recipe_name s (latest_of S s + 1)) None) (free_write S (recipe_name s (latest_of S s + 1)) None (next_free S s valid) has.before has.stands)))
      (λ kind. subst (λ (b : Blobs). Stands b S)
      (sym (ap (λ (b : Blobs). mended_blobs S s b) (has.is ∙ ap (λ (n : Name). with_blob has.before n (Some h.bytes)) kind.0)
      ∙ ap (λ (b : Blobs). with_blob b (floor_name s) (Some (floor_bytes s (floor_of S s)))) (with_blob_comm has.before (floor_name s) (recipe_name s (latest_of S s + 1)) (Some h.bytes) None (λ same. recipe_no_floor s (latest_of S s + 1) s (sym same)))
      ∙ with_blob_twice (with_blob has.before (recipe_name s (latest_of S s + 1)) None) (floor_name s) (Some h.bytes) (Some (floor_bytes s (floor_of S s)))))
      (floor_write S s (floor_of S s) refl (with_blob has.before (recipe_name s (latest_of S s + 1)) None) (free_write S (recipe_name s (latest_of S s + 1)) None (next_free S s valid) has.before has.stands)))
      of.kind

-- moments

-- a settle of a shelf whose images have P
pub settle_moment : (P : Blobs → Type 0) (told : Option Blobs) (past now : Option History) → ReadsAnImage told past → now ≡ history_settled told past → LeavesNowIfTold past P → LeavesOnlyIfTold past now P
settle_moment P told None now reads same here = silent P None now refl (silent_settle told None now same refl)
settle_moment P told (Some h) now reads same here = let image = reads h refl in settles P told image.0 (Some h) now image.1 same here (here image.0 image.2)

-- behind a settle a crash leaves what is told
pub settle_leaves : (P : Blobs → Type 0) (told : Option Blobs) (past now : Option History) → ReadsAnImage told past → now ≡ history_settled told past → IfSome told P → LeavesNowIfTold now P
settle_leaves P told None now reads same here = subst (λ (h : Option History). LeavesNowIfTold h P) (sym (silent_settle told None now same refl)) tt
settle_leaves P told (Some h) now reads same here =
    let image = reads h refl in
    more_now (λ c. c ≡ image.0) P (λ c is. subst P (sym is) (subst (λ (t : Option Blobs). IfSome t P) image.1 here)) now (settled_now told image.0 (Some h) now image.1 same)

-- a write that leads from Q to P
pub may_write_from : (Q P : Blobs → Type 0) → ((c : Blobs) → Q c → P c) → {before after : Option Blobs} {past now : Option History} {name : Name} {bytes : Option (List ℕ)} → MayBeWritten before after past now name bytes → LeavesNowIfTold past Q → ((c : Blobs) → Q c → P (with_blob c name bytes)) → LeavesOnlyIfTold past now P
may_write_from Q P wider {past = past} {now = now} {name = name} {bytes = bytes} may here leads = ⊎_elim
    (λ same. stays P past now same (more_now Q P wider past here))
    (λ same. subst (λ (h : Option History). LeavesOnlyIfTold past h P) (sym same) (write past here))
    may.history
  where
    write : (h : Option History) → LeavesNowIfTold h Q → LeavesOnlyIfTold h (history_with h name bytes) P
    write None here = tt
    write (Some h) here = record {
      steps = Wrote name bytes ∷ [];
      goes_on = refl;
      each = (λ c image. ⊎_elim (λ was. wider c (here c was)) (λ made. subst P (sym made.2) (leads made.0 (here made.0 made.1))) image, λ c image. wider c (here c image));
    }

-- what is held, with mending

no_none : (o : Option (List ℕ)) → o ≡ None → IsSome o → ⊥
no_none None is some = absurd (let e : ◌≡◌ {A = Option (List ℕ)} None None = refl in cc)
no_none (Some x) is some = let e : ◌≡◌ {A = Option (List ℕ)} (Some x) None = is in cc

module _ (K : Core) (s : ℕ) (valid : IsValid K.state) (below : s < length K.state.datasets) (of : IsOf K.state s K.other) where
  pub held_recipe : (m : Blobs) → Held m K → Held (with_blob m (recipe_name s (latest_of K.state s + 1)) None) K
  held_recipe m held = record {
    near = near_recipe K.state s valid K.other of m held.near;
    containers = λ c among. keeps_container m _ None c (λ same. recipe_no_table s _ c.table.id (sym same)) (λ same. recipe_no_payload s _ c.table.id (sym same)) (held.containers c among);
    others = λ q there. ⊎_elim
        (λ (same : q ≡ recipe_name s (latest_of K.state s + 1)). absurd (no_none _ (get_is m _ None q same) there))
        (λ kept. held.others q (subst (λ (b : Option (List ℕ)). IsSome b) kept there))
        (written_or_other m (recipe_name s (latest_of K.state s + 1)) None q);
    apart = held.apart;
  }

  pub held_floor : (m : Blobs) → Held m K → Held (with_blob m (floor_name s) (Some (floor_bytes s (floor_of K.state s)))) K
  held_floor m held = record {
    near = near_floor K.state s valid K.other of m held.near;
    containers = λ c among. keeps_container m (floor_name s) (Some (floor_bytes s (floor_of K.state s))) c (λ same. floor_no_table s c.table.id (sym same)) (λ same. floor_no_payload s c.table.id (sym same)) (held.containers c among);
    others = λ q there. ⊎_elim
        (λ (same : q ≡ floor_name s). inl (subst (λ (n : Name). IsNeeded K.state (pinned_containers K.pins) n) (sym same) (needs_floor K.state (pinned_containers K.pins) s below)))
        (λ kept. held.others q (subst (λ (b : Option (List ℕ)). IsSome b) kept there))
        (written_or_other m (floor_name s) (Some (floor_bytes s (floor_of K.state s))) q);
    apart = held.apart;
  }

  pub held_mended : (m : Blobs) → Held m K → Held (mended_blobs K.state s m) (without_other K)
  held_mended m held =
      let both = held_floor (with_blob m (recipe_name s (latest_of K.state s + 1)) None) (held_recipe m held) in
      record { near = inl (mended K.state s valid K.other of m held.near); containers = both.containers; others = both.others; apart = both.apart }

-- where blobs are told

pub told_with : (P Q : Blobs → Type 0) (told : Option Blobs) (name : Name) (bytes : Option (List ℕ)) → ((m : Blobs) → P m → Q (with_blob m name bytes)) → IfSome told P → IfSome (blobs_with told name bytes) Q
told_with P Q None name bytes leads here = here
told_with P Q (Some m) name bytes leads here = leads m here

pub told_more : (P Q : Blobs → Type 0) (told : Option Blobs) → ((m : Blobs) → P m → Q m) → IfSome told P → IfSome told Q
told_more P Q None leads here = here
told_more P Q (Some m) leads here = leads m here

pub told_same : (P : Blobs → Type 0) (a b : Option Blobs) → b ≡ a → IfSome a P → IfSome b P
told_same P a b is here = subst (λ (t : Option Blobs). IfSome t P) (sym is) here

pub told_may : (P : Blobs → Type 0) {before after : Option Blobs} {past now : Option History} {name : Name} {bytes : Option (List ℕ)} → MayBeWritten before after past now name bytes → ((m : Blobs) → P m → P (with_blob m name bytes)) → IfSome before P → IfSome after P
told_may P {before} {after} {name = name} {bytes = bytes} may bears here = ⊎_elim
    (λ same. told_same P before after same here)
    (λ same. told_same P (blobs_with before name bytes) after same (told_with P P before name bytes bears here))
    may.blobs

pub OnOk_then : {T E A B : Type 0} (r : Result T E) → (A → B) → OnOk r A → OnOk r B
OnOk_then (Ok x) f a = f a
OnOk_then (Err e) f a = a

-- the floor of a set rises

pub near_more : (A : State) (h : Change) (c : Blobs) → IsNear A None c → IsNear A (Some h) c
near_more A h c (inl stands) = inl stands
near_more A h c (inr none) = absurd none

pub near_alone : (A : State) (c : Blobs) → IsNear A None c → Stands c A
near_alone A c (inl stands) = stands
near_alone A c (inr none) = absurd none

pub raised : (A B : State) (s floor : ℕ) (bytes : List ℕ) → bytes ≡ floor_bytes s floor → Changes A (change (floor_name s) (floor_bytes s floor) B)
    → {before after : Option Blobs} {past now : Option History} → MayBeWritten before after past now (floor_name s) (Some bytes)
    → LeavesNowIfTold past (IsNear A None) → LeavesOnlyIfTold past now (IsNear A (Some (change (floor_name s) (floor_bytes s floor) B)))
raised A B s floor bytes is changes {before} {after} {past} {now} may here =
    let h : Change = change (floor_name s) (floor_bytes s floor) B in
    may_write_from (IsNear A None) (IsNear A (Some h)) (near_more A h)
    (subst (λ (b : List ℕ). MayBeWritten before after past now (floor_name s) (Some b)) is may) here
    (λ c near. let stands = near_alone A c near in inr (record { before = c; stands = stands; is = refl; other = changes c stands }))

-- mending, with the numbers that the code has

module _ (K : Core) (s v w : ℕ) (mends : Mends K s v w) where
  pub recipe_near : (c : Blobs) → IsNear K.state K.other c → IsNear K.state K.other (with_blob c (recipe_name s v) None)
  recipe_near c near = subst (λ (n : ℕ). IsNear K.state K.other (with_blob c (recipe_name s n) None)) (sym mends.version) (near_recipe K.state s mends.valid K.other mends.of c near)

  pub floor_near : (bytes : List ℕ) → bytes ≡ floor_bytes s w → (c : Blobs) → IsNear K.state K.other c → IsNear K.state K.other (with_blob c (floor_name s) (Some bytes))
  floor_near bytes is c near = subst (λ (b : List ℕ). IsNear K.state K.other (with_blob c (floor_name s) (Some b))) (sym (is ∙ ap (λ (n : ℕ). floor_bytes s n) mends.floor)) (near_floor K.state s mends.valid K.other mends.of c near)

  pub recipe_held : (m : Blobs) → Held m K → Held (with_blob m (recipe_name s v) None) K
  recipe_held m held = subst (λ (n : ℕ). Held (with_blob m (recipe_name s n) None) K) (sym mends.version) (held_recipe K s mends.valid mends.in_range mends.of m held)

  pub floor_held : (bytes : List ℕ) → bytes ≡ floor_bytes s w → (m : Blobs) → Held m K → Held (with_blob m (floor_name s) (Some bytes)) K
  floor_held bytes is m held = subst (λ (b : List ℕ). Held (with_blob m (floor_name s) (Some b)) K) (sym (is ∙ ap (λ (n : ℕ). floor_bytes s n) mends.floor)) (held_floor K s mends.valid mends.in_range mends.of m held)

  both_held : (bytes : List ℕ) → bytes ≡ floor_bytes s w → (m : Blobs) → Held m K → Held (with_blob (with_blob m (recipe_name s v) None) (floor_name s) (Some bytes)) (without_other K)
  both_held bytes is m held =
      subst (λ (n : ℕ). Held (with_blob (with_blob m (recipe_name s n) None) (floor_name s) (Some bytes)) (without_other K)) (sym mends.version)
      (subst (λ (b : List ℕ). Held (with_blob (with_blob m (recipe_name s (latest_of K.state s + 1)) None) (floor_name s) (Some b)) (without_other K)) (sym (is ∙ ap (λ (n : ℕ). floor_bytes s n) mends.floor)) (held_mended K s mends.valid mends.in_range mends.of m held))

  pub told_mended : (bytes : List ℕ) → bytes ≡ floor_bytes s w → (b0 b1 b2 : Option Blobs) → b1 ≡ blobs_with b0 (recipe_name s v) None → b2 ≡ blobs_with b1 (floor_name s) (Some bytes) → HeldIfTold b0 K → HeldIfTold b2 (without_other K)
  told_mended bytes is b0 b1 b2 one two here = told_same (λ m. Held m (without_other K)) (blobs_with (blobs_with b0 (recipe_name s v) None) (floor_name s) (Some bytes)) b2
      (two ∙ ap (λ (t : Option Blobs). blobs_with t (floor_name s) (Some bytes)) one) (at b0 here)
    where
      at : (t : Option Blobs) → HeldIfTold t K → HeldIfTold (blobs_with (blobs_with t (recipe_name s v) None) (floor_name s) (Some bytes)) (without_other K)
      at None here = here
      at (Some m) here = both_held bytes is m here

-- ---- what the code's calls give

pub settle_either : (P : Blobs → Type 0) (told : Option Blobs) (past now : Option History) {T E : Type 0} (r : Result T E) → ReadsAnImage told past
    → OnOk r (now ≡ history_settled told past) → OnErr r (now ≡ past) → LeavesNowIfTold past P → LeavesOnlyIfTold past now P
settle_either P told past now (Ok x) reads ok failed here = settle_moment P told past now reads ok here
settle_either P told past now (Err e) reads ok failed here = stays P past now failed here

pub renamed : {before after : Option Blobs} {past now : Option History} {name : Name} {bytes : Option (List ℕ)} (n : Name) → name ≡ n → MayBeWritten before after past now name bytes → MayBeWritten before after past now n bytes
renamed {before} {after} {past} {now} {name} {bytes} n is may = subst (λ (q : Name). MayBeWritten before after past now q bytes) is may

pub renamed_done : {before after : Option Blobs} {past now : Option History} {name : Name} {bytes : Option (List ℕ)} (n : Name) → name ≡ n → IsWritten before after past now name bytes → IsWritten before after past now n bytes
renamed_done {before} {after} {past} {now} {name} {bytes} n is may = subst (λ (q : Name). IsWritten before after past now q bytes) is may

pub done_of : {T E A : Type 0} (r : Result T E) → is_err r ≡ false → OnOk r A → A
done_of (Ok x) none a = a
done_of (Err e) none a = absurd (let t : true ≡ false = none in cc)

pub failed_of : {T E A : Type 0} (r : Result T E) → is_err r ≡ true → OnErr r A → A
failed_of (Err e) none a = a
failed_of (Ok x) none a = absurd (let t : false ≡ true = none in cc)

-- ---- a commit: a settle, a write and a settle

module _ (b0 : Option Blobs) (h0 : Option History) (reads : ReadsAnImage b0 h0) (name : Name) (bytes : List ℕ) (A B : State) (can : CanChange b0 A (change name bytes B)) (images : LeavesNowIfTold h0 (IsNear A None)) where
  stands_at : (m : Blobs) → b0 ≡ Some m → Stands m A
  stands_at m told = subst (λ (t : Option Blobs). IfSome t (λ m. Stands m A)) told can.stands

  will_stand_at : (m : Blobs) → b0 ≡ Some m → Stands (with_blob m name (Some bytes)) B
  will_stand_at m told = subst (λ (t : Option Blobs). IfSome t (λ m. Stands (with_blob m name (Some bytes)) B)) told can.will_stand

  P : Blobs → Type 0
  P = IsNear A (Some (change name bytes B))

  at_start : LeavesNowIfTold h0 P
  unfolding P
  at_start = more_now (IsNear A None) P (near_more A (change name bytes B)) h0 images

  pub settled_first : (h1 : Option History) → h1 ≡ history_settled b0 h0 → LeavesOnlyIfTold h0 h1 (IsNear A (Some (change name bytes B)))
  unfolding P
  settled_first h1 same = settle_moment P b0 h0 h1 reads same at_start

  pub written : (h1 : Option History) → h1 ≡ history_settled b0 h0 → {b1 b2 : Option Blobs} {h2 : Option History} → MayBeWritten b1 b2 h1 h2 name (Some bytes) → LeavesOnlyIfTold h0 h2 (IsNear A (Some (change name bytes B)))
  unfolding P
  written h1 same {h2 = h2} may = ⊎_elim
      (λ (told : (m : Blobs) × (b0 ≡ Some m)). then P h0 h1 h2 (settled_first h1 same) (writes_once P told.0 may (settled_now b0 told.0 h0 h1 told.1 same) (inl (stands_at told.0 told.1))
      (inr (record { before = told.0; stands = stands_at told.0 told.1; is = refl; other = will_stand_at told.0 told.1 }))))
      (λ none. silent P h0 h2 none (silent_write may (silent_settle b0 h0 h1 same none)))
      (told_or_silent b0 h0 reads)

  pub settled_second : (h1 : Option History) → h1 ≡ history_settled b0 h0 → {b1 b2 : Option Blobs} {h2 h3 : Option History} → MayBeWritten b1 b2 h1 h2 name (Some bytes) → ReadsAnImage b2 h2 → h3 ≡ history_settled b2 h2 → LeavesOnlyIfTold h0 h3 (IsNear A (Some (change name bytes B)))
  unfolding P
  settled_second h1 same {b2 = b2} {h2 = h2} {h3 = h3} may reads2 again =
      let so_far = written h1 same may in
      then P h0 h2 h3 so_far (settle_moment P b2 h2 h3 reads2 again (ends P h0 h2 so_far))

-- behind it a crash leaves only the new state
pub committed_now : (b0 b2 : Option Blobs) (h2 h3 : Option History) (name : Name) (bytes : List ℕ) (A B : State) → CanChange b0 A (change name bytes B)
    → b2 ≡ blobs_with b0 name (Some bytes) → ReadsAnImage b2 h2 → h3 ≡ history_settled b2 h2 → LeavesNowIfTold h3 (IsNear B None)
committed_now b0 b2 h2 h3 name bytes A B can is reads again =
    settle_leaves (IsNear B None) b2 h2 h3 reads again (told_same (IsNear B None) (blobs_with b0 name (Some bytes)) b2 is (at b0 can.will_stand))
  where
    at : (t : Option Blobs) → IfSome t (λ m. Stands (with_blob m name (Some bytes)) B) → IfSome (blobs_with t name (Some bytes)) (IsNear B None)
    at None here = here
    at (Some m) here = inl here
