-- Writes that a state and a core don't see.
use Rattle.std.proofs.Common.{◌≡◌, ◌≢◌, ◌⊎◌, inl, inr, ⊎_elim, ℕ, ◌<◌, length, List, [], ◌∷◌, ◌++◌, Option, Some, None, refl, sym, ◌∙◌, ap, subst, arith}
use Rattle.std.specs.Prelude.{Result, Ok, Err, OnOk, Contains, IsSome, IfSome}
use Rattle.std.proofs.lemmas.List.Elements.{Contains-append_left, Contains-append_right, Contains-append_cases, Contains-push_cases}
use Rattle.std.specs.FinMap as fin
use Rattle.vault_types.specs.declared.Name.{Name}
use Rattle.vault_types.specs.Tables.{Container}
use Rattle.vault_types.specs.State.{State, KeptVersion, floor_of, version_of}
use Rattle.vault_types.specs.Shelf.{Blobs, with_blob, table_name, payload_name, recipe_name, floor_name, HasContainer, IsFloorBlob, IsRecipeBlob, Stands}
use Rattle.vault_types.specs.Events.{Core, Change, Job, put_by, put_in, pinned_containers, IsContainerName, IsNeeded, Held, IsNear}
use Rattle.vault_traits.specs.Crash.{History, LeavesNowIfTold, LeavesOnlyIfTold}
use Rattle.vault_traits.specs.Shelf.{blobs_with, history_with, MayBeWritten}
use Rattle.vault_traits.proofs.Maps.{get_other, get_is, written_or_other, with_blob_comm}
use Rattle.vault_traits.proofs.Moments.{may_write, writes, then, ends}
use Rattle.vault_types.specs.Blobs.{table_bytes}
use Rattle.vault_traits.specs.Writes.{AreWritten, MayBeWrittenInTurn}
use Rattle.state_laws.specs.Parts.{IsFree, IsIdle, IsSpare, HeldIfTold, with_strays}

-- what a state needs

pub needs_container : (S : State) (more : List Container) (n : Name) → IsContainerName S.containers n → IsNeeded S more n
needs_container S more n is = inl (record { container = is.container; among = Contains-append_left S.containers more is.container is.among; is = is.is })

pub needs_pinned : (S : State) (more : List Container) (n : Name) → IsContainerName more n → IsNeeded S more n
needs_pinned S more n is = inl (record { container = is.container; among = Contains-append_right S.containers more is.container is.among; is = is.is })

pub needs_recipe : (S : State) (more : List Container) (s v : ℕ) (k : KeptVersion) → s < length S.datasets → version_of S s v ≡ Some k → IsNeeded S more (recipe_name s v)
needs_recipe S more s v k below is = inr (inl (record { set = s; version = v; in_range = below; kept = subst (λ (o : Option KeptVersion). IsSome o) (sym is) refl; is = refl }))

pub needs_floor : (S : State) (more : List Container) (s : ℕ) → s < length S.datasets → IsNeeded S more (floor_name s)
needs_floor S more s below = inr (inr (record { set = s; in_range = below; is = refl }))

pub container_name : (cs : List Container) (c : Container) → Contains cs c → (n : Name) → (n ≡ table_name c.table.id) ⊎ (n ≡ payload_name c.table.id) → IsContainerName cs n
container_name cs c among n is = record { container = c; among = among; is = is }

-- what a state needs alone it needs beside more
pub needs_beside : (S : State) (more : List Container) (n : Name) → IsNeeded S [] n → IsNeeded S more n
needs_beside S more n (inl is) = inl (record { container = is.container; among = ⊎_elim (λ here. Contains-append_left S.containers more is.container here) (λ none. absurd (no_member is.container none)) (Contains-append_cases S.containers [] is.container is.among); is = is.is })
  where
    no_member : (c : Container) → Contains [] c → ⊥
    no_member c h = omega (arith, h.1)
needs_beside S more n (inr is) = inr is

-- a container's blobs stay where neither of its names is written
pub keeps_container : (m : Blobs) (n : Name) (bytes : Option (List ℕ)) (c : Container) → (table_name c.table.id ≢ n) → (payload_name c.table.id ≢ n) → HasContainer m c → HasContainer (with_blob m n bytes) c
keeps_container m n bytes c one two has = record {
  table = get_other m n bytes (table_name c.table.id) one ∙ has.table;
  payload = get_other m n bytes (payload_name c.table.id) two ∙ has.payload;
}

module _ (S : State) (n : Name) (bytes : Option (List ℕ)) (free : IsFree S n bytes) where
  recipes_stay : (m : Blobs) (s v : ℕ) → s < length S.datasets → (o : Option KeptVersion) → version_of S s v ≡ o
      → IfSome o (λ k. IsRecipeBlob S s v k (fin.get m (recipe_name s v))) → IfSome o (λ k. IsRecipeBlob S s v k (fin.get (with_blob m n bytes) (recipe_name s v)))
  recipes_stay m s v below None is here = here
  recipes_stay m s v below (Some k) is here =
      subst (λ (b : Option (List ℕ)). IsRecipeBlob S s v k b)
      (sym (get_other m n bytes (recipe_name s v) (λ same. free.unneeded (subst (λ (q : Name). IsNeeded S [] q) same (needs_recipe S [] s v k below is)))))
      here

  -- a write of a name that the state doesn't need
  pub free_write : (m : Blobs) → Stands m S → Stands (with_blob m n bytes) S
  free_write m stands = record {
    floors = λ s below. subst (λ (b : Option (List ℕ)). IsFloorBlob s (floor_of S s) b)
        (sym (get_other m n bytes (floor_name s) (λ same. free.unneeded (subst (λ (q : Name). IsNeeded S [] q) same (needs_floor S [] s below)))))
        (stands.floors s below);
    recipes = λ s v below. recipes_stay m s v below (version_of S s v) refl (stands.recipes s v below);
    containers = λ c among. keeps_container m n bytes c
        (λ same. free.unneeded (needs_container S [] n (container_name S.containers c among n (inl (sym same)))))
        (λ same. free.unneeded (needs_container S [] n (container_name S.containers c among n (inr (sym same)))))
        (stands.containers c among);
    newest = λ s v below later last. ⊎_elim
        (λ (is : recipe_name s v ≡ n). get_is m n bytes (recipe_name s v) is ∙ free.newest s v below later last is)
        (λ other. other ∙ stands.newest s v below later last)
        (written_or_other m n bytes (recipe_name s v));
  }

-- the same of blobs that stand for one of two states
pub idle_write : (S : State) (other : Option Change) (n : Name) (bytes : Option (List ℕ)) → IsIdle S other n bytes → (c : Blobs) → IsNear S other c → IsNear S other (with_blob c n bytes)
idle_write S other n bytes idle c (inl stands) = inl (free_write S n bytes idle.free c stands)
idle_write S None n bytes idle c (inr none) = absurd none
idle_write S (Some h) n bytes idle c (inr has) = inr (record {
  before = with_blob has.before n bytes;
  stands = free_write S n bytes idle.free has.before has.stands;
  is = ap (λ (b : Blobs). with_blob b n bytes) has.is ∙ with_blob_comm has.before h.name n (Some h.bytes) bytes idle.beside.0;
  other = free_write h.state n bytes idle.beside.1 c has.other;
})

module _ (K : Core) (n : Name) (bytes : Option (List ℕ)) (spare : IsSpare K n bytes) where
  pub held_write : (m : Blobs) → Held m K → Held (with_blob m n bytes) K
  held_write m held = record {
    near = idle_write K.state K.other n bytes spare.idle m held.near;
    containers = λ c among. keeps_container m n bytes c (λ same. apart c among (inl (sym same))) (λ same. apart c among (inr (sym same))) (held.containers c among);
    others = λ q there. ⊎_elim
        (λ (same : q ≡ n). inr (subst (λ (q : Name). Contains K.strays q) (sym same) spare.stray))
        (λ kept. held.others q (subst (λ (b : Option (List ℕ)). IsSome b) kept there))
        (written_or_other m n bytes q);
    apart = held.apart;
  }
    where
      apart : (c : Container) → Contains (pinned_containers K.pins ++ put_by K.job) c → (n ≡ table_name c.table.id) ⊎ (n ≡ payload_name c.table.id) → ⊥
      apart c among is = ⊎_elim
          (λ pinned. held.apart n spare.stray (needs_pinned K.state (pinned_containers K.pins) n (container_name (pinned_containers K.pins) c pinned n is)))
          (λ put. spare.not_put (container_name (put_by K.job) c put n is))
          (Contains-append_cases (pinned_containers K.pins) (put_by K.job) c among)

  pub held_may_write : {before after : Option Blobs} {past now : Option History} → MayBeWritten before after past now n bytes → HeldIfTold before K → HeldIfTold after K
  held_may_write {before} {after} may here = ⊎_elim
      (λ same. subst (λ (t : Option Blobs). HeldIfTold t K) (sym same) here)
      (λ same. subst (λ (t : Option Blobs). HeldIfTold t K) (sym same) (write before here))
      may.blobs
    where
      write : (t : Option Blobs) → HeldIfTold t K → HeldIfTold (blobs_with t n bytes) K
      write None here = here
      write (Some m) here = held_write m here

-- at any moment of a write that neither state sees
pub idle_may_write : (S : State) (other : Option Change) {before after : Option Blobs} {past now : Option History} {n : Name} {bytes : Option (List ℕ)} → MayBeWritten before after past now n bytes → IsIdle S other n bytes → LeavesNowIfTold past (IsNear S other) → LeavesOnlyIfTold past now (IsNear S other)
idle_may_write S other {n = n} {bytes = bytes} may idle here = may_write (IsNear S other) may here (idle_write S other n bytes idle)

-- strays come and go

-- more strays, none of them needed
pub held_more : (K : Core) (strays : List Name) (m : Blobs) → ((n : Name) → Contains K.strays n → Contains strays n) → ((n : Name) → Contains strays n → IsNeeded K.state (pinned_containers K.pins) n → ⊥) → Held m K → Held m (with_strays strays K)
held_more K strays m more apart held = record {
  near = held.near;
  containers = held.containers;
  others = λ q there. ⊎_elim (λ needed. inl needed) (λ stray. inr (more q stray)) (held.others q there);
  apart = apart;
}

-- fewer strays, where those that go are absent
pub held_fewer : (K : Core) (strays : List Name) (m : Blobs) → ((n : Name) → Contains strays n → Contains K.strays n) → ((n : Name) → Contains K.strays n → Contains strays n ⊎ (fin.get m n ≡ None)) → Held m K → Held m (with_strays strays K)
held_fewer K strays m within gone held = record {
  near = held.near;
  containers = held.containers;
  others = λ q there. ⊎_elim
      (λ needed. inl needed)
      (λ stray. ⊎_elim (λ still. inr still) (λ none. absurd (not_there q none there)) (gone q stray))
      (held.others q there);
  apart = λ q stray. held.apart q (within q stray);
}
  where
    not_there : (q : Name) → fin.get m q ≡ None → IsSome (fin.get m q) → ⊥
    not_there q none some = no_none (subst (λ (b : Option (List ℕ)). IsSome b) none some)
      where
        no_none : IsSome {T = List ℕ} None → ⊥
        no_none h = cc

-- the job has one container more, whose blobs are there
pub held_put : (K : Core) (job : Job) (c : Container) (m : Blobs) → K.job ≡ Some job → HasContainer m c → Held m K
    → Held m (record { state = K.state; other = K.other; pins = K.pins; strays = K.strays; job = Some (put_in c job); pending = K.pending })
held_put K job c m open_job has held = record {
  near = held.near;
  containers = λ d among. ⊎_elim
      (λ pinned. held.containers d (Contains-append_left (pinned_containers K.pins) (put_by K.job) d pinned))
      (λ put. ⊎_elim
      (λ before. held.containers d (Contains-append_right (pinned_containers K.pins) (put_by K.job) d (subst (λ (j : Option Job). Contains (put_by j) d) (sym open_job) before)))
      (λ same. subst (λ (e : Container). HasContainer m e) same has)
      (Contains-push_cases job.containers c d put))
      (Contains-append_cases (pinned_containers K.pins) (job.containers ++ c ∷ []) d among);
  others = held.others;
  apart = held.apart;
}

-- two puts in turn: the payload and then the table

module _ (c : Container) (payload : List ℕ) (is : c.payload ≡ Some payload) (before after : Option Blobs) (past now : Option History) where
  pub put_there : {T E : Type 0} (r : Result T E) → OnOk r (AreWritten before after past now (payload_name c.table.id) (Some payload) (table_name c.table.id) (Some (table_bytes c.table)))
      → OnOk r (IfSome after (λ m. HasContainer m c))
  put_there (Ok x) done = subst (λ (t : Option Blobs). IfSome t (λ m. HasContainer m c)) (sym done.blobs) (both before)
    where
      both : (t : Option Blobs) → IfSome (blobs_with (blobs_with t (payload_name c.table.id) (Some payload)) (table_name c.table.id) (Some (table_bytes c.table))) (λ m. HasContainer m c)
      both None = tt
      both (Some m) = record {
        table = get_is (with_blob m (payload_name c.table.id) (Some payload)) (table_name c.table.id) (Some (table_bytes c.table)) (table_name c.table.id) refl;
        payload = get_other (with_blob m (payload_name c.table.id) (Some payload)) (table_name c.table.id) (Some (table_bytes c.table)) (payload_name c.table.id) payload_no_table
            ∙ (get_is m (payload_name c.table.id) (Some payload) (payload_name c.table.id) refl ∙ sym is);
      }
        where
          payload_no_table : payload_name c.table.id ≢ table_name c.table.id
          payload_no_table same = let kinds = ap (λ (n : Name). n.kind) same in cc
  put_there (Err e) done = tt

  module _ (K : Core) (one : IsSpare K (payload_name c.table.id) c.payload) (two : IsSpare K (table_name c.table.id) (Some (table_bytes c.table))) where
    one_is : IsSpare K (payload_name c.table.id) (Some payload)
    one_is = subst (λ (b : Option (List ℕ)). IsSpare K (payload_name c.table.id) b) is one

    pub put_held : MayBeWrittenInTurn before after past now (payload_name c.table.id) (Some payload) (table_name c.table.id) (Some (table_bytes c.table)) → HeldIfTold before K → HeldIfTold after K
    put_held may held = ⊎_elim
        (λ first. held_may_write K _ _ one_is first held)
        (λ second. held_may_write K _ _ two second (held_blobs before held))
        may
      where
        held_blobs : (t : Option Blobs) → HeldIfTold t K → HeldIfTold (blobs_with t (payload_name c.table.id) (Some payload)) K
        held_blobs None here = here
        held_blobs (Some m) here = held_write K _ _ one_is m here

    pub put_moment : MayBeWrittenInTurn before after past now (payload_name c.table.id) (Some payload) (table_name c.table.id) (Some (table_bytes c.table))
        → LeavesNowIfTold past (IsNear K.state K.other) → LeavesOnlyIfTold past now (IsNear K.state K.other)
    put_moment may here = ⊎_elim
        (λ first. idle_may_write K.state K.other first one_is.idle here)
        (λ second.
        let wrote = writes (IsNear K.state K.other) past (history_with past (payload_name c.table.id) (Some payload)) (payload_name c.table.id) (Some payload) refl here (idle_write K.state K.other (payload_name c.table.id) (Some payload) one_is.idle) in
        then (IsNear K.state K.other) _ _ _ wrote (idle_may_write K.state K.other second two.idle (ends (IsNear K.state K.other) _ _ wrote)))
        may
