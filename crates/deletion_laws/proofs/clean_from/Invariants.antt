use Rattle.std.proofs.Common.{◌≡◌, ◌≤◌, ◌<◌, ◌+◌, ◌-◌, ◌^◌, length, take, drop, None, vec_len, vec_capacity}
use Rattle.std.specs.Prelude.{Contains, IsSome}
use Rattle.vault_types.specs.declared.Name.{Name}
use Rattle.vault_types.specs.Shelf.{blob_at}
use Rattle.vault_types.specs.Events.{Core, IsNear}
use Rattle.vault_traits.specs.Crash.{LeavesNowIfTold, LeavesOnlyIfTold}
use Rattle.state_laws.specs.Parts.{HeldIfTold, with_strays}
use Rattle.deletion_laws.specs.Removal.{AreIdle}
use Rattle.deletion_laws.proofs.clean_from.Given as goal

abbrev pub decreases-loop-left : goal.decreases-loop-left
decreases-loop-left g l = l.left

abbrev pub invariant-loop-left : goal.invariant-loop-left
invariant-loop-left g l =
    let s = g.S.Shelf in
    record {
      low : l.fn.start ≤ l.left;
      below : l.left ≤ vec_len l.strays;
      held : (K : Core) → K.strays ≡ l.fn.strays.items → (IsSome (s.told l.fn.shelf).blobs → AreIdle K (drop l.fn.start l.fn.strays.items)) → HeldIfTold ((s.told l.fn.shelf).blobs) K → HeldIfTold ((s.told l.shelf).blobs) (with_strays l.strays.items K);
      any_moment : (K : Core) → K.strays ≡ l.fn.strays.items → (IsSome (s.told l.fn.shelf).blobs → AreIdle K (drop l.fn.start l.fn.strays.items)) → LeavesNowIfTold ((s.told l.fn.shelf).history) (IsNear K.state K.other) → LeavesOnlyIfTold ((s.told l.fn.shelf).history) ((s.told l.shelf).history) (IsNear K.state K.other);
      others : (n : Name) → (Contains (drop l.fn.start l.fn.strays.items) n → ⊥) → blob_at ((s.told l.shelf).blobs) n ≡ blob_at ((s.told l.fn.shelf).blobs) n;
      within : (n : Name) → Contains l.strays.items n → Contains l.fn.strays.items n;
      behind : (n : Name) → Contains (drop l.fn.start l.strays.items) n → Contains (drop l.fn.start l.fn.strays.items) n;
      front : take l.fn.start l.strays.items ≡ take l.fn.start l.fn.strays.items;
      fewer : length l.strays.items ≤ length l.fn.strays.items;
      few : (s.told l.shelf).faults < 2 ^ 64 - 1 → length l.strays.items + (s.told l.fn.shelf).faults ≤ (s.told l.shelf).faults + l.left;
      tells : IsSome (s.told l.fn.shelf).blobs → IsSome (s.told l.shelf).blobs;
      quiet : (s.told l.fn.shelf).blobs ≡ None → (s.told l.shelf).blobs ≡ None;
      quiet_past : (s.told l.fn.shelf).history ≡ None → (s.told l.shelf).history ≡ None;
      room : vec_capacity l.strays ≡ vec_capacity l.fn.strays;
      gets : (s.told l.shelf).gets ≡ (s.told l.fn.shelf).gets;
      later : (s.told l.fn.shelf).faults ≤ (s.told l.shelf).faults;
    }
