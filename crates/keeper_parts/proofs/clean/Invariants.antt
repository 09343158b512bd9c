use Rattle.std.proofs.Common.{◌≡◌, ◌≤◌, ◌<◌, ◌+◌, ◌-◌, ◌^◌, length, vec_len, vec_capacity}
use Rattle.std.specs.Prelude.{Contains}
use Rattle.vault_types.specs.declared.Name.{Name}
use Rattle.vault_types.specs.Events.{Core, IsNear}
use Rattle.vault_traits.specs.Crash.{LeavesNowIfTold, LeavesOnlyIfTold}
use Rattle.state_laws.specs.Parts.{HeldIfTold, with_strays, CanClean}
use Rattle.keeper_parts.proofs.clean.Given as goal

abbrev pub decreases-loop-left : goal.decreases-loop-left
decreases-loop-left g l = l.left

abbrev pub invariant-loop-left : goal.invariant-loop-left
invariant-loop-left g l =
    let s = g.S.Shelf in
    record {
      below : l.left ≤ vec_len l.strays;
      held : (K : Core) → K.strays ≡ l.fn.strays.items → CanClean K → HeldIfTold ((s.told l.fn.shelf).blobs) K → HeldIfTold ((s.told l.shelf).blobs) (with_strays l.strays.items K);
      any_moment : (K : Core) → K.strays ≡ l.fn.strays.items → CanClean K → LeavesNowIfTold ((s.told l.fn.shelf).history) (IsNear K.state K.other) → LeavesOnlyIfTold ((s.told l.fn.shelf).history) ((s.told l.shelf).history) (IsNear K.state K.other);
      within : (n : Name) → Contains l.strays.items n → Contains l.fn.strays.items n;
      few : (s.told l.shelf).faults < 2 ^ 64 - 1 → length l.strays.items + (s.told l.fn.shelf).faults ≤ (s.told l.shelf).faults + l.left;
      room : vec_capacity l.strays ≡ vec_capacity l.fn.strays;
      gets : (s.told l.shelf).gets ≡ (s.told l.fn.shelf).gets;
      later : (s.told l.fn.shelf).faults ≤ (s.told l.shelf).faults;
    }
