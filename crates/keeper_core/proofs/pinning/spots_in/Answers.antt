use Rattle.std.proofs.Common.{◌≡◌, false, inl, subst, ℕ}
use Rattle.std.specs.Prelude.{IsSomeAnd, slice_get}
use Rattle.vault_types.specs.Lists.{has}
use Rattle.vault_types.specs.Marks.{marked_ids}
use Rattle.keeper_core.specs.Calls.{IsUnplaced}
use Rattle.keeper_core.proofs.Pinnings.{some_weaker, same_row}
use Rattle.keeper_core.proofs.pinning.spots_in.Goals as goal

pub returns-in-Some-clause-bad : goal.returns-in-Some-clause-bad
returns-in-Some-clause-bad c i same marks are =
    subst (λ (n : ℕ). IsSomeAnd (slice_get c.args.rows.now n) (IsUnplaced c.args.catalog.now.tables.entries marks)) (same_row c.in-Some.row i same)
    (some_weaker (λ r. has r.id (marked_ids marks) ≡ false) (IsUnplaced c.args.catalog.now.tables.entries marks) (slice_get c.args.rows.now c.in-Some.row) (λ r h. inl h) (c.in-Some.ensures.some marks are))
