-- What a keeper without a job and pins says of its shelf.
use Rattle.std.specs.Prelude.{ℕ, Option, IfSome, IsSomeAnd}
use Rattle.vault_types.specs.State.{State, IsValid}
use Rattle.vault_types.specs.Events.{Change, IsChange, IsNear}
use Rattle.vault_traits.specs.Told.{ShelfTold}

-- the blobs stand for the valid state S, or for it with the change that a failed write may have
-- made, which is valid too
pub record IsKept (shelf : ShelfTold) (S : State) (other : Option Change) : Type 0 where
  pub blobs : IsSomeAnd shelf.blobs (IsNear S other)
  pub valid : IsValid S
  pub change : IfSome other (λ h. (s : ℕ) × IsChange S s h)
  pub changed : IfSome other (λ h. IsValid h.state)
