-- What a store has in memory that was just opened.
use Rattle.std.specs.Prelude.{ℕ, List, map, Contains, Option, IsSome, IfSome}
use Rattle.std.specs.FinMap as fin
use Rattle.vault_types.specs.declared.Fp.{Fp}
use Rattle.vault_types.specs.declared.Name.{Name}
use Rattle.vault_types.specs.State.{State, IsValid}
use Rattle.vault_types.specs.Shelf.{Blobs}
use Rattle.fp_index.specs.Index.{IsIndexOf}
use Rattle.state_laws.specs.Parts.{HeldIfTold}
use Rattle.keeper_catalog.specs.declared.Catalog.{Catalog}
use Rattle.keeper_catalog.specs.Catalog.{memo_of, IsMemoOf, HasRoom}
use Rattle.vault_types.specs.FirstDamage.{Opens}
use Rattle.keeper_catalog.specs.View.{opened_core}

-- the catalog and the index are those of the state, as which the blobs open, where they are told;
-- the strays are on the shelf, and the lists have the room that later calls need
pub record IsStoreOpened (told : Option Blobs) (T : State) (catalog : Catalog)
    (found : List (Fp × List ℕ)) : Type 0 where
  pub valid : IsValid T
  pub opens : IfSome told (λ m. Opens m T)
  pub held : HeldIfTold told (opened_core T catalog.strays.items)
  pub memo : IsMemoOf (memo_of catalog) (opened_core T catalog.strays.items)
  pub index : IsIndexOf found (map (λ c. c.table) T.containers)
  pub strays : IfSome told (λ m. (n : Name) → Contains catalog.strays.items n → IsSome (fin.get m n))
  pub room : HasRoom (memo_of catalog)
