-- The tables that were used last, as they are kept.
use Rattle.std.specs.Prelude.{ℕ, if◌then◌else◌, List, [], ◌∷◌, Option, Some, None}
use Rattle.std.specs.List.{list_any}
use Rattle.vault_types.specs.declared.Fp.{Fp}
use Rattle.vault_types.specs.Names.{same_fp}

-- the first of these containers whose fingerprints have this one
abbrev pub first_holding : Fp → List (ℕ × List Fp) → Option ℕ
first_holding f [] = None
first_holding f (e ∷ es) = if list_any (same_fp f) e.1 then Some e.0 else first_holding f es
