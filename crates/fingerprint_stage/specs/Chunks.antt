-- What the type of a chunk keeps.
use Rattle.std.specs.Prelude.{◌≡◌, ℕ, ◌≤◌, List, length}
use Rattle.vault_types.specs.declared.Fp.{Fp}
use Rattle.vault_types.specs.Names.{fp}

-- these are 1 to 65,536 bytes, and their fingerprint
pub record IsNamed (bytes : List ℕ) (f : Fp) : Type 0 where
  pub some : 1 ≤ length bytes
  pub most : length bytes ≤ 65536
  pub named : f ≡ fp bytes
