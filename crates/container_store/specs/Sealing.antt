-- A container that is ready to be put.
use Rattle.vault_types.specs.declared.Table.{Table}
use Rattle.std.specs.Prelude.{List, ℕ, [], Some, unwrap_or}
use Rattle.vault_types.specs.Tables.{Container, IsTable, IsWhole}

abbrev pub container : Table → List ℕ → Container
container table payload = record { table = table; payload = Some payload }

-- the table has a spelling, and the payload is the chunks that it names
abbrev pub IsSealed : Table → List ℕ → Type 0
IsSealed table payload = IsTable table × IsWhole table payload

abbrev pub payload_of : Container → List ℕ
payload_of c = unwrap_or c.payload []
