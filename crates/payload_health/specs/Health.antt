-- How the payload of a container is, by its table.
use Rattle.std.specs.Prelude.{◌↔◌, ℕ, ◌+◌, Bool, true, false, not, IsTrue, List, [], ◌∷◌, take, drop, length, ◌==◌, Option, Some, None, IsSomeAnd, if◌then◌else◌}
use Rattle.vault_types.specs.declared.TableRow.{TableRow}
use Rattle.vault_types.specs.declared.Table.{Table}
use Rattle.vault_types.specs.Names.{fp, same_fp}
use Rattle.vault_types.specs.Tables.{payload_len, IsWhole}
use Rattle.payload_health.specs.declared.Health.{Health}
use Rattle.payload_health.specs.declared.Health.TheVariants.{Good, Absent, Length, Sum, Chunk}

-- the first chunk that has another SHA-1 than its row says, where the rows are numbered from i on
abbrev pub first_bad : ℕ → List TableRow → List ℕ → Health
first_bad i [] payload = Good
first_bad i (r ∷ rows) payload =
    if same_fp (fp (take r.len payload)) r.fp then first_bad (i + 1) rows (drop r.len payload)
    else Chunk i r.fp (fp (take r.len payload))

-- the first of these that applies: absent, another length, another sum, a bad chunk, good
abbrev pub health_of : Table → Option (List ℕ) → Health
health_of t None = Absent
health_of t (Some bytes) =
    if not (length bytes == payload_len t.rows) then Length (payload_len t.rows) (length bytes)
    else if not (same_fp (fp bytes) t.payload_sum) then Sum t.payload_sum (fp bytes)
    else first_bad 0 t.rows bytes

abbrev pub is_good : Health → Bool
is_good Good = true
is_good other = false

-- good is exactly what is there and whole
abbrev pub IsGoodWhereWhole : Table → Option (List ℕ) → Type 0
IsGoodWhereWhole t payload = IsTrue (is_good (health_of t payload)) ↔ IsSomeAnd payload (IsWhole t)
