-- The first run of some rows.
use Rattle.std.specs.Prelude.{ℕ, suc, List, [], ◌∷◌, ◌==◌, if◌then◌else◌}
use Rattle.vault_types.specs.declared.Row.{Row}
use Rattle.vault_types.specs.Blobs.{Run}

-- how many rows at the front have this container
abbrev pub front_len : ℕ → List Row → ℕ
front_len id [] = 0
front_len id (r ∷ rows) = if r.id == id then suc (front_len id rows) else 0

abbrev pub run_seen : ℕ → List Row → Run
run_seen id rows = record { id = id; rows = rows }
