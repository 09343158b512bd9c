use Rattle.std.proofs.Common.{◌≡◌, take}
use Rattle.std.specs.List.{list_any}
use Rattle.vault_types.specs.declared.Fp.{Fp}
use Rattle.vault_types.specs.Names.{same_fp}
use Rattle.sampled_index.proofs.tables.fps_of.Given as goal

abbrev pub invariant-loop-row : goal.invariant-loop-row
invariant-loop-row l =
    (f : Fp) → list_any (same_fp f) l.fps.keys ≡ list_any (λ r. same_fp r.fp f) (take l.row-index l.rows)
