use Rattle.std.proofs.Common.{◌≡◌, map, take}
use Rattle.vault_types.specs.Events.{Core}
use Rattle.keeper_catalog.specs.View.{Keeps}
use Rattle.backup_jobs.specs.Going.{len_at}
use Rattle.backup_jobs.proofs.sparse.payloads_of.Given as goal

abbrev pub invariant-loop-id : goal.invariant-loop-id
invariant-loop-id g l = (K : Core) → Keeps l.keeper K → l.payloads.items ≡ map (λ c. (c, len_at K.state.containers l.first l.lens c)) (take l.id-index l.ids)
