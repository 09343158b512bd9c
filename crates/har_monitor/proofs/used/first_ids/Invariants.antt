use Rattle.std.proofs.Common.{◌≡◌, ◌+◌, ◌*◌, map, take, drop}
use Rattle.vault_types.specs.Lists.{fitting}
use Rattle.har_monitor.proofs.used.first_ids.Given as goal

abbrev pub invariant-loop-one : goal.invariant-loop-one
invariant-loop-one l = record {
  picked : l.ids.items ≡ map (λ u. u.id) (take l.one-index l.used);
  more : fitting (λ u. u.referenced * 100) l.room l.used ≡ l.one-index + fitting (λ u. u.referenced * 100) l.left (drop l.one-index l.used);
}
