use Rattle.std.proofs.Common.{◌≡◌, ◌<◌, [], ℕ, ap, arith, length, sym, subst, rules}
use Rattle.std.specs.Bool.{IsTrue}
use lib.Dec.{ltb}
use Rattle.vault_ports.specs.Record.{Record}
use Rattle.vault_ports.proofs.Recorded.{length-steps}
use Rattle.vault_ports.proofs.crash_shelf.CrashShelf.has_room.Goals as goal

pub returns : goal.returns
returns c =
    let len : length c.args.self.now.steps ≡ c.len.result = omega (arith, length-steps c.self.inside.start.blobs [] c.self.inside.entries.items, ap (λ (r : Record). length r.steps) c.self.view_is, c.len.ensures) in
    subst (λ (n : ℕ). (IsTrue (ltb c.len.result 1024) → n < 1024) × (n < 1024 → IsTrue (ltb c.len.result 1024))) (sym len) (search rules)
