use Rattle.std.proofs.Common.{◌≡◌, ◌≤◌, Some, ℕ, ◌+◌, ◌-◌, length, List, take, drop, sym, ◌∙◌, ap, arith}
use Rattle.vault_ports.specs.Streams.{Giving}
use Rattle.vault_ports.proofs.Pieces.{next_piece}
use Rattle.vault_ports.proofs.sources.MemSourceSource.read.Goals as goal

pub returns-clause-given : goal.returns-clause-given
returns-clause-given c =
    let same : c.as_slice-rest.result.now ≡ c.self.inside.bytes.items = c.as_slice-rest.ensures.value in
    let within : c.self.inside.at + c.min-n.result ≤ length c.self.inside.bytes.items = omega (arith, c.self.invariant.1, c.min-n.ensures, c.min.ensures, ap length same) in
    let many : (c.self.inside.at + c.min-n.result) - c.self.inside.at ≡ c.min-n.result = omega arith in
    let piece : c.copy_from_slice.new.self ≡ take c.min-n.result (drop c.self.inside.at c.self.inside.bytes.items) =
    c.copy_from_slice.ensures.after ∙ ap (λ (k : ℕ). take k (drop c.self.inside.at c.as_slice-rest.result.now)) many ∙ ap (λ (x : List ℕ). take c.min-n.result (drop c.self.inside.at x)) same in
    ap (λ (x : List ℕ). Some x) (ap (λ (g : Giving). g.left) (sym c.self.view_is) ∙ next_piece c.self.inside.bytes.items c.args.buf.now c.copy_from_slice.new.self c.self.inside.at c.min-n.result within piece)
