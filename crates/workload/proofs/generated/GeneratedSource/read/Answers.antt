use Rattle.std.proofs.Common.{◌∙◌, ◌≤◌, Some, ℕ, List, length, take, drop, sym, ap, arith}
use Rattle.std.proofs.lemmas.List.{length-take-le}
use Rattle.workload.specs.Numbers.{blocks_left}
use Rattle.workload.proofs.Counting.{zeros_read}
use Rattle.workload.proofs.generated.GeneratedSource.read.Goals as goal

pub returns-then-self-gt0-clause-given : goal.returns-then-self-gt0-clause-given
returns-then-self-gt0-clause-given c =
    let n = c.min-n.result in
    let within : c.min-n.result ≤ length c.args.buf.now = omega arith in
    let some : c.min-n.result ≤ c.self.inside.zeros = omega arith in
    ap (λ (x : List ℕ). Some x) (sym c.self.view_is ∙ zeros_read c.self.inside.zeros n (length (take n c.args.buf.now)) c.clear.new.buf (drop n c.args.buf.now) (blocks_left c.self.inside.blocks) some (length-take-le n c.args.buf.now within) c.clear.ensures)
