use Rattle.std.proofs.Common.{◌≡◌, ◌∙◌, ◌≤◌, length, take, drop, sym, arith}
use Rattle.std.proofs.lemmas.List.{length-take-le}
use Rattle.workload.proofs.Counting.{piece_read}
use Rattle.workload.proofs.blocks.Blocks.read.Goals as goal

pub returns-clause-given : goal.returns-clause-given
returns-clause-given c =
    let s = c.begin.new.self in
    let n = c.min-n.result in
    let within : c.min-n.result ≤ length c.args.buf.now = omega arith in
    let many : length (take n c.args.buf.now) ≡ n = length-take-le n c.args.buf.now within in
    let some : c.min-n.result ≤ c.begin.new.self.left = omega arith in
    sym c.begin.ensures.same
    ∙ piece_read s.seed s.version s.next s.left s.number n (length (take n c.args.buf.now)) c.fill-self.new.buf (drop n c.args.buf.now) c.fill-self.result some many c.fill-self.ensures.len c.fill-self.ensures.bytes c.fill-self.ensures.number
