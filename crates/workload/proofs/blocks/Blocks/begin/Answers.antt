use Rattle.std.proofs.Common.{◌≡◌, ◌∙◌, ◌≤◌, ◌+◌, ℕ, ap, sym, arith}
use Rattle.workload.specs.Numbers.{bytes_left}
use Rattle.workload.proofs.Counting.{begun, all_read}
use Rattle.workload.proofs.blocks.Blocks.begin.Goals as goal
use Rattle.workload.proofs.blocks.Blocks.begin.Goals.{else-self-eq0-via-then-self-eq0+else-self-lt64, else-self-eq0-via-else-self-eq0}

pub returns-then-self-lt64-clause-same : goal.returns-then-self-lt64-clause-same
returns-then-self-lt64-clause-same c =
    let s = c.args.self.now in
    let none : s.left ≡ 0 = omega arith in
    ap (λ (k : ℕ). bytes_left s.seed s.version (s.next + 1) 131072 k) c.start-self.ensures
    ∙ begun s.seed s.version s.next s.number (omega arith)
    ∙ ap (λ (k : ℕ). bytes_left s.seed s.version s.next k s.number) (sym none)

pub returns-else-self-eq0-clause-end : goal.returns-else-self-eq0-clause-end
returns-else-self-eq0-clause-end c none =
    let s = c.args.self.now in
    elim c.else-self-eq0.branch [
      | else-self-eq0-via-then-self-eq0+else-self-lt64 w ↦
          let past : 64 ≤ s.next = omega arith in
          ap (λ (k : ℕ). bytes_left s.seed s.version s.next k s.number) none ∙ all_read s.seed s.version s.next s.number past
      | else-self-eq0-via-else-self-eq0 w ↦ absurd (omega arith)
    ]
