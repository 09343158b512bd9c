use Rattle.std.proofs.Common.{◌≡◌, ◌∙◌, ◌+◌, ◌-◌, ◌%◌, ℕ, cond, ap, sym, arith}
use Rattle.std.specs.Prelude.{count_by, ◌==◌}
use Rattle.std.specs.List.{range_with_len}
use Rattle.workload.proofs.Counting.{count_one, as_number, at_most_one}
use Rattle.workload.proofs.numbers.generation.Goals as goal

pub loop-earlier-preserved : goal.loop-earlier-preserved
loop-earlier-preserved c =
    let is : c.from-count.result ≡ cond (c.args.block % 16 == c.loop-earlier.earlier % 16) 1 0 = c.from-count.ensures ∙ as_number (c.args.block % 16 == c.loop-earlier.earlier % 16) in
    let few = at_most_one (c.args.block % 16 == c.loop-earlier.earlier % 16) in (
      omega arith,
      ap (λ (k : ℕ). k + c.from-count.result) c.loop-earlier.invariant.1
          ∙ ap (λ (k : ℕ). count_by (λ u. c.args.block % 16 == u % 16) (range_with_len 2 (c.loop-earlier.earlier - 2)) + k) is
          ∙ sym (count_one c.args.block c.loop-earlier.earlier (omega arith)),
    )
