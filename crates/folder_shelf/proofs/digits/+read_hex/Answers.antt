use Rattle.std.proofs.Common.{length, arith}
use Rattle.folder_shelf.proofs.HexTexts.{within, is_read}
use Rattle.folder_shelf.proofs.digits.+read_hex.Goals as goal

pub overflow_mul-result : goal.overflow_mul-result
overflow_mul-result t c = let h = within (length c.in-Some.before.now) c.in_ok-high.high c.in_ok-high.ensures.small (omega (arith, c.in-Some.ensures.cases.1, c.requires)) in omega (arith, h)

pub overflow_add-result : goal.overflow_add-result
overflow_add-result t c = let h = within (length c.in-Some.before.now) c.in_ok-high.high c.in_ok-high.ensures.small (omega (arith, c.in-Some.ensures.cases.1, c.requires)) in omega (arith, h, c.from.ensures, c.in_ok-low.ensures.value)

pub returns-clause-found : goal.returns-clause-found
returns-clause-found t c = is_read c.args.text.now c.in-Some.before.now c.in-Some.last.now c.in_ok-high.high c.from.result c.in-Some.ensures.cases.0 c.in-Some.ensures.cases.1 (omega (arith, c.from.ensures, c.in_ok-low.ensures.value)) c.in_ok-high.ensures.small c.in_ok-high.ensures.found (rw (← c.from.ensures) at c.in_ok-low.ensures.found)
