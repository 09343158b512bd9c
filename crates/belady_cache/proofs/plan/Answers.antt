use Rattle.std.proofs.Common.{rules, arith, ◌≡◌, ℕ, ◌+◌, ◌<◌, not, drop, length, slice_index, refl, ap, ◌∙◌}
use Rattle.std.proofs.lemmas.List.{get_or_default}
use Rattle.vault_types.specs.Plans.{next_use}
use Rattle.belady_cache.specs.declared.present.Held.{Held}
use Rattle.belady_cache.specs.Present.{is_present}
use Rattle.belady_cache.proofs.Counts.{one_if, one_if_yes, one_if_no}
use Rattle.belady_cache.proofs.Uses.{length-next_uses_from, next_uses_at}
use Rattle.belady_cache.proofs.Planner.{underway_more, underway_end, serves_end, least_end}
use Rattle.belady_cache.proofs.plan.Goals as goal
use Rattle.belady_cache.proofs.plan.Goals.{then-branch, else-branch}

pub index-requires : goal.index-requires
index-requires c =
    let long : length c.in_ok-next.next.items ≡ length c.args.reqs.now = ap length c.in_ok-next.ensures ∙ length-next_uses_from 0 c.args.reqs.now in
    search (rules, long)

pub loop-i-preserved : goal.loop-i-preserved
loop-i-preserved c =
    let i : ℕ = c.loop-i.i in
    let r : ℕ = slice_index c.args.reqs.now i in
    let n : ℕ = c.index.result.now in
    let new : Held = record { id = r; next = n } in
    let within : i < length c.in_ok-next.next.items = omega (arith, c.loop-i-test.true, ap length c.in_ok-next.ensures, length-next_uses_from 0 c.args.reqs.now) in
    let next : n ≡ i + 1 + next_use (drop (i + 1) c.args.reqs.now) r =
    c.index.ensures ∙ get_or_default c.in_ok-next.next.items i n 0 within ∙ ap (λ xs. slice_index xs i) c.in_ok-next.ensures ∙ next_uses_at c.args.reqs.now i c.loop-i-test.true in
    let among : c.in_ok-serve.field-0 ≡ not (is_present r c.loop-i.present.items) = c.in_ok-serve.ensures.loaded in
    let counts : c.if-branch.loads ≡ c.loop-i.loads + one_if c.in_ok-serve.field-0 =
    elim c.if-branch.branch [
      | then-branch w ↦ omega (arith, w.loads-is, one_if_yes _ w.if-branch.true)
      | else-branch w ↦ omega (arith, w.loads-is, one_if_no _ w.if-branch.false)
    ] in
    underway_more c.args.slots c.args.reqs.now i new c.loop-i.present.items c.serve.new.present.items c.loop-i.steps.items c.serve.new.steps.items c.loop-i.loads c.if-branch.loads
    c.requires.some c.loop-i-test.true refl next c.in_ok-serve.ensures.present c.in_ok-serve.ensures.steps (counts ∙ ap (λ b. c.loop-i.loads + one_if b) among) c.loop-i.invariant

pub returns-clause-serves : goal.returns-clause-serves
returns-clause-serves c =
    serves_end c.args.slots c.args.reqs.now c.from_vec.result c.requires.some
    (c.from_vec.ensures ∙ underway_end c.args.slots c.args.reqs.now c.loop-i.i c.loop-i.present.items c.loop-i.steps.items c.loop-i.loads (omega arith) c.loop-i.invariant)

pub returns-clause-least : goal.returns-clause-least
returns-clause-least c =
    least_end c.args.slots c.args.reqs.now c.loop-i.steps.items c.loop-i.loads c.requires.some c.loop-i.invariant.counted
    (underway_end c.args.slots c.args.reqs.now c.loop-i.i c.loop-i.present.items c.loop-i.steps.items c.loop-i.loads (omega arith) c.loop-i.invariant)
