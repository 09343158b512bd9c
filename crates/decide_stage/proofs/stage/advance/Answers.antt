use Rattle.std.proofs.Common.{◌≡◌, ◌++◌, true, false, rules, ap}
use Rattle.decide_stage.specs.Deciding.{chunk_of, last_in}
use Rattle.segment_gather.specs.Segmented.{parts_of}
use Rattle.decide_stage.proofs.Judged.{judged_next, drops}
use Rattle.decide_stage.proofs.stage.advance.Goals as goal

pub returns-clause-judged : goal.returns-clause-judged
returns-clause-judged c index r chunks h = let on : c.args.goes.now ≡ true = search rules in let t = c.judge-given.result in
    judged_next index r c.args.limit chunks (chunks ++ chunk_of c.args.item) (last_in c.args.item) c.args.goes.now c.is_open.result c.args.gatherer.now c.judge-given.new.gatherer c.args.count.now c.judge-given.new.count c.args.dealer.now c.give.new.self c.args.holder.now.raised c.raise_for.new.holder.raised
    t.parts.items t.last t.own h on c.give.ensures.dealt (c.judge-given.ensures.judged r chunks (parts_of h.gone)) c.judge-given.ensures.own c.judge-given.ensures.index c.is_open.ensures (ap (λ q. q.raised) c.raise_for.ensures)

pub returns-then-not-goes-clause-judged : goal.returns-then-not-goes-clause-judged
returns-then-not-goes-clause-judged c index r chunks h = let off : c.args.goes.now ≡ false = search rules in
    drops index r c.args.limit chunks c.args.item c.args.goes.now c.args.gatherer.now c.args.count.now c.args.dealer.now c.args.holder.now.raised off h
