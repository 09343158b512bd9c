use Rattle.std.proofs.Common.{◌*◌, map, take, ap, subst, ◌∙◌}
use Rattle.std.specs.List.Sorted.{IsPermutation}
use Rattle.vault_types.specs.Lists.{fitting}
use Rattle.har_monitor.specs.Used.{little_used}
use Rattle.har_monitor.proofs.Ranking.{finished}
use Rattle.har_monitor.proofs.Monitor.finish.Goals as goal

pub returns : goal.returns
returns c = λ seen h.
    finished c.args.self seen c.args.payloads.now c.args.threshold c.args.limit (c.args.limit * c.self.inside.total) c.sort_by_use.new.used.items c.in_ok-list.list.items c.sort_unstable.new.self.items h c.requires.named
    (subst (λ us. IsPermutation us c.sort_by_use.new.used.items) (c.in_ok-used.ensures ∙ ap (λ d. little_used d.sums c.args.payloads.now c.args.threshold) c.self.view_is) c.sort_by_use.ensures.same)
    c.sort_by_use.ensures.sorted
    (ap (λ d. c.args.limit * d.total) c.self.view_is)
    (c.in_ok-list.ensures ∙ ap (λ us. map (λ u. u.id) (take (fitting (λ u. u.referenced * 100) (c.args.limit * c.self.inside.total) us) us)) c.as_slice.ensures.value)
    c.sort_unstable.ensures.permutation
    c.sort_unstable.ensures.sorted
