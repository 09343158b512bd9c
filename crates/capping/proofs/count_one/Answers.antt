use Rattle.std.proofs.Common.{◌≡◌, ◌≤◌, length, unwrap_or, ap, ◌∙◌, arith}
use Rattle.std.specs.Prelude.{nat_eq}
use Rattle.std.specs.Map.{lookup}
use Rattle.vault_types.specs.Capping.{times}
use Rattle.capping.proofs.Counting.{counted-more, found-count, times-le}
use Rattle.capping.proofs.count_one.Goals as goal

pub returns : goal.returns
returns c = λ ids h small.
    let found : unwrap_or (lookup (nat_eq c.args.id) c.args.times.now.entries) 0 ≡ times ids c.args.id = ap (λ o. unwrap_or o 0) (h.each c.args.id) ∙ found-count c.args.id ids in
    let most : times ids c.args.id ≤ length ids = times-le c.args.id ids in
    let before : c.unwrap_or-before.result ≡ unwrap_or (lookup (nat_eq c.args.id) c.args.times.now.entries) 0 = cc in
    counted-more c.args.times.now.entries c.insert.new.self.entries ids c.args.id c.saturating_add.result h c.in_ok-insert.ensures.unique
    c.in_ok-insert.ensures.updates.0
    (omega arith)
