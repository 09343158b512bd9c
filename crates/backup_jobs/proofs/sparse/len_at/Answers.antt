use Rattle.std.proofs.Common.{sym, ap, ◌∙◌}
use Rattle.std.specs.Prelude.{unwrap_or}
use Rattle.backup_jobs.specs.Going.{own_len}
use Rattle.backup_jobs.proofs.sparse.len_at.Goals as goal

pub returns-in-Some : goal.returns-in-Some
returns-in-Some g c K keeps = ap (λ o. unwrap_or o (own_len c.args.first c.args.lens.now c.args.id)) (sym c.in-Some.is ∙ c.payload_len.ensures K keeps)
