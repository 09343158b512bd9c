use Rattle.std.proofs.Common.{rules}
use Rattle.std.specs.Prelude.{not, nat_lt}
use Rattle.std.proofs.lemmas.Map.Made.{filter_same_pairs}
use Rattle.marker_gc.proofs.map.drop_below.Goals as goal

pub returns-clause-kept : goal.returns-clause-kept
returns-clause-kept c = filter_same_pairs _ (λ e. not (nat_lt e.1 c.args.floor)) _ (λ k v b w f' t. search rules) _ _ c.retain.ensures.filtered
