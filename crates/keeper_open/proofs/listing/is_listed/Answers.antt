use Rattle.std.proofs.Common.{◌∙◌}
use Rattle.keeper_open.proofs.Searching.{listed_is}
use Rattle.keeper_open.proofs.listing.is_listed.Goals as goal

pub returns : goal.returns
returns c = λ m listing. c.is_ok.ensures.value ∙ listed_is m c.args.names.now listing c.args.name c.binary_search.result c.binary_search.ensures.bound c.binary_search.ensures.position
