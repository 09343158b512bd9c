use Rattle.std.proofs.Common.{refl, arith}
use Rattle.vault_types.specs.declared.Name.{Name}
use Rattle.vault_types.specs.declared.Kind.TheVariants.{Table}
use Rattle.keeper_open.proofs.Searching.{search_ok, search_none, search_at}
use Rattle.keeper_open.proofs.listing.last_listed.Goals as goal

abbrev none : Name
none = record { kind = Table; number = 0 }

pub returns-in-Ok-clause-last : goal.returns-in-Ok-clause-last
returns-in-Ok-clause-last c = λ m listing. search_ok m c.args.names.now listing c.args.set c.binary_search.result c.recipe.result c.recipe.ensures c.binary_search.ensures.bound c.binary_search.ensures.position _ c.in-Ok.is

pub returns-in-Err-eq0-clause-last : goal.returns-in-Err-eq0-clause-last
returns-in-Err-eq0-clause-last c = λ m listing. search_none m c.args.names.now listing c.args.set c.binary_search.result c.recipe.result c.recipe.ensures c.binary_search.ensures.bound c.binary_search.ensures.position _ c.in-Err-eq0.is c.in-Err-eq0.field-0-test

pub returns-in-Err-clause-last : goal.returns-in-Err-clause-last
returns-in-Err-clause-last c = λ m listing. search_at m c.args.names.now listing c.args.set c.binary_search.result c.recipe.result c.recipe.ensures c.binary_search.ensures.bound c.binary_search.ensures.position _ c.in-Err.is _ none (omega (arith, c.in-Err.at-test.1)) refl c.version_in.result c.version_in.ensures.found c.version_in.ensures.none
