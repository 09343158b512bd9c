use Rattle.std.proofs.Common.{◌≡◌}
use Rattle.workload.specs.Places.{version_at}
use Rattle.workload.proofs.Placing.{version_found}
use Rattle.workload.proofs.listing.version_at.Goals as goal

pub returns-in-Some-version-clause-value : goal.returns-in-Some-version-clause-value
returns-in-Some-version-clause-value c =
    let e : version_at c.args.places.now c.args.name.now ≡ c.index-places-i.result.version = version_found c.args.places.now c.args.name.now c.in-Some.i c.index-places-i.result c.index-places-i.is c.in-Some.ensures.1 in
    cc

pub returns-in-None-version-clause-value : goal.returns-in-None-version-clause-value
returns-in-None-version-clause-value c =
    let e : version_at c.args.places.now c.args.name.now ≡ c.index-places-i.result.version = version_found c.args.places.now c.args.name.now c.in-Some.i c.index-places-i.result c.index-places-i.is c.in-Some.ensures.1 in
    cc
