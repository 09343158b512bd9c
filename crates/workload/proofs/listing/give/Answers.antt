use Rattle.workload.proofs.Placing.{given_bytes}
use Rattle.workload.proofs.listing.give.Goals as goal

pub returns : goal.returns
returns c = given_bytes c.args.places.now c.args.name.now c.in-Some.i c.index-places-i.result c.give.new.self c.args.bytes.items c.give.ensures c.in-Some.ensures.1
