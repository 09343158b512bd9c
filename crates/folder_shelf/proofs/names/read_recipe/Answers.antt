use Rattle.std.proofs.Common.{Some, None, ◌<◌, ◌^◌, ℕ, ◌-◌, length, take, drop, subst, IfSome}
use Rattle.folder_shelf.proofs.Named.{at_length, short_tail, no_version, both_found, cut_tail}
use Rattle.folder_shelf.proofs.names.read_recipe.Goals as goal

pub returns-then-tail-eq8-clause-found : goal.returns-then-tail-eq8-clause-found
returns-then-tail-eq8-clause-found c =
    let small = subst (λ (k : ℕ). IfSome c.read_hex.result (λ n. n < 16 ^ k)) c.if-tail-eq8.true c.read_hex.ensures.small in
    short_tail c.read_hex.result c.args.tail.now c.if-tail-eq8.true small (at_length 8 c.args.tail.now c.read_hex.result c.if-tail-eq8.true c.read_hex.ensures.found)

pub returns-in_default-read_hex-clause-found : goal.returns-in_default-read_hex-clause-found
returns-in_default-read_hex-clause-found c =
    let tail = c.args.tail.now in
    let behind = take (length tail - 3) (drop 3 tail) in
    let cut = cut_tail tail c.if-tail-ne11.false c.if-tail-ne45.false in
    no_version (Some c.in-Some.set) tail (take 2 tail) behind cut.0 cut.1 c.if-tail-ne11.false c.in-Some.ensures.found
    (at_length 8 behind None cut.2 c.in_default-read_hex.ensures.found)

pub returns-clause-found : goal.returns-clause-found
returns-clause-found c =
    let tail = c.args.tail.now in
    let behind = take (length tail - 3) (drop 3 tail) in
    let cut = cut_tail tail c.if-tail-ne11.false c.if-tail-ne45.false in
    let small = subst (λ (k : ℕ). c.in-Some-read_hex.version < 16 ^ k) cut.2 c.in-Some-read_hex.ensures.small in
    both_found c.in-Some.set c.in-Some-read_hex.version tail (take 2 tail) behind cut.0 cut.1 c.if-tail-ne11.false c.in-Some.ensures.some.1 small c.in-Some.ensures.found
    (at_length 8 behind (Some c.in-Some-read_hex.version) cut.2 c.in-Some-read_hex.ensures.found)
