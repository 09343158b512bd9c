use Rattle.std.specs.Map.{lookup}
use Rattle.keeper_open.specs.Reading.{same_chunk}
use Rattle.keeper_open.proofs.Noting.{kept_first, new_first, is_absent, is_present}
use Rattle.keeper_open.proofs.notes.add_row.Goals as goal

pub returns-in_ok-insert : goal.returns-in_ok-insert
returns-in_ok-insert c = λ before was below.
    new_first c.args.places.now.entries c.insert.new.self.entries before c.args.chunk c.args.place was
    (is_absent c.contains_key.result (lookup (same_chunk c.args.chunk) c.args.places.now.entries) c.contains_key.ensures c.if-not-contains_key.true) c.in_ok-insert.ensures.updates.0

pub returns-else-not-contains_key : goal.returns-else-not-contains_key
returns-else-not-contains_key c = λ before was below.
    kept_first c.args.places.now.entries before c.args.chunk c.args.place was below
    (is_present c.contains_key.result (lookup (same_chunk c.args.chunk) c.args.places.now.entries) c.contains_key.ensures c.if-not-contains_key.false)
