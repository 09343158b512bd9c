use Rattle.std.proofs.Common.{refl, []}
use Rattle.vault_types.specs.declared.Row.{Row}
use Rattle.keeper_open.proofs.Noting.{row_noted}
use Rattle.keeper_open.proofs.notes.add_rows.Goals as goal

abbrev none : Row
none = record { fp = record { 0 = [] }; id = 0; len = 0 }

pub loop-at-preserved : goal.loop-at-preserved
loop-at-preserved c = λ before was old.
    row_noted c.loop-at.places.entries before c.args.number c.args.rows.now c.loop-at.at none c.chunk_of.result _ c.add_row.new.places.entries c.loop-at-test.true c.chunk_of.ensures refl c.in_ok-add_row.ensures old (c.loop-at.invariant before was old)
