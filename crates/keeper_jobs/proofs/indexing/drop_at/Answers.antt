use Rattle.std.proofs.Common.{◌≡◌, sym, ◌∙◌, ap, subst, Some}
use Rattle.std.specs.Option.{option_copied}
use Rattle.fp_index.specs.Index.{IsIndexOf}
use Rattle.keeper_catalog.specs.Catalog.{table_at}
use Rattle.keeper_jobs.proofs.Tables.{is_only, dropped_is}
use Rattle.keeper_jobs.proofs.indexing.drop_at.Goals as goal

pub returns : goal.returns
returns c known low n below past is =
    let there : table_at c.args.tables.now.entries c.args.id ≡ Some c.in-Some.table.now = sym c.get.ensures.value ∙ ap option_copied c.in-Some.is in
    subst (IsIndexOf c.drop_container.new.self) (dropped_is c.args.tables.now.entries c.requires known low c.args.id n below past c.in-Some.table.now there)
    (c.drop_container.ensures _ is (is_only c.args.tables.now.entries c.requires known low c.args.id n below past c.in-Some.table.now there))
