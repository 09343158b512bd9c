use Rattle.std.proofs.Common.{◌++◌, map, refl, sym, ap, ◌∙◌}
use Rattle.vault_types.specs.declared.Table.{Table}
use Rattle.keeper_driver.specs.Drafts.{row_in}
use Rattle.keeper_driver.proofs.Drafting.{with_container}
use Rattle.keeper_driver.proofs.Ending.{next_put, refused}
use Rattle.keeper_driver.proofs.jobs.add_container.Goals as goal

pub put-requires-clause-next : goal.put-requires-clause-next
put-requires-clause-next g c = next_put _ _ c.requires _ c.in_ok-sealed.ensures.id

pub returns-in-Ok : goal.returns-in-Ok
returns-in-Ok g c = record {
  ok = with_container _ _ c.requires _ _ c.in_ok-sealed.sealed _ (c.in-Ok.ensures.ok c.requires.opened.core c.requires.opened.keeps)
      (c.requires.opened.lent ∙ sym c.in-Ok.ensures.lent) refl refl refl
      (c.in_ok-add_rows.ensures ∙ ap (λ (t : Table). c.args.draft.now.rows ++ map (row_in t.id) t.rows) c.table.ensures.is)
      c.in_ok-sealed.ensures.rules;
  err = tt;
}

pub returns-in-Err : goal.returns-in-Err
returns-in-Err g c = record {
  ok = tt;
  err = refused _ _ c.args.draft.now _ c.requires.opened _ _ (c.in-Err.ensures.err c.requires.opened.core c.requires.opened.keeps) c.in-Err.ensures.lent refl;
}
