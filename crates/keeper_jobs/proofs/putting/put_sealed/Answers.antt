use Rattle.std.proofs.Common.{rules, ⊎_elim, List, ◌++◌, sym, ◌∙◌, ap, subst}
use Rattle.vault_types.specs.declared.Name.{Name}
use Rattle.vault_types.specs.declared.Table.{Table}
use Rattle.state_laws.specs.Parts.{HeldIfTold, with_strays}
use Rattle.state_laws.proofs.Changing.{recipe_no_table, recipe_no_payload}
use Rattle.keeper_jobs.specs.Jobs.{names_of}
use Rattle.keeper_jobs.proofs.NewNames.{same_held, more_held, spare_payload, spare_table}
use Rattle.keeper_jobs.proofs.putting.put_sealed.Goals as goal

pub returns-in_err-note_container : goal.returns-in_err-note_container
returns-in_err-note_container g c = record {
  done = search rules;
  refused = search rules;
  tables = search rules;
  as_before = search rules;
  strays = search rules;
  same = search rules;
  room = search rules;
  there = search rules;
  tells = search rules;
  recipes = search rules;
  held = λ K puts held.
      ⊎_elim
      (λ same. same_held K _ _ (puts.strays_are ∙ sym same) held)
      (λ more. subst (λ (l : List Name). HeldIfTold (g.S.Shelf.told c.args.shelf.now).blobs (with_strays l K)) (sym (more ∙ ap (λ (t : Table). c.args.catalog.now.strays.items ++ names_of t.id) c.table.ensures.is)) (more_held K _ _ puts _ held))
      c.note_container.ensures.strays;
  any_moment = search rules;
  gets = search rules;
  causes = search rules;
}

pub returns-in-Ok : goal.returns-in-Ok
returns-in-Ok g c = record {
  done = search rules;
  refused = search rules;
  tables = search rules;
  as_before = search rules;
  strays = search rules;
  same = search rules;
  room = search rules;
  there = search rules;
  tells = search rules;
  recipes = λ s v. c.put_container.ensures.others _ (recipe_no_payload s v _) (recipe_no_table s v _);
  held = λ K puts held.
      subst (λ (l : List Name). HeldIfTold (g.S.Shelf.told c.put_container.new.shelf).blobs (with_strays l K)) (sym (c.in_ok-note_container.ensures.noted ∙ ap (λ (t : Table). c.args.catalog.now.strays.items ++ names_of t.id) c.table.ensures.is))
      (c.put_container.ensures.held (with_strays (c.args.catalog.now.strays.items ++ names_of c.args.sealed.table.id) K) (spare_payload K _ _ puts _) (spare_table K _ _ puts _) (more_held K _ _ puts _ held));
  any_moment = λ K puts here. c.put_container.ensures.any_moment (with_strays (c.args.catalog.now.strays.items ++ names_of c.args.sealed.table.id) K) (spare_payload K _ _ puts _) (spare_table K _ _ puts _) here;
  gets = search rules;
  causes = search rules;
}

pub returns-in-Err : goal.returns-in-Err
returns-in-Err g c = record {
  done = search rules;
  refused = search rules;
  tables = search rules;
  as_before = search rules;
  strays = search rules;
  same = search rules;
  room = search rules;
  there = search rules;
  tells = search rules;
  recipes = λ s v. c.put_container.ensures.others _ (recipe_no_payload s v _) (recipe_no_table s v _);
  held = λ K puts held.
      subst (λ (l : List Name). HeldIfTold (g.S.Shelf.told c.put_container.new.shelf).blobs (with_strays l K)) (sym (c.in_ok-note_container.ensures.noted ∙ ap (λ (t : Table). c.args.catalog.now.strays.items ++ names_of t.id) c.table.ensures.is))
      (c.put_container.ensures.held (with_strays (c.args.catalog.now.strays.items ++ names_of c.args.sealed.table.id) K) (spare_payload K _ _ puts _) (spare_table K _ _ puts _) (more_held K _ _ puts _ held));
  any_moment = λ K puts here. c.put_container.ensures.any_moment (with_strays (c.args.catalog.now.strays.items ++ names_of c.args.sealed.table.id) K) (spare_payload K _ _ puts _) (spare_table K _ _ puts _) here;
  gets = search rules;
  causes = search rules;
}
