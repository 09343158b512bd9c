use Rattle.std.proofs.Common.{◌∙◌, sym, subst, arith, Option, ℕ, List, map}
use Rattle.std.specs.Prelude.{filter, not}
use Rattle.vault_types.specs.declared.Fault.{Fault}
use Rattle.vault_types.specs.Lists.{IsAscending}
use Rattle.vault_types.specs.Shelf.{Blobs}
use Rattle.vault_types.proofs.SetLemmas.{IsAscending-set_of}
use Rattle.vault_traits.specs.Causes.{IsCause}
use Rattle.vault_types.specs.FirstDamage.{IsDamageOf}
use Rattle.keeper_open.specs.Reading.{AreFloors, AreSets, AreReadTables, IsFirstTable, IsFound, all_recipes, rows_of_all, needs}
use Rattle.keeper_open.proofs.Gathering.{causes_again}
use Rattle.keeper_open.proofs.Judging.{table_damage_of, row_damage_of}
use Rattle.keeper_open.proofs.Concluding.{is_opened}
use Rattle.keeper_open.proofs.open.Goals as goal

pub read_tables-requires : goal.read_tables-requires
read_tables-requires g c =
    let sets = c.in_ok-sets.ensures.read in
    let noted = sets.4 c.new-notes.ensures in
    subst IsAscending (sym (c.as_slice-4.ensures.value ∙ c.in_ok-ids.ensures ∙ noted.ids)) (IsAscending-set_of (map (λ r. r.id) (rows_of_all (all_recipes sets.0))))

pub returns-in_err-found-clause-causes : goal.returns-in_err-found-clause-causes
returns-in_err-found-clause-causes g c =
    let told = (g.S.Shelf.told c.args.shelf.now).blobs in
    let now = (g.S.Shelf.told c.read_sets.new.shelf).blobs in
    let surveyed = c.survey.ensures.kept.blobs in
    let floored = c.read_floors.ensures.kept.blobs ∙ surveyed in
    let sets = c.in_ok-sets.ensures.read in
    let noted = sets.4 c.new-notes.ensures in
    causes_again _ _ _ (IsFirstTable now c.as_slice-4.result.now) (IsDamageOf told) (omega (arith, c.survey.ensures.causes.later, c.read_floors.ensures.causes.later, c.read_sets.ensures.causes.later)) c.in_err-found.ensures.causes.later
    (table_damage_of told now c.in_ok-floors.floors.items sets.0 c.as_slice-4.result.now (c.read_sets.ensures.kept.blobs ∙ floored)
    (subst (λ (t : Option Blobs). AreFloors t 0 c.in_ok-floors.floors.items) surveyed c.in_ok-floors.ensures.read.0) c.in_ok-floors.ensures.read.1
    (subst (λ (t : Option Blobs). AreSets t 0 sets.0) floored sets.3) sets.2 (c.as_slice-4.ensures.value ∙ c.in_ok-ids.ensures ∙ noted.ids))
    c.in_err-found.field-0.0 c.in_err-found.ensures.causes.each c.from_residual-in_err-found.result c.from_residual-in_err-found.ensures.1

pub returns-in-Some-clause-causes : goal.returns-in-Some-clause-causes
returns-in-Some-clause-causes g c =
    let told = (g.S.Shelf.told c.args.shelf.now).blobs in
    let surveyed = c.survey.ensures.kept.blobs in
    let floored = c.read_floors.ensures.kept.blobs ∙ surveyed in
    let gathered = c.read_sets.ensures.kept.blobs ∙ floored in
    let sets = c.in_ok-sets.ensures.read in
    let noted = sets.4 c.new-notes.ensures in
    let found = c.in_ok-found.ensures.read in
    record {
      later = omega (arith, c.survey.ensures.causes.later, c.read_floors.ensures.causes.later, c.read_sets.ensures.causes.later, c.read_tables.ensures.causes.later);
      each = subst (λ (f : Fault). IsCause (g.S.Shelf.told c.args.shelf.now).faults (g.S.Shelf.told c.read_tables.new.shelf).faults (IsDamageOf told) f) (sym c.bad_row.ensures)
          (row_damage_of told c.in_ok-floors.floors.items sets.0 found.0 c.read_sets.new.notes.places.entries c.in_ok-found.found.places.entries
          (subst (λ (t : Option Blobs). AreFloors t 0 c.in_ok-floors.floors.items) surveyed c.in_ok-floors.ensures.read.0) c.in_ok-floors.ensures.read.1
          (subst (λ (t : Option Blobs). AreSets t 0 sets.0) floored sets.3) sets.2 (subst (λ (t : Option Blobs). AreReadTables t found.0) gathered found.1.read)
          (found.1.of ∙ c.as_slice-4.ensures.value ∙ c.in_ok-ids.ensures ∙ noted.ids) noted.places found.1.left c.in-Some.place c.in-Some.ensures.some c.in-Some.ensures.least);
    }

pub returns-clause-opened : goal.returns-clause-opened
returns-clause-opened g c =
    let told = (g.S.Shelf.told c.args.shelf.now).blobs in
    let surveyed = c.survey.ensures.kept.blobs in
    let floored = c.read_floors.ensures.kept.blobs ∙ surveyed in
    let gathered = c.read_sets.ensures.kept.blobs ∙ floored in
    let sets = c.in_ok-sets.ensures.read in
    let noted = sets.4 c.new-notes.ensures in
    let found = c.in_ok-found.ensures.read in
    let notes = c.read_sets.new.notes in
    let parts = c.in_ok-catalog.ensures.parts in
    is_opened told c.in_ok-names.names.items sets.0 found.0 notes c.in_ok-found.found c.in_ok-catalog.catalog c.in_ok-names.ensures.names (subst (λ (t : Option Blobs). AreSets t 0 sets.0) floored sets.3) sets.2
    (sets.1 ∙ (λ i. (sym parts.0 i).items)) noted parts.2
    (subst (λ (l : List ℕ). IsFound told l notes.places.entries c.in_ok-found.found found.0) (c.as_slice-4.ensures.value ∙ c.in_ok-ids.ensures) (subst (λ (t : Option Blobs). IsFound t c.as_slice-4.result.now notes.places.entries c.in_ok-found.found found.0) gathered found.1))
    (λ i. (parts.1 i).entries) c.in_default.ensures.none
    (c.in_ok-catalog.ensures.strays ∙ (λ i. filter (λ n. not (needs (sym parts.0 i).items (sym parts.1 i).entries n)) (c.as_slice-5.ensures.value i))) c.in_ok-catalog.ensures.room
