use Rattle.std.proofs.Common.{◌∙◌, sym, ap, subst, ◌++◌, List, ℕ, map, ◌≡◌}
use Rattle.vault_types.specs.declared.Row.{Row}
use Rattle.vault_types.specs.declared.Name.{Name}
use Rattle.vault_types.specs.Marks.{Mark, marks_of}
use Rattle.vault_types.specs.Lists.{set_of}
use Rattle.set_markers.specs.SetMarkers.{AreMarkersOfSets}
use Rattle.keeper_open.specs.declared.notes.Chunk.{Chunk}
use Rattle.keeper_open.specs.declared.notes.RowPlace.{RowPlace}
use Rattle.keeper_open.specs.Reading.{marks_in, rows_of_all, placed, number_of, placed_rows, AreFirst, ArePlacesBefore}
use Rattle.keeper_open.proofs.Noting.{marks_recipe, ids_recipe, placed_recipe, all_before}
use Rattle.keeper_open.proofs.notes.note.Goals as goal

pub returns : goal.returns
returns c = λ before below was.
    let r = c.args.recipe.now in
    let rows = c.as_slice-rows.ensures in
    let is : c.in_ok-ids.ids.items ≡ set_of (map (λ q. q.id) r.rows) = c.in_ok-ids.ensures ∙ ap (λ (l : List Row). set_of (map (λ q. q.id) l)) rows in
    let number : c.recipe-number.result.number ≡ number_of r = ap (λ (n : Name). n.number) c.recipe-number.ensures in
    record {
      markers = subst (λ (ms : List Mark). AreMarkersOfSets c.commit.new.self ms) (ap (λ (l : List ℕ). marks_in before ++ marks_of r.set r.version l) (c.as_slice.ensures.value ∙ is) ∙ sym (marks_recipe before r))
          (c.commit.ensures.marks (marks_in before) (c.reserve.ensures.same (marks_in before) was.markers));
      ids = c.in_ok-add_ids.ensures (map (λ q. q.id) (rows_of_all before)) was.ids ∙ ap (λ (l : List ℕ). set_of (map (λ q. q.id) (rows_of_all before) ++ l)) (c.as_slice-2.ensures.value ∙ is) ∙ ids_recipe before r;
      places = subst (λ (ps : List (Chunk × RowPlace)). AreFirst c.add_rows.new.places.entries ps) (ap (λ (l : List Row). placed before ++ placed_rows c.recipe-number.result.number 0 l) rows ∙ ap (λ (n : ℕ). placed before ++ placed_rows n 0 r.rows) number ∙ sym (placed_recipe before r))
          (c.in_ok-add_rows.ensures (placed before) was.places (subst (λ (n : ℕ). ArePlacesBefore (placed before) (record { number = n; row = 0 })) (sym number) (all_before before (number_of r) below)));
    }
