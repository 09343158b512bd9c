use Rattle.std.proofs.Common.{rules, inr, ℕ, ◌-◌, ◌&&◌, length, take, map, List, [], ◌∷◌, ◌++◌, Some, None, refl, sym, ◌∙◌, ap, subst, arith, Option}
use Rattle.std.specs.Prelude.{Err, nat_le, nat_lt, if◌then◌else◌, slice_index_or, slice_set}
use Rattle.vault_types.specs.declared.Name.{Name}
use Rattle.vault_types.specs.declared.Table.{Table}
use Rattle.vault_types.specs.Tables.{Container}
use Rattle.vault_types.specs.Shelf.{Blobs, blob_at, recipe_name}
use Rattle.vault_types.specs.State.{empty_dataset}
use Rattle.vault_types.specs.Marks.{Mark}
use Rattle.vault_types.specs.Events.{Core, Change, Job, IsNear, committed}
use Rattle.vault_traits.specs.Crash.{LeavesOnlyIfTold}
use Rattle.set_markers.specs.SetMarkers.{Marked, AreMarkersOfSets}
use Rattle.fp_index.specs.Index.{IsIndexOf}
use Rattle.keeper_catalog.specs.declared.SetInfo.{SetInfo}
use Rattle.keeper_catalog.specs.Catalog.{set_info, table_at, versions_in}
use Rattle.keeper_jobs.specs.Jobs.{tables_from, AreKeyed, uncommitted, version_by}
use Rattle.keeper_jobs.proofs.Commits.{keyed, known_below, index_more, still_memo, done_memo, latest_is, in_range}
use Rattle.keeper_jobs.proofs.Rooms.{one_version, one_goes, more_ids}
use Rattle.keeper_jobs.proofs.Written.{recipe_goes, pushed_is, change_here, can_here, done_held, half_held, before_held, spelled_there, others_stay, left_of, popped}
use Rattle.keeper_jobs.proofs.committing.commit_recipe.Goals as goal

pub prepare-requires-clause-keyed : goal.prepare-requires-clause-keyed
prepare-requires-clause-keyed g c = let can = c.requires.can in keyed _ _ _ _ _ _ can.2

pub take_back-requires-clause-keyed : goal.take_back-requires-clause-keyed
take_back-requires-clause-keyed g c = let can = c.requires.can in subst AreKeyed (sym c.in-Ok.ensures.same.1) (keyed _ _ _ _ _ _ can.2)

pub take_back-requires-in-Err-Half-clause-keyed : goal.take_back-requires-in-Err-Half-clause-keyed
take_back-requires-in-Err-Half-clause-keyed g c = let can = c.requires.can in subst AreKeyed (sym c.in-Ok.ensures.same.1) (keyed _ _ _ _ _ _ can.2)

pub returns-in_default : goal.returns-in_default
returns-in_default g c = record {
  memo = search rules;
  index = search rules;
  held = search rules;
  spelled = search rules;
  others = search rules;
  still = λ K j waits cm.
      still_memo _ _ _ _ K j cm _ None waits c.in_default.ensures.same.0 c.in_default.ensures.markers
      (λ id. c.forget_tables.ensures.gone id ∙ ap (λ (t : List (ℕ × Table)). if nat_le c.args.job.first id && nat_lt id c.args.job.next then None else table_at t id) c.in_default.ensures.same.1);
  same_index = λ K j cm. c.in_default.ensures.unchanged (map (λ (d : Container). d.table) K.state.containers) (known_below _ _ _ _ K j cm) cm.index_is;
  half = search rules;
  before = λ r e K j waits cm held. before_held _ _ _ _ K j cm _ waits c.in_default.ensures.as_before _ _ refl held;
  tells = search rules;
  room = search rules;
  left = search rules;
  as_before = λ r e. c.in_default.ensures.as_before;
  tried = search rules;
  any_moment = search rules;
  acknowledged = search rules;
  untried = search rules;
  gets = search rules;
  later = search rules;
  failed_half = search rules;
  failed_before = search rules;
}

pub returns-in-Ok-commit : goal.returns-in-Ok-commit
returns-in-Ok-commit g c = record {
  memo = λ K j cm.
      done_memo _ _ _ _ K j cm _ _ (c.deref-in-Ok-commit.ensures.value ∙ c.in-Ok.ensures.ids)
      (c.note_commit.ensures.sets ∙ ap (λ (l : List SetInfo). slice_set l c.args.job.set (record { floor = (slice_index_or l c.args.job.set (set_info empty_dataset)).floor; latest = c.args.recipe.version; next = c.args.recipe.next; sparse = c.args.recipe.sparse })) c.in-Ok.ensures.same.0)
      (c.note_commit.ensures.same ∙ c.in-Ok.ensures.same.1)
      (λ marks h. c.note_commit.ensures.markers marks (c.in-Ok.ensures.markers marks h));
  index = λ K j cm. index_more _ _ _ _ K j cm _ (c.in-Ok.ensures.added (map (λ (d : Container). d.table) K.state.containers) cm.index_is);
  held = λ K j cm held.
      done_held _ _ _ _ K j cm c.deref.result.now (c.deref.ensures.value ∙ c.in-Ok.ensures.blob) _
      (c.note_commit.ensures.strays
      ∙ ap (uncommitted (recipe_name c.args.job.set c.args.recipe.version) c.args.job.first c.args.job.next) (c.in-Ok.ensures.strays ∙ ap (λ (q : Name). c.args.catalog.now.strays.items ++ q ∷ []) (pushed_is _ _ _ _ K j cm)))
      _ _ c.in-Ok-commit.ensures.ok held;
  spelled = λ K j cm. spelled_there _ _ _ _ K j cm c.deref.result.now (c.deref.ensures.value ∙ c.in-Ok.ensures.blob) _ _ c.in-Ok-commit.ensures.ok;
  others = λ K j cm q apart. others_stay _ _ _ _ K j cm c.deref.result.now (c.deref.ensures.value ∙ c.in-Ok.ensures.blob) _ _ (inr c.in-Ok-commit.ensures.ok) q apart;
  still = search rules;
  same_index = search rules;
  half = search rules;
  before = search rules;
  tells = search rules;
  room = let can = c.requires.can in
      let K : Core = can.0 in
      let j : Job = can.1 in
      let cm = can.2 in
      let name : Name = recipe_name c.args.job.set c.args.recipe.version in
      let was : List Name = c.args.catalog.now.strays.items in
      let pushed = c.in-Ok.ensures.strays ∙ ap (λ (q : Name). was ++ q ∷ []) (pushed_is _ _ _ _ K j cm) in
      let strays = ap length (c.note_commit.ensures.strays ∙ ap (uncommitted name c.args.job.first c.args.job.next) pushed) in
      let before = ap length pushed in
      let goes = one_goes name c.args.job.first c.args.job.next was (recipe_goes name c.args.job.first c.args.job.next) in
      let tables = ap length c.note_commit.ensures.same in
      let sets = ap versions_in c.note_commit.ensures.sets in
      let olds = c.in-Ok.ensures.same.0 in
      let more = one_version c.prepare.new.catalog.sets.items c.args.job.set c.args.recipe.version c.args.recipe.next c.args.recipe.sparse
      (let len = ap length olds in omega (arith, len, in_range _ _ _ _ K j cm))
      (let at = ap (λ (l : List SetInfo). (slice_index_or l c.args.job.set (set_info empty_dataset)).latest) olds in omega (arith, at, latest_is _ _ _ _ K j cm, cm.can.version)) in
      let marks : List Mark = cm.memo.markers.0 in
      let one = c.in-Ok.ensures.markers marks cm.memo.markers.1 in
      let ids = more_ids c.prepare.new.catalog.markers c.note_commit.new.catalog.markers marks c.args.job.set c.args.recipe.version c.deref-in-Ok-commit.result.now one (c.note_commit.ensures.markers marks one) in
      let len = ap length c.deref-in-Ok-commit.ensures.value in
      record {
        names = omega (arith, strays, before, goes, tables, sets, more, c.in-Ok.ensures.room.names, c.note_commit.ensures.room.0);
        ids = omega (arith, ids, len, c.in-Ok.ensures.spare, c.note_commit.ensures.room.1);
      };
  left = λ K j cm.
      left_of _ _ _ _ K j cm _
      (c.note_commit.ensures.strays
      ∙ ap (uncommitted (recipe_name c.args.job.set c.args.recipe.version) c.args.job.first c.args.job.next) (c.in-Ok.ensures.strays ∙ ap (λ (q : Name). c.args.catalog.now.strays.items ++ q ∷ []) (pushed_is _ _ _ _ K j cm)));
  as_before = search rules;
  tried = search rules;
  any_moment = λ K j cm held here.
      let spelled = c.deref.ensures.value ∙ c.in-Ok.ensures.blob in
      subst (λ (h : Change). LeavesOnlyIfTold (g.S.Shelf.told c.args.shelf.now).history (g.S.Shelf.told c.commit.new.shelf).history (IsNear K.state (Some h))) (sym (change_here _ _ _ _ K j cm c.deref.result.now spelled))
      (c.commit.ensures.any_moment K.state (committed (version_by K j c.args.recipe) j K.state) (can_here _ _ _ _ K j cm c.deref.result.now spelled _ held) here);
  acknowledged = λ K j cm held. c.in-Ok-commit.ensures.acknowledged K.state (committed (version_by K j c.args.recipe) j K.state) (can_here _ _ _ _ K j cm c.deref.result.now (c.deref.ensures.value ∙ c.in-Ok.ensures.blob) _ held);
  untried = search rules;
  gets = search rules;
  later = search rules;
  failed_half = search rules;
  failed_before = search rules;
}

pub returns-in-Err-Before : goal.returns-in-Err-Before
returns-in-Err-Before g c = record {
  memo = search rules;
  index = search rules;
  held = search rules;
  spelled = search rules;
  others = λ K j cm q apart. ap (λ (t : Option Blobs). blob_at t q) (c.in-Err-Before.ensures.before c.in-Err-Before.refused (ap Err c.in-Err-Before.field-0-is));
  still = λ K j waits cm.
      still_memo _ _ _ _ K j cm _ None waits (ap (λ v. v.items) c.take_back.ensures.same.0 ∙ c.in-Ok.ensures.same.0)
      (λ marks h. subst (λ (m : Marked). AreMarkersOfSets m marks) (sym c.take_back.ensures.same.1) (c.in-Ok.ensures.markers marks h))
      (λ id. c.take_back.ensures.gone id ∙ ap (λ (t : List (ℕ × Table)). if nat_le c.args.job.first id && nat_lt id c.args.job.next then None else table_at t id) c.in-Ok.ensures.same.1);
  same_index = λ K j cm.
      let known : List Table = map (λ (d : Container). d.table) K.state.containers in
      c.take_back.ensures.index known (known_below _ _ _ _ K j cm)
      (subst (λ (t : List (ℕ × Table)). IsIndexOf c.prepare.new.index (known ++ tables_from t c.args.job.first (c.args.job.next - c.args.job.first))) (sym c.in-Ok.ensures.same.1) (c.in-Ok.ensures.added known cm.index_is));
  half = search rules;
  before = λ r e K j waits cm held. before_held _ _ _ _ K j cm _ waits (popped c.args.catalog.now.strays.items _ _ _ (ap (λ v. v.items) c.take_back.ensures.same.2 ∙ c.in-Ok.ensures.strays) (c.pop.ensures.rest ∙ ap (λ n. take (n - 1) c.take_back.new.catalog.strays.items) c.take_back.new.catalog.strays.ok.0)) _ _ (c.in-Err-Before.ensures.before c.in-Err-Before.refused (ap Err c.in-Err-Before.field-0-is)) held;
  tells = search rules;
  room = search rules;
  left = search rules;
  as_before = λ r e. popped c.args.catalog.now.strays.items _ _ _ (ap (λ v. v.items) c.take_back.ensures.same.2 ∙ c.in-Ok.ensures.strays) (c.pop.ensures.rest ∙ ap (λ n. take (n - 1) c.take_back.new.catalog.strays.items) c.take_back.new.catalog.strays.ok.0);
  tried = search rules;
  any_moment = λ K j cm held here.
      let spelled = c.deref.ensures.value ∙ c.in-Ok.ensures.blob in
      subst (λ (h : Change). LeavesOnlyIfTold (g.S.Shelf.told c.args.shelf.now).history (g.S.Shelf.told c.commit.new.shelf).history (IsNear K.state (Some h))) (sym (change_here _ _ _ _ K j cm c.deref.result.now spelled))
      (c.commit.ensures.any_moment K.state (committed (version_by K j c.args.recipe) j K.state) (can_here _ _ _ _ K j cm c.deref.result.now spelled _ held) here);
  acknowledged = search rules;
  untried = search rules;
  gets = search rules;
  later = search rules;
  failed_half = search rules;
  failed_before = search rules;
}

pub returns : goal.returns
returns g c = record {
  memo = search rules;
  index = search rules;
  held = search rules;
  spelled = search rules;
  others = λ K j cm q apart. others_stay _ _ _ _ K j cm c.deref.result.now (c.deref.ensures.value ∙ c.in-Ok.ensures.blob) _ _ (c.in-Err-Half.ensures.half (ap Err c.in-Err-Half.field-0-is)) q apart;
  still = λ K j waits cm.
      still_memo _ _ _ _ K j cm _ None waits (ap (λ v. v.items) c.take_back-in-Err-Half.ensures.same.0 ∙ c.in-Ok.ensures.same.0)
      (λ marks h. subst (λ (m : Marked). AreMarkersOfSets m marks) (sym c.take_back-in-Err-Half.ensures.same.1) (c.in-Ok.ensures.markers marks h))
      (λ id. c.take_back-in-Err-Half.ensures.gone id ∙ ap (λ (t : List (ℕ × Table)). if nat_le c.args.job.first id && nat_lt id c.args.job.next then None else table_at t id) c.in-Ok.ensures.same.1);
  same_index = λ K j cm.
      let known : List Table = map (λ (d : Container). d.table) K.state.containers in
      c.take_back-in-Err-Half.ensures.index known (known_below _ _ _ _ K j cm)
      (subst (λ (t : List (ℕ × Table)). IsIndexOf c.prepare.new.index (known ++ tables_from t c.args.job.first (c.args.job.next - c.args.job.first))) (sym c.in-Ok.ensures.same.1) (c.in-Ok.ensures.added known cm.index_is));
  half = λ e K j cm held.
      half_held _ _ _ _ K j cm c.deref.result.now (c.deref.ensures.value ∙ c.in-Ok.ensures.blob) _
      (ap (λ v. v.items) c.take_back-in-Err-Half.ensures.same.2 ∙ c.in-Ok.ensures.strays ∙ ap (λ (q : Name). c.args.catalog.now.strays.items ++ q ∷ []) (pushed_is _ _ _ _ K j cm))
      _ _ (c.in-Err-Half.ensures.half (ap Err c.in-Err-Half.field-0-is)) held;
  before = search rules;
  tells = search rules;
  room = search rules;
  left = search rules;
  as_before = search rules;
  tried = λ e. ap (λ v. v.items) c.take_back-in-Err-Half.ensures.same.2 ∙ c.in-Ok.ensures.strays;
  any_moment = λ K j cm held here.
      let spelled = c.deref.ensures.value ∙ c.in-Ok.ensures.blob in
      subst (λ (h : Change). LeavesOnlyIfTold (g.S.Shelf.told c.args.shelf.now).history (g.S.Shelf.told c.commit.new.shelf).history (IsNear K.state (Some h))) (sym (change_here _ _ _ _ K j cm c.deref.result.now spelled))
      (c.commit.ensures.any_moment K.state (committed (version_by K j c.args.recipe) j K.state) (can_here _ _ _ _ K j cm c.deref.result.now spelled _ held) here);
  acknowledged = search rules;
  untried = search rules;
  gets = search rules;
  later = search rules;
  failed_half = search rules;
  failed_before = search rules;
}
