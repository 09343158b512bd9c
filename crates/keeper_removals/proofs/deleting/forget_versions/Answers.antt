use Rattle.std.proofs.Common.{◌≡◌, ◌∙◌, length, drop, ap, arith, List}
use Rattle.std.specs.Prelude.{slice_index_or}
use Rattle.vault_types.specs.State.{empty_dataset}
use Rattle.vault_types.specs.Delete.{delete, reclaimed_ids}
use Rattle.keeper_catalog.specs.declared.SetInfo.{SetInfo}
use Rattle.keeper_catalog.specs.Catalog.{versions_in, set_info}
use Rattle.keeper_removals.proofs.Deleted.{reclaimed_are, index_after, memo_after, strays_after, versions_left, fewer_ids, sets_written}
use Rattle.keeper_removals.proofs.deleting.forget_versions.Goals as goal

pub returns-clause-removed : goal.returns-clause-removed
returns-clause-removed c K n r up =
    let e : length c.take_freed.new.freed.items ≡ length (reclaimed_ids K.state (delete K.state c.args.set n)) = ap length (reclaimed_are _ _ _ K _ n r _ up c.take_freed.new.freed.items c.take_freed.ensures.freed) in
    omega (arith, c.len-count.ensures, c.take_freed.new.freed.ok)

pub returns-clause-index : goal.returns-clause-index
returns-clause-index c K n r up = index_after _ _ _ K _ n r _ up c.deref.result.now (λ marks are. c.deref.ensures.value ∙ c.take_freed.ensures.freed marks are) _ c.forget_containers.ensures.index

pub returns-clause-memo : goal.returns-clause-memo
returns-clause-memo c K n r up =
    let len : c.args.catalog.now.sets.len ≡ length c.note_floor-old.new.sets = omega (arith, c.args.catalog.now.sets.ok, c.note_floor-old.auto.sets, ap length c.deref_mut.ensures.value) in
    memo_after _ _ _ K _ n r _ up c.deref.result.now (λ marks are. c.deref.ensures.value ∙ c.take_freed.ensures.freed marks are) _ _ c.forget_containers.ensures.left _ _ _ _ _
    (sets_written c.args.catalog.now.sets.items _ c.note_floor-old.new.sets _ _ c.args.set c.args.floor c.deref_mut.ensures.value c.note_floor-old.ensures.sets len) c.take_freed.ensures.markers

pub returns-clause-strays : goal.returns-clause-strays
returns-clause-strays c K n r up =
    strays_after _ _ _ K _ n r _ up c.deref.result.now (λ marks are. c.deref.ensures.value ∙ c.take_freed.ensures.freed marks are) _ _ c.forget_containers.ensures.left _
    (c.note_floor-old.ensures.was ∙ ap (λ (l : List SetInfo). (slice_index_or l c.args.set (set_info empty_dataset)).floor) c.deref_mut.ensures.value) _ c.leave_recipes.ensures.left

pub returns-clause-room : goal.returns-clause-room
returns-clause-room c =
    let can = c.requires.can in
    let left = versions_left _ _ _ can.0 _ can.1 can.2 _ can.3 in
    let ids = fewer_ids _ c.take_freed.new.markers can.2.memo.markers.0 _ _ can.2.memo.markers.1 (c.take_freed.ensures.markers can.2.memo.markers.0 can.2.memo.markers.1) in
    let len : c.args.catalog.now.sets.len ≡ length c.note_floor-old.new.sets = omega (arith, c.args.catalog.now.sets.ok, c.note_floor-old.auto.sets, ap length c.deref_mut.ensures.value) in
    let versions = ap versions_in (sets_written c.args.catalog.now.sets.items c.deref_mut.result.now c.note_floor-old.new.sets (drop (length c.note_floor-old.new.sets) c.args.catalog.now.sets.items) c.args.catalog.now.sets.len c.args.set c.args.floor c.deref_mut.ensures.value c.note_floor-old.ensures.sets len) in
    let was : c.note_floor-old.result ≡ (slice_index_or c.args.catalog.now.sets.items c.args.set (set_info empty_dataset)).floor = c.note_floor-old.ensures.was ∙ ap (λ (l : List SetInfo). (slice_index_or l c.args.set (set_info empty_dataset)).floor) c.deref_mut.ensures.value in
    record {
      names = omega (arith, left, was, versions, c.leave_recipes.ensures.count, c.leave_recipes.ensures.capacity, c.forget_containers.ensures.room, c.forget_containers.ensures.capacity, c.requires.room.names);
      ids = omega (arith, ids, c.requires.room.ids, c.take_freed.ensures.room, c.clear.ensures.capacity);
    }
