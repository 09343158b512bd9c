use Rattle.std.proofs.Common.{sym, ap, ◌∙◌, subst, Some, is_some}
use Rattle.vault_types.specs.Lists.{with_number, IsAscending}
use Rattle.fp_index.proofs.Entries.{ids_in-at, IsUpdated, ids-written, takes-at, takes-written, takes-there}
use Rattle.fp_index.proofs.lists.add_id.Goals as goal

pub insert_id-requires-clause-ascend : goal.insert_id-requires-clause-ascend
insert_id-requires-clause-ascend c = subst IsAscending (ids_in-at c.args.containers.now.entries c.args.fp.now c.in-Some.ids.now (sym c.in-Some.ensures.value)) (c.requires.ascend c.args.fp.now)

pub insert_id-requires-clause-room : goal.insert_id-requires-clause-room
insert_id-requires-clause-room c = takes-at c.args.containers.now.entries c.args.id c.args.fp.now c.in-Some.ids.now (sym c.in-Some.ensures.value) c.requires.room

pub returns-in-Some-clause-ids : goal.returns-in-Some-clause-ids
returns-in-Some-clause-ids c = λ f.
    let old = c.args.containers.now.entries in
    let new = (c.get_mut.follows.lender c.insert_id.new.ids).entries in
    let updated : IsUpdated old new c.args.fp.now (Some c.insert_id.new.ids) = ((c.get_mut.follows.holds c.insert_id.new.ids).3 (ap is_some (sym c.in-Some.ensures.value))).0 in
    ids-written old new c.args.fp.now (Some c.insert_id.new.ids) updated (with_number c.args.id)
    (c.insert_id.ensures ∙ ap (with_number c.args.id) (sym (ids_in-at old c.args.fp.now c.in-Some.ids.now (sym c.in-Some.ensures.value)))) f

pub returns-in-Some-clause-room : goal.returns-in-Some-clause-room
returns-in-Some-clause-room c = λ f h.
    let old = c.args.containers.now.entries in
    let new = (c.get_mut.follows.lender c.insert_id.new.ids).entries in
    let updated : IsUpdated old new c.args.fp.now (Some c.insert_id.new.ids) = ((c.get_mut.follows.holds c.insert_id.new.ids).3 (ap is_some (sym c.in-Some.ensures.value))).0 in
    takes-written old new c.args.id c.args.fp.now c.insert_id.new.ids updated (takes-there c.args.id c.insert_id.new.ids c.in-Some.ids.now.items c.insert_id.ensures) f h
