use Rattle.std.proofs.Common.{◌≡◌, ◌<◌, length, get_or, sym, ◌∙◌, subst, Err}
use Rattle.std.proofs.lemmas.List.Sorted.{searched}
use Rattle.vault_types.specs.Lists.{IsAscending}
use Rattle.fp_index.proofs.Ids.{IsGap, rises, without-gap, remove-place, equal_at}
use Rattle.fp_index.proofs.lists.remove_id.Goals as goal

pub returns-in-Ok : goal.returns-in-Ok
returns-in-Ok c =
    let here : get_or c.args.ids.now.items c.in-Ok.at 0 ≡ c.args.id = equal_at c.deref.result.now c.args.ids.now.items c.in-Ok.at c.args.id c.deref.ensures.value (c.in-Ok.ensures.ok 0) in
    let within : c.in-Ok.at < length c.args.ids.now.items = subst (λ xs. c.in-Ok.at < length xs) c.deref.ensures.value c.in-Ok.ensures.bound in
    c.remove.ensures.items ∙ remove-place c.args.id c.args.ids.now.items c.in-Ok.at c.requires within here

pub returns-in_default : goal.returns-in_default
returns-in_default c =
    let up : IsAscending c.deref.result.now = subst IsAscending (sym c.deref.ensures.value) c.requires in
    let s = searched c.deref.result.now c.args.id (Err c.in_default.field-0) c.in_default.ensures.position (rises c.deref.result.now up) in
    let gap : IsGap c.args.id c.args.ids.now.items c.in_default.field-0 = subst (λ xs. IsGap c.args.id xs c.in_default.field-0) c.deref.ensures.value (record { within = s.0; below = s.1; above = s.2 }) in
    without-gap c.args.id c.args.ids.now.items c.in_default.field-0 c.requires gap
