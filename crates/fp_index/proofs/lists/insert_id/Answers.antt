use Rattle.std.proofs.Common.{◌≡◌, ◌<◌, ◌≤◌, true, cond, length, get_or, sym, ap, ◌∙◌, subst, arith, vec_len, vec_capacity, Err, inl, inr}
use Rattle.std.specs.Prelude.{insert, is_ok}
use Rattle.std.proofs.lemmas.List.Sorted.{searched}
use Rattle.vault_types.specs.Lists.{IsAscending}
use Rattle.fp_index.proofs.Ids.{IsGap, rises, no_gap, insert-gap, with_number-there, has-place, ok_with_room, equal_at}
use Rattle.fp_index.proofs.lists.insert_id.Goals as goal

pub returns-in-Err : goal.returns-in-Err
returns-in-Err c =
    let up : IsAscending c.deref.result.now = subst IsAscending (sym c.deref.ensures.value) c.requires.ascend in
    let s = searched c.deref.result.now c.args.id (Err c.in-Err.at) c.in-Err.ensures.position (rises c.deref.result.now up) in
    let gap : IsGap c.args.id c.args.ids.now.items c.in-Err.at = subst (λ xs. IsGap c.args.id xs c.in-Err.at) c.deref.ensures.value (record { within = s.0; below = s.1; above = s.2 }) in
    let ok : is_ok c.insert.result ≡ true = elim c.requires.room [
      | inl there ↦ absurd (no_gap c.args.id c.args.ids.now.items c.in-Err.at gap there)
      | inr room ↦ ok_with_room c.insert.result (vec_capacity c.args.ids.now ≤ vec_len c.args.ids.now) c.insert.ensures.full (λ full. omega arith)
    ] in
    c.insert.ensures.items ∙ ap (λ b. cond b (insert c.args.ids.now.items c.in-Err.at c.args.id) c.args.ids.now.items) ok ∙ insert-gap c.args.id c.args.ids.now.items c.in-Err.at gap

pub returns-in_default : goal.returns-in_default
returns-in_default c =
    let here : get_or c.args.ids.now.items c.in_default.field-0 0 ≡ c.args.id = equal_at c.deref.result.now c.args.ids.now.items c.in_default.field-0 c.args.id c.deref.ensures.value (c.in_default.ensures.ok 0) in
    let within : c.in_default.field-0 < length c.args.ids.now.items = subst (λ xs. c.in_default.field-0 < length xs) c.deref.ensures.value c.in_default.ensures.bound in
    sym (with_number-there c.args.id c.args.ids.now.items c.requires.ascend (has-place c.args.id c.args.ids.now.items c.in_default.field-0 within here))
