use Rattle.std.proofs.Common.{◌≡◌, sym, ap, ◌∙◌, subst, Some, is_some, vec_len, length, arith, rules}
use Rattle.std.proofs.lemmas.Bool.Decides.{nat_tests}
use Rattle.vault_types.specs.Lists.{IsAscending}
use Rattle.fp_index.specs.Lists.{ids_in, without}
use Rattle.fp_index.proofs.Entries.{ids_in-at, IsUpdated, ids-written, without-absent, written-at, nothing-left}
use Rattle.fp_index.proofs.lists.empties.Goals as goal

pub remove_id-requires : goal.remove_id-requires
remove_id-requires c = subst IsAscending (ids_in-at c.args.containers.now.entries c.args.fp.now c.in-Some.ids.now (sym c.in-Some.ensures.value)) (c.requires c.args.fp.now)

pub returns-in-Some-clause-ids : goal.returns-in-Some-clause-ids
returns-in-Some-clause-ids c = λ f.
    let old = c.args.containers.now.entries in
    let new = (c.get_mut.follows.lender c.remove_id.new.ids).entries in
    let updated : IsUpdated old new c.args.fp.now (Some c.remove_id.new.ids) = ((c.get_mut.follows.holds c.remove_id.new.ids).3 (ap is_some (sym c.in-Some.ensures.value))).0 in
    ids-written old new c.args.fp.now (Some c.remove_id.new.ids) updated (without c.args.id)
    (c.remove_id.ensures ∙ ap (without c.args.id) (sym (ids_in-at old c.args.fp.now c.in-Some.ids.now (sym c.in-Some.ensures.value)))) f

pub returns-in-Some-clause-emptied : goal.returns-in-Some-clause-emptied
returns-in-Some-clause-emptied c = λ e.
    let old = c.args.containers.now.entries in
    let new = (c.get_mut.follows.lender c.remove_id.new.ids).entries in
    let updated : IsUpdated old new c.args.fp.now (Some c.remove_id.new.ids) = ((c.get_mut.follows.holds c.remove_id.new.ids).3 (ap is_some (sym c.in-Some.ensures.value))).0 in
    written-at old new c.args.fp.now (Some c.remove_id.new.ids) updated ∙ nothing-left c.remove_id.new.ids.items (let zero : vec_len c.remove_id.new.ids ≡ 0 = grind (arith, nat_tests) in let same : length c.remove_id.new.ids.items ≡ vec_len c.remove_id.new.ids = search rules in same ∙ zero)

pub returns-in-None-clause-ids : goal.returns-in-None-clause-ids
returns-in-None-clause-ids c = λ f.
    ap (λ m. ids_in m.entries f) c.get_mut.follows.holds-at-none ∙ without-absent c.args.containers.now.entries c.args.fp.now c.args.id (sym c.in-None.ensures.value) f
