use Rattle.std.proofs.Common.{◌≡◌, ℕ, List, [], All, length, ap, sym, subst, ◌∙◌, arith}
use Rattle.std.specs.Prelude.{IfSome}
use Rattle.std.specs.List.{AllByRecursion, Contains}
use Rattle.sha1.specs.Sha1.{sha1}
use Rattle.vault_types.specs.declared.Row.{Row}
use Rattle.vault_types.specs.Lists.{IsAscending}
use Rattle.vault_types.specs.State.{length_of}
use Rattle.blob_parts.proofs.RuleLemmas.{ids, IsBelow, short_version, is_recipe}
use Rattle.blob_parts.proofs.rules.has_rules.Goals as goal

pub total_len-requires : goal.total_len-requires
total_len-requires c = short_version c.args.recipe.now.next c.as_slice-rows.result.now (c.are_below.ensures.0 c.if-not-are_below.false) (omega (arith, c.requires.few, ap length c.as_slice-rows.ensures))

on_rows : (P : List Row → Type 0) {xs ys : List Row} → xs ≡ ys → P xs → P ys
on_rows P e h = subst P e h

on_ids : (P : List ℕ → Type 0) {xs ys : List ℕ} → xs ≡ ys → P xs → P ys
on_ids P e h = subst P e h

pub returns-clause-yes : goal.returns-clause-yes
returns-clause-yes c used =
    let r = c.args.recipe.now in
    let e = c.as_slice-rows.ensures in
    let f = c.as_slice-sparse.ensures in
    is_recipe r c.requires (omega arith, omega arith) (omega arith) (omega arith)
    (on_rows (λ xs. All (IsBelow r.next) xs) e (c.are_below.ensures.0 c.if-not-are_below.false))
    (ap length_of (sym e) ∙ sym c.total_len.ensures ∙ c.if-total_len-recipe.false)
    (on_rows (λ xs. xs ≡ [] → IfSome r.whole (λ w. w.0 ≡ sha1 [])) e (c.has_sum_of_none.ensures.0 c.if-not-has_sum_of_none.false))
    (on_ids IsAscending f (c.is_ascending.ensures.yes c.if-not-is_ascending.false))
    (on_ids (λ ns. AllByRecursion (λ n. Contains (ids r.rows) n) ns) f (on_rows (λ xs. AllByRecursion (λ n. Contains (ids xs) n) c.as_slice-sparse.result.now) e (c.in_ok-are_used.ensures.yes used)))

pub returns-clause-no : goal.returns-clause-no
returns-clause-no c is =
    let e = c.as_slice-rows.ensures in
    let f = c.as_slice-sparse.ensures in
    c.in_ok-are_used.ensures.no (on_ids (λ ns. AllByRecursion (λ n. Contains (ids c.as_slice-rows.result.now) n) ns) (sym f)
    (on_rows (λ xs. AllByRecursion (λ n. Contains (ids xs) n) c.args.recipe.now.sparse) (sym e) is.rules.used))
