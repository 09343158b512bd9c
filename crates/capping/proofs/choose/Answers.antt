use Rattle.std.proofs.Common.{◌≡◌, ℕ, List, map, take, ap, sym, subst, ◌∙◌, IfOk}
use Rattle.std.proofs.lemmas.List.{take-map}
use Rattle.vault_types.specs.Capping.{kept_ids, is_before}
use Rattle.vault_types.specs.Lists.{sorted_by, set_of}
use Rattle.capping.specs.Counts.{HasCounted}
use Rattle.capping.proofs.Counting.{ids_in}
use Rattle.capping.proofs.Ranking.{sorted_ids}
use Rattle.capping.proofs.choose.Goals as goal

pub returns : goal.returns
returns c =
    let ids : List ℕ = ids_in c.args.segment.now in
    let counted : HasCounted c.in_ok-counted.counted.items ids = subst (λ es. HasCounted es ids) (sym c.in_ok-counted.ensures) c.in_ok-times.ensures in
    let sorted : map (λ p. p.0) c.sort_by_use.new.counted.items ≡ sorted_by (is_before ids) (set_of ids) =
    sorted_ids c.in_ok-counted.counted.items c.sort_by_use.new.counted.items ids counted c.sort_by_use.ensures.same c.sort_by_use.ensures.sorted in
    let kept : map (λ p. p.0) (take c.args.t c.as_slice.result.now) ≡ kept_ids c.args.segment.now c.args.t =
    ap (λ ps. map (λ p. p.0) (take c.args.t ps)) c.as_slice.ensures.value
    ∙ sym (take-map (λ (p : ℕ × ℕ). p.0) c.args.t c.sort_by_use.new.counted.items) ∙ ap (take c.args.t) sorted in
    subst (λ xs. IfOk c.first_ids.result (λ ids. ids.items ≡ xs)) kept c.first_ids.ensures
