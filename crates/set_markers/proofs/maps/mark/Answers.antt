use Rattle.std.proofs.Common.{◌≡◌, ◌+◌, sym, ap, ◌∙◌, cond, is_some, true, arith}
use Rattle.std.specs.Prelude.{nat_eq}
use Rattle.std.specs.Map.{lookup}
use Rattle.set_markers.specs.SetMarkers.{is_key, count_of, some_count}
use Rattle.set_markers.proofs.maps.mark.Goals as goal

pub returns-in-Some-clause-counted : goal.returns-in-Some-clause-counted
returns-in-Some-clause-counted c = λ i.
    let there : is_some (lookup (is_key c.args.set c.args.id) c.args.markers.now.entries) ≡ true = ap is_some (sym c.get.ensures.value ∙ sym c.copied.ensures ∙ c.in-Some.is) in
    let same : count_of i c.set_marker.new.markers.entries ≡ count_of i c.args.markers.now.entries + 0 =
    c.set_marker.ensures.count i ∙ ap (λ b. count_of i c.args.markers.now.entries + cond b 0 (cond (nat_eq c.args.id i) 1 0)) there in
    c.requires.counted i ∙ ap some_count (omega arith)
