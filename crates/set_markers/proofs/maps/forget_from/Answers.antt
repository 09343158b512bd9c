use Rattle.std.proofs.Common.{◌≡◌, ◌+◌, ◌-◌, ◌≤◌, ◌++◌, ℕ, List, take, drop, length, vec_len, sym, ap, ◌∙◌, subst, arith, rules, append_assoc}
use Rattle.std.specs.Prelude.{nat_eq, filter}
use Rattle.std.proofs.lemmas.List.{take_at, take-take, take_rest, take-append-drop, length-take-le, length-drop, length-append}
use Rattle.set_markers.specs.SetMarkers.{count_of}
use Rattle.set_markers.proofs.maps.forget_from.Goals as goal

-- what is left where a list is cut behind its first k changed elements
cut : (xs same ys post rest : List ℕ) (start k n : ℕ) → same ≡ xs → start ≤ length xs → k ≤ length ys → start + k ≤ n → take (start + k) (take n ((take start same ++ (ys ++ post)) ++ rest)) ≡ take start xs ++ take k ys
cut xs same ys post rest start k n e s l p =
    take-take (start + k) n ((take start same ++ (ys ++ post)) ++ rest) p
    ∙ ap (take (start + k)) (ap (λ zs. (take start zs ++ (ys ++ post)) ++ rest) e ∙ ap (λ zs. (take start xs ++ (zs ++ post)) ++ rest) (sym (take-append-drop k ys)) ∙ simp append_assoc)
    ∙ take_at (take start xs ++ take k ys) (drop k ys ++ (post ++ rest)) (start + k) (length-append (take start xs) (take k ys) ∙ omega (arith, length-take-le start xs s, length-take-le k ys l))

pub returns-clause-kept : goal.returns-clause-kept
returns-clause-kept c =
    let old : List ℕ = c.args.ids.now.items in
    let same = c.deref_mut.result.now in
    let room : c.keep_last-kept.result ≤ length same - c.args.start = subst (λ n. c.keep_last-kept.result ≤ n) (length-take-le (length same - c.args.start) (drop c.args.start same) (omega (arith, length-drop c.args.start same))) c.keep_last-kept.ensures.within in
    let all : vec_len c.args.ids.now ≡ length old = search rules in
    let long : length same ≡ length old = ap length c.deref_mut.ensures.value in
    c.truncate.ensures.items
    ∙ cut old same c.keep_last-kept.new.ids _ _ c.args.start c.keep_last-kept.result (vec_len c.args.ids.now) c.deref_mut.ensures.value (omega (arith, c.requires.start)) (subst (λ n. c.keep_last-kept.result ≤ n) (sym c.keep_last-kept.auto.ids) c.keep_last-kept.ensures.within) (omega (arith, c.requires.start))
    ∙ ap (λ ms. take c.args.start old ++ ms) (c.keep_last-kept.ensures.kept ∙ ap (filter (λ m. nat_eq (count_of m c.args.markers.now.entries) 1)) (take_rest same c.args.start ∙ ap (drop c.args.start) c.deref_mut.ensures.value))
