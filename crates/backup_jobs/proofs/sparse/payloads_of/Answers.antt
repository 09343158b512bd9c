use Rattle.std.proofs.Common.{◌≡◌, ℕ, ◌+◌, ◌<◌, List, [], ◌∷◌, ◌++◌, length, get_or, map, take, sym, ap, ◌∙◌}
use Rattle.std.proofs.lemmas.List.{take_more, map-append}
use Rattle.backup_jobs.specs.Going.{len_at}
use Rattle.backup_jobs.proofs.sparse.payloads_of.Goals as goal

one_more : (f : ℕ → ℕ) (ids : List ℕ) (i n : ℕ) (payloads : List (ℕ × ℕ)) → i < length ids → n ≡ f (get_or ids i 0) → payloads ≡ map (λ c. (c, f c)) (take i ids)
    → payloads ++ (get_or ids i 0, n) ∷ [] ≡ map (λ c. (c, f c)) (take (i + 1) ids)
one_more f ids i n payloads low is so_far =
    ap (λ ps. ps ++ (get_or ids i 0, n) ∷ []) so_far
    ∙ ap (λ m. map (λ c. (c, f c)) (take i ids) ++ (get_or ids i 0, m) ∷ []) is
    ∙ sym (map-append (λ c. (c, f c)) (take i ids) (get_or ids i 0 ∷ []))
    ∙ ap (map (λ c. (c, f c))) (sym (take_more ids i 0 low))

pub loop-id-preserved : goal.loop-id-preserved
loop-id-preserved g c K keeps =
    c.in_ok-push.ensures.items ∙ one_more (len_at K.state.containers c.args.first c.args.lens.now) c.args.ids.now c.loop-id.id-index c.len_at.result c.loop-id.payloads.items c.loop-id-test.true (c.len_at.ensures K keeps) (c.loop-id.invariant K keeps)
