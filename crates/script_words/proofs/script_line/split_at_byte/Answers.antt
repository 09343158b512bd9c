use Rattle.std.proofs.Common.{◌≡◌, ◌+◌, ◌-◌, ◌++◌, ◌∷◌, [], List, ℕ, map, take, drop, refl, ap, sym, ◌∙◌, arith, Bor}
use Rattle.std.proofs.lemmas.List.{map_push}
use Rattle.vault_types.specs.Words as spec
use Rattle.script_words.proofs.Splits.{split_end, split_step}
use Rattle.script_words.proofs.script_line.split_at_byte.Goals as goal

pushed : (items new : List (Bor (List ℕ))) (part : Bor (List ℕ)) (t : List ℕ) → new ≡ items ++ part ∷ [] → part.now ≡ t → map (λ p. p.now) new ≡ map (λ p. p.now) items ++ t ∷ []
pushed items new part t e f =
    let g = λ (p : Bor (List ℕ)). p.now in
    ap (λ ps. map g ps) e ∙ map_push g items part ∙ ap (λ (u : List ℕ). map g items ++ u ∷ []) f

pub returns-then-end-text : goal.returns-then-end-text
returns-then-end-text c =
    let start = c.loop-parts.start in
    let end = c.next_place-end.result in
    let text = c.args.text.now in
    pushed _ _ _ (take (end - start) (drop start text)) c.in_ok-push.ensures.items refl
    ∙ sym (split_end c.args.byte text start end (map (λ p. p.now) c.loop-parts.parts.items) c.next_place-end.ensures.place c.if-end-text.true c.loop-parts.invariant.so_far)

pub loop-parts-preserved : goal.loop-parts-preserved
loop-parts-preserved c =
    let start = c.loop-parts.start in
    let end = c.next_place-end.result in
    let text = c.args.text.now in
    record {
      within = omega (arith, c.next_place-end.ensures.within, c.if-end-text.false);
      so_far =
          split_step c.args.byte text start end (map (λ p. p.now) c.loop-parts.parts.items) c.next_place-end.ensures.place (omega (arith, c.next_place-end.ensures.within, c.if-end-text.false)) c.loop-parts.invariant.so_far
          ∙ ap (λ (ps : List (List ℕ)). ps ++ spec.split_at_byte c.args.byte (drop (end + 1) text)) (sym (pushed _ _ _ (take (end - start) (drop start text)) c.in_ok-push.ensures.items refl));
    }
