-- What was taken from lanes in turn begins what was dealt to them.
use Rattle.std.proofs.Common.{◌≡◌, ℕ, ◌+◌, ◌<◌, ◌==◌, true, false, List, [], ◌∷◌, ◌++◌, sym, refl, ap, ◌∙◌, arith, append_assoc, append-nil}
use Rattle.std.specs.Prelude.{if◌then◌else◌}
use mathlib.Core.Logic.{dite}
use native.Mathlib.Decide.{ℕ_discrete}
use Rattle.std.proofs.lemmas.Bool.Decides.{nat_tests}
use Rattle.vault_types.specs.Stages.{IsFront}
use Rattle.stage_lanes.specs.Lanes.{after, at_lane, lane_parts, lane_after}
use Rattle.stage_lanes.proofs.Dealt.{at_lane-here, at_lane-there}

pub after-below : (n c : ℕ) → c < n → after n c < n
after-below n c h = dite (ℕ_discrete (c + 1) n)
    (λ e. let t : (c + 1 == n) ≡ true = grind (arith, nat_tests) in let is : after n c ≡ 0 = ap (λ b. if b then 0 else (c + 1)) t in omega (arith, is))
    (λ ne. let t : (c + 1 == n) ≡ false = grind (arith, nat_tests) in let is : after n c ≡ c + 1 = ap (λ b. if b then 0 else (c + 1)) t in omega (arith, is))

module _ {X : Type 0} where
  abbrev pub Begin : ℕ → ℕ → List X → List X → Type 0
  Begin n c order items = (j : ℕ) → j < n → IsFront (lane_parts n c j order) (lane_parts n c j items)

  pub lanes_front : (n c : ℕ) (order items : List X) → c < n → Begin n c order items → IsFront order items
  lanes_front n c [] items h b = (items, refl)
  lanes_front n c (x ∷ xs) [] h b =
      let r = b c h in absurd (let q : x ∷ (lane_parts n (after n c) c xs ++ r.0) ≡ [] = ap (λ l. (l ++ lane_parts n (after n c) c xs) ++ r.0) (sym (at_lane-here c x)) ∙ r.1 in cc)
  lanes_front n c (x ∷ xs) (y ∷ ys) h b =
      let r = b c h in
      let q : x ∷ (lane_parts n (after n c) c xs ++ r.0) ≡ y ∷ lane_parts n (after n c) c ys =
      ap (λ l. (l ++ lane_parts n (after n c) c xs) ++ r.0) (sym (at_lane-here c x)) ∙ r.1 ∙ ap (λ l. l ++ lane_parts n (after n c) c ys) (at_lane-here c y) in
      let same : x ≡ y = cc in
      let tail : lane_parts n (after n c) c xs ++ r.0 ≡ lane_parts n (after n c) c ys = cc in
      let rest : Begin n (after n c) xs ys = λ j below. dite (ℕ_discrete j c)
      (λ here. (r.0, ap (λ k. lane_parts n (after n c) k xs ++ r.0) here ∙ tail ∙ ap (λ k. lane_parts n (after n c) k ys) (sym here)))
      (λ there. let s = b j below in (s.0, ap (λ l. (l ++ lane_parts n (after n c) j xs) ++ s.0) (sym (at_lane-there c j x there)) ∙ s.1 ∙ ap (λ l. l ++ lane_parts n (after n c) j ys) (at_lane-there c j y there))) in
      let f = lanes_front n (after n c) xs ys (after-below n c h) rest in
      (f.0, λ i. same i ∷ f.1 i)

  pub lane_parts-append : (n c j : ℕ) (xs ys : List X) → lane_parts n c j (xs ++ ys) ≡ lane_parts n c j xs ++ lane_parts n (lane_after n c xs) j ys
  lane_parts-append n c j [] ys = refl
  lane_parts-append n c j (x ∷ xs) ys = ap (λ l. at_lane c j x ++ l) (lane_parts-append n (after n c) j xs ys) ∙ sym (append_assoc (at_lane c j x) (lane_parts n (after n c) j xs) (lane_parts n (lane_after n (after n c) xs) j ys))

  nothing_more : (a b : List X) → a ≡ a ++ b → b ≡ []
  nothing_more [] b e = sym e
  nothing_more (x ∷ xs) b e = let t : xs ≡ xs ++ b = cc in nothing_more xs b t

  -- where the lane whose turn it is has nothing more, all was taken
  pub lanes_whole : (n : ℕ) (order items : List X) → IsFront order items → lane_parts n 0 (lane_after n 0 order) order ≡ lane_parts n 0 (lane_after n 0 order) items → order ≡ items
  lanes_whole n order items f e = whole f.0 f.1
    where
      at_last : (rest : List X) → lane_parts n (lane_after n 0 order) (lane_after n 0 order) rest ≡ [] → rest ≡ []
      at_last [] q = refl
      at_last (y ∷ ys) q = absurd (let p : y ∷ lane_parts n (after n (lane_after n 0 order)) (lane_after n 0 order) ys ≡ [] = ap (λ l. l ++ lane_parts n (after n (lane_after n 0 order)) (lane_after n 0 order) ys) (sym (at_lane-here (lane_after n 0 order) y)) ∙ q in cc)

      whole : (rest : List X) → order ++ rest ≡ items → order ≡ items
      whole rest is =
          let c = lane_after n 0 order in
          let long : lane_parts n 0 c order ≡ lane_parts n 0 c order ++ lane_parts n c c rest = e ∙ ap (lane_parts n 0 c) (sym is) ∙ lane_parts-append n 0 c order rest in
          let none : rest ≡ [] = at_last rest (nothing_more (lane_parts n 0 c order) (lane_parts n c c rest) long) in
          sym (append-nil order) ∙ ap (λ r. order ++ r) (sym none) ∙ is
