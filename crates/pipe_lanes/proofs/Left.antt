-- One lane more is ended.
use Rattle.std.proofs.Common.{◌≡◌, ℕ, List, [], ◌∷◌, ◌++◌, refl, sym, ap, ◌∙◌, subst, append_assoc, append-nil}
use Rattle.stage_queue.specs.Ends.{Sender, Receiver}
use Rattle.vault_types.specs.declared.Flow.{Flow}
use Rattle.pipe_laws.specs.Pipe.{LaneBack}
use Rattle.pipe_lanes.specs.Lanes.{LaneView, AreEnds, AreBack, AreLeft}

abbrev Near : Type 0
Near = List (Sender (Flow (List ℕ)))

abbrev Far : Type 0
Far = List (Receiver (Flow (List ℕ)))

pub left_none : (near : Near) (far : Far) (ls : List LaneView) → AreEnds ls near far → AreLeft near far ls near far
left_none near far ls e = record { near_done = []; far_done = []; near_is = refl; far_is = refl; back = tt; left = e }

pub no_near : (near : Near) (far : Far) (l : LaneView) (ls : List LaneView) (ns : Near) (fs : Far) → AreLeft near far (l ∷ ls) ns fs → ns ≡ [] → ⊥
no_near near far l ls ns fs h e = none fs (subst (λ q. AreEnds (l ∷ ls) q fs) e h.left)
  where
    none : (fs : Far) → AreEnds (l ∷ ls) [] fs → ⊥
    none [] x = x
    none (f ∷ fs) x = x

pub no_far : (near : Near) (far : Far) (l : LaneView) (ls : List LaneView) (ns : Near) (fs : Far) → AreLeft near far (l ∷ ls) ns fs → fs ≡ [] → ⊥
no_far near far l ls ns fs h e = none ns (subst (λ q. AreEnds (l ∷ ls) ns q) e h.left)
  where
    none : (ns : Near) → AreEnds (l ∷ ls) ns [] → ⊥
    none [] x = x
    none (n ∷ ns) x = x

back_snoc : (ns : Near) (fs : Far) (t : Sender (Flow (List ℕ))) (r : Receiver (Flow (List ℕ))) → AreBack ns fs → LaneBack t.sent r.taken → AreBack (ns ++ t ∷ []) (fs ++ r ∷ [])
back_snoc [] [] t r h b = (b, tt)
back_snoc [] (f ∷ fs) t r h b = absurd h
back_snoc (n ∷ ns) [] t r h b = absurd h
back_snoc (n ∷ ns) (f ∷ fs) t r h b = (h.0, back_snoc ns fs t r h.1 b)

pub left_next : (near : Near) (far : Far) (l : LaneView) (ls : List LaneView) (ns ns' : Near) (fs fs' : Far) (t : Sender (Flow (List ℕ))) (r : Receiver (Flow (List ℕ))) → AreLeft near far (l ∷ ls) ns fs → ns ≡ t ∷ ns' → fs ≡ r ∷ fs'
    → ((t.line ≡ l.near) × (r.line ≡ l.far)) × (LaneBack t.sent r.taken → AreLeft near far ls ns' fs')
left_next near far l ls ns ns' fs fs' t r h a b =
    let e : ((t.line ≡ l.near) × (r.line ≡ l.far)) × AreEnds ls ns' fs' = subst (λ (p : Near × Far). AreEnds (l ∷ ls) p.0 p.1) (λ i. (a i, b i)) h.left in (
      e.0,
      λ q. record {
        near_done = h.near_done ++ t ∷ [];
        far_done = h.far_done ++ r ∷ [];
        near_is = h.near_is ∙ ap (λ z. h.near_done ++ z) a ∙ sym (append_assoc h.near_done (t ∷ []) ns');
        far_is = h.far_is ∙ ap (λ z. h.far_done ++ z) b ∙ sym (append_assoc h.far_done (r ∷ []) fs');
        back = back_snoc h.near_done h.far_done t r h.back q;
        left = e.1;
      },
    )

pub left_all : (near : Near) (far : Far) (ls : List LaneView) (ns : Near) (fs : Far) → AreLeft near far ls ns fs → ls ≡ [] → AreBack near far
left_all near far ls ns fs h e = step ns fs refl refl (subst (λ q. AreEnds q ns fs) e h.left)
  where
    step : (xs : Near) (ys : Far) → ns ≡ xs → fs ≡ ys → AreEnds [] xs ys → AreBack near far
    step [] [] a b x = subst (λ (p : Near × Far). AreBack p.0 p.1) (λ i. (sym (h.near_is ∙ ap (λ z. h.near_done ++ z) a ∙ append-nil h.near_done) i, sym (h.far_is ∙ ap (λ z. h.far_done ++ z) b ∙ append-nil h.far_done) i)) h.back
    step [] (y ∷ ys) a b x = absurd x
    step (x ∷ xs) [] a b y = absurd y
    step (x ∷ xs) (y ∷ ys) a b z = absurd z
