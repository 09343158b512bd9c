-- One lane more is made, and lanes by their lines.
use Rattle.std.proofs.Common.{◌≡◌, false, List, [], ◌∷◌, ◌++◌, map, refl, sym, ◌∙◌, subst, ℕ}
use Rattle.std.specs.List.{AllByRecursion}
use Rattle.std.proofs.lemmas.List.{map-append}
use Rattle.stage_queue.specs.Ends.{Sender, Receiver}
use Rattle.stop_word.specs.Holders.{HolderState, Family}
use Rattle.vault_types.specs.declared.Flow.{Flow}
use Rattle.stage_lanes.specs.Steps.{lines_of, ends_of}
use Rattle.pipe_lanes.specs.Lanes.{LaneView, AreEnds, HaveEnds, AreRooms, AreNew}

abbrev Near : Type 0
Near = List (Sender (Flow (List ℕ)))

abbrev Far : Type 0
Far = List (Receiver (Flow (List ℕ)))

module _ {X : Type 0} (P : X → Type 0) where
  pub all_push : (xs : List X) (x : X) → AllByRecursion P xs → P x → AllByRecursion P (xs ++ x ∷ [])
  all_push [] x h p = (p, tt)
  all_push (y ∷ ys) x h p = (h.0, all_push ys x h.1 p)

  pub all_split : (xs ys : List X) → AllByRecursion P (xs ++ ys) → AllByRecursion P xs × AllByRecursion P ys
  all_split [] ys h = (tt, h)
  all_split (x ∷ xs) ys h = let s = all_split xs ys h.1 in ((h.0, s.0), s.1)

  pub all_join : (xs ys : List X) → AllByRecursion P xs → AllByRecursion P ys → AllByRecursion P (xs ++ ys)
  all_join [] ys h k = k
  all_join (x ∷ xs) ys h k = (h.0, all_join xs ys h.1 k)

pub rooms_none : AreRooms [] [] []
rooms_none = record { ends = (refl, refl); unsent = tt; untaken = tt }

pub rooms_push : (ns : Near) (ls : List LaneView) (fs : Far) (t : Sender (Flow (List ℕ))) (l : LaneView) (r : Receiver (Flow (List ℕ))) → AreRooms ns ls fs → (t.line ≡ l.near) × (r.line ≡ l.far) → (t.sent ≡ []) × (r.taken ≡ [])
    → AreRooms (ns ++ t ∷ []) (ls ++ l ∷ []) (fs ++ r ∷ [])
rooms_push ns ls fs t l r h e u = record {
  ends = (
    map-append (λ x. x.line) ns (t ∷ []) ∙ (λ i. h.ends.0 i ++ e.0 i ∷ []) ∙ sym (map-append (λ x. x.near) ls (l ∷ [])),
    map-append (λ x. x.line) fs (r ∷ []) ∙ (λ i. h.ends.1 i ++ e.1 i ∷ []) ∙ sym (map-append (λ x. x.far) ls (l ∷ [])),
  );
  unsent = all_push (λ x. x.sent ≡ []) ns t h.unsent u.0;
  untaken = all_push (λ x. x.taken ≡ []) fs r h.untaken u.1;
}

-- the next holder goes to the next lane
pub new_next : (f : Family) (ls : List LaneView) (l : LaneView) (hs : List HolderState) (h : HolderState) → AreNew f (map (λ x. x.holder) ls) → AreNew f (hs ++ h ∷ []) → l.holder ≡ h
    → AreNew f (map (λ x. x.holder) (ls ++ l ∷ [])) × AreNew f hs
new_next f ls l hs h a b e =
    let s = all_split (λ k. (k.family ≡ f) × (k.raised ≡ false) × (k.saw ≡ false)) hs (h ∷ []) b in (
      subst (AreNew f) (sym (map-append (λ x. x.holder) ls (l ∷ []))) (all_push (λ k. (k.family ≡ f) × (k.raised ≡ false) × (k.saw ≡ false)) (map (λ x. x.holder) ls) l.holder a (subst (λ k. (k.family ≡ f) × (k.raised ≡ false) × (k.saw ≡ false)) (sym e) s.1.0)),
      s.0,
    )

pub ends_by_lines : (ns : Near) (ls : List LaneView) (fs : Far) → HaveEnds ns ls fs → AreEnds ls ns fs
ends_by_lines [] [] [] h = tt
ends_by_lines [] [] (f ∷ fs) h = cc
ends_by_lines [] (l ∷ ls) fs h = cc
ends_by_lines (n ∷ ns) [] fs h = cc
ends_by_lines (n ∷ ns) (l ∷ ls) [] h = cc
ends_by_lines (n ∷ ns) (l ∷ ls) (f ∷ fs) h = let a = h.0 in let b = h.1 in
    let near : n.line ≡ l.near = cc in let far : f.line ≡ l.far = cc in let nears : lines_of ns ≡ map (λ x. x.near) ls = cc in let fars : ends_of fs ≡ map (λ x. x.far) ls = cc in
    ((near, far), ends_by_lines ns ls fs (nears, fars))
