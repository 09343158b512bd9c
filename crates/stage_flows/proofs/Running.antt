-- One item more of a flow, and a front of a flow.
use Rattle.std.proofs.Common.{◌≡◌, ℕ, ◌+◌, ◌<◌, length, length-append, arith, inl, inr, ⊎_elim, List, [], ◌∷◌, ◌++◌, refl, sym, ap, ◌∙◌, subst, append_assoc, Option, Some, None}
use Rattle.vault_types.specs.declared.Flow.{Flow}
use Rattle.vault_types.specs.declared.Flow.TheVariants.{Part, End, Failed, Stopped}
use Rattle.stage_queue.specs.Ends.{Sender, Receiver}
use Rattle.vault_types.specs.Stages.{as_parts, IsFront, flow_parts, has_ended, last_item, Sends}
use Rattle.stage_flows.specs.declared.Last.{Last}
use Rattle.stage_flows.specs.declared.Last.TheVariants as last
use Rattle.stage_flows.specs.Runs.{item_of, closing, run, is_end, Sent, Begins}

module _ {X : Type 0} where
  pub run-part : (xs : List X) (x : X) → run xs None ++ Part x ∷ [] ≡ run (xs ++ x ∷ []) None
  run-part [] x = refl
  run-part (y ∷ ys) x = ap (λ l. Part y ∷ l) (run-part ys x)

  pub run-last : (xs : List X) (l : Last) → run xs None ++ item_of l ∷ [] ≡ run xs (Some l)
  run-last [] l = refl
  run-last (y ∷ ys) l = ap (λ zs. Part y ∷ zs) (run-last ys l)

  pub flow_parts-run : (xs : List X) (l : Option Last) → flow_parts (run xs l) ≡ xs
  flow_parts-run [] None = refl
  flow_parts-run [] (Some last.End) = refl
  flow_parts-run [] (Some (last.Failed f)) = refl
  flow_parts-run [] (Some last.Stopped) = refl
  flow_parts-run (x ∷ xs) l = ap (λ zs. x ∷ zs) (flow_parts-run xs l)

  pub has_ended-run : (xs : List X) (l : Option Last) → has_ended (run xs l) ≡ is_end l
  has_ended-run [] None = refl
  has_ended-run [] (Some last.End) = refl
  has_ended-run [] (Some (last.Failed f)) = refl
  has_ended-run [] (Some last.Stopped) = refl
  has_ended-run (x ∷ xs) l = has_ended-run xs l

  pub last_item-run : {Y : Type 0} (xs : List X) (l : Option Last) → last_item {Y = Y} (run xs l) ≡ closing l
  last_item-run [] None = refl
  last_item-run [] (Some last.End) = refl
  last_item-run [] (Some (last.Failed f)) = refl
  last_item-run [] (Some last.Stopped) = refl
  last_item-run (x ∷ xs) l = last_item-run xs l

  last_of : List (Flow X) → Option Last
  last_of [] = None
  last_of (Part x ∷ xs) = last_of xs
  last_of (End ∷ xs) = Some last.End
  last_of (Failed f ∷ xs) = Some (last.Failed f)
  last_of (Stopped ∷ xs) = Some last.Stopped

  last_of-run : (xs : List X) (l : Option Last) → last_of (run xs l) ≡ l
  unfolding last_of
  last_of-run [] None = refl
  last_of-run [] (Some last.End) = refl
  last_of-run [] (Some (last.Failed f)) = refl
  last_of-run [] (Some last.Stopped) = refl
  last_of-run (x ∷ xs) l = last_of-run xs l

  pub run-one : (xs ys : List X) (l m : Option Last) → run xs l ≡ run ys m → (xs ≡ ys) × (l ≡ m)
  run-one xs ys l m e = (sym (flow_parts-run xs l) ∙ ap flow_parts e ∙ flow_parts-run ys m, sym (last_of-run xs l) ∙ ap last_of e ∙ last_of-run ys m)

  -- the front of a flow is a flow
  pub run-front : (zs : List (Flow X)) (xs : List X) (l : Option Last) → IsFront zs (run xs l) → (ys : List X) × (m : Option Last) × (zs ≡ run ys m) × Begins ys m xs l
  run-front [] xs l f = ([], None, refl, ((xs, refl), inl refl))
  run-front (z ∷ zs) [] None f = let e : (z ∷ (zs ++ f.0)) ≡ [] = f.1 in cc
  run-front (z ∷ zs) [] (Some l) f =
      let e : (z ∷ (zs ++ f.0)) ≡ item_of l ∷ [] = f.1 in
      let h : z ≡ item_of l = cc in
      let t : zs ++ f.0 ≡ [] = cc in
      ([], Some l, (λ i. h i ∷ nothing zs f.0 t i), (([], refl), inr (refl, refl)))
    where
      nothing : (a b : List (Flow X)) → a ++ b ≡ [] → a ≡ []
      nothing [] b e = refl
      nothing (c ∷ cs) b e = cc
  run-front (z ∷ zs) (x ∷ xs) l f =
      let e : (z ∷ (zs ++ f.0)) ≡ Part x ∷ run xs l = f.1 in
      let h : z ≡ Part x = cc in
      let t : zs ++ f.0 ≡ run xs l = cc in
      let r = run-front zs xs l (f.0, t) in (
        x ∷ r.0,
        r.1,
        (λ i. h i ∷ r.2 i),
        (
          (r.3.0.0, ap (λ q. x ∷ q) r.3.0.1),
          ⊎_elim (λ (n : r.1 ≡ None). inl n) (λ (s : (r.1 ≡ l) × (r.0 ≡ xs)). inr (s.0, ap (λ q. x ∷ q) s.1)) r.3.1,
        ),
      )

  pub run-begins : (ys xs : List X) (m l : Option Last) → IsFront (run ys m) (run xs l) → Begins ys m xs l
  run-begins ys xs m l f =
      let r = run-front (run ys m) xs l f in
      let one = run-one ys r.0 m r.1 r.2 in
      subst (λ (p : List X × Option Last). Begins p.0 p.1 xs l) (λ i. (sym one.0 i, sym one.1 i)) r.3

  as_parts-append : (xs ys : List X) → as_parts (xs ++ ys) ≡ as_parts xs ++ as_parts ys
  as_parts-append [] ys = refl
  as_parts-append (x ∷ xs) ys = ap (λ l. Part x ∷ l) (as_parts-append xs ys)

  -- in terms of flows
  pub sent-sends : (due parts : List X) (due_last l : Option Last) → Sent due due_last parts l → Sends (run due due_last) (run parts l)
  sent-sends due parts due_last l s = ⊎_elim
      (λ (e : (parts ≡ due) × (l ≡ due_last)). inl (λ i. run (e.0 i) (e.1 i)))
      (λ (e : IsFront parts due × (l ≡ _)). inr (
        parts,
        as_parts e.0.0 ++ closing due_last,
        sym (append_assoc (as_parts parts) (as_parts e.0.0) (closing due_last)) ∙ ap (λ q. q ++ closing due_last) (sym (as_parts-append parts e.0.0)) ∙ ap (λ q. as_parts q ++ closing due_last) e.0.1,
        ap (run parts) e.1,
      ))
      s

  -- a turn that took an item, or sent one
  pub took_one : (a b : Receiver X) (x : X) (n : ℕ) → b ≡ record a { taken = a.taken ++ x ∷ [] } → length a.taken + n < length b.taken + n
  took_one a b x n e = let t : length b.taken ≡ length (a.taken ++ x ∷ []) = ap (λ r. length r.taken) e in omega (arith, t, length-append a.taken (x ∷ []))

  pub sent_one : (a b : Sender X) (x : X) (n : ℕ) → b ≡ record a { sent = a.sent ++ x ∷ [] } → n + length a.sent < n + length b.sent
  sent_one a b x n e = let t : length b.sent ≡ length (a.sent ++ x ∷ []) = ap (λ r. length r.sent) e in omega (arith, t, length-append a.sent (x ∷ []))
