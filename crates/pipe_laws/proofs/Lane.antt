-- Lanes read backwards.
use Rattle.std.proofs.Common.{◌≡◌, inl, inr, ⊎_elim, ℕ, ◌<◌, ◌≤◌, ◌==◌, Bool, true, false, cond, List, [], ◌∷◌, ◌++◌, length, refl, sym, ap, ◌∙◌, subst, append_assoc, append-nil, Option, None, arith}
use Rattle.std.specs.Prelude.{filter, if◌then◌else◌}
use Rattle.std.specs.List.{AllByRecursion}
use Rattle.std.proofs.lemmas.Bool.Decides.{nat_tests}
use Rattle.vault_types.specs.declared.Flow.{Flow}
use Rattle.vault_types.specs.Stages.{as_parts, IsFront, is_chunk}
use Rattle.stage_flows.specs.declared.Last.{Last}
use Rattle.stage_flows.specs.Runs.{closing, run, Begins}
use Rattle.stage_flows.proofs.Running.{run-one, run-front, run-begins}
use Rattle.stage_lanes.specs.Lanes.{after, lane_parts, lane_after, picked_from}
use Rattle.stage_lanes.proofs.Fronts.{lanes_front, lanes_whole, after-below}
use Rattle.pipe_laws.specs.Pipe.{LaneBack}

module _ {X : Type 0} where
  pub front_trans : (a b c : List X) → IsFront a b → IsFront b c → IsFront a c
  front_trans a b c p q = (p.0 ++ q.0, sym (append_assoc a p.0 q.0) ∙ ap (λ l. l ++ q.0) p.1 ∙ q.1)

  front_back : (a : List X) → IsFront a a
  front_back a = ([], append-nil a)

  -- a front of a front
  pub begins_trans : (a b c : List X) (k l m : Option Last) → Begins a k b l → Begins b l c m → Begins a k c m
  begins_trans a b c k l m p q = (
    front_trans a b c p.0 q.0,
    ⊎_elim (λ (n : k ≡ None). inl n)
        (λ (e : (k ≡ l) × (a ≡ b)). ⊎_elim (λ (n : l ≡ None). inl (e.0 ∙ n)) (λ (f : (l ≡ m) × (b ≡ c)). inr (e.0 ∙ f.0, e.1 ∙ f.1)) q.1)
        p.1,
  )

-- each of them can be a chunk
abbrev pub AllChunks : List (List ℕ) → Type 0
AllChunks xs = AllByRecursion (λ x. is_chunk x ≡ true) xs

filter_short : (xs : List (List ℕ)) → length (filter is_chunk xs) ≤ length xs
filter_short [] = omega arith
filter_short (x ∷ xs) = step (is_chunk x) (filter_short xs)
  where
    step : (b : Bool) → length (filter is_chunk xs) ≤ length xs → length (cond b (x ∷ filter is_chunk xs) (filter is_chunk xs)) ≤ length (x ∷ xs)
    step true h = omega arith
    step false h = omega arith

pub all_of : (xs : List (List ℕ)) → filter is_chunk xs ≡ xs → AllChunks xs
all_of [] e = tt
all_of (x ∷ xs) e = let s = step (is_chunk x) refl e in (s.0, all_of xs s.1)
  where
    step : (b : Bool) → is_chunk x ≡ b → cond b (x ∷ filter is_chunk xs) (filter is_chunk xs) ≡ x ∷ xs → (is_chunk x ≡ true) × (filter is_chunk xs ≡ xs)
    step true t h = (t, cc)
    step false t h = absurd (let e : length (filter is_chunk xs) ≡ length (x ∷ xs) = ap length h in let f = filter_short xs in omega arith)

filter_of : (xs : List (List ℕ)) → AllChunks xs → filter is_chunk xs ≡ xs
filter_of [] h = refl
filter_of (x ∷ xs) h = rw h.0 (ap (λ l. x ∷ l) (filter_of xs h.1))

all_front : (xs rest : List (List ℕ)) → AllChunks (xs ++ rest) → AllChunks xs
all_front [] rest h = tt
all_front (x ∷ xs) rest h = (h.0, all_front xs rest h.1)

pub all_begin : (xs ys : List (List ℕ)) → IsFront xs ys → AllChunks ys → AllChunks xs
all_begin xs ys f h = all_front xs f.0 (subst AllChunks (sym f.1) h)

all_lane : (n c j : ℕ) (xs : List (List ℕ)) → AllChunks xs → AllChunks (lane_parts n c j xs)
all_lane n c j [] h = tt
all_lane n c j (x ∷ xs) h = step (c == j) (all_lane n (after n c) j xs h.1)
  where
    step : (b : Bool) → AllChunks (lane_parts n (after n c) j xs) → AllChunks ((if b then (x ∷ []) else []) ++ lane_parts n (after n c) j xs)
    step true a = (h.0, a)
    step false a = a

-- one lane: what was taken at its far end begins what was dealt to it
lane_back : (dealt : List (List ℕ)) (m : Option Last) (far : List (Flow (List ℕ))) → AllChunks dealt → LaneBack (run dealt m) far → (parts : List (List ℕ)) × (l : Option Last) × (far ≡ run parts l) × Begins parts l dealt m
lane_back dealt m far all b =
    let near : Begins b.named.parts b.over dealt m = run-begins b.named.parts dealt b.over m (subst (λ t. IsFront t (run dealt m)) b.named.took b.near_line) in
    let whole : b.out ≡ run b.named.parts b.over = b.named.gave ∙ ap (λ p. run p b.over) (filter_of b.named.parts (all_begin b.named.parts dealt near.0 all)) in
    let r = run-front far b.named.parts b.over (subst (IsFront far) whole b.far_line) in
    (r.0, r.1, r.2, begins_trans r.0 b.named.parts dealt r.1 b.over m r.3 near)

last_at : {X : Type 0} (xs : List X) (b : Bool) (l : Option Last) → as_parts xs ++ (if b then closing l else []) ≡ run xs (if b then l else None)
last_at xs true l = refl
last_at xs false l = refl

module _ (n : ℕ) (some : 0 < n) (dealt picked : List (List ℕ)) (m l : Option Last) (all : AllChunks dealt)
    (lanes : (j : ℕ) → j < n → LaneBack (run (lane_parts n 0 j dealt) m) (picked_from n picked l j)) where
  at : (j : ℕ) → j < n → Begins (lane_parts n 0 j picked) (if lane_after n 0 picked == j then l else None) (lane_parts n 0 j dealt) m
  at j below =
      let b = lane_back (lane_parts n 0 j dealt) m (picked_from n picked l j) (all_lane n 0 j dealt all) (lanes j below) in
      let one = run-one (lane_parts n 0 j picked) b.0 (if lane_after n 0 picked == j then l else None) b.1 (sym (last_at (lane_parts n 0 j picked) (lane_after n 0 picked == j) l) ∙ b.2) in
      subst (λ (p : List (List ℕ) × Option Last). Begins p.0 p.1 (lane_parts n 0 j dealt) m) (λ i. (sym one.0 i, sym one.1 i)) b.3

  below_all : (c : ℕ) (xs : List (List ℕ)) → c < n → lane_after n c xs < n
  below_all c [] h = h
  below_all c (x ∷ xs) h = below_all (after n c) xs (after-below n c h)

  -- all lanes: what was taken in turn begins what was dealt
  pub lanes_back : Begins picked l dealt m
  lanes_back =
      let front : IsFront picked dealt = lanes_front n 0 picked dealt some (λ j below. (at j below).0) in
      let c = lane_after n 0 picked in
      let here : (c == c) ≡ true = grind (arith, nat_tests) in
      let turn : Begins (lane_parts n 0 c picked) l (lane_parts n 0 c dealt) m = subst (λ b. Begins (lane_parts n 0 c picked) (if b then l else None) (lane_parts n 0 c dealt) m) here (at c (below_all 0 picked some)) in
      (front, ⊎_elim (λ (e : l ≡ None). inl e) (λ (e : (l ≡ m) × (lane_parts n 0 c picked ≡ lane_parts n 0 c dealt)). inr (e.0, lanes_whole n picked dealt front e.1)) turn.1)
