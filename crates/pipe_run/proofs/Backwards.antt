-- A job's ends as a pipeline that is read backwards.
use Rattle.std.proofs.Common.{◌≡◌, ◌⊎◌, inl, inr, ⊎_elim, ℕ, zero, suc, ◌+◌, ◌*◌, ◌<◌, ◌≤◌, ◌||◌, Bool, true, false, true≢false, List, [], ◌∷◌, ◌++◌, length, append-nil, refl, sym, ap, ◌∙◌, subst, Option, Some, None, arith, length-append}
use Rattle.std.specs.Prelude.{slice_get}
use Rattle.std.specs.Option.{is_some}
use Rattle.std.specs.List.{concat, AllByRecursion}
use Rattle.std.proofs.lemmas.List.{map-append}
use Rattle.stage_queue.specs.Ends.{Sender, Receiver}
use Rattle.vault_types.specs.declared.Cutting.{Cutting}
use Rattle.vault_types.specs.declared.Fault.{Fault}
use Rattle.vault_types.specs.declared.Flow.{Flow}
use Rattle.vault_types.specs.declared.Fp.{Fp}
use Rattle.vault_types.specs.Names.{fp}
use Rattle.vault_types.specs.Decide.{Rules}
use Rattle.vault_types.specs.Stages.{IsLine, IsFront, but_last}
use Rattle.vault_traits.specs.Told.{SourceTold}
use Rattle.rewrite_stage.specs.declared.Decided.{Decided}
use Rattle.stage_flows.specs.declared.Last.{Last}
use Rattle.stage_flows.specs.declared.Last.TheVariants as last
use Rattle.stage_flows.specs.Runs.{run, is_stop}
use Rattle.stage_flows.proofs.Running.{run-one}
use Rattle.vault_types.specs.JobRanges.{IsCuttable}
use Rattle.source_reads.specs.Reading.{HasRead, Advances, IsOwnEnd, WentOn}
use Rattle.stage_lanes.specs.Lanes.{AllAt, lane_parts, picked_from}
use Rattle.stage_rules.specs.Chunking.{IsOwnFault}
use Rattle.segment_gather.specs.Segmented.{parts_of}
use Rattle.chunk_stage.specs.Stage.{IsBack as ChunkBack}
use Rattle.decide_stage.specs.Deciding.{IsBack as DecideBack}
use Rattle.pipe_laws.specs.Pipe.{LaneBack, Pipe, AsOne}
use Rattle.pipe_laws.proofs.Lane.{front_trans}
use Rattle.pipe_laws.proofs.Back.{read_back, as_one}
use Rattle.pipe_lanes.specs.Lanes.{AreBack}
use Rattle.pipe_run.specs.Jobs.{named_item, named_items, IsJobBack}

abbrev Near : Type 0
Near = List (Sender (Flow (List ℕ)))

abbrev Far : Type 0
Far = List (Receiver (Flow (List ℕ)))

-- lanes

lane : (s t x y : List (Flow (List ℕ))) → LaneBack s t → IsFront s x → t ≡ y → LaneBack x y
lane s t x y b p q = record { took = b.took; out = b.out; over = b.over; near_line = front_trans b.took s x b.near_line p; named = b.named; far_line = subst (λ z. IsFront z b.out) q b.far_line }

middle : (near : Near) (far : Far) (f g : ℕ → List (Flow (List ℕ))) → AreBack near far
    → ((j : ℕ) (t : Sender (Flow (List ℕ))) → slice_get near j ≡ Some t → IsFront t.sent (f j))
    → ((j : ℕ) (t : Receiver (Flow (List ℕ))) → slice_get far j ≡ Some t → t.taken ≡ g j)
    → (j : ℕ) → j < length near → LaneBack (f j) (g j)
middle [] [] f g b p q j h = absurd (omega arith)
middle [] (r ∷ rs) f g b p q j h = absurd b
middle (t ∷ ts) [] f g b p q j h = absurd b
middle (t ∷ ts) (r ∷ rs) f g b p q zero h = lane t.sent r.taken (f 0) (g 0) b.0 (p 0 t refl) (q 0 r refl)
middle (t ∷ ts) (r ∷ rs) f g b p q (suc j) h = middle ts rs (λ k. f (suc k)) (λ k. g (suc k)) b.1 (λ k u e. p (suc k) u e) (λ k u e. q (suc k) u e) j (omega arith)

lens : (near : Near) (far : Far) → AreBack near far → length near ≡ length far
lens [] [] b = refl
lens [] (r ∷ rs) b = absurd b
lens (t ∷ ts) [] b = absurd b
lens (t ∷ ts) (r ∷ rs) b = ap (λ n. suc n) (lens ts rs b.1)

-- a read more is of at most 65,536 bytes

last_within : (xs : List (List ℕ)) → AllByRecursion (λ x. (1 ≤ length x) × (length x ≤ 65536)) xs → length (concat xs) ≤ length (concat (but_last xs)) + 65536
last_within [] a = omega arith
last_within (x ∷ []) a = let e : length (x ++ []) ≡ length x = ap length (append-nil x) in omega (arith, a.0.1)
last_within (x ∷ y ∷ zs) a =
    let h = last_within (y ∷ zs) a.1 in
    let p : length (x ++ concat (y ∷ zs)) ≡ length x + length (concat (y ∷ zs)) = length-append x (concat (y ∷ zs)) in
    let q : length (x ++ concat (but_last (y ∷ zs))) ≡ length x + length (concat (but_last (y ∷ zs))) = length-append x (concat (but_last (y ∷ zs))) in
    omega (arith, h)

-- one line after the last stage

only_lane : {X : Type 0} (xs : List X) → lane_parts 1 0 0 xs ≡ xs
only_lane [] = refl
only_lane (x ∷ xs) = ap (λ l. x ∷ l) (only_lane xs)

named_run : (xs : List Decided) (l : Option Last) → named_items (run xs l) ≡ run (parts_of xs) l
named_run [] None = refl
named_run [] (Some last.End) = refl
named_run [] (Some (last.Failed f)) = refl
named_run [] (Some last.Stopped) = refl
named_run (d ∷ ds) l = ap (λ zs. named_item (Flow.Part d) ∷ zs) (named_run ds l)

named_front : (xs ys : List (Flow Decided)) → IsFront xs ys → IsFront (named_items xs) (named_items ys)
named_front xs ys f = (named_items f.0, sym (map-append named_item xs f.0) ∙ ap named_items f.1)

of_line : {X : Type 0} (sent taken waiting : List X) → IsLine sent taken waiting → IsFront taken sent
of_line sent taken waiting h = (waiting, h.same)

-- what the ends of a job's stages and lines tell
pub record Ends (c : Cutting) (find : Fp → Option ℕ) (r : Rules) (limit : ℕ) (from to : SourceTold) (taken : List (Flow Decided)) (sum : Fp) (near : Near) (far : Far) (chunk_raised decide_raised : Bool) : Type 0 where
  pub cuttable : IsCuttable c
  pub some : 0 < length near
  pub read_sent : List (Flow (List ℕ))
  pub read_ready : List (Flow (List ℕ))
  pub over : Option Last
  pub read : ℕ
  pub saw : Bool
  pub reading : HasRead limit read (read_sent ++ read_ready) over saw
  pub going : Advances from [] to (read_sent ++ read_ready)
  pub sum_taken : List (Flow (List ℕ))
  pub first_line : IsFront sum_taken read_sent
  pub sum_sent : List (Flow (List ℕ))
  pub sum_ready : List (Flow (List ℕ))
  pub passed : sum_sent ++ sum_ready ≡ sum_taken
  pub summed_over : Option Last
  pub summed : (parts : List (List ℕ)) × (sum_taken ≡ run parts summed_over) × (sum ≡ fp (concat parts))
  pub chunk_taken : List (Flow (List ℕ))
  pub second_line : IsFront chunk_taken sum_sent
  pub reads_over : Option Last
  pub chunking : ChunkBack c limit chunk_taken reads_over near chunk_raised
  pub lanes : AreBack near far
  pub named_over : Option Last
  pub out : Sender (Flow Decided)
  pub deciding : DecideBack find r limit far named_over (out ∷ []) decide_raised
  pub last_line : IsFront taken out.sent

module _ (c : Cutting) (find : Fp → Option ℕ) (r : Rules) (limit : ℕ) (from to : SourceTold) (taken : List (Flow Decided)) (sum : Fp) (near : Near) (far : Far) (chunk_raised decide_raised : Bool)
    (e : Ends c find r limit from to taken sum near far chunk_raised decide_raised) where
  pipe : Pipe c find r limit (length near) e.read e.saw (e.read_sent ++ e.read_ready) e.over (named_items taken)
  pipe = record {
    cuttable = e.cuttable;
    some = e.some;
    reading = e.reading;
    reads = e.chunking.reads;
    reads_over = e.reads_over;
    summed = e.summed.0;
    summed_over = e.summed_over;
    first_line = subst (λ z. IsFront z (e.read_sent ++ e.read_ready)) e.summed.1 (front_trans e.sum_taken e.read_sent (e.read_sent ++ e.read_ready) e.first_line (e.read_ready, refl));
    second_line = subst (λ (z : List (Flow (List ℕ)) × List (Flow (List ℕ))). IsFront z.0 z.1) (λ i. (e.chunking.took i, e.summed.1 i)) (front_trans e.chunk_taken e.sum_sent e.sum_taken e.second_line (e.sum_ready, e.passed));
    chunks = e.chunking.parts;
    chunks_over = e.chunking.l;
    chunking = e.chunking.chunking;
    named = e.deciding.chunks;
    named_over = e.named_over;
    middle_lines = middle near far (λ j. run (lane_parts (length near) 0 j e.chunking.parts) e.chunking.l) (λ j. picked_from (length near) e.deciding.chunks e.named_over j) e.lanes e.chunking.lines
        (subst (λ n. AllAt (λ (t : Receiver (Flow (List ℕ))). t.taken) far (picked_from n e.deciding.chunks e.named_over)) (sym (lens near far e.lanes)) e.deciding.picked);
    decided = parts_of e.deciding.gone;
    decided_over = e.deciding.l;
    deciding = e.deciding.decided;
    last_line = subst (IsFront (named_items taken)) (named_run e.deciding.gone e.deciding.l)
        (named_front taken (run e.deciding.gone e.deciding.l)
        (front_trans taken e.out.sent (run e.deciding.gone e.deciding.l) e.last_line (subst (λ q. IsFront e.out.sent (run q e.deciding.l)) (only_lane e.deciding.gone) (e.deciding.lines 0 e.out refl))));
  }

  whole : AsOne e.reading.reads e.over e.summed.0 e.reads_over e.chunking.l e.named_over e.deciding.l (named_items taken)
  unfolding pipe
  whole = as_one c find r limit (length near) e.read e.saw (e.read_sent ++ e.read_ready) e.over (named_items taken) pipe

  named_taken : (parts : List Decided) (l : Option Last) → taken ≡ run parts l → named_items taken ≡ run (parts_of parts) l
  named_taken parts l is = ap named_items is ∙ named_run parts l

  -- a stage with a fault of its own did not end with another last item
  no_own : (own : Option Fault) (over l : Option Last) (k : Last) → IsOwnFault own over l → l ≡ Some k → ((f : Fault) → k ≡ last.Failed f → ⊥) → is_some own ≡ false
  no_own None over l k h is unlike = refl
  no_own (Some f) over l k h is unlike = absurd (unlike f (let same : ◌≡◌ {A = Option Last} (Some k) (Some (last.Failed f)) = sym is ∙ h in cc))

  -- the fault of a stage behind the reading one that came out
  first_own : Option Fault → Option Fault → Option Fault
  first_own None chunk = chunk
  first_own (Some g) chunk = Some g

  some_own : (decide chunk : Option Fault) → is_some (first_own decide chunk) ≡ (is_some chunk || is_some decide)
  unfolding first_own
  some_own None None = refl
  some_own None (Some f) = refl
  some_own (Some g) None = refl
  some_own (Some g) (Some f) = refl

  came_of : (decide chunk : Option Fault) (parts : List Decided) (k : Last) → taken ≡ run parts (Some k) → IsOwnFault decide e.named_over e.deciding.l → IsOwnFault chunk e.reads_over e.chunking.l → IsOwnFault (first_own decide chunk) e.over (Some k)
  unfolding first_own
  came_of (Some g) chunk parts k is d c = sym (whole.far_last (parts_of parts) k (named_taken parts (Some k) is)) ∙ d
  came_of None (Some f) parts k is d c = sym (whole.lane_last k (sym d ∙ whole.far_last (parts_of parts) k (named_taken parts (Some k) is))) ∙ c
  came_of None None parts k is d c = sym (whole.read_last k (sym c ∙ whole.lane_last k (sym d ∙ whole.far_last (parts_of parts) k (named_taken parts (Some k) is))))

  or_true : (a b : Bool) → (a || b) ≡ true → (a ≡ true) ⊎ (b ≡ true)
  or_true true b h = inl refl
  or_true false b h = inr h

  pub job_back : (stopped raised : Bool) (parts : List Decided) (k : Last) → taken ≡ run parts (Some k) → raised ≡ (stopped || (chunk_raised || decide_raised))
      → (e.saw ≡ true → raised ≡ true)
      → IsJobBack c find r limit from to taken sum stopped raised
  unfolding pipe
  job_back stopped raised parts k is by seen = record {
    reads = e.reading.reads;
    over = e.over;
    went = subst (WentOn from to) (sym e.going.1 ∙ e.reading.gave) e.going.2;
    within = omega (arith, last_within e.reading.reads e.reading.sizes, e.reading.within);
    ended = subst (λ n. IsOwnEnd limit n e.over) e.reading.count e.reading.ended;
    back = read_back c find r limit (length near) e.read e.saw (e.read_sent ++ e.read_ready) e.over (named_items taken) pipe;
    summed = λ ps at. e.summed.2 ∙ ap (λ q. fp (concat q)) (whole.whole (parts_of ps) (named_taken ps (Some last.End) at));
    own = first_own e.deciding.own e.chunking.own;
    own_is = λ ps l at. came_of e.deciding.own e.chunking.own ps l at e.deciding.own_is e.chunking.own_is;
    raised_is = by ∙ ap (λ b. stopped || b) ((λ i. e.chunking.raised_is i || e.deciding.raised_is i) ∙ sym (some_own e.deciding.own e.chunking.own));
    stopped_by = λ ps at.
        let b = read_back c find r limit (length near) e.read e.saw (e.read_sent ++ e.read_ready) e.over (named_items taken) pipe in
        let l_is : b.l ≡ Some last.Stopped = (run-one b.parts (parts_of ps) b.l (Some last.Stopped) (sym b.far_is ∙ named_taken ps (Some last.Stopped) at)).1 in
        let saw : e.saw ≡ true = e.reading.looked ∙ ap is_stop (b.stopped l_is) in
        ⊎_elim (λ (s : stopped ≡ true). s)
        (λ (o : (chunk_raised || decide_raised) ≡ true). absurd (no_fault ps last.Stopped at (λ f q. absurd (cc)) (or_true chunk_raised decide_raised o)))
        (or_true stopped (chunk_raised || decide_raised) (sym by ∙ seen saw));
  }
    where
      no_fault : (parts : List Decided) (k : Last) → taken ≡ run parts (Some k) → ((f : Fault) → k ≡ last.Failed f → ⊥) → (chunk_raised ≡ true) ⊎ (decide_raised ≡ true) → ⊥
      no_fault parts k is unlike o =
          let one = whole.one (parts_of parts) k (named_taken parts (Some k) is) unlike in
          ⊎_elim (λ (u : chunk_raised ≡ true). absurd (true≢false (sym u ∙ e.chunking.raised_is ∙ no_own e.chunking.own e.reads_over e.chunking.l k e.chunking.own_is one.0 unlike)))
          (λ (u : decide_raised ≡ true). absurd (true≢false (sym u ∙ e.deciding.raised_is ∙ no_own e.deciding.own e.named_over e.deciding.l k e.deciding.own_is one.1 unlike)))
          o
