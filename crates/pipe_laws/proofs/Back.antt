-- A pipeline read backwards.
use Rattle.std.proofs.Common.{◌≡◌, ◌⊎◌, inl, inr, ⊎_elim, ℕ, ◌<◌, ◌≤◌, zero, suc, Bool, true, false, cond, List, [], ◌∷◌, ◌++◌, length, take, map, refl, sym, ap, ◌∙◌, subst, append-nil, Option, Some, None, arith, length-append, length-take, drop}
use Rattle.std.specs.Prelude.{filter, min}
use Rattle.std.proofs.lemmas.List.{length-map, take-append-drop, map-append}
use Rattle.std.proofs.lemmas.List.Folds.{concat-append}
use Rattle.std.specs.List.{concat, zip}
use Rattle.std.proofs.lemmas.List.Elements.{filter-append}
use Rattle.vault_types.specs.declared.Cutting.{Cutting}
use Rattle.vault_types.specs.declared.Fault.{Fault}
use Rattle.vault_types.specs.declared.Fault.TheVariants as fault
use Rattle.vault_types.specs.declared.Flow.{Flow}
use Rattle.vault_types.specs.declared.Fp.{Fp}
use Rattle.vault_types.specs.declared.How.{How}
use Rattle.vault_types.specs.Cuts.{cuts, settled, settled_len, unsettled, only_bytes}
use Rattle.vault_types.specs.Names.{NamedChunk, named_chunk}
use Rattle.vault_types.specs.Lists.{parts, rest}
use Rattle.vault_types.specs.Decide.{Rules, decide}
use Rattle.vault_types.proofs.PartsLemmas.{parts-append}
use Rattle.vault_types.specs.Stages.{IsFront, is_chunk, decided_parts}
use Rattle.stage_flows.specs.declared.Last.{Last}
use Rattle.stage_flows.specs.declared.Last.TheVariants as last
use Rattle.stage_flows.specs.Runs.{run, is_end, Begins, Sent}
use Rattle.stage_flows.proofs.Running.{run-one, run-front, run-begins}
use Rattle.vault_types.specs.JobRanges.{IsCuttable}
use Rattle.stream_cutter.proofs.Sizes.{settled_chunks, last_chunks}
use Rattle.vault_types.proofs.CutLemmas.{settled_len-stable}
use Rattle.stage_rules.specs.Chunking.{chunks_of, limited_last}
use Rattle.stage_rules.proofs.Lasts.{From, taken, many, short, comes_from}
use Rattle.pipe_laws.specs.Pipe.{Pipe, ReadBack, AsOne, IsPipeFault}
use Rattle.pipe_laws.proofs.Lane.{AllChunks, all_of, all_begin, lanes_back, front_trans, begins_trans}

cuts_chunks : (c : Cutting) → IsCuttable c → (x : List ℕ) → filter is_chunk (cuts x c) ≡ cuts x c
cuts_chunks c h x = filter-append is_chunk (settled x c) (only_bytes (unsettled x c)) ∙ (λ i. settled_chunks c h x i ++ last_chunks c h x i)

due_chunks : (c : Cutting) → IsCuttable c → (reads : List (List ℕ)) (over : Option Last) → AllChunks (chunks_of c reads over)
due_chunks c h reads over = step (is_end over)
  where
    step : (b : Bool) → AllChunks (cond b (cuts (concat reads) c) (settled (concat reads) c))
    step true = all_of (cuts (concat reads) c) (cuts_chunks c h (concat reads))
    step false = all_of (settled (concat reads) c) (settled_chunks c h (concat reads))

take_front : {X : Type 0} (n : ℕ) (xs : List X) → IsFront (take n xs) xs
take_front n xs = (drop n xs, take-append-drop n xs)

take_all : {X : Type 0} (n : ℕ) (xs : List X) → length xs ≤ n → take n xs ≡ xs
take_all zero [] h = refl
take_all (suc n) [] h = refl
take_all zero (x ∷ xs) h = absurd (omega arith)
take_all (suc n) (x ∷ xs) h = ap (λ l. x ∷ l) (take_all n xs (omega arith))

front_len : {X : Type 0} (xs ys : List X) → IsFront xs ys → length xs ≤ length ys
front_len xs ys f = let e : length (xs ++ f.0) ≡ length ys = ap length f.1 in omega (arith, length-append xs f.0)

front_map : {X Y : Type 0} (f : X → Y) (xs ys : List X) → IsFront xs ys → IsFront (map f xs) (map f ys)
front_map f xs ys p = (map f p.0, sym (map-append f xs p.0) ∙ ap (map f) p.1)

zip_len : {X Y : Type 0} (xs : List X) (ys : List Y) → length (zip xs ys) ≤ length xs
zip_len [] ys = omega arith
zip_len (x ∷ xs) [] = omega arith
zip_len (x ∷ xs) (y ∷ ys) = let n = zip_len xs ys in omega arith

-- more reads only add chunks
settled_front : (c : Cutting) → IsCuttable c → (reads all : List (List ℕ)) → IsFront reads all → IsFront (settled (concat reads) c) (settled (concat all) c)
settled_front c h reads all f =
    let bytes : concat reads ++ concat f.0 ≡ concat all = sym (concat-append reads f.0) ∙ ap concat f.1 in (
      parts (settled_len c) (rest (settled_len c) (concat reads) ++ concat f.0),
      sym (parts-append (settled_len c) (settled_len-stable c h) (concat reads) (concat f.0)) ∙ ap (λ b. settled b c) bytes,
    )

sent_front : {X : Type 0} (due parts : List X) (m l : Option Last) → Sent due m parts l → IsFront parts due
sent_front due parts m l s = ⊎_elim (λ (e : (parts ≡ due) × (l ≡ m)). ([], append-nil parts ∙ e.0)) (λ e. e.0) s

-- a last item that was taken was the sender's
begins_some : {X : Type 0} (a b : List X) (l m : Option Last) (k : Last) → Begins a l b m → l ≡ Some k → (m ≡ Some k) × (a ≡ b)
begins_some a b l m k h e = ⊎_elim (λ (n : l ≡ None). absurd (let clash : Some k ≡ None = sym e ∙ n in cc)) (λ (s : (l ≡ m) × (a ≡ b)). (sym s.0 ∙ e, s.1)) h.1

inner : (k m : Last) → ◌≡◌ {A = Option Last} (Some k) (Some m) → k ≡ m
inner k m e = cc

-- a last item that a stage sent
from_some : {X : Type 0} (limit count : ℕ) (over : Option Last) (due parts : List X) (l : Option Last) (k : Last) → From limit count over due parts l → l ≡ Some k
    → ((over ≡ Some k) × (count ≤ limit) × (parts ≡ due)) ⊎ (((limit < count) × (k ≡ last.Failed (fault.TooMany limit))) ⊎ (k ≡ last.Failed fault.Memory))
from_some limit count over due parts l k (taken few e p) is = inl (sym e ∙ is, few, p)
from_some limit count over due parts l k (many m e) is = inr (inl (m, inner k (last.Failed (fault.TooMany limit)) (sym is ∙ e)))
from_some limit count over due parts l k (short e) is = inr (inr (inner k (last.Failed fault.Memory) (sym is ∙ e)))

end_some : {X : Type 0} (limit count : ℕ) (over : Option Last) (due parts : List X) (l : Option Last) → From limit count over due parts l → l ≡ Some last.End → (over ≡ Some last.End) × (count ≤ limit) × (parts ≡ due)
end_some limit count over due parts l f e = ⊎_elim (λ h. h) (λ (o : ((limit < count) × (last.End ≡ last.Failed (fault.TooMany limit))) ⊎ (last.End ≡ last.Failed fault.Memory)). ⊎_elim (λ (h : (limit < count) × (last.End ≡ last.Failed (fault.TooMany limit))). absurd (let clash = h.1 in cc)) (λ (h : last.End ≡ last.Failed fault.Memory). absurd (cc)) o) (from_some limit count over due parts l last.End f e)

stop_some : {X : Type 0} (limit count : ℕ) (over : Option Last) (due parts : List X) (l : Option Last) → From limit count over due parts l → l ≡ Some last.Stopped → over ≡ Some last.Stopped
stop_some limit count over due parts l f e = ⊎_elim (λ h. h.0) (λ (o : ((limit < count) × (last.Stopped ≡ last.Failed (fault.TooMany limit))) ⊎ (last.Stopped ≡ last.Failed fault.Memory)). ⊎_elim (λ (h : (limit < count) × (last.Stopped ≡ last.Failed (fault.TooMany limit))). absurd (let clash = h.1 in cc)) (λ (h : last.Stopped ≡ last.Failed fault.Memory). absurd (cc)) o) (from_some limit count over due parts l last.Stopped f e)

inner_fault : (f g : Fault) → last.Failed f ≡ last.Failed g → f ≡ g
inner_fault f g e = cc

module _ (c : Cutting) (find : Fp → Option ℕ) (r : Rules) (limit lanes read : ℕ) (saw : Bool) (out : List (Flow (List ℕ))) (over : Option Last) (far : List (Flow (NamedChunk × How))) (p : Pipe c find r limit lanes read saw out over far) where
  due_cut : List (List ℕ)
  due_cut = chunks_of c p.reads p.reads_over

  summing : Begins p.summed p.summed_over p.reading.reads over
  summing = run-begins p.summed p.reading.reads p.summed_over over (subst (IsFront (run p.summed p.summed_over)) p.reading.gave p.first_line)

  begun : Begins p.reads p.reads_over p.reading.reads over
  begun = begins_trans p.reads p.summed p.reading.reads p.reads_over p.summed_over over (run-begins p.reads p.summed p.reads_over p.summed_over p.second_line) summing

  cut_front : IsFront p.chunks (take limit (chunks_of c p.reads p.reads_over))
  cut_front = sent_front (take limit (chunks_of c p.reads p.reads_over)) p.chunks (limited_last limit (length (chunks_of c p.reads p.reads_over)) p.reads_over) p.chunks_over p.chunking

  all_chunks : AllChunks p.chunks
  all_chunks = all_begin p.chunks (take limit (chunks_of c p.reads p.reads_over)) cut_front
      (all_begin (take limit (chunks_of c p.reads p.reads_over)) (chunks_of c p.reads p.reads_over) (take_front limit (chunks_of c p.reads p.reads_over)) (due_chunks c p.cuttable p.reads p.reads_over))

  middle : Begins p.named p.named_over p.chunks p.chunks_over
  middle = lanes_back lanes p.some p.chunks p.named p.chunks_over p.named_over all_chunks p.middle_lines

  cut_from : From limit (length (chunks_of c p.reads p.reads_over)) p.reads_over (take limit (chunks_of c p.reads p.reads_over)) p.chunks p.chunks_over
  cut_from = comes_from limit (length (chunks_of c p.reads p.reads_over)) p.reads_over (take limit (chunks_of c p.reads p.reads_over)) p.chunks p.chunks_over p.chunking

  -- no more than limit chunks reach the deciding stage
  few_named : length (map named_chunk p.named) ≤ limit
  few_named =
      let a = front_len p.named p.chunks middle.0 in
      let b = front_len p.chunks (take limit (chunks_of c p.reads p.reads_over)) cut_front in
      let t : length (take limit (chunks_of c p.reads p.reads_over)) ≡ min limit (length (chunks_of c p.reads p.reads_over)) = length-take limit (chunks_of c p.reads p.reads_over) in
      let m : length (map named_chunk p.named) ≡ length p.named = length-map p.named named_chunk in
      omega arith

  ended : (parts : List (NamedChunk × How)) (l : Option Last) → Begins parts l p.decided p.decided_over → l ≡ Some last.End
      → (over ≡ Some last.End) × (parts ≡ decided_parts find r (map named_chunk (cuts (concat p.reading.reads) c))) × (length (cuts (concat p.reading.reads) c) ≤ limit)
  ended parts l h e =
      let one = begins_some parts p.decided l p.decided_over last.End h e in
      let two = p.deciding.ended one.0 in
      let three = begins_some p.named p.chunks p.named_over p.chunks_over last.End middle two.0 in
      let four = end_some limit (length (chunks_of c p.reads p.reads_over)) p.reads_over (take limit (chunks_of c p.reads p.reads_over)) p.chunks p.chunks_over cut_from three.0 in
      let five = begins_some p.reads p.reading.reads p.reads_over over last.End begun four.0 in
      let whole : chunks_of c p.reads p.reads_over ≡ cuts (concat p.reading.reads) c = ap (chunks_of c p.reads) four.0 ∙ ap (λ q. cuts (concat q) c) five.1 in
      let named : p.named ≡ cuts (concat p.reading.reads) c = three.1 ∙ four.2 ∙ take_all limit (chunks_of c p.reads p.reads_over) four.1 ∙ whole in (
        five.0,
        one.1 ∙ two.1 ∙ ap (λ q. decided_parts find r (map named_chunk q)) named,
        subst (λ q. length q ≤ limit) whole four.1,
      )

  failed : (parts : List (NamedChunk × How)) (l : Option Last) → Begins parts l p.decided p.decided_over → (f : Fault) → l ≡ Some (last.Failed f) → IsPipeFault c limit p.reading.reads over f
  failed parts l h f e =
      let one = begins_some parts p.decided l p.decided_over (last.Failed f) h e in
      ⊎_elim (λ (t : p.named_over ≡ Some (last.Failed f)). cut_failed f (begins_some p.named p.chunks p.named_over p.chunks_over (last.Failed f) middle t).0)
      (λ (o : ((f ≡ fault.TooMany limit) × (limit < length (map named_chunk p.named))) ⊎ (f ≡ fault.Memory)). ⊎_elim
      (λ (m : (f ≡ fault.TooMany limit) × (limit < length (map named_chunk p.named))). absurd (let few = few_named in let more = m.1 in omega arith))
      (λ (m : f ≡ fault.Memory). inr (inl m))
      o)
      (p.deciding.failed f one.0)
    where
      cut_failed : (f : Fault) → p.chunks_over ≡ Some (last.Failed f) → IsPipeFault c limit p.reading.reads over f
      cut_failed f e = ⊎_elim (λ (t : (p.reads_over ≡ Some (last.Failed f)) × (length (chunks_of c p.reads p.reads_over) ≤ limit) × (p.chunks ≡ take limit (chunks_of c p.reads p.reads_over))). inl (begins_some p.reads p.reading.reads p.reads_over over (last.Failed f) begun t.0).0)
          (λ (o : ((limit < length (chunks_of c p.reads p.reads_over)) × (last.Failed f ≡ last.Failed (fault.TooMany limit))) ⊎ (last.Failed f ≡ last.Failed fault.Memory)). ⊎_elim
          (λ (m : (limit < length (chunks_of c p.reads p.reads_over)) × (last.Failed f ≡ last.Failed (fault.TooMany limit))). inr (inr (inner_fault f (fault.TooMany limit) m.1, p.reads, p.reads_over, begun.0, begun.1, m.0)))
          (λ (m : last.Failed f ≡ last.Failed fault.Memory). inr (inl (inner_fault f fault.Memory m)))
          o)
          (from_some limit (length (chunks_of c p.reads p.reads_over)) p.reads_over (take limit (chunks_of c p.reads p.reads_over)) p.chunks p.chunks_over (last.Failed f) cut_from e)

  stopped : (parts : List (NamedChunk × How)) (l : Option Last) → Begins parts l p.decided p.decided_over → l ≡ Some last.Stopped → over ≡ Some last.Stopped
  stopped parts l h e =
      let one = begins_some parts p.decided l p.decided_over last.Stopped h e in
      let two = p.deciding.stopped one.0 in
      let three = begins_some p.named p.chunks p.named_over p.chunks_over last.Stopped middle two in
      let four = stop_some limit (length (chunks_of c p.reads p.reads_over)) p.reads_over (take limit (chunks_of c p.reads p.reads_over)) p.chunks p.chunks_over cut_from three.0 in
      (begins_some p.reads p.reading.reads p.reads_over over last.Stopped begun four).0

  -- what reached the deciding stage begins the chunks of all that was read
  due_front : IsFront (chunks_of c p.reads p.reads_over) (cuts (concat p.reading.reads) c)
  due_front = step p.reads_over refl
    where
      early : IsFront (settled (concat p.reads) c) (cuts (concat p.reading.reads) c)
      early = front_trans (settled (concat p.reads) c) (settled (concat p.reading.reads) c) (cuts (concat p.reading.reads) c)
          (settled_front c p.cuttable p.reads p.reading.reads begun.0) (only_bytes (unsettled (concat p.reading.reads) c), refl)

      step : (o : Option Last) → p.reads_over ≡ o → IsFront (chunks_of c p.reads o) (cuts (concat p.reading.reads) c)
      step None e = early
      step (Some last.End) e =
          let same = (begins_some p.reads p.reading.reads p.reads_over over last.End begun e).1 in
          ([], append-nil (cuts (concat p.reads) c) ∙ ap (λ q. cuts (concat q) c) same)
      step (Some (last.Failed f)) e = early
      step (Some last.Stopped) e = early

  named_front : IsFront (map named_chunk p.named) (map named_chunk (cuts (concat p.reading.reads) c))
  named_front = front_map named_chunk p.named (cuts (concat p.reading.reads) c)
      (front_trans p.named p.chunks (cuts (concat p.reading.reads) c) middle.0
      (front_trans p.chunks (take limit (chunks_of c p.reads p.reads_over)) (cuts (concat p.reading.reads) c) cut_front
      (front_trans (take limit (chunks_of c p.reads p.reads_over)) (chunks_of c p.reads p.reads_over) (cuts (concat p.reading.reads) c) (take_front limit (chunks_of c p.reads p.reads_over)) due_front)))

  -- what the deciding stage gave begins the decisions on the chunks of all that was read
  decided_front : IsFront p.decided (decided_parts find r (map named_chunk (cuts (concat p.reading.reads) c)))
  decided_front = step p.decided_over refl
    where
      open_yet : (p.decided_over ≡ Some last.End → ⊥) → IsFront p.decided (decided_parts find r (map named_chunk (cuts (concat p.reading.reads) c)))
      open_yet unended = subst (λ q. IsFront p.decided (decided_parts find r q)) named_front.1 (p.deciding.front unended named_front.0)

      step : (o : Option Last) → p.decided_over ≡ o → IsFront p.decided (decided_parts find r (map named_chunk (cuts (concat p.reading.reads) c)))
      step None e = open_yet (λ is. let clash : ◌≡◌ {A = Option Last} None (Some last.End) = sym e ∙ is in cc)
      step (Some last.End) e = let all = (ended p.decided p.decided_over (([], append-nil p.decided), inr (refl, refl)) e).1 in ([], append-nil p.decided ∙ all)
      step (Some (last.Failed f)) e = open_yet (λ is. let clash : ◌≡◌ {A = Option Last} (Some (last.Failed f)) (Some last.End) = sym e ∙ is in cc)
      step (Some last.Stopped) e = open_yet (λ is. let clash : ◌≡◌ {A = Option Last} (Some last.Stopped) (Some last.End) = sym e ∙ is in cc)

  few_decided : length p.decided ≤ limit
  few_decided = step p.decided_over refl
    where
      by : (all : List (NamedChunk × How)) → all ≡ decided_parts find r (map named_chunk p.named) → IsFront p.decided all → length p.decided ≤ limit
      by all e f =
          let a = front_len p.decided all f in
          let b : length all ≤ length (map named_chunk p.named) = subst (λ q. length q ≤ length (map named_chunk p.named)) (sym e) (zip_len (map named_chunk p.named) (decide find r (map named_chunk p.named))) in
          let n = few_named in omega arith

      open_yet : (p.decided_over ≡ Some last.End → ⊥) → length p.decided ≤ limit
      open_yet unended = by (decided_parts find r (map named_chunk p.named ++ [])) (ap (decided_parts find r) (append-nil (map named_chunk p.named))) (p.deciding.front unended [])

      step : (o : Option Last) → p.decided_over ≡ o → length p.decided ≤ limit
      step None e = open_yet (λ is. let clash : ◌≡◌ {A = Option Last} None (Some last.End) = sym e ∙ is in cc)
      step (Some last.End) e = by p.decided (p.deciding.ended e).1 ([], append-nil p.decided)
      step (Some (last.Failed f)) e = open_yet (λ is. let clash : ◌≡◌ {A = Option Last} (Some (last.Failed f)) (Some last.End) = sym e ∙ is in cc)
      step (Some last.Stopped) e = open_yet (λ is. let clash : ◌≡◌ {A = Option Last} (Some last.Stopped) (Some last.End) = sym e ∙ is in cc)

  pub read_back : ReadBack c find r limit p.reading.reads over far
  read_back =
      let f = run-front far p.decided p.decided_over p.last_line in
      record {
        parts = f.0;
        l = f.1;
        far_is = f.2;
        few = (let n = front_len f.0 p.decided f.3.0 in let m = few_decided in omega arith);
        front = front_trans f.0 p.decided (decided_parts find r (map named_chunk (cuts (concat p.reading.reads) c))) f.3.0 decided_front;
        ended = ended f.0 f.1 f.3;
        failed = failed f.0 f.1 f.3;
        stopped = stopped f.0 f.1 f.3;
      }

  -- the last item that came out, if it is no fault, was that of each stage
  came : (parts : List (NamedChunk × How)) (l : Option Last) → Begins parts l p.decided p.decided_over → (k : Last) → l ≡ Some k → ((f : Fault) → k ≡ last.Failed f → ⊥) → (p.chunks_over ≡ Some k) × (p.decided_over ≡ Some k)
  came parts l h last.End e unlike =
      let one = begins_some parts p.decided l p.decided_over last.End h e in
      ((begins_some p.named p.chunks p.named_over p.chunks_over last.End middle (p.deciding.ended one.0).0).0, one.0)
  came parts l h (last.Failed f) e unlike = absurd (unlike f refl)
  came parts l h last.Stopped e unlike =
      let one = begins_some parts p.decided l p.decided_over last.Stopped h e in
      ((begins_some p.named p.chunks p.named_over p.chunks_over last.Stopped middle (p.deciding.stopped one.0)).0, one.0)

  all_summed : (parts : List (NamedChunk × How)) (l : Option Last) → Begins parts l p.decided p.decided_over → l ≡ Some last.End → p.summed ≡ p.reading.reads
  all_summed parts l h e =
      let three = (came parts l h last.End e (λ f is. absurd (cc))).0 in
      let four = end_some limit (length (chunks_of c p.reads p.reads_over)) p.reads_over (take limit (chunks_of c p.reads p.reads_over)) p.chunks p.chunks_over cut_from three in
      let five = begins_some p.reads p.summed p.reads_over p.summed_over last.End (run-begins p.reads p.summed p.reads_over p.summed_over p.second_line) four.0 in
      (begins_some p.summed p.reading.reads p.summed_over over last.End summing five.0).1

  pub as_one : AsOne p.reading.reads over p.summed p.reads_over p.chunks_over p.named_over p.decided_over far
  as_one =
      let f = run-front far p.decided p.decided_over p.last_line in
      record {
        far_last = λ parts k is. (begins_some f.0 p.decided f.1 p.decided_over k f.3 (run-one f.0 parts f.1 (Some k) (sym f.2 ∙ is)).1).0;
        lane_last = λ k is. (begins_some p.named p.chunks p.named_over p.chunks_over k middle is).0;
        read_last = λ k is. (begins_some p.reads p.reading.reads p.reads_over over k begun is).0;
        whole = λ parts is. all_summed f.0 f.1 f.3 (run-one f.0 parts f.1 (Some last.End) (sym f.2 ∙ is)).1;
        one = λ parts k is unlike. came f.0 f.1 f.3 k (run-one f.0 parts f.1 (Some k) (sym f.2 ∙ is)).1 unlike;
      }
