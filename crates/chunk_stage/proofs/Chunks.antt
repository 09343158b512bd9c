-- One read more, and the end.
use Rattle.stage_lanes.proofs.Sendings.{dealt_front}
use Rattle.std.proofs.Common.{◌≡◌, true≢false, ℕ, ◌+◌, ◌-◌, ◌≤◌, ◌<◌, ◌||◌, ⊎_elim, zero, suc, Bool, true, false, List, [], ◌∷◌, ◌++◌, length, take, inl, inr, refl, sym, ap, ◌∙◌, subst, append_assoc, append-nil, Option, Some, None, arith, length-append}
use Rattle.std.specs.Prelude.{nat_le, cond, Result, Ok, Err, IfOk, IfSome, IfNone, IsSome, MatchResult}
use Rattle.std.specs.Option.{is_some}
use Rattle.std.proofs.lemmas.List.{take-append-le}
use Rattle.vault_types.specs.declared.Fault.{Fault}
use Rattle.vault_types.specs.declared.Flow.{Flow}
use Rattle.vault_types.specs.declared.Flow.TheVariants.{Part}
use Rattle.vault_types.specs.Cuts.{only_bytes}
use Rattle.stage_flows.specs.Runs.{item_of, run}
use Rattle.stage_flows.proofs.Running.{run-part, run-last}
use Rattle.stage_lanes.specs.Dealing.{HasDealt}
use Rattle.stage_lanes.specs.declared.dealer.Dealer.{Dealer}
use Rattle.stage_rules.specs.Chunking.{IsOwnFault, read_of, last_of}
use Rattle.chunk_stage.specs.Stage.{GoesOn, HasChunked, HasTaken, IsBack}
use Rattle.stage_queue.specs.Ends.{Sender}
use Rattle.stage_lanes.specs.Lanes.{after}
use Rattle.vault_types.specs.Lists.{parts, rest}
use Rattle.vault_types.specs.Cuts.{settled_len, unsettled}
use Rattle.vault_types.proofs.PartsLemmas.{parts-append}
use Rattle.vault_types.proofs.FeedLemmas.{cut_more}
use Rattle.vault_types.specs.JobRanges.{IsCuttable}
use Rattle.vault_types.proofs.CutLemmas.{settled_len-stable}
use Rattle.std.specs.List.{concat}
use Rattle.std.proofs.lemmas.List.Folds.{concat-append}
use Rattle.std.proofs.lemmas.Bool.Decides.{nat_tests}
use Rattle.std.proofs.Math.Seq.{take-append-add}
use Rattle.vault_types.specs.declared.Cutting.{Cutting}
use Rattle.vault_types.specs.declared.Fault.TheVariants as fault
use Rattle.vault_types.specs.Cuts.{Chunker, HasCut, cuts, settled}
use Rattle.vault_types.specs.Stages.{IsFront}
use Rattle.stage_flows.specs.declared.Last.{Last}
use Rattle.stage_flows.specs.declared.Last.TheVariants as last
use Rattle.stage_flows.specs.Runs.{Sent, memory, is_end}
use Rattle.stage_rules.specs.Chunking.{limited_last, chunks_of, IsChunking, IsOpen}

pub one_more : (reads : List (List ℕ)) (x : List ℕ) → concat (reads ++ x ∷ []) ≡ concat reads ++ x
one_more reads x = concat-append reads (x ∷ []) ∙ ap (λ l. concat reads ++ l) (append-nil x)

-- a front of the chunks in place of all of them
pub broken_off : (limit : ℕ) (xs ys : List (List ℕ)) (due : Option Last) → length xs ≤ limit → IsFront xs ys → Sent (take limit ys) due xs memory
broken_off limit xs ys due few f =
    let n : length xs + (limit - length xs) ≡ limit = omega arith in
    inr ((take (limit - length xs) f.0, sym (take-append-add xs f.0 (limit - length xs)) ∙ ap (λ k. take k (xs ++ f.0)) n ∙ ap (take limit) f.1), refl)

-- chunks that follow those before
pub dealt_more : (c : Cutting) (limit : ℕ) (reads reads' : List (List ℕ)) (over l : Option Last) (more parts : List (List ℕ)) (count : ℕ)
    → settled (concat reads) c ++ more ≡ chunks_of c reads' over → count ≡ length (settled (concat reads) c)
    → settled (concat reads) c ++ parts ≡ take limit (settled (concat reads) c ++ more) → l ≡ limited_last limit (count + length more) over
    → IsChunking c limit reads' over (settled (concat reads) c ++ parts) l
dealt_more c limit reads reads' over l more parts count all counted cut last =
    let len : count + length more ≡ length (chunks_of c reads' over) =
    let e : length (settled (concat reads) c ++ more) ≡ length (chunks_of c reads' over) = ap length all in
    let f : length (settled (concat reads) c ++ more) ≡ length (settled (concat reads) c) + length more = length-append (settled (concat reads) c) more in
    omega (arith, counted) in
    inl (cut ∙ ap (take limit) all, last ∙ ap (λ n. limited_last limit n over) len)

-- the next read's chunks follow
pub next_chunks : (c : Cutting) (limit : ℕ) (reads : List (List ℕ)) (x : List ℕ) (k m : Chunker) (count : ℕ) (more : List (List ℕ)) → IsOpen c limit reads k count → m.cutting ≡ k.cutting
    → HasCut m (settled (concat reads) c ++ more) (concat reads ++ x) → settled (concat reads) c ++ more ≡ settled (concat (reads ++ x ∷ [])) c
next_chunks c limit reads x k m count more o same cut = cut.gone ∙ ap (settled (concat reads ++ x)) (same ∙ o.cutting) ∙ ap (λ b. settled b c) (sym (one_more reads x))

-- a chunker that goes on after a read
pub next_open : (c : Cutting) (limit : ℕ) (reads : List (List ℕ)) (x : List ℕ) (k m : Chunker) (count after : ℕ) (more : List (List ℕ)) → IsOpen c limit reads k count → m.cutting ≡ k.cutting
    → HasCut m (settled (concat reads) c ++ more) (concat reads ++ x) → after ≡ count + length more → after ≤ limit → IsOpen c limit (reads ++ x ∷ []) m after
next_open c limit reads x k m count after more o same cut counted few =
    let is = next_chunks c limit reads x k m count more o same cut in
    record {
      cutting = same ∙ o.cutting;
      cut = subst (λ (p : List (List ℕ) × List ℕ). HasCut m p.0 p.1) (λ i. (is i, sym (one_more reads x) i)) cut;
      counted =
          let e : length (settled (concat reads) c ++ more) ≡ length (settled (concat (reads ++ x ∷ [])) c) = ap length is in
          let f : length (settled (concat reads) c ++ more) ≡ length (settled (concat reads) c) + length more = length-append (settled (concat reads) c) more in
          omega (arith, counted, o.counted);
      few = few;
    }

-- where the last item is none, the chunks are within the limit
pub within : (limit count : ℕ) → None ≡ limited_last limit count None → count ≤ limit
within limit count e = step (nat_le count limit) refl e
  where
    step : (b : Bool) → nat_le count limit ≡ b → None ≡ cond b None (Some (last.Failed (fault.TooMany limit))) → count ≤ limit
    step true t h = grind (arith, nat_tests)
    step false t h = absurd (let clash : ◌≡◌ {A = Option Last} None (Some (last.Failed (fault.TooMany limit))) = h in cc)

-- a want of memory at a read
pub short_read : (c : Cutting) (limit : ℕ) (reads : List (List ℕ)) (x : List ℕ) (k : Chunker) (count : ℕ) → IsCuttable k.cutting → IsOpen c limit reads k count → IsChunking c limit (reads ++ x ∷ []) None (settled (concat reads) c) memory
short_read c limit reads x k count h o =
    let s = settled_len-stable c (subst IsCuttable o.cutting h) in
    let more : IsFront (settled (concat reads) c) (settled (concat (reads ++ x ∷ [])) c) =
    (parts (settled_len c) (rest (settled_len c) (concat reads) ++ x), sym (parts-append (settled_len c) s (concat reads) x) ∙ ap (λ b. settled b c) (sym (one_more reads x))) in
    let few = o.few in let counted = o.counted in
    broken_off limit (settled (concat reads) c) (settled (concat (reads ++ x ∷ [])) c) (limited_last limit (length (settled (concat (reads ++ x ∷ [])) c)) None) (omega arith) more

-- the chunks of a piece, as a list that its vectors make
pub cut_of : (k m : Chunker) (piece : List ℕ) (more : List (List ℕ)) → IsCuttable k.cutting → m.cutting ≡ k.cutting → m.held ≡ unsettled (k.held ++ piece) k.cutting → more ≡ settled (k.held ++ piece) k.cutting
    → (gone : List (List ℕ)) (x : List ℕ) → HasCut k gone x → HasCut m (gone ++ more) (x ++ piece)
cut_of k m piece more h same held is gone x cut = subst (λ l. HasCut m (gone ++ l) (x ++ piece)) (sym is) (cut_more k m (settled_len-stable k.cutting h) piece same held gone x cut)

pub if_ok : {T E : Type 0} {P Q : T → Type 0} (r : Result T E) → ((x : T) → P x → Q x) → IfOk r P → IfOk r Q
if_ok (Ok x) f p = f x p
if_ok (Err e) f p = tt

-- after the last item

take_all : (n : ℕ) (xs : List (List ℕ)) → length xs ≤ n → take n xs ≡ xs
take_all zero [] h = refl
take_all (suc n) [] h = refl
take_all zero (x ∷ xs) h = absurd (omega arith)
take_all (suc n) (x ∷ xs) h = ap (λ l. x ∷ l) (take_all n xs (omega arith))

front_take : (n : ℕ) (xs rest : List (List ℕ)) → IsFront (take n xs) (take n (xs ++ rest))
front_take zero [] rest = (take zero rest, refl)
front_take zero (x ∷ xs) rest = ([], refl)
front_take (suc n) [] rest = (take (suc n) rest, refl)
front_take (suc n) (x ∷ xs) rest = let f = front_take n xs rest in (f.0, ap (λ l. x ∷ l) f.1)

front_trans : (a b d : List (List ℕ)) → IsFront a b → IsFront b d → IsFront a d
front_trans a b d p q = (p.0 ++ q.0, sym (append_assoc a p.0 q.0) ∙ ap (λ l. l ++ q.0) p.1 ∙ q.1)

many_last : (limit count : ℕ) (over : Option Last) → limit < count → limited_last limit count over ≡ Some (last.Failed (fault.TooMany limit))
many_last limit count over h = let no : nat_le count limit ≡ false = grind (arith, nat_tests) in rw no refl

-- what was dealt with a last item stays what is due, whatever comes
pub stays_due : (limit : ℕ) (xs ys parts : List (List ℕ)) (over l : Option Last) (k : Last) → l ≡ Some k → IsFront xs ys → Sent (take limit xs) (limited_last limit (length xs) None) parts l → Sent (take limit ys) (limited_last limit (length ys) over) parts l
stays_due limit xs ys parts over l k is f s = subst (λ q. Sent (take limit q) (limited_last limit (length q) over) parts l) f.1 (⊎_elim
    (λ (e : (parts ≡ take limit xs) × (l ≡ limited_last limit (length xs) None)). step (nat_le (length xs) limit) refl e)
    (λ (e : IsFront parts (take limit xs) × (l ≡ memory)). inr (front_trans parts (take limit xs) (take limit (xs ++ f.0)) e.0 (front_take limit xs f.0), e.1))
    s)
  where
    step : (b : Bool) → nat_le (length xs) limit ≡ b → (parts ≡ take limit xs) × (l ≡ limited_last limit (length xs) None) → Sent (take limit (xs ++ f.0)) (limited_last limit (length (xs ++ f.0)) over) parts l
    step true t e = absurd (let within : limited_last limit (length xs) None ≡ None = rw t refl in let clash : Some k ≡ None = sym is ∙ e.1 ∙ within in cc)
    step false t e =
        let more : limit < length xs = grind (arith, nat_tests) in
        let len : length (xs ++ f.0) ≡ length xs + length f.0 = length-append xs f.0 in
        let longer : limit < length (xs ++ f.0) = omega arith in
        let low : limit ≤ length xs = omega arith in
        inl (e.0 ∙ sym (take-append-le limit xs f.0 low), e.1 ∙ many_last limit (length xs) None more ∙ sym (many_last limit (length (xs ++ f.0)) over longer))

-- more items only add chunks
pub more_due : (c : Cutting) → IsCuttable c → (reads : List (List ℕ)) (item : Result (List ℕ) Last) → IsFront (settled (concat reads) c) (chunks_of c (reads ++ read_of item) (last_of item))
more_due c h reads (Ok x) =
    (parts (settled_len c) (rest (settled_len c) (concat reads) ++ x), sym (parts-append (settled_len c) (settled_len-stable c h) (concat reads) x) ∙ ap (λ b. settled b c) (sym (one_more reads x)))
more_due c h reads (Err l) = subst (λ q. IsFront (settled (concat reads) c) (chunks_of c q (Some l))) (sym (append-nil reads)) (step (is_end (Some l)))
  where
    step : (b : Bool) → IsFront (settled (concat reads) c) (cond b (cuts (concat reads) c) (settled (concat reads) c))
    step true = (only_bytes (unsettled (concat reads) c), refl)
    step false = ([], append-nil (settled (concat reads) c))

-- a stage that has dealt its last item drops what comes
pub drops : (c : Cutting) (limit : ℕ) (reads : List (List ℕ)) (item : Result (List ℕ) Last) (k k' : Option Chunker) (count : ℕ) (d : Dealer (List ℕ)) (raised : Bool) → k ≡ None → k' ≡ None
    → HasChunked c limit reads None k count d raised → HasChunked c limit (reads ++ read_of item) (last_of item) k' count d raised
drops c limit reads item k k' count d raised none none' h = subst (λ q. HasChunked c limit (reads ++ read_of item) (last_of item) q count d raised) (sym none') (step h.l refl h.own refl)
  where
    given : IsSome h.l
    given = subst (λ q. GoesOn c limit reads None h.parts h.l q count) none h.goes_on

    step : (l : Option Last) → h.l ≡ l → (own : Option Fault) → h.own ≡ own → HasChunked c limit (reads ++ read_of item) (last_of item) None count d raised
    step None e own o = absurd (let some = given in true≢false (sym (subst IsSome e some)))
    step (Some m) e None o = absurd (let none_last : h.l ≡ None = subst (λ q. IsOwnFault q None h.l) o h.own_is in let clash : Some m ≡ None = sym e ∙ none_last in cc)
    step (Some m) e (Some f) o = record {
      cuttable = h.cuttable;
      parts = h.parts;
      l = h.l;
      dealt = h.dealt;
      chunking = stays_due limit (settled (concat reads) c) (chunks_of c (reads ++ read_of item) (last_of item)) h.parts (last_of item) h.l m e (more_due c h.cuttable reads item) h.chunking;
      goes_on = given;
      own = h.own;
      own_is = subst (λ q. IsOwnFault q (last_of item) h.l) (sym o) (subst (λ q. IsOwnFault q None h.l) o h.own_is);
      raised_is = h.raised_is;
    }

-- where no last item is due, all chunks were dealt
all_dealt : (c : Cutting) (limit : ℕ) (reads : List (List ℕ)) (over : Option Last) (parts : List (List ℕ)) (l : Option Last) (k : Chunker) (count : ℕ) → l ≡ None → over ≡ None → IsOpen c limit reads k count → IsChunking c limit reads over parts l → parts ≡ settled (concat reads) c
all_dealt c limit reads over parts l k count none open_yet o s =
    let due : chunks_of c reads over ≡ settled (concat reads) c = ap (chunks_of c reads) open_yet in
    let few : length (settled (concat reads) c) ≤ limit = let a = o.few in let b = o.counted in omega arith in
    ⊎_elim (λ (e : (parts ≡ take limit (chunks_of c reads over)) × (l ≡ limited_last limit (length (chunks_of c reads over)) over)). e.0 ∙ ap (take limit) due ∙ take_all limit (settled (concat reads) c) few)
    (λ (e : IsFront parts (take limit (chunks_of c reads over)) × (l ≡ memory)). absurd (let clash : None ≡ memory = sym none ∙ e.1 in cc))
    s

-- one that deals what is next
pub deals : (c : Cutting) (limit : ℕ) (reads : List (List ℕ)) (item : Result (List ℕ) Last) (k : Chunker) (k' : Option Chunker) (count count' : ℕ) (d d' : Dealer (List ℕ)) (raised raised' : Bool) (more : List (List ℕ)) (l : Option Last) (own : Option Fault)
    → HasChunked c limit reads None (Some k) count d raised
    → ((before : List (List ℕ)) → HasDealt d before None → HasDealt d' (before ++ more) l)
    → IsChunking c limit (reads ++ read_of item) (last_of item) (settled (concat reads) c ++ more) l
    → IfSome k' (λ q. (l ≡ None) × (last_of item ≡ None) × IsOpen c limit (reads ++ read_of item) q count') → IfNone k' (IsSome l)
    → IsOwnFault own (last_of item) l → raised' ≡ (raised || is_some own)
    → HasChunked c limit (reads ++ read_of item) (last_of item) k' count' d' raised'
deals c limit reads item k k' count count' d d' raised raised' more l own h give given next over owned raise =
    let g = h.goes_on in
    record {
      cuttable = h.cuttable;
      parts = h.parts ++ more;
      l = l;
      dealt = give h.parts (subst (HasDealt d h.parts) g.1 h.dealt);
      chunking = subst (λ q. IsChunking c limit (reads ++ read_of item) (last_of item) (q ++ more) l) (sym g.3) given;
      goes_on = goes k' next over;
      own = own;
      own_is = owned;
      raised_is = raise ∙ ap (λ b. b || is_some own) (h.raised_is ∙ none_own h.own h.own_is);
    }
  where
    none_own : (o : Option Fault) → IsOwnFault o None h.l → is_some o ≡ false
    none_own None e = refl
    none_own (Some f) e = absurd (let g = h.goes_on in let clash : ◌≡◌ {A = Option Last} None (Some (last.Failed f)) = sym g.1 ∙ e in cc)

    goes : (q : Option Chunker) → IfSome q (λ q. (l ≡ None) × (last_of item ≡ None) × IsOpen c limit (reads ++ read_of item) q count') → IfNone q (IsSome l) → GoesOn c limit (reads ++ read_of item) (last_of item) (h.parts ++ more) l q count'
    goes None o n = n
    goes (Some q) o n = (o.2, o.0, o.1, let g = h.goes_on in ap (λ z. z ++ more) g.3 ∙ all_dealt c limit (reads ++ read_of item) (last_of item) (settled (concat reads) c ++ more) l q count' o.0 o.1 o.2 given)

-- the stage took the item
pub takes : (c : Cutting) (limit : ℕ) (taken taken' : List (Flow (List ℕ))) (x : Flow (List ℕ)) (item : Result (List ℕ) Last) (over over' : Option Last) (k k' : Option Chunker) (count count' : ℕ) (d d' : Dealer (List ℕ)) (raised raised' : Bool)
    → (h : HasTaken c limit taken over k count d raised) → over ≡ None → taken' ≡ taken ++ x ∷ [] → MatchResult item (λ part. x ≡ Part part) (λ l. x ≡ item_of l) → over' ≡ last_of item
    → (HasChunked c limit h.reads None k count d raised → HasChunked c limit (h.reads ++ read_of item) (last_of item) k' count' d' raised') → HasTaken c limit taken' over' k' count' d' raised'
takes c limit taken taken' x item over over' k k' count count' d d' raised raised' h none took is last f = subst (λ o. HasTaken c limit taken' o k' count' d' raised') (sym last) (record {
  reads = h.reads ++ read_of item;
  took = took ∙ ap (λ q. q ++ x ∷ []) (h.took ∙ ap (run h.reads) none) ∙ step item is;
  chunked = f (subst (λ o. HasChunked c limit h.reads o k count d raised) none h.chunked);
})
  where
    step : (item : Result (List ℕ) Last) → MatchResult item (λ part. x ≡ Part part) (λ l. x ≡ item_of l) → run h.reads None ++ x ∷ [] ≡ run (h.reads ++ read_of item) (last_of item)
    step (Ok part) e = ap (λ y. run h.reads None ++ y ∷ []) e ∙ run-part h.reads part
    step (Err l) e = ap (λ y. run h.reads None ++ y ∷ []) e ∙ run-last h.reads l ∙ ap (λ q. run q (Some l)) (sym (append-nil h.reads))

pub is_back : (c : Cutting) (limit : ℕ) (taken : List (Flow (List ℕ))) (over : Option Last) (k : Option Chunker) (count : ℕ) (d : Dealer (List ℕ)) (raised : Bool) (lanes : List (Sender (Flow (List ℕ)))) → HasTaken c limit taken over k count d raised → lanes ≡ d.lanes.items → IsBack c limit taken over lanes raised
is_back c limit taken over k count d raised lanes h same = subst (λ q. IsBack c limit taken over q raised) (sym same) (record {
  reads = h.reads;
  took = h.took;
  parts = h.chunked.parts;
  l = h.chunked.l;
  chunking = h.chunked.chunking;
  lines = dealt_front d h.chunked.parts h.chunked.l h.chunked.dealt;
  own = h.chunked.own;
  own_is = h.chunked.own_is;
  raised_is = h.chunked.raised_is;
})

-- a turn of the dealer
pub turned : (c : Cutting) (limit : ℕ) (taken : List (Flow (List ℕ))) (over : Option Last) (k : Option Chunker) (count : ℕ) (d d' : Dealer (List ℕ)) (raised : Bool) → HasTaken c limit taken over k count d raised
    → ((given : List (List ℕ)) (l : Option Last) → HasDealt d given l → HasDealt d' given l) → HasTaken c limit taken over k count d' raised
turned c limit taken over k count d d' raised h same = record {
  reads = h.reads;
  took = h.took;
  chunked = record {
    cuttable = h.chunked.cuttable;
    parts = h.chunked.parts;
    l = h.chunked.l;
    dealt = same h.chunked.parts h.chunked.l h.chunked.dealt;
    chunking = h.chunked.chunking;
    goes_on = h.chunked.goes_on;
    own = h.chunked.own;
    own_is = h.chunked.own_is;
    raised_is = h.chunked.raised_is;
  };
}
