-- What one item comes to.
use Rattle.stage_lanes.proofs.Sendings.{dealt_front}
use Rattle.std.proofs.Common.{◌≡◌, true≢false, ◌⊎◌, inl, inr, ⊎_elim, ℕ, ◌<◌, ◌||◌, Bool, true, false, List, [], ◌∷◌, ◌++◌, length, map, refl, sym, ap, ◌∙◌, subst, append_assoc, append-nil, Option, Some, None, arith, length-append}
use Rattle.std.specs.List.{zip}
use Rattle.std.specs.Prelude.{MatchOption, IsSome, Result, Ok, Err, MatchResult}
use Rattle.std.specs.Option.{is_some}
use Rattle.std.proofs.lemmas.List.{map-append}
use Rattle.fp_index.specs.Index.{found_in}
use Rattle.rewrite_stage.specs.declared.Decided.{Decided}
use Rattle.stage_lanes.specs.Dealing.{HasDealt}
use Rattle.stage_lanes.specs.declared.dealer.Dealer.{Dealer}
use Rattle.segment_gather.specs.Segmented.{part_of, parts_of}
use Rattle.segment_gather.specs.Gathering.{index_of}
use Rattle.segment_gather.specs.declared.gatherer.Gatherer.{Gatherer}
use Rattle.vault_types.specs.declared.Fault.{Fault}
use Rattle.vault_types.specs.declared.Fault.TheVariants as fault
use Rattle.vault_types.specs.declared.Fp.{Fp}
use Rattle.vault_types.specs.declared.How.{How}
use Rattle.vault_types.specs.Names.{NamedChunk, named_chunk}
use Rattle.vault_types.specs.Decide.{Rules}
use Rattle.vault_types.specs.Stages.{decided_parts, IsFront}
use Rattle.stage_flows.specs.declared.Last.{Last}
use Rattle.stage_flows.specs.declared.Last.TheVariants as last
use Rattle.stage_rules.specs.Chunking.{IsOwnFault}
use Rattle.stage_rules.specs.Deciding.{IsDecidedBy, IsDeciding}
use Rattle.segment_gather.specs.Gathering.{HasGathered, HasDecidedAll, answers_of, chunks_in, places_of}
use Rattle.segment_gather.proofs.Later.{gathered_front}
use Rattle.decide_stage.specs.Deciding.{GoesOn, HasJudged, HasTaken, IsBack, ShortAt, chunk_of, last_in}
use Rattle.stage_queue.specs.Ends.{Sender, Receiver}
use Rattle.vault_types.specs.declared.Flow.{Flow}
use Rattle.stage_flows.specs.Runs.{is_end, memory}
use Rattle.decide_stage.proofs.Due.{due_taken, due_stays, short_stays}
use Rattle.stage_lanes.specs.Dealing.{HasPicked}
use Rattle.stage_lanes.specs.declared.picker.Picker.{Picker}

zip_back : (parts : List (NamedChunk × How)) → zip (chunks_in parts) (map (λ p. p.1) (places_of parts)) ≡ parts
zip_back [] = refl
zip_back (p ∷ ps) = ap (λ l. p ∷ l) (zip_back ps)

-- all decisions are those of the definition
pub all_decided : (find : Fp → Option ℕ) (r : Rules) (chunks : List NamedChunk) (parts : List (NamedChunk × How)) → HasDecidedAll find r chunks parts → parts ≡ decided_parts find r chunks
all_decided find r chunks parts h = sym (zip_back parts) ∙ (λ i. zip (h.chunks_are i) (map (λ p. p.1) (h.places_are i)))

-- what was given begins the decisions where a gatherer gives nothing more, and where it took the chunk
pub front_still : (g : Gatherer) (r : Rules) (chunks : List NamedChunk) (gone : List (NamedChunk × How)) (next : List NamedChunk) (more : List Decided) → more ≡ [] → HasGathered g r chunks gone
    → (later : List NamedChunk) → IsFront (gone ++ parts_of more) (decided_parts (answers_of g) r ((chunks ++ next) ++ later))
front_still g r chunks gone next more none h later = subst (λ (z : List (NamedChunk × How) × List NamedChunk). IsFront z.0 (decided_parts (answers_of g) r z.1))
    (λ i. ((sym (append-nil gone) ∙ ap (λ q. gone ++ parts_of q) (sym none)) i, sym (append_assoc chunks next later) i)) (gathered_front g r chunks gone h (next ++ later))

pub front_taken : (g g' : Gatherer) (r : Rules) (chunks : List NamedChunk) (gone : List (NamedChunk × How)) → HasGathered g' r chunks gone → index_of g' ≡ index_of g
    → (later : List NamedChunk) → IsFront gone (decided_parts (answers_of g) r (chunks ++ later))
front_taken g g' r chunks gone h same later = subst (λ q. IsFront gone (decided_parts (found_in q) r (chunks ++ later))) same (gathered_front g' r chunks gone h later)

-- a fault of the stage's own, or nothing yet
pub own_judged : (find : Fp → Option ℕ) (r : Rules) (limit : ℕ) (chunks : List NamedChunk) (parts : List (NamedChunk × How)) (own : Option Fault) (l : Option Last) → IsOwnFault own None l
    → ((f : Fault) → own ≡ Some f → ((f ≡ fault.TooMany limit) × (limit < length chunks)) ⊎ (f ≡ fault.Memory))
    → ((more : List NamedChunk) → IsFront parts (decided_parts find r (chunks ++ more))) → IsDecidedBy find r limit chunks None parts l
own_judged find r limit chunks parts None l e causes front = record {
  front = λ no_end. front;
  ended = λ is. absurd (let clash : ◌≡◌ {A = Option Last} None (Some last.End) = sym e ∙ is in cc);
  failed = λ f is. absurd (let clash : ◌≡◌ {A = Option Last} None (Some (last.Failed f)) = sym e ∙ is in cc);
  stopped = λ is. absurd (let clash : ◌≡◌ {A = Option Last} None (Some last.Stopped) = sym e ∙ is in cc);
}
own_judged find r limit chunks parts (Some g) l e causes front = record {
  front = λ no_end. front;
  ended = λ is. absurd (let clash : ◌≡◌ {A = Option Last} (Some (last.Failed g)) (Some last.End) = sym e ∙ is in cc);
  failed = λ f is. let same : ◌≡◌ {A = Option Last} (Some (last.Failed g)) (Some (last.Failed f)) = sym e ∙ is in let fault_is : g ≡ f = cc in inr (causes f (ap Some fault_is));
  stopped = λ is. absurd (let clash : ◌≡◌ {A = Option Last} (Some (last.Failed g)) (Some last.Stopped) = sym e ∙ is in cc);
}

-- the end
pub end_judged : (find : Fp → Option ℕ) (r : Rules) (limit : ℕ) (chunks : List NamedChunk) (parts : List (NamedChunk × How)) (own : Option Fault) (l : Option Last) → IsOwnFault own (Some last.End) l
    → (own ≡ None → HasDecidedAll find r chunks parts) → ((f : Fault) → own ≡ Some f → f ≡ fault.Memory)
    → (IsSome own → (more : List NamedChunk) → IsFront parts (decided_parts find r (chunks ++ more))) → IsDecidedBy find r limit chunks (Some last.End) parts l
end_judged find r limit chunks parts None l e all causes front = record {
  front = λ no_end. absurd (no_end e);
  ended = λ is. (refl, all_decided find r chunks parts (all refl));
  failed = λ f is. absurd (let clash : ◌≡◌ {A = Option Last} (Some last.End) (Some (last.Failed f)) = sym e ∙ is in cc);
  stopped = λ is. absurd (let clash : ◌≡◌ {A = Option Last} (Some last.End) (Some last.Stopped) = sym e ∙ is in cc);
}
end_judged find r limit chunks parts (Some g) l e all causes front = record {
  front = λ no_end. front refl;
  ended = λ is. absurd (let clash : ◌≡◌ {A = Option Last} (Some (last.Failed g)) (Some last.End) = sym e ∙ is in cc);
  failed = λ f is. let same : ◌≡◌ {A = Option Last} (Some (last.Failed g)) (Some (last.Failed f)) = sym e ∙ is in let fault_is : g ≡ f = cc in inr (inr (causes f (ap Some fault_is)));
  stopped = λ is. absurd (let clash : ◌≡◌ {A = Option Last} (Some (last.Failed g)) (Some last.Stopped) = sym e ∙ is in cc);
}

-- another last item goes on
pub last_judged : (find : Fp → Option ℕ) (r : Rules) (limit : ℕ) (chunks : List NamedChunk) (parts : List (NamedChunk × How)) (k : Last) → (k ≡ last.End → ⊥) → ((more : List NamedChunk) → IsFront parts (decided_parts find r (chunks ++ more))) → IsDecidedBy find r limit chunks (Some k) parts (Some k)
last_judged find r limit chunks parts k other front = record {
  front = λ no_end. front;
  ended = λ is. absurd (other (let same : ◌≡◌ {A = Option Last} (Some k) (Some last.End) = is in cc));
  failed = λ f is. inl is;
  stopped = λ is. is;
}

-- a stage that gave its last item drops what comes
pub drops : (index : List (Fp × List ℕ)) (r : Rules) (limit : ℕ) (chunks : List NamedChunk) (item : Result (List ℕ) Last) (goes : Bool) (g : Gatherer) (count : ℕ) (d : Dealer Decided) (raised : Bool)
    → goes ≡ false → HasJudged index r limit chunks None goes g count d raised → HasJudged index r limit (chunks ++ chunk_of item) (last_in item) goes g count d raised
drops index r limit chunks item goes g count d raised off h = record {
  index_is = h.index_is;
  gone = h.gone;
  l = h.l;
  dealt = h.dealt;
  goes_on = subst (λ b. GoesOn b r limit (chunks ++ chunk_of item) (last_in item) (parts_of h.gone) h.l g count) (sym off) given;
  decided = record {
    ended = λ is. absurd (let clash : ◌≡◌ {A = Option Last} None (Some last.End) = (h.decided.ended is).0 in cc);
    front = λ no_end more. subst (λ q. IsFront (parts_of h.gone) (decided_parts (found_in index) r q)) (sym (append_assoc chunks (chunk_of item) more)) (h.decided.front no_end (chunk_of item ++ more));
    failed = λ f is. ⊎_elim
        (λ (t : ◌≡◌ {A = Option Last} None (Some (last.Failed f))). absurd (cc))
        (λ (o : ((f ≡ fault.TooMany limit) × (limit < length chunks)) ⊎ (f ≡ fault.Memory)). inr (⊎_elim
        (λ (m : (f ≡ fault.TooMany limit) × (limit < length chunks)). inl (m.0, let n = m.1 in omega (arith, length-append chunks (chunk_of item))))
        (λ (m : f ≡ fault.Memory). inr m)
        o))
        (h.decided.failed f is);
    stopped = λ is. absurd (let clash : ◌≡◌ {A = Option Last} None (Some last.Stopped) = h.decided.stopped is in cc);
  };
  due = due_stays (found_in index) r limit chunks (chunk_of item) (parts_of h.gone) h.l (last_in item) given h.short
      (λ no_end. subst (λ q. IsFront (parts_of h.gone) (decided_parts (found_in index) r q)) (append-nil (chunks ++ chunk_of item)) (subst (λ q. IsFront (parts_of h.gone) (decided_parts (found_in index) r q)) (sym (append_assoc chunks (chunk_of item) [])) (h.decided.front no_end (chunk_of item ++ []))))
      h.due;
  short = λ is. short_stays (found_in index) r limit chunks (chunk_of item) (parts_of h.gone) h.l (h.short is);
  own = h.own;
  own_is = owned h.own refl h.own_is;
  raised_is = h.raised_is;
}
  where
    given : IsSome h.l
    given = subst (λ b. GoesOn b r limit chunks None (parts_of h.gone) h.l g count) off h.goes_on

    owned : (o : Option Fault) → h.own ≡ o → IsOwnFault o None h.l → IsOwnFault h.own (last_in item) h.l
    owned None e own = absurd (let some = given in true≢false (sym (subst IsSome own some)))
    owned (Some f) e own = subst (λ q. IsOwnFault q (last_in item) h.l) (sym e) own

pub unended : (k : Last) → (k ≡ last.End → ⊥) → is_end (Some k) ≡ false
unended last.End f = absurd (f refl)
unended (last.Failed g) f = refl
unended last.Stopped f = refl

pub no_end : (own : Option Fault) (l : Option Last) → IsOwnFault own (Some last.End) l → l ≡ None → ⊥
no_end None l e none = let clash : ◌≡◌ {A = Option Last} (Some last.End) None = sym e ∙ none in cc
no_end (Some f) l e none = let clash : ◌≡◌ {A = Option Last} (Some (last.Failed f)) None = sym e ∙ none in cc

-- what a stage that goes on gives next
pub judged_next : (index : List (Fp × List ℕ)) (r : Rules) (limit : ℕ) (chunks chunks' : List NamedChunk) (over' : Option Last) (goes goes' : Bool) (g g' : Gatherer) (count count' : ℕ) (d d' : Dealer Decided) (raised raised' : Bool) (more : List Decided) (l : Option Last) (own : Option Fault)
    → (h : HasJudged index r limit chunks None goes g count d raised) → goes ≡ true
    → ((before : List Decided) → HasDealt d before None → HasDealt d' (before ++ more) l)
    → (GoesOn true r limit chunks None (parts_of h.gone) None g count
    → IsDecidedBy (found_in (index_of g)) r limit chunks' over' (parts_of h.gone ++ parts_of more) l × (l ≡ None → GoesOn true r limit chunks' over' (parts_of h.gone ++ parts_of more) None g' count')
    × IsDeciding (found_in (index_of g)) r limit chunks' over' (parts_of h.gone ++ parts_of more) l × (l ≡ memory → ShortAt (found_in (index_of g)) r limit chunks' (parts_of h.gone ++ parts_of more)))
    → IsOwnFault own over' l → index_of g' ≡ index_of g → MatchOption l (goes' ≡ true) (λ k. goes' ≡ false) → raised' ≡ (raised || is_some own)
    → HasJudged index r limit chunks' over' goes' g' count' d' raised'
judged_next index r limit chunks chunks' over' goes goes' g g' count count' d d' raised raised' more l own h on give judge owned same open_yet raise =
    let old : GoesOn true r limit chunks None (parts_of h.gone) h.l g count = subst (λ b. GoesOn b r limit chunks None (parts_of h.gone) h.l g count) on h.goes_on in
    let j = judge (old.0, old.1, old.2, refl, refl) in
    let parts : parts_of (h.gone ++ more) ≡ parts_of h.gone ++ parts_of more = map-append part_of h.gone more in
    record {
      index_is = same ∙ h.index_is;
      gone = h.gone ++ more;
      l = l;
      dealt = give h.gone (subst (HasDealt d h.gone) old.3 h.dealt);
      goes_on = subst (λ q. GoesOn goes' r limit chunks' over' q l g' count') (sym parts) (step l refl open_yet j.1);
      decided = subst (λ q. IsDecidedBy (found_in index) r limit chunks' over' q l) (sym parts) (subst (λ q. IsDecidedBy (found_in q) r limit chunks' over' (parts_of h.gone ++ parts_of more) l) h.index_is j.0);
      due = subst (λ q. IsDeciding (found_in index) r limit chunks' over' q l) (sym parts) (subst (λ q. IsDeciding (found_in q) r limit chunks' over' (parts_of h.gone ++ parts_of more) l) h.index_is j.2);
      short = λ is. subst (λ q. ShortAt (found_in index) r limit chunks' q) (sym parts) (subst (λ q. ShortAt (found_in q) r limit chunks' (parts_of h.gone ++ parts_of more)) h.index_is (j.3 is));
      own = own;
      own_is = owned;
      raised_is = raise ∙ ap (λ b. b || is_some own) (h.raised_is ∙ none_own h.own (subst (λ q. IsOwnFault h.own None q) old.3 h.own_is));
    }
  where
    none_own : (o : Option Fault) → IsOwnFault o None None → is_some o ≡ false
    none_own None e = refl
    none_own (Some f) e = absurd (let clash : ◌≡◌ {A = Option Last} None (Some (last.Failed f)) = e in cc)

    step : (m : Option Last) → l ≡ m → MatchOption m (goes' ≡ true) (λ k. goes' ≡ false) → (l ≡ None → GoesOn true r limit chunks' over' (parts_of h.gone ++ parts_of more) None g' count') → GoesOn goes' r limit chunks' over' (parts_of h.gone ++ parts_of more) l g' count'
    step None e o f = subst (λ (p : Bool × Option Last). GoesOn p.0 r limit chunks' over' (parts_of h.gone ++ parts_of more) p.1 g' count') (λ i. (sym o i, sym e i)) (f e)
    step (Some k) e o f = subst (λ (p : Bool × Option Last). GoesOn p.0 r limit chunks' over' (parts_of h.gone ++ parts_of more) p.1 g' count') (λ i. (sym o i, sym e i)) refl

-- the stage took an item
pub takes : (r : Rules) (limit : ℕ) (p p' : Picker (List ℕ)) (goes goes' : Bool) (g g' : Gatherer) (count count' : ℕ) (d d' : Dealer Decided) (raised raised' : Bool) (item : Result (List ℕ) Last)
    → (h : HasTaken r limit p goes g count d raised) → p.last ≡ None
    → ((parts : List (List ℕ)) → HasPicked p parts None → MatchResult item (λ x. HasPicked p' (parts ++ x ∷ []) None) (λ l. HasPicked p' parts (Some l)))
    → (HasJudged (index_of g) r limit (map named_chunk h.chunks) None goes g count d raised → HasJudged (index_of g) r limit (map named_chunk h.chunks ++ chunk_of item) (last_in item) goes' g' count' d' raised')
    → index_of g' ≡ index_of g → HasTaken r limit p' goes' g' count' d' raised'
takes r limit p p' goes goes' g g' count count' d d' raised raised' item h open_yet pick judge same =
    step item (pick h.chunks (subst (HasPicked p h.chunks) open_yet h.picked)) (judge (subst (λ o. HasJudged (index_of g) r limit (map named_chunk h.chunks) o goes g count d raised) open_yet h.judged))
  where
    step : (item : Result (List ℕ) Last) → MatchResult item (λ x. HasPicked p' (h.chunks ++ x ∷ []) None) (λ l. HasPicked p' h.chunks (Some l))
        → HasJudged (index_of g) r limit (map named_chunk h.chunks ++ chunk_of item) (last_in item) goes' g' count' d' raised' → HasTaken r limit p' goes' g' count' d' raised'
    step (Ok x) q j = record {
      chunks = h.chunks ++ x ∷ [];
      picked = subst (HasPicked p' (h.chunks ++ x ∷ [])) (sym q.last_is) q;
      judged = subst (λ (z : List (Fp × List ℕ) × List NamedChunk × Option Last). HasJudged z.0 r limit z.1 z.2 goes' g' count' d' raised') (λ i. (sym same i, sym (map-append named_chunk h.chunks (x ∷ [])) i, sym q.last_is i)) j;
    }
    step (Err l) q j = record {
      chunks = h.chunks;
      picked = subst (HasPicked p' h.chunks) (sym q.last_is) q;
      judged = subst (λ (z : List (Fp × List ℕ) × List NamedChunk × Option Last). HasJudged z.0 r limit z.1 z.2 goes' g' count' d' raised') (λ i. (sym same i, append-nil (map named_chunk h.chunks) i, sym q.last_is i)) j;
    }

pub turned : (r : Rules) (limit : ℕ) (p : Picker (List ℕ)) (goes : Bool) (g : Gatherer) (count : ℕ) (d d' : Dealer Decided) (raised : Bool) → HasTaken r limit p goes g count d raised
    → ((given : List Decided) (l : Option Last) → HasDealt d given l → HasDealt d' given l) → HasTaken r limit p goes g count d' raised
turned r limit p goes g count d d' raised h same = record {
  chunks = h.chunks;
  picked = h.picked;
  judged = let j = h.judged in record {
    index_is = j.index_is;
    gone = j.gone;
    l = j.l;
    dealt = same j.gone j.l j.dealt;
    goes_on = j.goes_on;
    decided = j.decided;
    due = j.due;
    short = j.short;
    own = j.own;
    own_is = j.own_is;
    raised_is = j.raised_is;
  };
}

-- nothing was there to take
pub waits : (r : Rules) (limit : ℕ) (p p' : Picker (List ℕ)) (goes : Bool) (g : Gatherer) (count : ℕ) (d : Dealer Decided) (raised : Bool) → (h : HasTaken r limit p goes g count d raised) → p.last ≡ None
    → ((parts : List (List ℕ)) → HasPicked p parts None → HasPicked p' parts None) → HasTaken r limit p' goes g count d raised
waits r limit p p' goes g count d raised h open_yet still =
    let q = still h.chunks (subst (HasPicked p h.chunks) open_yet h.picked) in
    record {
      chunks = h.chunks;
      picked = subst (HasPicked p' h.chunks) (sym q.last_is) q;
      judged = subst (λ o. HasJudged (index_of g) r limit (map named_chunk h.chunks) o goes g count d raised) (open_yet ∙ sym q.last_is) h.judged;
    }

pub none_of : (o : Option Last) (b : Bool) → MatchOption o (b ≡ false) (λ l. b ≡ true) → b ≡ false → o ≡ None
none_of None b m e = refl
none_of (Some l) b m e = absurd (true≢false (sym m ∙ e))

-- a stage that took nothing
pub begun : (r : Rules) (limit : ℕ) (p : Picker (List ℕ)) (g : Gatherer) (d : Dealer Decided) (raised : Bool) → HasPicked p [] None → HasGathered g r [] [] → HasDealt d [] None → raised ≡ false → HasTaken r limit p true g 0 d raised
begun r limit p g d raised picked gathered dealt idle = record {
  chunks = [];
  picked = subst (HasPicked p []) (sym picked.last_is) picked;
  judged = subst (λ o. HasJudged (index_of g) r limit [] o true g 0 d raised) (sym picked.last_is) (record {
    index_is = refl;
    gone = [];
    l = None;
    dealt = dealt;
    goes_on = (gathered, refl, omega arith, refl, refl);
    decided = own_judged (found_in (index_of g)) r limit [] [] None None refl (λ f is. absurd (let clash : ◌≡◌ {A = Option Fault} None (Some f) = is in cc)) (λ more. (decided_parts (found_in (index_of g)) r more, refl));
    due = due_taken g g r limit [] None [] None gathered refl (omega arith) refl refl;
    short = λ is. absurd (let clash : None ≡ memory = is in cc);
    own = None;
    own_is = refl;
    raised_is = idle;
  });
}

pub is_back : (r : Rules) (limit : ℕ) (p : Picker (List ℕ)) (goes : Bool) (g : Gatherer) (count : ℕ) (d : Dealer Decided) (raised : Bool) (lanes : List (Receiver (Flow (List ℕ)))) (outs : List (Sender (Flow Decided)))
    → HasTaken r limit p goes g count d raised → lanes ≡ p.lanes.items → outs ≡ d.lanes.items → IsBack (found_in (index_of g)) r limit lanes p.last outs raised
is_back r limit p goes g count d raised lanes outs h same same' = subst (λ (z : List (Receiver (Flow (List ℕ))) × List (Sender (Flow Decided))). IsBack (found_in (index_of g)) r limit z.0 p.last z.1 raised) (λ i. (sym same i, sym same' i)) (record {
  chunks = h.chunks;
  picked = h.picked.lanes;
  gone = h.judged.gone;
  l = h.judged.l;
  decided = h.judged.decided;
  due = h.judged.due;
  lines = dealt_front d h.judged.gone h.judged.l h.judged.dealt;
  own = h.judged.own;
  own_is = h.judged.own_is;
  raised_is = h.judged.raised_is;
})
