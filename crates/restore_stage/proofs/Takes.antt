-- The steps of an assembler.
use Rattle.std.proofs.Common.{◌≡◌, ◌≢◌, ◌⊎◌, inl, inr, ⊎_elim, ◌≤◌, ◌+◌, ℕ, zero, suc, Bool, true, false, List, [], ◌∷◌, ◌++◌, length, take, drop, Option, Some, None, refl, sym, ◌∙◌, ap, subst, append_assoc, arith}
use Rattle.std.specs.Prelude.{◌↔◌, All, Contains, IfSome, IsSomeAnd, IsTrue, flat_map, nat_lt, if◌then◌else◌}
use Rattle.std.proofs.lemmas.List.{append-nil, drop-drop, take-append-drop}
use Rattle.std.proofs.lemmas.Grind.{flat_map-append}
use Rattle.std.proofs.lemmas.List.Elements.{Contains-push}
use Rattle.vault_types.specs.declared.Fault.{Fault}
use Rattle.vault_types.specs.declared.Fault.TheVariants as fault
use Rattle.vault_types.specs.declared.Kind.TheVariants as kind
use Rattle.vault_types.specs.declared.Spot.{Spot}
use Rattle.vault_types.specs.declared.Step.{Step}
use Rattle.vault_types.specs.declared.Step.TheVariants.{Load, Evict, Serve}
use Rattle.vault_types.specs.declared.Whole.{Whole}
use Rattle.vault_types.specs.declared.Why.TheVariants as why
use Rattle.vault_types.specs.Bytes.{spot_bytes}
use Rattle.vault_types.specs.Names.{fp}
use Rattle.vault_types.specs.Plans.{loads}
use Rattle.vault_traits.specs.Counts.{Rose}
use Rattle.vault_traits.specs.Told.{SinkTold, Takes}
use Rattle.belady_cache.proofs.Steps.{loads_cons}
use Rattle.restore_assembler.specs.declared.payload.Payload.{Payload}
use Rattle.restore_assembler.specs.Payloads.{Covers}
use Rattle.restore_assembler.specs.Copying.{Copying, IsCovered, wanted, next_load, IsWanted, HasCopied, IsOutputFault, IsTakenAt, version_bytes}
use Rattle.restore_stage.specs.declared.Loaded.{Loaded}
use Rattle.restore_stage.specs.declared.Loaded.TheVariants as loaded
use Rattle.restore_stage.specs.declared.Reply.{Reply}
use Rattle.restore_stage.specs.declared.Reply.TheVariants as reply
use Rattle.stage_flows.specs.Runs.{held}
use Rattle.stage_queue.specs.Ends.{Receiver}
use Rattle.restore_stage.specs.Assembling.{Assembling, reply_of, ids, load_ids, IsUnwanted, IsOf, AreOf, HasDone, HasCome, HasSum, TakesFront, HasWritten, ComesOf, SeesItem, IsSame}

ids_push : (xs : List Loaded) (p : Payload) → ids (xs ++ loaded.Payload p ∷ []) ≡ ids xs ++ p.id ∷ []
ids_push [] p = refl
ids_push (loaded.Payload q ∷ xs) p = ap (λ (ns : List ℕ). q.id ∷ ns) (ids_push xs p)
ids_push (loaded.Failed f ∷ xs) p = ids_push xs p

most : (k : ℕ) (steps : List Step) → loads (drop k steps) ≤ loads steps
most zero steps = omega arith
most (suc k) [] = omega arith
most (suc k) (s ∷ steps) = let h = loads_cons s steps in let i = most k steps in omega (arith, h, i)

-- steps of which the front loads nothing
no_loads : (k : ℕ) (steps : List Step) → loads (drop k steps) ≡ loads steps → load_ids steps ≡ load_ids (drop k steps)
no_loads zero steps same = refl
no_loads (suc k) [] same = refl
no_loads (suc k) (Load c ∷ steps) same = absurd (let h = loads_cons (Load c) steps in let i = most k steps in let e : loads (drop k steps) ≡ loads (Load c ∷ steps) = same in omega (arith, h, i, e))
no_loads (suc k) (Evict c ∷ steps) same = no_loads k steps same
no_loads (suc k) (Serve ∷ steps) same = no_loads k steps same

-- one load is done, that of the wanted id
one_less : (k : ℕ) (steps : List Step) (id : ℕ) → next_load steps ≡ Some id → loads (drop k steps) + 1 ≡ loads steps → load_ids steps ≡ id ∷ load_ids (drop k steps)
one_less zero steps id next fewer = absurd (omega (arith, fewer))
one_less (suc k) [] id next fewer = cc
one_less (suc k) (Load c ∷ steps) id next fewer =
    let same : c ≡ id = cc in
    ap (λ (n : ℕ). n ∷ load_ids steps) same ∙ ap (λ (ns : List ℕ). id ∷ ns) (no_loads k steps (let h = loads_cons (Load c) steps in let f : loads (drop k steps) + 1 ≡ loads (Load c ∷ steps) = fewer in omega (arith, h, f)))
one_less (suc k) (Evict c ∷ steps) id next fewer = one_less k steps id next fewer
one_less (suc k) (Serve ∷ steps) id next fewer = one_less k steps id next fewer

load_here : (steps : List Step) (id : ℕ) → next_load steps ≡ Some id → load_ids steps ≡ id ∷ drop 1 (load_ids steps)
load_here [] id next = cc
load_here (Load c ∷ steps) id next = let same : c ≡ id = cc in ap (λ (n : ℕ). n ∷ load_ids steps) same
load_here (Evict c ∷ steps) id next = load_here steps id next
load_here (Serve ∷ steps) id next = load_here steps id next

wanted_next : (s : Copying) (id : ℕ) → wanted s ≡ Some id → next_load s.steps ≡ Some id
wanted_next s id is = by (nat_lt s.done (length s.spots)) is
  where
    by : (b : Bool) → (if b then next_load s.steps else None) ≡ Some id → next_load s.steps ≡ Some id
    by true e = e
    by false e = cc

of_last : (known : ℕ → List ℕ) (xs : List Loaded) (x : Loaded) → AreOf known (xs ++ x ∷ []) → IsOf known x
of_last known [] x h = h.0
of_last known (y ∷ xs) x h = of_last known xs x h.1

earlier : (whole : Option Whole) (start before now : SinkTold) (f : Fault) → start.faults ≤ before.faults → IsOutputFault whole before now f → IsOutputFault whole start now f
earlier whole start before now (fault.WriteFault n) later h = (h.0, lower h.1)
  where
    lower : Rose before.faults now.faults → Rose start.faults now.faults
    lower rose = omega arith
earlier whole start before now (fault.Damaged kind.Recipe number (why.Whole want found)) later h = h
earlier whole start before now other later h = absurd h

-- what was copied is a front of the whole
copied_front : (known : ℕ → List ℕ) (start now : SinkTold) (s : Copying) → HasCopied known start now s → TakesFront start now (version_bytes known s.spots)
copied_front known start now s h = record {
  front = version_bytes known (take s.done s.spots);
  rest = version_bytes known (drop s.done s.spots);
  parts_are = sym (flat_map-append (spot_bytes known) (take s.done s.spots) (drop s.done s.spots)) ∙ ap (flat_map (spot_bytes known)) (take-append-drop s.done s.spots);
  taken = h.taken;
}

taken_front : (bytes : List ℕ) (before now : SinkTold) (f : Fault) → IsTakenAt bytes before now f → TakesFront before now bytes
taken_front bytes before now (fault.WriteFault n) h = record { front = h.0; rest = h.1; parts_are = h.2; taken = h.4 }
taken_front bytes before now (fault.Damaged k n (why.Whole want found)) h = record { front = bytes; rest = []; parts_are = append-nil bytes; taken = h.1 }
taken_front bytes before now other h = absurd h

-- the same, but for what is held ready and what was sent
pub record IsMoved (a b : Assembling) : Type 0 where
  pub copying : b.copying ≡ a.copying
  pub sink : b.sink ≡ a.sink
  pub bytes : b.bytes ≡ a.bytes
  pub loads : b.loads ≡ a.loads
  pub to : b.reply.line ≡ a.reply.line

with_reply : (a b : Assembling) → IsMoved a b → (P : Assembling → Type 0) → ((c : Assembling) → c.copying ≡ a.copying → P c) → P b
with_reply a b m P f = f b m.copying

-- its reply goes on
pub moved : (a b : Assembling) → IsMoved a b → reply_of b ≡ reply_of a → IsSame a b
moved a b m same = record {
  from = ap (λ (p : Receiver Loaded). p.line) m.loads;
  to = m.to;
  bytes = m.bytes;
  spots = ap (λ (c : Copying). c.spots) m.copying;
  whole = ap (λ (c : Copying). c.whole) m.copying;
  later = omega (arith, ap (λ (w : SinkTold). w.faults) m.sink);
  more = ([], ap (λ (p : Receiver Loaded). p.taken) m.loads ∙ sym (append-nil a.loads.taken));
  come = λ start steps later h. come_moved start steps (reply_of a) (reply_of b) (sym same) h;
  written = λ known start all h. written_moved known start (reply_of a) (reply_of b) (sym same) h;
}
  where
    come_as : (start : SinkTold) (steps : List Step) (r : List Reply) → HasCome start steps a r → HasCome start steps b r
    come_as start steps [] h = record {
      behind = (h.behind.0, ap (λ (c : Copying). c.steps) m.copying ∙ h.behind.1);
      loaded = subst (λ (c : Copying). ids b.loads.taken ++ load_ids c.steps ≡ load_ids steps) (sym m.copying)
          (subst (λ (p : Receiver Loaded). ids p.taken ++ load_ids a.copying.steps ≡ load_ids steps) (sym m.loads) h.loaded);
    }
    come_as start steps (reply.Written n ∷ more) h = (
      record {
        behind = (h.0.behind.0, ap (λ (c : Copying). c.steps) m.copying ∙ h.0.behind.1);
        loaded = subst (λ (c : Copying). ids b.loads.taken ++ load_ids c.steps ≡ load_ids steps) (sym m.copying)
            (subst (λ (p : Receiver Loaded). ids p.taken ++ load_ids a.copying.steps ≡ load_ids steps) (sym m.loads) h.0.loaded);
      },
      subst (λ (c : Copying). All (λ step. step ≢ Serve) c.steps) (sym m.copying) h.1,
      h.2 ∙ sym m.bytes,
    )
    come_as start steps (reply.Failed f ∷ more) h = ⊎_elim
        (λ here. inl (subst (λ (p : Receiver Loaded). Contains p.taken (loaded.Failed f)) (sym m.loads) here))
        (λ cause. inr (subst (λ (c : Copying). IsOutputFault c.whole start b.sink f) (sym m.copying) (subst (λ (w : SinkTold). IsOutputFault a.copying.whole start w f) (sym m.sink) cause)))
        h
    come_as start steps (reply.Unwanted ∷ more) h = record {
      front = h.front;
      item = h.item;
      taken = ap (λ (p : Receiver Loaded). p.taken) m.loads ∙ h.taken;
      id = h.id;
      more = h.more;
      wants = h.wants;
      unwanted = subst (λ (c : Copying). IsUnwanted h.id c.spots h.item) (sym m.copying) h.unwanted;
    }

    come_moved : (start : SinkTold) (steps : List Step) (r q : List Reply) → r ≡ q → HasCome start steps a r → HasCome start steps b q
    come_moved start steps r q is h = subst (λ (k : List Reply). HasCome start steps b k) is (come_as start steps r h)

    written_as : (known : ℕ → List ℕ) (start : SinkTold) (r : List Reply) → HasWritten known start a r → HasWritten known start b r
    written_as known start [] h =
        subst (λ (w : SinkTold). HasCopied known start w b.copying × (wanted b.copying ≡ None → HasSum known b.copying)) (sym m.sink)
        (subst (λ (c : Copying). HasCopied known start a.sink c × (wanted c ≡ None → HasSum known c)) (sym m.copying) h)
    written_as known start (reply.Written n ∷ more) h =
        subst (λ (w : SinkTold). Takes start.taken w.taken (version_bytes known b.copying.spots) × HasSum known b.copying) (sym m.sink)
        (subst (λ (c : Copying). Takes start.taken a.sink.taken (version_bytes known c.spots) × HasSum known c) (sym m.copying) h)
    written_as known start (reply.Failed f ∷ more) h =
        subst (λ (p : Receiver Loaded). TakesFront start b.sink (version_bytes known b.copying.spots) × (Contains p.taken (loaded.Failed f) ⊎ IsTakenAt (version_bytes known b.copying.spots) start b.sink f)) (sym m.loads)
        (subst (λ (w : SinkTold). TakesFront start w (version_bytes known b.copying.spots) × (Contains a.loads.taken (loaded.Failed f) ⊎ IsTakenAt (version_bytes known b.copying.spots) start w f)) (sym m.sink)
        (subst (λ (c : Copying). TakesFront start a.sink (version_bytes known c.spots) × (Contains a.loads.taken (loaded.Failed f) ⊎ IsTakenAt (version_bytes known c.spots) start a.sink f)) (sym m.copying) h))
    written_as known start (reply.Unwanted ∷ more) h =
        subst (λ (w : SinkTold). TakesFront start w (version_bytes known b.copying.spots)) (sym m.sink)
        (subst (λ (c : Copying). TakesFront start a.sink (version_bytes known c.spots)) (sym m.copying) h)

    written_moved : (known : ℕ → List ℕ) (start : SinkTold) (r q : List Reply) → r ≡ q → HasWritten known start a r → HasWritten known start b q
    written_moved known start r q is h = subst (λ (k : List Reply). HasWritten known start b k) is (written_as known start r h)

-- all is written, and it replies
pub replied : (a b : Assembling) → IsMoved a b → reply_of a ≡ [] → wanted a.copying ≡ None → All (λ step. step ≢ Serve) a.copying.steps
    → ((known : ℕ → List ℕ) (before now : SinkTold) → HasCopied known before now a.copying → Takes before.taken now.taken (version_bytes known a.copying.spots))
    → (n : ℕ) → n ≡ a.bytes → reply_of b ≡ reply.Written n ∷ [] → IsSame a b
replied a b m none done served all n is_bytes says = record {
  from = ap (λ (p : Receiver Loaded). p.line) m.loads;
  to = m.to;
  bytes = m.bytes;
  spots = ap (λ (c : Copying). c.spots) m.copying;
  whole = ap (λ (c : Copying). c.whole) m.copying;
  later = omega (arith, ap (λ (w : SinkTold). w.faults) m.sink);
  more = ([], ap (λ (p : Receiver Loaded). p.taken) m.loads ∙ sym (append-nil a.loads.taken));
  come = λ start steps later h.
      let here : HasDone steps a = subst (λ (r : List Reply). HasCome start steps a r) none h in
      subst (λ (r : List Reply). HasCome start steps b r) (sym says) (
        record {
          behind = (here.behind.0, ap (λ (c : Copying). c.steps) m.copying ∙ here.behind.1);
          loaded = subst (λ (c : Copying). ids b.loads.taken ++ load_ids c.steps ≡ load_ids steps) (sym m.copying)
              (subst (λ (p : Receiver Loaded). ids p.taken ++ load_ids a.copying.steps ≡ load_ids steps) (sym m.loads) here.loaded);
        },
        subst (λ (c : Copying). All (λ step. step ≢ Serve) c.steps) (sym m.copying) served,
        is_bytes ∙ sym m.bytes,
      );
  written = λ known start told h.
      let here : HasWritten known start a [] = subst (λ (r : List Reply). HasWritten known start a r) none h in
      subst (λ (r : List Reply). HasWritten known start b r) (sym says)
      (subst (λ (w : SinkTold). Takes start.taken w.taken (version_bytes known b.copying.spots) × HasSum known b.copying) (sym m.sink)
      (subst (λ (c : Copying). Takes start.taken a.sink.taken (version_bytes known c.spots) × HasSum known c) (sym m.copying)
      (all known start a.sink here.0, here.1 done)));
}

-- it takes an item
pub took : (a : Assembling) (id : ℕ) (item : Loaded) (d : Copying) (v : SinkTold) (r : Option Reply) → reply_of a ≡ [] → wanted a.copying ≡ Some id → SeesItem id item a.copying d a.sink v r
    → (b : Assembling) → b.copying ≡ d → b.sink ≡ v → b.bytes ≡ a.bytes → b.loads.line ≡ a.loads.line → b.loads.taken ≡ a.loads.taken ++ item ∷ [] → b.reply.line ≡ a.reply.line → reply_of b ≡ held r → IsSame a b
took a id item d v r none wants sees b is_copying is_sink is_bytes line taken to says = record {
  from = line;
  to = to;
  bytes = is_bytes;
  spots = ap (λ (c : Copying). c.spots) is_copying ∙ sees.spots;
  whole = ap (λ (c : Copying). c.whole) is_copying ∙ sees.whole;
  later = omega (arith, sees.later, ap (λ (w : SinkTold). w.faults) is_sink);
  more = (item ∷ [], taken);
  come = λ start steps later h. subst (λ (q : List Reply). HasCome start steps b q) (sym says) (come r sees.comes start steps later (subst (λ (q : List Reply). HasCome start steps a q) none h));
  written = λ known start all h. subst (λ (q : List Reply). HasWritten known start b q) (sym says)
      (written r sees.comes known start (of_last known a.loads.taken item (subst (AreOf known) taken all)) (subst (λ (q : List Reply). HasWritten known start a q) none h));
}
  where
    is_last : (f : Fault) → item ≡ loaded.Failed f → Contains b.loads.taken (loaded.Failed f)
    is_last f is = subst (λ (xs : List Loaded). Contains xs (loaded.Failed f)) (sym taken) (subst (λ (x : Loaded). Contains (a.loads.taken ++ item ∷ []) x) is (Contains-push a.loads.taken item))

    come : (r : Option Reply) → ComesOf id item a.copying d a.sink v r → (start : SinkTold) (steps : List Step) → start.faults ≤ a.sink.faults → HasDone steps a → HasCome start steps b (held r)
    come None c start steps later h = record {
      behind = (h.behind.0 + c.behind.0, ap (λ (k : Copying). k.steps) is_copying ∙ c.behind.1 ∙ ap (drop c.behind.0) h.behind.1 ∙ drop-drop c.behind.0 h.behind.0 steps);
      loaded = subst (λ (k : Copying). ids b.loads.taken ++ load_ids k.steps ≡ load_ids steps) (sym is_copying)
          (ap (λ (xs : List Loaded). ids xs ++ load_ids d.steps) (taken ∙ ap (λ (x : Loaded). a.loads.taken ++ x ∷ []) c.is) ∙ ap (λ (ns : List ℕ). ns ++ load_ids d.steps) (ids_push a.loads.taken c.payload)
          ∙ append_assoc (ids a.loads.taken) (c.payload.id ∷ []) (load_ids d.steps) ∙ ap (λ (ns : List ℕ). ids a.loads.taken ++ ns) (sym c.load) ∙ h.loaded);
    }
    come (Some (reply.Written x)) c start steps later h = absurd c
    come (Some (reply.Failed f)) (inl came) start steps later h = inl (is_last f came.0)
    come (Some (reply.Failed f)) (inr own) start steps later h = inr (subst (λ (k : Copying). IsOutputFault k.whole start b.sink f) (sym is_copying) (subst (λ (o : Option Whole). IsOutputFault o start b.sink f) (sym sees.whole)
        (subst (λ (w : SinkTold). IsOutputFault a.copying.whole start w f) (sym is_sink) (earlier a.copying.whole start a.sink v f later own.0))))
    come (Some reply.Unwanted) c start steps later h = record {
      front = a.loads.taken;
      item = item;
      taken = taken;
      id = id;
      more = drop 1 (load_ids a.copying.steps);
      wants = ap (λ (ns : List ℕ). ids a.loads.taken ++ ns) (sym (load_here a.copying.steps id (wanted_next a.copying id wants))) ∙ h.loaded;
      unwanted = subst (λ (ss : List Spot). IsUnwanted id ss item) (sym (ap (λ (k : Copying). k.spots) is_copying ∙ sees.spots)) c.1;
    }

    as_told : (P : List Spot → Option Whole → SinkTold → Type 0) → P a.copying.spots a.copying.whole v → P b.copying.spots b.copying.whole b.sink
    as_told P h =
        subst (λ (w : SinkTold). P b.copying.spots b.copying.whole w) (sym is_sink)
        (subst (λ (s : List Spot). P s b.copying.whole v) (sym (ap (λ (c : Copying). c.spots) is_copying ∙ sees.spots))
        (subst (λ (o : Option Whole). P a.copying.spots o v) (sym (ap (λ (c : Copying). c.whole) is_copying ∙ sees.whole)) h))

    written : (r : Option Reply) → ComesOf id item a.copying d a.sink v r → (known : ℕ → List ℕ) (start : SinkTold) → IsOf known item → HasWritten known start a [] → HasWritten known start b (held r)
    written None c known start of h = (
      subst (λ (k : Copying). HasCopied known start b.sink k) (sym is_copying) (subst (λ (w : SinkTold). HasCopied known start w d) (sym is_sink) (c.copied known start of h.0)),
      λ end. inr (as_told (λ spots whole w. IfSome whole (λ x. fp (version_bytes known spots) ≡ x.want)) (c.summed known start of h.0 (sym (ap wanted is_copying) ∙ end))),
    )
    written (Some (reply.Written x)) c known start of h = absurd c
    written (Some (reply.Failed f)) (inl came) known start of h = (
      as_told (λ spots whole w. TakesFront start w (version_bytes known spots)) (subst (λ (w : SinkTold). TakesFront start w (version_bytes known a.copying.spots)) (sym came.1) (copied_front known start a.sink a.copying h.0)),
      inl (is_last f came.0),
    )
    written (Some (reply.Failed f)) (inr own) known start of h = (
      as_told (λ spots whole w. TakesFront start w (version_bytes known spots)) (taken_front (version_bytes known a.copying.spots) start v f (own.1 known start of h.0)),
      inr (as_told (λ spots whole w. IsTakenAt (version_bytes known spots) start w f) (own.1 known start of h.0)),
    )
    written (Some reply.Unwanted) c known start of h = as_told (λ spots whole w. TakesFront start w (version_bytes known spots)) (subst (λ (w : SinkTold). TakesFront start w (version_bytes known a.copying.spots)) (sym c.0) (copied_front known start a.sink a.copying h.0))

-- ---- an item

module _ (id : ℕ) (item : Loaded) (p : Payload) (c d : Copying) (w v : SinkTold) (bytes : List ℕ) (is : item ≡ loaded.Payload p) (is_bytes : p.bytes.items ≡ bytes) (same : p.id ≡ id) (wants : wanted c ≡ Some id) where
  is_wanted : (known : ℕ → List ℕ) → IsOf known item → IsWanted known c bytes
  is_wanted known of = subst (λ (o : Option ℕ). IfSome o (λ i. bytes ≡ known i)) (sym wants)
      (sym is_bytes ∙ subst (λ (x : Loaded). IsOf known x) is of ∙ ap known same)

  one_loaded : loads d.steps + 1 ≡ loads c.steps → (k : ℕ) × (d.steps ≡ drop k c.steps) → load_ids c.steps ≡ p.id ∷ load_ids d.steps
  one_loaded fewer behind =
      let steps : load_ids c.steps ≡ id ∷ load_ids (drop behind.0 c.steps) = one_less behind.0 c.steps id (wanted_next c id wants) (ap (λ (xs : List Step). loads xs + 1) (sym behind.1) ∙ fewer) in
      steps ∙ ap (λ (n : ℕ). n ∷ load_ids (drop behind.0 c.steps)) (sym same) ∙ ap (λ (xs : List Step). p.id ∷ load_ids xs) (sym behind.1)

  pub gave : d.spots ≡ c.spots → d.whole ≡ c.whole → w.faults ≤ v.faults → loads d.steps + 1 ≡ loads c.steps → (k : ℕ) × (d.steps ≡ drop k c.steps)
      → ((known : ℕ → List ℕ) (start : SinkTold) → HasCopied known start w c → IsWanted known c bytes → HasCopied known start v d)
      → ((known : ℕ → List ℕ) (start : SinkTold) → HasCopied known start w c → IsWanted known c bytes → wanted d ≡ None → IfSome c.whole (λ x. fp (version_bytes known c.spots) ≡ x.want))
      → SeesItem id item c d w v None
  gave spots whole later fewer behind copied sum = let one_load = one_loaded fewer behind in record {
    spots = spots;
    whole = whole;
    later = later;
    comes = record {
      payload = p;
      is = is;
      load = one_load;
      behind = behind;
      copied = λ known start of h. copied known start h (is_wanted known of);
      summed = λ known start of h. sum known start h (is_wanted known of);
    };
  }

  pub gave_up : (f : Fault) → d.spots ≡ c.spots → d.whole ≡ c.whole → w.faults ≤ v.faults → IsOutputFault c.whole w v f
      → ((known : ℕ → List ℕ) (start : SinkTold) → HasCopied known start w c → IsWanted known c bytes → IsTakenAt (version_bytes known c.spots) start v f)
      → SeesItem id item c d w v (Some (reply.Failed f))
  gave_up f spots whole later cause taken = record {
    spots = spots;
    whole = whole;
    later = later;
    comes = inr (cause, λ known start of h. taken known start h (is_wanted known of));
  }

-- a payload that was not wanted
pub unwanted : (id : ℕ) (item : Loaded) (p : Payload) (c : Copying) (w : SinkTold) → item ≡ loaded.Payload p → (p.id ≢ id) ⊎ (Covers id p.bytes.items c.spots → ⊥) → SeesItem id item c c w w (Some reply.Unwanted)
unwanted id item p c w is why = record {
  spots = refl;
  whole = refl;
  later = omega arith;
  comes = (refl, record { payload = p; is = is; why = why });
}

pub not_covered : (id : ℕ) (c : Copying) (bytes : List ℕ) (b : Bool) → wanted c ≡ Some id → (IsTrue b ↔ IsCovered c bytes) → b ≡ false → Covers id bytes c.spots → ⊥
not_covered id c bytes b wants tells none covers =
    let all : IsCovered c bytes = subst (λ (o : Option ℕ). IsSomeAnd o (λ i. Covers i bytes c.spots)) (sym wants) covers in
    let e : true ≡ false = sym (tells.1 all) ∙ none in
    cc
