-- A segment that is complete stays as it is, whatever chunks come later, and so does what was decided of it.
use Rattle.std.proofs.Common.{◌≡◌, ℕ, ◌+◌, ◌-◌, ◌<◌, ◌≤◌, Bool, true, false, List, [], ◌∷◌, ◌++◌, length, take, drop, map, refl, sym, ap, ◌∙◌, subst, append_assoc, append-nil, arith, length-drop, Option, Some}
use Rattle.std.specs.Prelude.{nat_le, max, flat_map}
use Rattle.std.specs.List.{zip}
use Rattle.std.proofs.lemmas.List.{map-append, take-append-le, drop-append-le}
use Rattle.vault_types.specs.declared.Fp.{Fp}
use Rattle.vault_types.specs.declared.How.{How}
use Rattle.vault_types.specs.Lists.{fitting}
use Rattle.vault_types.specs.Names.{NamedChunk, named_chunk}
use Rattle.vault_types.specs.Pieces.{piece_len, pieces}
use Rattle.vault_types.specs.Decide.{Rules, Looked, look_up, decisions, decisions_in, decisions_of, segments_of, how, is_written, allowed_id}
use Rattle.vault_types.specs.Stages.{IsFront, decided_parts}
use Rattle.vault_types.proofs.PartsLemmas.{parts_step}
use Rattle.vault_types.proofs.PieceLemmas.{piece_rule}
use Rattle.vault_types.proofs.BackupLemmas.{joined-pieces}
use Rattle.segment_gather.specs.declared.gatherer.Gatherer.{Gatherer}
use Rattle.segment_gather.specs.Segmented.{only_segment, size_of, joined, places_in}
use Rattle.segment_gather.specs.Gathering.{HasGathered, answers_of, chunks_in, places_of}

module _ {X : Type 0} (w : X → ℕ) where
  -- a front that ends before the list does is the same with more behind the list
  fitting-short : (room : ℕ) (xs ys : List X) → fitting w room xs < length xs → fitting w room (xs ++ ys) ≡ fitting w room xs
  fitting-short room [] ys h = absurd (omega arith)
  fitting-short room (x ∷ xs) ys h = step (nat_le (w x) room) refl (λ less. fitting-short (room - w x) xs ys less)
    where
      step : (b : Bool) → nat_le (w x) room ≡ b → (fitting w (room - w x) xs < length xs → fitting w (room - w x) (xs ++ ys) ≡ fitting w (room - w x) xs) → fitting w room ((x ∷ xs) ++ ys) ≡ fitting w room (x ∷ xs)
      step true e i = let less : 1 + fitting w (room - w x) xs < length (x ∷ xs) = rw e at h in rw e (ap (λ n. 1 + n) (i (omega arith)))
      step false e i = rw e refl

  pub some_left : (size : ℕ) (zs : List X) (done : List (List X)) (o : X) (os : List X) → pieces w size zs ≡ done ++ (o ∷ os) ∷ [] → 1 ≤ length zs
  some_left size [] [] o os e = absurd (cc)
  some_left size [] (d ∷ done) o os e = absurd (cc)
  some_left size (z ∷ zs) done o os e = omega arith

  -- pieces behind which a last one stands are pieces of every longer list
  pub pieces-stay : (size : ℕ) (done : List (List X)) (o : X) (os xs ys : List X) → pieces w size xs ≡ done ++ (o ∷ os) ∷ [] → pieces w size (xs ++ ys) ≡ done ++ pieces w size ((o ∷ os) ++ ys)
  pieces-stay size [] o os xs ys e =
      let same : xs ≡ o ∷ os = sym (joined-pieces w size xs) ∙ ap (λ ps. flat_map (λ p. p) ps) e ∙ append-nil (o ∷ os) in
      ap (λ zs. pieces w size (zs ++ ys)) same
  pieces-stay size (d ∷ done) o os [] ys e = absurd (cc)
  pieces-stay size (d ∷ done) o os (z ∷ zs) ys e =
      let xs : List X = z ∷ zs in
      let k : ℕ = max 1 (fitting w size xs) in
      let one : pieces w size xs ≡ take k xs ∷ pieces w size (drop k xs) = parts_step (piece_len w size) (piece_rule w size) xs k refl in
      let both : take k xs ∷ pieces w size (drop k xs) ≡ d ∷ (done ++ (o ∷ os) ∷ []) = sym one ∙ e in
      let first : take k xs ≡ d = cc in
      let others : pieces w size (drop k xs) ≡ done ++ (o ∷ os) ∷ [] = cc in
      let left : length (drop k xs) ≡ length xs - k = length-drop k xs in
      let some : 1 ≤ length (drop k xs) = some_left size (drop k xs) done o os others in
      let less : fitting w size xs < length xs = omega arith in
      let same : max 1 (fitting w size (xs ++ ys)) ≡ k = ap (max 1) (fitting-short size xs ys less) in
      let within : k ≤ length xs = omega arith in
      parts_step (piece_len w size) (piece_rule w size) (xs ++ ys) k (ap Some same)
      ∙ ap (λ p. p ∷ pieces w size (drop k (xs ++ ys))) (take-append-le k xs ys within ∙ first)
      ∙ ap (λ rs. d ∷ pieces w size rs) (drop-append-le k xs ys within)
      ∙ ap (λ ps. d ∷ ps) (pieces-stay size done o os (drop k xs) ys others)

pub joined-append : (a b : List (List NamedChunk)) → joined (a ++ b) ≡ joined a ++ joined b
joined-append [] b = refl
joined-append (d ∷ a) b = ap (λ cs. d ++ cs) (joined-append a b) ∙ sym (append_assoc d (joined a) (joined b))

-- decisions are added behind those that were there
module _ (old : Looked → Option ℕ) where
  decisions_in-front : (places : List (Fp × How)) (ls : List Looked) → IsFront places (decisions_in old places ls)
  decisions_in-front places [] = ([], append-nil places)
  decisions_in-front places (l ∷ ls) =
      let p : Fp × How = (l.fp, how (is_written places l.fp) (old l)) in
      let f = decisions_in-front (places ++ p ∷ []) ls in
      (p ∷ f.0, sym (append_assoc places (p ∷ []) f.0) ∙ f.1)

decisions-front : (r : Rules) (places : List (Fp × How)) (segments : List (List Looked)) → IsFront places (decisions r places segments)
decisions-front r places [] = ([], append-nil places)
decisions-front r places (s ∷ segments) =
    let a = decisions_in-front (allowed_id r places s) places s in
    let b = decisions-front r (decisions_of r places s) segments in
    (a.0 ++ b.0, sym (append_assoc places a.0 b.0) ∙ ap (λ q. q ++ b.0) a.1 ∙ b.1)

decisions-append : (r : Rules) (places : List (Fp × How)) (a b : List (List Looked)) → decisions r places (a ++ b) ≡ decisions r (decisions r places a) b
decisions-append r places [] b = refl
decisions-append r places (s ∷ a) b = decisions-append r (decisions_of r places s) a b

-- parts, with more chunks and more decisions behind theirs
zip-front : (parts : List (NamedChunk × How)) (chunks : List NamedChunk) (places : List (Fp × How)) → zip (chunks_in parts ++ chunks) (map (λ p. p.1) (places_of parts ++ places)) ≡ parts ++ zip chunks (map (λ p. p.1) places)
zip-front [] chunks places = refl
zip-front (p ∷ ps) chunks places = ap (λ l. p ∷ l) (zip-front ps chunks places)

pub no_parts : (parts : List (NamedChunk × How)) → chunks_in parts ≡ [] → parts ≡ []
no_parts [] e = refl
no_parts (p ∷ ps) e = absurd (cc)

pub no_chunks : (xs : List (List ℕ)) → map named_chunk xs ≡ [] → xs ≡ []
no_chunks [] e = refl
no_chunks (x ∷ xs) e = absurd (cc)

-- the decisions on some segments begin those on these and more
pub by_segments : (find : Fp → Option ℕ) (r : Rules) (gone : List (NamedChunk × How)) (all : List NamedChunk) (done rest : List (List NamedChunk))
    → chunks_in gone ≡ joined done → places_of gone ≡ places_in find r done → segments_of r.config all ≡ done ++ rest → IsFront gone (decided_parts find r all)
by_segments find r gone all done rest chunks places split =
    let looked : List (List NamedChunk) → List (List Looked) = map (map (look_up find)) in
    let f = decisions-front r (places_in find r done) (looked rest) in
    let all_is : all ≡ chunks_in gone ++ joined rest = sym (joined-pieces size_of r.config.segment all) ∙ ap joined split ∙ joined-append done rest ∙ ap (λ q. q ++ joined rest) (sym chunks) in
    let decided : places_in find r (segments_of r.config all) ≡ places_of gone ++ f.0 =
    ap (places_in find r) split ∙ ap (decisions r []) (map-append (map (look_up find)) done rest) ∙ decisions-append r [] (looked done) (looked rest) ∙ sym f.1 ∙ ap (λ q. q ++ f.0) (sym places) in
    (zip (joined rest) (map (λ p. p.1) f.0), sym (zip-front gone (joined rest) f.0) ∙ (λ i. zip (sym all_is i) (map (λ p. p.1) (sym decided i))))

-- what a gatherer gave out begins the decisions on all chunks, whatever chunks come later
pub gathered_front : (g : Gatherer) (r : Rules) (chunks : List NamedChunk) (gone : List (NamedChunk × How)) → HasGathered g r chunks gone → (more : List NamedChunk) → IsFront gone (decided_parts (answers_of g) r (chunks ++ more))
gathered_front g r chunks gone h more = step (map named_chunk g.segment.items) refl h.split
  where
    nothing : (done : List (List NamedChunk)) → [] ≡ done ++ [] → done ≡ []
    nothing [] e = refl
    nothing (d ∷ done) e = absurd (cc)

    step : (open_one : List NamedChunk) → map named_chunk g.segment.items ≡ open_one → segments_of r.config chunks ≡ h.done ++ only_segment open_one → IsFront gone (decided_parts (answers_of g) r (chunks ++ more))
    step [] none split =
        let no_chunk : chunks ≡ [] = h.some (no_chunks g.segment.items none) in
        let no_segment : h.done ≡ [] = nothing h.done (sym (ap (segments_of r.config) no_chunk) ∙ split) in
        let no_part : gone ≡ [] = no_parts gone (h.gone_chunks ∙ ap joined no_segment) in
        subst (λ q. IsFront q (decided_parts (answers_of g) r (chunks ++ more))) (sym no_part) (decided_parts (answers_of g) r (chunks ++ more), refl)
    step (o ∷ os) some split =
        by_segments (answers_of g) r gone (chunks ++ more) h.done (segments_of r.config ((o ∷ os) ++ more)) h.gone_chunks h.gone_places (pieces-stay size_of r.config.segment h.done o os chunks more split)
