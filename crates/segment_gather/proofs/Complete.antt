-- The segments that are complete, and what is decided of them alone.
use Rattle.std.proofs.Common.{◌≡◌, ℕ, zero, suc, ◌+◌, ◌-◌, ◌≤◌, Bool, true, false, List, [], ◌∷◌, ◌++◌, length, take, drop, map, refl, sym, ap, ◌∙◌, subst, append_assoc, append-nil, arith, length-drop, length-append, Some}
use Rattle.std.specs.Prelude.{nat_le, max, min, flat_map}
use Rattle.std.specs.List.{zip, AllByRecursion}
use Rattle.std.proofs.lemmas.List.{length-take-le, length-take, take-append-drop}
use Rattle.std.proofs.Math.Seq.{take-append_seam, drop-append_seam}
use Rattle.vault_types.specs.declared.How.{How}
use Rattle.vault_types.specs.Lists.{fitting}
use Rattle.vault_types.specs.Names.{NamedChunk, named_chunk}
use Rattle.vault_types.specs.Pieces.{piece_len, pieces}
use Rattle.vault_types.specs.declared.JobConfig.{JobConfig}
use Rattle.vault_types.specs.Decide.{Rules, segments_of}
use Rattle.vault_types.specs.Stages.{IsFront, decided_parts, but_last, joined_pieces, complete_chunks}
use Rattle.vault_types.proofs.PartsLemmas.{parts_step}
use Rattle.vault_types.proofs.PieceLemmas.{piece_rule}
use Rattle.vault_types.proofs.BackupLemmas.{joined-pieces}
use Rattle.segment_gather.specs.declared.gatherer.Gatherer.{Gatherer}
use Rattle.segment_gather.specs.Segmented.{only_segment, size_of, joined, places_in}
use Rattle.segment_gather.specs.Gathering.{HasGathered, answers_of, chunks_in, places_of}
use Rattle.segment_gather.proofs.Later.{pieces-stay, some_left, by_segments, no_parts, no_chunks}

module _ {X : Type 0} (w : X → ℕ) where
  -- a front that ends within a list is the same with what stands behind the list left out
  fitting-front : (room : ℕ) (ys t : List X) → fitting w room (ys ++ t) ≤ length ys → fitting w room ys ≡ fitting w room (ys ++ t)
  fitting-front room [] t h = omega arith
  fitting-front room (y ∷ ys) t h = step (nat_le (w y) room) refl (λ less. fitting-front (room - w y) ys t less)
    where
      step : (b : Bool) → nat_le (w y) room ≡ b → (fitting w (room - w y) (ys ++ t) ≤ length ys → fitting w (room - w y) ys ≡ fitting w (room - w y) (ys ++ t)) → fitting w room (y ∷ ys) ≡ fitting w room ((y ∷ ys) ++ t)
      step true e i = let less : 1 + fitting w (room - w y) (ys ++ t) ≤ length (y ∷ ys) = rw e at h in rw e (ap (λ n. 1 + n) (i (omega arith)))
      step false e i = rw e refl

  all_of : List (List X) → List X
  all_of ps = flat_map (λ p. p) ps

  all_of-append : (a b : List (List X)) → all_of (a ++ b) ≡ all_of a ++ all_of b
  unfolding all_of
  all_of-append [] b = refl
  all_of-append (d ∷ a) b = ap (λ cs. d ++ cs) (all_of-append a b) ∙ sym (append_assoc d (all_of a) (all_of b))

  -- pieces behind which a last one stands, joined, are cut into themselves
  pub pieces-joined : (size : ℕ) (done : List (List X)) (o : X) (os xs : List X) → pieces w size xs ≡ done ++ (o ∷ os) ∷ [] → pieces w size (flat_map (λ p. p) done) ≡ done
  unfolding all_of
  pieces-joined size [] o os xs e = refl
  pieces-joined size (d ∷ done) o os [] e = absurd (cc)
  pieces-joined size ([] ∷ done) o os (z ∷ zs) e =
      let xs : List X = z ∷ zs in
      let k : ℕ = max 1 (fitting w size xs) in
      let one : pieces w size xs ≡ take k xs ∷ pieces w size (drop k xs) = parts_step (piece_len w size) (piece_rule w size) xs k refl in
      let both : take k xs ∷ pieces w size (drop k xs) ≡ [] ∷ (done ++ (o ∷ os) ∷ []) = sym one ∙ e in
      let first : take k xs ≡ [] = cc in
      let others : pieces w size (drop k xs) ≡ done ++ (o ∷ os) ∷ [] = cc in
      let left : length (drop k xs) ≡ length xs - k = length-drop k xs in
      let some : 1 ≤ length (drop k xs) = some_left w size (drop k xs) done o os others in
      let long : length (take k xs) ≡ k = length-take-le k xs (omega arith) in
      absurd (let n = ap length first in omega arith)
  pieces-joined size ((x ∷ d) ∷ done) o os (z ∷ zs) e =
      let xs : List X = z ∷ zs in
      let k : ℕ = max 1 (fitting w size xs) in
      let one : pieces w size xs ≡ take k xs ∷ pieces w size (drop k xs) = parts_step (piece_len w size) (piece_rule w size) xs k refl in
      let both : take k xs ∷ pieces w size (drop k xs) ≡ (x ∷ d) ∷ (done ++ (o ∷ os) ∷ []) = sym one ∙ e in
      let first : take k xs ≡ x ∷ d = cc in
      let others : pieces w size (drop k xs) ≡ done ++ (o ∷ os) ∷ [] = cc in
      let left : length (drop k xs) ≡ length xs - k = length-drop k xs in
      let some : 1 ≤ length (drop k xs) = some_left w size (drop k xs) done o os others in
      let within : k ≤ length xs = omega arith in
      let long : length (x ∷ d) ≡ k = ap length (sym first) ∙ length-take-le k xs within in
      let more : List X = all_of done in
      let behind : drop k xs ≡ more ++ (o ∷ os) = sym (joined-pieces w size (drop k xs)) ∙ ap all_of others ∙ all_of-append done ((o ∷ os) ∷ []) ∙ ap (λ t. more ++ t) (append-nil (o ∷ os)) in
      let whole : xs ≡ ((x ∷ d) ++ more) ++ (o ∷ os) = sym (take-append-drop k xs) ∙ (λ i. first i ++ behind i) ∙ sym (append_assoc (x ∷ d) more (o ∷ os)) in
      let same : fitting w size ((x ∷ d) ++ more) ≡ fitting w size xs =
      fitting-front size ((x ∷ d) ++ more) (o ∷ os) (let n : length ((x ∷ d) ++ more) ≡ length (x ∷ d) + length more = length-append (x ∷ d) more in let m = ap (fitting w size) whole in omega arith) ∙ ap (fitting w size) (sym whole) in
      parts_step (piece_len w size) (piece_rule w size) ((x ∷ d) ++ more) k (ap (λ n. Some (max 1 n)) same)
      ∙ ap (λ n. take n ((x ∷ d) ++ more) ∷ pieces w size (drop n ((x ∷ d) ++ more))) (sym long)
      ∙ ap (λ p. p ∷ pieces w size (drop (length (x ∷ d)) ((x ∷ d) ++ more))) (take-append_seam (x ∷ d) more)
      ∙ ap (λ rs. (x ∷ d) ∷ pieces w size rs) (drop-append_seam (x ∷ d) more)
      ∙ ap (λ ps. (x ∷ d) ∷ ps) (pieces-joined size done o os (drop k xs) others)

  -- no piece is empty
  some_pieces : (n size : ℕ) (xs : List X) → length xs ≤ n → AllByRecursion (λ (p : List X). 1 ≤ length p) (pieces w size xs)
  some_pieces zero size [] h = tt
  some_pieces zero size (x ∷ xs) h = absurd (omega arith)
  some_pieces (suc n) size [] h = tt
  some_pieces (suc n) size (x ∷ xs) h =
      let k : ℕ = max 1 (fitting w size (x ∷ xs)) in
      let one : pieces w size (x ∷ xs) ≡ take k (x ∷ xs) ∷ pieces w size (drop k (x ∷ xs)) = parts_step (piece_len w size) (piece_rule w size) (x ∷ xs) k refl in
      let left : length (drop k (x ∷ xs)) ≡ length (x ∷ xs) - k = length-drop k (x ∷ xs) in
      let long : length (take k (x ∷ xs)) ≡ min k (length (x ∷ xs)) = length-take k (x ∷ xs) in
      subst (AllByRecursion (λ (p : List X). 1 ≤ length p)) (sym one) (omega arith, some_pieces n size (drop k (x ∷ xs)) (omega arith))

-- the last of some lists that are not empty
pub record EndsIn {X : Type 0} (ps : List (List X)) : Type 0 where
  pub done : List (List X)
  pub first : X
  pub others : List X
  pub split : ps ≡ done ++ (first ∷ others) ∷ []

ends_in : {X : Type 0} (ps : List (List X)) → AllByRecursion (λ (p : List X). 1 ≤ length p) ps → 1 ≤ length ps → EndsIn ps
ends_in [] all some = absurd (omega arith)
ends_in ([] ∷ []) all some = absurd (let n = all.0 in omega arith)
ends_in ((x ∷ xs) ∷ []) all some = record { done = []; first = x; others = xs; split = refl }
ends_in (p ∷ q ∷ ps) all some = let r = ends_in (q ∷ ps) all.1 (omega arith) in record { done = p ∷ r.done; first = r.first; others = r.others; split = ap (λ l. p ∷ l) r.split }

joined-same : (ps : List (List NamedChunk)) → joined_pieces ps ≡ joined ps
joined-same [] = refl
joined-same (p ∷ ps) = ap (λ cs. p ++ cs) (joined-same ps)

but_last-one : {X : Type 0} (done : List X) (x : X) → but_last (done ++ x ∷ []) ≡ done
but_last-one [] x = refl
but_last-one (d ∷ []) x = refl
but_last-one (d ∷ e ∷ done) x = ap (λ l. d ∷ l) (but_last-one (e ∷ done) x)

-- the chunks of the complete segments
complete_are : (config : JobConfig) (chunks : List NamedChunk) (done : List (List NamedChunk)) (o : NamedChunk) (os : List NamedChunk) → segments_of config chunks ≡ done ++ (o ∷ os) ∷ [] → complete_chunks config.segment chunks ≡ joined done
complete_are config chunks done o os split = ap (λ ps. joined_pieces (but_last ps)) split ∙ ap joined_pieces (but_last-one done (o ∷ os)) ∙ joined-same done

parts_back : (parts : List (NamedChunk × How)) → zip (chunks_in parts) (map (λ p. p.1) (places_of parts)) ≡ parts
parts_back [] = refl
parts_back (p ∷ ps) = ap (λ l. p ∷ l) (parts_back ps)

-- what a gatherer gave out is what is decided of the complete segments alone
pub gathered_due : (g : Gatherer) (r : Rules) (chunks : List NamedChunk) (gone : List (NamedChunk × How)) → HasGathered g r chunks gone → gone ≡ decided_parts (answers_of g) r (complete_chunks r.config.segment chunks)
gathered_due g r chunks gone h = step (map named_chunk g.segment.items) refl h.split
  where
    nothing : (done : List (List NamedChunk)) → [] ≡ done ++ [] → done ≡ []
    nothing [] e = refl
    nothing (d ∷ done) e = absurd (cc)

    step : (open_one : List NamedChunk) → map named_chunk g.segment.items ≡ open_one → segments_of r.config chunks ≡ h.done ++ only_segment open_one → gone ≡ decided_parts (answers_of g) r (complete_chunks r.config.segment chunks)
    step [] none split =
        let no_chunk : chunks ≡ [] = h.some (no_chunks g.segment.items none) in
        let no_segment : h.done ≡ [] = nothing h.done (sym (ap (segments_of r.config) no_chunk) ∙ split) in
        no_parts gone (h.gone_chunks ∙ ap joined no_segment) ∙ ap (λ q. decided_parts (answers_of g) r (complete_chunks r.config.segment q)) (sym no_chunk)
    step (o ∷ os) some split =
        let same : segments_of r.config (joined h.done) ≡ h.done = pieces-joined size_of r.config.segment h.done o os chunks split in
        sym (parts_back gone)
        ∙ (λ i. zip (h.gone_chunks i) (map (λ p. p.1) ((h.gone_places ∙ ap (places_in (answers_of g) r) (sym same)) i)))
        ∙ ap (decided_parts (answers_of g) r) (sym (complete_are r.config chunks h.done o os split))

-- and begins what is decided of the complete segments of these chunks and more
pub gathered_later : (g : Gatherer) (r : Rules) (chunks : List NamedChunk) (gone : List (NamedChunk × How)) → HasGathered g r chunks gone → (more : List NamedChunk) → IsFront gone (decided_parts (answers_of g) r (complete_chunks r.config.segment (chunks ++ more)))
gathered_later g r chunks gone h more = step (map named_chunk g.segment.items) refl h.split
  where
    nothing : (done : List (List NamedChunk)) → [] ≡ done ++ [] → done ≡ []
    nothing [] e = refl
    nothing (d ∷ done) e = absurd (cc)

    some : (xs : List NamedChunk) (x : NamedChunk) → 1 ≤ length (segments_of r.config (x ∷ xs))
    some xs x =
        let k : ℕ = max 1 (fitting size_of r.config.segment (x ∷ xs)) in
        let n = ap length (parts_step (piece_len size_of r.config.segment) (piece_rule size_of r.config.segment) (x ∷ xs) k refl) in omega arith

    step : (open_one : List NamedChunk) → map named_chunk g.segment.items ≡ open_one → segments_of r.config chunks ≡ h.done ++ only_segment open_one → IsFront gone (decided_parts (answers_of g) r (complete_chunks r.config.segment (chunks ++ more)))
    step [] none split =
        let no_chunk : chunks ≡ [] = h.some (no_chunks g.segment.items none) in
        let no_segment : h.done ≡ [] = nothing h.done (sym (ap (segments_of r.config) no_chunk) ∙ split) in
        let no_part : gone ≡ [] = no_parts gone (h.gone_chunks ∙ ap joined no_segment) in
        subst (λ q. IsFront q (decided_parts (answers_of g) r (complete_chunks r.config.segment (chunks ++ more)))) (sym no_part) (decided_parts (answers_of g) r (complete_chunks r.config.segment (chunks ++ more)), refl)
    step (o ∷ os) open_is split =
        let all = (o ∷ os) ++ more in
        let last = ends_in (segments_of r.config all) (some_pieces size_of (length all) r.config.segment all (omega arith)) (some (os ++ more) o) in
        let whole : segments_of r.config (chunks ++ more) ≡ (h.done ++ last.done) ++ (last.first ∷ last.others) ∷ [] =
        pieces-stay size_of r.config.segment h.done o os chunks more split ∙ ap (λ ps. h.done ++ ps) last.split ∙ sym (append_assoc h.done last.done ((last.first ∷ last.others) ∷ [])) in
        let same : segments_of r.config (joined (h.done ++ last.done)) ≡ h.done ++ last.done = pieces-joined size_of r.config.segment (h.done ++ last.done) last.first last.others (chunks ++ more) whole in
        subst (λ q. IsFront gone (decided_parts (answers_of g) r q)) (sym (complete_are r.config (chunks ++ more) (h.done ++ last.done) last.first last.others whole))
        (by_segments (answers_of g) r gone (joined (h.done ++ last.done)) h.done last.done h.gone_chunks h.gone_places same)
