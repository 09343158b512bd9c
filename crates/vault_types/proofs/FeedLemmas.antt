-- How a stream that comes in pieces is cut, by any rule whose chunks stay when bytes follow.
use Rattle.std.proofs.Common.{◌≡◌, ℕ, zero, suc, ◌-◌, ◌≤◌, List, [], ◌∷◌, ◌++◌, length, take, drop, refl, sym, ap, ◌∙◌, arith, length-drop, append_assoc, append-nil, subst, Option, Some, None}
use Rattle.std.proofs.lemmas.List.{drop-append-le, take-append-drop, take_all}
use Rattle.std.proofs.Math.Seq.{take-append_seam, drop-append_seam}
use Rattle.vault_types.specs.declared.Cutting.{Cutting}
use Rattle.vault_types.specs.Lists.{rest}
use Rattle.vault_types.specs.Cuts.{settled_len, settled, unsettled, Chunker, HasCut}
use Rattle.vault_types.specs.Feeds.{MakesChunk, HoldsPiece}
use Rattle.vault_types.proofs.CutLemmas.{settled_len-stable}
use Rattle.vault_types.proofs.PartsLemmas.{IsStable, parts_step, parts_end, rest_step, rest_end, parts-append}

-- what is left of a list with more behind it is what is left of what was left of it with the more behind it
rest_within : {X : Type 0} (len : List X → Option ℕ) → IsStable len → (n : ℕ) (xs ys : List X) → length xs ≤ n → rest len (xs ++ ys) ≡ rest len (rest len xs ++ ys)
rest_within len h zero [] ys p = refl
rest_within len h zero (x ∷ xs) ys p = absurd (omega arith)
rest_within {X} len h (suc n) xs ys p =
    elim (len xs) as (λ o. len xs ≡ o → rest len (xs ++ ys) ≡ rest len (rest len xs ++ ys)) [
      | None ↦ λ e. ap (λ zs. rest len (zs ++ ys)) (sym (rest_end len xs e))
      | Some k ↦ λ e.
          let one : 1 ≤ k = h.rule.some xs k e in
          let within : k ≤ length xs = h.within xs k e in
          let left : length (drop k xs) ≡ length xs - k = length-drop k xs in
          rest_step len h.rule (xs ++ ys) k (h.same xs ys k e)
          ∙ ap (rest len) (drop-append-le k xs ys within)
          ∙ rest_within len h n (drop k xs) ys (omega arith)
          ∙ sym (ap (λ zs. rest len (zs ++ ys)) (rest_step len h.rule xs k e))
    ] refl

pub rest-append : {X : Type 0} (len : List X → Option ℕ) → IsStable len → (xs ys : List X) → rest len (xs ++ ys) ≡ rest len (rest len xs ++ ys)
rest-append len h xs ys = rest_within len h (length xs) xs ys (omega arith)

-- a whole chunk before more bytes is the first chunk
pub settled_whole : (c : Cutting) → IsStable (settled_len c) → (chunk more : List ℕ) → settled_len c chunk ≡ Some (length chunk) → settled (chunk ++ more) c ≡ chunk ∷ settled more c
settled_whole c h chunk more e =
    parts_step (settled_len c) h.rule (chunk ++ more) (length chunk) (h.same chunk more (length chunk) e)
    ∙ ap (λ z. z ∷ settled (drop (length chunk) (chunk ++ more)) c) (take-append_seam chunk more)
    ∙ ap (λ zs. chunk ∷ settled zs c) (drop-append_seam chunk more)

pub unsettled_whole : (c : Cutting) → IsStable (settled_len c) → (chunk more : List ℕ) → settled_len c chunk ≡ Some (length chunk) → unsettled (chunk ++ more) c ≡ unsettled more c
unsettled_whole c h chunk more e =
    rest_step (settled_len c) h.rule (chunk ++ more) (length chunk) (h.same chunk more (length chunk) e)
    ∙ ap (λ zs. unsettled zs c) (drop-append_seam chunk more)

-- a chunker that was fed a stream, and then a piece
pub cut_more : (k m : Chunker) → IsStable (settled_len k.cutting) → (piece : List ℕ) → m.cutting ≡ k.cutting → m.held ≡ unsettled (k.held ++ piece) k.cutting
    → (gone : List (List ℕ)) (x : List ℕ) → HasCut k gone x → HasCut m (gone ++ settled (k.held ++ piece) k.cutting) (x ++ piece)
cut_more k m h piece same held gone x cut = record {
  gone =
      ap (λ g. g ++ settled (k.held ++ piece) k.cutting) cut.gone
      ∙ ap (λ u. settled x k.cutting ++ settled (u ++ piece) k.cutting) cut.held
      ∙ sym (parts-append (settled_len k.cutting) h x piece)
      ∙ ap (λ c. settled (x ++ piece) c) (sym same);
  held =
      held
      ∙ ap (λ u. unsettled (u ++ piece) k.cutting) cut.held
      ∙ sym (rest-append (settled_len k.cutting) h x piece)
      ∙ ap (λ c. unsettled (x ++ piece) c) (sym same);
}

-- on the way through a piece: what is out and what is still to come are together what the piece comes to
pub record IsOnWay (first now : Chunker) (before out : List (List ℕ)) (piece rest : List ℕ) : Type 0 where
  pub cutting : now.cutting ≡ first.cutting
  pub chunks : out ++ settled (now.held ++ rest) first.cutting ≡ before ++ settled (first.held ++ piece) first.cutting
  pub held : unsettled (now.held ++ rest) first.cutting ≡ unsettled (first.held ++ piece) first.cutting

pub way-begins : (k : Chunker) (out : List (List ℕ)) (piece : List ℕ) → IsOnWay k k out out piece piece
way-begins k out piece = record { cutting = refl; chunks = refl; held = refl }

joined : (held rest chunk : List ℕ) (taken : ℕ) → chunk ≡ held ++ take taken rest → held ++ rest ≡ chunk ++ drop taken rest
joined held rest chunk taken e =
    ap (λ r. held ++ r) (sym (take-append-drop taken rest))
    ∙ sym (append_assoc held (take taken rest) (drop taken rest))
    ∙ ap (λ c. c ++ drop taken rest) (sym e)

-- a chunk came whole, with so many bytes of what is still to come
pub way-on : (k m n : Chunker) (before out : List (List ℕ)) (piece rest chunk : List ℕ) (taken : ℕ)
    → IsOnWay k m before out piece rest → MakesChunk m n rest chunk taken
    → IsOnWay k n before (out ++ chunk ∷ []) piece (drop taken rest)
way-on k m n before out piece rest chunk taken way makes =
    let stable : IsStable (settled_len k.cutting) = (let P : Cutting → Type 0 = λ d. IsStable (settled_len d) in subst P way.cutting (settled_len-stable m.cutting makes.cuttable)) in
    let fixed : settled_len k.cutting chunk ≡ Some (length chunk) = ap (λ c. settled_len c chunk) (sym way.cutting) ∙ makes.fixed in
    let bytes : m.held ++ rest ≡ chunk ++ drop taken rest = joined m.held rest chunk taken makes.bytes in
    record {
      cutting = makes.cutting ∙ way.cutting;
      chunks =
          append_assoc out (chunk ∷ []) (settled (n.held ++ drop taken rest) k.cutting)
          ∙ ap (λ h. out ++ chunk ∷ settled (h ++ drop taken rest) k.cutting) makes.held
          ∙ ap (λ cs. out ++ cs) (sym (settled_whole k.cutting stable chunk (drop taken rest) fixed))
          ∙ ap (λ b. out ++ settled b k.cutting) (sym bytes)
          ∙ way.chunks;
      held =
          ap (λ h. unsettled (h ++ drop taken rest) k.cutting) makes.held
          ∙ sym (unsettled_whole k.cutting stable chunk (drop taken rest) fixed)
          ∙ ap (λ b. unsettled b k.cutting) (sym bytes)
          ∙ way.held;
    }

-- what a piece came to
pub record IsFed (k m : Chunker) (before out : List (List ℕ)) (piece : List ℕ) : Type 0 where
  pub cutting : m.cutting ≡ k.cutting
  pub chunks : out ≡ before ++ settled (k.held ++ piece) k.cutting
  pub held : m.held ≡ unsettled (k.held ++ piece) k.cutting
  pub stream : (gone : List (List ℕ)) (x : List ℕ) → HasCut k gone x → HasCut m (gone ++ settled (k.held ++ piece) k.cutting) (x ++ piece)

-- what is still to come is held, and makes no chunk yet
pub way-over : (k m n : Chunker) (before out : List (List ℕ)) (piece rest : List ℕ)
    → IsOnWay k m before out piece rest → HoldsPiece m n rest → IsFed k n before out piece
way-over k m n before out piece rest way holds =
    let same : n.cutting ≡ k.cutting = holds.cutting ∙ way.cutting in
    let stable : IsStable (settled_len k.cutting) = (let P : Cutting → Type 0 = λ d. IsStable (settled_len d) in subst P way.cutting (settled_len-stable m.cutting holds.cuttable)) in
    let none : settled_len k.cutting n.held ≡ None = ap (λ c. settled_len c n.held) (sym same) ∙ holds.none in
    let no_parts : settled n.held k.cutting ≡ [] = parts_end (settled_len k.cutting) n.held none in
    let all_left : unsettled n.held k.cutting ≡ n.held = rest_end (settled_len k.cutting) n.held none in
    let held : n.held ≡ unsettled (k.held ++ piece) k.cutting = sym all_left ∙ ap (λ h. unsettled h k.cutting) holds.held ∙ way.held in
    record {
      cutting = same;
      chunks =
          sym (append-nil out)
          ∙ ap (λ cs. out ++ cs) (sym no_parts)
          ∙ ap (λ h. out ++ settled h k.cutting) holds.held
          ∙ way.chunks;
      held = held;
      stream = cut_more k n stable piece same held;
    }

-- the bytes behind the first ones, as the code takes them
pub slice_behind : (n : ℕ) (xs : List ℕ) → take (length xs - n) (drop n xs) ≡ drop n xs
slice_behind n xs = take_all (length xs - n) (drop n xs) (let l : length (drop n xs) ≡ length xs - n = length-drop n xs in omega arith)
