-- Where segments begin, for chunks whose lengths come one by one.
use Rattle.std.specs.Prelude.{◌≡◌, ℕ, List, [], ◌∷◌, ◌++◌, sum, Option, Some, None}
use Rattle.segmenter.specs.declared.Cut.{Cut}
use Rattle.segmenter.specs.declared.Cut.TheVariants.{Same, NewBefore}
use Rattle.vault_types.specs.Pieces.{pieces}

-- the segments of chunks of these lengths
abbrev pub segments_of : ℕ → List ℕ → List (List ℕ)
segments_of size lens = pieces (λ n. n) size lens

-- the pieces with one more element in the last of them
abbrev pub in_last : {X : Type 0} → List (List X) → X → List (List X)
in_last [] x = (x ∷ []) ∷ []
in_last (p ∷ []) x = (p ++ x ∷ []) ∷ []
in_last (p ∷ q ∷ ps) x = p ∷ in_last (q ∷ ps) x

-- the pieces with one more element, where a cut says whether it begins a new one
abbrev pub with_next : {X : Type 0} → Cut → List (List X) → X → List (List X)
with_next Same ps x = in_last ps x
with_next NewBefore ps x = ps ++ (x ∷ []) ∷ []

-- the bytes of the last segment, if there is one
abbrev pub last_sum : List (List ℕ) → Option ℕ
last_sum [] = None
last_sum (p ∷ []) = Some (sum p)
last_sum (p ∷ q ∷ ps) = last_sum (q ∷ ps)

-- how large segments are, and the bytes of the open one, if there is one
pub record Segmenting : Type 0 where
  pub size : ℕ
  pub used : Option ℕ

-- chunks of these lengths were pushed, for segments of this size
pub record HasPushed (s : Segmenting) (limit : ℕ) (lens : List ℕ) : Type 0 where
  pub size : s.size ≡ limit
  pub used : s.used ≡ last_sum (segments_of limit lens)
