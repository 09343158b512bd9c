-- What lines read, where other names change beside them.
use Rattle.std.proofs.Common.{◌≡◌, ℕ, List, [], ◌∷◌, Option, Some, None, ◌∙◌, ap, subst}
use Rattle.std.specs.Prelude.{Contains, flat_map, map, IfSome, IsSome, unwrap_or}
use Rattle.std.specs.List.{AllByRecursion}
use Rattle.std.proofs.lemmas.List.Elements.{Contains-push, Contains-append_left, Contains-append_right}
use Rattle.vault_types.specs.declared.Answer.{Answer}
use Rattle.vault_types.specs.declared.Line.{Line}
use Rattle.vault_types.specs.Words.{sources_of}
use Rattle.vault_traits.specs.Files.{IsThere}
use Rattle.vault_traits.specs.Told.{Files}
use Rattle.store_model.specs.Outputs.{AreRead, AreThere, OnFiles, Reads}

-- names that are changed or not, and keep their bytes where they are not
abbrev pub KeepsWhere : (List ℕ → Type 0) → Files → Files → Type 0
KeepsWhere Same x y = (name : List ℕ) → Same name → y name ≡ x name

told_same : (x y : Files) (reads : Reads) → ((name : List ℕ) → Contains (map (λ r. r.0) reads) name → y name ≡ x name) → AllByRecursion (λ (r : List ℕ × List ℕ). r.1 ≡ unwrap_or (y r.0) []) reads → AllByRecursion (λ (r : List ℕ × List ℕ). r.1 ≡ unwrap_or (x r.0) []) reads
told_same x y [] same told = tt
told_same x y (r ∷ rs) same told = (
  told.0 ∙ ap (λ (o : Option (List ℕ)). unwrap_or o []) (same r.0 (Contains-append_left (r.0 ∷ []) (map (λ (q : List ℕ × List ℕ). q.0) rs) r.0 (Contains-push [] r.0))),
  told_same x y rs (λ name here. same name (Contains-append_right (r.0 ∷ []) (map (λ (q : List ℕ × List ℕ). q.0) rs) name here)) told.1,
)

-- what was read from now on was read from before, where no name of a source changed between
pub read_before : (a b : Option Files) (Same : List ℕ → Type 0) (lines : List Line) (reads : Reads) → ((name : List ℕ) → Contains (flat_map sources_of lines) name → Same name) → OnFiles a b (KeepsWhere Same) → AreRead b lines reads → AreRead a lines reads
read_before a b Same lines reads each kept r = record {
  names = r.names;
  told = by a b kept r.told;
}
  where
    by : (x y : Option Files) → OnFiles x y (KeepsWhere Same) → IfSome y (λ f. AllByRecursion (λ (q : List ℕ × List ℕ). q.1 ≡ unwrap_or (f q.0) []) reads) → IfSome x (λ f. AllByRecursion (λ (q : List ℕ × List ℕ). q.1 ≡ unwrap_or (f q.0) []) reads)
    by None y on h = tt
    by (Some f) None on h = absurd on
    by (Some f) (Some g) on h = told_same f g reads (λ name here. on name (each name (subst (λ (xs : List (List ℕ)). Contains xs name) r.names here))) h

there_same : (a b : Option Files) (names : List (List ℕ)) → ((name : List ℕ) → Contains names name → IsThere b name → IsThere a name) → AllByRecursion (IsThere b) names → AllByRecursion (IsThere a) names
there_same a b [] same there = tt
there_same a b (n ∷ ns) same there = (
  same n (Contains-append_left (n ∷ []) ns n (Contains-push [] n)) there.0,
  there_same a b ns (λ name here. same name (Contains-append_right (n ∷ []) ns name here)) there.1,
)

lines_there : (a b : Option Files) (lines : List Line) (answers : List Answer) → ((name : List ℕ) → Contains (flat_map sources_of lines) name → IsThere b name → IsThere a name) → AreThere b lines answers → AreThere a lines answers
lines_there a b [] answers same there = tt
lines_there a b (line ∷ lines) [] same there = tt
lines_there a b (line ∷ lines) (answer ∷ answers) same there = (
  λ done. there_same a b (sources_of line) (λ name here. same name (Contains-append_left (sources_of line) (flat_map sources_of lines) name here)) (there.0 done),
  lines_there a b lines answers (λ name here. same name (Contains-append_right (sources_of line) (flat_map sources_of lines) name here)) there.1,
)

-- and each source that is there was there
pub there_before : (a b : Option Files) (Same : List ℕ → Type 0) (lines : List Line) (answers : List Answer) → ((name : List ℕ) → Contains (flat_map sources_of lines) name → Same name) → OnFiles a b (KeepsWhere Same) → AreThere b lines answers → AreThere a lines answers
there_before a b Same lines answers each kept there = lines_there a b lines answers (λ name here. by a b kept name (each name here)) there
  where
    by : (x y : Option Files) → OnFiles x y (KeepsWhere Same) → (name : List ℕ) → Same name → IsThere y name → IsThere x name
    by None y on name same h = tt
    by (Some f) None on name same h = absurd on
    by (Some f) (Some g) on name same h = subst (λ (o : Option (List ℕ)). IsSome o) (on name same) h
