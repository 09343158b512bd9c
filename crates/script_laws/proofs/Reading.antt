-- Sources that have the bytes that lines read.
use Rattle.std.proofs.Common.{◌≡◌, ℕ, Bool, true, false, List, [], ◌∷◌, Option, refl, sym, ◌∙◌, subst}
use Rattle.std.specs.Prelude.{map, flat_map, if◌then◌else◌}
use Rattle.std.specs.List.{AllByRecursion, IsDistinct}
use Rattle.std.specs.Str.{bytes_eq}
use Rattle.std.proofs.lemmas.Map.Keys.{IsDistinct-head, IsDistinct-tail}
use Rattle.vault_types.proofs.FillLemmas.{bytes_eq-same}
use Rattle.vault_types.specs.declared.Line.{Line}
use Rattle.vault_types.specs.Words.{sources_of}
use Rattle.vault_types.specs.Script.{Sources}
use Rattle.vault_traits.specs.Told.{Files}
use Rattle.store_model.specs.Outputs.{Reads, AreRead, AreFed}

abbrev bytes_of_name : Reads → Sources
bytes_of_name [] name = []
bytes_of_name (r ∷ rs) name = if bytes_eq r.0 name then r.1 else bytes_of_name rs name

chosen : (b : Bool) (x y : List ℕ) → b ≡ true → (if b then x else y) ≡ x
chosen true x y e = refl
chosen false x y e = cc

passed : (b : Bool) (x y : List ℕ) → b ≡ false → (if b then x else y) ≡ y
passed true x y e = cc
passed false x y e = refl

later : (r : List ℕ × List ℕ) (all rs : Reads) → AllByRecursion (λ y. bytes_eq r.0 y ≡ false) (map (λ q. q.0) rs) → AreFed (bytes_of_name all) rs → AreFed (bytes_of_name (r ∷ all)) rs
later r all [] differ fed = tt
later r all (q ∷ qs) differ fed = (passed (bytes_eq r.0 q.0) r.1 (bytes_of_name all q.0) differ.0 ∙ fed.0, later r all qs differ.1 fed.1)

fed_by_name : (reads : Reads) → IsDistinct bytes_eq (map (λ r. r.0) reads) → AreFed (bytes_of_name reads) reads
fed_by_name [] distinct = tt
fed_by_name (r ∷ rs) distinct =
    let names : List (List ℕ) = map (λ q. q.0) rs in (
      chosen (bytes_eq r.0 r.0) r.1 (bytes_of_name rs r.0) (bytes_eq-same r.0),
      later r rs rs (IsDistinct-head bytes_eq r.0 names distinct) (fed_by_name rs (IsDistinct-tail bytes_eq r.0 names distinct)),
    )

pub some_sources : (files : Option Files) (lines : List Line) (reads : Reads) → AreRead files lines reads → IsDistinct bytes_eq (flat_map sources_of lines) → (sources : Sources) × AreFed sources reads
some_sources files lines reads read distinct = (bytes_of_name reads, fed_by_name reads (subst (λ (xs : List (List ℕ)). IsDistinct bytes_eq xs) (sym read.names) distinct))
