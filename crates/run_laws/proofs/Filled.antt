-- No line of `fill` meets a failure of its places, but one of a sink.
use Rattle.std.proofs.Common.{◌≡◌, ◌≤◌, ℕ, Bool, List, [], ◌∷◌, length, Option, refl, sym, ◌∙◌, ap, subst, arith}
use Rattle.std.specs.List.{filter_map}
use Rattle.vault_types.specs.declared.Limits.{Limits}
use Rattle.vault_types.specs.declared.Fault.{Fault}
use Rattle.vault_types.specs.declared.Answer.{Answer}
use Rattle.vault_traits.specs.Counts.{counted, RiseFrom}
use Rattle.store_model.specs.Causes.{RiseInSomeOrder, place_number, read_number}
use Rattle.std.proofs.lemmas.List.Sorted.{length_permutation}
use Rattle.store_model.specs.World.{World}
use Rattle.store_model.specs.Filling.{RunsFill}

later : (before : ℕ) (ns : List ℕ) (now : ℕ) → RiseFrom before ns now → before ≤ now
later before [] now rise = rise
later before (n ∷ ns) now rise = let rest = later n ns now rise.1 in omega (arith, rise.0, rest)

none_rose : (ns : List ℕ) → RiseFrom 0 ns 0 → ns ≡ []
none_rose [] rise = refl
none_rose (n ∷ ns) rise =
    let first : counted 0 ≤ n = rise.0 in
    let rest : n ≤ 0 = later n ns 0 rise.1 in
    absurd (omega (arith, first, rest))

still : (before now : ℕ) (ns : List ℕ) → before ≡ 0 → now ≡ 0 → RiseInSomeOrder before ns now → ns ≡ []
still before now ns none zero (ms, are, rise) =
    let all : ms ≡ [] = none_rose ms (subst (λ (n : ℕ). RiseFrom 0 ms n) zero (subst (λ (n : ℕ). RiseFrom n ms now) none rise)) in
    no_length ns (sym (length_permutation ns ms are) ∙ ap (λ (xs : List ℕ). length xs) all)
  where
    no_length : (xs : List ℕ) → length xs ≡ 0 → xs ≡ []
    no_length [] e = refl
    no_length (x ∷ xs) e = absurd (omega (arith, e))

pub no_fault : (in_order : Bool) (seed versions : ℕ) (limits : Limits) (before now : World) (answers : List Answer) (f : Option Fault) → RunsFill in_order seed versions limits before now answers f → (filter_map place_number answers ≡ []) × (filter_map read_number answers ≡ [])
no_fault in_order seed versions limits before now answers f r = (
  still r.made.faults r.left.faults (filter_map place_number answers) r.generated.opened r.opened r.runs.causes.place,
  still r.made.read_faults r.left.read_faults (filter_map read_number answers) r.generated.read r.read r.runs.causes.read,
)
