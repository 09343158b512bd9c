-- Codes of names, blobs and histories, by which a model's value may have them.
use Rattle.std.specs.Prelude.{◌≡◌, ◌⊎◌, ℕ, List, Option, zero, suc, refl}
use mathlib.Core.Logic.{inl, inr}
use Rattle.std.specs.Coded.{Coded, code_by, coded×, coded⊎, coded_ℕ, coded_list, coded_option}
use Rattle.std.specs.FinMap as map
use Rattle.vault_types.specs.declared.Name.{Name}
use Rattle.vault_types.specs.declared.Kind.{Kind}
use Rattle.vault_types.specs.declared.Kind.TheVariants.{Table, Payload, Recipe, Floor}
use Rattle.vault_types.specs.Shelf.{kind_rank, Blobs}
use Rattle.vault_traits.specs.Crash.{ShelfStep, Wrote, Settled, History}

abbrev pub kind_at : ℕ → Kind
kind_at zero = Table
kind_at (suc zero) = Payload
kind_at (suc (suc zero)) = Recipe
kind_at n = Floor

pub kind_back : (k : Kind) → kind_at (kind_rank k) ≡ k
kind_back Table = refl
kind_back Payload = refl
kind_back Recipe = refl
kind_back Floor = refl

-- a name is stored as a pair of numbers
abbrev pub coded_name : Coded Name
coded_name =
    code_by (ℕ × ℕ) (coded× coded_ℕ coded_ℕ) (λ n. (kind_rank n.kind, n.number))
    (λ p. record { kind = kind_at p.0; number = p.1 })
    (λ n i. record { kind = kind_back n.kind i; number = n.number })

abbrev pub coded_blobs : Coded Blobs
coded_blobs = map.code coded_name (coded_list coded_ℕ)

-- a step is stored as a write or a map
abbrev pub step_parts : ShelfStep → (Name × Option (List ℕ)) ⊎ Blobs
step_parts (Wrote name bytes) = inl (name, bytes)
step_parts (Settled m) = inr m

abbrev pub step_of : (Name × Option (List ℕ)) ⊎ Blobs → ShelfStep
step_of (inl write) = Wrote write.0 write.1
step_of (inr m) = Settled m

pub step_back : (s : ShelfStep) → step_of (step_parts s) ≡ s
step_back (Wrote name bytes) = refl
step_back (Settled m) = refl

abbrev pub coded_step : Coded ShelfStep
coded_step =
    code_by ((Name × Option (List ℕ)) ⊎ Blobs)
    (coded⊎ (coded× coded_name (coded_option (coded_list coded_ℕ))) coded_blobs) step_parts step_of
    step_back

abbrev pub coded_history : Coded History
coded_history = coded_list coded_step
