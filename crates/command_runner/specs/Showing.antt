-- The recipe of a version, as a store reads it.
use Rattle.std.specs.Prelude.{◌≡◌, ℕ, false, IsTrue, [], ◌∷◌, length, None, IsSome, IsSomeAnd, Result, IfOk, IfErr}
use Rattle.vault_types.specs.declared.Fault.{Fault}
use Rattle.vault_types.specs.declared.Fault.TheVariants as fault
use Rattle.vault_types.specs.declared.Recipe.{Recipe}
use Rattle.vault_types.specs.declared.Answer.{Answer}
use Rattle.vault_types.specs.declared.Answer.TheVariants.{Refused, Shown}
use Rattle.vault_types.specs.State.{State, is_kept, floor_of, latest_of, version_of, recipe_of}
use Rattle.vault_types.specs.Texts.{recipe_text}
use Rattle.vault_traits.specs.Counts.{Rose}
use Rattle.vault_traits.specs.Told.{ShelfTold, SinkTold, Takes}
use Rattle.store_model.specs.Calls.{Keeping}
use Rattle.store_model.specs.Causes.{CausesRise, counts_of_shelf}
use Rattle.store_model.specs.Early.{IsSameBut}
use Rattle.store_model.specs.Courses.{fits_show}
use Rattle.store_model.specs.World.{TakesFront}

-- why a recipe of a store in the state is not read: its version is not kept, the shelf failed, or
-- there was no memory
abbrev pub IsUnread : State → ℕ → ℕ → Fault → Type 0
IsUnread S s v (fault.NotKept t w floor latest) =
    (is_kept S s v ≡ false) × (floor ≡ floor_of S s) × (latest ≡ latest_of S s)
IsUnread S s v (fault.StoreFault n) = IsTrue (is_kept S s v)
IsUnread S s v fault.Memory = IsSome (version_of S s v)
IsUnread S s v other = ⊥

-- a fault of a reader
abbrev pub IsReadersFault : ℕ → ℕ → Fault → Type 0
IsReadersFault s v (fault.WriteFault n) = ⊥
IsReadersFault s v f = IsTrue (fits_show s v (Refused f))

pub record AnswersRecipe (keeps : Keeping) (old new : ShelfTold) (s v : ℕ)
    (result : Result Recipe Fault) : Type 0 where
  pub same : IsSameBut old new
  pub kind : IfErr result (IsReadersFault s v)
  pub causes : IfErr result (λ f. CausesRise (counts_of_shelf old) (counts_of_shelf new) (Refused f ∷ []))
  pub says : IfOk result (λ r. (S : State) → keeps S None
      → IsSomeAnd (version_of S s v) (λ k. (length r.rows ≡ length k.rows)
      × (recipe_text r ≡ recipe_text (recipe_of s v k))))
  pub refused : IfErr result (λ f. (S : State) → keeps S None → IsUnread S s v f)

-- what comes of writing a recipe's text
abbrev pub IsWrittenRecipe : ℕ → ℕ → Recipe → SinkTold → SinkTold → Answer → Type 0
IsWrittenRecipe s v r before now (Shown t w rows) =
    (t ≡ s) × (w ≡ v) × (rows ≡ length r.rows) × Takes before.taken now.taken (recipe_text r)
IsWrittenRecipe s v r before now (Refused (fault.WriteFault n)) =
    (n ≡ now.faults) × Rose before.faults now.faults × TakesFront before now (recipe_text r)
IsWrittenRecipe s v r before now (Refused fault.Memory) = now ≡ before
IsWrittenRecipe s v r before now other = ⊥
