-- What the calls of a shelf do to its meaning.
use Rattle.std.specs.Prelude.{◌≡◌, ◌⊎◌, ℕ, List, ◌∷◌, Option, None, Some}
use Rattle.std.specs.Option.{option_map}
use Rattle.vault_types.specs.declared.Name.{Name}
use Rattle.vault_types.specs.declared.Kind.{Kind}
use Rattle.vault_types.specs.declared.Kind.TheVariants.{Table, Payload, Recipe, Floor}
use Rattle.vault_traits.specs.Counts.{counted}
use Rattle.vault_types.specs.Shelf.{Blobs, with_blob, name_cmp}
use Rattle.std.specs.FinMap as map
use Rattle.std.specs.List.Sorted.{IsStrictlySortedBy}
use Rattle.std.specs.Set.{is_member}
use Rattle.std.specs.Ordering.{eq_by_cmp}
use Rattle.vault_traits.specs.Crash.{Wrote, Settled, History}
use Rattle.vault_traits.specs.Told.{ShelfTold}

-- the count of payload gets after a get
abbrev pub gets_after : Kind → ℕ → ℕ
gets_after Table n = n
gets_after Payload n = counted n
gets_after Recipe n = n
gets_after Floor n = n

-- the blobs after a write, where they are told
abbrev pub blobs_with : Option Blobs → Name → Option (List ℕ) → Option Blobs
blobs_with told name bytes = option_map (λ m. with_blob m name bytes) told

-- the steps after a write, where they are told
abbrev pub history_with : Option History → Name → Option (List ℕ) → Option History
history_with told name bytes = option_map (λ h. Wrote name bytes ∷ h) told

-- the steps after a settle that succeeded, where they are told
abbrev pub history_settled : Option Blobs → Option History → Option History
history_settled None told = None
history_settled (Some m) told = option_map (λ h. Settled m ∷ h) told

-- a write that was done
pub record IsWritten (before after : Option Blobs) (past now : Option History) (name : Name)
    (bytes : Option (List ℕ)) : Type 0 where
  pub blobs : after ≡ blobs_with before name bytes
  pub history : now ≡ history_with past name bytes

-- a write that failed: the name has its old or its new content, and a crash may carry the write out
pub record MayBeWritten (before after : Option Blobs) (past now : Option History) (name : Name)
    (bytes : Option (List ℕ)) : Type 0 where
  pub blobs : (after ≡ before) ⊎ (after ≡ blobs_with before name bytes)
  pub history : (now ≡ past) ⊎ (now ≡ history_with past name bytes)

-- nothing was written
pub record IsAsBefore (before after : ShelfTold) : Type 0 where
  pub blobs : after.blobs ≡ before.blobs
  pub history : after.history ≡ before.history

-- each name once, by kind and then by number
pub record IsListing (m : Blobs) (names : List Name) : Type 0 where
  pub sorted : IsStrictlySortedBy name_cmp names
  pub exact : (q : Name) → is_member (eq_by_cmp name_cmp) names q ≡ map.contains_key m q
