-- What the laws of commits, puts and pins speak of.
use Rattle.std.specs.Prelude.{◌≡◌, ◌≢◌, ◌⊎◌, ℕ, ◌+◌, Bool, ◌&&◌, List, [], ◌∷◌, ◌++◌, length, nat_le, nat_lt, Contains, IfSome}
use Rattle.vault_types.specs.declared.Name.{Name}
use Rattle.vault_types.specs.declared.Recipe.{Recipe}
use Rattle.vault_types.specs.Tables.{Container}
use Rattle.vault_types.specs.State.{State, KeptVersion, next_of}
use Rattle.vault_types.specs.Shelf.{recipe_name}
use Rattle.vault_types.specs.Events.{Core, Job, Pin, put_by, containers_of, with_pins, version_in_recipe, IsContainerName}

-- the version that a recipe says, with the containers of the state and of the job
abbrev pub said : Core → Job → Recipe → KeptVersion
said K job r = version_in_recipe (K.state.containers ++ job.containers) r

-- the name that the recipe has
abbrev pub name_of : Job → Recipe → Name
name_of job r = recipe_name job.set r.version

-- the strays that were, but the recipe's name and the names of these containers
pub record AreStraysLeft (was : List Name) (recipe : Name) (cs : List Container)
    (strays : List Name) : Type 0 where
  pub were : (n : Name) → Contains strays n → Contains was n × (n ≢ recipe) × (IsContainerName cs n → ⊥)
  pub stay : (n : Name) → Contains was n → Contains strays n ⊎ ((n ≡ recipe) ⊎ IsContainerName cs n)

-- a pin of a version with those of the state's containers that have these ids
abbrev pub pin_with : ℕ → ℕ → ℕ → List ℕ → State → Pin
pin_with number s v ids S =
    record { number = number; set = s; version = v; containers = containers_of S.containers ids }

-- the core with it
abbrev pub pinned_core : ℕ → ℕ → ℕ → List ℕ → Core → Core
pinned_core number s v ids K = with_pins (K.pins ++ pin_with number s v ids K.state ∷ []) K.strays K

-- whether an id is one of the open job's
abbrev pub is_put : Core → ℕ → Bool
is_put K id = nat_le (next_of K.state) id && nat_lt id (next_of K.state + length (put_by K.job))

-- the recipe says the version, and its sum if it has one
pub record SaysVersion (r : Recipe) (k : KeptVersion) : Type 0 where
  pub next : r.next ≡ k.next
  pub rows : r.rows ≡ k.rows
  pub sparse : r.sparse ≡ k.sparse
  pub sum : IfSome r.whole (λ w. w ≡ k.sum)
