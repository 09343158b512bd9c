-- The events of a keeper: what each leaves of the state, the pins, the strays and the job.
use Rattle.std.specs.Prelude.{◌≡◌, ℕ, ◌+◌, ◌<◌, ◌≤◌, ◌⊎◌, not, List, [], ◌∷◌, ◌++◌, map, filter, flat_map, length, Contains, ◌==◌, nat_eq, max, Option, Some, None, IsSome, IfSome, IsSomeAnd, option_map, unwrap_or}
use Rattle.std.specs.Option.{option_map_or}
use Rattle.std.specs.FinMap as fin
use Rattle.std.specs.List.{range_with_len, IsDistinct, AllByRecursion}
use Rattle.vault_types.specs.declared.Name.{Name}
use Rattle.vault_types.specs.declared.Recipe.{Recipe}
use Rattle.vault_types.specs.declared.Pending.{Pending}
use Rattle.vault_types.specs.declared.Pending.TheVariants as pending
use Rattle.vault_types.specs.Lists.{has}
use Rattle.vault_types.specs.Tables.{Container, id_of, IsTable}
use Rattle.vault_types.specs.State.{State, KeptVersion, floor_of, latest_of, next_of, version_of, container_in, HasFp, IsValid}
use Rattle.vault_types.specs.Names.{fp}
use Rattle.vault_types.specs.Bytes.{row_bytes, HasPayload}
use Rattle.vault_types.specs.Backup.{with_new_version}
use Rattle.vault_types.specs.Delete.{delete}
use Rattle.vault_types.specs.Blobs.{floor_bytes, recipe_bytes, IsRecipe}
use Rattle.vault_types.specs.Shelf.{Blobs, with_blob, table_name, payload_name, recipe_name, floor_name, HasContainer, Stands}

-- a pinned version: its containers stay while it is pinned
pub record Pin : Type 0 where
  pub number : ℕ
  pub set : ℕ
  pub version : ℕ
  pub containers : List Container

-- an open job of a set, with the containers that it has put
pub record Job : Type 0 where
  pub set : ℕ
  pub containers : List Container

-- a write that failed and may be on the shelf: with it the blobs stand for another state
pub record Change : Type 0 where
  pub name : Name
  pub bytes : List ℕ
  pub state : State

pub record Core : Type 0 where
  pub state : State
  pub other : Option Change
  pub pins : List Pin
  pub strays : List Name
  pub job : Option Job
  pub pending : Pending

-- names

-- the containers that the pins list
abbrev pub pinned_containers : List Pin → List Container
pinned_containers pins = flat_map (λ p. p.containers) pins

-- the containers of the open job
abbrev pub put_by : Option Job → List Container
put_by job = option_map_or (λ j. j.containers) job []

-- the name of a table or a payload of these containers
pub record IsContainerName (cs : List Container) (n : Name) : Type 0 where
  pub container : Container
  pub among : Contains cs container
  pub is : (n ≡ table_name container.table.id) ⊎ (n ≡ payload_name container.table.id)

-- the name of a kept recipe
pub record IsRecipeName (S : State) (n : Name) : Type 0 where
  pub set : ℕ
  pub version : ℕ
  pub in_range : set < length S.datasets
  pub kept : IsSome (version_of S set version)
  pub is : n ≡ recipe_name set version

pub record IsFloorName (S : State) (n : Name) : Type 0 where
  pub set : ℕ
  pub in_range : set < length S.datasets
  pub is : n ≡ floor_name set

-- a name that the state needs, or these containers; a floor's name is never a stray
abbrev pub IsNeeded : State → List Container → Name → Type 0
IsNeeded S cs n = IsContainerName (S.containers ++ cs) n ⊎ (IsRecipeName S n ⊎ IsFloorName S n)

-- the recipe that a mending takes out is that of the next version of a set: of the failed line's,
-- or of the one given
abbrev pub mended_set : Pending → ℕ → ℕ
mended_set pending.Not s = s
mended_set pending.Opened s = s
mended_set (pending.FailedFor m) s = m

-- events. The strays after an event are given: Held says which names must be among them

abbrev pub after_mend : List Name → Core → Core
after_mend strays K =
    record {
      state = K.state;
      other = None;
      pins = K.pins;
      strays = strays;
      job = K.job;
      pending = pending.Not;
    }

-- a job of the set begins
abbrev pub after_begin : ℕ → List Name → Core → Core
after_begin s strays K =
    record {
      state = K.state;
      other = None;
      pins = K.pins;
      strays = strays;
      job = Some (record { set = s; containers = [] });
      pending = pending.Not;
    }

-- the job has put a container; its names are strays until the commit
abbrev pub put_in : Container → Job → Job
put_in c job = record { set = job.set; containers = job.containers ++ c ∷ [] }

abbrev pub after_put : Container → List Name → Core → Core
after_put c strays K =
    record {
      state = K.state;
      other = K.other;
      pins = K.pins;
      strays = strays;
      job = option_map (put_in c) K.job;
      pending = K.pending;
    }

-- what a recipe says of its version. A recipe without a whole has the sum of the bytes that its
-- rows have in these containers
abbrev pub version_in_recipe : List Container → Recipe → KeptVersion
version_in_recipe containers r =
    record {
      next = r.next;
      rows = r.rows;
      sparse = r.sparse;
      sum = unwrap_or r.whole (fp (row_bytes containers r.rows));
    }

-- a recipe may be committed by the open job: it is the next of its set, its rows are in named
-- containers or in those of the job, and it names each of the job's
pub record CanCommit (K : Core) (job : Job) (r : Recipe) : Type 0 where
  pub open_job : K.job ≡ Some job
  pub rules : IsRecipe r
  pub set : r.set ≡ job.set
  pub in_range : job.set < length K.state.datasets
  pub version : r.version ≡ latest_of K.state job.set + 1
  pub rows : AllByRecursion (HasFp (K.state.containers ++ job.containers)) r.rows
  pub uses : AllByRecursion (λ c. Contains (map (λ q. q.id) r.rows) c.table.id) job.containers
  pub next : r.next ≡ next_of K.state + length job.containers

-- the state with the version and the job's containers
abbrev pub committed : KeptVersion → Job → State → State
committed k job S = with_new_version S job.set k job.containers

abbrev pub after_commit : KeptVersion → Job → List Name → Core → Core
after_commit k job strays K =
    record {
      state = committed k job K.state;
      other = None;
      pins = K.pins;
      strays = strays;
      job = None;
      pending = K.pending;
    }

-- what a commit that failed may have left
abbrev pub commit_change : KeptVersion → Job → Recipe → State → Change
commit_change k job r S =
    record {
      name = recipe_name job.set (latest_of S job.set + 1);
      bytes = recipe_bytes r;
      state = committed k job S;
    }

-- the job is over, and its names stay strays
abbrev pub after_abort : Core → Core
after_abort K =
    record {
      state = K.state;
      other = K.other;
      pins = K.pins;
      strays = K.strays;
      job = None;
      pending = K.pending;
    }

abbrev pub after_delete : ℕ → ℕ → List Name → Core → Core
after_delete s n strays K =
    record {
      state = delete K.state s n;
      other = None;
      pins = K.pins;
      strays = strays;
      job = K.job;
      pending = pending.Not;
    }

-- what a deletion that failed may have left
abbrev pub delete_change : ℕ → ℕ → State → Change
delete_change s n S =
    record { name = floor_name s; bytes = floor_bytes s (max (floor_of S s) (n + 1)); state = delete S s n }

-- the containers of these ids, each once
abbrev pub containers_of : List Container → List ℕ → List Container
containers_of containers ids = filter (λ c. has c.table.id ids) containers

-- a pin with the containers of a version's rows is added
abbrev pub pin_of : ℕ → ℕ → ℕ → State → KeptVersion → Pin
pin_of number s v S k =
    record {
      number = number;
      set = s;
      version = v;
      containers = containers_of S.containers (map (λ r. r.id) k.rows);
    }

abbrev pub with_pins : List Pin → List Name → Core → Core
with_pins pins strays K =
    record {
      state = K.state;
      other = K.other;
      pins = pins;
      strays = strays;
      job = K.job;
      pending = K.pending;
    }

abbrev pub after_pin : ℕ → ℕ → ℕ → KeptVersion → Core → Core
after_pin number s v k K = with_pins (K.pins ++ pin_of number s v K.state k ∷ []) K.strays K

-- a pin goes, and with it each of its containers that is neither named nor in another pin
abbrev pub pins_without : ℕ → List Pin → List Pin
pins_without number pins = filter (λ p. not (p.number == number)) pins

abbrev pub after_release : ℕ → List Name → Core → Core
after_release number strays K = with_pins (pins_without number K.pins) strays K

-- a refused event leaves the state and the pins; a job may have ended, and a write may be half done
abbrev pub after_refused : Option Change → Option Job → List Name → Pending → Core → Core
after_refused other job strays pending K =
    record { state = K.state; other = other; pins = K.pins; strays = strays; job = job; pending = pending }

-- what the shelf holds between two events

-- c is what blobs that stand for S are with the change
pub record HasChange (S : State) (h : Change) (c : Blobs) : Type 0 where
  pub before : Blobs
  pub stands : Stands before S
  pub is : c ≡ with_blob before h.name (Some h.bytes)
  pub other : Stands c h.state

-- the blobs stand for the state, or for the other one
abbrev pub IsNear : State → Option Change → Blobs → Type 0
IsNear S other c = Stands c S ⊎ IsSomeAnd other (λ h. HasChange S h c)

-- the change is that of a commit or of a deletion of the set, and its state is valid
pub record IsChange (S : State) (s : ℕ) (h : Change) : Type 0 where
  pub in_range : s < length S.datasets
  pub kind : ((h.name ≡ recipe_name s (latest_of S s + 1)) × (floor_of h.state s ≡ floor_of S s))
      ⊎ ((h.name ≡ floor_name s) × (IsNeeded h.state [] (recipe_name s (latest_of S s + 1)) → ⊥))
  pub containers : (c : Container) → Contains h.state.containers c
      → Contains S.containers c ⊎ (next_of S ≤ c.table.id)
  pub sets : length h.state.datasets ≡ length S.datasets
  pub valid : IsValid h.state

-- the state is valid, the job numbers its containers from the first free id on, what a pin lists is
-- as the state has it, and a change is that of the set whose write failed
pub record IsCore (K : Core) : Type 0 where
  pub state : IsValid K.state
  pub job : map id_of (put_by K.job) ≡ range_with_len (next_of K.state) (length (put_by K.job))
  pub tables : AllByRecursion (λ c. IsTable c.table) (put_by K.job)
  pub payloads : AllByRecursion HasPayload (put_by K.job)
  pub job_set : IfSome K.job (λ j. j.set < length K.state.datasets)
  pub pins : (c : Container) → Contains (pinned_containers K.pins) c
      → (c.table.id < next_of K.state) × IfSome (container_in K.state.containers c.table.id) (λ d. d ≡ c)
  pub numbers : IsDistinct nat_eq (map (λ p. p.number) K.pins)
  pub alone : IsSome K.job → K.other ≡ None
  pub failed : (s : ℕ) → K.pending ≡ pending.FailedFor s → s < length K.state.datasets
  pub other : IfSome K.other (λ h. (s : ℕ) × (K.pending ≡ pending.FailedFor s) × IsChange K.state s h)

-- the shelf holds what the state, the pins and the open job need, and strays
pub record Held (shelf : Blobs) (K : Core) : Type 0 where
  pub near : IsNear K.state K.other shelf
  pub containers : (c : Container) → Contains (pinned_containers K.pins ++ put_by K.job) c
      → HasContainer shelf c
  pub others : (n : Name) → IsSome (fin.get shelf n)
      → IsNeeded K.state (pinned_containers K.pins) n ⊎ Contains K.strays n
  pub apart : (n : Name) → Contains K.strays n → IsNeeded K.state (pinned_containers K.pins) n → ⊥
