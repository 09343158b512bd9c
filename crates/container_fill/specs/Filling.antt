-- What a filler keeps of the chunks that it was given, and what they come to.
use Rattle.std.specs.Prelude.{◌≡◌, ◌⊎◌, ℕ, ◌+◌, ◌-◌, ◌*◌, ◌^◌, ◌≤◌, ◌<◌, Bool, true, false, List, [], ◌∷◌, ◌++◌, map, length, min, find, sum_by, is_some, Option, Some, None, option_map, nat_lt, if◌then◌else◌}
use Rattle.std.specs.List.{list_any}
use Rattle.std.specs.Map.{lookup}
use Rattle.vault_types.specs.declared.Fp.{Fp}
use Rattle.vault_types.specs.declared.Row.{Row}
use Rattle.vault_types.specs.declared.How.{How}
use Rattle.vault_types.specs.declared.How.TheVariants.{Old, Own, Write}
use Rattle.vault_types.specs.Names.{fp, same_fp, NamedChunk, named_chunk}
use Rattle.vault_types.specs.Pieces.{pieces}
use Rattle.vault_types.specs.Decide.{is_written}
use Rattle.vault_types.specs.Tables.{Container, id_of, payload_len, has_fp}
use Rattle.vault_types.specs.Fill.{writes, new_container, new_containers, rows_of, Filled}
use Rattle.container_fill.specs.Opened.{bytes_in}
use Rattle.container_fill.specs.Carried.{carried}

-- what a filler keeps: the id and the chunks of the container that is being filled, which container took each
-- fingerprint, the rows, how many containers were given out, and how many bytes were written
pub record Filling : Type 0 where
  pub capacity : ℕ
  pub next : ℕ
  pub held : List (List ℕ)
  pub taken : List (Fp × ℕ)
  pub rows : List Row
  pub containers : ℕ
  pub written : ℕ

-- the container that took a fingerprint
abbrev pub taken_by : Filling → Fp → Option ℕ
taken_by f g = lookup (same_fp g) f.taken

-- what every filler keeps
pub record IsFilling (f : Filling) : Type 0 where
  pub some : 1 ≤ f.capacity
  pub most : f.capacity ≤ 4194304
  pub low : 1 ≤ f.next
  pub high : f.next ≤ 2 ^ 63 + length f.rows
  pub higher : 1 ≤ length f.held → f.next < 2 ^ 63 + length f.rows
  pub covered : (g : Fp) → taken_by f g ≡ None → list_any (same_fp g) (map fp f.held) ≡ false

-- a count, or the last value of u64
abbrev pub saturated : ℕ → ℕ
saturated n = min n (2 ^ 64 - 1)

-- the container of some chunks, if there are any
abbrev pub opened : ℕ → List (List ℕ) → List Container
opened id [] = []
opened id (c ∷ cs) = new_container id (map named_chunk (c ∷ cs)) ∷ []

-- the container of a list that has a fingerprint
abbrev pub place_of : List Container → Fp → Option ℕ
place_of containers f = option_map id_of (find (λ c. has_fp f c.table) containers)

abbrev pub written_in : List Container → ℕ
written_in containers = sum_by (λ c. payload_len c.table.rows) containers

abbrev pub size_of : NamedChunk → ℕ
size_of c = length c.bytes

-- these pieces of what is written are full, whatever follows, and the others are still held
pub record ArePacked (capacity : ℕ) (written : List NamedChunk) (full : List (List NamedChunk))
    (held : List NamedChunk) : Type 0 where
  pub split : (more : List NamedChunk)
      → pieces size_of capacity (written ++ more) ≡ full ++ pieces size_of capacity (held ++ more)
  pub fits : (length held ≤ 1) ⊎ (sum_by size_of held ≤ capacity)

-- each chunk that is not old has a container
abbrev pub HaveTakers : (Fp → Option ℕ) → List NamedChunk → List How → Type 0
HaveTakers taken [] hows = Unit {0}
HaveTakers taken (c ∷ cs) [] = Unit {0}
HaveTakers taken (c ∷ cs) (Old id ∷ hows) = HaveTakers taken cs hows
HaveTakers taken (c ∷ cs) (Own ∷ hows) = (is_some (taken c.fp) ≡ true) × HaveTakers taken cs hows
HaveTakers taken (c ∷ cs) (Write ∷ hows) = (is_some (taken c.fp) ≡ true) × HaveTakers taken cs hows

abbrev pub places_of : List NamedChunk → List How → List (Fp × How)
places_of [] hows = []
places_of (c ∷ cs) [] = []
places_of (c ∷ cs) (h ∷ hows) = (c.fp, h) ∷ places_of cs hows

-- the chunks and what was done with each, where these containers were given out and the last one is held
pub record HasPacked (f : Filling) (first : ℕ) (gone : List Container) (chunks : List NamedChunk)
    (done : List How) : Type 0 where
  pub count : length chunks ≡ length done
  pub next : f.next ≡ first + length gone
  pub taken : (g : Fp) → taken_by f g ≡ place_of (gone ++ opened f.next f.held) g
  pub known : (g : Fp) → is_written (places_of chunks done) g ≡ is_some (taken_by f g)
  pub takers : HaveTakers (taken_by f) chunks done
  pub rows : f.rows ≡ rows_of (gone ++ opened f.next f.held) chunks done
  pub containers : f.containers ≡ saturated (length gone)
  pub written : f.written ≡ saturated (written_in (gone ++ opened f.next f.held))
  pub few : length (gone ++ opened f.next f.held) ≤ length chunks
  pub small : written_in (gone ++ opened f.next f.held) ≤ 65536 * length chunks

-- the filler began with this id, was given these chunks with these decisions, and has given out
-- these containers
pub record HasFilled (f : Filling) (first : ℕ) (gone : List Container) (chunks : List NamedChunk)
    (hows : List How) : Type 0 where
  pub full : List (List NamedChunk)
  pub gone_are : gone ≡ new_containers first full
  pub packed : ArePacked f.capacity (writes chunks (carried chunks hows)) full (map named_chunk f.held)
  pub count : length chunks ≡ length hows
  pub keeps : HasPacked f first gone chunks (carried chunks hows)

-- the container that is held is given out
abbrev pub closed_with : List (List ℕ) → Filling → Filling
closed_with [] f = f
closed_with (c ∷ cs) f = record {
  capacity = f.capacity;
  next = f.next + 1;
  held = [];
  taken = f.taken;
  rows = f.rows;
  containers = saturated (f.containers + 1);
  written = f.written;
}

abbrev pub closed : Filling → Filling
closed f = closed_with f.held f

-- the chunk does not fit into the container that is held
abbrev pub is_over : Filling → ℕ → Bool
is_over f len = nat_lt f.capacity (bytes_in f.held + len)

abbrev pub roomed : Filling → ℕ → Filling
roomed f len = if is_over f len then closed f else f

abbrev pub given_for : Filling → ℕ → List Container
given_for f len = if is_over f len then opened f.next f.held else []

abbrev pub with_row : Filling → Row → Filling
with_row f row = record {
  capacity = f.capacity;
  next = f.next;
  held = f.held;
  taken = f.taken;
  rows = f.rows ++ row ∷ [];
  containers = f.containers;
  written = f.written;
}

-- the chunk is written into the container that is held
pub record IsPut (f g : Filling) (chunk : List ℕ) : Type 0 where
  pub capacity : g.capacity ≡ f.capacity
  pub next : g.next ≡ f.next
  pub held : g.held ≡ f.held ++ chunk ∷ []
  pub taken : (q : Fp) → taken_by g q ≡ (if same_fp (fp chunk) q then Some f.next else taken_by f q)
  pub rows : g.rows ≡ f.rows ++ (record { fp = fp chunk; id = f.next; len = length chunk }) ∷ []
  pub containers : g.containers ≡ f.containers
  pub written : g.written ≡ saturated (f.written + length chunk)

-- what a filler comes to, where it gives out these containers at last
pub record IsFilledBy (last : List Container) (rows : List Row) (next containers written : ℕ) (first : ℕ)
    (gone : List Container) (count : ℕ) (F : Filled) : Type 0 where
  pub containers_are : gone ++ last ≡ F.containers
  pub rows_are : rows ≡ F.rows
  pub next_is : next ≡ first + length F.containers
  pub count_is : containers ≡ saturated (length F.containers)
  pub written_is : written ≡ saturated (written_in F.containers)
  pub count_exact : count < 2 ^ 32 → containers ≡ length F.containers
  pub written_exact : count < 2 ^ 32 → written ≡ written_in F.containers
