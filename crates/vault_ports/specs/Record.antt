-- What a shelf that tells its crashes keeps of its calls, and what it leaves.
use Rattle.std.specs.Prelude.{◌≡◌, ◌%◌, ◌/◌, ◌==◌, ◌&&◌, nat_le, nat_lt, ℕ, List, [], ◌∷◌, ◌++◌, length, Bool, cond, Option, None, Some, refl}
use mathlib.Core.Logic.{inl, inr}
use Rattle.std.proofs.Common.{ap, subst}
use Rattle.std.specs.Coded.{Coded, code_by, coded×, coded_ℕ, coded_list, coded_option}
use Rattle.std.specs.FinMap as map
use Rattle.vault_types.specs.declared.Name.{Name}
use Rattle.vault_types.specs.Shelf.{Blobs, with_blob, floor_name}
use Rattle.vault_traits.specs.Counts.{counted}
use Rattle.vault_traits.specs.Crash.{ShelfStep, Wrote, Settled, History, IsImage, ReadsAnImage}
use Rattle.vault_traits.specs.Codes.{coded_name, coded_blobs, coded_step}
use Rattle.vault_ports.specs.declared.entries.Entry.{Entry}
use Rattle.vault_ports.specs.declared.entries.Entry.TheVariants.{Put, Floor, Remove, Settle}
use Rattle.vault_ports.specs.Failing.{counted_if}

-- a name and what was written to it; with no bytes, a removal
abbrev pub Write : Type 0
Write = Name × Option (List ℕ)

-- the blobs at the beginning; the steps since that were done, the newest first; the write at the
-- stop, which was not done; the number of the call at which it stops, how many calls there were,
-- how many failed, and how many gets of a payload
pub record Record : Type 0 where
  pub base : Blobs
  pub steps : List ShelfStep
  pub last : Option Write
  pub stop : ℕ
  pub calls : ℕ
  pub faults : ℕ
  pub gets : ℕ

abbrev pub coded_record : Coded Record
coded_record = code_by (Blobs × (List ShelfStep × (Option Write × (ℕ × (ℕ × (ℕ × ℕ))))))
    (coded× coded_blobs
    (coded× (coded_list coded_step)
    (coded× (coded_option (coded× coded_name (coded_option (coded_list coded_ℕ))))
    (coded× coded_ℕ (coded× coded_ℕ (coded× coded_ℕ coded_ℕ))))))
    (λ r. (r.base, (r.steps, (r.last, (r.stop, (r.calls, (r.faults, r.gets)))))))
    (λ p.
    record {
      base = p.0;
      steps = p.1.0;
      last = p.1.1.0;
      stop = p.1.1.1.0;
      calls = p.1.1.1.1.0;
      faults = p.1.1.1.1.1.0;
      gets = p.1.1.1.1.1.1;
    })
    (λ _. refl)

-- what is read after these steps
abbrev pub reading : Blobs → List ShelfStep → Blobs
reading base [] = base
reading base (Wrote name bytes ∷ past) = with_blob (reading base past) name bytes
reading base (Settled m ∷ past) = m

-- the history of these steps, and with the write at the stop
abbrev pub history_from : Blobs → List ShelfStep → History
history_from base steps = steps ++ Settled base ∷ []

abbrev pub history_then : History → Option Write → History
history_then h None = h
history_then h (Some write) = Wrote write.0 write.1 ∷ h

abbrev pub history_of : Record → History
history_of r = history_then (history_from r.base r.steps) r.last

-- ---- what a crash leaves

-- the blobs as the last settle left them
abbrev pub settled_blobs : History → Blobs
settled_blobs [] = map.empty
settled_blobs (Wrote name bytes ∷ past) = settled_blobs past
settled_blobs (Settled m ∷ past) = m

-- the writes since, the oldest first
abbrev pub writes_since : History → List Write
writes_since [] = []
writes_since (Wrote name bytes ∷ past) = writes_since past ++ (name, bytes) ∷ []
writes_since (Settled m ∷ past) = []

-- the blobs after the writes whose bit is 1: bit 0 is the first one's, bit 1 the next one's, and so on
abbrev pub carried_out : Blobs → List Write → ℕ → Blobs
carried_out m [] taken = m
carried_out m (w ∷ ws) taken = carried_out (cond (taken % 2 == 1) (with_blob m w.0 w.1) m) ws (taken / 2)

abbrev pub image_of : History → ℕ → Blobs
image_of h taken = carried_out (settled_blobs h) (writes_since h) taken

-- ---- what a call does to it

-- for how many steps there is room
abbrev pub room : ℕ
room = 1024

-- the call and its failure are counted
pub record IsCounted (before after : Record) (failed : Bool) : Type 0 where
  pub base : after.base ≡ before.base
  pub stop : after.stop ≡ before.stop
  pub calls : after.calls ≡ counted before.calls
  pub faults : after.faults ≡ counted_if failed before.faults

-- the call that comes now is the one at which it stops, and there is room
abbrev pub stops_now : Record → Bool
stops_now r = nat_lt r.calls r.stop && nat_le r.stop (counted r.calls) && nat_lt (length r.steps) room

-- a write that failed: nothing is done, and the one at the stop is kept
pub record IsWriteRefused (before after : Record) (name : Name) (bytes : Option (List ℕ)) : Type 0 where
  pub steps : after.steps ≡ before.steps
  pub last : after.last ≡ cond (stops_now before) (Some (name, bytes)) before.last

-- ---- of the entries

-- the step of an entry, over the blobs that are read before it
abbrev pub entry_step : Blobs → Entry → ShelfStep
entry_step m (Put w) = Wrote w.name (Some w.bytes.items)
entry_step m (Floor set f) = Wrote (floor_name set) (Some f)
entry_step m (Remove name) = Wrote name None
entry_step m Settle = Settled m

-- the steps of entries, the oldest first
abbrev pub steps_after : Blobs → List ShelfStep → List Entry → List ShelfStep
steps_after base past [] = past
steps_after base past (e ∷ es) = steps_after base (entry_step (reading base past) e ∷ past) es

-- the write of an entry
abbrev pub entry_write : Option Entry → Option Write
entry_write None = None
entry_write (Some (Put w)) = Some (w.name, Some w.bytes.items)
entry_write (Some (Floor set f)) = Some (floor_name set, Some f)
entry_write (Some (Remove name)) = Some (name, None)
entry_write (Some Settle) = None

-- what is read is an image
pub reads_from : (base : Blobs) (steps : List ShelfStep)
    → IsImage (history_from base steps) (reading base steps)
reads_from base [] = refl
reads_from base (Wrote name bytes ∷ past) = inr (reading base past, reads_from base past, refl)
reads_from base (Settled m ∷ past) = refl

pub reads_then : (base : Blobs) (steps : List ShelfStep) (last : Option Write)
    → IsImage (history_then (history_from base steps) last) (reading base steps)
reads_then base steps None = reads_from base steps
reads_then base steps (Some write) = inl (reads_from base steps)

some_of : History → Option History → History
some_of x None = x
some_of x (Some y) = y

pub told_image : (r : Record) → ReadsAnImage (Some (reading r.base r.steps)) (Some (history_of r))
unfolding some_of
told_image r h kept = (
  reading r.base r.steps,
  refl,
  subst (λ (g : History). IsImage g (reading r.base r.steps)) (ap (some_of h) kept)
      (reads_then r.base r.steps r.last),
)

-- the blobs after an entry, and after entries in order
abbrev pub applied : Blobs → Entry → Blobs
applied m (Put w) = with_blob m w.name (Some w.bytes.items)
applied m (Floor set f) = with_blob m (floor_name set) (Some f)
applied m (Remove name) = with_blob m name None
applied m Settle = m

abbrev pub replayed : Blobs → List Entry → Blobs
replayed m [] = m
replayed m (e ∷ es) = replayed (applied m e) es

-- it is no settle
abbrev pub IsWrite : Entry → Type 0
IsWrite (Put w) = Unit {0}
IsWrite (Floor set f) = Unit {0}
IsWrite (Remove name) = Unit {0}
IsWrite Settle = ⊥

-- the writes among entries
abbrev pub writes_of : List Entry → List Write
writes_of [] = []
writes_of (Put w ∷ es) = (w.name, Some w.bytes.items) ∷ writes_of es
writes_of (Floor set f ∷ es) = (floor_name set, Some f) ∷ writes_of es
writes_of (Remove name ∷ es) = (name, None) ∷ writes_of es
writes_of (Settle ∷ es) = writes_of es

abbrev pub last_write : Option Write → List Write
last_write None = []
last_write (Some write) = write ∷ []

-- the entries are none, or end with a settle
abbrev pub AreSettled : List Entry → Type 0
AreSettled es =
    (base : Blobs)
    → (settled_blobs (history_from base (steps_after base [] es)) ≡ replayed base es)
    × (writes_since (history_from base (steps_after base [] es)) ≡ [])
