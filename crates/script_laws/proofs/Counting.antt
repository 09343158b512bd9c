-- As many answers have a counted fault as the counts of faults rose by, at most.
use Rattle.std.proofs.Common.{◌≡◌, ◌≤◌, ◌<◌, ◌+◌, ◌-◌, ◌^◌, ℕ, cond, List, [], ◌∷◌, length, refl, sym, ◌∙◌, arith}
use Rattle.std.specs.Prelude.{count_by}
use Rattle.std.specs.List.{filter, filter_map, cons_option, AllByRecursion}
use Rattle.std.proofs.lemmas.List.Sums.{length-filter}
use Rattle.vault_types.specs.Lists.{IsAscending}
use Rattle.vault_types.specs.declared.Fault.TheVariants as fault
use Rattle.vault_types.specs.declared.Answer.{Answer}
use Rattle.vault_types.specs.declared.Answer.TheVariants.{Stored, Restored, Removed, Shown, Migrated, Scrubbed, Refused}
use Rattle.vault_traits.specs.Counts.{RiseFrom}
use Rattle.store_model.specs.Causes.{Counts, CausesRise, store_number, place_number, read_number, write_number}
use Rattle.store_model.specs.Complete.{is_counted, AreBelowLast}

-- below the last value each number that rises is one more
pub rise_counts : (a b : ℕ) (ns : List ℕ) → b < 2 ^ 64 - 1 → RiseFrom a ns b → a + length ns ≤ b
rise_counts a b [] below rise = omega arith
rise_counts a b (n ∷ ns) below rise = let rest = rise_counts n b ns below rise.1 in omega (arith, rest, rise.0, below)

-- an answer carries a number exactly where it is counted
counted_once : (a : Answer) (rest : List Answer) (s p r w : List ℕ) → length rest ≡ length s + length p + length r + length w
    → length (cond (is_counted a) (a ∷ rest) rest) ≡ length (cons_option (store_number a) s) + length (cons_option (place_number a) p) + length (cons_option (read_number a) r) + length (cons_option (write_number a) w)
counted_once (Refused (fault.StoreFault n)) rest s p r w is = omega (arith, is)
counted_once (Refused (fault.PlaceFault n)) rest s p r w is = omega (arith, is)
counted_once (Refused (fault.ReadFault n)) rest s p r w is = omega (arith, is)
counted_once (Refused (fault.WriteFault n)) rest s p r w is = omega (arith, is)
counted_once (Refused fault.Usage) rest s p r w is = is
counted_once (Refused (fault.NotKept t v floor latest)) rest s p r w is = is
counted_once (Refused (fault.Damaged kind number why)) rest s p r w is = is
counted_once (Refused fault.Memory) rest s p r w is = is
counted_once (Refused (fault.TooMany limit)) rest s p r w is = is
counted_once (Refused (fault.LastVersion t through latest)) rest s p r w is = is
counted_once (Refused (fault.BadLine n)) rest s p r w is = is
counted_once (Refused (fault.ScriptTooLong limit)) rest s p r w is = is
counted_once (Refused (fault.Full t latest next)) rest s p r w is = is
counted_once (Stored t v chunks bytes containers written sparse) rest s p r w is = is
counted_once (Restored t v bytes loads) rest s p r w is = is
counted_once (Removed t through floor reclaimed) rest s p r w is = is
counted_once (Shown t v rows) rest s p r w is = is
counted_once (Migrated recipes) rest s p r w is = is
counted_once (Scrubbed containers damaged) rest s p r w is = is

pub counted_all : (answers : List Answer) → length (filter is_counted answers)
    ≡ length (filter_map store_number answers) + length (filter_map place_number answers) + length (filter_map read_number answers) + length (filter_map write_number answers)
counted_all [] = refl
counted_all (a ∷ answers) = counted_once a (filter is_counted answers) (filter_map store_number answers) (filter_map place_number answers) (filter_map read_number answers) (filter_map write_number answers) (counted_all answers)

pub few_counted : (old new : Counts) (answers : List Answer) → CausesRise old new answers → AreBelowLast new
    → count_by is_counted answers ≤ (new.store - old.store) + (new.place - old.place) + (new.read - old.read) + (new.write - old.write)
few_counted old new answers rise below =
    let all : count_by is_counted answers ≡ length (filter_map store_number answers) + length (filter_map place_number answers) + length (filter_map read_number answers) + length (filter_map write_number answers)
    = sym (length-filter is_counted answers) ∙ counted_all answers in
    sum _ _ _ _ _ _ _ _ _ _ _ _ _ all
    (rise_counts old.store new.store (filter_map store_number answers) below.store rise.store)
    (rise_counts old.place new.place (filter_map place_number answers) below.place rise.place)
    (rise_counts old.read new.read (filter_map read_number answers) below.read rise.read)
    (rise_counts old.write new.write (filter_map write_number answers) below.write rise.write)
  where
    sum : (all s p r w a b c d a' b' c' d' : ℕ) → all ≡ s + p + r + w → a + s ≤ a' → b + p ≤ b' → c + r ≤ c' → d + w ≤ d' → all ≤ (a' - a) + (b' - b) + (c' - c) + (d' - d)
    sum all s p r w a b c d a' b' c' d' is ha hb hc hd = omega arith

-- below the last value the numbers ascend, so that none comes twice
above : (a b c : ℕ) (ns : List ℕ) → a ≤ b → c < 2 ^ 64 - 1 → RiseFrom b ns c → AllByRecursion (λ m. a < m) ns
above a b c [] le below rise = tt
above a b c (n ∷ ns) le below rise =
    let rest = rise_counts n c ns below rise.1 in
    let more : a < n = omega (arith, le, below, rest, rise.0) in
    (more, above a n c ns (omega (arith, more)) below rise.1)

pub rise_ascends : (a b : ℕ) (ns : List ℕ) → b < 2 ^ 64 - 1 → RiseFrom a ns b → IsAscending ns
rise_ascends a b [] below rise = tt
rise_ascends a b (n ∷ ns) below rise = (above n n b ns (omega arith) below rise.1, rise_ascends n b ns below rise.1)
