-- What is seen of a shelf whose numbered calls fail.
use Rattle.std.specs.Prelude.{◌≡◌, ℕ, List, Bool, cond, Option, Some, None, Contains, refl}
use Rattle.std.specs.Coded.{Coded, code_by, coded×, coded_ℕ, coded_list, coded_bool}
use Rattle.vault_types.specs.declared.Name.{Name}
use Rattle.vault_types.specs.Shelf.{Blobs, with_blob}
use Rattle.vault_traits.specs.Codes.{coded_blobs}
use Rattle.vault_traits.specs.Counts.{counted}
use Rattle.vault_traits.specs.Told.{ShelfTold}
use Rattle.vault_ports.specs.Failing.{counted_if}

-- the blobs, and the count of payload gets; the numbers of the calls that fail, and whether a write
-- that fails is done; how many calls there were, and how many failed
pub record FaultyShelf : Type 0 where
  pub blobs : Blobs
  pub gets : ℕ
  pub fail : List ℕ
  pub keep : Bool
  pub calls : ℕ
  pub faults : ℕ

abbrev pub coded_faulty : Coded FaultyShelf
coded_faulty = code_by (Blobs × (ℕ × (List ℕ × (Bool × (ℕ × ℕ)))))
    (coded× coded_blobs
    (coded× coded_ℕ (coded× (coded_list coded_ℕ) (coded× coded_bool (coded× coded_ℕ coded_ℕ)))))
    (λ s. (s.blobs, (s.gets, (s.fail, (s.keep, (s.calls, s.faults))))))
    (λ p.
    record {
      blobs = p.0;
      gets = p.1.0;
      fail = p.1.1.0;
      keep = p.1.1.1.0;
      calls = p.1.1.1.1.0;
      faults = p.1.1.1.1.1;
    })
    (λ _. refl)

-- its blobs are told, and no steps
abbrev pub told_of : FaultyShelf → ShelfTold
told_of s = record { blobs = Some s.blobs; history = None; faults = s.faults; gets = s.gets }

-- the number of the call that comes now is among those
abbrev pub FailsNow : FaultyShelf → Type 0
FailsNow s = Contains s.fail (counted s.calls)

-- the call and its failure are counted
pub record IsCounted (before after : FaultyShelf) (failed : Bool) : Type 0 where
  pub fail : after.fail ≡ before.fail
  pub keep : after.keep ≡ before.keep
  pub calls : after.calls ≡ counted before.calls
  pub faults : after.faults ≡ counted_if failed before.faults

-- the blobs after a write that failed
abbrev pub done_if : Bool → Blobs → Name → Option (List ℕ) → Blobs
done_if keep m name bytes = cond keep (with_blob m name bytes) m
