-- What is seen of a shelf with a gate.
use Rattle.std.specs.Prelude.{◌≡◌, ◌==◌, ℕ, cond, refl}
use Rattle.std.specs.Coded.{Coded, code_by, coded×, coded_ℕ}
use Rattle.vault_types.specs.declared.Kind.{Kind}
use Rattle.vault_types.specs.Shelf.{Blobs, kind_rank}
use Rattle.vault_traits.specs.Codes.{coded_blobs, kind_at, kind_back}
use Rattle.vault_traits.specs.Counts.{counted}

-- the blobs, and the count of payload gets; the kind whose puts are counted, the number of the one
-- that is guarded, how many there were, and how many calls failed
pub record GatedShelf : Type 0 where
  pub blobs : Blobs
  pub gets : ℕ
  pub kind : Kind
  pub nth : ℕ
  pub puts : ℕ
  pub faults : ℕ

abbrev pub coded_kind : Coded Kind
coded_kind = code_by ℕ coded_ℕ kind_rank kind_at kind_back

abbrev pub coded_gated : Coded GatedShelf
coded_gated = code_by (Blobs × (ℕ × (Kind × (ℕ × (ℕ × ℕ)))))
    (coded× coded_blobs (coded× coded_ℕ (coded× coded_kind (coded× coded_ℕ (coded× coded_ℕ coded_ℕ)))))
    (λ s. (s.blobs, (s.gets, (s.kind, (s.nth, (s.puts, s.faults))))))
    (λ p.
    record {
      blobs = p.0;
      gets = p.1.0;
      kind = p.1.1.0;
      nth = p.1.1.1.0;
      puts = p.1.1.1.1.0;
      faults = p.1.1.1.1.1;
    })
    (λ _. refl)

-- how many puts of its kind there were after one of this kind
abbrev pub puts_after : Kind → GatedShelf → ℕ
puts_after kind s = cond (kind_rank kind == kind_rank s.kind) (counted s.puts) s.puts

-- a put of this kind that comes now is the one that is guarded
pub record IsGuarded (s : GatedShelf) (kind : Kind) : Type 0 where
  pub same : kind ≡ s.kind
  pub number : counted s.puts ≡ s.nth
