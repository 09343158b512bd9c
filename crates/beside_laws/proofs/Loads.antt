-- How many payloads the running restores and the lines that are left get together.
use Rattle.std.proofs.Common.{◌≡◌, ◌+◌, ℕ, List, [], ◌∷◌, ◌++◌, Option, sym, subst, arith}
use Rattle.vault_types.specs.State.{State}
use Rattle.vault_types.specs.Events.{Change}
use Rattle.store_model.specs.Leaves.{Gets}
use Rattle.beside_laws.specs.Running.{Running, line_of}
use Rattle.beside_laws.specs.Steps.{GetsMore}

-- it has got so many payloads more, and has met this number
abbrev pub gone_on : {K : Type 0} → Running K → ℕ → Option ℕ → Running K
gone_on p n met = record { from = p.from; set = p.set; version = p.version; name = p.name; cache = p.cache; got = p.got + n; met = met; answer = p.answer }

module _ {K : Type 0} (keeps : K → State → Option Change → Type 0) where
  -- n is what the running restores get from now on, with what the others get
  abbrev pub Shares : List (Running K) → ℕ → (ℕ → Type 0) → Type 0
  Shares [] n Rest = Rest n
  Shares (p ∷ P) n Rest = (r k : ℕ) × GetsMore keeps p r × Shares P k Rest × (n ≡ r + k)

  pub shares_front : (P : List (Running K)) (n m : ℕ) (Rest More : ℕ → Type 0) → ((k : ℕ) → Rest k → More (n + k)) → Shares P m Rest → Shares P (n + m) More
  shares_front [] n m Rest More f h = f m h
  shares_front (p ∷ P) n m Rest More f h = (h.0, n + h.1, h.2, shares_front P n h.1 Rest More f h.3, omega (arith, h.4))

  pub shares_begin : (first : List (Running K)) (p : Running K) (later : List (Running K)) (n : ℕ) (Rest More : ℕ → Type 0) → ((r k : ℕ) → GetsMore keeps p r → Rest k → More (r + k))
      → Shares (first ++ p ∷ later) n Rest → Shares (first ++ later) n More
  shares_begin [] p later n Rest More f h = subst (λ (m : ℕ). Shares later m More) (sym h.4) (shares_front later h.0 h.1 Rest More (λ j rest. f h.0 j h.2 rest) h.3)
  shares_begin (a ∷ first) p later n Rest More f h = (h.0, h.1, h.2, shares_begin first p later h.1 Rest More f h.3, h.4)

  pub shares_went : (first : List (Running K)) (p : Running K) (later : List (Running K)) (c : ℕ) (met : Option ℕ) (n : ℕ) (Rest : ℕ → Type 0) → Shares (first ++ gone_on p c met ∷ later) n Rest → Shares (first ++ p ∷ later) (c + n) Rest
  shares_went [] p later c met n Rest h = (
    c + h.0,
    h.1,
    λ S other keep. subst (λ (m : ℕ). Gets S (line_of p) p.answer m) (again p.got h.0) (h.2 S other keep),
    h.3,
    omega (arith, h.4),
  )
    where
      again : (a b : ℕ) → (a + c) + b ≡ a + (c + b)
      again a b = omega arith
  shares_went (a ∷ first) p later c met n Rest h = (h.0, c + h.1, h.2, shares_went first p later c met h.1 Rest h.3, omega (arith, h.4))

  pub shares_end : (first : List (Running K)) (p : Running K) (later : List (Running K)) (n : ℕ) (Rest : ℕ → Type 0) → GetsMore keeps p 0 → Shares (first ++ later) n Rest → Shares (first ++ p ∷ later) n Rest
  shares_end [] p later n Rest none h = (0, n, none, h, omega arith)
  shares_end (a ∷ first) p later n Rest none h = (h.0, h.1, h.2, shares_end first p later h.1 Rest none h.3, h.4)
