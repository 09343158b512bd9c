-- The derived order of names is `name_cmp`.
use Rattle.std.proofs.Common.{◌≡◌, ℕ, List, cond, Option, Vec, refl, ap, subst}
use Rattle.std.specs.declared.alloc.Global.{Global}
use Rattle.std.specs.declared.cmp.Ordering.{Ordering}
use Rattle.std.specs.Map.{lookup}
use Rattle.std.specs.BTreeMap.{is_at}
use Rattle.std.specs.BTreeSet.{BTreeSet, IsFromIterResult}
use Rattle.vault_ports.specs.Mem.{IsInOrder}
use Rattle.vault_types.specs.declared.Name.{Name}
use Rattle.vault_types.specs.declared.Kind.{Kind}
use Rattle.vault_types.specs.declared.Kind.TheVariants.{Table, Payload, Recipe, Floor}
use Rattle.vault_types.specs.contracts.NameOrd.TheImpl.{cmp-value}
use Rattle.vault_types.specs.Shelf.{name_cmp}
use Rattle.vault_ports.proofs.Overlaid.{Entries, Changed, found}

abbrev pub derived : Name → Name → Ordering
derived = cmp-value.it

by_kind : (a b : Kind) (m n : ℕ) → derived (record { kind = a; number = m }) (record { kind = b; number = n }) ≡ name_cmp (record { kind = a; number = m }) (record { kind = b; number = n })
by_kind Table Table m n = refl
by_kind Table Payload m n = refl
by_kind Table Recipe m n = refl
by_kind Table Floor m n = refl
by_kind Payload Table m n = refl
by_kind Payload Payload m n = refl
by_kind Payload Recipe m n = refl
by_kind Payload Floor m n = refl
by_kind Recipe Table m n = refl
by_kind Recipe Payload m n = refl
by_kind Recipe Recipe m n = refl
by_kind Recipe Floor m n = refl
by_kind Floor Table m n = refl
by_kind Floor Payload m n = refl
by_kind Floor Recipe m n = refl
by_kind Floor Floor m n = refl

pub derived_is : derived ≡ name_cmp
derived_is i a b = by_kind a.kind b.kind a.number b.number i

abbrev DerivedChange : (Name → Name → Ordering) → Entries → Entries → Name → Option (Vec ℕ Global) → Type 0
DerivedChange R es fs name w = (q : Name) → lookup (is_at (R q)) fs ≡ cond (is_at (R name) q) w (lookup (is_at (R q)) es)

pub changed : (es fs : Entries) (name : Name) (w : Option (Vec ℕ Global)) → DerivedChange derived es fs name w → Changed es fs name w
changed es fs name w change = subst (λ (R : Name → Name → Ordering). DerivedChange R es fs name w) derived_is change

pub found_is : (es : Entries) (q : Name) → lookup (is_at (derived q)) es ≡ found es q
found_is es q = ap (λ (R : Name → Name → Ordering). lookup (is_at (R q)) es) derived_is

pub ordered_by_name : (names : List Name) (s : BTreeSet Name) → IsFromIterResult derived names s → IsInOrder s.keys names
ordered_by_name names s made =
    let by : IsFromIterResult name_cmp names s = subst (λ (R : Name → Name → Ordering). IsFromIterResult R names s) derived_is made in
    record { sorted = by.1; same = by.0 }
