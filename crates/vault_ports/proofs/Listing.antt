-- The names of a shelf in memory, in order.
use Rattle.std.proofs.Common.{◌≡◌, ℕ, List, Bool, ◌||◌, Option, Some, None, Vec, refl, sym, ◌∙◌, ap, subst}
use Rattle.std.specs.Prelude.{is_some}
use Rattle.std.specs.declared.alloc.Global.{Global}
use Rattle.std.specs.Option.{option_or}
use Rattle.std.specs.Set.{is_member}
use Rattle.std.specs.Map.{lookup}
use Rattle.std.specs.Ordering.{eq_by_cmp}
use Rattle.std.specs.declared.cmp.Ordering.{Ordering}
use Rattle.std.specs.BTreeMap.{is_at}
use Rattle.std.specs.FinMap.{get, contains_key}
use Rattle.vault_types.specs.declared.Name.{Name}
use Rattle.vault_types.specs.Shelf.{Blobs, name_cmp}
use Rattle.vault_traits.specs.Shelf.{IsListing}
use Rattle.vault_ports.specs.Mem.{blobs_of, overlaid, IsInOrder}
use Rattle.vault_ports.proofs.Overlaid.{Entries, found, bytes_in, get-blobs_of, get-overlaid}
use Rattle.vault_ports.proofs.Derived.{derived, derived_is}

abbrev pub AreKeys : (Name → Name → Ordering) → Entries → List Name → Type 0
AreKeys R es ks = (q : Name) → is_some (lookup (is_at (R q)) es) ≡ is_member (eq_by_cmp R) ks q

abbrev pub ArePushed : Blobs → List Name → List Name → Type 0
ArePushed over ks names = (q : Name) → is_member (eq_by_cmp name_cmp) names q ≡ (is_member (eq_by_cmp name_cmp) ks q || contains_key over q)

is_some_bytes : (o : Option (Vec ℕ Global)) → is_some (bytes_in o) ≡ is_some o
is_some_bytes None = refl
is_some_bytes (Some v) = refl

either : (x y : Option (List ℕ)) → (is_some y || is_some x) ≡ is_some (option_or x y)
either None None = refl
either None (Some y) = refl
either (Some x) None = refl
either (Some x) (Some y) = refl

pub listing : (over : Blobs) (es : Entries) (ks names ordered : List Name) (m : Blobs) → AreKeys derived es ks → ArePushed over ks names → overlaid over (blobs_of es) ≡ m → IsInOrder ordered names → IsListing m ordered
listing over es ks names ordered m keys pushed is in_order = record {
  sorted = in_order.sorted;
  exact = λ q. in_order.same q ∙ pushed q
      ∙ ap (λ (b : Bool). b || contains_key over q) (sym (by_name q) ∙ sym (is_some_bytes (found es q)) ∙ sym (ap is_some (get-blobs_of es q)))
      ∙ either (get over q) (get (blobs_of es) q) ∙ ap is_some (sym (get-overlaid over (blobs_of es) q) ∙ ap (λ (b : Blobs). get b q) is);
}
  where
    by_name : AreKeys name_cmp es ks
    by_name = subst (λ (R : Name → Name → Ordering). AreKeys R es ks) derived_is keys
