-- One map laid over another.
use Rattle.std.proofs.Common.{◌≡◌, ◌≢◌, ◌⊎◌, inl, inr, ℕ, List, [], ◌∷◌, ◌++◌, Bool, true, false, cond, Option, Some, None, Vec, refl, sym, ◌∙◌, ap, map}
use Rattle.std.specs.declared.alloc.Global.{Global}
use Rattle.std.specs.Option.{option_map, option_or}
use Rattle.std.specs.Map.{lookup}
use Rattle.std.specs.List.{AllZip}
use Rattle.std.specs.BTreeMap.{is_at}
use Rattle.std.specs.Ordering.{eq_by_cmp}
use Rattle.std.specs.Cmp.{eq_by_cmp_equiv}
use Rattle.std.specs.FinMap.{get, get-empty, get-entries, get-from_entries, find, entries, empty}
use Rattle.vault_types.specs.declared.Name.{Name}
use Rattle.vault_types.specs.Shelf.{Blobs, name_cmp, with_blob, floor_name}
use Rattle.vault_traits.specs.Shelf.{IsWritten, MayBeWritten}
use Rattle.vault_traits.proofs.Maps.{names_total, get-with_blob, same_blobs, is_or_not, get_other, get_is}
use Rattle.vault_types.specs.declared.Kind.TheVariants.{Floor}
use Rattle.vault_ports.specs.Mem.{blobs_of, overlaid, HasOnlyFloors}

find_either : (es fs : List (Name × List ℕ)) (q : Name) → find name_cmp q (es ++ fs) ≡ option_or (find name_cmp q es) (find name_cmp q fs)
find_either [] fs q = refl
find_either (e ∷ es) fs q = ap (cond (eq_by_cmp name_cmp q e.0) (Some e.1)) (find_either es fs q) ∙ choose (eq_by_cmp name_cmp q e.0)
  where
    choose : (t : Bool) → cond t (Some e.1) (option_or (find name_cmp q es) (find name_cmp q fs)) ≡ option_or (cond t (Some e.1) (find name_cmp q es)) (find name_cmp q fs)
    choose true = refl
    choose false = refl

pub get-overlaid : (over under : Blobs) (q : Name) → get (overlaid over under) q ≡ option_or (get over q) (get under q)
get-overlaid over under q = get-from_entries names_total (entries over ++ entries under) q ∙ find_either (entries over) (entries under) q
    ∙ ap (λ (o : Option (List ℕ)). option_or o (find name_cmp q (entries under))) (sym (get-entries over q)) ∙ ap (option_or (get over q)) (sym (get-entries under q))

pub overlaid_none : (under : Blobs) → overlaid empty under ≡ under
overlaid_none under = same_blobs _ _ (λ q. get-overlaid empty under q ∙ ap (λ (o : Option (List ℕ)). option_or o (get under q)) (get-empty name_cmp q))

-- a write above
pub write_over : (over under : Blobs) (name : Name) (bytes : List ℕ) → overlaid (with_blob over name (Some bytes)) under ≡ with_blob (overlaid over under) name (Some bytes)
write_over over under name bytes = same_blobs _ _ (λ q. get-overlaid (with_blob over name (Some bytes)) under q
    ∙ ap (λ (o : Option (List ℕ)). option_or o (get under q)) (get-with_blob over name (Some bytes) q)
    ∙ choose (eq_by_cmp name_cmp q name) (get over q) (get under q)
    ∙ sym (get-with_blob (overlaid over under) name (Some bytes) q ∙ ap (cond (eq_by_cmp name_cmp q name) (Some bytes)) (get-overlaid over under q)))
  where
    choose : (t : Bool) (x y : Option (List ℕ)) → option_or (cond t (Some bytes) x) y ≡ cond t (Some bytes) (option_or x y)
    choose true x y = refl
    choose false x y = refl

-- a write below, of a name that isn't above
pub write_under : (over under : Blobs) (name : Name) (bytes : Option (List ℕ)) → get over name ≡ None → overlaid over (with_blob under name bytes) ≡ with_blob (overlaid over under) name bytes
write_under over under name bytes none = same_blobs _ _ (λ q. get-overlaid over (with_blob under name bytes) q
    ∙ at q (is_or_not q name) ∙ sym (ap (λ (o : Option (List ℕ)). o) refl))
  where
    at : (q : Name) → (q ≡ name) ⊎ (q ≢ name) → option_or (get over q) (get (with_blob under name bytes) q) ≡ get (with_blob (overlaid over under) name bytes) q
    at q (inl is) = ap (λ (o : Option (List ℕ)). option_or o (get (with_blob under name bytes) q)) (ap (get over) is ∙ none) ∙ get_is under name bytes q is ∙ sym (get_is (overlaid over under) name bytes q is)
    at q (inr other) = ap (option_or (get over q)) (get_other under name bytes q other) ∙ sym (get-overlaid over under q) ∙ sym (get_other (overlaid over under) name bytes q other)

-- a name that is taken out of both
pub taken_out : (over under : Blobs) (name : Name) → overlaid (with_blob over name None) (with_blob under name None) ≡ with_blob (overlaid over under) name None
taken_out over under name = same_blobs _ _ (λ q. get-overlaid (with_blob over name None) (with_blob under name None) q ∙ at q (is_or_not q name))
  where
    at : (q : Name) → (q ≡ name) ⊎ (q ≢ name) → option_or (get (with_blob over name None) q) (get (with_blob under name None) q) ≡ get (with_blob (overlaid over under) name None) q
    at q (inl is) = ap (λ (o : Option (List ℕ)). option_or o (get (with_blob under name None) q)) (get_is over name None q is) ∙ get_is under name None q is ∙ sym (get_is (overlaid over under) name None q is)
    at q (inr other) = ap (λ (o : Option (List ℕ)). option_or o (get (with_blob under name None) q)) (get_other over name None q other) ∙ ap (option_or (get over q)) (get_other under name None q other) ∙ sym (get-overlaid over under q) ∙ sym (get_other (overlaid over under) name None q other)

-- ---- of a tree

abbrev pub Entries : Type 0
Entries = List (Name × Vec ℕ Global)

abbrev pub bytes_in : Option (Vec ℕ Global) → Option (List ℕ)
bytes_in o = option_map (λ v. v.items) o

abbrev pub found : Entries → Name → Option (Vec ℕ Global)
found es q = lookup (is_at (name_cmp q)) es

-- the entries differ at one name
abbrev pub Changed : Entries → Entries → Name → Option (Vec ℕ Global) → Type 0
Changed es fs name w = (q : Name) → found fs q ≡ cond (is_at (name_cmp name) q) w (found es q)

map_cond : (b : Bool) (x y : Option (Vec ℕ Global)) → bytes_in (cond b x y) ≡ cond b (bytes_in x) (bytes_in y)
map_cond true x y = refl
map_cond false x y = refl

pub get-blobs_of : (es : Entries) (q : Name) → get (blobs_of es) q ≡ bytes_in (found es q)
get-blobs_of es q = get-from_entries names_total (map (λ (e : Name × Vec ℕ Global). (e.0, e.1.items)) es) q ∙ each es
  where
    each : (es : Entries) → find name_cmp q (map (λ (e : Name × Vec ℕ Global). (e.0, e.1.items)) es) ≡ bytes_in (found es q)
    each [] = refl
    each (e ∷ es) = ap (cond (eq_by_cmp name_cmp q e.0) (Some e.1.items)) (each es) ∙ sym (map_cond (eq_by_cmp name_cmp q e.0) (Some e.1) (found es q))

-- entries that differ at one name make maps that differ there
pub tree_written : (es fs : Entries) (name : Name) (w : Option (Vec ℕ Global)) → Changed es fs name w → blobs_of fs ≡ with_blob (blobs_of es) name (bytes_in w)
tree_written es fs name w h = same_blobs _ _ (λ q.
    get-blobs_of fs q ∙ ap bytes_in (h q) ∙ map_cond (is_at (name_cmp name) q) w (found es q)
    ∙ ap (λ (b : Bool). cond b (bytes_in w) (bytes_in (found es q))) ((eq_by_cmp_equiv names_total).symm name q)
    ∙ sym (get-with_blob (blobs_of es) name (bytes_in w) q ∙ ap (cond (eq_by_cmp name_cmp q name) (bytes_in w)) (get-blobs_of es q)))

-- ---- what a shelf is made of

pub only_floors_none : (m : Blobs) → m ≡ empty → HasOnlyFloors m
only_floors_none m is q other = ap (λ (b : Blobs). get b q) is ∙ get-empty name_cmp q

pub nothing : (floors : Blobs) (es : Entries) → floors ≡ empty → es ≡ [] → overlaid floors (blobs_of es) ≡ empty
nothing floors es none gone = ap (λ (f : Blobs). overlaid f (blobs_of es)) none ∙ overlaid_none (blobs_of es) ∙ ap blobs_of gone

pub of_tree : (floors : Blobs) (es fs : Entries) → floors ≡ empty → blobs_of es ≡ blobs_of fs → overlaid floors (blobs_of es) ≡ blobs_of fs
of_tree floors es fs none same = ap (λ (f : Blobs). overlaid f (blobs_of es)) none ∙ overlaid_none (blobs_of es) ∙ same

-- a floor that is set or taken out leaves only floors
pub only_floors_with : (m : Blobs) (name : Name) (bytes : Option (List ℕ)) → HasOnlyFloors m → (name.kind ≢ Floor → bytes ≡ None) → HasOnlyFloors (with_blob m name bytes)
only_floors_with m name bytes only not q other = at (is_or_not q name)
  where
    at : (q ≡ name) ⊎ (q ≢ name) → get (with_blob m name bytes) q ≡ None
    at (inl is) = get_is m name bytes q is ∙ not (λ k. other (ap (λ (n : Name). n.kind) is ∙ k))
    at (inr apart) = get_other m name bytes q apart ∙ only q other

pub only_floors_put : (m : Blobs) (s : ℕ) (bytes : List ℕ) → HasOnlyFloors m → HasOnlyFloors (with_blob m (floor_name s) (Some bytes))
only_floors_put m s bytes only = only_floors_with m (floor_name s) (Some bytes) only (λ other. absurd (other refl))

pub only_floors_removed : (m : Blobs) (name : Name) → HasOnlyFloors m → HasOnlyFloors (with_blob m name None)
only_floors_removed m name only = only_floors_with m name None only (λ _. refl)

-- what is under a name
pub over_found : (over under m : Blobs) (q : Name) (bytes : List ℕ) → overlaid over under ≡ m → Some bytes ≡ get over q → Some bytes ≡ get m q
over_found over under m q bytes is found = sym (ap (λ (b : Blobs). get b q) (sym is) ∙ get-overlaid over under q ∙ ap (λ (o : Option (List ℕ)). option_or o (get under q)) (sym found))

pub under_found : (over : Blobs) (es : Entries) (m : Blobs) (q : Name) (o : Option (Vec ℕ Global)) → overlaid over (blobs_of es) ≡ m → None ≡ get over q → o ≡ found es q → bytes_in o ≡ get m q
under_found over es m q o is none found_is = sym (ap (λ (b : Blobs). get b q) (sym is) ∙ get-overlaid over (blobs_of es) q
    ∙ ap (λ (o : Option (List ℕ)). option_or o (get (blobs_of es) q)) (sym none) ∙ get-blobs_of es q ∙ ap bytes_in (sym found_is))

-- a shelf that tells no steps
pub told_written : (m after : Blobs) (name : Name) (bytes : Option (List ℕ)) → after ≡ with_blob m name bytes → IsWritten (Some m) (Some after) None None name bytes
told_written m after name bytes is = record { blobs = ap (λ (b : Blobs). Some b) is; history = refl }

pub told_may : (m after : Blobs) (name : Name) (bytes : Option (List ℕ)) → after ≡ with_blob m name bytes → MayBeWritten (Some m) (Some after) None None name bytes
told_may m after name bytes is = record { blobs = inr (ap (λ (b : Blobs). Some b) is); history = inl refl }

-- the calls of a shelf
pub put_is : (floors : Blobs) (es fs : Entries) (m : Blobs) (name : Name) (w : Vec ℕ Global) → HasOnlyFloors floors → name.kind ≢ Floor → overlaid floors (blobs_of es) ≡ m → Changed es fs name (Some w) → overlaid floors (blobs_of fs) ≡ with_blob m name (Some w.items)
put_is floors es fs m name w only other is changed = ap (overlaid floors) (tree_written es fs name (Some w) changed) ∙ write_under floors (blobs_of es) name (Some w.items) (only name other) ∙ ap (λ (b : Blobs). with_blob b name (Some w.items)) is

pub floor_is : (floors next : Blobs) (es : Entries) (m : Blobs) (name : Name) (bytes : List ℕ) → overlaid floors (blobs_of es) ≡ m → next ≡ with_blob floors name (Some bytes) → overlaid next (blobs_of es) ≡ with_blob m name (Some bytes)
floor_is floors next es m name bytes is new = ap (λ (b : Blobs). overlaid b (blobs_of es)) new ∙ write_over floors (blobs_of es) name bytes ∙ ap (λ (b : Blobs). with_blob b name (Some bytes)) is

pub removed_is : (floors next : Blobs) (es fs : Entries) (m : Blobs) (name : Name) → overlaid floors (blobs_of es) ≡ m → next ≡ with_blob floors name None → Changed es fs name None → overlaid next (blobs_of fs) ≡ with_blob m name None
removed_is floors next es fs m name is new changed = ap (λ (b : Blobs). overlaid b (blobs_of fs)) new ∙ ap (overlaid (with_blob floors name None)) (tree_written es fs name None changed) ∙ taken_out floors (blobs_of es) name ∙ ap (λ (b : Blobs). with_blob b name None) is

-- ---- a shelf from a list

-- entries put over a map, the last of them first
abbrev pub over_all : Entries → Blobs → Blobs
over_all [] m = m
over_all (e ∷ es) m = with_blob (over_all es m) e.0 (Some e.1.items)

pub over_nothing : (es : Entries) → over_all es empty ≡ blobs_of es
over_nothing [] = refl
over_nothing (e ∷ es) = ap (λ (m : Blobs). with_blob m e.0 (Some e.1.items)) (over_nothing es)

pub over_push : (es : Entries) (e : Name × Vec ℕ Global) (m : Blobs) → over_all (es ++ e ∷ []) m ≡ over_all es (with_blob m e.0 (Some e.1.items))
over_push [] e m = refl
over_push (x ∷ es) e m = ap (λ (b : Blobs). with_blob b x.0 (Some x.1.items)) (over_push es e m)

pub over_next : (rest next es fs : Entries) (name : Name) (bytes : Vec ℕ Global) (m : Blobs) → rest ≡ next ++ (name, bytes) ∷ [] → Changed es fs name (Some bytes) → over_all rest (blobs_of es) ≡ m → over_all next (blobs_of fs) ≡ m
over_next rest next es fs name bytes m popped changed is =
    ap (over_all next) (tree_written es fs name (Some bytes) changed) ∙ sym (over_push next (name, bytes) (blobs_of es)) ∙ ap (λ (l : Entries). over_all l (blobs_of es)) (sym popped) ∙ is

-- ---- a clone

pub all_same : {X : Type 0} (C : X → X → Type 0) → ((x y : X) → C x y → y ≡ x) → (xs ys : List X) → AllZip C xs ys → ys ≡ xs
all_same C same [] [] all = refl
all_same C same [] (y ∷ ys) all = absurd all
all_same C same (x ∷ xs) [] all = absurd all
all_same C same (x ∷ xs) (y ∷ ys) all = λ i. same x y all.0 i ∷ all_same C same xs ys all.1 i

pub clone_blobs : (C : Name → Name → Type 0) (D : Vec ℕ Global → Vec ℕ Global → Type 0) → ((x y : Name) → C x y → y ≡ x) → ((v w : Vec ℕ Global) → D v w → w.items ≡ v.items) → (es fs : Entries) → AllZip (λ p q. C p.0 q.0 × D p.1 q.1) es fs → blobs_of fs ≡ blobs_of es
clone_blobs C D same_key same_items [] [] all = refl
clone_blobs C D same_key same_items [] (f ∷ fs) all = absurd all
clone_blobs C D same_key same_items (e ∷ es) [] all = absurd all
clone_blobs C D same_key same_items (e ∷ es) (f ∷ fs) all =
    ap (λ (m : Blobs). with_blob m f.0 (Some f.1.items)) (clone_blobs C D same_key same_items es fs all.1)
    ∙ ap (λ (n : Name). with_blob (blobs_of es) n (Some f.1.items)) (same_key e.0 f.0 all.0.0)
    ∙ ap (λ (l : List ℕ). with_blob (blobs_of es) e.0 (Some l)) (same_items e.1 f.1 all.0.1)
