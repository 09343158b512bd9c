-- What the planner keeps of the present containers, each with the place of its next request.
use Rattle.std.specs.Prelude.{ℕ, ◌==◌, ◌||◌, ◌&&◌, nat_lt, Bool, List, [], ◌∷◌, map, length, ◌++◌, if◌then◌else◌}
use Rattle.std.specs.List.{best_of, list_any}
use Rattle.vault_types.specs.declared.Step.{Step}
use Rattle.vault_types.specs.declared.Step.TheVariants.{Load, Evict, Serve}
use Rattle.belady_cache.specs.declared.present.Held.{Held}

abbrev pub ids_of : List Held → List ℕ
ids_of present = map (λ h. h.id) present

-- whether a goes rather than b: it is requested later, or as late and its id is lower
abbrev pub is_farther : Held → Held → Bool
is_farther a b = nat_lt b.next a.next || ((a.next == b.next) && nat_lt a.id b.id)

-- the one that is requested last
abbrev pub farthest_of : List Held → ℕ
farthest_of [] = 0
farthest_of (h ∷ present) = (best_of is_farther h present).id

abbrev pub is_present : ℕ → List Held → Bool
is_present id present = list_any (λ h. h.id == id) present

-- with new in the slot of an id
abbrev pub replaced : ℕ → Held → List Held → List Held
replaced id new present = map (λ h. if h.id == id then new else h) present

-- with new in a free slot, or else in that of the one that is requested last, and the steps to this
abbrev pub with_slot : ℕ → Held → List Held → List Held
with_slot slots new present =
    if nat_lt (length present) slots then present ++ new ∷ [] else replaced (farthest_of present) new present

abbrev pub steps_to_load : ℕ → ℕ → List Held → List Step
steps_to_load slots id present =
    if nat_lt (length present) slots then Load id ∷ [] else Evict (farthest_of present) ∷ Load id ∷ []

-- what is present once a request is served, and the steps to this
abbrev pub present_after : ℕ → Held → List Held → List Held
present_after slots new present =
    if is_present new.id present then replaced new.id new present
    else with_slot slots new (replaced new.id new present)

abbrev pub steps_of : ℕ → Held → List Held → List Step
steps_of slots new present =
    (if is_present new.id present then [] else steps_to_load slots new.id (replaced new.id new present))
    ++ Serve ∷ []
