-- Numbers that rise in script order rise in some order.
use Rattle.std.proofs.Common.{◌≤◌, ℕ, List, [], ◌∷◌, Option, Some, None, arith}
use Rattle.std.specs.List.{filter_map, cons_option}
use Rattle.std.proofs.lemmas.List.Sorted.{IsPermutation-refl}
use Rattle.vault_types.specs.declared.Answer.{Answer}
use Rattle.vault_types.specs.declared.Line.{Line}
use Rattle.vault_types.specs.declared.Line.TheVariants.{Backup, Restore, Delete}
use Rattle.vault_traits.specs.Counts.{RiseFrom}
use Rattle.store_model.specs.Causes.{Counts, CausesRise, AnswersHaveCauses, RiseInSomeOrder, answers_of_changes, store_number}
use Rattle.script_laws.proofs.Rising.{rise_lower}

-- in script order they rise in some order, too
onto : (o : Option ℕ) (a b : ℕ) (xs ys : List ℕ) → ((c : ℕ) → RiseFrom c xs b → RiseFrom c ys b) → RiseFrom a (cons_option o xs) b → RiseFrom a (cons_option o ys) b
onto None a b xs ys f rise = f a rise
onto (Some n) a b xs ys f rise = (rise.0, f n rise.1)

off : (o : Option ℕ) (c b : ℕ) (xs : List ℕ) → RiseFrom c (cons_option o xs) b → RiseFrom c xs b
off None c b xs rise = rise
off (Some n) c b xs rise = rise_lower c n b xs (omega (arith, rise.0)) rise.1

some_order : (a b : ℕ) (ns : List ℕ) → RiseFrom a ns b → RiseInSomeOrder a ns b
some_order a b ns rise = (ns, IsPermutation-refl ns, rise)

all_later : (ns : List ℕ) (a b : ℕ) → RiseFrom a ns b → a ≤ b
all_later [] a b rise = rise
all_later (n ∷ ns) a b rise = let rest = all_later ns n b rise.1 in omega (arith, rise.0, rest)

changes_in_order : (lines : List Line) (answers : List Answer) (a b : ℕ) → RiseFrom a (filter_map store_number answers) b → RiseFrom a (filter_map store_number (answers_of_changes lines answers)) b
changes_in_order [] answers a b rise = all_later _ a b rise
changes_in_order (line ∷ lines) [] a b rise = rise
changes_in_order (Backup s name config ∷ lines) (answer ∷ answers) a b rise = onto (store_number answer) a b _ _ (λ c. changes_in_order lines answers c b) rise
changes_in_order (Restore s v name cache ∷ lines) (answer ∷ answers) a b rise = changes_in_order lines answers a b (off (store_number answer) a b _ rise)
changes_in_order (Delete s n ∷ lines) (answer ∷ answers) a b rise = onto (store_number answer) a b _ _ (λ c. changes_in_order lines answers c b) rise

pub causes_in_order : (old new : Counts) (lines : List Line) (answers : List Answer) → CausesRise old new answers → AnswersHaveCauses old new lines answers
causes_in_order old new lines answers c = record {
  store = some_order old.store new.store _ c.store;
  place = some_order old.place new.place _ c.place;
  read = some_order old.read new.read _ c.read;
  write = some_order old.write new.write _ c.write;
  changes = changes_in_order lines answers old.store new.store c.store;
}
