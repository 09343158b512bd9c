-- Numbers that rise from answer to answer.
use Rattle.std.proofs.Common.{◌≡◌, ◌≤◌, ◌+◌, ℕ, zero, suc, ◌∙◌, add-zero, List, [], ◌∷◌, Option, Some, None, sym, ap, arith}
use Rattle.std.specs.List.{filter_map, cons_option}
use Rattle.vault_types.specs.declared.Answer.{Answer}
use Rattle.vault_traits.specs.Counts.{counted, counted_up, Rose, RiseFrom}

rose_lower : (a b n : ℕ) → a ≤ b → Rose b n → Rose a n
rose_lower a b n le rose = omega arith

-- from a lower count on
pub rise_lower : (a b c : ℕ) (ns : List ℕ) → a ≤ b → RiseFrom b ns c → RiseFrom a ns c
rise_lower a b c [] le rise = omega arith
rise_lower a b c (n ∷ ns) le rise = (rose_lower a b n le rise.0, rise.1)

rise_option : (o : Option ℕ) (a b c : ℕ) (ns : List ℕ) → RiseFrom a (cons_option o []) b → RiseFrom b ns c → RiseFrom a (cons_option o ns) c
rise_option None a b c ns first rest = rise_lower a b c ns first rest
rise_option (Some n) a b c ns first rest = (first.0, rise_lower n b c ns first.1 rest)

-- one answer more in front
pub rise_more : (number : Answer → Option ℕ) (a b c : ℕ) (answer : Answer) (answers : List Answer) → RiseFrom a (filter_map number (answer ∷ [])) b
    → RiseFrom b (filter_map number answers) c → RiseFrom a (filter_map number (answer ∷ answers)) c
rise_more number a b c answer answers first rest = rise_option (number answer) a b c (filter_map number answers) first rest

pub counted_up_twice : (a n m : ℕ) → counted_up (counted_up a n) m ≡ counted_up a (n + m)
counted_up_twice a n zero = ap (counted_up a) (sym (add-zero n))
counted_up_twice a n (suc m) = ap counted (counted_up_twice a n m) ∙ ap (counted_up a) (sym (plus_suc n m))
  where
    plus_suc : (n m : ℕ) → n + suc m ≡ suc (n + m)
    plus_suc n m = omega arith
