-- The plan of a restore, from the rule's.
use Rattle.std.proofs.Common.{◌≡◌, ◌<◌, ◌-◌, ◌^◌, ℕ, IsTrue, List, [], length, map, Option, sym, ap, subst, ◌∙◌}
use Rattle.std.specs.Prelude.{Contains}
use Rattle.vault_types.specs.declared.Spot.{Spot}
use Rattle.vault_types.specs.declared.Step.{Step}
use Rattle.vault_types.specs.declared.Whole.{Whole}
use Rattle.vault_types.specs.Plans.{requests, serves, loads, rule_plan, IsLeast}
use Rattle.vault_traits.specs.Told.{SinkTold}
use Rattle.restore_assembler.specs.Copying.{Copying, HasCopied}
use Rattle.restore_stage.specs.Assembling.{load_ids}
use Rattle.serial_restore.proofs.Loads.{loads_for}
use Rattle.restore_turns.specs.Started.{IsPlanOf}
use Rattle.restore_turns.proofs.Begins.{loads_asked}

pub is_plan : (spots : List Spot) (whole : Option Whole) (slots : ℕ) (ids : List ℕ) (c : Copying) (steps : List Step) (n : ℕ) → c.spots ≡ spots → c.steps ≡ steps → c.whole ≡ whole → c.done ≡ 0 → ((payloads : ℕ → List ℕ) (told : SinkTold) → HasCopied payloads told told c)
    → steps ≡ rule_plan slots [] (requests (map (λ q. q.id) spots)) → IsTrue (serves slots [] steps (requests (map (λ q. q.id) spots))) → n ≡ loads steps → IsLeast (requests (map (λ q. q.id) spots)) slots n
    → ids ≡ load_ids steps → length ids < 2 ^ 64 - 1 → IsPlanOf spots whole slots ids c
is_plan spots whole slots ids c steps n spots_are steps_are whole_is done copied rule served count least ids_are few = record {
  spots_are = spots_are;
  whole_is = whole_is;
  least = subst (λ (k : ℕ). IsLeast (requests (map (λ q. q.id) c.spots)) slots k) (count ∙ ap loads (sym steps_are)) (subst (λ (qs : List Spot). IsLeast (requests (map (λ q. q.id) qs)) slots n) (sym spots_are) least);
  served = subst (λ (ss : List Step). IsTrue (serves slots [] ss (requests (map (λ q. q.id) c.spots)))) (sym steps_are) (subst (λ (qs : List Spot). IsTrue (serves slots [] steps (requests (map (λ q. q.id) qs)))) (sym spots_are) served);
  done = done;
  copied = copied;
  ids_are = ids_are ∙ ap load_ids (sym steps_are);
  asked = λ id there. loads_asked (map (λ q. q.id) c.spots) c.steps (loads_for slots spots c steps spots_are steps_are rule) id (subst (λ (ns : List ℕ). Contains ns id) (ids_are ∙ ap load_ids (sym steps_are)) there);
  few = few;
}
