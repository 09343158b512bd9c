use Rattle.std.proofs.Common.{ℕ, List, [], Option, None, subst}
use Rattle.std.specs.Option.{option_map_or}
use Rattle.vault_types.specs.Texts.{damage_text}
use Rattle.vault_traits.proofs.Written.{takes_nothing}
use Rattle.store_model.specs.World.{IsPrinted}
use Rattle.scrub_runner.proofs.printing.print_bad.Goals as goal

pub returns-in-None-clause-printed : goal.returns-in-None-clause-printed
returns-in-None-clause-printed g c =
    let told = g.O.Sink.told c.args.out.now in
    subst (λ (o : Option (List ℕ)). IsPrinted (option_map_or (damage_text c.args.bad.now.id) o []) told told None) c.in-None.ensures (takes_nothing told.taken)

pub returns-in-Some-clause-printed : goal.returns-in-Some-clause-printed
returns-in-Some-clause-printed g c =
    subst (λ (o : Option (List ℕ)). IsPrinted (option_map_or (damage_text c.args.bad.now.id) o []) (g.O.Sink.told c.args.out.now) (g.O.Sink.told c.print_damage.new.out) c.print_damage.result) c.in-Some.ensures c.print_damage.ensures.printed
