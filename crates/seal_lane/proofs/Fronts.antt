-- What came back begins what was given.
use Rattle.std.proofs.Common.{◌≡◌, List, ◌++◌, sym, ap, ◌∙◌, append_assoc}
use Rattle.vault_types.specs.Stages.{IsFront, IsLine}

pub comes_back : {X : Type 0} (given taken ready sent back : List X) → (left : List X) × IsLine given taken left → sent ++ ready ≡ taken → (left : List X) × IsLine sent back left → IsFront back given
comes_back given taken ready sent back near stage far =
    ((far.0 ++ ready) ++ near.0, sym (append_assoc back (far.0 ++ ready) near.0) ∙ ap (λ l. l ++ near.0) (sym (append_assoc back far.0 ready) ∙ ap (λ l. l ++ ready) far.1.same ∙ stage) ∙ near.1.same)
