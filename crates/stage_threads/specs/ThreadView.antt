-- What contracts see of a stage with its thread: the stage that was handed in, and the stage as it
-- is now if it is kept.
use Rattle.std.specs.Prelude.{Option, refl}
use Rattle.std.specs.Coded.{Coded, code_by, coded×, coded_option}

pub record ThreadView (S : Type 0) : Type 0 where
  pub first : S
  pub kept : Option S

abbrev pub view_code : {S : Type 0} → Coded S → Coded (ThreadView S)
view_code {S} c =
    code_by (S × Option S) (coded× c (coded_option c)) (λ t. (t.first, t.kept))
    (λ p. record { first = p.0; kept = p.1 }) (λ _. refl)
