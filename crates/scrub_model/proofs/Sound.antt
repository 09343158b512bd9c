-- In a sound state nothing is damaged.
use Rattle.std.proofs.Common.{◌≡◌, Bool, not, cond, List, [], ◌∷◌, refl, ap, ◌∙◌}
use Rattle.std.specs.List.{AllByRecursion}
use Rattle.vault_types.specs.Tables.{Container}
use Rattle.vault_types.specs.State.{State}
use Rattle.vault_types.specs.Bytes.{HasPayload, IsSound}
use Rattle.payload_health.specs.Findings.{health_in, bad_in}
use Rattle.payload_health.proofs.Whole.{good_where_whole}

all_good : (cs : List Container) → AllByRecursion HasPayload cs → bad_in cs ≡ []
all_good [] whole = refl
all_good (c ∷ cs) whole =
    ap (λ (b : Bool). cond (not b) (health_in c ∷ bad_in cs) (bad_in cs)) ((good_where_whole c.table c.payload).1 whole.0)
    ∙ all_good cs whole.1

pub sound_good : (S : State) → IsSound S → bad_in S.containers ≡ []
sound_good S sound = all_good S.containers sound.payloads
