use Rattle.std.proofs.Common.{refl}
use Rattle.restore_turns.proofs.Turns.{turn_asks, turn_gives, turn_fails}
use Rattle.restore_turns.proofs.a_load_goes_on_with_a_restore.Goals as goal

pub returns-clause-asks : goal.returns-clause-asks
returns-clause-asks c = λ u v number spots loads got met sent id more e going next. turn_asks u v v number spots loads got met sent e going id more next

pub returns-clause-gives : goal.returns-clause-gives
returns-clause-gives c = λ u v w number spots loads got met sent more p e going next stays given whole. turn_gives u v w number spots loads got met sent e going p.id more next stays p refl given whole

pub returns-clause-fails : goal.returns-clause-fails
returns-clause-fails c = λ u v w number spots loads got met sent id more f e going next stays cause. turn_fails u v w number spots loads got met sent e going id more next stays f cause
