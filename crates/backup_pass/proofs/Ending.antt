-- What a placer came to.
use Rattle.std.proofs.Common.{◌≡◌, ℕ, List, length, subst}
use Rattle.std.specs.Prelude.{option_to_list, Result, Ok, IfOk}
use Rattle.vault_types.specs.declared.Fp.{Fp}
use Rattle.vault_types.specs.declared.Memory.{Memory}
use Rattle.vault_types.specs.Names.{NamedChunk}
use Rattle.vault_types.specs.Tables.{Container}
use Rattle.vault_types.specs.Decide.{Rules, decide}
use Rattle.vault_types.specs.Fill.{fill}
use Rattle.fp_index.specs.Index.{found_in}
use Rattle.container_fill.specs.declared.filler.Filled.{Filled}
use Rattle.container_fill.specs.Filling.{IsFilledBy}

-- what an index that is the same gives
pub ended_as : (result : Result Filled Memory) (f : Filled) → result ≡ Ok f → (now old : List (Fp × List ℕ)) (r : Rules) (first : ℕ) (gone : List Container) (chunks : List NamedChunk) → now ≡ old
    → IfOk result (λ f. IsFilledBy (option_to_list f.last) f.rows f.next f.containers f.written first gone (length chunks) (fill first chunks (decide (found_in now) r chunks) r.config.container))
    → IsFilledBy (option_to_list f.last) f.rows f.next f.containers f.written first gone (length chunks) (fill first chunks (decide (found_in old) r chunks) r.config.container)
ended_as result f is now old r first gone chunks same filled =
    subst (λ (index : List (Fp × List ℕ)). IsFilledBy (option_to_list f.last) f.rows f.next f.containers f.written first gone (length chunks) (fill first chunks (decide (found_in index) r chunks) r.config.container)) same
    (subst (λ (q : Result Filled Memory). IfOk q (λ f. IsFilledBy (option_to_list f.last) f.rows f.next f.containers f.written first gone (length chunks) (fill first chunks (decide (found_in now) r chunks) r.config.container))) is filled)
