use Rattle.std.proofs.Common.{◌≡◌, [], ◌∷◌, ◌++◌, ap, ◌∙◌}
use Rattle.vault_types.specs.Tables.{table_row}
use Rattle.container_fill.proofs.OpenLemmas.{open-one}
use Rattle.container_fill.proofs.open.Open.start.Goals as goal

pub invariant_of-result : goal.invariant_of-result
invariant_of-result c =
    let rows : c.push.new.self.items ≡ table_row c.args.chunk.now ∷ [] = c.in_ok-push.ensures.items ∙ ap (λ rs. rs ++ c.row_of.result ∷ []) c.new-rows.ensures.items ∙ ap (λ r. r ∷ []) c.row_of.ensures in
    let payload : c.extend_from_slice.new.self.items ≡ c.args.chunk.now =
    c.in_ok-extend_from_slice.ensures.items ∙ ap (λ b. b ++ c.bytes-bytes.result.now) c.in_ok-payload.ensures.items ∙ c.bytes-bytes.ensures.bytes in
    rw (rows, payload) (open-one c.args.chunk.now c.bytes-bytes.ensures.some c.bytes-bytes.ensures.most)
