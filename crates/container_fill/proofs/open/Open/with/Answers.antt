use Rattle.std.proofs.Common.{◌≡◌, ◌≤◌, ◌+◌, length, false, map, List, ℕ, [], ◌∷◌, ◌++◌, ap, ◌∙◌, sym, subst}
use Rattle.std.specs.List.{list_any}
use Rattle.vault_types.specs.Names.{fp, same_fp}
use Rattle.vault_types.specs.Tables.{table_row}
use Rattle.vault_types.specs.Bytes.{chunks_of_rows}
use Rattle.container_fill.specs.Opened.{IsOpen, bytes_in}
use Rattle.container_fill.proofs.OpenLemmas.{open-more, seen-more}
use Rattle.container_fill.proofs.open.Open.with.Goals as goal

rows : (c : goal.In_ok-extend_from_slice) → c.push.new.self.items ≡ c.self.inside.rows.items ++ table_row c.args.chunk.now ∷ []
rows c = c.in_ok-push.ensures.items ∙ ap (λ r. c.self.inside.rows.items ++ r ∷ []) c.row_of.ensures

payload : (c : goal.In_ok-extend_from_slice) → c.extend_from_slice.new.self.items ≡ c.self.inside.payload.items ++ c.args.chunk.now
payload c = c.in_ok-extend_from_slice.ensures.items ∙ ap (λ b. c.self.inside.payload.items ++ b) c.bytes.ensures.bytes

more : (c : goal.In_ok-extend_from_slice) → IsOpen (c.self.inside.rows.items ++ table_row c.args.chunk.now ∷ []) (c.self.inside.payload.items ++ c.args.chunk.now)
more c =
    let P : List (List ℕ) → Type 0 = λ cs. bytes_in cs + length c.args.chunk.now ≤ 4194304 in
    let Q : List (List ℕ) → Type 0 = λ cs. list_any (same_fp (fp c.args.chunk.now)) (map fp cs) ≡ false in
    open-more c.self.inside.rows.items c.self.inside.payload.items c.args.chunk.now c.self.invariant c.bytes.ensures.some c.bytes.ensures.most
    (subst P (sym c.self.view_is) c.requires.room) (subst Q (sym c.self.view_is) c.requires.other)

pub invariant_of-result : goal.invariant_of-result
invariant_of-result c = rw (rows c, payload c) (more c)

pub returns : goal.returns
returns c =
    ap (λ r. chunks_of_rows r c.extend_from_slice.new.self.items) (rows c)
    ∙ ap (λ p. chunks_of_rows (c.self.inside.rows.items ++ table_row c.args.chunk.now ∷ []) p) (payload c)
    ∙ seen-more c.self.inside.rows.items c.self.inside.payload.items c.args.chunk.now c.self.invariant (more c)
    ∙ ap (λ cs. cs ++ c.args.chunk.now ∷ []) c.self.view_is
