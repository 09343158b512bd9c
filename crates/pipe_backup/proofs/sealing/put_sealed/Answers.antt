use Rattle.std.proofs.Common.{◌≡◌, ◌+◌, ◌<◌, length, sym, ap, ◌∙◌, arith, rules}
use Rattle.std.proofs.lemmas.Grind.{common_steps}
use Rattle.vault_types.specs.declared.Table.{Table}
use Rattle.pipe_backup.proofs.Handing.{is_next, put_more}
use Rattle.pipe_backup.proofs.sealing.put_sealed.Goals as goal

pub returns-in-Ok-clause-ok : goal.returns-in-Ok-clause-ok
returns-in-Ok-clause-ok g c b put h is =
    let count : c.len-count.result ≡ length c.args.lens.now.items = omega (arith, c.len-count.ensures) in
    let most : c.len-count.result < c.args.span.limit = omega (arith, c.if-count-span.false) in
    let same : c.table.result.now.id ≡ c.args.span.first + c.len-count.result = first_of (omega (arith, c.if-table-span.false), search rules, grind (arith, common_steps)) in
    let id : c.args.sealed.table.id ≡ c.args.span.first + c.len-count.result = ap (λ (t : Table). t.id) (sym c.table.ensures.is) ∙ same in
    let next = is_next b _ _ put c.args.span c.args.sealed c.len-count.result h is count most id in
    put_more b _ _ _ _ put c.args.sealed h (c.in-Ok.ensures.ok b put next.number next.room h.underway) c.in-Ok.ensures.waits c.in-Ok.ensures.named c.in-Ok.ensures.lens

pub returns-in-Err-clause-err : goal.returns-in-Err-clause-err
returns-in-Err-clause-err g c b put h is =
    let count : c.len-count.result ≡ length c.args.lens.now.items = omega (arith, c.len-count.ensures) in
    let most : c.len-count.result < c.args.span.limit = omega (arith, c.if-count-span.false) in
    let same : c.table.result.now.id ≡ c.args.span.first + c.len-count.result = first_of (omega (arith, c.if-table-span.false), search rules, grind (arith, common_steps)) in
    let id : c.args.sealed.table.id ≡ c.args.span.first + c.len-count.result = ap (λ (t : Table). t.id) (sym c.table.ensures.is) ∙ same in
    let next = is_next b _ _ put c.args.span c.args.sealed c.len-count.result h is count most id in
    c.in-Err.ensures.err b put next.number next.room h.underway
