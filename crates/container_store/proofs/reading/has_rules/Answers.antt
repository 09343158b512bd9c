use Rattle.std.proofs.Common.{◌≡◌, ◌≤◌, ℕ, List, All, length, eqb, false, ap, sym, subst, ◌∙◌, arith, map}
use Rattle.std.specs.List.{IsDistinct}
use Rattle.std.proofs.lemmas.Bool.Decides.{nat_tests}
use Rattle.vault_types.specs.declared.TableRow.{TableRow}
use Rattle.vault_types.specs.Names.{same_fp}
use Rattle.vault_types.specs.Tables.{payload_len}
use Rattle.container_store.proofs.TableLemmas.{short_payload, is_table}
use Rattle.container_store.proofs.reading.has_rules.Goals as goal

pub payload_len-requires : goal.payload_len-requires
payload_len-requires c = short_payload c.as_slice-rows.result.now (c.have_lens.ensures.0 c.if-not-have_lens.false) (omega (arith, c.requires.few, ap length c.as_slice-rows.ensures))

-- the facts about the table's rows, known of the slice of them
on_rows : (P : List TableRow → Type 0) {xs ys : List TableRow} → xs ≡ ys → P xs → P ys
on_rows P e h = subst P e h

pub returns-clause-yes : goal.returns-clause-yes
returns-clause-yes c differ =
    let e = c.as_slice-rows.ensures in
    is_table c.args.table.now c.requires (omega arith) (some _ (sym c.if-is_empty.false ∙ c.is_empty.ensures ∙ ap (λ (xs : List TableRow). eqb (length xs) 0) e))
    (on_rows (λ xs. All (λ r. (1 ≤ r.len) × (r.len ≤ 65536)) xs) e (c.have_lens.ensures.0 c.if-not-have_lens.false))
    (on_rows (λ xs. payload_len xs ≤ 4194304) e (omega (arith, c.payload_len.ensures)))
    (on_rows (λ xs. IsDistinct same_fp (map (λ r. r.fp) xs)) e (c.in_ok-are_distinct.ensures.yes differ))
  where
    some : (n : ℕ) → false ≡ eqb n 0 → 1 ≤ n
    some n h = grind (arith, nat_tests)
