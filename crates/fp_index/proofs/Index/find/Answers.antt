use Rattle.std.proofs.Common.{◌≡◌, ◌-◌, length, None, sym, ap, ◌∙◌, rules}
use Rattle.std.specs.Prelude.{slice_get}
use Rattle.vault_types.specs.Lists.{greatest}
use Rattle.fp_index.specs.Index.{found_in}
use Rattle.fp_index.specs.Lists.{ids_in}
use Rattle.fp_index.proofs.Ids.{last-ascending}
use Rattle.fp_index.proofs.Entries.{ids_in-at, ids_in-none}
use Rattle.fp_index.proofs.Tables.{found-newest}
use Rattle.fp_index.proofs.Index.find.Goals as goal

pub returns-clause-found : goal.returns-clause-found
returns-clause-found c =
    let entries = c.self.inside.containers.entries in
    let same : c.deref.result.now ≡ ids_in entries c.args.fp.now =
    c.deref.ensures.value ∙ sym (ids_in-at entries c.args.fp.now c.in_ok-get.field-0.now (sym c.in_ok-get.ensures.value)) in
    c.copied.ensures ∙ c.last.ensures.value
    ∙ ap (λ ns. slice_get ns (length ns - 1)) same
    ∙ last-ascending (ids_in entries c.args.fp.now) (c.self.invariant c.args.fp.now)
    ∙ ap (λ es. found_in es c.args.fp.now) c.self.view_is

pub returns-clause-newest : goal.returns-clause-newest
returns-clause-newest c = λ tables h. returns-clause-found c ∙ found-newest c.args.self.now tables c.args.fp.now h

pub returns-in_err-get-clause-found : goal.returns-in_err-get-clause-found
returns-in_err-get-clause-found c =
    let entries = c.self.inside.containers.entries in
    let none : c.from_residual.result ≡ None = search rules in
    none
    ∙ sym (ap greatest (ids_in-none entries c.args.fp.now (sym c.in_err-get.ensures.value)))
    ∙ ap (λ es. found_in es c.args.fp.now) c.self.view_is

pub returns-in_err-get-clause-newest : goal.returns-in_err-get-clause-newest
returns-in_err-get-clause-newest c = λ tables h. returns-in_err-get-clause-found c ∙ found-newest c.args.self.now tables c.args.fp.now h
