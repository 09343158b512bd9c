use Rattle.std.proofs.Common.{◌≡◌, ◌∙◌, ◌++◌, ◌∷◌, [], ℕ, Some, List, sym, ap, subst, cond}
use Rattle.std.specs.Str.{bytes_eq}
use Rattle.vault_ports.specs.Places.{Named, file_at, files_of, IsFiled}
use Rattle.vault_ports.proofs.Named.{given_bytes, filed_last, push-files_of}
use Rattle.vault_ports.proofs.files.Files.empty.Goals as goal

pub returns-in-Some-clause-ok : goal.returns-in-Some-clause-ok
returns-in-Some-clause-ok c q =
    given_bytes c.args.self.now.list.items c.args.name.now c.in-Some.i c.index_mut.result.now c.new.result c.index_mut.ensures.value c.in-Some.ensures.1 q
    ∙ ap (λ (l : List ℕ). cond (bytes_eq q c.args.name.now) (Some l) (file_at (files_of c.args.self.now.list.items) q)) c.new.ensures.items

pub returns-in_ok-push-in-None-clause-ok : goal.returns-in_ok-push-in-None-clause-ok
returns-in_ok-push-in-None-clause-ok c =
    let all : files_of c.push.new.self.items ≡ files_of c.args.self.now.list.items ++ (c.args.name.now, []) ∷ [] =
    ap files_of c.in_ok-push-in-None.ensures.items ∙ push-files_of c.args.self.now.list.items (c.in_ok-copy-in-None.copy, c.new-in-None.result)
    ∙ ap (λ (n : List ℕ). files_of c.args.self.now.list.items ++ (n, c.new-in-None.result.items) ∷ []) c.in_ok-copy-in-None.ensures.ok
    ∙ ap (λ (b : List ℕ). files_of c.args.self.now.list.items ++ (c.args.name.now, b) ∷ []) c.new-in-None.ensures.items in
    subst (λ (l : Named). IsFiled (files_of c.args.self.now.list.items) l c.args.name.now []) (sym all) (filed_last (files_of c.args.self.now.list.items) c.args.name.now [] c.in-None.ensures)
