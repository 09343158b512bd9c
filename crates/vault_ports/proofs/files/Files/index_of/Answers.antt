use Rattle.std.proofs.Common.{◌≡◌, ◌≢◌, ◌∙◌, ◌<◌, ℕ, sym, ap, arith, length, get_or, List, true, false, Bool}
use Rattle.std.specs.String.{string_bytes}
use Rattle.std.specs.Str.{bytes_eq}
use Rattle.vault_types.proofs.FillLemmas.{bytes_eq-same, same_bytes}
use Rattle.vault_ports.proofs.Named.{Listed, searched_more, found_here, front_is}
use Rattle.vault_ports.proofs.files.Files.index_of.Goals as goal

pub returns-then-eq : goal.returns-then-eq
returns-then-eq c =
    let list : c.deref-file-items.result.now ≡ c.args.self.now.list.items = c.deref-file-items.ensures.value in
    let within : c.loop-i.i < length c.args.self.now.list.items = omega (arith, c.loop-i-test.true, ap length list) in
    let at : c.file-item.result ≡ get_or c.args.self.now.list.items c.loop-i.i c.file-item.result = c.file-item.is ∙ ap (λ (l : Listed). get_or l c.loop-i.i c.file-item.result) list in
    let same : string_bytes c.file-item.result.0 ≡ c.args.name.now = sym c.as_str.ensures.value ∙ same_bytes c.as_str.result.now c.args.name.now (sym c.eq.ensures ∙ c.if-eq.true) in
    (within, found_here c.args.self.now.list.items c.args.name.now c.loop-i.i c.file-item.result (front_is c.args.self.now.list.items c.loop-i.i c.file-item.result at within) same c.loop-i.invariant)

pub loop-i-preserved : goal.loop-i-preserved
loop-i-preserved c =
    let list : c.deref-file-items.result.now ≡ c.args.self.now.list.items = c.deref-file-items.ensures.value in
    let within : c.loop-i.i < length c.args.self.now.list.items = omega (arith, c.loop-i-test.true, ap length list) in
    let at : c.file-item.result ≡ get_or c.args.self.now.list.items c.loop-i.i c.file-item.result = c.file-item.is ∙ ap (λ (l : Listed). get_or l c.loop-i.i c.file-item.result) list in
    let other : string_bytes c.file-item.result.0 ≢ c.args.name.now = λ same. not_both (bytes_eq c.as_str.result.now c.args.name.now) (ap (λ (n : List ℕ). bytes_eq n c.args.name.now) (c.as_str.ensures.value ∙ same) ∙ bytes_eq-same c.args.name.now) (sym c.eq.ensures ∙ c.if-eq.false) in
    searched_more c.args.self.now.list.items c.args.name.now c.loop-i.i c.file-item.result (front_is c.args.self.now.list.items c.loop-i.i c.file-item.result at within) other c.loop-i.invariant
  where
    not_both : (b : Bool) → b ≡ true → b ≡ false → ⊥
    not_both b is other = cc
