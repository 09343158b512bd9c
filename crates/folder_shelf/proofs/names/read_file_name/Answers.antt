use Rattle.std.proofs.Common.{rules, refl, codes, ◌≡◌, ◌++◌}
use Rattle.vault_types.specs.declared.Kind.TheVariants as kind
use Rattle.folder_shelf.specs.FileNames.{hex, floor_tail}
use Rattle.folder_shelf.proofs.Named.{is_named, behind, is_payload, is_floor}
use Rattle.folder_shelf.proofs.names.read_file_name.Goals as goal

pub returns-in-Some-strip_prefix-clause-found : goal.returns-in-Some-strip_prefix-clause-found
returns-in-Some-strip_prefix-clause-found c =
    let text = c.args.text.now in
    let tail = c.in-Some-strip_prefix.tail.now in
    let r = c.read_id-in-Some-strip_prefix.result in
    let is : text ≡ codes "payload-" ++ tail = search rules in
    is_named kind.Payload r c.named-in-Some-strip_prefix.result text c.named-in-Some-strip_prefix.ensures
    (behind kind.Payload r (codes "payload-") tail text (hex 16) is (λ n. refl) c.read_id-in-Some-strip_prefix.ensures) (is_payload text tail is)

pub returns-in-Some-strip_prefix-3-clause-found : goal.returns-in-Some-strip_prefix-3-clause-found
returns-in-Some-strip_prefix-3-clause-found c =
    let text = c.args.text.now in
    let tail = c.in-Some-strip_prefix-3.tail.now in
    let r = c.read_floor.result in
    let is : text ≡ codes "floor" ++ tail = search rules in
    is_named kind.Floor r c.named-in-Some-strip_prefix-3.result text c.named-in-Some-strip_prefix-3.ensures
    (behind kind.Floor r (codes "floor") tail text floor_tail is (λ n. refl) c.read_floor.ensures.found) (is_floor text tail is)
