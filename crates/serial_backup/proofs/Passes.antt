-- The containers that a pass gave out.
use Rattle.std.proofs.Common.{◌≡◌, ℕ, ◌+◌, ◌≤◌, List, ◌++◌, map, length, sym, ap, ◌∙◌, subst, arith, length-append}
use Rattle.std.proofs.lemmas.List.{length-map}
use Rattle.vault_types.specs.Names.{NamedChunk, named_chunk}
use Rattle.vault_types.specs.Tables.{Container}
use Rattle.vault_types.specs.Decide.{Rules}
use Rattle.vault_types.proofs.BackupLemmas.{joined-pieces}
use Rattle.container_fill.specs.Filling.{opened}
use Rattle.backup_pass.specs.declared.pass.Pass.{Pass}
use Rattle.backup_pass.specs.Placing.{joined}
use Rattle.backup_pass.specs.Passing.{HasPassed}
use Rattle.backup_pass.proofs.Decisions.{joined-only}
use Rattle.backup_jobs.specs.Going.{AreNumbered}
use Rattle.backup_jobs.proofs.Chunks.{numbered_new}

-- they are numbered from its first id, and no more than the limit of chunks

pub numbered_passed : (p : Pass) (r : Rules) (most first : ℕ) (x : List ℕ) (gone : List Container) → HasPassed p r most first x gone → AreNumbered first gone
numbered_passed p r most first x gone h = subst (AreNumbered first) (sym h.placed.filled.gone_are) (numbered_new first h.placed.filled.full)

pub few_passed : (p : Pass) (r : Rules) (most first : ℕ) (x : List ℕ) (gone : List Container) → HasPassed p r most first x gone → length gone ≤ most
few_passed p r most first x gone h =
    let done : List (List NamedChunk) = h.placed.done in
    let rest : List NamedChunk = map named_chunk p.placer.segment.items in
    let whole : map named_chunk h.chunks ≡ joined done ++ rest =
    sym (joined-pieces (λ (c : NamedChunk). length c.bytes) r.config.segment (map named_chunk h.chunks)) ∙ ap joined h.placed.split ∙ joined-only done rest in
    let lengths : length (map named_chunk h.chunks) ≡ length (joined done ++ rest) = ap length whole in
    let one : length (joined done ++ rest) ≡ length (joined done) + length rest = length-append (joined done) rest in
    let all : length (map named_chunk h.chunks) ≡ length h.chunks = length-map h.chunks named_chunk in
    let few = h.placed.filled.keeps.few in
    let front = length-append gone (opened p.placer.filler.next p.placer.filler.held) in
    omega (arith, h.count, h.within, h.most_is, lengths, one, all, few, front)
