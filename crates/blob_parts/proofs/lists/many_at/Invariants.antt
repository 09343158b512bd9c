use Rattle.std.proofs.Common.{◌≡◌, ◌-◌}
use Rattle.blob_parts.specs.Reading.{many_at}
use Rattle.blob_parts.proofs.Loop.{with_front}
use Rattle.blob_parts.proofs.lists.many_at.Given as goal

abbrev pub invariant-items : goal.invariant-items
invariant-items g l = with_front l.items.items (many_at (g.F.FieldReader.field l.fields) (l.count - l.counter) l.rest) ≡ many_at (g.F.FieldReader.field l.fields) l.count l.bytes
