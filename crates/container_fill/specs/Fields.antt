-- What contracts see of a filler's fields.
use Rattle.std.specs.Prelude.{[]}
use Rattle.std.specs.Option.{option_map_or}
use Rattle.container_fill.specs.Filling.{Filling}
use Rattle.container_fill.specs.declared.filler.Filler.TheInside.{Inside}

abbrev pub filling_in : Inside → Filling
filling_in f = record {
  capacity = f.capacity;
  next = f.next;
  held = option_map_or (λ o. o) f.open [];
  taken = f.taken.entries;
  rows = f.rows.items;
  containers = f.containers;
  written = f.written;
}
