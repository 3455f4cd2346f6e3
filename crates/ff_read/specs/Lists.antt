-- What a FOLD object has under its keys, as the code has it.
-- For the proofs of this crate alone.
use Rattle.std.specs.Prelude.{List, Option, map, option_map}
use Rattle.std.specs.Borrow.{Bor}
use Rattle.serde_json.specs.Data.{Data}
use Rattle.serde_json.specs.View.{view}
use Rattle.serde_json.specs.declared.value.Value.{Value}
use Rattle.ff_read.specs.declared.keys.Lists.{Lists}
use Rattle.ff_read.specs.Spelling.{Keys}

-- the items of an optional list, as data
abbrev pub optional_view : Option (Bor (List Value)) → Option (List Data)
optional_view marks = option_map (λ m. map view m.now) marks

-- the three lists as the keys of an object
abbrev pub keys_of : Lists → Keys
keys_of l = record {
  vertices = map view l.vertices.now;
  edges = map view l.edges.now;
  marks = optional_view l.marks;
}
