-- Vertices and edges as each crease pattern has them, whatever its marks.
use Rattle.std.specs.Prelude.{List, None}
use Rattle.ff_whole.specs.declared.points.Pt.{Pt}
use Rattle.ff_types.specs.declared.patterns.EdgeEnds.{EdgeEnds}
use Rattle.ff_types.specs.Patterns.{IsPattern}

-- points and edges of a pattern, without marks
abbrev pub IsGraph : List Pt → List EdgeEnds → Type 0
IsGraph points edges = IsPattern points edges None
