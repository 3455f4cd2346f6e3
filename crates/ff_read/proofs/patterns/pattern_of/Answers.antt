use Rattle.std.proofs.Common.{List, length, map, rules, ap, subst, arith}
use Rattle.std.proofs.lemmas.List.{length-map}
use Rattle.serde_json.specs.View.{view}
use Rattle.ff_whole.specs.declared.points.Pt.{Pt}
use Rattle.ff_read.specs.Refused.{HaveEdges}
use Rattle.ff_read.specs.Spelling.{point_of}
use Rattle.ff_read.proofs.Lists.{as_many}
use Rattle.ff_read.proofs.Good.{is_pattern}
use Rattle.ff_read.proofs.patterns.pattern_of.Goals as goal

pub edges_at-requires : goal.edges_at-requires
edges_at-requires c =
    let many = as_many point_of (map view c.args.lists.vertices.now) c.in_ok-points.points c.in_ok-points.ensures.spelled in
    (omega (arith, many, ap length c.as_slice.ensures, c.requires.few.vertices), omega (arith, length-map c.args.lists.edges.now view, c.requires.few.edges))

pub invariant_of-result : goal.invariant_of-result
invariant_of-result c =
    let edges = subst (λ (points : List Pt). HaveEdges (length points) (map view c.args.lists.edges.now) c.in_ok-edges.edges) c.as_slice.ensures c.in_ok-edges.ensures in
    record { valid = is_pattern _ _ _ _ _ _ c.in_ok-points.ensures edges c.requires.marked c.in_ok-marks.ensures (search rules) (search rules) }
