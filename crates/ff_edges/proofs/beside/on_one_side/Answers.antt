use Rattle.std.proofs.Common.{◌≡◌, ◌↔◌, subst, IsTrue, ◌||◌}
use Rattle.ff_types.specs.Sheets.{sheet_of}
use Rattle.ff_types.specs.Cites.{on_one_side}
use Rattle.ff_edges.specs.SharedSegments.{beside_both}
use Rattle.ff_edges.proofs.OneSide.{one_side, from_left, by_tests}
use Rattle.ff_edges.proofs.beside.on_one_side.Goals as goal

pub returns-then-four_left : goal.returns-then-four_left
returns-then-four_left c =
    let points = c.args.folded.now.points in let rings = c.args.faces.now.rings in
    let way = c.ends-way.result in let first = c.beside-first.result in let second = c.beside-second.result in
    let same : one_side points rings way.0 way.1 first.0 first.1 second.0 second.1 ≡ on_one_side (sheet_of c.args.pattern.now c.args.faces.now c.args.folded.now) c.args.e (beside_both (sheet_of c.args.pattern.now c.args.faces.now c.args.folded.now) c.args.e c.args.k) =
    (λ i. one_side points rings (c.ends-way.ensures.tail i) (c.ends-way.ensures.head i) (c.beside-first.ensures.lesser i) (c.beside-first.ensures.greater i) (c.beside-second.ensures.lesser i) (c.beside-second.ensures.greater i)) in
    let left = c.four_left.ensures.0 c.if-four_left.true in
    (λ t. subst IsTrue same (from_left points rings way.0 way.1 first.0 first.1 second.0 second.1 left.0 left.1), λ t. c.if-four_left.true)

pub returns-else-four_left : goal.returns-else-four_left
returns-else-four_left c =
    let points = c.args.folded.now.points in let rings = c.args.faces.now.rings in
    let way = c.ends-way.result in let first = c.beside-first.result in let second = c.beside-second.result in
    let same : one_side points rings way.0 way.1 first.0 first.1 second.0 second.1 ≡ on_one_side (sheet_of c.args.pattern.now c.args.faces.now c.args.folded.now) c.args.e (beside_both (sheet_of c.args.pattern.now c.args.faces.now c.args.folded.now) c.args.e c.args.k) =
    (λ i. one_side points rings (c.ends-way.ensures.tail i) (c.ends-way.ensures.head i) (c.beside-first.ensures.lesser i) (c.beside-first.ensures.greater i) (c.beside-second.ensures.lesser i) (c.beside-second.ensures.greater i)) in
    let by = by_tests points rings way.0 way.1 first.0 first.1 second.0 second.1 c.four_left.result c.four_right.result c.four_left.ensures c.four_right.ensures in
    subst (λ b. IsTrue c.four_right.result ↔ IsTrue b) same (subst (λ x. IsTrue (x || c.four_right.result) ↔ IsTrue (one_side points rings way.0 way.1 first.0 first.1 second.0 second.1)) c.if-four_left.false by)
