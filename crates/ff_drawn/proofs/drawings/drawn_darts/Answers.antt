use Rattle.std.proofs.Common.{List, length, subst}
use Rattle.ff_drawn.specs.declared.darts.Dart.{Dart}
use Rattle.ff_drawn.specs.Darts.{AreStarts}
use Rattle.ff_types.specs.FaceRefusals.{SamePointAt}
use Rattle.ff_drawn.specs.Firsts.{IsFirst}
use Rattle.ff_drawn.specs.Drawn.{FirstCross, FirstLoose}
use Rattle.ff_drawn.proofs.WholeDrawings.{apart_from, drawing_from}
use Rattle.ff_drawn.proofs.drawings.drawn_darts.Goals as goal

pub crossing-requires-clause-apart : goal.crossing-requires-clause-apart
crossing-requires-clause-apart c = apart_from c.args.points.now (subst (IsFirst (SamePointAt c.args.points.now)) c.in_default.is c.in_ok-v.ensures)

pub returns : goal.returns
returns c =
    let points = c.args.points.now in
    let edges = c.args.edges.now in
    let same = subst (IsFirst (SamePointAt points)) c.in_default.is c.in_ok-v.ensures in
    let cross = subst (FirstCross points edges) c.in_default-2.is c.in_ok-e.ensures in
    let two = subst (FirstLoose points edges) c.in_default-first_loose.is c.first_loose.ensures in
    record {
      drawn = record { drawing = drawing_from points edges c.requires.graph same cross two; darts_are = c.in_ok-darts.ensures };
      starts_are = subst (λ (d : List Dart). AreStarts d (length points) c.in_ok-starts.starts.items) c.deref-2.ensures.value c.in_ok-starts.ensures;
      spots_are = c.in_ok-spots.ensures;
    }
