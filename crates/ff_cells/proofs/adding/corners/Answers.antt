use Rattle.std.proofs.Common.{◌⊎◌, inl, inr, subst, pos, ◌<ℤ◌}
use Rattle.ff_whole.specs.declared.places.Place.{Place}
use Rattle.ff_whole.specs.declared.lines.Line.{Line}
use Rattle.ff_whole.specs.Meeting.{IsCorner}
use Rattle.ff_cells.specs.Emits.{OpensAt}
use Rattle.ff_cells.specs.Gap.{gap}
use Rattle.ff_cells.specs.Sheet.{IsSite}
use Rattle.ff_cells.proofs.Starts.{site_of}
use Rattle.ff_cells.proofs.adding.corners.Goals as goal

top_of : (left right top p : Place) (k l : Line) → OpensAt left right k l top → IsCorner l top p
    → (IsSite l left p × (pos 0 <ℤ gap k l left)) ⊎ (IsSite l right p × (pos 0 <ℤ gap k l right))
top_of left right top p k l (inl (e, o)) c = inl (site_of l left p (subst (λ t. IsCorner l t p) e c), o)
top_of left right top p k l (inr (e, o)) c = inr (site_of l right p (subst (λ t. IsCorner l t p) e c), o)

pub returns : goal.returns
returns c =
    let k = c.args.low.now in let l = c.args.high.now in
    let left = c.args.left.now.place in let right = c.args.right.now.place in
    record {
      first = site_of k.line left c.corner.result c.corner.ensures;
      second = site_of k.line right c.corner-2.result c.corner-2.ensures;
      third = top_of left right c.args.top.now.place c.corner-3.result k.line l.line c.requires c.corner-3.ensures;
    }
