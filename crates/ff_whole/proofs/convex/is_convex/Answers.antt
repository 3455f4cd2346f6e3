use Rattle.ff_whole.proofs.ConvexRings.{convex_from_corners, corners_from_convex}
use Rattle.ff_whole.proofs.convex.is_convex.Goals as goal

pub returns : goal.returns
returns c =
    let points = c.args.points.now in
    let r = c.requires in
    let first = c.first_place.ensures in (
      λ h. convex_from_corners points r.near r.apart _ first.within (c.are_corners.ensures.0 h),
      λ h. c.are_corners.ensures.1 (corners_from_convex points r.near r.apart _ first.within first.first h),
    )
