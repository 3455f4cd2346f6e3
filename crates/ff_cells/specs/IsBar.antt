-- What a bar is: an edge's image that isn't vertical, from its left end to its right one.
-- For the proofs of this crate alone.
use Rattle.std.specs.Prelude.{◌≡◌, ◌<ℤ◌}
use Rattle.ff_whole.specs.Points.{IsNear}
use Rattle.ff_whole.specs.Places.{through as line_through}
use Rattle.ff_whole.specs.declared.points.Pt.{Pt}
use Rattle.ff_whole.specs.declared.lines.Line.{Line}
use Rattle.ff_cells.specs.Before.{IsRising}

-- a bar's line goes from its western point to its eastern one
pub record IsBar (lo hi : Pt) (line : Line) : Type 0 where
  pub lo_in : IsNear lo
  pub hi_in : IsNear hi
  pub rising : IsRising line
  pub goes : lo.x <ℤ hi.x
  pub through : line ≡ line_through lo hi
