-- A gap that is open has a cell, whose corners need not be in lowest terms.
use Rattle.std.proofs.Common.{ℕ, ◌⊎◌, inl, inr, List, [], ◌∷◌, refl, arith, pos, ◌<ℤ◌, ◌*ℤ◌}
use Rattle.ff_whole.proofs.Bounds.{below-more, below-mul, below-sub}
use Rattle.ff_whole.proofs.Signs.{linear, pos-mul}
use Rattle.ff_whole.proofs.LinesMeeting.{on_corner, at_corner}
use Rattle.ff_whole.specs.Meeting.{rise}
use Rattle.ff_whole.specs.Sizes.{IsMeetPlace}
use Rattle.ff_whole.specs.declared.lines.Line.{Line}
use Rattle.ff_whole.specs.declared.places.Place.{Place}
use Rattle.ff_cells.specs.declared.cell.Cell.{Cell}
use Rattle.ff_cells.specs.Before.{IsRising}
use Rattle.ff_cells.specs.Emits.{OpensAt, IsGapCell}
use Rattle.ff_cells.specs.Gap.{gap}
use Rattle.ff_cells.specs.Sheet.{IsSite}

-- the place of the line at the x of a place
abbrev plain : Line → Place → Place
plain l at = record { x = at.x *ℤ l.b; y = rise l at; w = at.w *ℤ l.b }

plain_site : (l : Line) (at : Place) → IsRising l → IsMeetPlace at → IsSite l at (plain l at)
plain_site l at r m = record {
  positive = pos-mul at.w l.b m.positive r.rises;
  small = record {
    x_below = below-more (below-mul m.x_below r.b_below) tt;
    y_below = below-more (below-sub (below-mul r.c_below m.w_below) (below-mul r.a_below m.x_below)) tt;
    w_below = below-more (below-mul m.w_below r.b_below) tt;
    positive = pos-mul at.w l.b m.positive r.rises;
  };
  on = on_corner l at;
  same = (let e = at_corner l at in omega (arith, linear));
}

module _ (faces : List ℕ) (left right top : Place) (k l : Line) (k_in : IsRising k) (l_in : IsRising l)
    (left_in : IsMeetPlace left) (right_in : IsMeetPlace right) where
  third : OpensAt left right k l top → (t : Place)
      × ((IsSite l left t × (pos 0 <ℤ gap k l left)) ⊎ (IsSite l right t × (pos 0 <ℤ gap k l right)))
  third (inl (e, o)) = (plain l left, inl (plain_site l left l_in left_in, o))
  third (inr (e, o)) = (plain l right, inr (plain_site l right l_in right_in, o))

  pub gap_cell : OpensAt left right k l top → (c : Cell) × IsGapCell faces left right k l c
  gap_cell opens = let t = third opens in (
    record { faces = faces; at = plain k left ∷ plain k right ∷ t.0 ∷ [] },
    record {
      faces_are = refl;
      low_left = plain k left;
      low_right = plain k right;
      top = t.0;
      at_is = refl;
      corners = record {
        first = plain_site k left k_in left_in;
        second = plain_site k right k_in right_in;
        third = t.1;
      };
    },
  )
