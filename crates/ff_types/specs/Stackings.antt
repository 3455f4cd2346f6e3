-- Stackings: which face is above which, so that over each place the faces can be listed bottom to top. Layer orders
-- over each cell; what is asked at border places is this project's own. A set of pairs "f above h" is a test: above f h.
use Rattle.std.specs.Prelude.{◌≡◌, ℕ, ◌↔◌, Bool, not, List, IsTrue}
use Rattle.std.specs.List.{Contains, AllPairs}
use Rattle.ff_whole.specs.declared.places.Place.{Place}
use Rattle.ff_whole.specs.Places.{IsPlace}
use Rattle.ff_types.specs.Sheets.{Sheet}
use Rattle.ff_types.specs.Inside.{Overlap, over}
use Rattle.ff_types.specs.Borders.{IsPlainBorder}
use Rattle.ff_types.specs.Covering.{left_faces, right_faces}

-- exactly one of the two orders for each two overlapping faces, and no other pair
pub record OrdersOverlaps (g : Sheet) (above : ℕ → ℕ → Bool) : Type 0 where
  pub one : (f h : ℕ) → Overlap g f h → above f h ≡ not (above h f)
  pub only : (f h : ℕ) → IsTrue (above f h) → Overlap g f h

-- The list has these faces, each below those that come after it. A face in it twice would be above itself.
pub record IsListing (above : ℕ → ℕ → Bool) (faces listing : List ℕ) : Type 0 where
  pub same : (f : ℕ) → Contains listing f ↔ Contains faces f
  pub rises : AllPairs (λ lower upper. IsTrue (above upper lower)) listing

-- these faces can be listed bottom to top
abbrev pub CanBeListed : (ℕ → ℕ → Bool) → List ℕ → Type 0
CanBeListed above faces = (listing : List ℕ) × IsListing above faces listing

-- overlapping faces have an order, and over every place and on both sides of every plain border place it puts the faces in a row
pub record IsStacking (g : Sheet) (above : ℕ → ℕ → Bool) : Type 0 where
  pub orders : OrdersOverlaps g above
  -- over every place, and on both sides of every plain border place
  pub places : (s : Place) → IsPlace s → CanBeListed above (over g s)
  pub left : (e : ℕ) (s : Place) → IsPlainBorder g e s → CanBeListed above (left_faces g e s)
  pub right : (e : ℕ) (s : Place) → IsPlainBorder g e s → CanBeListed above (right_faces g e s)
