-- The terms of a constraint that holds are different overlapping pairs, and so are variables.
-- This project's own.
use Rattle.std.specs.Prelude.{◌≡◌, ℕ, ◌<◌, length, IsTrue}
use Rattle.ff_whole.specs.declared.places.Place.{Place}
use Rattle.ff_types.specs.declared.cites.Cite.{Cite}
use Rattle.ff_types.specs.Sheets.{Sheet}
use Rattle.ff_types.specs.Inside.{Overlap}
use Rattle.ff_types.specs.Pairs.{pair_at, in_order}
use Rattle.ff_types.specs.Borders.{is_on, IsPlainBorder}
use Rattle.ff_types.specs.Cites.{Holds, is_folded_edge, is_flat_edge, lesser, greater}
use Rattle.ff_types.specs.Terms.{matching, opposed, terms_of}
use Rattle.ff_borders.specs.Lying.{IsLeftAlone, IsRightAlone}

-- of a flat edge at a plain border place, the matching face lies on the side of f, and the opposed one on the
-- other
abbrev pub MatchingLies : Sheet → Type 0
MatchingLies g = (e k f : ℕ) (s : Place) → IsPlainBorder g e s → IsTrue (is_on g k s)
    → IsTrue (is_flat_edge g k)
    → (IsLeftAlone g e f → IsLeftAlone g e (matching g e f k) × IsRightAlone g e (opposed g e f k))
    × (IsRightAlone g e f → IsRightAlone g e (matching g e f k) × IsLeftAlone g e (opposed g e f k))

-- two overlapping faces, in the order given and with the lesser first
pub record IsOverlapping (g : Sheet) (p : ℕ × ℕ) : Type 0 where
  pub given : Overlap g p.0 p.1
  pub rises : (in_order p.0 p.1).0 < (in_order p.0 p.1).1
  pub ordered : Overlap g (in_order p.0 p.1).0 (in_order p.0 p.1).1

-- the terms of a cite that holds are overlapping pairs
abbrev pub TermsOverlap : Sheet → Type 0
TermsOverlap g = (c : Cite) → Holds g c → (j : ℕ) → j < length (terms_of g c)
    → IsOverlapping g (pair_at (terms_of g c) j)

-- no two terms are of the same two faces
abbrev pub TermsDiffer : Sheet → Type 0
TermsDiffer g = (c : Cite) → Holds g c → (i j : ℕ) → i < length (terms_of g c) → j < length (terms_of g c)
    → in_order (pair_at (terms_of g c) i).0 (pair_at (terms_of g c) i).1
    ≡ in_order (pair_at (terms_of g c) j).0 (pair_at (terms_of g c) j).1
    → i ≡ j

-- the two faces of an edge marked M, V or U overlap
abbrev pub CreaseFacesOverlap : Sheet → Type 0
CreaseFacesOverlap g = (e : ℕ) → IsTrue (is_folded_edge g e)
    → (lesser g e < greater g e) × Overlap g (lesser g e) (greater g e)
