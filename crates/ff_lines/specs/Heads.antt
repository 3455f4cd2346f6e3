-- The edges of the drawing, vertex by vertex. For the proofs of this crate alone.
use Rattle.std.specs.Prelude.{◌≡◌, ◌⊎◌, ℕ, ◌+◌, ◌<◌, ◌≤◌, List, set, length, slice_get, slice_index_or, Option, None, Some}
use Rattle.ff_whole.specs.declared.points.Pt.{Pt}
use Rattle.ff_whole.specs.Convex.{point_at}
use Rattle.ff_whole.specs.Places.{place_of}
use Rattle.ff_types.specs.declared.patterns.EdgeEnds.{EdgeEnds}
use Rattle.ff_types.specs.declared.patterns.Mark.{Mark}
use Rattle.ff_lines.specs.declared.items.LineItem.{LineItem}
use Rattle.ff_lines.specs.Lines.{ComesBefore, IsOnLine}
use Rattle.ff_lines.specs.Drawings.{EdgesRise, HasEdge, IsPieceAt}

-- the point with number c is on the line
abbrev pub IsOnAt : LineItem → List Pt → ℕ → Type 0
IsOnAt l points c = IsOnLine l (place_of (point_at points c))

-- b is the next point of the line after a
pub record IsNext (l : LineItem) (points : List Pt) (a b : ℕ) : Type 0 where
  pub order : a < b
  pub within : b < length points
  pub a_on : IsOnAt l points a
  pub b_on : IsOnAt l points b
  pub none : (c : ℕ) → a < c → c < b → IsOnAt l points c → ⊥

-- the line has no point after a
abbrev pub IsLast : LineItem → List Pt → ℕ → Type 0
IsLast l points a = (c : ℕ) → a < c → c < length points → IsOnAt l points c → ⊥

-- c is the first point of the line from a on, and no number of a point where the line has none
pub record IsCursor (l : LineItem) (points : List Pt) (a c : ℕ) : Type 0 where
  pub from : a ≤ c
  pub on : c < length points → IsOnAt l points c
  pub none : (x : ℕ) → a ≤ x → x < c → x < length points → IsOnAt l points x → ⊥

-- the cursor of a line, whose number is to be below the length
abbrev pub cursor_at : List ℕ → ℕ → ℕ
cursor_at cursors i = slice_index_or cursors i 0

-- a cursor for each line: of the first n past a, of the others from a on
pub record AreCursors (lines : List LineItem) (n : ℕ) (points : List Pt) (a : ℕ) (cursors : List ℕ) : Type 0 where
  pub as_many : length cursors ≡ length lines
  pub past : (i : ℕ) (l : LineItem) → i < n → slice_get lines i ≡ Some l → IsCursor l points (a + 1) (cursor_at cursors i)
  pub left : (i : ℕ) (l : LineItem) → n ≤ i → slice_get lines i ≡ Some l → IsCursor l points a (cursor_at cursors i)

-- the letter of the line is noted for its next point after a, where it has one
abbrev pub AreMoreHeads : LineItem → List Pt → ℕ → List (Option Mark) → List (Option Mark) → Type 0
AreMoreHeads l points a old new = (IsLast l points a × (new ≡ old)) ⊎ ((b : ℕ) × IsNext l points a b × (new ≡ set old b (Some l.mark)))

-- one of the first n lines has this letter, and b is its next point after a
pub record IsHead (lines : List LineItem) (n : ℕ) (points : List Pt) (a b : ℕ) (mark : Mark) : Type 0 where
  pub number : ℕ
  pub line : LineItem
  pub within : number < n
  pub there : slice_get lines number ≡ Some line
  pub letter : line.mark ≡ mark
  pub next : IsNext line points a b

-- the letter noted for a point, whose number is to be below the length
abbrev pub head_at : List (Option Mark) → ℕ → Option Mark
head_at heads b = slice_index_or heads b None

-- for each point a letter of such a line, where there is one
pub record AreHeads (lines : List LineItem) (n : ℕ) (points : List Pt) (a : ℕ) (heads : List (Option Mark)) : Type 0 where
  pub as_many : length heads ≡ length points
  pub only : (b : ℕ) (mark : Mark) → b < length heads → head_at heads b ≡ Some mark → IsHead lines n points a b mark
  pub all : (b : ℕ) (mark : Mark) → IsHead lines n points a b mark → (m : Mark) × (head_at heads b ≡ Some m)

-- whether an edge goes from a to b, and its one letter
abbrev pub IsHeadAt : List LineItem → List Pt → ℕ → ℕ → Option Mark → Type 0
IsHeadAt lines points a b None = (mark : Mark) → IsPieceAt lines points mark a b → ⊥
IsHeadAt lines points a b (Some mark) = IsPieceAt lines points mark a b × ((m : Mark) → IsPieceAt lines points m a b → m ≡ mark)

-- the edges before (a, b)
pub record AreEdgesTo (lines : List LineItem) (points : List Pt) (a b : ℕ) (edges : List EdgeEnds) (marks : List Mark) : Type 0 where
  pub as_many : length marks ≡ length edges
  pub only : (x y : ℕ) (mark : Mark) → HasEdge edges marks mark x y → ComesBefore x y a b × IsPieceAt lines points mark x y
  pub all : (x y : ℕ) (mark : Mark) → ComesBefore x y a b → IsPieceAt lines points mark x y → HasEdge edges marks mark x y
  pub rise : EdgesRise edges
