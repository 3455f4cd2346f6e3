-- Where lines meet, and how high they are; elementary.
use Rattle.std.specs.Prelude.{◌≡◌, ◌≢◌, ℕ, ℤ, pos, ◌-ℤ◌, ◌*ℤ◌, ◌<ℤ◌, unsigned_abs}
use Prim.Native.Nat.{◌∣◌}
use Rattle.std.specs.Int.{int_signum}
use Rattle.std.specs.Ordering.{int_cmp}
use Rattle.std.specs.declared.cmp.Ordering.{Ordering}
use Rattle.ff_whole.specs.Sizes.{IsBelow, IsMeetPlace}
use Rattle.ff_whole.specs.Places.{height, slant}
use Rattle.ff_whole.specs.declared.lines.Line.{Line}
use Rattle.ff_whole.specs.declared.places.Place.{Place}
use Rattle.ff_whole.specs.declared.sizes.TheConstants.{CORNER_SIZE, CORNER_X_SIZE, CORNER_WEIGHT}

-- the three numbers have no common divisor but 1
abbrev pub HasNoDivisor : Place → Type 0
HasNoDivisor s = (d : ℕ) → d ∣ unsigned_abs s.x → d ∣ unsigned_abs s.y → d ∣ unsigned_abs s.w → d ≡ 1

-- s is the place (x / w, y / w) in lowest terms
pub record IsReduced (x y w : ℤ) (s : Place) : Type 0 where
  pub by : ℤ
  pub by_positive : pos 0 <ℤ by
  pub x_is : x ≡ by *ℤ s.x
  pub y_is : y ≡ by *ℤ s.y
  pub w_is : w ≡ by *ℤ s.w
  pub positive : pos 0 <ℤ s.w
  pub lowest : HasNoDivisor s

-- the lines aren't parallel, and s is the place on both, in lowest terms
pub record IsMeet (k l : Line) (s : Place) : Type 0 where
  pub apart : slant k l ≢ pos 0
  pub on_first : height k s ≡ pos 0
  pub on_second : height l s ≡ pos 0
  pub size : IsMeetPlace s
  pub lowest : HasNoDivisor s

-- the height of a line at the x of a place, times the line's b and the place's w
abbrev pub rise : Line → Place → ℤ
rise l at = (l.c *ℤ at.w) -ℤ (l.a *ℤ at.x)

-- how the heights of two lines compare there, from below to above: both times the size of both b
abbrev pub height_cmp : Line → Line → Place → Ordering
height_cmp k l at = int_cmp (int_signum (k.b *ℤ l.b) *ℤ (rise k at *ℤ l.b)) (int_signum (k.b *ℤ l.b) *ℤ (rise l at *ℤ k.b))

-- s is on the line at the x of a place, in lowest terms
pub record IsCorner (l : Line) (at s : Place) : Type 0 where
  pub on_line : height l s ≡ pos 0
  pub same_x : s.x *ℤ at.w ≡ at.x *ℤ s.w
  pub x_below : IsBelow CORNER_X_SIZE s.x
  pub y_below : IsBelow CORNER_SIZE s.y
  pub w_below : IsBelow CORNER_WEIGHT s.w
  pub positive : pos 0 <ℤ s.w
  pub lowest : HasNoDivisor s
