-- Lines from west to east.
-- For the proofs of this crate alone.
use Rattle.std.specs.Prelude.{◌≡◌, ℕ, ℤ, ◌<◌, ◌≤ℤ◌, cond, List, slice_get, Some}
use mir.Syntax.{w64}
use mir.Val.{to_z, of_z}
use lib.Signed.{lt_z}
use Rattle.ff_lines.specs.declared.items.LineItem.{LineItem}

-- a coordinate as an i64
abbrev pub read : ℤ → ℤ
read x = to_z w64 (of_z w64 x)

-- the lesser x of the ends
abbrev pub west : LineItem → ℤ
west l = cond (lt_z (read l.p.x) (read l.q.x)) (read l.p.x) (read l.q.x)

-- the greater one
abbrev pub east : LineItem → ℤ
east l = cond (lt_z (read l.p.x) (read l.q.x)) (read l.q.x) (read l.p.x)

-- no line reaches further west than an earlier one
abbrev pub AreFromWest : List LineItem → Type 0
AreFromWest lines = (i j : ℕ) (k l : LineItem) → i < j → slice_get lines i ≡ Some k → slice_get lines j ≡ Some l → west k ≤ℤ west l
