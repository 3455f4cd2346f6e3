-- What tells at once that two segments don't cross.
-- For the proofs of this crate alone.
use Rattle.std.specs.Prelude.{◌⊎◌, ℤ, pos, ◌<ℤ◌}
use Rattle.ff_whole.specs.declared.points.Pt.{Pt}
use Rattle.ff_whole.specs.Points.{turn}

-- a and b are both less than both c and d
abbrev pub AreBelow : ℤ → ℤ → ℤ → ℤ → Type 0
AreBelow a b c d = (a <ℤ c) × (a <ℤ d) × (b <ℤ c) × (b <ℤ d)

-- the boxes round the segments from a to b and from c to d lie apart
abbrev pub AreBoxedApart : Pt → Pt → Pt → Pt → Type 0
AreBoxedApart a b c d = (AreBelow a.x b.x c.x d.x ⊎ AreBelow c.x d.x a.x b.x) ⊎ (AreBelow a.y b.y c.y d.y ⊎ AreBelow c.y d.y a.y b.y)

-- the second segment is strictly on one side of the line of the first
abbrev pub IsBeside : Pt → Pt → Pt → Pt → Type 0
IsBeside a b c d = ((pos 0 <ℤ turn a b c) × (pos 0 <ℤ turn a b d)) ⊎ ((turn a b c <ℤ pos 0) × (turn a b d <ℤ pos 0))
