-- Why a drawing with two crossing diagonals has no faces: the two are the first edges that cross.
use Rattle.std.proofs.Common.{ℕ, ◌<◌, inl, inr, pos, List, [], ◌∷◌, refl, Some, arith, lit<}
use Rattle.ff_whole.specs.declared.points.Pt.{Pt}
use Rattle.ff_types.specs.declared.patterns.EdgeEnds.{EdgeEnds}
use Rattle.ff_types.specs.declared.patterns.Mark.TheVariants.{B, U}
use Rattle.ff_types.specs.declared.refusals.Refusal.TheVariants.{Crossing}
use Rattle.ff_types.specs.Drawings.{IsEnd}
use Rattle.ff_types.specs.FaceRefusals.{CrossingAt, IsFirstCrossing, SamePointAt, Never, RefusesFaces}
use Rattle.ff_types.proofs.Named.{point, ends}
use Rattle.ff_types.proofs.Computing.{below_two, apart}
use Rattle.ff_types.proofs.ComputedDrawings.{two_fit, fit}

abbrev points : List Pt
points = point (pos 0) (pos 0) ∷ point (pos 2) (pos 0) ∷ point (pos 2) (pos 2) ∷ point (pos 0) (pos 2) ∷ []

abbrev edges : List EdgeEnds
edges = ends 0 1 ∷ ends 1 2 ∷ ends 2 3 ∷ ends 3 0 ∷ ends 0 2 ∷ ends 1 3 ∷ []

none_same : Never (SamePointAt points)
none_same v (h, (w, l, e)) = omega (arith, (apart points refl).differ w v (omega (arith, h, l)) h e, l)

no_end : IsEnd 1 1 → ⊥
no_end (inl e) = absurd (omega (arith, e))
no_end (inr e) = absurd (omega (arith, e))

crosses : CrossingAt points edges 4 5
crosses = (lit< tt, lit< tt, (1, 1, 1, 1, record { some = lit< tt; sums = refl; same = refl }, λ z. no_end z.0))

-- the border's edges cross nothing
borders_meet : (d l : ℕ) → d < 4 → CrossingAt points edges d l → ⊥
borders_meet d l h (m, o, (s, t, u, v, c, n)) = n ((fit points edges d l (below_two 4 6 (two_fit points edges) refl d l h o)).1 (λ e. omega (arith, e, m)) s t u v c)

first : IsFirstCrossing points edges 4 5
first = record { crosses = crosses; least_first = borders_meet; least_second = λ l h c. omega (arith, h, c.0) }

refused : RefusesFaces points edges (Some (B ∷ B ∷ B ∷ B ∷ U ∷ U ∷ [])) (Crossing 4 5)
refused = (none_same, first)
