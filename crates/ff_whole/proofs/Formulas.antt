-- The formulas of points, lines and places once more, as expressions for `Ring.solve`: each has the shape of its
-- original in specs, so that the value of `turn_e ..` is `turn ..` itself.
-- An identity of p q r m: `solve (point_env p (point_env q (place_env m []))) (.. point_e 0 .. point_e 2 .. place_e 4 ..) .. refl`.
use Rattle.std.proofs.Common.{ℕ, ◌+◌, ℤ, pos, List, ◌∷◌}
use Rattle.ff_whole.proofs.Ring.{Expr, var, num, ◌⊕◌, ◌⊖◌, ◌⊗◌}
use Rattle.ff_whole.specs.declared.points.Pt.{Pt}
use Rattle.ff_whole.specs.declared.lines.Line.{Line}
use Rattle.ff_whole.specs.declared.places.Place.{Place}

-- ---- points: two variables each, the first with the number n

pub record PointE : Type 0 where
  pub x : Expr
  pub y : Expr

abbrev pub point_e : ℕ → PointE
point_e n = record { x = var n; y = var (n + 1) }

abbrev pub point_env : Pt → List ℤ → List ℤ
point_env p env = p.x ∷ p.y ∷ env

abbrev pub minus_e : PointE → PointE → PointE
minus_e q p = record { x = q.x ⊖ p.x; y = q.y ⊖ p.y }

abbrev pub dot_e : PointE → PointE → Expr
dot_e u v = u.x ⊗ v.x ⊕ u.y ⊗ v.y

abbrev pub cross_e : PointE → PointE → Expr
cross_e u v = u.x ⊗ v.y ⊖ u.y ⊗ v.x

abbrev pub turn_e : PointE → PointE → PointE → Expr
turn_e p q r = cross_e (minus_e q p) (minus_e r p)

-- ---- lines and places: three variables each

pub record LineE : Type 0 where
  pub a : Expr
  pub b : Expr
  pub c : Expr

abbrev pub line_e : ℕ → LineE
line_e n = record { a = var n; b = var (n + 1); c = var (n + 2) }

abbrev pub line_env : Line → List ℤ → List ℤ
line_env l env = l.a ∷ l.b ∷ l.c ∷ env

pub record PlaceE : Type 0 where
  pub x : Expr
  pub y : Expr
  pub w : Expr

abbrev pub place_e : ℕ → PlaceE
place_e n = record { x = var n; y = var (n + 1); w = var (n + 2) }

abbrev pub place_env : Place → List ℤ → List ℤ
place_env p env = p.x ∷ p.y ∷ p.w ∷ env

abbrev pub place_of_e : PointE → PlaceE
place_of_e p = record { x = p.x; y = p.y; w = num (pos 1) }

abbrev pub through_e : PointE → PointE → LineE
through_e p q = record { a = p.y ⊖ q.y; b = q.x ⊖ p.x; c = (p.y ⊖ q.y) ⊗ p.x ⊕ (q.x ⊖ p.x) ⊗ p.y }

abbrev pub height_e : LineE → PlaceE → Expr
height_e l p = l.a ⊗ p.x ⊕ l.b ⊗ p.y ⊖ l.c ⊗ p.w

abbrev pub past_e : PointE → PointE → PlaceE → Expr
past_e p q s = (q.x ⊖ p.x) ⊗ (s.x ⊖ p.x ⊗ s.w) ⊕ (q.y ⊖ p.y) ⊗ (s.y ⊖ p.y ⊗ s.w)

abbrev pub slant_e : LineE → LineE → Expr
slant_e k l = k.a ⊗ l.b ⊖ l.a ⊗ k.b

abbrev pub rise_e : LineE → PlaceE → Expr
rise_e l at = l.c ⊗ at.w ⊖ l.a ⊗ at.x
