-- From a point to a place, times the denominator: heights and pasts are its cross and dot products.
use Rattle.std.proofs.Common.{◌≡◌, refl, ◌+ℤ◌, ◌-ℤ◌, ◌*ℤ◌, []}
use Rattle.ff_whole.proofs.Formulas.{PointE, point_e, point_env, minus_e, dot_e, cross_e, LineE, line_e, line_env, PlaceE, place_e, place_env, place_of_e, through_e, height_e, past_e}
use Rattle.ff_whole.proofs.Ring.{◌⊕◌, ◌⊖◌, ◌⊗◌, solve}
use Rattle.ff_whole.specs.Points.{minus, dot, cross}
use Rattle.ff_whole.specs.Places.{place_of, through, height, past}
use Rattle.ff_whole.specs.declared.points.Pt.{Pt}
use Rattle.ff_whole.specs.declared.lines.Line.{Line}
use Rattle.ff_whole.specs.declared.places.Place.{Place}

-- from p to the place. So `past p q m` is `dot (minus q p) (off m p)` by definition
abbrev pub off : Place → Pt → Pt
off m p = record { x = m.x -ℤ (p.x *ℤ m.w); y = m.y -ℤ (p.y *ℤ m.w) }

-- the same as expressions
abbrev pub off_e : PlaceE → PointE → PointE
off_e m p = record { x = m.x ⊖ p.x ⊗ m.w; y = m.y ⊖ p.y ⊗ m.w }

-- a height over the line through p and q is a cross product
pub height-off : (p q : Pt) (m : Place) → height (through p q) m ≡ cross (minus q p) (off m p)
height-off p q m =
    let p' = point_e 0 in let q' = point_e 2 in let m' = place_e 4 in
    solve (point_env p (point_env q (place_env m []))) (height_e (through_e p' q') m') (cross_e (minus_e q' p') (off_e m' p')) refl

-- from another point
pub cross-off : (u p q : Pt) (m : Place) → cross u (off m q) ≡ cross u (off m p) -ℤ cross u (minus q p) *ℤ m.w
cross-off u p q m =
    let u' = point_e 0 in let p' = point_e 2 in let q' = point_e 4 in let m' = place_e 6 in
    solve (point_env u (point_env p (point_env q (place_env m [])))) (cross_e u' (off_e m' q')) (cross_e u' (off_e m' p') ⊖ cross_e u' (minus_e q' p') ⊗ m'.w) refl

-- the same along u
pub dot-off : (u p q : Pt) (m : Place) → dot u (off m q) ≡ dot u (off m p) -ℤ dot u (minus q p) *ℤ m.w
dot-off u p q m =
    let u' = point_e 0 in let p' = point_e 2 in let q' = point_e 4 in let m' = place_e 6 in
    solve (point_env u (point_env p (point_env q (place_env m [])))) (dot_e u' (off_e m' q')) (dot_e u' (off_e m' p') ⊖ dot_e u' (minus_e q' p') ⊗ m'.w) refl

-- seen from the place
pub offs-cross : (p q : Pt) (m : Place) → cross (off m p) (off m q) ≡ m.w *ℤ height (through p q) m
offs-cross p q m =
    let p' = point_e 0 in let q' = point_e 2 in let m' = place_e 4 in
    solve (point_env p (point_env q (place_env m []))) (cross_e (off_e m' p') (off_e m' q')) (m'.w ⊗ height_e (through_e p' q') m') refl

-- and how far past p it is, times the denominator
pub offs-dot : (p q : Pt) (m : Place) → m.w *ℤ past p q m ≡ dot (off m p) (off m p) -ℤ dot (off m p) (off m q)
offs-dot p q m =
    let p' = point_e 0 in let q' = point_e 2 in let m' = place_e 4 in
    solve (point_env p (point_env q (place_env m []))) (m'.w ⊗ past_e p' q' m') (dot_e (off_e m' p') (off_e m' p') ⊖ dot_e (off_e m' p') (off_e m' q')) refl

-- ---- a place in the coordinates along and across the way from p to q

-- how far past p and how far before q add up to the square of the way
pub past-sum : (p q : Pt) (m : Place) → past p q m +ℤ past q p m ≡ dot (minus q p) (minus q p) *ℤ m.w
past-sum p q m =
    let p' = point_e 0 in let q' = point_e 2 in let m' = place_e 4 in
    solve (point_env p (point_env q (place_env m []))) (past_e p' q' m' ⊕ past_e q' p' m') (dot_e (minus_e q' p') (minus_e q' p') ⊗ m'.w) refl

-- the ends, each times how far the place is from the other one, are the place but for what is across
pub past-x : (p q : Pt) (m : Place)
    → past p q m *ℤ q.x +ℤ past q p m *ℤ p.x ≡ dot (minus q p) (minus q p) *ℤ m.x +ℤ height (through p q) m *ℤ (q.y -ℤ p.y)
past-x p q m =
    let p' = point_e 0 in let q' = point_e 2 in let m' = place_e 4 in
    solve (point_env p (point_env q (place_env m []))) (past_e p' q' m' ⊗ q'.x ⊕ past_e q' p' m' ⊗ p'.x)
    (dot_e (minus_e q' p') (minus_e q' p') ⊗ m'.x ⊕ height_e (through_e p' q') m' ⊗ (q'.y ⊖ p'.y)) refl

-- the same in y
pub past-y : (p q : Pt) (m : Place)
    → past p q m *ℤ q.y +ℤ past q p m *ℤ p.y ≡ dot (minus q p) (minus q p) *ℤ m.y -ℤ height (through p q) m *ℤ (q.x -ℤ p.x)
past-y p q m =
    let p' = point_e 0 in let q' = point_e 2 in let m' = place_e 4 in
    solve (point_env p (point_env q (place_env m []))) (past_e p' q' m' ⊗ q'.y ⊕ past_e q' p' m' ⊗ p'.y)
    (dot_e (minus_e q' p') (minus_e q' p') ⊗ m'.y ⊖ height_e (through_e p' q') m' ⊗ (q'.x ⊖ p'.x)) refl

-- any line's height from those of an end: across, along, and there
pub height-past : (l : Line) (p q : Pt) (m : Place) → dot (minus q p) (minus q p) *ℤ height l m
    ≡ (l.b *ℤ (q.x -ℤ p.x) -ℤ l.a *ℤ (q.y -ℤ p.y)) *ℤ height (through p q) m +ℤ (l.a *ℤ (q.x -ℤ p.x) +ℤ l.b *ℤ (q.y -ℤ p.y)) *ℤ past p q m
    +ℤ dot (minus q p) (minus q p) *ℤ m.w *ℤ height l (place_of p)
height-past l p q m =
    let l' = line_e 0 in let p' = point_e 3 in let q' = point_e 5 in let m' = place_e 7 in
    let d' = dot_e (minus_e q' p') (minus_e q' p') in
    solve (line_env l (point_env p (point_env q (place_env m [])))) (d' ⊗ height_e l' m')
    ((l'.b ⊗ (q'.x ⊖ p'.x) ⊖ l'.a ⊗ (q'.y ⊖ p'.y)) ⊗ height_e (through_e p' q') m' ⊕ (l'.a ⊗ (q'.x ⊖ p'.x) ⊕ l'.b ⊗ (q'.y ⊖ p'.y)) ⊗ past_e p' q' m'
    ⊕ d' ⊗ m'.w ⊗ height_e l' (place_of_e p')) refl

-- any line's height from those of both ends, where the place is on the way: times how far it is from the other one
pub height-ends : (l : Line) (p q : Pt) (m : Place)
    → past p q m *ℤ height l (place_of q) +ℤ past q p m *ℤ height l (place_of p)
    ≡ dot (minus q p) (minus q p) *ℤ height l m -ℤ (l.b *ℤ (q.x -ℤ p.x) -ℤ l.a *ℤ (q.y -ℤ p.y)) *ℤ height (through p q) m
height-ends l p q m =
    let l' = line_e 0 in let p' = point_e 3 in let q' = point_e 5 in let m' = place_e 7 in
    solve (line_env l (point_env p (point_env q (place_env m [])))) (past_e p' q' m' ⊗ height_e l' (place_of_e q') ⊕ past_e q' p' m' ⊗ height_e l' (place_of_e p'))
    (dot_e (minus_e q' p') (minus_e q' p') ⊗ height_e l' m' ⊖ (l'.b ⊗ (q'.x ⊖ p'.x) ⊖ l'.a ⊗ (q'.y ⊖ p'.y)) ⊗ height_e (through_e p' q') m') refl

-- ---- past is a height: over the line across the way, so that every law of lines speaks of it

-- the line through p across the way from p to q, with q on its left
abbrev pub line_across : Pt → Pt → Line
line_across p q = record { a = q.x -ℤ p.x; b = q.y -ℤ p.y; c = (q.x -ℤ p.x) *ℤ p.x +ℤ (q.y -ℤ p.y) *ℤ p.y }

-- the height over it is how far past p a place is
pub height-across : (p q : Pt) (m : Place) → height (line_across p q) m ≡ past p q m
height-across p q m =
    let p' = point_e 0 in let q' = point_e 2 in let m' = place_e 4 in
    let across : LineE = record { a = q'.x ⊖ p'.x; b = q'.y ⊖ p'.y; c = (q'.x ⊖ p'.x) ⊗ p'.x ⊕ (q'.y ⊖ p'.y) ⊗ p'.y } in
    solve (point_env p (point_env q (place_env m []))) (height_e across m') (past_e p' q' m') refl
