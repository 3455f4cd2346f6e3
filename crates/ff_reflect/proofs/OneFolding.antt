-- A list of faces has at most one folding.
use Rattle.std.proofs.Common.{◌≡◌, ℕ, ◌<◌, ◌≤◌, arith, refl, sym, ap, ◌∙◌, subst, true, Bool, List, length, ℤ, pos, ◌*ℤ◌, ◌*◌, ◌+ℤ◌, ◌-ℤ◌, ◌<ℤ◌, unsigned_abs, [], ◌∷◌}
use Prim.Native.Nat.{◌∣◌}
use lib.IntN.{*ℤ-zero}
use Rattle.std.proofs.lemmas.Int.{ints, unsigned_abs-mul}
use Rattle.std.proofs.lemmas.Nat.Gcd.{dvd_antisymm}
use Rattle.std.proofs.Math.Nat.{dvd-mul_right}
use Rattle.std.proofs.lemmas.List.{ext_get_or, get_or_past}
use Rattle.std.specs.List.{Contains}
use Rattle.ff_whole.specs.declared.points.Pt.{Pt}
use Rattle.ff_whole.specs.Points.{origin, turn}
use Rattle.ff_whole.specs.Convex.{point_at}
use Rattle.ff_whole.proofs.Signs.{cancel_left}
use Rattle.ff_whole.proofs.Ring.{var, ◌⊗◌, solve}
use Rattle.ff_types.specs.Patterns.{edge_at}
use Rattle.ff_types.specs.Faces.{ring_at, mark_at, IsChain}
use Rattle.ff_types.specs.Foldings.{is_up, scaled, spread, signed, FitFlags, KeepsShape}
use Rattle.ff_types.specs.Placing.{Meeting}
use Rattle.ff_reflect.specs.Images.{image_x, image_y}
use Rattle.ff_reflect.specs.Standing.{IsLeast}
use Rattle.ff_reflect.specs.Laws.{IsSameFolding}
use Rattle.ff_reflect.specs.Sheets.{Paper, HasFaces}
use Rattle.ff_reflect.proofs.Cases.{by_below}
use Rattle.ff_reflect.proofs.Shapes.{IsImage, image_from_shape, linear_x, linear_y}
use Rattle.ff_reflect.proofs.Growth.{least_from_none}
use Rattle.ff_reflect.proofs.Across.{shared_met, no_border, vertex_in_ring}
use Rattle.ff_reflect.proofs.Foldings.{Folds, fit_one, folds_shape, ends_apart, place_in, ends_in, IsKnown, known_of, folds_flags}

-- what holds of face 0, and of a face met from one of which it holds, holds of all faces
along_faces : (paper : Paper) → HasFaces paper → (P : ℕ → Type 0) → P 0 → ((m : Meeting) → IsKnown paper m → P m.face → P m.across)
    → (f : ℕ) → f < length paper.rings → P f
along_faces paper h P first step f l =
    let a = h.faces in let r = a.rings_are in
    let c = r.chained 0 f (omega (arith, l)) l in
    go c.0 0 (omega (arith, l)) first c.1
  where
    go : (chain : List ℕ) (g : ℕ) → g < length paper.rings → P g → IsChain paper.rings g chain f → P f
    go [] g l p e = subst P e p
    go (x ∷ chain) g l p k =
        let m = shared_met paper h g x l k.0 k.1 in
        go chain x k.0 (step _ (known_of paper h g _ m.1) p) k.2

-- two foldings have the same flags
one_flag : (paper : Paper) → HasFaces paper → (d : ℤ) (images : List Pt) (up : List Bool) → Folds paper d images up
    → (e : ℤ) (others : List Pt) (flags : List Bool) → Folds paper e others flags → (f : ℕ) → f < length paper.rings → is_up up f ≡ is_up flags f
one_flag paper h d images up fold e others flags gold = along_faces paper h (λ f. is_up up f ≡ is_up flags f) (fold.first_up ∙ sym gold.first_up)
    (λ m k same. fit_one (mark_at paper.marks m.edge) (is_up up m.face) (is_up up m.across) (is_up flags m.across)
    (no_border paper h m.edge m.face m.across k.edge k.sides_are) (folds_flags paper d images up h fold m k)
    (λ n. n (subst (λ b. FitFlags (mark_at paper.marks m.edge) b (is_up flags m.across)) (sym same) (folds_flags paper e others flags h gold m k))))

-- and, times the other's scale, the same points
record AreRatio (d e : ℤ) (p q : Pt) : Type 0 where
  x : e *ℤ p.x ≡ d *ℤ q.x
  y : e *ℤ p.y ≡ d *ℤ q.y

-- the images of a third point are in the ratio of the two first ones' images
third_ratio : (d e : ℤ) (up : Bool) (p q r u v w a b c : Pt) → pos 0 <ℤ spread p q q → AreRatio d e u a → AreRatio d e v b
    → IsImage up p q r u v w → IsImage up p q r a b c → AreRatio d e w c
third_ratio d e up p q r u v w a b c h ru rv iw ic = record {
  x = cancel_left (spread p q q) (e *ℤ w.x) (d *ℤ c.x) h (out e w.x (image_x up p q r u v) iw.x
      ∙ sym (linear_x e n s t u.x u.y v.x v.y)
      ∙ ap (λ (z : Pt). (n *ℤ z.x) +ℤ ((s *ℤ ((e *ℤ v.x) -ℤ z.x)) -ℤ (t *ℤ ((e *ℤ v.y) -ℤ z.y)))) su
      ∙ ap (λ (z : Pt). (n *ℤ (d *ℤ a.x)) +ℤ ((s *ℤ (z.x -ℤ (d *ℤ a.x))) -ℤ (t *ℤ (z.y -ℤ (d *ℤ a.y))))) sv
      ∙ linear_x d n s t a.x a.y b.x b.y ∙ sym (out d c.x (image_x up p q r a b) ic.x));
  y = cancel_left (spread p q q) (e *ℤ w.y) (d *ℤ c.y) h (out e w.y (image_y up p q r u v) iw.y
      ∙ sym (linear_y e n s t u.x u.y v.x v.y)
      ∙ ap (λ (z : Pt). (n *ℤ z.y) +ℤ ((s *ℤ ((e *ℤ v.y) -ℤ z.y)) +ℤ (t *ℤ ((e *ℤ v.x) -ℤ z.x)))) su
      ∙ ap (λ (z : Pt). (n *ℤ (d *ℤ a.y)) +ℤ ((s *ℤ (z.y -ℤ (d *ℤ a.y))) +ℤ (t *ℤ (z.x -ℤ (d *ℤ a.x))))) sv
      ∙ linear_y d n s t a.x a.y b.x b.y ∙ sym (out d c.y (image_y up p q r a b) ic.y));
}
  where
    n : ℤ
    n = spread p q q

    s : ℤ
    s = spread p q r

    t : ℤ
    t = signed up (turn p q r)

    su : scaled e u ≡ scaled d a
    su = let x = ru.x in let y = ru.y in λ i. record { x = x i; y = y i }

    sv : scaled e v ≡ scaled d b
    sv = let x = rv.x in let y = rv.y in λ i. record { x = x i; y = y i }

    out : (k z i : ℤ) → n *ℤ z ≡ i → n *ℤ (k *ℤ z) ≡ k *ℤ i
    out k z i f = solve (n ∷ k ∷ z ∷ []) (var 0 ⊗ (var 1 ⊗ var 2)) (var 1 ⊗ (var 0 ⊗ var 2)) refl ∙ ap (λ j. k *ℤ j) f

one_ratio : (paper : Paper) → HasFaces paper → (d : ℤ) (images : List Pt) (up : List Bool) → Folds paper d images up
    → (e : ℤ) (others : List Pt) (flags : List Bool) → Folds paper e others flags
    → (f : ℕ) → f < length paper.rings → (v : ℕ) → Contains (ring_at paper.rings f) v → AreRatio d e (point_at images v) (point_at others v)
one_ratio paper h d images up fold e others flags gold =
    along_faces paper h (λ f. (v : ℕ) → Contains (ring_at paper.rings f) v → AreRatio d e (point_at images v) (point_at others v)) first step
  where
    first : (v : ℕ) → Contains (ring_at paper.rings 0) v → AreRatio d e (point_at images v) (point_at others v)
    first v c =
        let i = place_in (ring_at paper.rings 0) v c in
        let q = point_at paper.points v in
        let at = subst (λ n. point_at images n ≡ scaled d (point_at paper.points n)) i.2 (fold.first_stays i.0 i.1) in
        let bt = subst (λ n. point_at others n ≡ scaled e (point_at paper.points n)) i.2 (gold.first_stays i.0 i.1) in
        let go = λ (z : ℤ). solve (e ∷ d ∷ z ∷ []) (var 0 ⊗ (var 1 ⊗ var 2)) (var 1 ⊗ (var 0 ⊗ var 2)) refl in
        record { x = ap (λ (z : Pt). e *ℤ z.x) at ∙ go q.x ∙ sym (ap (λ (z : Pt). d *ℤ z.x) bt); y = ap (λ (z : Pt). e *ℤ z.y) at ∙ go q.y ∙ sym (ap (λ (z : Pt). d *ℤ z.y) bt) }

    step : (m : Meeting) → IsKnown paper m → ((v : ℕ) → Contains (ring_at paper.rings m.face) v → AreRatio d e (point_at images v) (point_at others v))
        → (v : ℕ) → Contains (ring_at paper.rings m.across) v → AreRatio d e (point_at images v) (point_at others v)
    step m k below v cv =
        let x = edge_at paper.edges m.edge in
        let b = k.faces in
        let ends = ends_in paper.rings x m.face m.across b in
        let flag = one_flag paper h d images up fold e others flags gold m.across b.second in
        let dp : pos 0 <ℤ d = (let q = fold.positive in omega (arith, ints)) in
        let ep : pos 0 <ℤ e = (let q = gold.positive in omega (arith, ints)) in
        let one = λ (w : ℕ) (cw : Contains (ring_at paper.rings m.across) w). folds_shape paper d images up fold m.across x.a x.b w b.second ends.1.0 ends.1.1 cw in
        let two = λ (w : ℕ) (cw : Contains (ring_at paper.rings m.across) w).
        subst (λ u. KeepsShape e u (point_at paper.points x.a) (point_at paper.points x.b) (point_at paper.points w) (point_at others x.a) (point_at others x.b) (point_at others w)) (sym flag)
        (folds_shape paper e others flags gold m.across x.a x.b w b.second ends.1.0 ends.1.1 cw) in
        third_ratio d e (is_up up m.across) _ _ (point_at paper.points v) _ _ _ _ _ _ (ends_apart paper h m.edge k.edge) (below x.a ends.0.0) (below x.b ends.0.1)
        (image_from_shape d (is_up up m.across) _ _ _ _ _ _ dp (one x.b ends.1.1) (one v cv))
        (image_from_shape e (is_up up m.across) _ _ _ _ _ _ ep (two x.b ends.1.1) (two v cv))

-- all vertices, also numbers past them
all_ratio : (paper : Paper) → HasFaces paper → (d : ℤ) (images : List Pt) (up : List Bool) → Folds paper d images up
    → (e : ℤ) (others : List Pt) (flags : List Bool) → Folds paper e others flags → (v : ℕ) → AreRatio d e (point_at images v) (point_at others v)
all_ratio paper h d images up fold e others flags gold v = by_below v (length paper.points)
    (λ l. let f = vertex_in_ring paper h v l in one_ratio paper h d images up fold e others flags gold f.0 f.1 v f.2)
    (λ l. let a = get_or_past images v origin (subst (λ n. n ≤ v) (sym fold.as_many_points) l) in
    let b = get_or_past others v origin (subst (λ n. n ≤ v) (sym gold.as_many_points) l) in
    rw (a, b) (record { x = *ℤ-zero e ∙ sym (*ℤ-zero d); y = *ℤ-zero e ∙ sym (*ℤ-zero d) }))

-- the scale divides the other's
scale_divides : (d e : ℤ) (images others : List Pt) → IsLeast d images → ((v : ℕ) → AreRatio d e (point_at images v) (point_at others v)) → unsigned_abs d ∣ unsigned_abs e
scale_divides d e images others least ratio = least (unsigned_abs e) (λ v. let r = ratio v in (go _ _ r.x, go _ _ r.y)) where
  go : (a b : ℤ) → e *ℤ a ≡ d *ℤ b → unsigned_abs d ∣ unsigned_abs e * unsigned_abs a
  go a b f = subst (λ n. unsigned_abs d ∣ n) (sym (unsigned_abs-mul d b) ∙ ap unsigned_abs (sym f) ∙ unsigned_abs-mul e a) (dvd-mul_right (unsigned_abs d) (unsigned_abs b))

ratio_turned : (d e : ℤ) (p q : Pt) → AreRatio d e p q → AreRatio e d q p
ratio_turned d e p q r = record { x = sym r.x; y = sym r.y }

pub one_folding : (paper : Paper) → HasFaces paper → (d : ℤ) (images : List Pt) (up : List Bool) → Folds paper d images up
    → (e : ℤ) (others : List Pt) (flags : List Bool) → Folds paper e others flags → IsSameFolding d images up e others flags
one_folding paper h d images up fold e others flags gold = record {
  scale = same;
  points = ext_get_or origin images others (fold.as_many_points ∙ sym gold.as_many_points) (λ v l. at v);
  flags_too = ext_get_or true up flags (fold.as_many_flags ∙ sym gold.as_many_flags)
      (λ f l. one_flag paper h d images up fold e others flags gold f (subst (λ n. f < n) fold.as_many_flags l));
}
  where
    dp : pos 0 <ℤ d
    dp = let q = fold.positive in omega (arith, ints)

    ep : pos 0 <ℤ e
    ep = let q = gold.positive in omega (arith, ints)

    ratio : (v : ℕ) → AreRatio d e (point_at images v) (point_at others v)
    ratio v = all_ratio paper h d images up fold e others flags gold v

    sizes : unsigned_abs d ≡ unsigned_abs e
    sizes = dvd_antisymm (scale_divides d e images others (least_from_none d images dp fold.least) ratio)
        (scale_divides e d others images (least_from_none e others ep gold.least) (λ v. ratio_turned d e _ _ (ratio v)))

    whole : (a b : ℤ) → pos 0 <ℤ a → pos 0 <ℤ b → unsigned_abs a ≡ unsigned_abs b → a ≡ b
    whole a b f g q = omega (arith, ints)

    same : d ≡ e
    same = whole d e dp ep sizes

    at : (v : ℕ) → point_at images v ≡ point_at others v
    at v = let r = ratio v in
        let x = cancel_left e _ _ ep (r.x ∙ ap (λ z. z *ℤ (point_at others v).x) same) in
        let y = cancel_left e _ _ ep (r.y ∙ ap (λ z. z *ℤ (point_at others v).y) same) in
        λ i. record { x = x i; y = y i }
