-- What two ways have in common: on one line, from the later of their first points to the earlier of their last ones.
use Rattle.std.proofs.Common.{◌≡◌, ◌≢◌, ◌⊎◌, inl, inr, refl, sym, ap, ◌∙◌, subst, arith, ◌+◌, ℤ, pos, negsuc, ◌+ℤ◌, ◌-ℤ◌, ◌*ℤ◌, ◌<ℤ◌, ◌≤ℤ◌, IsTrue, [], ◌∷◌}
use lib.IntN.{neg_ℤ, *ℤ-zero}
use Rattle.std.proofs.lemmas.Int.{by_lt_z}
use Rattle.std.proofs.lemmas.Bool.Decides.{Decides-int_eq}
use Rattle.ff_basics.proofs.Tests.{of_both}
use Rattle.ff_whole.specs.declared.points.Pt.{Pt}
use Rattle.ff_whole.specs.declared.lines.Line.{Line}
use Rattle.ff_whole.specs.declared.places.Place.{Place}
use Rattle.ff_whole.specs.declared.sizes.TheConstants.{POINT_SIZE}
use Rattle.ff_whole.specs.Points.{IsNear, minus, dot, cross, turn}
use Rattle.ff_whole.specs.Places.{IsPlace, place_of, through, height, past, slant, same_place}
use Rattle.ff_whole.specs.Turning.{rank}
use Rattle.ff_whole.proofs.Formulas.{point_e, point_env, line_e, line_env, place_e, place_env, minus_e, cross_e, through_e, slant_e}
use Rattle.ff_whole.proofs.Ring.{var, num, ◌⊕◌, ◌⊖◌, ◌⊗◌, opp, solve, solve_from}
use Rattle.ff_whole.proofs.Signs.{linear, le-mul_left, by_sign, zero-mul, zero_from_mul, zero_product, pos-mul}
use Rattle.ff_whole.proofs.ThreeTerms.{along_x, along_y, nothing, cross-step, parallel-both}
use Rattle.ff_whole.proofs.Images.{distance_positive}
use Rattle.ff_whole.proofs.Turns.{height-through, height-back}
use Rattle.ff_whole.proofs.Offsets.{off, height-off, cross-off, height-past}
use Rattle.ff_whole.proofs.OnEdges.{IsOn}
use Rattle.ff_whole.proofs.Directions.{rank-minus}
use Rattle.ff_whole.proofs.Ranks.{rank-same}
use Rattle.ff_whole.proofs.SharedPlaces.{one_place}
use Rattle.ff_edges.specs.Ways.{IsCommonWay, HaveNoWay, IsEarlier, IsLater}
use Rattle.ff_edges.proofs.OnWays.{on_from, to_on, turned, rank_at, IsRanked, ranked_from_on, on_from_ranked, same_line}

-- ---- the points of a way in the order of x and then of y

-- lo and hi are p and q in order
pub record IsSpan (p q lo hi : Pt) : Type 0 where
  pub goes : rank lo <ℤ rank hi
  pub ends : ((lo ≡ p) × (hi ≡ q)) ⊎ ((lo ≡ q) × (hi ≡ p))

-- the earlier and the later of two different points
pub span_of : (a b lo hi : Pt) → IsNear a → IsNear b → a ≢ b → IsEarlier a b lo → IsLater a b hi → IsSpan a b lo hi
span_of a b lo hi p q apart e l = by e.one l.one where
  differ : rank a ≡ rank b → ⊥
  differ r = apart (rank-same a b p q r)

  by : (lo ≡ a) ⊎ (lo ≡ b) → (hi ≡ a) ⊎ (hi ≡ b) → IsSpan a b lo hi
  by (inl x) (inl y) =
      let u = ap rank x in let v = ap rank y in let e2 = e.second in let l2 = l.second in
      absurd (differ (omega (arith, linear)))
  by (inl x) (inr y) = record { goes = order x y; ends = inl (x, y) } where
    order : lo ≡ a → hi ≡ b → rank lo <ℤ rank hi
    order x y =
        let u = ap rank x in let v = ap rank y in let e2 = e.second in let l1 = l.first in
        by_lt_z (rank lo) (rank hi) (λ m. m) (λ m. absurd (differ (omega (arith, linear))))
  by (inr x) (inl y) = record { goes = order x y; ends = inr (x, y) } where
    order : lo ≡ b → hi ≡ a → rank lo <ℤ rank hi
    order x y =
        let u = ap rank x in let v = ap rank y in let e1 = e.first in let l2 = l.second in
        by_lt_z (rank lo) (rank hi) (λ m. m) (λ m. absurd (differ (omega (arith, linear))))
  by (inr x) (inr y) =
      let u = ap rank x in let v = ap rank y in let e1 = e.first in let l1 = l.first in
      absurd (differ (omega (arith, linear)))

pub apart_from_rank : (p q : Pt) → rank p <ℤ rank q → p ≢ q
apart_from_rank p q h e = let r : rank p ≡ rank q = ap rank e in omega (arith, linear)

pub long_of_rank : (p q : Pt) → rank p <ℤ rank q → pos 0 <ℤ dot (minus q p) (minus q p)
long_of_rank p q h = distance_positive p q (apart_from_rank p q h)

module _ (a b lo hi : Pt) (span : IsSpan a b lo hi) (s : Place) where
  pub span_from : IsOn a b s → IsRanked lo hi s
  span_from h = ranked_from_on lo hi s (long_of_rank lo hi span.goes) span.goes (by span.ends) where
    by : ((lo ≡ a) × (hi ≡ b)) ⊎ ((lo ≡ b) × (hi ≡ a)) → IsOn lo hi s
    by (inl e) = subst (λ p. IsOn p hi s) (sym e.0) (subst (λ q. IsOn a q s) (sym e.1) h)
    by (inr e) = subst (λ p. IsOn p hi s) (sym e.0) (subst (λ q. IsOn b q s) (sym e.1) (turned a b s h))

  pub span_to : IsRanked lo hi s → IsOn a b s
  span_to h = by span.ends (on_from_ranked lo hi s (long_of_rank lo hi span.goes) span.goes h) where
    by : ((lo ≡ a) × (hi ≡ b)) ⊎ ((lo ≡ b) × (hi ≡ a)) → IsOn lo hi s → IsOn a b s
    by (inl e) h = subst (λ p. IsOn p b s) e.0 (subst (λ q. IsOn lo q s) e.1 h)
    by (inr e) h = turned b a s (subst (λ p. IsOn p a s) e.0 (subst (λ q. IsOn lo q s) e.1 h))

-- a property of both ends
span_both : (a b lo hi : Pt) → IsSpan a b lo hi → (P : Pt → Type 0) → P a → P b → P lo × P hi
span_both a b lo hi s P x y = by s.ends where
  by : ((lo ≡ a) × (hi ≡ b)) ⊎ ((lo ≡ b) × (hi ≡ a)) → P lo × P hi
  by (inl e) = (subst P (sym e.0) x, subst P (sym e.1) y)
  by (inr e) = (subst P (sym e.0) y, subst P (sym e.1) x)

rank_differ : (a b lo hi : Pt) → IsSpan a b lo hi → rank a ≢ rank b
rank_differ a b lo hi s e = by s.ends where
  by : ((lo ≡ a) × (hi ≡ b)) ⊎ ((lo ≡ b) × (hi ≡ a)) → ⊥
  by (inl d) = let goes = s.goes in let x = ap rank d.0 in let y = ap rank d.1 in omega (arith, linear)
  by (inr d) = let goes = s.goes in let x = ap rank d.0 in let y = ap rank d.1 in omega (arith, linear)

-- ---- two ways on one line

own : (a b : Pt) → turn a b a ≡ pos 0
own a b = let a' = point_e 0 in let b' = point_e 2 in
    solve (point_env a (point_env b [])) (cross_e (minus_e b' a') (minus_e a' a')) (num (pos 0)) refl

own_too : (a b : Pt) → turn a b b ≡ pos 0
own_too a b = let a' = point_e 0 in let b' = point_e 2 in
    solve (point_env a (point_env b [])) (cross_e (minus_e b' a') (minus_e b' a')) (num (pos 0)) refl

-- three points of a line have no turn
flat_three : (a b u v p : Pt) → pos 0 <ℤ dot (minus b a) (minus b a) → turn a b u ≡ pos 0 → turn a b v ≡ pos 0 → turn a b p ≡ pos 0
    → turn u v p ≡ pos 0
flat_three a b u v p long x y z =
    let e = cross-step (minus b a) u v a in
    let f = cross-step (minus b a) u p a in
    parallel-both (minus b a) (minus v u) (minus p u) long (omega (arith, linear)) (omega (arith, linear))

one_has : (p q m : Pt) → (m ≡ p) ⊎ (m ≡ q) → (P : Pt → Type 0) → P p → P q → P m
one_has p q m (inl e) P x y = subst P (sym e) x
one_has p q m (inr e) P x y = subst P (sym e) y

weigh : (w r t : ℤ) → pos 0 <ℤ w → r ≤ℤ t → (w *ℤ r) ≤ℤ (w *ℤ t)
weigh w r t h k = le-mul_left w r t (omega (arith, linear)) k

-- a place on the line of a and b with the rank of a point of it is that point
place_by_rank : (a b p : Pt) (s : Place) → a ≢ b → rank a ≢ rank b → turn a b p ≡ pos 0 → height (through a b) s ≡ pos 0 → rank_at s ≡ s.w *ℤ rank p
    → (s.x ≡ p.x *ℤ s.w) × (s.y ≡ p.y *ℤ s.w)
place_by_rank a b p s apart differ level on rank_is =
    let u = minus b a in
    let o = off s p in
    let dd = dot u u in
    let e = height-off a b s in
    let f = cross-off u a p s in
    let g = zero-mul (turn a b p) s.w level in
    let flat : cross u o ≡ pos 0 = omega (arith, linear) in
    let x = along_x u o in
    let y = along_y u o in
    let h = rank_off (pos (POINT_SIZE + POINT_SIZE)) s p in
    let k : pos (POINT_SIZE + POINT_SIZE) *ℤ o.x +ℤ o.y ≡ pos 0 = omega (arith, linear) in
    let m = combined (pos (POINT_SIZE + POINT_SIZE)) dd o.x o.y (dot u o) u.x u.y (cross u o) x y flat k in
    let along : dot u o ≡ pos 0 = elim (zero_product (dot u o) (rank u) m) [ inl z ↦ z | inr z ↦ (let r = rank-minus a b in absurd (differ (omega (arith, linear)))) ] in
    let z = nothing u o (distance_positive a b apart) flat along in
    let z0 = z.0 in let z1 = z.1 in
    (omega (arith, linear), omega (arith, linear))
  where
    rank_off : (n : ℤ) (s : Place) (p : Pt) → n *ℤ (s.x -ℤ p.x *ℤ s.w) +ℤ (s.y -ℤ p.y *ℤ s.w) ≡ (n *ℤ s.x +ℤ s.y) -ℤ s.w *ℤ (n *ℤ p.x +ℤ p.y)
    rank_off n s p = let p' = point_e 0 in let s' = place_e 2 in let n' = var 5 in
        solve (point_env p (place_env s (n ∷ []))) (n' ⊗ (s'.x ⊖ p'.x ⊗ s'.w) ⊕ (s'.y ⊖ p'.y ⊗ s'.w)) ((n' ⊗ s'.x ⊕ s'.y) ⊖ s'.w ⊗ (n' ⊗ p'.x ⊕ p'.y)) refl

    combined : (n dd ox oy t ux uy c : ℤ) → dd *ℤ ox ≡ t *ℤ ux -ℤ c *ℤ uy → dd *ℤ oy ≡ t *ℤ uy +ℤ c *ℤ ux → c ≡ pos 0 → n *ℤ ox +ℤ oy ≡ pos 0 → t *ℤ (n *ℤ ux +ℤ uy) ≡ pos 0
    combined n dd ox oy t ux uy c x y flat k =
        let x0 : dd *ℤ ox -ℤ (t *ℤ ux -ℤ c *ℤ uy) ≡ pos 0 = omega (arith, linear) in
        let y0 : dd *ℤ oy -ℤ (t *ℤ uy +ℤ c *ℤ ux) ≡ pos 0 = omega (arith, linear) in
        solve_from (n ∷ dd ∷ ox ∷ oy ∷ t ∷ ux ∷ uy ∷ c ∷ [])
        (record { by = opp (var 0); zero = var 1 ⊗ var 2 ⊖ (var 4 ⊗ var 5 ⊖ var 7 ⊗ var 6) }
        ∷ record { by = num (negsuc 0); zero = var 1 ⊗ var 3 ⊖ (var 4 ⊗ var 6 ⊕ var 7 ⊗ var 5) }
        ∷ record { by = var 0 ⊗ var 6 ⊖ var 5; zero = var 7 }
        ∷ record { by = var 1; zero = var 0 ⊗ var 2 ⊕ var 3 } ∷ [])
        (var 4 ⊗ (var 0 ⊗ var 5 ⊕ var 6)) (num (pos 0)) refl (x0, (y0, (flat, (k, tt))))

-- the end of a parallel way with a place on the line is on the line
parallel_end : (a b c d : Pt) (s : Place) → IsPlace s → pos 0 <ℤ dot (minus d c) (minus d c) → slant (through a b) (through c d) ≡ pos 0
    → height (through a b) s ≡ pos 0 → height (through c d) s ≡ pos 0 → turn a b c ≡ pos 0
parallel_end a b c d s positive long e x y =
    let l = through a b in
    let dd = dot (minus d c) (minus d c) in
    let f = height-past l c d s in
    let g = height-through a b c in
    let k = l.b *ℤ (d.x -ℤ c.x) -ℤ l.a *ℤ (d.y -ℤ c.y) in
    let m : l.a *ℤ (d.x -ℤ c.x) +ℤ l.b *ℤ (d.y -ℤ c.y) ≡ pos 0 = leads-slant l c d ∙ e in
    let z = zero-mul (l.a *ℤ (d.x -ℤ c.x) +ℤ l.b *ℤ (d.y -ℤ c.y)) (past c d s) m in
    let u : k *ℤ height (through c d) s ≡ pos 0 = ap (λ r. k *ℤ r) y ∙ *ℤ-zero k in
    let v : dd *ℤ height l s ≡ pos 0 = ap (λ r. dd *ℤ r) x ∙ *ℤ-zero dd in
    sym g ∙ zero_from_mul (dd *ℤ s.w) (height l (place_of c)) (pos-mul dd s.w long positive) (omega (arith, linear))
  where
    leads-slant : (l : Line) (c d : Pt) → l.a *ℤ (d.x -ℤ c.x) +ℤ l.b *ℤ (d.y -ℤ c.y) ≡ slant l (through c d)
    leads-slant l c d = let l' = line_e 0 in let c' = point_e 3 in let d' = point_e 5 in
        solve (line_env l (point_env c (point_env d []))) (l'.a ⊗ (d'.x ⊖ c'.x) ⊕ l'.b ⊗ (d'.y ⊖ c'.y)) (slant_e l' (through_e c' d')) refl

slant-back : (a b c d : Pt) → slant (through a b) (through d c) ≡ neg_ℤ (slant (through a b) (through c d))
slant-back a b c d = let a' = point_e 0 in let b' = point_e 2 in let c' = point_e 4 in let d' = point_e 6 in
    solve (point_env a (point_env b (point_env c (point_env d [])))) (slant_e (through_e a' b') (through_e d' c')) (opp (slant_e (through_e a' b') (through_e c' d'))) refl

module _ (a b c d l1 h1 l2 h2 lo hi : Pt) (apart : a ≢ b) (other : c ≢ d) (on_c : turn a b c ≡ pos 0) (on_d : turn a b d ≡ pos 0)
    (ab : IsSpan a b l1 h1) (cd : IsSpan c d l2 h2) (later : IsLater l1 l2 lo) (earlier : IsEarlier h1 h2 hi) where
  long : pos 0 <ℤ dot (minus b a) (minus b a)
  long = distance_positive a b apart

  -- all of them are on the line
  abbrev level : (p : Pt) → Type 0
  level p = turn a b p ≡ pos 0

  ends1 : level l1 × level h1
  ends1 = span_both a b l1 h1 ab level (own a b) (own_too a b)

  ends2 : level l2 × level h2
  ends2 = span_both c d l2 h2 cd level on_c on_d

  lo_on : level lo
  lo_on = one_has l1 l2 lo later.one level ends1.0 ends2.0

  hi_on : level hi
  hi_on = one_has h1 h2 hi earlier.one level ends1.1 ends2.1

  -- the line through two different ones of them holds what the line through two others holds
  carry : (p q u v : Pt) (s : Place) → p ≢ q → level p → level q → level u → level v → height (through p q) s ≡ pos 0 → height (through u v) s ≡ pos 0
  carry p q u v s ne x y z w on =
      same_line p q u v s (distance_positive p q ne) (flat u v p z w x) (flat u v q z w y) on
    where
      flat : (u v p : Pt) → level u → level v → level p → turn u v p ≡ pos 0
      flat u v p x y z = flat_three a b u v p long x y z

  module _ (s : Place) (positive : IsPlace s) where
    ranked_lo : (w : ℤ) → pos 0 <ℤ w → (z : ℤ) → (w *ℤ rank l1) ≤ℤ z → (w *ℤ rank l2) ≤ℤ z → (w *ℤ rank lo) ≤ℤ z
    ranked_lo w h z x y = one_has l1 l2 lo later.one (λ p. (w *ℤ rank p) ≤ℤ z) x y

    ranked_hi : (w : ℤ) → pos 0 <ℤ w → (z : ℤ) → z ≤ℤ (w *ℤ rank h1) → z ≤ℤ (w *ℤ rank h2) → z ≤ℤ (w *ℤ rank hi)
    ranked_hi w h z x y = one_has h1 h2 hi earlier.one (λ p. z ≤ℤ (w *ℤ rank p)) x y

    -- what is on both ways lies between lo and hi
    pub between : IsOn a b s → IsOn c d s → ((s.w *ℤ rank lo) ≤ℤ rank_at s) × (rank_at s ≤ℤ (s.w *ℤ rank hi))
    between x y =
        let u = span_from a b l1 h1 ab s x in
        let v = span_from c d l2 h2 cd s y in
        (ranked_lo s.w positive (rank_at s) u.low v.low, ranked_hi s.w positive (rank_at s) u.high v.high)

    pub to_common : rank lo <ℤ rank hi → IsOn a b s → IsOn c d s → IsOn lo hi s
    to_common goes x y = on_from_ranked lo hi s (long_of_rank lo hi goes) goes (record { on = carry a b lo hi s apart (own a b) (own_too a b) lo_on hi_on x.on; low = (between x y).0; high = (between x y).1 })

    pub from_common : rank lo <ℤ rank hi → IsOn lo hi s → IsOn a b s × IsOn c d s
    from_common goes x =
        let r = ranked_from_on lo hi s (long_of_rank lo hi goes) goes x in
        let ne = apart_from_rank lo hi goes in
        let low = r.low in let high = r.high in
        let i = weigh s.w (rank l1) (rank lo) positive later.first in
        let j = weigh s.w (rank l2) (rank lo) positive later.second in
        let k = weigh s.w (rank hi) (rank h1) positive earlier.first in
        let l = weigh s.w (rank hi) (rank h2) positive earlier.second in (
          span_to a b l1 h1 ab s (record { on = carry lo hi l1 h1 s ne lo_on hi_on ends1.0 ends1.1 r.on; low = omega (arith, linear); high = omega (arith, linear) }),
          span_to c d l2 h2 cd s (record { on = carry lo hi l2 h2 s ne lo_on hi_on ends2.0 ends2.1 r.on; low = omega (arith, linear); high = omega (arith, linear) }),
        )

  pub common_way : IsNear lo → IsNear hi → rank lo <ℤ rank hi → IsCommonWay a b c d lo hi
  common_way p q goes = record {
    p_near = p;
    q_near = q;
    goes = goes;
    common = λ s positive. (
      (λ t. let r = from_common s positive goes (on_from lo hi s t) in (to_on a b s r.0, to_on c d s r.1)),
      (λ t. to_on lo hi s (to_common s positive goes (on_from a b s t.0) (on_from c d s t.1))),
    );
  }

  -- a place on both is lo, where lo isn't before hi
  at_lo : rank hi ≤ℤ rank lo → (s : Place) → IsPlace s → IsOn a b s → IsOn c d s → (s.x ≡ lo.x *ℤ s.w) × (s.y ≡ lo.y *ℤ s.w)
  at_lo late s positive x y =
      let r = between s positive x y in
      let low = r.0 in let high = r.1 in
      let w = weigh s.w (rank hi) (rank lo) positive late in
      place_by_rank a b lo s apart (rank_differ a b l1 h1 ab) lo_on x.on (omega (arith, linear))

  pub no_way : rank hi ≤ℤ rank lo → HaveNoWay a b c d
  no_way late s t sp tp sa sc ta tc =
      let x = at_lo late s sp (on_from a b s sa) (on_from c d s sc) in
      let y = at_lo late t tp (on_from a b t ta) (on_from c d t tc) in
      of_both _ _ ((Decides-int_eq _ _).1 (cross_same s.x t.x lo.x s.w t.w x.0 y.0)) ((Decides-int_eq _ _).1 (cross_same s.y t.y lo.y s.w t.w x.1 y.1))
    where
      cross_same : (x y l w v : ℤ) → x ≡ l *ℤ w → y ≡ l *ℤ v → x *ℤ v ≡ y *ℤ w
      cross_same x y l w v e f = ap (λ z. z *ℤ v) e ∙ solve (l ∷ w ∷ v ∷ []) (var 0 ⊗ var 1 ⊗ var 2) (var 0 ⊗ var 2 ⊗ var 1) refl ∙ sym (ap (λ z. z *ℤ w) f)

-- ---- two ways that aren't on one line

pub off_line : (a b c d : Pt) → a ≢ b → c ≢ d → (turn a b c ≢ pos 0) ⊎ (turn a b d ≢ pos 0) → HaveNoWay a b c d
off_line a b c d apart other h s t sp tp sa sc ta tc =
    let x = on_from a b s sa in let y = on_from c d s sc in
    let z = on_from a b t ta in let w = on_from c d t tc in
    by_sign (slant (through a b) (through c d))
    (λ n. same (one_place (through a b) (through c d) s t (λ e. omega (arith, linear)) x.on y.on z.on w.on))
    (λ e. absurd (level e x.on y.on))
    (λ n. same (one_place (through a b) (through c d) s t (λ e. omega (arith, linear)) x.on y.on z.on w.on))
  where
    same : (s.x *ℤ t.w ≡ t.x *ℤ s.w) × (s.y *ℤ t.w ≡ t.y *ℤ s.w) → IsTrue (same_place s t)
    same e = of_both _ _ ((Decides-int_eq _ _).1 e.0) ((Decides-int_eq _ _).1 e.1)

    -- parallel, with a common place: c and d are on the line through a and b
    level : slant (through a b) (through c d) ≡ pos 0 → height (through a b) s ≡ pos 0 → height (through c d) s ≡ pos 0 → ⊥
    level e x y = elim h [ inl n ↦ n (on_first e x y) | inr n ↦ n (on_second e x y) ] where
      on_first : slant (through a b) (through c d) ≡ pos 0 → height (through a b) s ≡ pos 0 → height (through c d) s ≡ pos 0 → turn a b c ≡ pos 0
      on_first e x y = parallel_end a b c d s sp (distance_positive c d other) e x y

      on_second : slant (through a b) (through c d) ≡ pos 0 → height (through a b) s ≡ pos 0 → height (through c d) s ≡ pos 0 → turn a b d ≡ pos 0
      on_second e x y =
          let f = slant-back a b c d in let g = height-back c d s in
          parallel_end a b d c s sp (distance_positive d c (λ r. other (sym r))) (omega (arith, linear)) x (omega (arith, linear))

-- not both are 0
pub either_off : (x y : ℤ) → ((x ≡ pos 0) × (y ≡ pos 0) → ⊥) → (x ≢ pos 0) ⊎ (y ≢ pos 0)
either_off x y n = by_sign x
    (λ l. inl (λ e. omega (arith, linear)))
    (λ e. inr (λ f. n (e, f)))
    (λ l. inl (λ e. omega (arith, linear)))

-- ---- either there is a common way, or none

earlier_of : (a b : Pt) → IsNear a → IsNear b → (m : Pt) × IsEarlier a b m
earlier_of a b p q = by_lt_z (rank a) (rank b)
    (λ l. (a, record { near = p; first = omega (arith, linear); second = omega (arith, linear); one = inl refl }))
    (λ l. (b, record { near = q; first = l; second = omega (arith, linear); one = inr refl }))

later_of : (a b : Pt) → IsNear a → IsNear b → (m : Pt) × IsLater a b m
later_of a b p q = by_lt_z (rank a) (rank b)
    (λ l. (b, record { near = q; first = omega (arith, linear); second = omega (arith, linear); one = inr refl }))
    (λ l. (a, record { near = p; first = omega (arith, linear); second = l; one = inl refl }))

pub way_or_not : (a b c d : Pt) → IsNear a → IsNear b → IsNear c → IsNear d → a ≢ b → c ≢ d
    → ((p : Pt) × (q : Pt) × IsCommonWay a b c d p q) ⊎ HaveNoWay a b c d
way_or_not a b c d an bn cn dn apart other =
    by_sign (turn a b c)
    (λ l. inr (off_line a b c d apart other (inl (λ e. omega (arith, linear)))))
    (λ e. by_sign (turn a b d)
    (λ l. inr (off_line a b c d apart other (inr (λ f. omega (arith, linear)))))
    (λ f. on e f)
    (λ l. inr (off_line a b c d apart other (inr (λ f. omega (arith, linear))))))
    (λ l. inr (off_line a b c d apart other (inl (λ e. omega (arith, linear)))))
  where
    on : turn a b c ≡ pos 0 → turn a b d ≡ pos 0 → ((p : Pt) × (q : Pt) × IsCommonWay a b c d p q) ⊎ HaveNoWay a b c d
    on e f =
        let l1 = earlier_of a b an bn in
        let h1 = later_of a b an bn in
        let l2 = earlier_of c d cn dn in
        let h2 = later_of c d cn dn in
        let lo = later_of l1.0 l2.0 l1.1.near l2.1.near in
        let hi = earlier_of h1.0 h2.0 h1.1.near h2.1.near in
        let ab = span_of a b l1.0 h1.0 an bn apart l1.1 h1.1 in
        let cd = span_of c d l2.0 h2.0 cn dn other l2.1 h2.1 in
        by_lt_z (rank lo.0) (rank hi.0)
        (λ g. inl (lo.0, hi.0, common_way a b c d l1.0 h1.0 l2.0 h2.0 lo.0 hi.0 apart other e f ab cd lo.1 hi.1 lo.1.near hi.1.near g))
        (λ g. inr (no_way a b c d l1.0 h1.0 l2.0 h2.0 lo.0 hi.0 apart other e f ab cd lo.1 hi.1 g))
