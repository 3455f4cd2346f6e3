-- Faces have at most one refusal: the placing order, the flags and the places are determined, and so is the first stop.
use Rattle.std.proofs.Common.{◌≡◌, ◌∙◌, ℕ, zero, suc, ◌+◌, ◌<◌, ◌≤◌, ◌⊎◌, inl, inr, List, [], ◌∷◌, ◌++◌, length, Bool, arith, refl, sym, ap, subst, take, slice_get, slice_index_or, Some, IsTrue, ℤ, pos, ◌*ℤ◌, ◌<ℤ◌}
use lib.IntN.{*ℤ_comm}
use Rattle.std.proofs.lemmas.Int.{ints}
use Rattle.std.proofs.lemmas.Bool.{false≢true}
use Rattle.std.proofs.lemmas.List.{take_more, take_all, length-take, get_or-take, get_or_default}
use Rattle.std.specs.List.{Contains}
use Rattle.ff_whole.specs.declared.places.Place.{Place}
use Rattle.ff_whole.specs.Places.{IsPlace, place_of, same_place}
use Rattle.ff_whole.specs.Convex.{point_at}
use Rattle.ff_whole.proofs.Signs.{pos-mul, cancel_left}
use Rattle.ff_whole.proofs.Ring.{var, ◌⊗◌, solve}
use Rattle.ff_types.specs.declared.refusals.Refusal.{Refusal}
use Rattle.ff_types.specs.declared.refusals.Refusal.TheVariants.{Parity, Inconsistent, Oversized}
use Rattle.ff_types.specs.Patterns.{edge_at}
use Rattle.ff_types.specs.Faces.{ring_at, mark_at}
use Rattle.ff_types.specs.Foldings.{is_up, FitFlags, spread}
use Rattle.ff_types.specs.Placing.{Meeting, Breaks, IsParent, AreFlags, IsFirstBroken, IsPlacingOrder}
use Rattle.ff_types.specs.Placing.{firsts}
use Rattle.ff_types.specs.Carrying.{IsCarried}
use Rattle.ff_reflect.specs.Trees.{faces_across}
use Rattle.ff_types.specs.FoldRefusals.{placings, IsTornAt, IsNearAt, IsTooFarAt, GoesUpTo, ArePlaced, RefusesFolding}
use Rattle.ff_reflect.specs.Images.{IsAt}
use Rattle.ff_reflect.specs.Sheets.{Paper, HasFaces}
use Rattle.ff_reflect.proofs.Cases.{by_below, by_test}
use Rattle.ff_reflect.proofs.Shapes.{image_at, IsImageAt}
use Rattle.ff_reflect.proofs.Across.{no_border}
use Rattle.ff_reflect.proofs.Orders.{IsOrdered, all_of, get_in, along_order, order_closed, order_has, order_differs, order_first, face_in_range, first_met, next_face, zero_in}
use Rattle.ff_reflect.proofs.Foldings.{known, face_in_order, fit_one, ends_in, ends_apart, at_same, equal_test, both_true, equal_from_test, first_true}
use Rattle.ff_reflect.proofs.Refused.{get_member, in_placings}
use Rattle.ff_reflect.proofs.Stops.{turned_same}
use Rattle.ff_reflect.proofs.Whole.{fits_then}

-- ---- one order

same_front : (paper : Paper) (a b : List ℕ) → IsOrdered paper a → IsOrdered paper b → (k : ℕ) → k ≤ length a → k ≤ length b → take k a ≡ take k b
same_front paper a b oa ob zero la lb = refl
same_front paper a b oa ob (suc zero) la lb = first a la ∙ ap (λ x. x ∷ []) (order_first paper a oa ∙ sym (order_first paper b ob)) ∙ sym (first b lb) where
  first : (xs : List ℕ) → 1 ≤ length xs → take 1 xs ≡ slice_index_or xs 0 0 ∷ []
  first [] l = absurd (omega (arith, l))
  first (x ∷ xs) l = refl
same_front paper a b oa ob (suc (suc k)) la lb =
    let rest = same_front paper a b oa ob (suc k) (omega (arith, la)) (omega (arith, lb)) in
    more a (omega (arith, la)) ∙ ap (λ xs. xs ++ slice_index_or a (suc k) 0 ∷ []) rest
    ∙ ap (λ x. take (suc k) b ++ x ∷ []) (next_face paper a oa (suc k) (omega arith) (omega (arith, la))
    ∙ ap (λ xs. slice_index_or xs (suc k) 0) (front rest) ∙ sym (next_face paper b ob (suc k) (omega arith) (omega (arith, lb))))
    ∙ sym (more b (omega (arith, lb)))
  where
    front : take (suc k) a ≡ take (suc k) b → first_met paper a (suc k) ≡ first_met paper b (suc k)
    front e = ap (λ xs. firsts [] (0 ∷ faces_across (all_of paper xs))) e

    more : (xs : List ℕ) → suc k < length xs → take (suc (suc k)) xs ≡ take (suc k) xs ++ slice_index_or xs (suc k) 0 ∷ []
    more xs l = ap (λ n. take n xs) (let e : suc (suc k) ≡ suc k + 1 = omega arith in e) ∙ take_more xs (suc k) 0 l

-- the one isn't longer than the other
not_longer : (paper : Paper) (a b : List ℕ) → IsOrdered paper a → IsOrdered paper b → length a < length b → ⊥
not_longer paper a b oa ob l =
    let k = length a in
    let some = not_empty a (zero_in paper a oa) in
    let face = slice_index_or b k 0 in
    let m = order_has paper a oa face (face_in_range paper b ob k some l) in
    let e = sym (take_all k a (omega arith)) ∙ same_front paper a b oa ob k (omega arith) (omega (arith, l)) in
    let at = front_in b k (omega (arith, l)) face (subst (λ xs. Contains xs face) e m) in
    order_differs paper b ob at.0 k at.1 l at.2
  where
    not_empty : (xs : List ℕ) → Contains xs 0 → 0 < length xs
    not_empty xs c = omega (arith, c.1)

    front_in : (xs : List ℕ) (k : ℕ) → k ≤ length xs → (g : ℕ) → Contains (take k xs) g → (j : ℕ) × (j < k) × (slice_index_or xs j 0 ≡ g)
    front_in xs k h g (j, m, e) =
        let l : j < k = (let n = length-take k xs in omega (arith, m, n, h)) in
        (j, l, sym (get_or-take k xs j 0 l) ∙ get_or_default (take k xs) j 0 g m ∙ e)

pub one_order : (paper : Paper) (a b : List ℕ) → IsOrdered paper a → IsOrdered paper b → a ≡ b
one_order paper a b oa ob = by_below (length a) (length b) (λ l. absurd (not_longer paper a b oa ob l))
    (λ l. by_below (length b) (length a) (λ k. absurd (not_longer paper b a ob oa k))
    (λ k. sym (take_all (length a) a (omega arith)) ∙ same_front paper a b oa ob (length a) (omega arith) (omega (arith, k)) ∙ take_all (length a) b (omega (arith, l))))

-- ---- one list of flags, over the order

one_flags : (paper : Paper) (order : List ℕ) (up flags : List Bool) → IsOrdered paper order → AreFlags (all_of paper order) paper.marks up → AreFlags (all_of paper order) paper.marks flags
    → (f : ℕ) → Contains order f → is_up up f ≡ is_up flags f
one_flags paper order up flags o a b = along_order paper order o (λ f. is_up up f ≡ is_up flags f) (a.first ∙ sym b.first)
    (λ i m parent c e. let k = known paper order o.has_faces m (get_in _ i m parent.0) in
    fit_one (mark_at paper.marks m.edge) (is_up up m.face) (is_up up m.across) (is_up flags m.across) (no_border paper o.has_faces m.edge m.face m.across k.edge k.sides_are)
    (fits_then (mark_at paper.marks m.edge) _ _ (a.by_parents i m parent))
    (subst (λ x. (FitFlags (mark_at paper.marks m.edge) x (is_up flags m.across) → ⊥) → ⊥) (sym e) (b.by_parents i m parent)))

-- a broken meeting is broken by both
broken_by : (paper : Paper) (order : List ℕ) (up flags : List Bool) → IsOrdered paper order → AreFlags (all_of paper order) paper.marks up → AreFlags (all_of paper order) paper.marks flags
    → (i : ℕ) (m : Meeting) → slice_get (all_of paper order) i ≡ Some m → Breaks paper.marks up m → Breaks paper.marks flags m
broken_by paper order up flags o a b i m e h =
    let c = get_in (all_of paper order) i m e in
    let same = one_flags paper order up flags o a b in
    subst (λ x. FitFlags (mark_at paper.marks m.edge) (is_up flags m.face) x → ⊥) (same m.across (order_closed paper order o m c))
    (subst (λ x. FitFlags (mark_at paper.marks m.edge) x (is_up up m.across) → ⊥) (same m.face (face_in_order paper order m c)) h)

one_parity : (paper : Paper) (order : List ℕ) (up flags : List Bool) → IsOrdered paper order → AreFlags (all_of paper order) paper.marks up → AreFlags (all_of paper order) paper.marks flags
    → (e k : ℕ) → IsFirstBroken (all_of paper order) paper.marks up e → IsFirstBroken (all_of paper order) paper.marks flags k → e ≡ k
one_parity paper order up flags o a b e k x y = by_below x.place y.place
    (λ l. absurd (y.first x.place x.meeting l x.there (broken_by paper order up flags o a b x.place x.meeting x.there x.broken)))
    (λ l. by_below y.place x.place
    (λ h. absurd (x.first y.place y.meeting h y.there (broken_by paper order flags up o b a y.place y.meeting y.there y.broken)))
    (λ h. let same : x.meeting ≡ y.meeting = (let p : x.place ≡ y.place = omega (arith, l, h) in let q : Some x.meeting ≡ Some y.meeting = sym x.there ∙ ap (slice_get (all_of paper order)) p ∙ y.there in cc) in
    sym x.over_edge ∙ ap (λ (z : Meeting). z.edge) same ∙ y.over_edge))

-- ---- one place for each vertex of each face

-- the same place as another, of which it is known what its image is
images_same : (n d : ℤ) (s t : Place) (x y : ℤ) → pos 0 <ℤ n → pos 0 <ℤ d → n *ℤ (d *ℤ s.x) ≡ s.w *ℤ x → n *ℤ (d *ℤ s.y) ≡ s.w *ℤ y
    → n *ℤ (d *ℤ t.x) ≡ t.w *ℤ x → n *ℤ (d *ℤ t.y) ≡ t.w *ℤ y → IsTrue (same_place s t)
images_same n d s t x y hn hd sx sy tx ty = both_true _ _ (equal_test (s.x *ℤ t.w) (t.x *ℤ s.w) (go s.x t.x x sx tx)) (equal_test (s.y *ℤ t.w) (t.y *ℤ s.w) (go s.y t.y y sy ty)) where
  go : (a b z : ℤ) → n *ℤ (d *ℤ a) ≡ s.w *ℤ z → n *ℤ (d *ℤ b) ≡ t.w *ℤ z → a *ℤ t.w ≡ b *ℤ s.w
  go a b z e f = cancel_left (n *ℤ d) (a *ℤ t.w) (b *ℤ s.w) (pos-mul n d hn hd)
      (solve (n ∷ d ∷ a ∷ t.w ∷ []) ((var 0 ⊗ var 1) ⊗ (var 2 ⊗ var 3)) (var 3 ⊗ (var 0 ⊗ (var 1 ⊗ var 2))) refl ∙ ap (λ k. t.w *ℤ k) e
      ∙ solve (t.w ∷ s.w ∷ z ∷ []) (var 0 ⊗ (var 1 ⊗ var 2)) (var 1 ⊗ (var 0 ⊗ var 2)) refl ∙ ap (λ k. s.w *ℤ k) (sym f)
      ∙ solve (n ∷ d ∷ b ∷ s.w ∷ []) (var 3 ⊗ (var 0 ⊗ (var 1 ⊗ var 2))) ((var 0 ⊗ var 1) ⊗ (var 2 ⊗ var 3)) refl)

whole_at : (d k : ℤ) (s : Place) → d ≡ s.w *ℤ k → IsAt d s (record { x = k *ℤ s.x; y = k *ℤ s.y })
whole_at d k s e = record { x = ap (λ z. z *ℤ s.x) e ∙ go s.x; y = ap (λ z. z *ℤ s.y) e ∙ go s.y } where
  go : (x : ℤ) → (s.w *ℤ k) *ℤ x ≡ s.w *ℤ (k *ℤ x)
  go x = solve (s.w ∷ k ∷ x ∷ []) ((var 0 ⊗ var 1) ⊗ var 2) (var 0 ⊗ (var 1 ⊗ var 2)) refl

same_along : (s t u : Place) → IsPlace t → IsTrue (same_place s t) → IsTrue (same_place t u) → IsTrue (same_place s u)
same_along s t u h e f =
    let a = first_true _ _ e in
    let b = first_true _ _ f in
    both_true _ _ (equal_test (s.x *ℤ u.w) (u.x *ℤ s.w) (go s.x t.x u.x (equal_from_test (s.x *ℤ t.w) (t.x *ℤ s.w) a.0) (equal_from_test (t.x *ℤ u.w) (u.x *ℤ t.w) b.0)))
    (equal_test (s.y *ℤ u.w) (u.y *ℤ s.w) (go s.y t.y u.y (equal_from_test (s.y *ℤ t.w) (t.y *ℤ s.w) a.1) (equal_from_test (t.y *ℤ u.w) (u.y *ℤ t.w) b.1)))
  where
    go : (x y z : ℤ) → x *ℤ t.w ≡ y *ℤ s.w → y *ℤ u.w ≡ z *ℤ t.w → x *ℤ u.w ≡ z *ℤ s.w
    go x y z e f = cancel_left t.w (x *ℤ u.w) (z *ℤ s.w) h
        (solve (t.w ∷ x ∷ u.w ∷ []) (var 0 ⊗ (var 1 ⊗ var 2)) (var 2 ⊗ (var 1 ⊗ var 0)) refl ∙ ap (λ k. u.w *ℤ k) e
        ∙ solve (u.w ∷ y ∷ s.w ∷ []) (var 0 ⊗ (var 1 ⊗ var 2)) (var 2 ⊗ (var 1 ⊗ var 0)) refl ∙ ap (λ k. s.w *ℤ k) f
        ∙ solve (s.w ∷ z ∷ t.w ∷ []) (var 0 ⊗ (var 1 ⊗ var 2)) (var 2 ⊗ (var 1 ⊗ var 0)) refl)

-- two ways to carry faces are one
same_places : (paper : Paper) (order : List ℕ) (up flags : List Bool) (c d : ℕ → ℕ → Place) → IsOrdered paper order → AreFlags (all_of paper order) paper.marks up → AreFlags (all_of paper order) paper.marks flags
    → IsCarried paper.points paper.rings paper.edges (all_of paper order) up order c → IsCarried paper.points paper.rings paper.edges (all_of paper order) flags order d
    → (f : ℕ) → Contains order f → (v : ℕ) → Contains (ring_at paper.rings f) v → IsTrue (same_place (c f v) (d f v))
same_places paper order up flags c d o a b sc sd = along_order paper order o (λ f. (v : ℕ) → Contains (ring_at paper.rings f) v → IsTrue (same_place (c f v) (d f v))) first step
  where
    first : (v : ℕ) → Contains (ring_at paper.rings 0) v → IsTrue (same_place (c 0 v) (d 0 v))
    first v k = same_along (c 0 v) (place_of (point_at paper.points v)) (d 0 v) (omega (arith, ints)) (sc.still v) (turned_same (d 0 v) (place_of (point_at paper.points v)) (sd.still v))

    step : (i : ℕ) (m : Meeting) → IsParent (all_of paper order) i m → Contains order m.face → ((v : ℕ) → Contains (ring_at paper.rings m.face) v → IsTrue (same_place (c m.face v) (d m.face v)))
        → (v : ℕ) → Contains (ring_at paper.rings m.across) v → IsTrue (same_place (c m.across v) (d m.across v))
    step i m parent cf below v cv =
        let in_all = get_in (all_of paper order) i m parent.0 in
        let k = known paper order o.has_faces m in_all in
        let e = edge_at paper.edges m.edge in
        let n = k.faces in
        let ends = ends_in paper.rings e m.face m.across n in
        let across = order_closed paper order o m in_all in
        let same_end = λ (u : ℕ) (cu : Contains (ring_at paper.rings m.face) u) (x : IsTrue (same_place (c m.across u) (c m.face u))) (y : IsTrue (same_place (d m.across u) (d m.face u))).
        same_along (d m.across u) (d m.face u) (c m.across u) (sd.places m.face u) y (turned_same (c m.across u) (d m.face u) (same_along (c m.across u) (c m.face u) (d m.face u) (sc.places m.face u) x (below u cu))) in
        let s = c m.across e.a in
        let t = c m.across e.b in
        let scale = s.w *ℤ t.w in
        let positive = pos-mul s.w t.w (sc.places m.across e.a) (sc.places m.across e.b) in
        let ca = whole_at scale t.w s refl in
        let cb = whole_at scale s.w t (*ℤ_comm s.w t.w) in
        let da = at_same scale (d m.across e.a) s _ (sc.places m.across e.a) (same_end e.a ends.0.0 (sc.agree_first i m parent) (sd.agree_first i m parent)) ca in
        let db = at_same scale (d m.across e.b) t _ (sc.places m.across e.b) (same_end e.b ends.0.1 (sc.agree_second i m parent) (sd.agree_second i m parent)) cb in
        let p = point_at paper.points e.a in let q = point_at paper.points e.b in let r = point_at paper.points v in
        let flag = one_flags paper order up flags o a b m.across across in
        let x = image_at scale (is_up up m.across) p q r s t (c m.across v) _ _ positive (sc.places m.across e.a) (sc.places m.across e.b) (sc.places m.across v)
        (sc.shapes m.across e.a e.b e.b across ends.1.0 ends.1.1 ends.1.1) (sc.shapes m.across e.a e.b v across ends.1.0 ends.1.1 cv) ca cb in
        let y = image_at scale (is_up flags m.across) p q r (d m.across e.a) (d m.across e.b) (d m.across v) _ _ positive (sd.places m.across e.a) (sd.places m.across e.b) (sd.places m.across v)
        (sd.shapes m.across e.a e.b e.b across ends.1.0 ends.1.1 ends.1.1) (sd.shapes m.across e.a e.b v across ends.1.0 ends.1.1 cv) da db in
        let z = subst (λ u. IsImageAt scale u p q r (record { x = t.w *ℤ s.x; y = t.w *ℤ s.y }) (record { x = s.w *ℤ t.x; y = s.w *ℤ t.y }) (d m.across v)) (sym flag) y in
        images_same (spread p q q) scale (c m.across v) (d m.across v) _ _ (ends_apart paper o.has_faces m.edge k.edge) positive x.x x.y z.x z.y

-- ---- one first stop

-- where two ways to carry faces are one, what stops the one stops the other
record AreSame (all : List (ℕ × ℕ)) (c d : ℕ → ℕ → Place) : Type 0 where
  same : (i : ℕ) (p : ℕ × ℕ) → slice_get all i ≡ Some p → IsTrue (same_place (c p.0 p.1) (d p.0 p.1))
  first_places : (f v : ℕ) → IsPlace (c f v)
  places : (f v : ℕ) → IsPlace (d f v)

torn_too : (all : List (ℕ × ℕ)) (c d : ℕ → ℕ → Place) (i : ℕ) (p : ℕ × ℕ) → AreSame all c d → IsTornAt all c i p → IsTornAt all d i p
torn_too all c d i p s t = record {
  there = t.there;
  home = t.home;
  at_home = t.at_home;
  earlier = t.earlier;
  is_home = t.is_home;
  same_vertex = t.same_vertex;
  torn = by_test (same_place (d t.at_home.0 t.at_home.1) (d p.0 p.1))
      (λ e. let h = t.is_home in absurd (false≢true (sym t.torn ∙ same_along (c t.at_home.0 t.at_home.1) (d t.at_home.0 t.at_home.1) (c p.0 p.1) (s.places t.at_home.0 t.at_home.1) (s.same t.home t.at_home h.0)
      (same_along (d t.at_home.0 t.at_home.1) (d p.0 p.1) (c p.0 p.1) (s.places p.0 p.1) e (turned_same (c p.0 p.1) (d p.0 p.1) (s.same i p t.there))))))
      (λ e. e);
}

far_too : (all : List (ℕ × ℕ)) (c d : ℕ → ℕ → Place) (i : ℕ) (p : ℕ × ℕ) → AreSame all c d → IsTooFarAt all c i p → IsTooFarAt all d i p
far_too all c d i p s t = record {
  is_home = t.is_home;
  far_away = λ scale fits. t.far_away scale (fits.0, λ j q l h. near scale q (fits.1 j q l h) (s.same j q h.0));
}
  where
    near : (scale : ℕ) (q : ℕ × ℕ) → IsNearAt scale (d q.0 q.1) → IsTrue (same_place (c q.0 q.1) (d q.0 q.1)) → IsNearAt scale (c q.0 q.1)
    near scale q (z, n, ex, ey) e = let at = at_same (pos scale) (c q.0 q.1) (d q.0 q.1) z (s.places q.0 q.1) e (record { x = ex; y = ey }) in (z, n, at.x, at.y)

-- a vertex that is torn has been placed before
not_both : (all : List (ℕ × ℕ)) (c d : ℕ → ℕ → Place) (i : ℕ) (p q : ℕ × ℕ) → IsTornAt all c i p → IsTooFarAt all d i q → ⊥
not_both all c d i p q t f =
    let same : p ≡ q = (let h = f.is_home in let e : Some p ≡ Some q = sym t.there ∙ h.0 in cc) in
    let home = t.is_home in let here = f.is_home in
    here.1 t.home t.at_home t.earlier home.0 (t.same_vertex ∙ ap (λ (x : ℕ × ℕ). x.1) same)

abbrev Stop : List (ℕ × ℕ) → (ℕ → ℕ → Place) → ℕ → ℕ × ℕ → Type 0
Stop all c i p = IsTornAt all c i p ⊎ IsTooFarAt all c i p

stop_too : (all : List (ℕ × ℕ)) (c d : ℕ → ℕ → Place) (i : ℕ) (p : ℕ × ℕ) → AreSame all c d → Stop all c i p → Stop all d i p
stop_too all c d i p s (inl t) = inl (torn_too all c d i p s t)
stop_too all c d i p s (inr t) = inr (far_too all c d i p s t)

not_before : (all : List (ℕ × ℕ)) (c : ℕ → ℕ → Place) (i j : ℕ) (p : ℕ × ℕ) → GoesUpTo all c i → j < i → Stop all c j p → ⊥
not_before all c i j p g l (inl t) = g.none_torn j p l t
not_before all c i j p g l (inr t) = g.none_far j p l t

stop_there : (all : List (ℕ × ℕ)) (c : ℕ → ℕ → Place) (i : ℕ) (p : ℕ × ℕ) → Stop all c i p → slice_get all i ≡ Some p
stop_there all c i p (inl t) = t.there
stop_there all c i p (inr t) = let h = t.is_home in h.0

same_back : (all : List (ℕ × ℕ)) (c d : ℕ → ℕ → Place) → AreSame all c d → AreSame all d c
same_back all c d s = record { same = λ i p e. turned_same (c p.0 p.1) (d p.0 p.1) (s.same i p e); first_places = s.places; places = s.first_places }

-- the first stop is one
one_stop : (all : List (ℕ × ℕ)) (c d : ℕ → ℕ → Place) (i j : ℕ) (p q : ℕ × ℕ) → AreSame all c d → GoesUpTo all c i → GoesUpTo all d j → Stop all c i p → Stop all d j q → (i ≡ j) × (p ≡ q)
one_stop all c d i j p q s gc gd x y =
    let same : i ≡ j = by_below i j (λ l. absurd (not_before all d j i p gd l (stop_too all c d i p s x)))
    (λ l. by_below j i (λ k. absurd (not_before all c i j q gc k (stop_too all d c j q (same_back all c d s) y))) (λ k. omega (arith, k, l))) in
    (same, (let e : Some p ≡ Some q = sym (stop_there all c i p x) ∙ ap (slice_get all) same ∙ stop_there all d j q y in cc))

-- ---- one refusal

-- the walk over the placings, with the order of another walk
placed_same : (paper : Paper) → HasFaces paper → (a b : List ℕ) (up flags : List Bool) (c d : ℕ → ℕ → Place)
    → ArePlaced paper.points paper.rings paper.edges paper.sides paper.marks a up c → ArePlaced paper.points paper.rings paper.edges paper.sides paper.marks b flags d
    → (a ≡ b) × AreSame (placings paper.rings a) c d
placed_same paper h a b up flags c d x y =
    let oa : IsOrdered paper a = record { has_faces = h; in_order = x.in_order } in
    let ob : IsOrdered paper b = record { has_faces = h; in_order = y.in_order } in
    let e = one_order paper a b oa ob in
    let y' = subst (λ o. ArePlaced paper.points paper.rings paper.edges paper.sides paper.marks o flags d) (sym e) y in
    let sc = x.carried_so in let sd = y'.carried_so in (
      e,
      record {
        same = λ i p q. let k = in_placings paper.rings a p (get_member (placings paper.rings a) i p q) in same_places paper a up flags c d oa x.flags y'.flags sc sd p.0 k.0 p.1 k.1;
        first_places = sc.places;
        places = sd.places;
      },
    )

-- a broken meeting is no walk over placings
not_placed : (paper : Paper) → HasFaces paper → (a b : List ℕ) (up flags : List Bool) (c : ℕ → ℕ → Place) (e : ℕ) → IsPlacingOrder paper.rings paper.edges paper.sides a → AreFlags (all_of paper a) paper.marks up
    → IsFirstBroken (all_of paper a) paper.marks up e → ArePlaced paper.points paper.rings paper.edges paper.sides paper.marks b flags c → ⊥
not_placed paper h a b up flags c e in_order by broken y =
    let oa : IsOrdered paper a = record { has_faces = h; in_order = in_order } in
    let ob : IsOrdered paper b = record { has_faces = h; in_order = y.in_order } in
    let y' = subst (λ o. ArePlaced paper.points paper.rings paper.edges paper.sides paper.marks o flags c) (sym (one_order paper a b oa ob)) y in
    y'.whole broken.place broken.meeting broken.there (broken_by paper a up flags oa by y'.flags broken.place broken.meeting broken.there broken.broken)

walks_same : (paper : Paper) → HasFaces paper → (a b : List ℕ) (up flags : List Bool) (c d : ℕ → ℕ → Place) (i j : ℕ) (p q : ℕ × ℕ)
    → ArePlaced paper.points paper.rings paper.edges paper.sides paper.marks a up c → ArePlaced paper.points paper.rings paper.edges paper.sides paper.marks b flags d
    → GoesUpTo (placings paper.rings a) c i → GoesUpTo (placings paper.rings b) d j → Stop (placings paper.rings a) c i p → Stop (placings paper.rings b) d j q → (a ≡ b) × (i ≡ j) × (p ≡ q)
walks_same paper h a b up flags c d i j p q x y gc gd s t =
    let r = placed_same paper h a b up flags c d x y in
    let gd' = subst (λ o. GoesUpTo (placings paper.rings o) d j) (sym r.0) gd in
    let t' = subst (λ o. Stop (placings paper.rings o) d j q) (sym r.0) t in
    let one = one_stop (placings paper.rings a) c d i j p q r.1 gc gd' s t' in
    (r.0, one.0, one.1)

pub one_refusal : (paper : Paper) → HasFaces paper → (r s : Refusal) → RefusesFolding paper.points paper.rings paper.edges paper.sides paper.marks r
    → RefusesFolding paper.points paper.rings paper.edges paper.sides paper.marks s → r ≡ s
one_refusal paper h (Parity e) (Parity k) (a, up, oa, fa, ba) (b, flags, ob, fb, bb) =
    let pa : IsOrdered paper a = record { has_faces = h; in_order = oa } in
    let same = one_order paper a b pa (record { has_faces = h; in_order = ob }) in
    ap Parity (one_parity paper a up flags pa fa (subst (λ o. AreFlags (all_of paper o) paper.marks flags) (sym same) fb) e k ba (subst (λ o. IsFirstBroken (all_of paper o) paper.marks flags k) (sym same) bb))
one_refusal paper h (Parity e) (Inconsistent v) (a, up, oa, fa, ba) (b, flags, d, y, w) = absurd (not_placed paper h a b up flags d e oa fa ba y)
one_refusal paper h (Parity e) (Oversized v) (a, up, oa, fa, ba) (b, flags, d, y, w) = absurd (not_placed paper h a b up flags d e oa fa ba y)
one_refusal paper h (Inconsistent v) (Parity e) (b, flags, d, y, w) (a, up, oa, fa, ba) = absurd (not_placed paper h a b up flags d e oa fa ba y)
one_refusal paper h (Oversized v) (Parity e) (b, flags, d, y, w) (a, up, oa, fa, ba) = absurd (not_placed paper h a b up flags d e oa fa ba y)
one_refusal paper h (Inconsistent v) (Inconsistent u) (a, up, c, x, (i, p, gc, s, ev)) (b, flags, d, y, (j, q, gd, t, eu)) =
    let r = walks_same paper h a b up flags c d i j p q x y gc gd (inl s) (inl t) in ap Inconsistent (sym ev ∙ ap (λ (z : ℕ × ℕ). z.1) r.2 ∙ eu)
one_refusal paper h (Oversized v) (Oversized u) (a, up, c, x, (i, p, gc, s, ev)) (b, flags, d, y, (j, q, gd, t, eu)) =
    let r = walks_same paper h a b up flags c d i j p q x y gc gd (inr s) (inr t) in ap Oversized (sym ev ∙ ap (λ (z : ℕ × ℕ). z.1) r.2 ∙ eu)
one_refusal paper h (Inconsistent v) (Oversized u) (a, up, c, x, (i, p, gc, s, ev)) (b, flags, d, y, (j, q, gd, t, eu)) =
    let r = walks_same paper h a b up flags c d i j p q x y gc gd (inl s) (inr t) in
    absurd (not_both (placings paper.rings a) c d i p q s (subst (λ k. IsTooFarAt (placings paper.rings a) d k q) (sym r.1) (subst (λ o. IsTooFarAt (placings paper.rings o) d j q) (sym r.0) t)))
one_refusal paper h (Oversized u) (Inconsistent v) (b, flags, d, y, (j, q, gd, t, eu)) (a, up, c, x, (i, p, gc, s, ev)) =
    let r = walks_same paper h a b up flags c d i j p q x y gc gd (inl s) (inr t) in
    absurd (not_both (placings paper.rings a) c d i p q s (subst (λ k. IsTooFarAt (placings paper.rings a) d k q) (sym r.1) (subst (λ o. IsTooFarAt (placings paper.rings o) d j q) (sym r.0) t)))
one_refusal paper h (Parity e) s x nothing = absurd nothing
one_refusal paper h (Inconsistent v) s x nothing = absurd nothing
one_refusal paper h (Oversized v) s x nothing = absurd nothing
one_refusal paper h r s nothing x = absurd nothing
