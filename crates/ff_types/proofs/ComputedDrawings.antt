-- That small patterns are drawings, by computing: each two edges are parted by a line that touches each in an end at most.
use Rattle.std.proofs.Common.{◌≡◌, ◌≢◌, ℕ, ◌==◌, ◌⊎◌, inl, inr, ℤ, pos, negsuc, ◌*ℤ◌, ◌≤ℤ◌, Bool, true, false, not, ◌&&◌, ◌||◌, List, [], ◌∷◌, length, refl, sym, ◌∙◌, ap, subst, arith, IsTrue, nat_lt}
use Rattle.std.specs.Prelude.{◌+ℤ◌, ◌-ℤ◌, unsigned_abs}
use Rattle.std.specs.List.{list_any}
use Rattle.std.proofs.lemmas.Int.{ints}
use Rattle.std.proofs.lemmas.Bool.{false≢true, eqb-true, eqb-false, ltb-true}
use Rattle.ff_basics.proofs.Tests.{both_of, either_of}
use Rattle.ff_whole.specs.declared.points.Pt.{Pt}
use Rattle.ff_whole.specs.Points.{mix, IsNear}
use Rattle.ff_whole.specs.declared.sizes.TheConstants.{POINT_SIZE}
use Rattle.ff_whole.specs.Convex.{point_at}
use Rattle.ff_whole.proofs.Ring.{var, ◌⊕◌, ◌⊗◌, solve}
use Rattle.ff_whole.proofs.Signs.{nonneg-mul, zero_product, nonneg-mul_nonpos, linear}
use Rattle.ff_types.specs.declared.patterns.EdgeEnds.{EdgeEnds}
use Rattle.ff_types.specs.Patterns.{edge_at, Joins}
use Rattle.ff_types.specs.Drawings.{IsDrawing, MeetAtEnds, Common, IsEnd, HasTwoEdges, joins, has_end, first_point, last_point}
use Rattle.ff_types.proofs.Computing.{all_below, any_below, below, below_two, some_below, is_nonneg, is_nonpos, is_pos, nonneg, nonpos, positive, are_apart, apart}

-- how far on one side of a line a point is
pub record Half : Type 0 where
  pub a : ℤ
  pub b : ℤ
  pub c : ℤ

abbrev pub at : Half → Pt → ℤ
at h p = (h.a *ℤ p.x) +ℤ ((h.b *ℤ p.y) +ℤ h.c)

-- the point of the segment with these weights, times their sum
mixed : (h : Half) (s t : ℕ) (p q : Pt) → (pos s *ℤ at h p) +ℤ (pos t *ℤ at h q) ≡ ((h.a *ℤ (mix s p t q).x) +ℤ (h.b *ℤ (mix s p t q).y)) +ℤ ((pos s +ℤ pos t) *ℤ h.c)
mixed h s t p q = solve (h.a ∷ h.b ∷ h.c ∷ pos s ∷ pos t ∷ p.x ∷ p.y ∷ q.x ∷ q.y ∷ [])
    ((var 3 ⊗ ((var 0 ⊗ var 5) ⊕ ((var 1 ⊗ var 6) ⊕ var 2))) ⊕ (var 4 ⊗ ((var 0 ⊗ var 7) ⊕ ((var 1 ⊗ var 8) ⊕ var 2))))
    (((var 0 ⊗ ((var 3 ⊗ var 5) ⊕ (var 4 ⊗ var 7))) ⊕ (var 1 ⊗ ((var 3 ⊗ var 6) ⊕ (var 4 ⊗ var 8)))) ⊕ ((var 3 ⊕ var 4) ⊗ var 2)) refl

-- at a common point both_of segments are as far on the side
same_at : (h : Half) (points : List Pt) (e k : EdgeEnds) (s t u v : ℕ) → Common points e k s t u v
    → (pos s *ℤ at h (first_point points e)) +ℤ (pos t *ℤ at h (last_point points e)) ≡ (pos u *ℤ at h (first_point points k)) +ℤ (pos v *ℤ at h (last_point points k))
same_at h points e k s t u v c = mixed h s t (first_point points e) (last_point points e)
    ∙ (ap (λ p. ((h.a *ℤ p.x) +ℤ (h.b *ℤ p.y)) +ℤ ((pos s +ℤ pos t) *ℤ h.c)) c.same
    ∙ (ap (λ n. ((h.a *ℤ (mix u (first_point points k) v (last_point points k)).x) +ℤ (h.b *ℤ (mix u (first_point points k) v (last_point points k)).y)) +ℤ (n *ℤ h.c)) sums
    ∙ sym (mixed h u v (first_point points k) (last_point points k)))) where
      sums : pos s +ℤ pos t ≡ pos u +ℤ pos v
      sums = omega (arith, ints, c.sums)

-- the line has the one edge on or right of it, the other on or left, and neither edge lies on it whole
abbrev pub parts : Pt → Pt → Pt → Pt → Half → Bool
parts a b c d h = (is_nonpos (at h a) && is_nonpos (at h b)) && ((is_nonneg (at h c) && is_nonneg (at h d)) && ((not (is_nonneg (at h a)) || not (is_nonneg (at h b))) && (is_pos (at h c) || is_pos (at h d))))

zero_part : (s : ℕ) (x : ℤ) → pos s *ℤ x ≡ pos 0 → x ≢ pos 0 → s ≡ 0
zero_part s x e d = elim (zero_product (pos s) x e) [ inl z ↦ omega (arith, ints, z) | inr z ↦ absurd (d z) ]

weights_nonpos : (s : ℕ) (x : ℤ) → x ≤ℤ pos 0 → (pos s *ℤ x) ≤ℤ pos 0
weights_nonpos s x h = nonneg-mul_nonpos (pos s) x (omega (arith, ints)) h

weights_nonneg : (s : ℕ) (x : ℤ) → pos 0 ≤ℤ x → pos 0 ≤ℤ (pos s *ℤ x)
weights_nonneg s x h = nonneg-mul (pos s) x (omega (arith, ints)) h

-- where the first sum isn't positive and the second not negative, and they are one, all parts are 0
all_zero : (a b c d : ℤ) → a ≤ℤ pos 0 → b ≤ℤ pos 0 → pos 0 ≤ℤ c → pos 0 ≤ℤ d → a +ℤ b ≡ c +ℤ d → (a ≡ pos 0) × (b ≡ pos 0) × (c ≡ pos 0) × (d ≡ pos 0)
all_zero a b c d h k l m e = (omega (arith, linear), omega (arith, linear), omega (arith, linear), omega (arith, linear))

end_of : (s t : ℕ) (x y : ℤ) → pos s *ℤ x ≡ pos 0 → pos t *ℤ y ≡ pos 0 → (x ≢ pos 0) ⊎ (y ≢ pos 0) → IsEnd s t
end_of s t x y e f (inl d) = inl (zero_part s x e d)
end_of s t x y e f (inr d) = inr (zero_part t y f d)

not_nonneg : (x : ℤ) → IsTrue (not (is_nonneg x)) → x ≢ pos 0
not_nonneg (pos n) e = absurd (false≢true e)
not_nonneg (negsuc n) e = λ z. omega (arith, ints, z)

not_zero : (x : ℤ) → IsTrue (is_pos x) → x ≢ pos 0
not_zero x e z = let h = positive x e in omega (arith, ints)

pub record Parted (a b c d : ℤ) : Type 0 where
  pub a_right : a ≤ℤ pos 0
  pub b_right : b ≤ℤ pos 0
  pub c_left : pos 0 ≤ℤ c
  pub d_left : pos 0 ≤ℤ d
  pub first : (a ≢ pos 0) ⊎ (b ≢ pos 0)
  pub second : (c ≢ pos 0) ⊎ (d ≢ pos 0)

one_of : (p q : Bool) (P Q : Type 0) → (IsTrue p → P) → (IsTrue q → Q) → IsTrue (p || q) → P ⊎ Q
one_of p q P Q f g e = elim (either_of p q e) [ inl h ↦ inl (f h) | inr h ↦ inr (g h) ]

parted : (a b c d : Pt) (h : Half) → IsTrue (parts a b c d h) → Parted (at h a) (at h b) (at h c) (at h d)
parted a b c d h e =
    let x = both_of _ _ e in
    let y = both_of _ _ x.0 in
    let z = both_of _ _ x.1 in
    let l = both_of _ _ z.0 in
    let o = both_of _ _ z.1 in
    record {
      a_right = nonpos _ y.0;
      b_right = nonpos _ y.1;
      c_left = nonneg _ l.0;
      d_left = nonneg _ l.1;
      first = one_of _ _ _ _ (not_nonneg (at h a)) (not_nonneg (at h b)) o.0;
      second = one_of _ _ _ _ (not_zero (at h c)) (not_zero (at h d)) o.1;
    }

meet_by : (points : List Pt) (e k : EdgeEnds) (h : Half) → Parted (at h (first_point points e)) (at h (last_point points e)) (at h (first_point points k)) (at h (last_point points k)) → MeetAtEnds points e k
meet_by points e k h p s t u v c =
    let z = all_zero _ _ _ _ (weights_nonpos s _ p.a_right) (weights_nonpos t _ p.b_right) (weights_nonneg u _ p.c_left) (weights_nonneg v _ p.d_left) (same_at h points e k s t u v c)
    in (end_of s t _ _ z.0 z.1 p.first, end_of u v _ _ z.2 z.3 p.second)

-- lines that may part the edges from a to b and from c to d: beside either_of edge, across an end of the first, and through a common end
abbrev line : ℤ → ℤ → Pt → ℤ → Half
line a b p c = record { a = a; b = b; c = c -ℤ ((a *ℤ p.x) +ℤ (b *ℤ p.y)) }

abbrev beside : Pt → Pt → ℤ → ℤ → Half
beside p q k c = line (k *ℤ (p.y -ℤ q.y)) (k *ℤ (q.x -ℤ p.x)) p c

abbrev across : Pt → Pt → Half
across p q = line (q.x -ℤ p.x) (q.y -ℤ p.y) q (pos 0)

abbrev through : Pt → Pt → Pt → ℤ → Half
through p q r k = line (k *ℤ ((p.y -ℤ q.y) +ℤ (p.y -ℤ r.y))) (k *ℤ ((q.x -ℤ p.x) +ℤ (r.x -ℤ p.x))) p (pos 0)

abbrev candidates : Pt → Pt → Pt → Pt → List Half
candidates a b c d = beside a b (pos 2) (negsuc 0) ∷ beside a b (negsuc 1) (negsuc 0) ∷ beside c d (pos 2) (pos 1) ∷ beside c d (negsuc 1) (pos 1) ∷ across a b ∷ across b a
    ∷ through a b c (pos 1) ∷ through a b c (negsuc 0) ∷ through a b d (pos 1) ∷ through a b d (negsuc 0)
    ∷ through b a c (pos 1) ∷ through b a c (negsuc 0) ∷ through b a d (pos 1) ∷ through b a d (negsuc 0) ∷ []

abbrev pub meets_at_ends : List Pt → EdgeEnds → EdgeEnds → Bool
meets_at_ends points e k = list_any (parts (first_point points e) (last_point points e) (first_point points k) (last_point points k))
    (candidates (first_point points e) (last_point points e) (first_point points k) (last_point points k))

some_of : {A : Type 0} (p : A → Bool) (xs : List A) → IsTrue (list_any p xs) → (x : A) × IsTrue (p x)
some_of p [] e = absurd (false≢true e)
some_of p (x ∷ xs) e = elim (either_of (p x) (list_any p xs) e) [ inl h ↦ (x, h) | inr h ↦ some_of p xs h ]

meet : (points : List Pt) (e k : EdgeEnds) → IsTrue (meets_at_ends points e k) → MeetAtEnds points e k
meet points e k t = let r = some_of (parts (first_point points e) (last_point points e) (first_point points k) (last_point points k)) (candidates (first_point points e) (last_point points e) (first_point points k) (last_point points k)) t in meet_by points e k r.0 (parted _ _ _ _ r.0 r.1)

-- ---- the other clauses

abbrev pub is_near : Pt → Bool
is_near p = nat_lt (unsigned_abs p.x) POINT_SIZE && nat_lt (unsigned_abs p.y) POINT_SIZE

near : (p : Pt) → IsTrue (is_near p) → IsNear p
near p e = let b = both_of _ _ e in record { x_below = record { below = ltb-true _ _ b.0 }; y_below = record { below = ltb-true _ _ b.1 } }

abbrev pub joins_two : ℕ → EdgeEnds → Bool
joins_two n e = nat_lt e.a n && (nat_lt e.b n && not (e.a == e.b))

join : (n : ℕ) (e : EdgeEnds) → IsTrue (joins_two n e) → Joins n e
join n e t = let b = both_of _ _ t in let c = both_of _ _ b.1 in record { first = ltb-true _ _ b.0; second = ltb-true _ _ c.0; differ = eqb-false _ _ (not_true _ c.1) } where
  not_true : (b : Bool) → IsTrue (not b) → b ≡ false
  not_true true e = absurd (false≢true e)
  not_true false e = refl

abbrev pub two_edges : List EdgeEnds → ℕ → Bool
two_edges edges v = any_below (length edges) (λ k. has_end (edge_at edges k) v && any_below k (λ e. has_end (edge_at edges e) v))

two : (edges : List EdgeEnds) (v : ℕ) → IsTrue (two_edges edges v) → HasTwoEdges edges v
two edges v t =
    let r = some_below (length edges) (λ k. has_end (edge_at edges k) v && any_below k (λ e. has_end (edge_at edges e) v)) t in
    let b = both_of (has_end (edge_at edges r.0) v) (any_below r.0 (λ e. has_end (edge_at edges e) v)) r.2 in
    let q = some_below r.0 (λ e. has_end (edge_at edges e) v) b.1 in (q.0, r.0, q.1, r.1, q.2, b.0)

-- two edges: different ones meet at ends and don't join the same vertices
abbrev pub two_fit : List Pt → List EdgeEnds → ℕ → ℕ → Bool
two_fit points edges e k = (e == k) || (not (joins (edge_at edges e).a (edge_at edges e).b (edge_at edges k)) && meets_at_ends points (edge_at edges e) (edge_at edges k))

pub fit : (points : List Pt) (edges : List EdgeEnds) (e k : ℕ) → IsTrue (two_fit points edges e k)
    → (IsTrue (joins (edge_at edges e).a (edge_at edges e).b (edge_at edges k)) → e ≡ k) × (e ≢ k → MeetAtEnds points (edge_at edges e) (edge_at edges k))
fit points edges e k t = elim (either_of (e == k) _ t) [
  | inl h ↦ ((λ j. eqb-true e k h), (λ d. absurd (d (eqb-true e k h))))
  | inr h ↦ let b = both_of _ _ h in ((λ j. absurd (false≢true (subst (λ x. IsTrue (not x)) j b.0))), (λ d. meet points (edge_at edges e) (edge_at edges k) b.1))
]

abbrev pub is_drawing : List Pt → List EdgeEnds → Bool
is_drawing points edges = all_below (length points) (λ v. is_near (point_at points v)) && (are_apart points
    && (all_below (length edges) (λ e. joins_two (length points) (edge_at edges e)) && (all_below (length points) (two_edges edges)
    && all_below (length edges) (λ e. all_below (length edges) (two_fit points edges e)))))

pub drawing : (points : List Pt) (edges : List EdgeEnds) → IsTrue (is_drawing points edges) → IsDrawing points edges
drawing points edges t =
    let a = both_of _ _ t in
    let b = both_of _ _ a.1 in
    let c = both_of _ _ b.1 in
    let d = both_of _ _ c.1 in
    record {
      near = λ v h. near (point_at points v) (below (length points) (λ v. is_near (point_at points v)) a.0 v h);
      apart = apart points b.0;
      edges_join = λ e h. join (length points) (edge_at edges e) (below (length edges) (λ e. joins_two (length points) (edge_at edges e)) c.0 e h);
      once = λ e k h l. (fit points edges e k (below_two (length edges) (length edges) (two_fit points edges) d.1 e k h l)).0;
      two = λ v h. two edges v (below (length points) (two_edges edges) d.0 v h);
      meet = λ e k h l. (fit points edges e k (below_two (length edges) (length edges) (two_fit points edges) d.1 e k h l)).1;
    }
