-- Stackings that are, and that aren't: a crease marked M, V or U, at scale 1 and 5, a flat one, paper that crosses; pins.
use Rattle.std.proofs.Common.{◌≡◌, ℕ, zero, suc, ◌<◌, ◌⊎◌, inl, inr, ℤ, pos, Bool, true, false, ◌&&◌, List, [], ◌∷◌, refl, sym, ◌∙◌, subst, Some, None, arith, lit<, IsTrue, nat_lt}
use Rattle.std.specs.Prelude.{int_lt}
use Rattle.std.proofs.lemmas.Int.{ints}
use Rattle.std.proofs.lemmas.Bool.{false≢true}
use Rattle.ff_basics.proofs.Tests.{both_of}
use Rattle.ff_tables.specs.declared.orders.Order.{Order}
use Rattle.ff_tables.specs.declared.orders.Order.TheVariants.{Below, Above}
use Rattle.ff_tables.specs.Listed.{height}
use Rattle.ff_whole.specs.declared.places.Place.{Place}
use Rattle.ff_types.specs.declared.pins.Pin.{Pin}
use Rattle.ff_types.specs.Sheets.{Sheet}
use Rattle.ff_types.specs.Inside.{is_inside, depth, Overlap}
use Rattle.ff_types.specs.Borders.{IsPlainBorder}
use Rattle.ff_types.specs.Covering.{left_faces, right_faces}
use Rattle.ff_types.specs.Stackings.{IsListing, IsStacking}
use Rattle.ff_types.specs.Crossings.{circle, IsUncrossed, Alternate, IsGeometricStacking}
use Rattle.ff_types.specs.Crossings.Side.{Left, Right}
use Rattle.ff_types.specs.Keeping.{KeepsEdge, KeepsCreases, KeepsOrder, KeepsPins}
use Rattle.ff_types.specs.Assignments.{set_by}
use Rattle.ff_types.specs.PlainSheets.{no_pairs}
use Rattle.ff_types.specs.OneCrease.{one_pair}
use Rattle.ff_types.proofs.Named.{unit, diagonal, crease_v, crease_m, crease_u, slant, strip_212}
use Rattle.ff_types.proofs.Members.{turned_same, three_rise, one_rises}
use Rattle.ff_types.proofs.FewFaces.{one_face_stacks, one_face_only, two_faces_stack, upper_first, lower_first, two_faces_only}

abbrev at : ℤ → ℤ → ℤ → Place
at x y w = record { x = x; y = y; w = w }

-- ---- one face: the empty set

unit_stacks : IsGeometricStacking unit no_pairs
unit_stacks = one_face_stacks unit refl

-- ---- one crease. Whatever its mark, its faces overlap

pub crease_overlap : (g : Sheet) → IsTrue (is_inside g 0 (at (pos 3) (pos 1) (pos 4)) && is_inside g 1 (at (pos 3) (pos 1) (pos 4))) → Overlap g 0 1
crease_overlap g t = let b = both_of (is_inside g 0 (at (pos 3) (pos 1) (pos 4))) _ t in record { differ = λ e. absurd (omega (arith, e)); common = record { at = at (pos 3) (pos 1) (pos 4); place = omega (arith, ints); inside = all _ _ b.0 b.1 } } where
  all : (b c : Bool) → IsTrue b → IsTrue c → IsTrue (b && (c && true))
  all true true t u = refl
  all true false t u = absurd (false≢true u)
  all false c t u = absurd (false≢true t)

valley_overlap : Overlap crease_v 0 1
valley_overlap = crease_overlap crease_v refl

-- unassigned: both_of orders are geometric stackings, and keep the crease

unassigned_upper : IsGeometricStacking crease_u (one_pair 1 0)
unassigned_upper = two_faces_stack crease_u (one_pair 1 0) refl (crease_overlap crease_u refl) (upper_first crease_u refl (crease_overlap crease_u refl))

unassigned_lower : IsGeometricStacking crease_u (one_pair 0 1)
unassigned_lower = two_faces_stack crease_u (one_pair 0 1) refl (crease_overlap crease_u refl) (lower_first crease_u refl (crease_overlap crease_u refl))

keeps_all : (g : Sheet) (above : ℕ → ℕ → Bool) → KeepsEdge g above 0 × KeepsEdge g above 1 × KeepsEdge g above 2 × KeepsEdge g above 3 × KeepsEdge g above 4 → (e : ℕ) → e < 5 → KeepsEdge g above e
keeps_all g above k zero h = k.0
keeps_all g above k (suc zero) h = k.1
keeps_all g above k (suc (suc zero)) h = k.2
keeps_all g above k (suc (suc (suc zero))) h = k.3
keeps_all g above k (suc (suc (suc (suc zero)))) h = k.4
keeps_all g above k (suc (suc (suc (suc (suc e))))) h = absurd (omega (arith, h))

unassigned_kept : (above : ℕ → ℕ → Bool) → KeepsCreases crease_u above
unassigned_kept above = keeps_all crease_u above (tt, tt, tt, tt, tt)

-- valley: the one in which face 1, which is down, is above face 0

valley : IsGeometricStacking crease_v (one_pair 1 0)
valley = two_faces_stack crease_v (one_pair 1 0) refl valley_overlap (upper_first crease_v refl valley_overlap)

valley_kept : KeepsCreases crease_v (one_pair 1 0)
valley_kept = keeps_all crease_v (one_pair 1 0) (tt, tt, tt, tt, refl)

valley_only : (above : ℕ → ℕ → Bool) → IsGeometricStacking crease_v above → KeepsCreases crease_v above → (f h : ℕ) → above f h ≡ one_pair 1 0 f h
valley_only above s k = by (two_faces_only crease_v above refl valley_overlap s.stacking.orders) where
  by : ((f h : ℕ) → above f h ≡ one_pair 1 0 f h) ⊎ ((f h : ℕ) → above f h ≡ one_pair 0 1 f h) → (f h : ℕ) → above f h ≡ one_pair 1 0 f h
  by (inl e) = e
  by (inr e) = absurd (false≢true (sym (e 1 0) ∙ k 4 (lit< tt)))

-- mountain: the other one

mountain : IsGeometricStacking crease_m (one_pair 0 1)
mountain = two_faces_stack crease_m (one_pair 0 1) refl (crease_overlap crease_m refl) (lower_first crease_m refl (crease_overlap crease_m refl))

mountain_kept : KeepsCreases crease_m (one_pair 0 1)
mountain_kept = keeps_all crease_m (one_pair 0 1) (tt, tt, tt, tt, refl)

mountain_not : KeepsCreases crease_m (one_pair 1 0) → ⊥
mountain_not k = false≢true (k 4 (lit< tt))

-- the slant, at scale 5: face 0 below face 1

slant_overlap : Overlap slant 0 1
slant_overlap = record { differ = λ e. absurd (omega (arith, e)); common = record { at = at (pos 7) (pos 11) (pos 1); place = omega (arith, ints); inside = refl } }

slant_stacks : IsGeometricStacking slant (one_pair 1 0)
slant_stacks = two_faces_stack slant (one_pair 1 0) refl slant_overlap (upper_first slant refl slant_overlap)

slant_kept : KeepsEdge slant (one_pair 1 0) 6
slant_kept = refl

-- with no pair it is no stacking: the two overlap
not_stacking : IsStacking crease_v no_pairs → ⊥
not_stacking s = false≢true (s.orders.one 0 1 valley_overlap)

-- flat: the two faces don't overlap, one lies left of the crease and one right
three : (p q r : Bool) → IsTrue (p && (q && (r && true))) → IsTrue p × IsTrue q × IsTrue r
three true true true t = (refl, refl, refl)
three true true false t = absurd (false≢true t)
three true false r t = absurd (false≢true t)
three false q r t = absurd (false≢true t)

flat_apart : Overlap diagonal 0 1 → ⊥
flat_apart o = apart o.common.at.x o.common.at.y o.common.at.w (both_of (is_inside diagonal 0 o.common.at) _ o.common.inside) where
  apart : (x y w : ℤ) → IsTrue (is_inside diagonal 0 (at x y w)) × IsTrue (is_inside diagonal 1 (at x y w) && true) → ⊥
  apart x y w h =
      let inner = λ (f : ℕ) (step : ℕ × ℕ). int_lt (pos 0) (depth diagonal f (at x y w) step) in
      let a = (three (inner 0 (0, 1)) (inner 0 (1, 2)) (inner 0 (2, 0)) h.0).2 in
      let b = (three (inner 1 (0, 2)) (inner 1 (2, 3)) (inner 1 (3, 0)) (both_of (is_inside diagonal 1 (at x y w)) true h.1).0).0 in absurd (omega (arith, ints, a, b))

-- ---- paper that crosses: bottom to top 0, 2, 1 on strip_212, where face 2 runs through the crease of 0 and 1

-- f above h in the list, bottom to top
abbrev above_in : List ℕ → ℕ → ℕ → Bool
above_in listing f h = nat_lt (height listing h) (height listing f)

abbrev spot : Place
spot = at (pos 4) (pos 1) (pos 2)

spot_is_plain : IsPlainBorder strip_212 8 spot
spot_is_plain = record { place = omega (arith, ints); edge = lit< tt; on = refl; plain = refl }

left_listing : IsListing (above_in (0 ∷ 2 ∷ 1 ∷ [])) (left_faces strip_212 8 spot) (0 ∷ 2 ∷ 1 ∷ [])
left_listing = record { same = turned_same; rises = three_rise (above_in (0 ∷ 2 ∷ 1 ∷ [])) 0 2 1 refl refl refl }

right_listing : IsListing (above_in (0 ∷ 2 ∷ 1 ∷ [])) (right_faces strip_212 8 spot) (2 ∷ [])
right_listing = record { same = λ f. ((λ h. h), (λ h. h)); rises = one_rises (above_in (0 ∷ 2 ∷ 1 ∷ [])) 2 }

-- L0 L2 L1 R2: the chord of face 2 alternates with that of crease 8
alternate : Alternate (circle (0 ∷ 2 ∷ 1 ∷ []) (2 ∷ [])) (Left 0, Left 1) (Left 2, Right 2)
alternate = record {
  p = 0;
  q = 2;
  r = 1;
  t = 3;
  c_first = record { inside = lit< tt; there = refl };
  c_second = record { inside = lit< tt; there = refl };
  d_first = record { inside = lit< tt; there = refl };
  d_second = record { inside = lit< tt; there = refl };
  across = inl (inl (lit< tt, lit< tt), inr (lit< tt, lit< tt));
}

crosses : IsUncrossed strip_212 (above_in (0 ∷ 2 ∷ 1 ∷ [])) 8 spot → ⊥
crosses u = u (0 ∷ 2 ∷ 1 ∷ []) (2 ∷ []) left_listing right_listing (Left 0, Left 1) (Left 2, Right 2) (1, lit< tt, refl) (0, lit< tt, refl) alternate

not_geometric : IsGeometricStacking strip_212 (above_in (0 ∷ 2 ∷ 1 ∷ [])) → ⊥
not_geometric s = crosses (s.uncrossed 8 spot spot_is_plain)

-- ---- pins

abbrev pin : ℕ → ℕ → Order → Pin
pin f g value = record { f = f; g = g; value = value }

some_is : (p q : Pin) → Some p ≡ Some q → p ≡ q
some_is p q e = cc

none_is : (p : Pin) → None ≡ Some p → ⊥
none_is p e = cc

-- "0 below 1" and "1 above 0" are one pin
pins_kept : KeepsPins (one_pair 1 0) (pin 0 1 Below ∷ pin 1 0 Above ∷ [])
pins_kept zero p e = subst (λ q. KeepsOrder (one_pair 1 0) q.f q.g q.value) (some_is _ _ e) refl
pins_kept (suc zero) p e = subst (λ q. KeepsOrder (one_pair 1 0) q.f q.g q.value) (some_is _ _ e) refl
pins_kept (suc (suc i)) p e = absurd (none_is _ e)

pin_broken : KeepsPins (one_pair 1 0) (pin 0 1 Above ∷ []) → ⊥
pin_broken k = false≢true (k 0 (pin 0 1 Above) refl)

-- no stacking keeps a pin on faces that don't overlap, as of one face and a number that is no face's
pin_on_none : (above : ℕ → ℕ → Bool) → IsStacking unit above → KeepsPins above (pin 0 5 Below ∷ []) → ⊥
pin_on_none above s k = false≢true (sym (one_face_only unit above refl s 5 0) ∙ k 0 (pin 0 5 Below) refl)

-- nor one that says that a face is above itself
pin_on_itself : (above : ℕ → ℕ → Bool) → IsStacking crease_v above → KeepsPins above (pin 1 1 Above ∷ []) → ⊥
pin_on_itself above s k = (s.orders.only 1 1 (k 0 (pin 1 1 Above) refl)).differ refl

-- ---- the pairs that values say: variable 0 is of the pair (0, 1)

said_below : (set_by ((0, 1) ∷ []) (λ v. Below) 1 0 ≡ true) × (set_by ((0, 1) ∷ []) (λ v. Below) 0 1 ≡ false) × (set_by ((0, 1) ∷ []) (λ v. Below) 0 0 ≡ false) × (set_by ((0, 1) ∷ []) (λ v. Below) 0 2 ≡ false)
said_below = (refl, refl, refl, refl)

said_above : (set_by ((0, 1) ∷ []) (λ v. Above) 0 1 ≡ true) × (set_by ((0, 1) ∷ []) (λ v. Above) 1 0 ≡ false)
said_above = (refl, refl)
