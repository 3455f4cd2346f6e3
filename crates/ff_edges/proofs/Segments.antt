-- Two edges share a segment where their images have a common way.
use Rattle.std.proofs.Common.{◌≡◌, ℕ, refl, sym, ap, ◌∙◌, arith, ℤ, pos, ◌*ℤ◌, Bool, true, false, ◌&&◌, ◌||◌, IsTrue, []}
use Rattle.std.specs.Ordering.{int_eq}
use Rattle.std.proofs.lemmas.Int.{ints}
use Rattle.std.proofs.lemmas.Bool.{false≢true}
use Rattle.std.proofs.lemmas.Bool.Decides.{Decides-int_eq}
use Rattle.ff_basics.proofs.Tests.{both_of, of_both}
use Rattle.ff_whole.specs.declared.points.Pt.{Pt}
use Rattle.ff_whole.specs.Points.{minus, dot}
use Rattle.ff_whole.specs.Places.{place_of, through, height, past, same_place}
use Rattle.ff_whole.specs.Turning.{rank}
use Rattle.ff_whole.proofs.Formulas.{point_e, point_env, minus_e, dot_e, place_of_e, through_e, height_e, past_e}
use Rattle.ff_whole.proofs.Ring.{num, solve}
use Rattle.ff_whole.proofs.Signs.{linear}
use Rattle.ff_whole.proofs.OnEdges.{dot_nonneg}
use Rattle.ff_types.specs.declared.patterns.Mark.{Mark}
use Rattle.ff_types.specs.declared.patterns.Mark.TheVariants.{B, M, V, F, U}
use Rattle.ff_types.specs.Foldings.{is_folded}
use Rattle.ff_types.specs.Cites.{is_flat}
use Rattle.ff_types.specs.Sheets.{Sheet, tail, head}
use Rattle.ff_types.specs.Segments.{ShareSegment}
use Rattle.ff_edges.specs.Ways.{is_on_way, IsCommonWay, HaveNoWay}
use Rattle.ff_edges.proofs.OnWays.{to_on}

-- ---- the marks

pub folded_is_not_flat : (m : Mark) → is_folded m ≡ true → is_flat m ≡ false
folded_is_not_flat B e = refl
folded_is_not_flat M e = refl
folded_is_not_flat V e = refl
folded_is_not_flat F e = absurd (false≢true e)
folded_is_not_flat U e = refl

abbrev pub constrain_by : Bool → Bool → Bool → Bool → Bool → Bool
constrain_by e_folded k_folded side e_flat k_flat = (e_folded && k_folded && side) || (e_folded && k_flat) || (e_flat && k_folded) || (e_flat && k_flat)

pub both_folded : (side : Bool) → constrain_by true true side false false ≡ side
both_folded true = refl
both_folded false = refl

-- ---- the ends of a way are on it

pub start_on : (p q : Pt) → IsTrue (is_on_way p q (place_of p))
start_on p q =
    let p' = point_e 0 in let q' = point_e 2 in
    let h : height (through p q) (place_of p) ≡ pos 0 = solve (point_env p (point_env q [])) (height_e (through_e p' q') (place_of_e p')) (num (pos 0)) refl in
    let a : past p q (place_of p) ≡ pos 0 = solve (point_env p (point_env q [])) (past_e p' q' (place_of_e p')) (num (pos 0)) refl in
    let b : past q p (place_of p) ≡ dot (minus q p) (minus q p) = solve (point_env p (point_env q [])) (past_e q' p' (place_of_e p')) (dot_e (minus_e q' p') (minus_e q' p')) refl in
    let d = dot_nonneg (minus q p) in
    to_on p q (place_of p) (record { on = h; after = omega (arith, linear); before = omega (arith, linear) })

pub end_on : (p q : Pt) → IsTrue (is_on_way p q (place_of q))
end_on p q =
    let p' = point_e 0 in let q' = point_e 2 in
    let h : height (through p q) (place_of q) ≡ pos 0 = solve (point_env p (point_env q [])) (height_e (through_e p' q') (place_of_e q')) (num (pos 0)) refl in
    let a : past p q (place_of q) ≡ dot (minus q p) (minus q p) = solve (point_env p (point_env q [])) (past_e p' q' (place_of_e q')) (dot_e (minus_e q' p') (minus_e q' p')) refl in
    let b : past q p (place_of q) ≡ pos 0 = solve (point_env p (point_env q [])) (past_e q' p' (place_of_e q')) (num (pos 0)) refl in
    let d = dot_nonneg (minus q p) in
    to_on p q (place_of q) (record { on = h; after = omega (arith, linear); before = omega (arith, linear) })

one_place : (p q : Pt) → IsTrue (same_place (place_of p) (place_of q)) → p ≡ q
one_place p q t =
    let b = both_of (int_eq (p.x *ℤ pos 1) (q.x *ℤ pos 1)) _ t in
    let x = (Decides-int_eq (p.x *ℤ pos 1) (q.x *ℤ pos 1)).0 b.0 in
    let y = (Decides-int_eq (p.y *ℤ pos 1) (q.y *ℤ pos 1)).0 b.1 in
    λ i. record { x = once p.x q.x x i; y = once p.y q.y y i }
  where
    once : (u v : ℤ) → u *ℤ pos 1 ≡ v *ℤ pos 1 → u ≡ v
    once u v e = omega (arith, ints)

-- ---- the law

pub segment_of : (g : Sheet) (e k : ℕ) (p q : Pt) → IsCommonWay (tail g e) (head g e) (tail g k) (head g k) p q → ShareSegment g e k
segment_of g e k p q w = record {
  s = place_of p;
  t = place_of q;
  s_place = omega (arith, ints);
  t_place = omega (arith, ints);
  differ = by (same_place (place_of p) (place_of q)) refl;
  first = of_both _ _ start.0 finish.0;
  second = of_both _ _ start.1 finish.1;
} where
  start : IsTrue (is_on_way (tail g e) (head g e) (place_of p)) × IsTrue (is_on_way (tail g k) (head g k) (place_of p))
  start = (w.common (place_of p) (omega (arith, ints))).0 (start_on p q)

  finish : IsTrue (is_on_way (tail g e) (head g e) (place_of q)) × IsTrue (is_on_way (tail g k) (head g k) (place_of q))
  finish = (w.common (place_of q) (omega (arith, ints))).0 (end_on p q)

  by : (b : Bool) → same_place (place_of p) (place_of q) ≡ b → same_place (place_of p) (place_of q) ≡ false
  by false e = e
  by true e = absurd (let goes = w.goes in let r = ap rank (one_place p q e) in omega (arith, linear))

pub no_segment : (g : Sheet) (e k : ℕ) → HaveNoWay (tail g e) (head g e) (tail g k) (head g k) → ShareSegment g e k → ⊥
no_segment g e k none h =
    let a = both_of _ _ h.first in
    let b = both_of _ _ h.second in
    false≢true (sym h.differ ∙ none h.s h.t h.s_place h.t_place a.0 b.0 a.1 b.1)
