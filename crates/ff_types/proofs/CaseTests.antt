-- The whole case of a sheet with one crease: one pair, no constraint, and the start of a valley.
use Rattle.std.proofs.Common.{◌≡◌, ℕ, zero, suc, ◌<◌, ◌⊎◌, inl, inr, ◌↔◌, pos, Bool, true, false, ◌&&◌, List, [], ◌∷◌, length, refl, sym, ◌∙◌, ap, subst, Some, arith, lit<, IsTrue, slice_get}
use Rattle.std.specs.Prelude.{int_lt, int_le}
use Rattle.std.specs.Ordering.{int_eq}
use Rattle.std.proofs.lemmas.Int.{ints}
use Rattle.std.proofs.lemmas.Bool.Decides.{Decides-int_eq}
use Rattle.std.proofs.lemmas.Bool.{false≢true, ltb-true}
use Rattle.std.proofs.lemmas.Option.{none-some, same_Some}
use Rattle.ff_basics.proofs.Tests.{both_of}
use Rattle.ff_tables.specs.declared.orders.Order.{Order}
use Rattle.ff_tables.specs.declared.orders.Order.TheVariants.{Below, Above}
use Rattle.ff_tables.specs.declared.givens.Given.{Given}
use Rattle.ff_tables.specs.declared.givens.GivenBy.TheVariants.{Crease}
use Rattle.ff_tables.specs.Systems.{AreFit}
use Rattle.ff_whole.specs.declared.places.Place.{Place}
use Rattle.ff_types.specs.declared.cites.Cite.{Cite}
use Rattle.ff_types.specs.declared.cites.Cite.TheVariants.{Transitivity, TacoTaco, TacoFace, TacoEdge, FlatFace, FlatEdge}
use Rattle.ff_types.specs.declared.cases.Case.{Case}
use Rattle.ff_types.specs.Pairs.{AreSorted}
use Rattle.ff_types.specs.CaseFields.{AreCaseFields, is_crease}
use Rattle.ff_types.specs.Sheets.{Sheet, is_edge, mark_of, line_of, tail, head}
use Rattle.ff_types.specs.Inside.{is_inside, depth, Overlap}
use Rattle.ff_types.specs.Borders.{is_on}
use Rattle.ff_types.specs.Segments.{HasEdgeInside}
use Rattle.ff_types.specs.Cites.{Holds, is_flat, is_folded_edge, is_flat_edge}
use Rattle.ff_types.specs.Cases.{IsCaseOf}
use Rattle.ff_types.specs.declared.patterns.Mark.{Mark}
use Rattle.ff_types.specs.declared.patterns.Mark.TheVariants.{M, V, U}
use Rattle.ff_types.specs.Foldings.{is_folded}
use Rattle.ff_whole.specs.Places.{blend, height, past}
use Rattle.ff_types.proofs.Named.{crease}
use Rattle.ff_types.proofs.StackingTests.{crease_overlap}
use Rattle.ff_types.proofs.FewFaces.{inside_face, which_two}

-- ---- the values

abbrev one_pair_list : List (ℕ × ℕ)
one_pair_list = (0, 1) ∷ []

abbrev start : Given
start = record { var = 0; value = Below; by = Crease 4 }

no_constraint : AreFit 1 []
no_constraint zero con e = absurd (none-some con e)
no_constraint (suc c) con e = absurd (none-some con e)

the_start : (i : ℕ) (g : Given) → slice_get (start ∷ []) i ≡ Some g → start ≡ g
the_start zero g e = same_Some start g e
the_start (suc i) g e = absurd (none-some g e)

only_start : (i j : ℕ) (g : Given) → i < j → slice_get (start ∷ []) j ≡ Some g → ⊥
only_start i zero g h e = omega (arith, h)
only_start i (suc j) g h e = none-some g e

valley_fields : AreCaseFields (record { vars = 1; constraints = []; fit = no_constraint }) [] one_pair_list (start ∷ [])
valley_fields = record {
  cited = refl;
  paired = refl;
  fit = λ i g e. subst (λ h. h.var < 1) (the_start i g e) (lit< tt);
  by_creases = λ i g e. subst (λ h. is_crease h.by ≡ true) (the_start i g e) refl;
  rising = λ i j g h d e l x y. absurd (only_start i j h l y);
}

abbrev valley_case : Case
valley_case = record { system = record { vars = 1; constraints = []; fit = no_constraint }; cites = []; pairs = one_pair_list; starts = start ∷ []; valid = valley_fields }

open_fields : AreCaseFields (record { vars = 1; constraints = []; fit = no_constraint }) [] one_pair_list []
open_fields = record {
  cited = refl;
  paired = refl;
  fit = λ i g e. absurd (none-some g e);
  by_creases = λ i g e. absurd (none-some g e);
  rising = λ i j g h d e l x y. absurd (none-some g x);
}

abbrev open_case : Case
open_case = record { system = record { vars = 1; constraints = []; fit = no_constraint }; cites = []; pairs = one_pair_list; starts = []; valid = open_fields }

-- ---- the crease is the only folded edge, and none is flat

far_edge : (m : Mark) (e : ℕ) → IsTrue (is_edge (crease m) (suc (suc (suc (suc (suc e)))))) → ⊥
far_edge m e t = omega (arith, ltb-true (suc (suc (suc (suc (suc e))))) 5 t)

folded_is : (m : Mark) (e : ℕ) → IsTrue (is_folded_edge (crease m) e) → e ≡ 4
folded_is m zero t = absurd (false≢true t)
folded_is m (suc zero) t = absurd (false≢true t)
folded_is m (suc (suc zero)) t = absurd (false≢true t)
folded_is m (suc (suc (suc zero))) t = absurd (false≢true t)
folded_is m (suc (suc (suc (suc zero)))) t = refl
folded_is m (suc (suc (suc (suc (suc e))))) t = absurd (far_edge m e (both_of (is_edge (crease m) (suc (suc (suc (suc (suc e)))))) (is_folded (mark_of (crease m) (suc (suc (suc (suc (suc e))))))) t).0)

none_flat : (m : Mark) (e : ℕ) → is_flat m ≡ false → IsTrue (is_flat_edge (crease m) e) → ⊥
none_flat m zero f t = false≢true t
none_flat m (suc zero) f t = false≢true t
none_flat m (suc (suc zero)) f t = false≢true t
none_flat m (suc (suc (suc zero))) f t = false≢true t
none_flat m (suc (suc (suc (suc zero)))) f t = false≢true (sym f ∙ t)
none_flat m (suc (suc (suc (suc (suc e))))) f t = far_edge m e (both_of (is_edge (crease m) (suc (suc (suc (suc (suc e)))))) (is_flat (mark_of (crease m) (suc (suc (suc (suc (suc e))))))) t).0

-- ---- no face has the crease inside

three : (p q r : Bool) → IsTrue (p && (q && (r && true))) → IsTrue p × IsTrue q × IsTrue r
three true true true t = (refl, refl, refl)
three true true false t = absurd (false≢true t)
three true false r t = absurd (false≢true t)
three false q r t = absurd (false≢true t)

on_line : (m : Mark) (s : Place) → IsTrue (is_on (crease m) 4 s) → height (line_of (crease m) 4) s ≡ pos 0
on_line m s t = (Decides-int_eq (height (line_of (crease m) 4) s) (pos 0)).0 (both_of (int_eq (height (line_of (crease m) 4) s) (pos 0)) (int_le (pos 0) (past (tail (crease m) 4) (head (crease m) 4) s)) (both_of (int_eq (height (line_of (crease m) 4) s) (pos 0) && int_le (pos 0) (past (tail (crease m) 4) (head (crease m) 4) s)) (int_le (pos 0) (past (head (crease m) 4) (tail (crease m) 4) s)) t).0).0

none_inside : (m : Mark) (face : ℕ) → HasEdgeInside (crease m) face 4 → ⊥
none_inside m face h = by face (on_line m h.s on.0) (on_line m h.t on.1) (h.inside 1 1 (lit< tt) (lit< tt)) where
  on : IsTrue (is_on (crease m) 4 h.s) × IsTrue (is_on (crease m) 4 h.t)
  on = both_of (is_on (crease m) 4 h.s) (is_on (crease m) 4 h.t) h.on

  inner : ℕ → ℕ × ℕ → Bool
  inner f step = int_lt (pos 0) (depth (crease m) f (blend 1 h.s 1 h.t) step)

  by : (face : ℕ) → height (line_of (crease m) 4) h.s ≡ pos 0 → height (line_of (crease m) 4) h.t ≡ pos 0 → IsTrue (is_inside (crease m) face (blend 1 h.s 1 h.t)) → ⊥
  by zero a b t = let c : IsTrue (int_lt (pos 0) (depth (crease m) 0 (blend 1 h.s 1 h.t) (2, 0))) = (three (inner 0 (0, 1)) (inner 0 (1, 2)) (inner 0 (2, 0)) t).2 in absurd (omega (arith, ints, a, b, c))
  by (suc zero) a b t = let c : IsTrue (int_lt (pos 0) (depth (crease m) 1 (blend 1 h.s 1 h.t) (0, 2))) = (three (inner 1 (0, 2)) (inner 1 (2, 3)) (inner 1 (3, 0)) t).0 in absurd (omega (arith, ints, a, b, c))
  by (suc (suc f)) a b t = omega (arith, inside_face (crease m) (suc (suc f)) (blend 1 h.s 1 h.t) t)

-- ---- so no constraint holds

no_three : (g : Sheet) (f h k : ℕ) (s : Place) → length g.rings ≡ 2 → f < h → h < k → IsTrue (is_inside g f s && (is_inside g h s && (is_inside g k s && true))) → ⊥
no_three g f h k s two l m t = omega (arith, two, l, m, inside_face g k s (three (is_inside g f s) (is_inside g h s) (is_inside g k s) t).2)

nothing_holds : (m : Mark) (c : Cite) → is_flat m ≡ false → Holds (crease m) c → ⊥
nothing_holds m (Transitivity f h k at) flat (a, b, c) = no_three (crease m) f h k c.at refl a b c.inside
nothing_holds m (TacoTaco e k) flat (a, b, c, d) = let x = both_of (is_folded_edge (crease m) e) (is_folded_edge (crease m) k) b in omega (arith, a, folded_is m e x.0, folded_is m k x.1)
nothing_holds m (TacoFace e face at) flat (a, b) = none_inside m face (subst (λ k. HasEdgeInside (crease m) face k) (folded_is m e a) b)
nothing_holds m (TacoEdge e q) flat (a, b, c) = none_flat m q flat b
nothing_holds m (FlatFace q face at) flat (a, b) = none_flat m q flat a
nothing_holds m (FlatEdge q r) flat (a, b, c) = none_flat m q flat (both_of (is_flat_edge (crease m) q) (is_flat_edge (crease m) r) b).0

-- ---- the pair

one_sorted : AreSorted one_pair_list
one_sorted = record { rising = rising; sorted = λ m n p q h a b. absurd (late m n q h b) } where
  rising : (n : ℕ) (p : ℕ × ℕ) → slice_get one_pair_list n ≡ Some p → p.0 < p.1
  rising zero p e = subst (λ (q : ℕ × ℕ). q.0 < q.1) (same_Some (0, 1) p e) (lit< tt)
  rising (suc n) p e = absurd (none-some p e)

  late : (m n : ℕ) (q : ℕ × ℕ) → m < n → slice_get one_pair_list n ≡ Some q → ⊥
  late m zero q h e = omega (arith, h)
  late m (suc n) q h e = none-some q e

the_pairs : (g : Sheet) → length g.rings ≡ 2 → Overlap g 0 1 → (f h : ℕ) → f < h → Overlap g f h ↔ ((n : ℕ) × (slice_get one_pair_list n ≡ Some (f, h)))
the_pairs g two o f h l = (λ p. there (which_two g f h two p), λ r. back r.0 r.1) where
  there : ((f ≡ 0) × (h ≡ 1)) ⊎ ((f ≡ 1) × (h ≡ 0)) → (n : ℕ) × (slice_get one_pair_list n ≡ Some (f, h))
  there (inl e) = (0, ap (λ x. Some (x, 1)) (sym e.0) ∙ ap (λ y. Some (f, y)) (sym e.1))
  there (inr e) = absurd (omega (arith, l, e.0, e.1))

  back : (n : ℕ) → slice_get one_pair_list n ≡ Some (f, h) → Overlap g f h
  back zero e = subst (λ (p : ℕ × ℕ). Overlap g p.0 p.1) (same_Some (0, 1) (f, h) e) o
  back (suc n) e = absurd (none-some (f, h) e)

-- ---- the cases

no_cite : (n : ℕ) (c : Cite) → slice_get [] n ≡ Some c → ⊥
no_cite n c e = none-some c e

valley_is : IsCaseOf (crease V) valley_case
valley_is = record {
  sorted_pairs = one_sorted;
  pairs_are = the_pairs (crease V) refl (crease_overlap (crease V) refl);
  witnessed = λ n c e. absurd (no_cite n c e);
  complete = λ c h. absurd (nothing_holds V c refl h);
  sorted_cites = λ m n c d l e f. absurd (no_cite m c e);
  constraints_are = λ n c con e f. absurd (no_cite n c e);
  starts_are = refl;
}

-- unassigned: no start
open_is : IsCaseOf (crease U) open_case
open_is = record {
  sorted_pairs = one_sorted;
  pairs_are = the_pairs (crease U) refl (crease_overlap (crease U) refl);
  witnessed = λ n c e. absurd (no_cite n c e);
  complete = λ c h. absurd (nothing_holds U c refl h);
  sorted_cites = λ m n c d l e f. absurd (no_cite m c e);
  constraints_are = λ n c con e f. absurd (no_cite n c e);
  starts_are = refl;
}

-- ---- cases that are not

-- a valley without its start, and a crease that is unassigned with one
unstarted : IsCaseOf (crease V) open_case → ⊥
unstarted c = some_start (c.starts_are) where
  some_start : [] ≡ start ∷ [] → ⊥
  some_start e = cc

started : IsCaseOf (crease U) valley_case → ⊥
started c = some_start (c.starts_are) where
  some_start : start ∷ [] ≡ [] → ⊥
  some_start e = cc

-- a mountain with a valley's start
turned : IsCaseOf (crease M) valley_case → ⊥
turned c = differ (ap value_of c.starts_are) where
  value_of : List Given → Order
  value_of [] = Below
  value_of (g ∷ gs) = g.value

  differ : Below ≡ Above → ⊥
  differ e = cc
