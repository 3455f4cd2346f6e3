-- The starts that are broken are those of the creases that aren't kept.
use Rattle.std.proofs.Common.{◌≡◌, ◌⊎◌, inl, inr, ℕ, ◌<◌, Bool, true, false, not, List, length, slice_get, IsTrue, Option, Some, None, if◌then◌else◌, arith, refl, sym, ap, subst, ◌∙◌, Contains}
use Rattle.std.proofs.lemmas.Bool.{false≢true, lt-ltb}
use Rattle.std.proofs.lemmas.Option.{get_or_from_slice_get, slice_get-get_or, slice_get_within}
use Rattle.ff_basics.proofs.Lists.{filter_map_in, in_filter_map, place_of_member}
use Rattle.ff_basics.proofs.Memberships.{in_range, range_in}
use Rattle.ff_basics.proofs.Numbers.{less_or}
use Rattle.ff_basics.proofs.Options.{none_some, some_same}
use Rattle.ff_basics.proofs.Tests.{of_both}
use Rattle.ff_tables.specs.declared.orders.Order.{Order}
use Rattle.ff_tables.specs.declared.orders.Order.TheVariants.{Below, Above}
use Rattle.ff_tables.specs.declared.givens.Given.{Given}
use Rattle.ff_tables.specs.declared.givens.GivenBy.TheVariants.{Crease}
use Rattle.ff_tables.specs.Orders.{is_order}
use Rattle.ff_types.specs.declared.patterns.Pattern.{Pattern}
use Rattle.ff_types.specs.declared.patterns.Mark.{Mark}
use Rattle.ff_types.specs.declared.patterns.Mark.TheVariants.{B, M, V, F, U}
use Rattle.ff_types.specs.declared.faces.Faces.{Faces}
use Rattle.ff_types.specs.declared.faces.Folded.{Folded}
use Rattle.ff_types.specs.declared.cases.Case.{Case}
use Rattle.ff_types.specs.CaseFields.{edge_of, start_at}
use Rattle.ff_types.specs.FoldedPatterns.{IsFoldedPattern}
use Rattle.ff_types.specs.Foldings.{is_folded, FitFlags}
use Rattle.ff_types.specs.Pairs.{number_of}
use Rattle.ff_types.specs.Sheets.{Sheet, sheet_of, lies_up, mark_of, left_face, right_face, edges_of}
use Rattle.ff_types.specs.Keeping.{KeepsMark, KeepsEdge}
use Rattle.ff_types.specs.Cites.{lesser, greater, is_folded_edge}
use Rattle.ff_types.specs.Cases.{IsCaseOf, crease_order, given_by, start_of}
use Rattle.ff_types.specs.Assignments.{says_above, says_below, set_by}
use Rattle.ff_borders.proofs.TwoSides.{HasSides, both_sides, by_order, folded_inner}
use Rattle.ff_borders.proofs.Terms.{crease_faces_overlap}
use Rattle.ff_crossings.proofs.PairSets.{overlap_number, turned_number, lower_value, upper_value}
use Rattle.ff_orders.specs.declared.said.Said.{Said}
use Rattle.ff_orders.specs.Verdicts.{IsFirst, MarkAt, Never}
use Rattle.ff_orders.specs.Noted.{BrokenAt, value_of}

-- ---- a mark is kept where the pair has the order that it asks

-- whether a mark is kept: the left face is up or not, is above the right one or not, and below it or not
keeps : Mark → Bool → Bool → Bool → Bool
keeps V up p q = if up then q else p
keeps M up p q = if up then p else q
keeps _ up p q = true

is_given : Option Order → Order → Bool
is_given (Some t) s = is_order t s
is_given None s = true

direct : (m : Mark) (up : Bool) (s : Order) → keeps m up (says_above (Some s)) (says_below (Some s)) ≡ is_given (crease_order m up) s
unfolding keeps is_given
direct V true Below = refl
direct V true Above = refl
direct V false Below = refl
direct V false Above = refl
direct M true Below = refl
direct M true Above = refl
direct M false Below = refl
direct M false Above = refl
direct B up s = refl
direct F up s = refl
direct U up s = refl

turned : (m : Mark) (up : Bool) (s : Order) → keeps m up (says_below (Some s)) (says_above (Some s)) ≡ is_given (crease_order m (not up)) s
unfolding keeps is_given
turned V true Below = refl
turned V true Above = refl
turned V false Below = refl
turned V false Above = refl
turned M true Below = refl
turned M true Above = refl
turned M false Below = refl
turned M false Above = refl
turned B up s = refl
turned F up s = refl
turned U up s = refl

same_order : (s t : Order) → IsTrue (is_order s t) → t ≡ s
same_order Below Below e = refl
same_order Above Above e = refl
same_order Below Above e = absurd (false≢true e)
same_order Above Below e = absurd (false≢true e)

order_itself : (s t : Order) → t ≡ s → IsTrue (is_order s t)
order_itself s t e = subst (λ x. IsTrue (is_order s x)) (sym e) (by s) where
  by : (s : Order) → IsTrue (is_order s s)
  by Below = refl
  by Above = refl

IsCreased : Mark → Type 0
IsCreased m = (m ≡ M) ⊎ (m ≡ V)

folded_mark : (m : Mark) → IsCreased m → IsTrue (is_folded m)
unfolding IsCreased
folded_mark m (inl e) = subst (λ x. IsTrue (is_folded x)) (sym e) refl
folded_mark m (inr e) = subst (λ x. IsTrue (is_folded x)) (sym e) refl

-- what is kept whatever the order is
creased_or : (m : Mark) → IsCreased m ⊎ ((g : Sheet) (above : ℕ → ℕ → Bool) (x y : Option ℕ) → KeepsMark g above m x y)
unfolding IsCreased
creased_or M = inl (inl refl)
creased_or V = inl (inr refl)
creased_or B = inr (λ g above x y. tt)
creased_or F = inr (λ g above x y. tt)
creased_or U = inr (λ g above x y. tt)

an_order : (m : Mark) (up : Bool) → IsCreased m → (s : Order) × (crease_order m up ≡ Some s)
unfolding IsCreased
an_order m true (inl q) = (Above, ap (λ x. crease_order x true) q)
an_order m false (inl q) = (Below, ap (λ x. crease_order x false) q)
an_order m true (inr q) = (Below, ap (λ x. crease_order x true) q)
an_order m false (inr q) = (Above, ap (λ x. crease_order x false) q)

from_order : (m : Mark) (up : Bool) (s : Order) → crease_order m up ≡ Some s → IsCreased m
unfolding IsCreased
from_order M up s q = inl refl
from_order V up s q = inr refl
from_order B up s q = absurd (none_some s q)
from_order F up s q = absurd (none_some s q)
from_order U up s q = absurd (none_some s q)

-- the two faces of a crease lie differently
differently : (m : Mark) (b c : Bool) → IsCreased m → FitFlags m b c → c ≡ not b
unfolding IsCreased
differently m b c (inl q) x = back b c (subst (λ y. FitFlags y b c) q x) where
  back : (b c : Bool) → b ≡ not c → c ≡ not b
  back b true q = ap not (sym q)
  back b false q = ap not (sym q)
differently m b c (inr q) x = back b c (subst (λ y. FitFlags y b c) q x) where
  back : (b c : Bool) → b ≡ not c → c ≡ not b
  back b true q = ap not (sym q)
  back b false q = ap not (sym q)

-- what a start says
record IsGivenBy (e : ℕ) (o : Option ℕ) (p : Option Order) (s : Given) : Type 0 where
  number : o ≡ Some s.var
  order : p ≡ Some s.value
  crease : s.by ≡ Crease e

given_of : (e : ℕ) (o : Option ℕ) (p : Option Order) (s : Given) → given_by e o p ≡ Some s → IsGivenBy e o p s
given_of e (Some n) (Some v) s q = record { number = ap (λ (x : Given). Some x.var) same; order = ap (λ (x : Given). Some x.value) same; crease = sym (ap (λ (x : Given). x.by) same) } where
  same : record { var = n; value = v; by = Crease e } ≡ s
  same = some_same q
given_of e None p s q = absurd (none_some s q)
given_of e (Some n) None s q = absurd (none_some s q)

module _ {pattern : Pattern} {faces : Faces} {folded : Folded} (h : IsFoldedPattern pattern faces folded)
    (case : Case) (is : IsCaseOf (sheet_of pattern faces folded) case) (said : List Said) where
  abbrev g : Sheet
  g = sheet_of pattern faces folded

  abbrev a : ℕ → Order
  a = value_of said

  abbrev above : ℕ → ℕ → Bool
  above = set_by case.pairs a

  abbrev asked : ℕ → Option Order
  asked e = crease_order (mark_of g e) (lies_up g (lesser g e))

  -- the mark of the edge is kept exactly where the test is true
  abbrev Tells : Type 0 → Bool → Type 0
  Tells P b = (P → IsTrue b) × (IsTrue b → P)

  mark_test : (m : Mark) (f k : ℕ) → Tells (KeepsMark g above m (Some f) (Some k)) (keeps m (lies_up g f) (above f k) (above k f))
  unfolding keeps
  mark_test V f k = ((λ t. t), (λ t. t))
  mark_test M f k = ((λ t. t), (λ t. t))
  mark_test B f k = ((λ t. refl), (λ t. tt))
  mark_test F f k = ((λ t. refl), (λ t. tt))
  mark_test U f k = ((λ t. refl), (λ t. tt))

  edge_test : (e f k : ℕ) → HasSides g e f k → Tells (KeepsEdge g above e) (keeps (mark_of g e) (lies_up g f) (above f k) (above k f))
  edge_test e f k s =
      subst (λ x. Tells (KeepsMark g above (mark_of g e) x (right_face g e)) (keeps (mark_of g e) (lies_up g f) (above f k) (above k f))) (sym s.left)
      (subst (λ x. Tells (KeepsMark g above (mark_of g e) (Some f) x) (keeps (mark_of g e) (lies_up g f) (above f k) (above k f))) (sym s.right) (mark_test (mark_of g e) f k))

  record IsNumbered (e n : ℕ) : Type 0 where
    number : number_of case.pairs (lesser g e) (greater g e) ≡ Some n
    rises : lesser g e < greater g e

  module _ (e n : ℕ) (at : IsNumbered e n) where
    low : above (lesser g e) (greater g e) ≡ says_above (Some (a n))
    low = lower_value case.pairs (λ v. Some (a v)) (lesser g e) (greater g e) n at.number at.rises

    high : above (greater g e) (lesser g e) ≡ says_below (Some (a n))
    high = upper_value case.pairs (λ v. Some (a v)) (greater g e) (lesser g e) n
        (turned_number case.pairs (greater g e) (lesser g e) (λ q. let r = at.rises in omega (arith, q, r)) ∙ at.number) at.rises

    test_direct : (f k : ℕ) → lesser g e ≡ f → greater g e ≡ k → keeps (mark_of g e) (lies_up g f) (above f k) (above k f) ≡ is_given (asked e) (a n)
    test_direct f k p q = subst (λ x. keeps (mark_of g e) (lies_up g x) (above x k) (above k x) ≡ is_given (asked e) (a n)) p
        (subst (λ y. keeps (mark_of g e) (lies_up g (lesser g e)) (above (lesser g e) y) (above y (lesser g e)) ≡ is_given (asked e) (a n)) q
        (ap (λ x. keeps (mark_of g e) (lies_up g (lesser g e)) x (above (greater g e) (lesser g e))) low
        ∙ ap (λ y. keeps (mark_of g e) (lies_up g (lesser g e)) (says_above (Some (a n))) y) high
        ∙ direct (mark_of g e) (lies_up g (lesser g e)) (a n)))

    test_turned : (f k : ℕ) → lies_up g k ≡ not (lies_up g f) → lesser g e ≡ k → greater g e ≡ f → keeps (mark_of g e) (lies_up g f) (above f k) (above k f) ≡ is_given (asked e) (a n)
    test_turned f k d p q =
        ap (λ x. keeps (mark_of g e) (lies_up g f) x (above k f)) (subst (λ x. above x k ≡ says_below (Some (a n))) q (subst (λ y. above (greater g e) y ≡ says_below (Some (a n))) p high))
        ∙ ap (λ y. keeps (mark_of g e) (lies_up g f) (says_below (Some (a n))) y) (subst (λ x. above k x ≡ says_above (Some (a n))) q (subst (λ y. above y (greater g e) ≡ says_above (Some (a n))) p low))
        ∙ turned (mark_of g e) (lies_up g f) (a n)
        ∙ ap (λ b. is_given (crease_order (mark_of g e) b) (a n)) (sym d ∙ ap (lies_up g) (sym p))

    kept_where : e < length pattern.edges → IsCreased (mark_of g e) → Tells (KeepsEdge g above e) (is_given (asked e) (a n))
    kept_where l m = by (both_sides h e l (folded_inner (mark_of g e) (folded_mark (mark_of g e) m))) where
      by : (f : ℕ) × (k : ℕ) × HasSides g e f k → Tells (KeepsEdge g above e) (is_given (asked e) (a n))
      by (f, k, s) = subst (Tells (KeepsEdge g above e)) same (edge_test e f k s) where
        same : keeps (mark_of g e) (lies_up g f) (above f k) (above k f) ≡ is_given (asked e) (a n)
        same = by_order h e f k l s (test_direct f k) (test_turned f k
            (differently (mark_of g e) (lies_up g f) (lies_up g k) m (h.folding.flags e f k (omega (arith, l, h.faces_are.as_many_sides)) s.left s.right)))

  each_numbered : (e : ℕ) → e < length pattern.edges → IsCreased (mark_of g e) → (n : ℕ) × IsNumbered e n
  each_numbered e l m =
      let t : IsTrue (is_folded_edge g e) = of_both _ _ (lt-ltb e (length pattern.edges) l) (folded_mark (mark_of g e) m) in
      let o = crease_faces_overlap h e t in
      let n = overlap_number g case is (lesser g e) (greater g e) o.1 in
      (n.0, record { number = n.1; rises = o.0 })

  -- ---- starts

  -- the edge of a start
  record IsStartOf (i e : ℕ) (s : Given) : Type 0 where
    there : slice_get case.starts i ≡ Some s
    edge : e < length pattern.edges
    crease : s.by ≡ Crease e
    numbered : IsNumbered e s.var
    creased : IsCreased (mark_of g e)
    order : asked e ≡ Some s.value

  rises_of : (e : ℕ) → e < length pattern.edges → IsCreased (mark_of g e) → lesser g e < greater g e
  rises_of e l m = (each_numbered e l m).1.rises

  start_edge : (i : ℕ) (s : Given) → slice_get case.starts i ≡ Some s → (e : ℕ) × IsStartOf i e s
  start_edge i s there = by (in_filter_map (start_of g case.pairs) (edges_of g) s
      (subst (λ xs. Contains xs s) is.starts_are (i, slice_get_within case.starts i s there, get_or_from_slice_get case.starts i s s there))) where
        by : (e : ℕ) × Contains (edges_of g) e × (start_of g case.pairs e ≡ Some s) → (e : ℕ) × IsStartOf i e s
        by (e, m, q) = (
          e,
          record {
            there = there;
            edge = l;
            crease = r.crease;
            numbered = record { number = r.number; rises = rises_of e l mark };
            creased = mark;
            order = r.order;
          },
        ) where
          l : e < length pattern.edges
          l = let k = in_range 0 (length pattern.edges) e m in omega (arith, k.1)

          r : IsGivenBy e (number_of case.pairs (lesser g e) (greater g e)) (asked e) s
          r = given_of e (number_of case.pairs (lesser g e) (greater g e)) (asked e) s q

          mark : IsCreased (mark_of g e)
          mark = from_order (mark_of g e) (lies_up g (lesser g e)) s.value r.order

  edge_start : (e : ℕ) → e < length pattern.edges → IsCreased (mark_of g e) → (i : ℕ) × (s : Given) × IsStartOf i e s
  edge_start e l m =
      let n = each_numbered e l m in
      let o = an_order (mark_of g e) (lies_up g (lesser g e)) m in
      let s : Given = record { var = n.0; value = o.0; by = Crease e } in
      let q : start_of g case.pairs e ≡ Some s = ap (λ x. given_by e x (asked e)) n.1.number ∙ ap (λ x. given_by e (Some n.0) x) o.1 in
      let member = filter_map_in (start_of g case.pairs) (edges_of g) e s (range_in 0 (length pattern.edges) e (omega arith) (omega (arith, l))) q in
      let i = place_of_member case.starts s (subst (λ xs. Contains xs s) (sym is.starts_are) member) in
      (i.0, s, record { there = i.1; edge = l; crease = refl; numbered = n.1; creased = m; order = o.1 })

  broken_start : (i e : ℕ) (s : Given) → IsStartOf i e s → (a s.var ≡ s.value → ⊥) → MarkAt g above e
  unfolding is_given
  broken_start i e s at broken = record {
    edge = at.edge;
    broken = λ kept. broken (same_order s.value (a s.var)
        (subst (λ o. IsTrue (is_given o (a s.var))) at.order ((kept_where e s.var at.numbered at.edge at.creased).0 kept)));
  }

  start_broken : (i e : ℕ) (s : Given) → IsStartOf i e s → MarkAt g above e → a s.var ≡ s.value → ⊥
  unfolding is_given
  start_broken i e s at mark same = mark.broken ((kept_where e s.var at.numbered at.edge at.creased).1
      (subst (λ o. IsTrue (is_given o (a s.var))) (sym at.order) (order_itself s.value (a s.var) same)))

  start_is : (i : ℕ) (s : Given) → slice_get case.starts i ≡ Some s → start_at case.starts i ≡ s
  start_is i s there = get_or_from_slice_get case.starts i s _ there

  -- ---- the first of them

  -- an edge that isn't kept has a broken start
  broken_of : (e : ℕ) → MarkAt g above e → (i : ℕ) × (s : Given) × IsStartOf i e s × BrokenAt said case.starts i
  broken_of e mark = elim (creased_or (mark_of g e)) [
    | inl m ↦ by m (edge_start e mark.edge m)
    | inr free ↦ absurd (mark.broken (free g above (left_face g e) (right_face g e)))
  ] where
    by : IsCreased (mark_of g e) → (i : ℕ) × (s : Given) × IsStartOf i e s → (i : ℕ) × (s : Given) × IsStartOf i e s × BrokenAt said case.starts i
    by m (i, s, at) = (
      i,
      s,
      at,
      record {
        within = slice_get_within case.starts i s at.there;
        broken = λ same. start_broken i e s at mark (subst (λ (t : Given). a t.var ≡ t.value) (start_is i s at.there) same);
      },
    )

  pub no_mark : Never (BrokenAt said case.starts) → Never (MarkAt g above)
  no_mark none e mark = let b = broken_of e mark in none b.0 b.3

  pub first_mark : (i e : ℕ) → e ≡ edge_of (start_at case.starts i).by → IsFirst (BrokenAt said case.starts) i → IsFirst (MarkAt g above) e
  first_mark i e q first = by (start_at case.starts i) (slice_get-get_or case.starts i _ first.is.within) refl where
    by : (s : Given) → slice_get case.starts i ≡ Some s → start_at case.starts i ≡ s → IsFirst (MarkAt g above) e
    by s there same = of_edge (start_edge i s there) where
      of_edge : (d : ℕ) × IsStartOf i d s → IsFirst (MarkAt g above) e
      of_edge (d, at) = subst (IsFirst (MarkAt g above)) (sym (q ∙ ap (λ (x : Given). edge_of x.by) same ∙ ap edge_of at.crease)) (record {
        is = broken_start i d s at (λ x. first.is.broken (subst (λ (t : Given). a t.var ≡ t.value) (sym same) x));
        before = λ m l mark. earlier m l (broken_of m mark);
      }) where
        one : (m j : ℕ) (t : Given) → IsStartOf j m t → j ≡ i → m ≡ d
        one m j t start z = ap edge_of (sym start.crease ∙ ap (λ (x : Given). x.by) (some_same (sym start.there ∙ ap (slice_get case.starts) z ∙ there)) ∙ at.crease)

        earlier : (m : ℕ) → m < d → (j : ℕ) × (t : Given) × IsStartOf j m t × BrokenAt said case.starts j → ⊥
        earlier m l (j, t, start, broken) = elim (less_or j i) [
          | inl less ↦ first.before j less broken
          | inr k ↦ elim k [
            | inl z ↦ let w = one m j t start z in omega (arith, l, w)
            | inr more ↦ let r = case.valid.rising i j s t d m more there start.there at.crease start.crease in omega (arith, l, r)
          ]
        ]
