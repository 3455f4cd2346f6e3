-- Edges that hold one plain border place run along each other, and agree on their sides or have them the
-- other way.
use Rattle.std.proofs.Common.{◌≡◌, ℕ, ◌<◌, inl, inr, refl, sym, ◌∙◌, ap, arith, ℤ, pos, ◌*ℤ◌, ◌<ℤ◌, ◌≤ℤ◌, Bool, true, false, ◌&&◌, ◌||◌, IsTrue, List, [], ◌∷◌, length}
use lib.IntN.{neg_ℤ}
use Rattle.std.specs.Prelude.{int_le}
use Rattle.std.specs.List.{list_all, Contains}
use Rattle.std.proofs.lemmas.Int.{by_lt_z}
use Rattle.ff_basics.proofs.Lists.{all_from}
use Rattle.ff_basics.proofs.Tests.{at_most_from, le_from, same_truth, to_at_most, to_le}
use Rattle.ff_whole.specs.declared.points.Pt.{Pt}
use Rattle.ff_whole.specs.declared.places.Place.{Place}
use Rattle.ff_whole.specs.Points.{minus, dot, cross}
use Rattle.ff_whole.specs.Places.{IsPlace, place_of, height, slant}
use Rattle.ff_whole.specs.Convex.{point_at}
use Rattle.ff_whole.proofs.Ring.{var, ◌⊗◌, opp, solve}
use Rattle.ff_whole.proofs.Signs.{linear, by_sign, pos-mul, nonneg-mul, nonneg_from_mul, pos_from_mul}
use Rattle.ff_whole.proofs.ThreeTerms.{parallel-product}
use Rattle.ff_whole.proofs.Alongs.{parallel-height}
use Rattle.ff_types.specs.declared.patterns.Pattern.{Pattern}
use Rattle.ff_types.specs.declared.faces.Faces.{Faces}
use Rattle.ff_types.specs.declared.faces.Folded.{Folded}
use Rattle.ff_types.specs.Faces.{ring_at}
use Rattle.ff_types.specs.Sheets.{Sheet, sheet_of, tail, head, line_of, edges_of}
use Rattle.ff_types.specs.Borders.{is_on, is_between, are_parallel, is_plain_at}
use Rattle.ff_types.specs.Covering.{lies_left, lies_right}
use Rattle.ff_types.specs.FoldedPatterns.{IsFoldedPattern}
use Rattle.ff_borders.specs.Lying.{SidesAgree, OneSideAgrees, EdgesRunAlong}
use Rattle.ff_borders.proofs.Tests.{on_from, parallel_from, to_parallel, plain_on, to_plain_at, edge_below}
use Rattle.ff_borders.proofs.Steps.{long}
use Rattle.ff_borders.proofs.Parallels.{slant-cross, leads-side, leads-inner, both_parallel}

-- ---- tests that are the same

same_all : (p q : ℕ → Bool) (xs : List ℕ) → ((x : ℕ) → p x ≡ q x) → list_all p xs ≡ list_all q xs
same_all p q [] e = refl
same_all p q (x ∷ xs) e = ap (λ b. b && list_all p xs) (e x) ∙ ap (λ b. q x && b) (same_all p q xs e)

-- a number that is another one times a positive factor
up_to : (d c x y : ℤ) → pos 0 <ℤ d → pos 0 <ℤ c → d *ℤ x ≡ c *ℤ y → pos 0 ≤ℤ x → pos 0 ≤ℤ y
up_to d c x y p q e h = let n =
    nonneg-mul d x (omega (arith, linear)) h in nonneg_from_mul c y q (omega (arith, linear))

down_to : (d c x y : ℤ) → pos 0 <ℤ d → pos 0 <ℤ c → d *ℤ x ≡ c *ℤ y → x ≤ℤ pos 0 → y ≤ℤ pos 0
down_to d c x y p q e h = by_lt_z (pos 0) y
    (λ l. let n = pos-mul c y q l in let m = pos_from_mul d x p (omega (arith, linear)) in
    absurd (omega (arith, linear)))
    (λ l. l)

same_above : (d c x y : ℤ) → pos 0 <ℤ d → pos 0 <ℤ c → d *ℤ x ≡ c *ℤ y → int_le (pos 0) x ≡ int_le (pos 0) y
same_above d c x y p q e =
    same_truth (int_le (pos 0) x) (int_le (pos 0) y) (λ t. to_le y (up_to d c x y p q e (le_from x t)))
    (λ t. to_le x (up_to c d y x q p (sym e) (le_from y t)))

same_below : (d c x y : ℤ) → pos 0 <ℤ d → pos 0 <ℤ c → d *ℤ x ≡ c *ℤ y → int_le x (pos 0) ≡ int_le y (pos 0)
same_below d c x y p q e =
    same_truth (int_le x (pos 0)) (int_le y (pos 0))
    (λ t. to_at_most y (down_to d c x y p q e (at_most_from x t)))
    (λ t. to_at_most x (down_to c d y x q p (sym e) (at_most_from y t)))

turned_up : (y : ℤ) → int_le (pos 0) (neg_ℤ y) ≡ int_le y (pos 0)
turned_up y = same_truth _ _ (λ t. to_at_most y (let u = le_from (neg_ℤ y) t in omega (arith, linear)))
    (λ t. to_le (neg_ℤ y) (let u = at_most_from y t in omega (arith, linear)))

turned_down : (y : ℤ) → int_le (neg_ℤ y) (pos 0) ≡ int_le (pos 0) y
turned_down y = same_truth _ _ (λ t. to_le y (let u = at_most_from (neg_ℤ y) t in omega (arith, linear)))
    (λ t. to_at_most (neg_ℤ y) (let u = le_from y t in omega (arith, linear)))

both_turned : (c y : ℤ) → c *ℤ y ≡ neg_ℤ c *ℤ neg_ℤ y
both_turned c y = solve (c ∷ y ∷ []) (var 0 ⊗ var 1) (opp (var 0) ⊗ opp (var 1)) refl

-- ---- faces on one side of one edge and of the other

either_way : (a b : Bool) → a || b ≡ b || a
either_way true true = refl
either_way true false = refl
either_way false true = refl
either_way false false = refl

pub one_side_agrees : (g : Sheet) → OneSideAgrees g
one_side_agrees g e k faces (inl a) =
    ap (λ b. b || list_all (lies_right g k) faces) (same_all _ _ faces (λ f. (a f).0))
    ∙ ap (λ b. list_all (lies_left g e) faces || b) (same_all _ _ faces (λ f. (a f).1))
one_side_agrees g e k faces (inr a) =
    ap (λ b. b || list_all (lies_right g k) faces) (same_all _ _ faces (λ f. (a f).0))
    ∙ (ap (λ b. list_all (lies_right g e) faces || b) (same_all _ _ faces (λ f. (a f).1))
    ∙ either_way (list_all (lies_right g e) faces) (list_all (lies_left g e) faces))

module _ {pattern : Pattern} {faces : Faces} {folded : Folded}
    (h : IsFoldedPattern pattern faces folded) where
  abbrev g : Sheet
  g = sheet_of pattern faces folded

  abbrev way : ℕ → Pt
  way e = minus (head g e) (tail g e)

  -- parallel edges on one line
  pub agree : (e k : ℕ) (s : Place) → e < length pattern.edges → k < length pattern.edges → IsPlace s
      → height (line_of g e) s ≡ pos 0 → height (line_of g k) s ≡ pos 0
      → cross (way k) (way e) ≡ pos 0 → SidesAgree g e k
  agree e k s el kl positive on at par = by_sign c
      (λ l. inr (λ f. (
        same_all _ _ (ring_at faces.rings f)
            (λ v. same_above dd (neg_ℤ c) (over v) (neg_ℤ (above v)) (long h e el) (omega (arith, linear))
            (scaled v ∙ both_turned c (above v)) ∙ turned_up (above v)),
        same_all _ _ (ring_at faces.rings f)
            (λ v. same_below dd (neg_ℤ c) (over v) (neg_ℤ (above v)) (long h e el) (omega (arith, linear))
            (scaled v ∙ both_turned c (above v)) ∙ turned_down (above v)),
      )))
      (λ z. absurd (parallel-product (way k) (way e) (long h k kl) (long h e el) par z))
      (λ l. inl (λ f. (
        same_all _ _ (ring_at faces.rings f)
            (λ v. same_above dd c (over v) (above v) (long h e el) l (scaled v)),
        same_all _ _ (ring_at faces.rings f)
            (λ v. same_below dd c (over v) (above v) (long h e el) l (scaled v)),
      )))
    where
      c : ℤ
      c = dot (way k) (way e)

      dd : ℤ
      dd = dot (way e) (way e)

      over : ℕ → ℤ
      over v = height (line_of g k) (place_of (point_at folded.points v))

      above : ℕ → ℤ
      above v = height (line_of g e) (place_of (point_at folded.points v))

      scaled : (v : ℕ) → dd *ℤ over v ≡ c *ℤ above v
      scaled v = parallel-height (line_of g k) (tail g e) (head g e) s positive (long h e el)
          (leads-side true (tail g k) (head g k) (way e) ∙ par) on at (place_of (point_at folded.points v))
          ∙ ap (λ z. z *ℤ above v) (leads-inner true (tail g k) (head g k) (way e))

  flat_from : (e k : ℕ) → slant (line_of g k) (line_of g e) ≡ pos 0 → cross (way k) (way e) ≡ pos 0
  flat_from e k z = sym (slant-cross (tail g k) (head g k) (tail g e) (head g e)) ∙ z

  pub edges_run_along : EdgesRunAlong g
  edges_run_along e k s plain l on = record {
    between = (plain_on g e k s plain l on).0;
    parallel = (plain_on g e k s plain l on).1;
    plain = record {
      place = plain.place;
      edge = l;
      on = on;
      plain = all_from (is_plain_at g k s) (edges_of g)
          (λ j m. to_plain_at g k j s (along j m));
    };
    sides = agree e k s plain.edge l plain.place (on_from g e s plain.on).on (on_from g k s on).on flat;
  } where
    flat : cross (way k) (way e) ≡ pos 0
    flat = flat_from e k (parallel_from g k e (plain_on g e k s plain l on).1)

    along : (j : ℕ) → Contains (edges_of g) j → IsTrue (is_on g j s)
        → IsTrue (is_between g j s) × IsTrue (are_parallel g j k)
    along j m t =
        let p = plain_on g e j s plain (edge_below g j m) t in
        let d = flat_from e j (parallel_from g j e p.1) in (
          p.0,
          to_parallel g j k (slant-cross (tail g j) (head g j) (tail g k) (head g k)
              ∙ both_parallel (way e) (way j) (way k) (long h e plain.edge) d flat),
        )
