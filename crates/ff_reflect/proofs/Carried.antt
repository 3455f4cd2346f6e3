-- Where each face carries its vertices, along the meetings over which faces were first met.
use Rattle.std.proofs.Common.{◌≡◌, ◌≢◌, ℕ, zero, suc, ◌<◌, ◌==◌, arith, refl, sym, ap, ◌∙◌, subst, true, false, not, Bool, cond, List, [], ◌∷◌, slice_get, Some, None, IsTrue, ℤ, pos, ◌+ℤ◌, ◌-ℤ◌, ◌*ℤ◌}
use lib.IntN.{neg_ℤ}
use Rattle.std.proofs.lemmas.Int.{ints}
use Rattle.std.proofs.lemmas.Bool.{false≢true, eqb-true, eqb-false}
use Rattle.std.specs.List.{Contains}
use Rattle.ff_basics.proofs.Memberships.{by_member, first_member, later_member, no_member}
use Rattle.ff_basics.proofs.Numbers.{same_number}
use Rattle.ff_whole.specs.declared.points.Pt.{Pt}
use Rattle.ff_whole.specs.declared.places.Place.{Place}
use Rattle.ff_whole.specs.Places.{IsPlace, place_of, same_place}
use Rattle.ff_whole.specs.Convex.{point_at}
use Rattle.ff_types.specs.declared.patterns.Mark.{Mark}
use Rattle.ff_types.specs.declared.patterns.Mark.TheVariants.{B, M, V, F, U}
use Rattle.ff_types.specs.Patterns.{edge_at}
use Rattle.ff_types.specs.Faces.{mark_at}
use Rattle.ff_types.specs.Foldings.{is_folded, is_up, FitFlags}
use Rattle.ff_types.specs.Placing.{Meeting, has_number, IsParent, AreFlags}
use Rattle.ff_types.specs.Carrying.{IsCarried}
use Rattle.ff_reflect.specs.Sheets.{Paper, HasFaces}
use Rattle.ff_reflect.specs.Trees.{first_meetings, faces_across, order_along, Grows}
use Rattle.ff_reflect.proofs.Cases.{by_test}
use Rattle.ff_reflect.proofs.Firsts.{contains_from_has, has_from_contains, across_firsts}
use Rattle.ff_reflect.proofs.Orders.{IsOrdered, all_of, get_in, along_order}
use Rattle.ff_reflect.proofs.Across.{no_border}
use Rattle.ff_reflect.proofs.Foldings.{IsKnown, known, face_in_order, ends_apart, equal_test, both_true, fit_one}
use Rattle.ff_reflect.proofs.Motions.{Motion, IsMotion, carry, still, side_of, motion_shape, reflected, reflected_is, reflected_first, reflected_second}

-- ---- the motions

-- that of the face across, from that of the face
abbrev pub child : Paper → Meeting → Motion → Motion
child paper m f = cond (is_folded (mark_at paper.marks m.edge)) (reflected (point_at paper.points (edge_at paper.edges m.edge).a) (point_at paper.points (edge_at paper.edges m.edge).b) f) f

abbrev pub with_child : Paper → Meeting → (ℕ → Motion) → ℕ → Motion
with_child paper m f g = cond (g == m.across) (child paper m (f m.face)) (f g)

unfoldable pub motions : Paper → List Meeting → (ℕ → Motion) → ℕ → Motion
motions paper [] f = f
motions paper (m ∷ tree) f = motions paper tree (with_child paper m f)

-- ---- each is its parent's child

pub other_number : (a b : ℕ) → (a ≡ b → ⊥) → (a == b) ≡ false
other_number a b f = by_test (a == b) (λ e. absurd (f (eqb-true a b e))) (λ e. e)

-- a number that stands among others isn't one that doesn't
among_not : (seen : List ℕ) (g x : ℕ) → Contains seen g → has_number x seen ≡ false → g ≡ x → ⊥
among_not seen g x c n e = false≢true (sym n ∙ ap (λ z. has_number z seen) (sym e) ∙ has_from_contains g seen c)

-- a face that stands among the numbers keeps its motion
kept : (paper : Paper) (seen : List ℕ) (tree : List Meeting) → Grows seen tree → (f : ℕ → Motion) (g : ℕ) → Contains seen g → motions paper tree f g ≡ f g
unfolding motions
kept paper seen [] grows f g c = refl
kept paper seen (m ∷ tree) grows f g c =
    kept paper (m.across ∷ seen) tree grows.2 (with_child paper m f) g (later_member m.across seen g c)
    ∙ ap (λ b. cond b (child paper m (f m.face)) (f g)) (other_number g m.across (among_not seen g m.across c grows.1))

pub child_of : (paper : Paper) (seen : List ℕ) (tree : List Meeting) → Grows seen tree → (f : ℕ → Motion) (m : Meeting) → Contains tree m
    → motions paper tree f m.across ≡ child paper m (motions paper tree f m.face)
unfolding motions
child_of paper seen [] grows f m c = absurd (no_member m c)
child_of paper seen (x ∷ tree) grows f m c = by_member x tree m
    (λ e. subst (λ (z : Meeting). motions paper tree (with_child paper x f) z.across ≡ child paper z (motions paper tree (with_child paper x f) z.face)) e
    (kept paper (x.across ∷ seen) tree grows.2 (with_child paper x f) x.across (first_member x.across seen x.across refl)
    ∙ ap (λ b. cond b (child paper x (f x.face)) (f x.across)) (same_number x.across)
    ∙ ap (child paper x) (sym (kept paper (x.across ∷ seen) tree grows.2 (with_child paper x f) x.face (later_member x.across seen x.face grows.0)
    ∙ ap (λ b. cond b (child paper x (f x.face)) (f x.face)) (other_number x.face x.across (among_not seen x.face x.across grows.0 grows.1))))))
    (λ k. child_of paper (x.across ∷ seen) tree grows.2 (with_child paper x f) m k) c

-- a face across none of the meetings keeps its motion, too
untouched : (paper : Paper) (tree : List Meeting) (f : ℕ → Motion) (g : ℕ) → has_number g (faces_across tree) ≡ false → motions paper tree f g ≡ f g
unfolding motions
untouched paper [] f g e = refl
untouched paper (m ∷ tree) f g e = by (g == m.across) refl e (untouched paper tree (with_child paper m f) g) where
  by : (b : Bool) → (g == m.across) ≡ b → cond b true (has_number g (faces_across tree)) ≡ false
      → (has_number g (faces_across tree) ≡ false → motions paper tree (with_child paper m f) g ≡ with_child paper m f g) → motions paper tree (with_child paper m f) g ≡ f g
  by true d q k = absurd (false≢true (sym q))
  by false d q k = k q ∙ ap (λ b. cond b (child paper m (f m.face)) (f g)) d

-- the order is face 0 and the faces across the first meetings
pub order_along_tree : (paper : Paper) (order : List ℕ) (tree : List Meeting) → IsOrdered paper order → tree ≡ first_meetings (0 ∷ []) (all_of paper order) → order ≡ order_along tree
order_along_tree paper order tree o is = o.in_order ∙ ap (λ xs. 0 ∷ xs) (sym (across_firsts (0 ∷ []) (all_of paper order)) ∙ ap faces_across (sym is))

-- a meeting that is the first with its face across is among the first meetings
pub parent_among : (seen : List ℕ) (all : List Meeting) (i : ℕ) (m : Meeting) → slice_get all i ≡ Some m → has_number m.across seen ≡ false
    → ((j : ℕ) (k : Meeting) → j < i → slice_get all j ≡ Some k → k.across ≢ m.across) → Contains (first_meetings seen all) m
parent_among seen [] i m e n first = absurd (let q : None ≡ Some m = e in cc)
parent_among seen (x ∷ all) zero m e n first =
    let same : x ≡ m = (let q : Some x ≡ Some m = e in cc) in
    subst (λ b. Contains (cond b (first_meetings seen all) (x ∷ first_meetings (x.across ∷ seen) all)) m) (sym (ap (λ (z : Meeting). has_number z.across seen) same ∙ n))
    (first_member x (first_meetings (x.across ∷ seen) all) m same)
parent_among seen (x ∷ all) (suc i) m e n first =
    by (has_number x.across seen) (parent_among seen all i m e n (λ j k l d. first (suc j) k (omega (arith, l)) d))
    (parent_among (x.across ∷ seen) all i m e (ap (λ b. cond b true (has_number m.across seen)) (other_number m.across x.across (λ q. first 0 x (omega arith) refl (sym q))) ∙ n) (λ j k l d. first (suc j) k (omega (arith, l)) d))
  where
    by : (b : Bool) → Contains (first_meetings seen all) m → Contains (first_meetings (x.across ∷ seen) all) m → Contains (cond b (first_meetings seen all) (x ∷ first_meetings (x.across ∷ seen) all)) m
    by true p q = p
    by false p q = later_member x (first_meetings (x.across ∷ seen) all) m q

-- ---- the places

still_is : IsMotion still
still_is = record { positive = omega (arith, ints); length_is = refl; side = refl }

still_place : (p : Pt) → IsTrue (same_place (carry still p) (place_of p))
still_place p = both_true _ _ (equal_test _ _ (go_x p.x p.y)) (equal_test _ _ (go_y p.x p.y)) where
  go_x : (x y : ℤ) → ((((pos 1 *ℤ x) -ℤ ((pos 1 *ℤ pos 0) *ℤ y)) +ℤ pos 0) *ℤ pos 1) ≡ (x *ℤ pos 1)
  go_x x y = omega (arith, ints)

  go_y : (x y : ℤ) → ((((pos 0 *ℤ x) +ℤ ((pos 1 *ℤ pos 1) *ℤ y)) +ℤ pos 0) *ℤ pos 1) ≡ (y *ℤ pos 1)
  go_y x y = omega (arith, ints)

-- a motion with the turning over that a flag says
record FitsFlag (m : Motion) (up : Bool) : Type 0 where
  is_motion : IsMotion m
  side : m.g ≡ side_of up

-- of two faces over a folded edge the one is turned over where the other isn't
child_fits : (paper : Paper) (h : HasFaces paper) (m : Meeting) → IsKnown paper m → (f : Motion) (up down : Bool) → FitsFlag f up
    → (mark_at paper.marks m.edge ≡ B → ⊥) → ((FitFlags (mark_at paper.marks m.edge) up down → ⊥) → ⊥) → FitsFlag (child paper m f) down
child_fits paper h m k f up down fits n e = by (mark_at paper.marks m.edge) n e where
  folded : IsMotion (reflected (point_at paper.points (edge_at paper.edges m.edge).a) (point_at paper.points (edge_at paper.edges m.edge).b) f)
  folded = reflected_is (point_at paper.points (edge_at paper.edges m.edge).a) (point_at paper.points (edge_at paper.edges m.edge).b) f (ends_apart paper h m.edge k.edge) fits.is_motion

  flip : (b : Bool) → neg_ℤ (side_of b) ≡ side_of (not b)
  flip true = refl
  flip false = refl

  double : (b : Bool) → b ≡ not (not b)
  double true = refl
  double false = refl

  turned : ((up ≡ not down → ⊥) → ⊥) → neg_ℤ f.g ≡ side_of down
  turned e = ap neg_ℤ fits.side ∙ flip up ∙ ap side_of (fit_one M up (not up) down (λ q. let r : M ≡ B = q in cc) (double up) e)

  by : (mark : Mark) → (mark ≡ B → ⊥) → ((FitFlags mark up down → ⊥) → ⊥)
      → FitsFlag (cond (is_folded mark) (reflected (point_at paper.points (edge_at paper.edges m.edge).a) (point_at paper.points (edge_at paper.edges m.edge).b) f) f) down
  by B n e = absurd (n refl)
  by F n e = record { is_motion = fits.is_motion; side = fits.side ∙ ap side_of (fit_one F up up down n refl e) }
  by M n e = record { is_motion = folded; side = turned e }
  by V n e = record { is_motion = folded; side = turned e }
  by U n e = record { is_motion = folded; side = turned e }

unfoldable pub carried_by : Paper → List Meeting → ℕ → ℕ → Place
carried_by paper tree f v = carry (motions paper tree (λ g. still) f) (point_at paper.points v)

-- so there is a place for each vertex of each face
pub carried_so : (paper : Paper) (order : List ℕ) (tree : List Meeting) (up : List Bool) → IsOrdered paper order → Grows (0 ∷ []) tree
    → tree ≡ first_meetings (0 ∷ []) (all_of paper order) → AreFlags (all_of paper order) paper.marks up
    → IsCarried paper.points paper.rings paper.edges (all_of paper order) up order (carried_by paper tree)
unfolding carried_by
carried_so paper order tree up o grows is by = record {
  places = λ f v. places f;
  still = λ v. subst (λ m. IsTrue (same_place (carry m (point_at paper.points v)) (place_of (point_at paper.points v)))) (sym zero_still) (still_place (point_at paper.points v));
  shapes = λ f u v w c cu cv cw. let k = fits f c in motion_shape (motion f) k.is_motion (is_up up f) k.side _ _ _;
  agree_first = λ i m p. agree_first i m p;
  agree_second = λ i m p. agree_second i m p;
}
  where
    motion : ℕ → Motion
    motion = motions paper tree (λ g. still)

    zero_still : motion 0 ≡ still
    zero_still = kept paper (0 ∷ []) tree grows (λ g. still) 0 (first_member 0 [] 0 refl)

    is_child : (i : ℕ) (m : Meeting) → IsParent (all_of paper order) i m → motion m.across ≡ child paper m (motion m.face)
    is_child i m p = child_of paper (0 ∷ []) tree grows (λ g. still) m
        (subst (λ ms. Contains ms m) (sym is) (parent_among (0 ∷ []) (all_of paper order) i m p.0 (ap (λ b. cond b true false) (other_number m.across 0 p.1)) p.2))

    fits : (f : ℕ) → Contains order f → FitsFlag (motion f) (is_up up f)
    fits = along_order paper order o (λ f. FitsFlag (motion f) (is_up up f))
        (subst (λ m. FitsFlag m (is_up up 0)) (sym zero_still) (record { is_motion = still_is; side = ap side_of (sym by.first) }))
        (λ i m p c q. let k = known paper order o.has_faces m (get_in _ i m p.0) in
        subst (λ n. FitsFlag n (is_up up m.across)) (sym (is_child i m p))
        (child_fits paper o.has_faces m k (motion m.face) (is_up up m.face) (is_up up m.across) q (no_border paper o.has_faces m.edge m.face m.across k.edge k.sides_are) (by.by_parents i m p)))

    later : {x : Bool} (b : Bool) → cond b true x ≡ false → x ≡ false
    later true e = absurd (false≢true (sym e))
    later false e = e

    places : (f : ℕ) → IsPlace (carry (motion f) (point_at paper.points 0))
    places f = by_test (has_number f order)
        (λ e. let k = fits f (contains_from_has f order e) in let m = k.is_motion in m.positive)
        (λ e. subst (λ m. IsPlace (carry m (point_at paper.points 0))) (sym (untouched paper tree (λ g. still) f (later (f == 0) (sym (ap (has_number f) (order_along_tree paper order tree o is)) ∙ e)))) (omega (arith, ints)))

    same_itself : (s : Place) → IsTrue (same_place s s)
    same_itself s = both_true _ _ (equal_test (s.x *ℤ s.w) (s.x *ℤ s.w) refl) (equal_test (s.y *ℤ s.w) (s.y *ℤ s.w) refl)

    child_first : (m : Meeting) (f : Motion) → IsTrue (same_place (carry (child paper m f) (point_at paper.points (edge_at paper.edges m.edge).a)) (carry f (point_at paper.points (edge_at paper.edges m.edge).a)))
    child_first m f = go (is_folded (mark_at paper.marks m.edge)) where
      go : (b : Bool) → IsTrue (same_place (carry (cond b (reflected (point_at paper.points (edge_at paper.edges m.edge).a) (point_at paper.points (edge_at paper.edges m.edge).b) f) f) (point_at paper.points (edge_at paper.edges m.edge).a)) (carry f (point_at paper.points (edge_at paper.edges m.edge).a)))
      go true = reflected_first (point_at paper.points (edge_at paper.edges m.edge).a) (point_at paper.points (edge_at paper.edges m.edge).b) f
      go false = same_itself (carry f (point_at paper.points (edge_at paper.edges m.edge).a))

    child_second : (m : Meeting) (f : Motion) → IsMotion f → IsTrue (same_place (carry (child paper m f) (point_at paper.points (edge_at paper.edges m.edge).b)) (carry f (point_at paper.points (edge_at paper.edges m.edge).b)))
    child_second m f k = go (is_folded (mark_at paper.marks m.edge)) where
      go : (b : Bool) → IsTrue (same_place (carry (cond b (reflected (point_at paper.points (edge_at paper.edges m.edge).a) (point_at paper.points (edge_at paper.edges m.edge).b) f) f) (point_at paper.points (edge_at paper.edges m.edge).b)) (carry f (point_at paper.points (edge_at paper.edges m.edge).b)))
      go true = reflected_second (point_at paper.points (edge_at paper.edges m.edge).a) (point_at paper.points (edge_at paper.edges m.edge).b) f k
      go false = same_itself (carry f (point_at paper.points (edge_at paper.edges m.edge).b))

    agree_first : (i : ℕ) (m : Meeting) → IsParent (all_of paper order) i m
        → IsTrue (same_place (carry (motion m.across) (point_at paper.points (edge_at paper.edges m.edge).a)) (carry (motion m.face) (point_at paper.points (edge_at paper.edges m.edge).a)))
    agree_first i m p = subst (λ n. IsTrue (same_place (carry n (point_at paper.points (edge_at paper.edges m.edge).a)) (carry (motion m.face) (point_at paper.points (edge_at paper.edges m.edge).a)))) (sym (is_child i m p)) (child_first m (motion m.face))

    agree_second : (i : ℕ) (m : Meeting) → IsParent (all_of paper order) i m
        → IsTrue (same_place (carry (motion m.across) (point_at paper.points (edge_at paper.edges m.edge).b)) (carry (motion m.face) (point_at paper.points (edge_at paper.edges m.edge).b)))
    agree_second i m p =
        let k = fits m.face (face_in_order paper order m (get_in _ i m p.0)) in
        subst (λ n. IsTrue (same_place (carry n (point_at paper.points (edge_at paper.edges m.edge).b)) (carry (motion m.face) (point_at paper.points (edge_at paper.edges m.edge).b)))) (sym (is_child i m p)) (child_second m (motion m.face) k.is_motion)
