-- What the tests of places, edges and faces say.
use Rattle.std.proofs.Common.{◌≡◌, ℕ, ◌<◌, ◌⊎◌, inl, inr, refl, sym, ◌∙◌, ap, subst, arith, ℤ, pos, ◌<ℤ◌, ◌≤ℤ◌, Bool, true, false, not, ◌&&◌, ◌||◌, IsTrue, List, [], ◌∷◌, length, Some, None, Option}
use Rattle.std.specs.Prelude.{int_lt, int_le, ◌==◌}
use Rattle.std.specs.List.{list_all, list_any, Contains}
use Rattle.std.specs.Ordering.{int_eq}
use Rattle.std.proofs.lemmas.Int.{ints}
use Rattle.std.proofs.lemmas.Bool.{false≢true, eqb-true, lt-ltb, ltb-true}
use Rattle.std.proofs.lemmas.Bool.Decides.{Decides-int_eq}
use Rattle.ff_basics.proofs.Memberships.{by_member, first_member, in_range, later_member, no_member, range_in}
use Rattle.ff_basics.proofs.Tests.{at_most_from, both_of, either_of, eq_from, le_from, lt_from, not_false, not_true, of_both, of_first, of_second, same_truth, to_at_most, to_eq, to_le, to_lt}
use Rattle.ff_basics.proofs.Lists.{all_at, all_from, some_at, some_from}
use Rattle.ff_whole.specs.declared.places.Place.{Place}
use Rattle.ff_whole.specs.Places.{height, past, slant}
use Rattle.ff_whole.proofs.OnEdges.{IsOn}
use Rattle.ff_whole.proofs.Alongs.{IsBetween}
use Rattle.ff_types.specs.Sheets.{Sheet, edges_of, faces_of, tail, head, line_of, left_face, right_face, is_some_of, bounds}
use Rattle.ff_types.specs.Borders.{is_on, is_between, are_parallel, is_plain_at, IsPlainBorder}
use Rattle.ff_types.specs.Covering.{is_on_ring}

-- ---- tests

pub by_test {ℓ} : {P : Type ℓ} (b : Bool) → (IsTrue b → P) → (b ≡ false → P) → P
by_test true f g = f refl
by_test false f g = g refl

-- ---- tests of numbers

-- ---- tests of lists

-- ---- edges and faces by number

pub edge_in : (g : Sheet) (e : ℕ) → e < length g.edges → Contains (edges_of g) e
edge_in g e h = range_in 0 (length g.edges) e (omega arith) (omega (arith, h))

pub edge_below : (g : Sheet) (e : ℕ) → Contains (edges_of g) e → e < length g.edges
edge_below g e m = let r = in_range 0 (length g.edges) e m in omega (arith, r.1)

pub face_in : (g : Sheet) (f : ℕ) → f < length g.rings → Contains (faces_of g) f
face_in g f h = range_in 0 (length g.rings) f (omega arith) (omega (arith, h))

pub face_below : (g : Sheet) (f : ℕ) → Contains (faces_of g) f → f < length g.rings
face_below g f m = let r = in_range 0 (length g.rings) f m in omega (arith, r.1)

pub is_below : (f n : ℕ) → f < n → IsTrue (Rattle.std.specs.Prelude.nat_lt f n)
is_below f n h = lt-ltb f n h

pub below_from : (f n : ℕ) → IsTrue (Rattle.std.specs.Prelude.nat_lt f n) → f < n
below_from f n t = ltb-true f n t

some_of : (f : ℕ) (o : Option ℕ) → IsTrue (is_some_of f o) → o ≡ Some f
some_of f None t = absurd (false≢true t)
some_of f (Some h) t = ap Some (sym (eqb-true f h t))

of_some : (f : ℕ) (o : Option ℕ) → o ≡ Some f → IsTrue (is_some_of f o)
of_some f o e = subst (λ p. IsTrue (is_some_of f p)) (sym e) (itself f) where
  itself : (f : ℕ) → (f == f) ≡ true
  itself f = grind arith

-- the face is that on the left, or on the right
pub bounds_from : (g : Sheet) (e f : ℕ) → IsTrue (bounds g e f)
    → (left_face g e ≡ Some f) ⊎ (right_face g e ≡ Some f)
bounds_from g e f t = elim (either_of (is_some_of f (left_face g e)) (is_some_of f (right_face g e)) t) [
  | inl u ↦ inl (some_of f (left_face g e) u)
  | inr u ↦ inr (some_of f (right_face g e) u)
]

pub to_bounds : (g : Sheet) (e f : ℕ) → (left_face g e ≡ Some f) ⊎ (right_face g e ≡ Some f)
    → IsTrue (bounds g e f)
to_bounds g e f h = elim h [
  | inl u ↦ of_first (is_some_of f (left_face g e)) (is_some_of f (right_face g e))
      (of_some f (left_face g e) u)
  | inr u ↦ of_second (is_some_of f (left_face g e)) (is_some_of f (right_face g e))
      (of_some f (right_face g e) u)
]

-- ---- places on edges

pub on_from : (g : Sheet) (e : ℕ) (s : Place) → IsTrue (is_on g e s) → IsOn (tail g e) (head g e) s
on_from g e s t =
    let a = both_of (int_eq (height (line_of g e) s) (pos 0) && int_le (pos 0) (past (tail g e) (head g e) s))
    _ t in
    let b = both_of (int_eq (height (line_of g e) s) (pos 0)) _ a.0 in
    record {
      on = eq_from (height (line_of g e) s) b.0;
      after = le_from (past (tail g e) (head g e) s) b.1;
      before = le_from (past (head g e) (tail g e) s) a.1;
    }

pub to_on : (g : Sheet) (e : ℕ) (s : Place) → IsOn (tail g e) (head g e) s → IsTrue (is_on g e s)
to_on g e s h = of_both _ _
    (of_both _ _ (to_eq (height (line_of g e) s) h.on) (to_le (past (tail g e) (head g e) s) h.after))
    (to_le (past (head g e) (tail g e) s) h.before)

pub between_from : (g : Sheet) (e : ℕ) (s : Place) → IsTrue (is_between g e s)
    → IsBetween (tail g e) (head g e) s
between_from g e s t =
    let a = both_of (int_eq (height (line_of g e) s) (pos 0) && int_lt (pos 0) (past (tail g e) (head g e) s))
    _ t in
    let b = both_of (int_eq (height (line_of g e) s) (pos 0)) _ a.0 in
    record {
      on = eq_from (height (line_of g e) s) b.0;
      after = lt_from (past (tail g e) (head g e) s) b.1;
      before = lt_from (past (head g e) (tail g e) s) a.1;
    }

pub to_between : (g : Sheet) (e : ℕ) (s : Place) → IsBetween (tail g e) (head g e) s
    → IsTrue (is_between g e s)
to_between g e s h = of_both _ _
    (of_both _ _ (to_eq (height (line_of g e) s) h.on) (to_lt (past (tail g e) (head g e) s) h.after))
    (to_lt (past (head g e) (tail g e) s) h.before)

pub parallel_from : (g : Sheet) (e k : ℕ) → IsTrue (are_parallel g e k)
    → slant (line_of g e) (line_of g k) ≡ pos 0
parallel_from g e k t = eq_from (slant (line_of g e) (line_of g k)) t

pub to_parallel : (g : Sheet) (e k : ℕ) → slant (line_of g e) (line_of g k) ≡ pos 0
    → IsTrue (are_parallel g e k)
to_parallel g e k h = to_eq (slant (line_of g e) (line_of g k)) h

-- an edge that holds a plain border place has it strictly between its ends, and is parallel to the others
pub plain_on : (g : Sheet) (e k : ℕ) (s : Place) → IsPlainBorder g e s → k < length g.edges
    → IsTrue (is_on g k s) → IsTrue (is_between g k s) × IsTrue (are_parallel g k e)
plain_on g e k s p l t = by (is_on g k s) t
    (all_at (is_plain_at g e s) (edges_of g) p.plain k (edge_in g k l)) where
      by : (b : Bool) → IsTrue b → IsTrue (not b || (is_between g k s && are_parallel g k e))
          → IsTrue (is_between g k s) × IsTrue (are_parallel g k e)
      by true t u = both_of (is_between g k s) (are_parallel g k e) u
      by false t u = absurd (false≢true t)

pub to_plain_at : (g : Sheet) (e k : ℕ) (s : Place)
    → (IsTrue (is_on g k s) → IsTrue (is_between g k s) × IsTrue (are_parallel g k e))
    → IsTrue (is_plain_at g e s k)
to_plain_at g e k s f = by (is_on g k s) f where
  by : (b : Bool) → (IsTrue b → IsTrue (is_between g k s) × IsTrue (are_parallel g k e))
      → IsTrue (not b || (is_between g k s && are_parallel g k e))
  by true f = let r = f refl in of_both (is_between g k s) (are_parallel g k e) r.0 r.1
  by false f = refl

-- the place is on a ring edge of the face
pub ring_edge : (g : Sheet) (f : ℕ) (s : Place) → IsTrue (is_on_ring g f s)
    → (k : ℕ) × (k < length g.edges) × IsTrue (is_on g k s) × IsTrue (bounds g k f)
ring_edge g f s t =
    let r = some_at (λ k. is_on g k s && bounds g k f) (edges_of g) t in
    let b = both_of (is_on g r.0 s) (bounds g r.0 f) r.2 in
    (r.0, edge_below g r.0 r.1, b.0, b.1)

pub on_ring_edge : (g : Sheet) (f k : ℕ) (s : Place) → k < length g.edges → IsTrue (is_on g k s)
    → IsTrue (bounds g k f) → IsTrue (is_on_ring g f s)
on_ring_edge g f k s l t b =
    some_from (λ k. is_on g k s && bounds g k f) (edges_of g) k (edge_in g k l)
    (of_both (is_on g k s) (bounds g k f) t b)
