-- Rising lists with the same members are one, and the faces over a place are such a list.
use Rattle.std.proofs.Common.{ℕ, zero, suc, ◌≡◌, ◌↔◌, ◌+◌, ◌<◌, List, [], ◌∷◌, length, get_or, arith, refl, sym, ap, subst, ◌∙◌, Bool, true, false, not, IsTrue}
use Rattle.std.specs.List.{Contains, list_all}
use Rattle.std.specs.List.Sorted.{IsStrictlyIncreasing}
use Rattle.std.proofs.lemmas.Bool.{false≢true, ltb-true}
use Rattle.std.proofs.lemmas.List.FromFn.{length-range_with_len, get_or-range_with_len}
use Rattle.std.proofs.lemmas.List.Kept.{IsStrictlyIncreasing-filter}
use Rattle.ff_basics.proofs.Memberships.{by_member, filter_in, first_member, in_filter, in_range, later_member, no_member, range_in}
use Rattle.ff_basics.proofs.Tests.{both_of}
use Rattle.ff_basics.proofs.Lists.{all_at, all_from, member_some}
use Rattle.ff_whole.specs.declared.places.Place.{Place}
use Rattle.ff_types.specs.Sheets.{Sheet, edges_of, faces_of}
use Rattle.ff_types.specs.Inside.{is_inside, over}
use Rattle.ff_types.specs.Borders.{is_on}
use Rattle.ff_cells.specs.FaceSets.{is_off}

-- ---- rising lists

rising_tail : (x : ℕ) (xs : List ℕ) → IsStrictlyIncreasing (x ∷ xs) → IsStrictlyIncreasing xs
rising_tail x xs h k lt = subst (λ i. get_or xs k 0 < get_or (x ∷ xs) i 0) (shift k)
    (h (suc k) (omega (arith, lt)))
  where
    shift : (k : ℕ) → suc k + 1 ≡ suc (k + 1)
    shift k = omega arith

above_head : (x : ℕ) (xs : List ℕ) → IsStrictlyIncreasing (x ∷ xs) → (k : ℕ) → k < length xs
    → x < get_or xs k 0
above_head x [] h k lt = absurd (omega (arith, lt))
above_head x (y ∷ ys) h zero lt = h 0 (omega arith)
above_head x (y ∷ ys) h (suc k) lt = let a : x < y = h 0 (omega arith) in
    let b = above_head y ys (rising_tail x (y ∷ ys) h) k (omega (arith, lt)) in omega (arith, a, b)

above : (x : ℕ) (xs : List ℕ) → IsStrictlyIncreasing (x ∷ xs) → (f : ℕ) → Contains xs f → x < f
above x xs h f (k, lt, e) = let a = above_head x xs h k lt in subst (λ z. x < z) (same xs k f lt e) a
  where
    same : (xs : List ℕ) (k f : ℕ) → k < length xs → get_or xs k f ≡ f → get_or xs k 0 ≡ f
    same [] k f lt e = absurd (omega (arith, lt))
    same (y ∷ ys) zero f lt e = e
    same (y ∷ ys) (suc k) f lt e = same ys k f (omega (arith, lt)) e

pub rising_equal : (xs ys : List ℕ) → IsStrictlyIncreasing xs → IsStrictlyIncreasing ys
    → ((f : ℕ) → Contains xs f ↔ Contains ys f) → xs ≡ ys
rising_equal [] [] h k s = refl
rising_equal [] (y ∷ ys) h k s = absurd (no_member y ((s y).1 (first_member y ys y refl)))
rising_equal (x ∷ xs) [] h k s = absurd (no_member x ((s x).0 (first_member x xs x refl)))
rising_equal (x ∷ xs) (y ∷ ys) h k s = ap (λ z. z ∷ xs) heads
    ∙ ap (λ zs. y ∷ zs) (rising_equal xs ys (rising_tail x xs h) (rising_tail y ys k) tails)
  where
    heads : x ≡ y
    heads = by_member y ys x (λ e. sym e) (λ m. by_member x xs y (λ e. e)
        (λ n. (let a = above x xs h y n in let b = above y ys k x m in absurd (omega (arith, a, b))))
        ((s y).1 (first_member y ys y refl))) ((s x).0 (first_member x xs x refl))

    tails : (f : ℕ) → Contains xs f ↔ Contains ys f
    tails f = (
      λ m. by_member y ys f (λ e. (let a = above x xs h f m in absurd (omega (arith, a, e, heads)))) (λ n. n)
          ((s f).0 (later_member x xs f m)),
      λ m. by_member x xs f (λ e. (let a = above y ys k f m in absurd (omega (arith, a, e, heads)))) (λ n. n)
          ((s f).1 (later_member y ys f m)),
    )

-- ---- tests of all members

not_true : (b : Bool) → IsTrue (not b) → IsTrue b → ⊥
not_true true h t = false≢true h
not_true false h t = false≢true t

not_made : (b : Bool) → (IsTrue b → ⊥) → IsTrue (not b)
not_made true h = absurd (h refl)
not_made false h = refl

-- ---- off the edges, and the faces over a place

pub off_edge : (g : Sheet) (s : Place) → IsTrue (is_off g s) → (e : ℕ) → e < length g.edges
    → IsTrue (is_on g e s) → ⊥
off_edge g s t e lt on = not_true (is_on g e s) (all_at (λ e. not (is_on g e s)) (edges_of g) t e
    (range_in 0 (length g.edges) e (omega arith) (omega (arith, lt)))) on

pub off_edges : (g : Sheet) (s : Place) → ((e : ℕ) → e < length g.edges → IsTrue (is_on g e s) → ⊥)
    → IsTrue (is_off g s)
off_edges g s h = all_from (λ e. not (is_on g e s)) (edges_of g)
    (λ e c. not_made (is_on g e s) (h e (let r = (in_range 0 (length g.edges) e c).1 in omega (arith, r))))

pub over_inside : (g : Sheet) (s : Place) (f : ℕ) → Contains (over g s) f → IsTrue (is_inside g f s)
over_inside g s f c = (in_filter (λ f. is_inside g f s) (faces_of g) f c).1

pub inside_over : (g : Sheet) (s : Place) (f : ℕ) → IsTrue (is_inside g f s) → Contains (over g s) f
inside_over g s f t = filter_in (λ f. is_inside g f s) (faces_of g) f
    (range_in 0 (length g.rings) f (omega arith) (let l = ltb-true f (length g.rings) (both_of _ _ t).0 in
    omega (arith, l))) t

pub over_rising : (g : Sheet) (s : Place) → IsStrictlyIncreasing (over g s)
over_rising g s = IsStrictlyIncreasing-filter (λ f. is_inside g f s) (faces_of g) rising
  where
    rising : (k : ℕ) → k + 1 < length (faces_of g) → get_or (faces_of g) k 0 < get_or (faces_of g) (k + 1) 0
    rising k lt =
        let n = length g.rings in
        let l = length-range_with_len 0 n in
        let a = get_or-range_with_len 0 n k 0 (omega (arith, lt, l)) in
        let b = get_or-range_with_len 0 n (k + 1) 0 (omega (arith, lt, l)) in
        omega (arith, a, b)

pub some_member : (xs : List ℕ) → 0 < length xs → (f : ℕ) × Contains xs f
some_member [] h = absurd (omega (arith, h))
some_member (x ∷ xs) h = (x, first_member x xs x refl)

pub face_below : (g : Sheet) (f : ℕ) (s : Place) → IsTrue (is_inside g f s) → f < length g.rings
face_below g f s t = ltb-true f (length g.rings) (both_of _ _ t).0
