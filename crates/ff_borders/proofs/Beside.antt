-- A place moved far enough towards another one: inside every face on whose inner side, at each step, it is,
-- or on the step's line with the way leading inwards.
use Rattle.std.proofs.Common.{◌≡◌, ℕ, zero, suc, ◌+◌, ◌<◌, ◌≤◌, ◌⊎◌, inl, inr, sym, ◌∙◌, ap, subst, arith, pos, ◌+ℤ◌, ◌-ℤ◌, ◌*ℤ◌, ◌<ℤ◌, ◌≤ℤ◌, Bool, IsTrue, List, [], ◌∷◌, map, length}
use lib.IntN.{*ℤ-zero, *ℤ_comm}
use Rattle.std.specs.Prelude.{int_lt}
use Rattle.std.specs.List.{list_all, Contains}
use Rattle.std.proofs.lemmas.Int.{ints}
use Rattle.std.proofs.lemmas.Bool.{cases_lt}
use Rattle.std.proofs.lemmas.List.Elements.{All-contains}
use Rattle.ff_basics.proofs.Lists.{all_from}
use Rattle.ff_basics.proofs.Tests.{not_false, of_both, to_lt}
use Rattle.ff_basics.proofs.Memberships.{by_member, first_member, later_member, no_member}
use Rattle.ff_whole.specs.declared.points.Pt.{Pt}
use Rattle.ff_whole.specs.declared.lines.Line.{Line}
use Rattle.ff_whole.specs.declared.places.Place.{Place}
use Rattle.ff_whole.specs.Points.{minus, dot, cross}
use Rattle.ff_whole.specs.Places.{IsPlace, place_of, through, height, past}
use Rattle.ff_whole.proofs.Laws.{one-*ℤ}
use Rattle.ff_whole.proofs.Signs.{linear, pos-mul, nonneg-mul, nonneg_from_mul, zero_from_mul}
use Rattle.ff_whole.proofs.ThreeTerms.{parallel-dot}
use Rattle.ff_whole.proofs.Offsets.{height-ends}
use Rattle.ff_whole.proofs.Shifts.{moved, IsDecided, shift}
use Rattle.ff_whole.proofs.Alongs.{leads, IsBetween}
use Rattle.ff_types.specs.Faces.{ring_at}
use Rattle.ff_types.specs.Rings.{Goes}
use Rattle.ff_types.specs.Sheets.{Sheet, is_face}
use Rattle.ff_types.specs.Inside.{steps, depth, is_inside}
use Rattle.ff_types.proofs.FoldedOverlap.{step_goes}
use Rattle.ff_borders.proofs.Tests.{by_test, is_below}
use Rattle.ff_borders.proofs.Steps.{step_line, depth-line}

pub map_in : {A B : Type 0} (f : A → B) (xs : List A) (x : A) → Contains xs x → Contains (map f xs) (f x)
map_in f [] x m = absurd (no_member x m)
map_in f (y ∷ xs) x m = by_member y xs x (λ e. first_member (f y) (map f xs) (f x) (ap f e))
    (λ n. later_member (f y) (map f xs) (f x) (map_in f xs x n)) m

-- the place is left of the line, or on it with the way leading left
abbrev pub GoesLeft : Place → Place → Line → Type 0
GoesLeft m v l = (pos 0 <ℤ height l m) ⊎ ((height l m ≡ pos 0) × (pos 0 <ℤ height l v))

decided_left : (m v : Place) (n : ℕ) (l : Line) → IsDecided m v n l → GoesLeft m v l
    → pos 0 <ℤ height l (moved n m v)
decided_left m v n l d (inl k) = d.keeps_left k
decided_left m v n l d (inr k) = subst (λ z. pos 0 <ℤ z) (sym (d.decides k.0)) k.1

-- far enough for one face
face_far : (g : Sheet) (f : ℕ) (m v : Place) → f < length g.rings
    → ((x y : ℕ) → Goes (ring_at g.rings f) x y → GoesLeft m v (step_line g f (x, y)))
    → (low : ℕ) × ((n : ℕ) → low ≤ n → IsTrue (is_inside g f (moved n m v)))
face_far g f m v l good =
    let list = steps (ring_at g.rings f) in
    let r = shift (map (step_line g f) list) m v in (
      r.0,
      λ n k. of_both (is_face g f) (list_all (λ step. int_lt (pos 0) (depth g f (moved n m v) step)) list)
          (is_below f (length g.rings) l)
          (all_from (λ step. int_lt (pos 0) (depth g f (moved n m v) step)) list
          (λ step c. to_lt (depth g f (moved n m v) step)
          (subst (λ z. pos 0 <ℤ z) (sym (depth-line g f (moved n m v) step.0 step.1))
          (decided_left m v n (step_line g f step)
          (All-contains (IsDecided m v n) (map (step_line g f) list) (step_line g f step) (r.1 n k)
          (map_in (step_line g f) list step c))
          (good step.0 step.1 (step_goes (ring_at g.rings f) step.0 step.1 c)))))),
    )

-- far enough for all faces that pass a test
pub faces_far : (g : Sheet) (test : ℕ → Bool) (m v : Place)
    → ((f : ℕ) → IsTrue (test f)
    → (f < length g.rings) × ((x y : ℕ) → Goes (ring_at g.rings f) x y
    → GoesLeft m v (step_line g f (x, y))))
    → (count : ℕ) → (low : ℕ)
    × ((n : ℕ) → low ≤ n → (f : ℕ) → f < count → IsTrue (test f) → IsTrue (is_inside g f (moved n m v)))
faces_far g test m v good zero = (0, λ n k f l t. absurd (omega (arith, l)))
faces_far g test m v good (suc count) = by_test (test count)
    (λ t.
    let rest = faces_far g test m v good count in
    let one = face_far g count m v (good count t).0 (good count t).1 in (
      one.0 + rest.0,
      λ n k f l u. last f count l
          (λ e. subst (λ x. IsTrue (is_inside g x (moved n m v))) (sym e) (one.1 n (omega (arith, k))))
          (λ b. rest.1 n (omega (arith, k)) f b u),
    ))
    (λ e.
    let rest = faces_far g test m v good count in (
      rest.0,
      λ n k f l u. last f count l
          (λ d. absurd (not_false (test count) e (subst (λ x. IsTrue (test x)) d u))) (λ b. rest.1 n k f b u),
    ))
  where
    last : {R : Type 0} (f n : ℕ) → f < suc n → (f ≡ n → R) → (f < n → R) → R
    last f n l x y = elim (cases_lt f n) [ inl b ↦ y b | inr b ↦ x (omega (arith, l, b)) ]

pub moved_place : (n : ℕ) (m v : Place) → 0 < n → IsPlace m → v.w ≡ pos 0 → IsPlace (moved n m v)
moved_place n m v some positive z = let p =
    pos-mul (pos n) m.w (omega (arith, ints, some)) positive in let o = one-*ℤ v.w in omega (arith, linear)

-- ---- lines over the places of an edge

-- a line that has neither end of an edge on its right has no place between them there
pub not_right_between : (l : Line) (p q : Pt) (m : Place) → pos 0 <ℤ dot (minus q p) (minus q p)
    → IsBetween p q m → pos 0 ≤ℤ height l (place_of p) → pos 0 ≤ℤ height l (place_of q) → pos 0 ≤ℤ height l m
not_right_between l p q m long b hp hq =
    let dd = dot (minus q p) (minus q p) in
    let k = l.b *ℤ (q.x -ℤ p.x) -ℤ l.a *ℤ (q.y -ℤ p.y) in
    let e = height-ends l p q m in
    let x : k *ℤ height (through p q) m ≡ pos 0 = ap (λ r. k *ℤ r) b.on ∙ *ℤ-zero k in
    let after = b.after in
    let before = b.before in
    let u = nonneg-mul (past p q m) (height l (place_of q)) (omega (arith, linear)) hq in
    let v = nonneg-mul (past q p m) (height l (place_of p)) (omega (arith, linear)) hp in
    nonneg_from_mul dd (height l m) long (omega (arith, linear))

-- a line along one direction is along each parallel one
pub along_parallel : (l : Line) (u d : Pt) → pos 0 <ℤ dot u u → cross u d ≡ pos 0 → leads l u ≡ pos 0
    → leads l d ≡ pos 0
along_parallel l u d long par at =
    let n : Pt = record { x = l.a; y = l.b } in
    let e = parallel-dot u d n par in
    let c : dot u n ≡ pos 0 =
    ap (λ z. z +ℤ u.y *ℤ l.b) (*ℤ_comm u.x l.a) ∙ (ap (λ z. l.a *ℤ u.x +ℤ z) (*ℤ_comm u.y l.b) ∙ at) in
    let z : dot u d *ℤ dot u n ≡ pos 0 = ap (λ z. dot u d *ℤ z) c ∙ *ℤ-zero (dot u d) in
    let f = zero_from_mul (dot u u) (dot d n) long (omega (arith, linear)) in
    ap (λ z. z +ℤ l.b *ℤ d.y) (*ℤ_comm l.a d.x) ∙ (ap (λ z. d.x *ℤ l.a +ℤ z) (*ℤ_comm l.b d.y) ∙ f)
