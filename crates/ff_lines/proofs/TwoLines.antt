-- What the tests on two lines say of their common places.
use Rattle.std.proofs.Common.{◌≡◌, ◌≢◌, inl, inr, arith, refl, sym, ap, ◌∙◌, subst, ℕ, ℤ, pos, ◌-ℤ◌, ◌*ℤ◌, ◌<ℤ◌, unsigned_abs, IsTrue, []}
use Prim.Native.Nat.{◌∣◌}
use Rattle.std.proofs.Math.Nat.{dvd-mul_left}
use Rattle.std.proofs.lemmas.Int.{ints, unsigned_abs-mul}
use Rattle.std.proofs.lemmas.Bool.{false≢true}
use Rattle.ff_basics.proofs.Tests.{not_true}
use Rattle.ff_whole.proofs.Signs.{linear}
use Rattle.ff_whole.proofs.Ring.{num, ◌⊖◌, solve}
use Rattle.ff_whole.proofs.Formulas.{line_e, line_env, slant_e}
use Rattle.ff_whole.proofs.Turns.{height-through, height-back}
use Rattle.ff_whole.proofs.Images.{distance_positive}
use Rattle.ff_whole.specs.Sizes.{IsBelow}
use Rattle.ff_whole.specs.Points.{minus, dot, turn}
use Rattle.ff_whole.specs.Places.{IsPlace, height, place_of, same_place, slant, through}
use Rattle.ff_whole.specs.Meeting.{IsMeet}
use Rattle.ff_whole.specs.Turning.{rank}
use Rattle.ff_whole.specs.declared.lines.Line.{Line}
use Rattle.ff_whole.specs.declared.points.Pt.{Pt}
use Rattle.ff_whole.specs.declared.places.Place.{Place}
use Rattle.ff_whole.specs.declared.sizes.TheConstants.{POINT_SIZE}
use Rattle.ff_edges.specs.Ways.{HaveNoWay, IsCommonWay, is_on_way}
use Rattle.ff_edges.proofs.OnWays as ways
use Rattle.ff_lines.specs.declared.items.LineItem.{LineItem}
use Rattle.ff_lines.specs.Lines.{AreOffGrid, AreOverlapping, IsCommon, IsOnlyCommon, IsOnLine, IsProper, LiesOn, ShareSegment}
use Rattle.ff_lines.specs.Meetings.{AreBeside, ArePlain, MeetAt}
use Rattle.ff_lines.proofs.Astride.{between, left_between}
use Rattle.ff_lines.proofs.Letters.{first_on, last_on}
use Rattle.ff_lines.proofs.Nearness.{from_on, near_on, to_on}
use Rattle.ff_lines.proofs.Sharing.{only_one, slant-cross, to_same, whole_place}
use Rattle.ff_lines.proofs.Touching.{touching}

-- ---- both ends of one strictly on one side of the other

pub no_place : (k l : LineItem) → ((s : Place) → IsCommon k l s → ⊥) → ArePlain k l
no_place k l none = record { ends = λ s h. absurd (none s h.is); letters = λ h. none h.0.s h.0.first }

long_of : (l : LineItem) → IsProper l → pos 0 <ℤ dot (minus l.q l.p) (minus l.q l.p)
long_of l h = distance_positive l.p l.q h.apart

long_back : (l : LineItem) → IsProper l → pos 0 <ℤ dot (minus l.p l.q) (minus l.p l.q)
long_back l h = distance_positive l.q l.p (λ e. h.apart (sym e))

pub none_left : (k l : LineItem) → IsProper l → (pos 0 <ℤ turn k.p k.q l.p) × (pos 0 <ℤ turn k.p k.q l.q) → (s : Place) → IsPlace s → IsOnLine k s → IsOnLine l s → ⊥
none_left k l h sides s w on_k on_l =
    let a = height-through k.p k.q l.p in let b = height-through k.p k.q l.q in
    let x = sides.0 in let y = sides.1 in let z = on_k.on in
    let up = left_between (through k.p k.q) l.p l.q (long_of l h) s w on_l (omega (arith, linear)) (omega (arith, linear)) in omega (arith, linear)

pub none_right : (k l : LineItem) → IsProper l → (turn k.p k.q l.p <ℤ pos 0) × (turn k.p k.q l.q <ℤ pos 0) → (s : Place) → IsPlace s → IsOnLine k s → IsOnLine l s → ⊥
none_right k l h sides s w on_k on_l =
    let a = height-through k.p k.q l.p in let b = height-through k.p k.q l.q in
    let c = height-back k.p k.q (place_of l.p) in let d = height-back k.p k.q (place_of l.q) in let e = height-back k.p k.q s in
    let x = sides.0 in let y = sides.1 in let z = on_k.on in
    let up = left_between (through k.q k.p) l.p l.q (long_of l h) s w on_l (omega (arith, linear)) (omega (arith, linear)) in omega (arith, linear)

pub beside_plain : (k l : LineItem) → IsProper l → AreBeside k l → ArePlain k l
beside_plain k l h (inl x) = no_place k l (λ s c. none_left k l h x s c.place c.first c.second)
beside_plain k l h (inr y) = no_place k l (λ s c. none_right k l h y s c.place c.first c.second)

pub plain_beside : (k l : LineItem) → IsProper k → AreBeside l k → ArePlain k l
plain_beside k l h (inl x) = no_place k l (λ s c. none_left l k h x s c.place c.second c.first)
plain_beside k l h (inr y) = no_place k l (λ s c. none_right l k h y s c.place c.second c.first)

-- ---- the one place

pub slant-flip : (k l : Line) → slant l k ≡ pos 0 -ℤ slant k l
slant-flip k l = let k' = line_e 0 in let l' = line_e 3 in
    solve (line_env k (line_env l [])) (slant_e l' k') (num (pos 0) ⊖ slant_e k' l') refl

module _ (k l : LineItem) (k_proper : IsProper k) (l_proper : IsProper l)
    (k_left : (pos 0 <ℤ turn k.p k.q l.p) × (pos 0 <ℤ turn k.p k.q l.q) → ⊥) (k_right : (turn k.p k.q l.p <ℤ pos 0) × (turn k.p k.q l.q <ℤ pos 0) → ⊥)
    (l_left : (pos 0 <ℤ turn l.p l.q k.p) × (pos 0 <ℤ turn l.p l.q k.q) → ⊥) (l_right : (turn l.p l.q k.p <ℤ pos 0) × (turn l.p l.q k.q <ℤ pos 0) → ⊥)
    (s : Place) (meet : IsMeet (through k.p k.q) (through l.p l.q) s) where
  over : (m n : LineItem) → ((pos 0 <ℤ turn m.p m.q n.p) × (pos 0 <ℤ turn m.p m.q n.q) → ⊥) → (pos 0 <ℤ height (through m.p m.q) (place_of n.p)) × (pos 0 <ℤ height (through m.p m.q) (place_of n.q)) → ⊥
  over m n f h = let a = height-through m.p m.q n.p in let b = height-through m.p m.q n.q in let x = h.0 in let y = h.1 in f (omega (arith, linear), omega (arith, linear))

  under : (m n : LineItem) → ((turn m.p m.q n.p <ℤ pos 0) × (turn m.p m.q n.q <ℤ pos 0) → ⊥) → (height (through m.p m.q) (place_of n.p) <ℤ pos 0) × (height (through m.p m.q) (place_of n.q) <ℤ pos 0) → ⊥
  under m n f h = let a = height-through m.p m.q n.p in let b = height-through m.p m.q n.q in let x = h.0 in let y = h.1 in f (omega (arith, linear), omega (arith, linear))

  pub one_meeting : IsOnlyCommon k l s
  one_meeting = only_one k l (λ z. meet.apart (slant-cross k.p k.q l.p l.q ∙ z)) s (record {
    place = meet.size.positive;
    first = between (through l.p l.q) k.p k.q (long_of k k_proper) s meet.size.positive meet.apart meet.on_first meet.on_second (over l k l_left) (under l k l_right);
    second = between (through k.p k.q) l.p l.q (long_of l l_proper) s meet.size.positive
        (λ z. meet.apart (let e = slant-flip (through k.p k.q) (through l.p l.q) in omega (arith, linear)))
        meet.on_second meet.on_first (over k l k_left) (under k l k_right);
  })

-- a place with another denominator than 1, in lowest terms, is no whole point
divides_itself : (x v w : ℤ) → v *ℤ w ≡ x *ℤ pos 1 → unsigned_abs w ∣ unsigned_abs x
divides_itself x v w e =
    let f : v *ℤ w ≡ x = omega (arith, ints) in
    subst (λ n. unsigned_abs w ∣ n) (sym (unsigned_abs-mul v w) ∙ ap unsigned_abs f) (dvd-mul_left (unsigned_abs w) (unsigned_abs v))

itself : (n : ℕ) → n ∣ n
itself n = subst (λ m. n ∣ m) (omega arith) (dvd-mul_left n 1)

whole_one : (w : ℤ) → pos 0 <ℤ w → unsigned_abs w ≡ 1 → w ≡ pos 1
whole_one w h e = omega (arith, ints)

pub off_grid : (k l : LineItem) (s : Place) → IsMeet (through k.p k.q) (through l.p l.q) s → IsOnlyCommon k l s → s.w ≢ pos 1 → AreOffGrid k l
off_grid k l s meet only not = (
  s,
  only,
  λ v h.
      let e = to_same (place_of v) s h in
      not (whole_one s.w meet.size.positive (meet.lowest (unsigned_abs s.w) (divides_itself s.x v.x s.w e.0) (divides_itself s.y v.y s.w e.1) (itself (unsigned_abs s.w)))),
)

-- with denominator 1 it is one, and near
pub near_meeting : (k l : LineItem) (s : Place) → IsProper k → IsOnlyCommon k l s → s.w ≡ pos 1 → IsBelow POINT_SIZE s.x × IsBelow POINT_SIZE s.y
near_meeting k l s proper only w = near_on k.p k.q s (long_of k proper) w only.is.first proper.p_near proper.q_near

pub meets_at : (k l : LineItem) (s : Place) (x y : ℤ) → IsProper k → IsOnlyCommon k l s → s.w ≡ pos 1 → x ≡ s.x → y ≡ s.y → MeetAt k l (record { x = x; y = y })
meets_at k l s x y proper only w ex ey = record {
  near = (let n = near_meeting k l s proper only w in record { x_below = subst (IsBelow POINT_SIZE) (sym ex) n.0; y_below = subst (IsBelow POINT_SIZE) (sym ey) n.1 });
  only = subst (IsOnlyCommon k l) (λ i. record { x = sym ex i; y = sym ey i; w = w i }) only;
}

-- ---- parallel lines

common_at : (k l : LineItem) (p q : Pt) → IsCommonWay k.p k.q l.p l.q p q → (v : Pt) → LiesOn p q (place_of v) → IsCommon k l (place_of v)
common_at k l p q c v on =
    let h = (c.common (place_of v) (whole_place v)).0 (ways.to_on p q (place_of v) (to_on p q (place_of v) on)) in
    record { place = whole_place v; first = from_on k.p k.q (place_of v) (ways.on_from k.p k.q (place_of v) h.0); second = from_on l.p l.q (place_of v) (ways.on_from l.p l.q (place_of v) h.1) }

unit : (a b : ℤ) → a *ℤ pos 1 ≡ b *ℤ pos 1 → a ≡ b
unit a b e = omega (arith, ints)

pub one_whole : (p q : Pt) → IsTrue (same_place (place_of p) (place_of q)) → p ≡ q
one_whole p q h = let e = to_same (place_of p) (place_of q) h in
    let x = unit p.x q.x e.0 in let y = unit p.y q.y e.1 in λ i. record { x = x i; y = y i }

pub share_segment : (k l : LineItem) (p q : Pt) → IsCommonWay k.p k.q l.p l.q p q → ShareSegment k l
share_segment k l p q c = record {
  s = place_of p;
  t = place_of q;
  differ = not_true (same_place (place_of p) (place_of q)) (λ h. let e : rank p ≡ rank q = ap rank (one_whole p q h) in let g = c.goes in omega (arith, linear));
  first = common_at k l p q c p (first_on p q);
  second = common_at k l p q c q (last_on p q);
}

pub no_segment : (k l : LineItem) → HaveNoWay k.p k.q l.p l.q → ShareSegment k l → ⊥
no_segment k l none h = false≢true (sym h.differ ∙ none h.s h.t h.first.place h.second.place (on k h.s h.first.first) (on l h.s h.first.second) (on k h.t h.second.first) (on l h.t h.second.second)) where
  on : (m : LineItem) (s : Place) → IsOnLine m s → IsTrue (is_on_way m.p m.q s)
  on m s g = ways.to_on m.p m.q s (to_on m.p m.q s g)

pub level_plain : (k l : LineItem) → IsProper k → IsProper l → slant (through k.p k.q) (through l.p l.q) ≡ pos 0 → (AreOverlapping k l → ⊥) → ArePlain k l
level_plain k l f g level none = record { ends = λ s h. touching k l f.apart g.apart level s h; letters = none }
