-- Two parallel lines with one common place alone have it at an end of one of them.
use Rattle.std.proofs.Common.{◌≡◌, ◌≢◌, ◌⊎◌, inl, inr, arith, sym, ◌∙◌, pos, ◌<ℤ◌, ◌≤ℤ◌, IsTrue}
use lib.IntN.{*ℤ_comm}
use Rattle.ff_whole.proofs.Signs.{linear, by_sign, zero_from_mul, nonneg_from_mul}
use Rattle.ff_whole.proofs.Offsets.{off, cross-off, dot-off}
use Rattle.ff_whole.specs.Points.{minus, dot, cross}
use Rattle.ff_whole.specs.Places.{IsPlace, place_of, same_place, slant, through}
use Rattle.ff_whole.specs.declared.points.Pt.{Pt}
use Rattle.ff_whole.specs.declared.places.Place.{Place}
use Rattle.ff_lines.specs.declared.items.LineItem.{LineItem}
use Rattle.ff_lines.specs.Lines.{IsEndAt, IsOnlyCommon, LiesOn}
use Rattle.ff_lines.proofs.Cuts.{IsAlong, IsPast, lies_from, lies_to}
use Rattle.ff_lines.proofs.Sharing.{back_same, cross-turn, cross-whole, dot-turn, dot-whole, lies_swap, orient, same_from, self_past, slant-cross, to_same, way, whole_place}
use Rattle.ff_lines.proofs.Letters.{first_on}

turn_same : (a : Pt) (s : Place) → IsTrue (same_place (place_of a) s) → IsTrue (same_place s (place_of a))
turn_same a s h = same_from s (place_of a) (back_same (place_of a) s (to_same (place_of a) s h))

-- the place is on the way from p to q and from a to b, both along u
module _ (u p q a b : Pt) (long : pos 0 <ℤ dot u u) (pq : IsPast u p q) (ab : IsPast u a b) (s : Place) (w : IsPlace s)
    (on_pq : IsAlong u p q s) (on_ab : IsAlong u a b s) where
  line : cross u (minus a p) ≡ pos 0
  line =
      let e = cross-off u p a s in let m = *ℤ_comm (cross u (minus a p)) s.w in
      let x = on_pq.on in let y = on_ab.on in
      zero_from_mul s.w (cross u (minus a p)) w (omega (arith, linear))

  -- x isn't past y, where the place is neither before x nor past y
  ordered : (x y : Pt) → pos 0 ≤ℤ dot u (off s x) → dot u (off s y) ≤ℤ pos 0 → pos 0 ≤ℤ dot u (minus y x)
  ordered x y f g =
      let e = dot-off u x y s in let m = *ℤ_comm (dot u (minus y x)) s.w in
      nonneg_from_mul s.w (dot u (minus y x)) w (omega (arith, linear))

  -- the first end of one is on the other
  pub first_of_second : pos 0 ≤ℤ dot u (minus a p) → LiesOn p q (place_of a)
  first_of_second h = lies_from u p q pq (place_of a) (record {
    on = cross-whole u a p ∙ line;
    after = (let e = dot-whole u a p in omega (arith, linear));
    before = (let e = dot-whole u a q in let o = ordered a q on_ab.after on_pq.before in let t = dot-turn u a q in omega (arith, linear));
  })

  pub first_of_first : dot u (minus a p) ≤ℤ pos 0 → LiesOn a b (place_of p)
  first_of_first h = lies_from u a b ab (place_of p) (record {
    on = cross-whole u p a ∙ (let t = cross-turn u p a in let l = line in omega (arith, linear));
    after = (let e = dot-whole u p a in let t = dot-turn u p a in omega (arith, linear));
    before = (let e = dot-whole u p b in let o = ordered p b on_pq.after on_ab.before in let t = dot-turn u p b in omega (arith, linear));
  })

module _ (k l : LineItem) (k_ends : k.p ≢ k.q) (l_ends : l.p ≢ l.q) (level : slant (through k.p k.q) (through l.p l.q) ≡ pos 0)
    (s : Place) (only : IsOnlyCommon k l s) where
  flat : cross (way k) (minus l.q l.p) ≡ pos 0
  flat = sym (slant-cross k.p k.q l.p l.q) ∙ level

  long : pos 0 <ℤ dot (way k) (way k)
  long = (self_past k k_ends).ahead

  on_k : IsAlong (way k) k.p k.q s
  on_k = lies_to (way k) k.p k.q (self_past k k_ends) s only.is.first

  -- with the ends of l along k
  by : (a b : Pt) → ((v : Place) → LiesOn a b v → LiesOn l.p l.q v) → LiesOn a b s → IsPast (way k) a b
      → IsTrue (same_place s (place_of k.p)) ⊎ IsTrue (same_place s (place_of a))
  by a b back on_ab ab =
      let f = first_of_second (way k) k.p k.q a b long (self_past k k_ends) ab s only.is.place on_k (lies_to (way k) a b ab s on_ab) in
      let g = first_of_first (way k) k.p k.q a b long (self_past k k_ends) ab s only.is.place on_k (lies_to (way k) a b ab s on_ab) in
      by_sign (dot (way k) (minus a k.p))
      (λ n. inl (turn_same k.p s (only.only (place_of k.p) (record { place = whole_place k.p; first = first_on k.p k.q; second = back (place_of k.p) (g (omega (arith, linear))) }))))
      (λ z. inr (turn_same a s (only.only (place_of a) (record { place = whole_place a; first = f (omega (arith, linear)); second = back (place_of a) (first_on a b) }))))
      (λ n. inr (turn_same a s (only.only (place_of a) (record { place = whole_place a; first = f (omega (arith, linear)); second = back (place_of a) (first_on a b) }))))

  pub touching : IsEndAt k.p k.q s ⊎ IsEndAt l.p l.q s
  touching = elim (orient (way k) l.p l.q long flat l_ends) [
    | inl ab ↦ elim (by l.p l.q (λ v h. h) only.is.second ab) [ inl x ↦ inl (inl x) | inr y ↦ inr (inl y) ]
    | inr ba ↦ elim (by l.q l.p (λ v h. lies_swap l.q l.p v h) (lies_swap l.p l.q s only.is.second) ba) [ inl x ↦ inl (inl x) | inr y ↦ inr (inr y) ]
  ]
