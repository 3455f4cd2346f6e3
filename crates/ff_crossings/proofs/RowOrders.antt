-- What it says of an order of faces that the values of terms are a row, kind by kind.
use Rattle.std.proofs.Common.{◌≡◌, ◌≢◌, ℕ, ◌↔◌, ◌⊎◌, inl, inr, Bool, true, false, not, ◌&&◌, List, [], ◌∷◌, refl, sym, ap, ◌∙◌, IsTrue, Contains}
use Rattle.std.proofs.lemmas.Bool.{false≢true, cases_Bool, and_parts, and_from}
use Rattle.ff_basics.proofs.Memberships.{first_member, later_member}
use Rattle.ff_tables.specs.declared.orders.Order.{Order}
use Rattle.ff_tables.specs.declared.terms.Kind.TheVariants.{TacoTaco, TacoTortilla, TortillaTortilla, Transitivity}
use Rattle.ff_tables.specs.Orders.{is_order}
use Rattle.ff_tables.specs.Rows.{has_no_cycle, both_or_neither}
use Rattle.ff_types.specs.Terms.{value_in}
use Rattle.ff_types.specs.Stackings.{CanBeListed}
use Rattle.ff_crossings.specs.Listings.{AreCompared, HasNoCycle}
use Rattle.ff_crossings.specs.Alternating.{IsOneWay, IsAmong, IsBeyond, Interleave}
use Rattle.ff_crossings.specs.RowMeanings.{IsSomeRow, values, GoRound, AreFour, four_terms}
use Rattle.ff_crossings.proofs.ListedFaces.{listed_exactly_holds}
use Rattle.ff_crossings.proofs.Triples.{order_of, row_of, up_round, down_round}
use Rattle.ff_crossings.proofs.RowTests.{row_passes, passes_row}

-- ---- two equal terms

same_orders : (a b : Bool) → IsTrue (is_order (order_of a) (order_of b)) → a ≡ b
same_orders true true t = refl
same_orders true false t = absurd (false≢true t)
same_orders false true t = absurd (false≢true t)
same_orders false false t = refl

orders_same : (a b : Bool) → a ≡ b → IsTrue (is_order (order_of a) (order_of b))
orders_same true true e = refl
orders_same true false e = sym e
orders_same false true e = e
orders_same false false e = refl

pub taco_face_rows : (above : ℕ → ℕ → Bool) (p q : ℕ × ℕ) → IsSomeRow TacoTortilla
    (values above (p ∷ q ∷ [])) ↔ (above p.0 p.1 ≡ above q.0 q.1)
taco_face_rows above p q = (
  (λ r. same_orders (above p.0 p.1) (above q.0 q.1) (row_passes TacoTortilla (values above (p ∷ q ∷ [])) r)),
  (λ e. passes_row TacoTortilla (values above (p ∷ q ∷ [])) (orders_same (above p.0 p.1) (above q.0 q.1) e)),
)

pub flat_face_rows : (above : ℕ → ℕ → Bool) (p q : ℕ × ℕ) → IsSomeRow TortillaTortilla
    (values above (p ∷ q ∷ [])) ↔ (above p.0 p.1 ≡ above q.0 q.1)
flat_face_rows above p q = (
  (λ r. same_orders (above p.0 p.1) (above q.0 q.1)
      (row_passes TortillaTortilla (values above (p ∷ q ∷ [])) r)),
  (λ e. passes_row TortillaTortilla (values above (p ∷ q ∷ []))
      (orders_same (above p.0 p.1) (above q.0 q.1) e)),
)

-- ---- three faces

pub transitivity_rows : (above : ℕ → ℕ → Bool) (f h k : ℕ) → above f h ≡ not (above h f) → above h k ≡ not
    (above k h) → above k f ≡ not (above f k)
    → IsSomeRow Transitivity
    (values above ((f, h) ∷ (f, k) ∷ (h, k) ∷ []))
    ↔ ((GoRound above f h k → ⊥) × (GoRound above f k h → ⊥))
transitivity_rows above f h k fh hk kf = (
  (λ r. let t = row_passes Transitivity (values above ((f, h) ∷ (f, k) ∷ (h, k) ∷ [])) r in (
    (λ c. up_round (above f h) (above f k) (above h k) t c.0 c.1 (sym kf ∙ c.2)),
    (λ c. down_round (above f h) (above f k) (above h k) t (ap not fh ∙ twice (above h f) c.2)
        (ap not hk ∙ twice (above k h) c.1) c.0),
  )),
  (λ n. passes_row Transitivity (values above ((f, h) ∷ (f, k) ∷ (h, k) ∷ []))
      (row_of (above f h) (above f k) (above h k)
      (λ x y z. n.0 (x, y, kf ∙ z))
      (λ x y z. n.1 (z, back (above k h) (sym (ap not hk) ∙ y), back (above h f) (sym (ap not fh) ∙ x))))),
) where
  twice : (b : Bool) → b ≡ true → not (not b) ≡ true
  twice true e = refl
  twice false e = e

  back : (b : Bool) → not (not b) ≡ true → b ≡ true
  back true e = refl
  back false e = e

-- ---- four faces

-- c is between a and b exactly where its two values differ
among_of : (ac bc : Bool) → is_order (order_of ac) (order_of bc) ≡ false → (IsTrue (not ac) × IsTrue bc)
    ⊎ (IsTrue (not bc) × IsTrue ac)
among_of true true e = absurd (false≢true (sym e))
among_of true false e = inr (refl, refl)
among_of false true e = inl (refl, refl)
among_of false false e = absurd (false≢true (sym e))

beyond_of : (ac bc : Bool) → is_order (order_of ac) (order_of bc) ≡ true → (IsTrue ac × IsTrue bc)
    ⊎ (IsTrue (not ac) × IsTrue (not bc))
beyond_of true true e = inl (refl, refl)
beyond_of true false e = absurd (false≢true e)
beyond_of false true e = absurd (false≢true e)
beyond_of false false e = inr (refl, refl)

of_among : (ac bc : Bool) → (IsTrue (not ac) × IsTrue bc) ⊎ (IsTrue (not bc) × IsTrue ac) → is_order
    (order_of ac) (order_of bc) ≡ false
of_among true true h = elim h [ inl x ↦ sym x.0 | inr x ↦ sym x.0 ]
of_among true false h = refl
of_among false true h = refl
of_among false false h = elim h [ inl x ↦ sym x.1 | inr x ↦ sym x.1 ]

apart_cases : (s t : Bool) → both_or_neither s t ≡ false → ((s ≡ false) × (t ≡ true))
    ⊎ ((s ≡ true) × (t ≡ false))
apart_cases true true e = absurd (false≢true (sym e))
apart_cases true false e = inr (refl, refl)
apart_cases false true e = inl (refl, refl)
apart_cases false false e = absurd (false≢true (sym e))

apart_clash : (s t : Bool) → both_or_neither s t ≡ true → (s ≡ false → t ≡ true → ⊥)
    × (s ≡ true → t ≡ false → ⊥)
apart_clash true true e = ((λ a b. false≢true (sym a)), (λ a b. false≢true (sym b)))
apart_clash true false e = absurd (false≢true e)
apart_clash false true e = absurd (false≢true e)
apart_clash false false e = ((λ a b. false≢true b), (λ a b. false≢true a))

fifth : (p q r s t : Bool) → (p && q && r && s && t) ≡ true → t ≡ true
fifth p q r s t e = (and_parts (p && q && r && s) t e).1

module _ (above : ℕ → ℕ → Bool) (a b c d : ℕ) where
  abbrev row : List Order
  row = values above (four_terms a b c d)

  -- the five tests of a row of taco-taco
  abbrev side : ℕ → ℕ → Bool
  side x y = is_order (value_in above (a, x)) (value_in above (b, y))

  -- where x is above y, y isn't above x
  abbrev IsAgainst : ℕ → ℕ → Type 0
  IsAgainst x y = IsTrue (above x y) → IsTrue (not (above y x))

  side_among : (x : ℕ) → IsAgainst x a → IsAgainst x b → IsAmong above a b x → side x x ≡ false
  side_among x xa xb (inl h) = of_among (above a x) (above b x) (inl (xa h.0, h.1))
  side_among x xa xb (inr h) = of_among (above a x) (above b x) (inr (xb h.0, h.1))

  side_beyond : (x : ℕ) → IsAgainst x a → IsAgainst x b → IsBeyond above a b x → side x x ≡ true
  side_beyond x xa xb (inl h) = orders_same (above a x) (above b x) (h.0 ∙ sym h.1)
  side_beyond x xa xb (inr h) =
      orders_same (above a x) (above b x)
      (not_up (above a x) (xa h.0) ∙ sym (not_up (above b x) (xb h.1))) where
        not_up : (v : Bool) → IsTrue (not v) → v ≡ false
        not_up true t = sym t
        not_up false t = refl

  row_parts : IsSomeRow TacoTaco row → both_or_neither (side c c) (side d d) ≡ true
  row_parts r = fifth (has_no_cycle (value_in above (a, b)) (value_in above (a, c)) (value_in above (b, c)))
      (has_no_cycle (value_in above (a, b)) (value_in above (a, d)) (value_in above (b, d)))
      (has_no_cycle (value_in above (a, c)) (value_in above (a, d)) (value_in above (c, d)))
      (has_no_cycle (value_in above (b, c)) (value_in above (b, d)) (value_in above (c, d)))
      (both_or_neither (side c c) (side d d)) (row_passes TacoTaco row r)

  kept_apart : IsAgainst c a → IsAgainst c b → IsAgainst d a → IsAgainst d b → IsSomeRow TacoTaco row
      → Interleave above a b c d → ⊥
  kept_apart ca cb da db r (inl h) =
      (apart_clash (side c c) (side d d) (row_parts r)).0 (side_among c ca cb h.0) (side_beyond d da db h.1)
  kept_apart ca cb da db r (inr h) =
      (apart_clash (side c c) (side d d) (row_parts r)).1 (side_beyond c ca cb h.0) (side_among d da db h.1)

  pub row_apart : IsOneWay above → IsSomeRow TacoTaco row → Interleave above a b c d → ⊥
  row_apart way r i = kept_apart (against c a) (against c b) (against d a) (against d b) r i where
    against : (x y : ℕ) → IsAgainst x y
    against x y t = by (above y x) refl where
      by : (v : Bool) → above y x ≡ v → IsTrue (not v)
      by true e = absurd (way x y t e)
      by false e = refl

  module _ (four : AreFour a b c d) (one : AreCompared above (a ∷ b ∷ c ∷ d ∷ [])) where
    abbrev all : List ℕ
    all = a ∷ b ∷ c ∷ d ∷ []

    in_a : Contains all a
    in_a = first_member a (b ∷ c ∷ d ∷ []) a refl

    in_b : Contains all b
    in_b = later_member a (b ∷ c ∷ d ∷ []) b (first_member b (c ∷ d ∷ []) b refl)

    in_c : Contains all c
    in_c = later_member a (b ∷ c ∷ d ∷ []) c (later_member b (c ∷ d ∷ []) c (first_member c (d ∷ []) c refl))

    in_d : Contains all d
    in_d = later_member a (b ∷ c ∷ d ∷ []) d
        (later_member b (c ∷ d ∷ []) d (later_member c (d ∷ []) d (first_member d [] d refl)))

    -- each three have a row
    three : HasNoCycle above all → (x y z : ℕ) → Contains all x → Contains all y → Contains all z → x ≢ y
        → y ≢ z → x ≢ z → IsTrue
        (has_no_cycle (value_in above (x, y)) (value_in above (x, z)) (value_in above (y, z)))
    three acyclic x y z mx my mz dxy dyz dxz =
        row_passes Transitivity (values above ((x, y) ∷ (x, z) ∷ (y, z) ∷ []))
        ((transitivity_rows above x y z (one x y mx my dxy) (one y z my mz dyz)
        (one z x mz mx (λ e. dxz (sym e)))).1 (
          (λ r. acyclic x y z mx my mz dxy dyz (λ e. dxz (sym e)) r.0 r.1 r.2),
          (λ r. acyclic x z y mx mz my dxz (λ e. dyz (sym e)) (λ e. dxy (sym e)) r.0 r.1 r.2),
        ))

    above_of : (x y : ℕ) → Contains all x → Contains all y → x ≢ y → IsTrue (not (above x y)) → IsTrue
        (above y x)
    above_of x y mx my dxy t = one y x my mx (λ e. dxy (sym e)) ∙ t

    among_side : (x : ℕ) → Contains all x → a ≢ x → b ≢ x → side x x ≡ false → IsAmong above a b x
    among_side x m da db e = elim (among_of (above a x) (above b x) e) [
      | inl h ↦ inl (above_of a x in_a m da h.0, h.1)
      | inr h ↦ inr (above_of b x in_b m db h.0, h.1)
    ]

    beyond_side : (x : ℕ) → Contains all x → a ≢ x → b ≢ x → side x x ≡ true → IsBeyond above a b x
    beyond_side x m da db e = elim (beyond_of (above a x) (above b x) e) [
      | inl h ↦ inl h
      | inr h ↦ inr (above_of a x in_a m da h.0, above_of b x in_b m db h.1)
    ]

    apart_sides : (Interleave above a b c d → ⊥) → both_or_neither (side c c) (side d d) ≡ true
    apart_sides n = by (cases_Bool (both_or_neither (side c c) (side d d))) where
      by : (both_or_neither (side c c) (side d d) ≡ true) ⊎ (both_or_neither (side c c) (side d d) ≡ false)
          → both_or_neither (side c c) (side d d) ≡ true
      by (inl e) = e
      by (inr e) = elim (apart_cases (side c c) (side d d) e) [
        | inl h ↦ absurd (n (inl
            (among_side c in_c four.ac four.bc h.0, beyond_side d in_d four.ad four.bd h.1)))
        | inr h ↦ absurd (n (inr
            (beyond_side c in_c four.ac four.bc h.0, among_side d in_d four.ad four.bd h.1)))
      ]

    pub apart_row : CanBeListed above all → (Interleave above a b c d → ⊥) → IsSomeRow TacoTaco row
    apart_row listed n = by ((listed_exactly_holds above all one).0 listed) where
      by : HasNoCycle above all → IsSomeRow TacoTaco row
      by acyclic = passes_row TacoTaco row (and_from _ _ (and_from _ _ (and_from _ _ (and_from _ _
          (three acyclic a b c in_a in_b in_c four.ab four.bc four.ac)
          (three acyclic a b d in_a in_b in_d four.ab four.bd four.ad))
          (three acyclic a c d in_a in_c in_d four.ac four.cd four.ad))
          (three acyclic b c d in_b in_c in_d four.bc four.cd four.bd)) (apart_sides n))

    against_of : (x y : ℕ) → Contains all x → Contains all y → x ≢ y → IsAgainst x y
    against_of x y mx my dxy t = sym (one x y mx my dxy) ∙ t

    compared_apart : IsSomeRow TacoTaco row → Interleave above a b c d → ⊥
    compared_apart r i =
        kept_apart (against_of c a in_c in_a (λ e. four.ac (sym e)))
        (against_of c b in_c in_b (λ e. four.bc (sym e)))
        (against_of d a in_d in_a (λ e. four.ad (sym e)))
        (against_of d b in_d in_b (λ e. four.bd (sym e))) r i

    pub taco_taco_rows : CanBeListed above all → IsSomeRow TacoTaco row ↔ (Interleave above a b c d → ⊥)
    taco_taco_rows listed = (compared_apart, apart_row listed)
