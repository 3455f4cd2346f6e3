-- Of three faces only the values in the order of their numbers need be asked.
use Rattle.std.proofs.Common.{◌≡◌, ◌≢◌, ℕ, ◌<◌, ◌⊎◌, inl, inr, ◌↔◌, Bool, true, false, not, List, refl, sym, ◌∙◌, arith, IsTrue, Contains}
use Rattle.std.specs.Prelude.{if◌then◌else◌}
use Rattle.std.proofs.lemmas.Bool.{cases_order, false≢true}
use Rattle.ff_tables.specs.declared.orders.Order.{Order}
use Rattle.ff_tables.specs.declared.orders.Order.TheVariants.{Below, Above}
use Rattle.ff_tables.specs.Rows.{has_no_cycle}
use Rattle.ff_crossings.specs.Listings.{AreCompared, HasNoCycle, HasTripleRows}

-- the order that a test says
abbrev pub order_of : Bool → Order
order_of b = if b then Above else Below

-- three values that don't go round, where each pair has one order
pub row_of : (a b c : Bool) → (IsTrue a → IsTrue c → IsTrue (not b) → ⊥)
    → (IsTrue (not a) → IsTrue (not c) → IsTrue b → ⊥) → IsTrue
    (has_no_cycle (order_of a) (order_of b) (order_of c))
row_of true true true f g = refl
row_of true true false f g = refl
row_of true false true f g = absurd (f refl refl refl)
row_of true false false f g = refl
row_of false true true f g = refl
row_of false true false f g = absurd (g refl refl refl)
row_of false false true f g = refl
row_of false false false f g = refl

-- the two ways round
pub up_round : (a b c : Bool) → IsTrue (has_no_cycle (order_of a) (order_of b) (order_of c)) → IsTrue a
    → IsTrue c → IsTrue (not b) → ⊥
up_round true false true h x y z = false≢true h
up_round true false false h x y z = false≢true y
up_round true true c h x y z = false≢true z
up_round false b c h x y z = false≢true x

pub down_round : (a b c : Bool) → IsTrue (has_no_cycle (order_of a) (order_of b) (order_of c)) → IsTrue
    (not a) → IsTrue (not c) → IsTrue b → ⊥
down_round false true false h x y z = false≢true h
down_round false true true h x y z = false≢true y
down_round false false c h x y z = false≢true z
down_round true b c h x y z = false≢true x

module _ (above : ℕ → ℕ → Bool) (faces : List ℕ) (one : AreCompared above faces) where
  other : (f h : ℕ) → Contains faces f → Contains faces h → f ≢ h → IsTrue (above f h) → IsTrue
      (not (above h f))
  other f h mf mh d t = sym (one f h mf mh d) ∙ t

  back : (f h : ℕ) → Contains faces f → Contains faces h → f ≢ h → IsTrue (not (above h f)) → IsTrue
      (above f h)
  back f h mf mh d t = one f h mf mh d ∙ t

  rows_from : HasNoCycle above faces → HasTripleRows above faces
  rows_from acyclic f h k mf mh mk l m = row_of (above f h) (above f k) (above h k)
      (λ x y z. acyclic f h k mf mh mk (λ e. omega (arith, l, e)) (λ e. omega (arith, m, e))
      (λ e. omega (arith, l, m, e)) x y (back k f mk mf (λ e. omega (arith, l, m, e)) z))
      (λ x y z. acyclic f k h mf mk mh (λ e. omega (arith, l, m, e)) (λ e. omega (arith, m, e))
      (λ e. omega (arith, l, e)) z (back k h mk mh (λ e. omega (arith, m, e)) y)
      (back h f mh mf (λ e. omega (arith, l, e)) x))

  -- the least of the three first
  module _ (rows : HasTripleRows above faces) where
    least_first : (f h k : ℕ) → Contains faces f → Contains faces h → Contains faces k → f < h → f < k → h ≢ k
        → IsTrue (above f h) → IsTrue (above h k) → IsTrue (above k f) → ⊥
    least_first f h k mf mh mk l m d x y z = by (cases_order h k) where
      by : (h ≡ k) ⊎ ((h < k) ⊎ (k < h)) → ⊥
      by (inl e) = d e
      by (inr (inl n)) = up_round (above f h) (above f k) (above h k) (rows f h k mf mh mk l n) x y
          (other k f mk mf (λ e. omega (arith, m, e)) z)
      by (inr (inr n)) = down_round (above f k) (above f h) (above k h) (rows f k h mf mk mh m n)
          (other k f mk mf (λ e. omega (arith, m, e)) z) (other h k mh mk d y) x

    no_cycle_from : HasNoCycle above faces
    no_cycle_from f h k mf mh mk dfh dhk dkf x y z =
        by (cases_order f h) (cases_order h k) (cases_order k f) where
          by : (f ≡ h) ⊎ ((f < h) ⊎ (h < f)) → (h ≡ k) ⊎ ((h < k) ⊎ (k < h)) → (k ≡ f) ⊎ ((k < f) ⊎ (f < k))
              → ⊥
          by (inl e) b c = dfh e
          by (inr a) (inl e) c = dhk e
          by (inr a) (inr b) (inl e) = dkf e
          by (inr (inl a)) (inr b) (inr (inr c)) = least_first f h k mf mh mk a c dhk x y z
          by (inr (inr a)) (inr (inl b)) (inr c) = least_first h k f mh mk mf b a dkf y z x
          by (inr (inl a)) (inr b) (inr (inl c)) =
              least_first k f h mk mf mh c (omega (arith, a, c)) dfh z x y
          by (inr (inr a)) (inr (inr b)) (inr c) =
              least_first k f h mk mf mh (omega (arith, a, b)) b dfh z x y

pub triples_suffice_holds : (above : ℕ → ℕ → Bool) (faces : List ℕ) → AreCompared above faces
    → HasNoCycle above faces ↔ HasTripleRows above faces
triples_suffice_holds above faces one = (rows_from above faces one, no_cycle_from above faces one)
