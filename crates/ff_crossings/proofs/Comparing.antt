-- In an order of the overlaps two faces are compared where they overlap: over a place, and on a side of a
-- border place.
use Rattle.std.proofs.Common.{◌≡◌, ◌≢◌, ℕ, ◌<◌, ◌⊎◌, inl, inr, Bool, true, false, not, ◌&&◌, length, refl, sym, subst, ap, ◌∙◌, IsTrue}
use Rattle.std.proofs.lemmas.Bool.{false≢true, and_from}
use Rattle.ff_whole.specs.declared.places.Place.{Place}
use Rattle.ff_whole.specs.Places.{IsPlace}
use Rattle.ff_types.specs.Sheets.{Sheet, bounds}
use Rattle.ff_types.specs.Inside.{is_inside, over}
use Rattle.ff_types.specs.Borders.{is_on, IsPlainBorder}
use Rattle.ff_types.specs.Covering.{covers_left, covers_right, left_faces, right_faces}
use Rattle.ff_types.specs.Stackings.{OrdersOverlaps}
use Rattle.ff_crossings.specs.Listings.{AreCompared}
use Rattle.ff_crossings.specs.Alternating.{IsOneWay, IsAmong, IsBeyond, Interleave, Cross}
use Rattle.ff_crossings.proofs.BorderLaws.{HasBorderLaws}
use Rattle.ff_crossings.proofs.ChordLists.{in_over, in_faces}

abbrev pub IsCompared : (ℕ → ℕ → Bool) → ℕ → ℕ → Type 0
IsCompared above f h = above f h ≡ not (above h f)

-- ---- what isn't above is below

turned : (v w : Bool) → v ≡ not w → v ≡ false → IsTrue w
turned v true e q = refl
turned v false e q = absurd (false≢true (sym q ∙ e))

pub same_or_among : (above : ℕ → ℕ → Bool) (x y z : ℕ) → IsCompared above x z → IsCompared above y z
    → (above x z ≡ above y z) ⊎ IsAmong above x y z
same_or_among above x y z p q = by (above x z) (above y z) refl refl where
  by : (v w : Bool) → above x z ≡ v → above y z ≡ w → (above x z ≡ above y z) ⊎ IsAmong above x y z
  by true true a b = inl (a ∙ sym b)
  by true false a b = inr (inr (turned (above y z) (above z y) q b, a))
  by false true a b = inr (inl (turned (above x z) (above z x) p a, b))
  by false false a b = inl (a ∙ sym b)

pub same_or_cross : (above : ℕ → ℕ → Bool) (f f2 h h2 : ℕ) → IsCompared above f h → IsCompared above f2 h2
    → (above f h ≡ above f2 h2) ⊎ Cross above f f2 h h2
same_or_cross above f f2 h h2 p q = by (above f h) (above f2 h2) refl refl where
  by : (v w : Bool) → above f h ≡ v → above f2 h2 ≡ w → (above f h ≡ above f2 h2) ⊎ Cross above f f2 h h2
  by true true a b = inl (a ∙ sym b)
  by true false a b = inr (inr (a, turned (above f2 h2) (above h2 f2) q b))
  by false true a b = inr (inl (turned (above f h) (above h f) p a, b))
  by false false a b = inl (a ∙ sym b)

-- ---- whether two pairs interleave is told

told : (b : Bool) → IsTrue b ⊎ (IsTrue b → ⊥)
told true = inl refl
told false = inr (λ t. false≢true t)

both_told : {A B : Type 0} → A ⊎ (A → ⊥) → B ⊎ (B → ⊥) → (A × B) ⊎ (A × B → ⊥)
both_told (inl a) (inl b) = inl (a, b)
both_told (inl a) (inr n) = inr (λ x. n x.1)
both_told (inr n) b = inr (λ x. n x.0)

either_told : {A B : Type 0} → A ⊎ (A → ⊥) → B ⊎ (B → ⊥) → (A ⊎ B) ⊎ (A ⊎ B → ⊥)
either_told {A} {B} (inl a) b = inl (inl a)
either_told {A} {B} (inr n) (inl b) = inl (inr b)
either_told {A} {B} (inr n) (inr m) = inr neither where
  neither : A ⊎ B → ⊥
  neither (inl a) = n a
  neither (inr b) = m b

pub interleave_told : (above : ℕ → ℕ → Bool) (x y z u : ℕ)
    → Interleave above x y z u ⊎ (Interleave above x y z u → ⊥)
interleave_told above x y z u = either_told (both_told (among z) (beyond u)) (both_told (beyond z) (among u)) where
  among : (v : ℕ) → IsAmong above x y v ⊎ (IsAmong above x y v → ⊥)
  among v = either_told (both_told (told (above v x)) (told (above y v))) (both_told (told (above v y)) (told (above x v)))

  beyond : (v : ℕ) → IsBeyond above x y v ⊎ (IsBeyond above x y v → ⊥)
  beyond v = either_told (both_told (told (above x v)) (told (above y v))) (both_told (told (above v x)) (told (above v y)))

-- ---- the other way

pub among_not : (above : ℕ → ℕ → Bool) (x y z : ℕ) → IsOneWay above → above x z ≡ above y z
    → IsAmong above x y z → ⊥
among_not above x y z way e (inl h) = way x z (e ∙ h.1) h.0
among_not above x y z way e (inr h) = way y z (sym e ∙ h.1) h.0

pub cross_not : (above : ℕ → ℕ → Bool) (f f2 h h2 : ℕ) → IsOneWay above → above f h ≡ above f2 h2
    → Cross above f f2 h h2 → ⊥
cross_not above f f2 h h2 way e (inl c) = way f h (e ∙ c.1) c.0
cross_not above f f2 h h2 way e (inr c) = way f2 h2 (sym e ∙ c.0) c.1

module _ (g : Sheet) (above : ℕ → ℕ → Bool) (orders : OrdersOverlaps g above) where
  pub one_way : IsOneWay above
  one_way f h t u = false≢true (sym (orders.one f h (orders.only f h t) ∙ ap not u) ∙ t)

  pub compared_over : (s : Place) → IsPlace s → AreCompared above (over g s)
  compared_over s place f h mf mh d =
      orders.one f h (record {
        differ = d;
        common =
            record {
              at = s;
              place = place;
              inside =
                  and_from (is_inside g f s) (is_inside g h s && true) (in_over g s f mf)
                  (and_from (is_inside g h s) true (in_over g s h mh) refl);
            };
      })

  module _ (laws : HasBorderLaws g) (e : ℕ) (s : Place) (plain : IsPlainBorder g e s) where
    pub left_compared : (f h : ℕ) → IsTrue (covers_left g e s f) → IsTrue (covers_left g e s h) → f ≢ h
        → IsCompared above f h
    left_compared f h p q d = orders.one f h ((laws.side_overlap e f h s plain d).0 p q)

    pub right_compared : (f h : ℕ) → IsTrue (covers_right g e s f) → IsTrue (covers_right g e s h) → f ≢ h
        → IsCompared above f h
    right_compared f h p q d = orders.one f h ((laws.side_overlap e f h s plain d).1 p q)

    pub compared_left : AreCompared above (left_faces g e s)
    compared_left f h mf mh d =
        left_compared f h (in_faces g (covers_left g e s) f mf).1 (in_faces g (covers_left g e s) h mh).1 d

    pub compared_right : AreCompared above (right_faces g e s)
    compared_right f h mf mh d =
        right_compared f h (in_faces g (covers_right g e s) f mf).1 (in_faces g (covers_right g e s) h mh).1 d

-- ---- which faces differ

pub outside_differs : (g : Sheet) (s : Place) (f t : ℕ) → is_inside g f s ≡ false → IsTrue (is_inside g t s)
    → f ≢ t
outside_differs g s f t o i e = false≢true (sym o ∙ (ap (λ z. is_inside g z s) e ∙ i))

pub edges_differ : (g : Sheet) (laws : HasBorderLaws g) (e k l : ℕ) (s : Place) → IsPlainBorder g e s
    → k < length g.edges → l < length g.edges → IsTrue (is_on g k s) → IsTrue (is_on g l s) → k ≢ l
    → (f h : ℕ) → IsTrue (bounds g k f) → IsTrue (bounds g l h) → f ≢ h
edges_differ g laws e k l s plain kn ln ko lo d f h bf bh q =
    laws.no_common k l f kn ln d ((laws.tell e k s plain kn ko).1 l ln lo) bf
    (subst (λ z. IsTrue (bounds g l z)) (sym q) bh)
