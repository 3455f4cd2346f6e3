-- The four forms of chords at a plain border place: of a face, of a flat edge, and of a folded edge to the
-- left or right.
use Rattle.std.proofs.Common.{◌≡◌, ◌≢◌, ℕ, ◌<◌, ◌⊎◌, inl, inr, Bool, true, false, length, refl, sym, ap, ◌∙◌, IsTrue, Option, Some, None}
use Rattle.ff_whole.specs.declared.places.Place.{Place}
use Rattle.ff_types.specs.declared.patterns.Mark.TheVariants.{B}
use Rattle.ff_types.specs.Sheets.{Sheet, mark_of, left_face, right_face}
use Rattle.ff_types.specs.Inside.{is_inside}
use Rattle.ff_types.specs.Borders.{is_on, IsPlainBorder}
use Rattle.ff_types.specs.Covering.{is_on_ring}
use Rattle.ff_types.specs.Cites.{is_folded_edge, is_flat_edge, lesser, greater}
use Rattle.ff_types.specs.Crossings.{Side, entry}
use Rattle.ff_types.specs.Crossings.Side.{Left, Right}
use Rattle.ff_borders.specs.Folded.{AreBeside}
use Rattle.ff_borders.specs.Lying.{IsLeftAlone, IsRightAlone}
use Rattle.ff_crossings.proofs.BorderLaws.{HasBorderLaws}
use Rattle.ff_crossings.specs.Crossed.{IsChordOf}
use Rattle.ff_crossings.specs.Crossed.Bearer.{OfEdge}
use Rattle.ff_crossings.proofs.EdgeFaces.{folded_number, flat_number, folded_is_inner, flat_is_inner, bounds_first, bounds_second, on_its_ring, covers_its_left, entry_left, entry_right}

pub data Form : Type 0 where
  -- a face with the place inside
  Face : ℕ → Form
  -- a flat edge, and whether its lesser face is the left one
  Flat : Bool → ℕ → Form
  -- a folded edge whose faces lie on the left, or on the right
  LeftCap : ℕ → Form
  RightCap : ℕ → Form

-- the left face of a flat edge, and the right one
abbrev pub left_of : Sheet → Bool → ℕ → ℕ
left_of g true k = lesser g k
left_of g false k = greater g k

abbrev pub right_of : Sheet → Bool → ℕ → ℕ
right_of g true k = greater g k
right_of g false k = lesser g k

abbrev pub ends : Sheet → Form → Side × Side
ends g (Face f) = (Left f, Right f)
ends g (Flat b k) = (Left (left_of g b k), Right (right_of g b k))
ends g (LeftCap k) = (Left (lesser g k), Left (greater g k))
ends g (RightCap k) = (Right (lesser g k), Right (greater g k))

abbrev pub swapped : Side × Side → Side × Side
swapped c = (c.1, c.0)

pub record IsFlatThere (g : Sheet) (e : ℕ) (s : Place) (b : Bool) (k : ℕ) : Type 0 where
  pub flat : IsTrue (is_flat_edge g k)
  pub on : IsTrue (is_on g k s)
  pub left : IsLeftAlone g e (left_of g b k)
  pub right : IsRightAlone g e (right_of g b k)

pub record IsLeftThere (g : Sheet) (e : ℕ) (s : Place) (k : ℕ) : Type 0 where
  pub folded : IsTrue (is_folded_edge g k)
  pub on : IsTrue (is_on g k s)
  pub first : IsLeftAlone g e (lesser g k)
  pub second : IsLeftAlone g e (greater g k)

pub record IsRightThere (g : Sheet) (e : ℕ) (s : Place) (k : ℕ) : Type 0 where
  pub folded : IsTrue (is_folded_edge g k)
  pub on : IsTrue (is_on g k s)
  pub first : IsRightAlone g e (lesser g k)
  pub second : IsRightAlone g e (greater g k)

abbrev pub IsThere : Sheet → ℕ → Place → Form → Type 0
IsThere g e s (Face f) = IsTrue (is_inside g f s)
IsThere g e s (Flat b k) = IsFlatThere g e s b k
IsThere g e s (LeftCap k) = IsLeftThere g e s k
IsThere g e s (RightCap k) = IsRightThere g e s k

-- the chord has the form, one way round or the other
pub record HasForm (g : Sheet) (e : ℕ) (s : Place) (c : Side × Side) : Type 0 where
  pub form : Form
  pub there : IsThere g e s form
  pub same : (c ≡ ends g form) ⊎ (c ≡ swapped (ends g form))

some_same : (x y : ℕ) (o : Option ℕ) → o ≡ Some x → o ≡ Some y → x ≡ y
some_same x y o p q = from (sym p ∙ q) where
  from : {x y : ℕ} → Some x ≡ Some y → x ≡ y
  from {x} e = ap (λ o. elim o [ None ↦ x | Some z ↦ z ]) e

pair : {a b c d : Side} → a ≡ c → b ≡ d → ◌≡◌ {A = Side × Side} (a, b) (c, d)
pair {a} {b} {c} {d} e f = ap (λ z. (z, b)) e ∙ ap (λ z. (c, z)) f

module _ (g : Sheet) (laws : HasBorderLaws g) (e : ℕ) (s : Place) (plain : IsPlainBorder g e s) where
  -- ---- an inner edge that holds the place

  pub record IsInnerThere (k : ℕ) : Type 0 where
    pub number : k < length g.edges
    pub inner : mark_of g k ≢ B
    pub on : IsTrue (is_on g k s)

  pub folded_there : (k : ℕ) → IsTrue (is_folded_edge g k) → IsTrue (is_on g k s) → IsInnerThere k
  folded_there k f t = record { number = folded_number g k f; inner = folded_is_inner g k f; on = t }

  pub flat_there : (k : ℕ) → IsTrue (is_flat_edge g k) → IsTrue (is_on g k s) → IsInnerThere k
  flat_there k f t = record { number = flat_number g k f; inner = flat_is_inner g k f; on = t }

  module _ (k : ℕ) (is : IsInnerThere k) where
    pub beside_of : AreBeside g k (lesser g k) (greater g k)
    beside_of = (laws.two_faces k is.number is.inner).1

    pub lesser_ring : IsTrue (is_on_ring g (lesser g k) s)
    lesser_ring = on_its_ring g k (lesser g k) s is.number is.on
        (bounds_first g k (lesser g k) (greater g k) beside_of)

    pub greater_ring : IsTrue (is_on_ring g (greater g k) s)
    greater_ring = on_its_ring g k (greater g k) s is.number is.on
        (bounds_second g k (lesser g k) (greater g k) beside_of)

    pub lesser_outside : is_inside g (lesser g k) s ≡ false
    lesser_outside = (laws.aside e k (lesser g k) s plain is.number is.on
        (bounds_first g k (lesser g k) (greater g k) beside_of)).1

    pub greater_outside : is_inside g (greater g k) s ≡ false
    greater_outside = (laws.aside e k (greater g k) s plain is.number is.on
        (bounds_second g k (lesser g k) (greater g k) beside_of)).1

    lesser_left : IsLeftAlone g e (lesser g k) → entry g e s (lesser g k) ≡ Left (lesser g k)
    lesser_left l = entry_left g e (lesser g k) s (covers_its_left g e (lesser g k) s lesser_ring l)

    greater_left : IsLeftAlone g e (greater g k) → entry g e s (greater g k) ≡ Left (greater g k)
    greater_left l = entry_left g e (greater g k) s (covers_its_left g e (greater g k) s greater_ring l)

    lesser_right : IsRightAlone g e (lesser g k) → entry g e s (lesser g k) ≡ Right (lesser g k)
    lesser_right l = entry_right g e (lesser g k) s lesser_outside l

    greater_right : IsRightAlone g e (greater g k) → entry g e s (greater g k) ≡ Right (greater g k)
    greater_right l = entry_right g e (greater g k) s greater_outside l

    abbrev pub own : Side × Side
    own = (entry g e s (lesser g k), entry g e s (greater g k))

    -- its chord, one way round or the other
    pub own_chord : IsChordOf g e s (OfEdge k) own ⊎ IsChordOf g e s (OfEdge k) (swapped own)
    own_chord = elim beside_of.beside [
      | inl b ↦ inl (
        record {
          edge = k;
          is_edge = is.number;
          on = is.on;
          inner = is.inner;
          left = lesser g k;
          right = greater g k;
          left_is = b.0;
          right_is = b.1;
          same = refl;
        },
        refl,
      )
      | inr b ↦ inr (
        record {
          edge = k;
          is_edge = is.number;
          on = is.on;
          inner = is.inner;
          left = greater g k;
          right = lesser g k;
          left_is = b.0;
          right_is = b.1;
          same = refl;
        },
        refl,
      )
    ]

    pub own_of : (f h : ℕ) (c : Side × Side) → left_face g k ≡ Some f → right_face g k ≡ Some h
        → c ≡ (entry g e s f, entry g e s h) → (c ≡ own) ⊎ (c ≡ swapped own)
    own_of f h c p q r = elim beside_of.beside [
      | inl b ↦ inl (r ∙ pair (ap (entry g e s) (some_same f (lesser g k) (left_face g k) p b.0))
          (ap (entry g e s) (some_same h (greater g k) (right_face g k) q b.1)))
      | inr b ↦ inr (r ∙ pair (ap (entry g e s) (some_same f (greater g k) (left_face g k) p b.0))
          (ap (entry g e s) (some_same h (lesser g k) (right_face g k) q b.1)))
    ]

    pub flat_own : (b : Bool) → IsFlatThere g e s b k → (own ≡ ends g (Flat b k))
        ⊎ (own ≡ swapped (ends g (Flat b k)))
    flat_own true f = inl (pair (lesser_left f.left) (greater_right f.right))
    flat_own false f = inr (pair (lesser_right f.right) (greater_left f.left))

    pub left_own : IsLeftThere g e s k → own ≡ ends g (LeftCap k)
    left_own f = pair (lesser_left f.first) (greater_left f.second)

    pub right_own : IsRightThere g e s k → own ≡ ends g (RightCap k)
    right_own f = pair (lesser_right f.first) (greater_right f.second)

  pub flat_form : (k : ℕ) → IsTrue (is_flat_edge g k) → IsTrue (is_on g k s) → (b : Bool)
      × IsFlatThere g e s b k
  flat_form k f t = elim (laws.flat_part e k s plain t f) [
    | inl h ↦ (true, record { flat = f; on = t; left = h.0; right = h.1 })
    | inr h ↦ (false, record { flat = f; on = t; left = h.1; right = h.0 })
  ]

  pub folded_form : (k : ℕ) → IsTrue (is_folded_edge g k) → IsTrue (is_on g k s) → IsLeftThere g e s k
      ⊎ IsRightThere g e s k
  folded_form k f t = elim (laws.folded_meet e k s plain t f) [
    | inl h ↦ inl (record { folded = f; on = t; first = h.0; second = h.1 })
    | inr h ↦ inr (record { folded = f; on = t; first = h.0; second = h.1 })
  ]
