-- Places, sides, chords and placing orders of the named patterns, computed.
use Rattle.std.proofs.Common.{◌≡◌, ℤ, pos, negsuc, true, false, [], ◌∷◌, refl, arith, lit<}
use Rattle.std.proofs.lemmas.Int.{ints}
use Rattle.ff_whole.specs.declared.places.Place.{Place}
use Rattle.ff_types.specs.Inside.{over, is_inside}
use Rattle.ff_types.specs.Witnesses.{witness_face}
use Rattle.ff_types.specs.Borders.{IsPlainBorder}
use Rattle.ff_types.specs.Covering.{left_faces, right_faces}
use Rattle.ff_types.specs.Crossings.{chords}
use Rattle.ff_types.specs.Crossings.Side.{Left, Right}
use Rattle.ff_types.specs.Placing.{IsPlacingOrder}
use Rattle.ff_types.proofs.Named.{unit, diagonal, crease_v, slant, strip_212, strip_fvf, strip_uuu, midlines}

abbrev at : ℤ → ℤ → ℤ → Place
at x y w = record { x = x; y = y; w = w }

-- ---- faces over places

over_unit : over unit (at (pos 1) (pos 1) (pos 2)) ≡ 0 ∷ []
over_unit = refl

-- a border isn't inside
over_corner : over unit (at (pos 0) (pos 0) (pos 1)) ≡ []
over_corner = refl

-- the flat diagonal doesn't fold: one face each side
over_diagonal : (over diagonal (at (pos 3) (pos 1) (pos 4)) ≡ 0 ∷ []) × (over diagonal (at (pos 1) (pos 3) (pos 4)) ≡ 1 ∷ [])
over_diagonal = (refl, refl)

-- the folded one does: both faces lie right of it, the second turned over
over_crease : (over crease_v (at (pos 3) (pos 1) (pos 4)) ≡ 0 ∷ 1 ∷ []) × (over crease_v (at (pos 1) (pos 3) (pos 4)) ≡ [])
over_crease = (refl, refl)

-- the slant at scale 5
over_slant : (over slant (at (pos 1) (pos 1) (pos 1)) ≡ 0 ∷ []) × (over slant (at (pos 7) (pos 11) (pos 1)) ≡ 0 ∷ 1 ∷ []) × (over slant (at (negsuc 2) (pos 12) (pos 1)) ≡ 1 ∷ [])
over_slant = (refl, refl, refl)

over_strip : (over strip_212 (at (pos 3) (pos 1) (pos 2)) ≡ 0 ∷ 1 ∷ 2 ∷ []) × (over strip_212 (at (pos 1) (pos 1) (pos 2)) ≡ 0 ∷ [])
over_strip = (refl, refl)

-- no number that is no face's is over a place
over_none : is_inside unit 1 (at (pos 1) (pos 1) (pos 2)) ≡ false
over_none = refl

-- the corners of a face witness it, two of them don't
witnessed : (witness_face unit (at (pos 0) (pos 0) (pos 1) ∷ at (pos 1) (pos 0) (pos 1) ∷ at (pos 1) (pos 1) (pos 1) ∷ []) 0 ≡ true)
    × (witness_face unit (at (pos 0) (pos 0) (pos 1) ∷ at (pos 1) (pos 0) (pos 1) ∷ []) 0 ≡ false) × (witness_face unit [] 0 ≡ false)
witnessed = (refl, refl, refl)

-- ---- plain border places

plain_on_crease : IsPlainBorder crease_v 4 (at (pos 1) (pos 1) (pos 2))
plain_on_crease = record { place = omega (arith, ints); edge = lit< tt; on = refl; plain = refl }

-- at (2, 1/2), on crease 8, which is inside face 2
sides_at_crease : (left_faces strip_212 8 (at (pos 4) (pos 1) (pos 2)) ≡ 0 ∷ 1 ∷ 2 ∷ []) × (right_faces strip_212 8 (at (pos 4) (pos 1) (pos 2)) ≡ 2 ∷ [])
sides_at_crease = (refl, refl)

chords_at_crease : chords strip_212 8 (at (pos 4) (pos 1) (pos 2)) ≡ (Left 2, Right 2) ∷ (Left 0, Left 1) ∷ []
chords_at_crease = refl

-- flat creases 10 and 12 lie on one line: two chords that go through
chords_at_flat : chords strip_fvf 10 (at (pos 2) (pos 1) (pos 2)) ≡ (Left 0, Right 1) ∷ (Right 2, Left 3) ∷ []
chords_at_flat = refl

-- creases 10 and 12 are folded on one side
chords_at_folds : chords strip_uuu 10 (at (pos 2) (pos 1) (pos 2)) ≡ (Left 0, Left 1) ∷ (Left 2, Left 3) ∷ []
chords_at_folds = refl

-- ---- placing orders

placing_strip : IsPlacingOrder strip_uuu.rings strip_uuu.edges strip_uuu.sides (0 ∷ 1 ∷ 2 ∷ 3 ∷ [])
placing_strip = refl

-- breadth first: from face 0 over its edges in ring order
placing_midlines : IsPlacingOrder midlines.rings midlines.edges midlines.sides (0 ∷ 1 ∷ 2 ∷ 3 ∷ [])
placing_midlines = refl
