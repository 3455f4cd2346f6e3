-- A sheet whose only edge inside is flat: nothing lies on anything. This project's own.
use Rattle.std.specs.Prelude.{◌≡◌, ◌≢◌, ℕ, ◌<◌, Bool, false, length, IsTrue}
use Rattle.ff_whole.specs.declared.places.Place.{Place}
use Rattle.ff_types.specs.declared.patterns.Mark.TheVariants.{B}
use Rattle.ff_types.specs.Sheets.{Sheet, mark_of}
use Rattle.ff_types.specs.Inside.{Overlap}
use Rattle.ff_types.specs.Borders.{IsPlainBorder}
use Rattle.ff_types.specs.Covering.{covers_left, covers_right}
use Rattle.ff_types.specs.Cites.{is_flat_edge}
use Rattle.ff_types.specs.Stackings.{IsStacking}
use Rattle.ff_types.specs.Crossings.{IsGeometricStacking}

-- the edge is flat, and every other one is a border edge
pub record IsOnlyFlat (g : Sheet) (e : ℕ) : Type 0 where
  pub flat : IsTrue (is_flat_edge g e)
  pub others : (k : ℕ) → k < length g.edges → k ≢ e → mark_of g k ≡ B

-- nothing lies above anything
abbrev pub none_above : ℕ → ℕ → Bool
none_above f h = false

-- such a sheet has two faces, which don't overlap
abbrev pub OneFlatHasTwoFaces : Sheet → Type 0
OneFlatHasTwoFaces g = (e : ℕ) → IsOnlyFlat g e
    → (length g.rings ≡ 2) × ((f h : ℕ) → Overlap g f h → ⊥)

-- nowhere do two faces cover one side
abbrev pub OneFlatCoversOnce : Sheet → Type 0
OneFlatCoversOnce g = (e k f h : ℕ) (s : Place) → IsOnlyFlat g e → IsPlainBorder g k s → f ≢ h
    → (IsTrue (covers_left g k s f) → IsTrue (covers_left g k s h) → ⊥)
    × (IsTrue (covers_right g k s f) → IsTrue (covers_right g k s h) → ⊥)

-- and nothing above anything is a stacking, in which no paper crosses
abbrev pub OneFlatStacks : Sheet → Type 0
OneFlatStacks g = (e : ℕ) → IsOnlyFlat g e → IsStacking g none_above × IsGeometricStacking g none_above

-- It is the only one.
abbrev pub OneFlatStacksAlone : Sheet → Type 0
OneFlatStacksAlone g = (e : ℕ) (above : ℕ → ℕ → Bool) → IsOnlyFlat g e → IsStacking g above → (f h : ℕ)
    → above f h ≡ false
