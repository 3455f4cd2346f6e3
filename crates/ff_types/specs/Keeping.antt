-- What a stacking keeps: creases by their marks, and pinned orders. Valley and mountain; pins are this project's own.
use Rattle.std.specs.Prelude.{◌≡◌, ℕ, ◌<◌, Bool, List, length, IsTrue, Option, Some, if◌then◌else◌, slice_get}
use Rattle.ff_tables.specs.declared.orders.Order.{Order}
use Rattle.ff_tables.specs.declared.orders.Order.TheVariants.{Below, Above}
use Rattle.ff_types.specs.declared.patterns.Mark.{Mark}
use Rattle.ff_types.specs.declared.patterns.Mark.TheVariants.{M, V}
use Rattle.ff_types.specs.declared.pins.Pin.{Pin}
use Rattle.ff_types.specs.Sheets.{Sheet, lies_up, mark_of, left_face, right_face}

-- Of the two faces of an edge marked V the down face is above the up face, of an edge marked M the up face above the
-- down face. Where the one face is up, the other one is down.
abbrev pub KeepsMark : Sheet → (ℕ → ℕ → Bool) → Mark → Option ℕ → Option ℕ → Type 0
KeepsMark g above V (Some f) (Some h) = IsTrue (if lies_up g f then above h f else above f h)
KeepsMark g above M (Some f) (Some h) = IsTrue (if lies_up g f then above f h else above h f)
KeepsMark g above _ _ _ = Unit {0}

-- the edge's mark is kept by its two faces
abbrev pub KeepsEdge : Sheet → (ℕ → ℕ → Bool) → ℕ → Type 0
KeepsEdge g above e = KeepsMark g above (mark_of g e) (left_face g e) (right_face g e)

-- all marks are kept
abbrev pub KeepsCreases : Sheet → (ℕ → ℕ → Bool) → Type 0
KeepsCreases g above = (e : ℕ) → e < length g.edges → KeepsEdge g above e

-- the order of f to h
abbrev pub KeepsOrder : (ℕ → ℕ → Bool) → ℕ → ℕ → Order → Type 0
KeepsOrder above f h Above = IsTrue (above f h)
KeepsOrder above f h Below = IsTrue (above h f)

-- A stacking has no pair of faces that don't overlap, so it keeps no pin on such faces.
abbrev pub KeepsPins : (ℕ → ℕ → Bool) → List Pin → Type 0
KeepsPins above pins = (i : ℕ) (p : Pin) → slice_get pins i ≡ Some p → KeepsOrder above p.f p.g p.value
