-- A crease pattern's text has no float.
use Rattle.std.proofs.Common.{◌≡◌, ℤ, pos, negsuc, false, List, [], ◌∷◌, map, refl}
use Rattle.serde_json.specs.Data.{Data, number}
use Rattle.serde_json.specs.Find.{of_integer}
use Rattle.serde_json.specs.View.{items_of}
use Rattle.serde_json.specs.Written.{has_float, items_have_float}
use Rattle.ff_whole.specs.declared.points.Pt.{Pt}
use Rattle.ff_types.specs.declared.patterns.EdgeEnds.{EdgeEnds}
use Rattle.ff_types.specs.declared.patterns.Mark.{Mark}
use Rattle.ff_lined.specs.Texts.{ends_data, mark_data, pattern_data, point_data}

whole_no_float : (z : ℤ) → has_float (number (of_integer z)) ≡ false
whole_no_float (pos n) = refl
whole_no_float (negsuc n) = refl

point_no_float : (p : Pt) → has_float (point_data p) ≡ false
point_no_float p = rw (whole_no_float p.x, whole_no_float p.y) refl

list_no_float : {A : Type 0} (f : A → Data) → ((x : A) → has_float (f x) ≡ false) → (xs : List A) → items_have_float (items_of (map f xs)) ≡ false
list_no_float f h [] = refl
list_no_float f h (x ∷ xs) = rw (h x) (list_no_float f h xs)

pub no_float : (points : List Pt) (edges : List EdgeEnds) (marks : List Mark) → has_float (pattern_data points edges marks) ≡ false
no_float points edges marks = rw (list_no_float mark_data (λ m. refl) marks, list_no_float ends_data (λ e. refl) edges, list_no_float point_data point_no_float points) refl
