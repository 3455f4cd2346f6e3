-- The named patterns of docs/FORMATS.md and some more, folded: for each the folded sheet and the points of its drawing.
use Rattle.std.specs.Prelude.{ℕ, ℤ, pos, negsuc, true, false, List, [], ◌∷◌, Option, Some, None}
use Rattle.ff_whole.specs.declared.points.Pt.{Pt}
use Rattle.ff_types.specs.declared.patterns.EdgeEnds.{EdgeEnds}
use Rattle.ff_types.specs.declared.faces.EdgeSides.{EdgeSides}
use Rattle.ff_types.specs.declared.patterns.Mark.{Mark}
use Rattle.ff_types.specs.declared.patterns.Mark.TheVariants.{B, M, V, F, U}
use Rattle.ff_types.specs.Sheets.{Sheet}

abbrev pub point : ℤ → ℤ → Pt
point x y = record { x = x; y = y }

abbrev pub ends : ℕ → ℕ → EdgeEnds
ends a b = record { a = a; b = b }

abbrev pub sides : Option ℕ → Option ℕ → EdgeSides
sides l r = record { left = l; right = r }

-- scale 1
abbrev pub unit : Sheet
unit = record {
  images = point (pos 0) (pos 0) ∷ point (pos 1) (pos 0) ∷ point (pos 1) (pos 1) ∷ point (pos 0) (pos 1) ∷ [];
  rings = (0 ∷ 1 ∷ 2 ∷ 3 ∷ []) ∷ [];
  up = true ∷ [];
  edges = ends 0 1 ∷ ends 1 2 ∷ ends 2 3 ∷ ends 3 0 ∷ [];
  sides = sides (Some 0) None ∷ sides (Some 0) None ∷ sides (Some 0) None ∷ sides (Some 0) None ∷ [];
  marks = B ∷ B ∷ B ∷ B ∷ [];
}

abbrev pub unit_points : List Pt
unit_points = point (pos 0) (pos 0) ∷ point (pos 1) (pos 0) ∷ point (pos 1) (pos 1) ∷ point (pos 0) (pos 1) ∷ []

-- scale 1
abbrev pub diagonal : Sheet
diagonal = record {
  images = point (pos 0) (pos 0) ∷ point (pos 1) (pos 0) ∷ point (pos 1) (pos 1) ∷ point (pos 0) (pos 1) ∷ [];
  rings = (0 ∷ 1 ∷ 2 ∷ []) ∷ (0 ∷ 2 ∷ 3 ∷ []) ∷ [];
  up = true ∷ true ∷ [];
  edges = ends 0 1 ∷ ends 1 2 ∷ ends 2 3 ∷ ends 3 0 ∷ ends 0 2 ∷ [];
  sides = sides (Some 0) None ∷ sides (Some 0) None ∷ sides (Some 1) None ∷ sides (Some 1) None ∷ sides (Some 1) (Some 0) ∷ [];
  marks = B ∷ B ∷ B ∷ B ∷ F ∷ [];
}

abbrev pub diagonal_points : List Pt
diagonal_points = point (pos 0) (pos 0) ∷ point (pos 1) (pos 0) ∷ point (pos 1) (pos 1) ∷ point (pos 0) (pos 1) ∷ []

-- the unit square with a crease along its diagonal, by the crease's mark; scale 1
abbrev pub crease : Mark → Sheet
crease mark = record {
  images = point (pos 0) (pos 0) ∷ point (pos 1) (pos 0) ∷ point (pos 1) (pos 1) ∷ point (pos 1) (pos 0) ∷ [];
  rings = (0 ∷ 1 ∷ 2 ∷ []) ∷ (0 ∷ 2 ∷ 3 ∷ []) ∷ [];
  up = true ∷ false ∷ [];
  edges = ends 0 1 ∷ ends 1 2 ∷ ends 2 3 ∷ ends 3 0 ∷ ends 0 2 ∷ [];
  sides = sides (Some 0) None ∷ sides (Some 0) None ∷ sides (Some 1) None ∷ sides (Some 1) None ∷ sides (Some 1) (Some 0) ∷ [];
  marks = B ∷ B ∷ B ∷ B ∷ mark ∷ [];
}

abbrev pub crease_m : Sheet
crease_m = crease M

abbrev pub crease_v : Sheet
crease_v = crease V

abbrev pub crease_u : Sheet
crease_u = crease U

abbrev pub crease_points : List Pt
crease_points = unit_points

-- scale 1
abbrev pub strip_vv : Sheet
strip_vv = record {
  images = point (pos 0) (pos 0) ∷ point (pos 1) (pos 0) ∷ point (pos 0) (pos 0) ∷ point (pos 1) (pos 0) ∷ point (pos 0) (pos 1) ∷ point (pos 1) (pos 1) ∷ point (pos 0) (pos 1) ∷ point (pos 1) (pos 1) ∷ [];
  rings = (0 ∷ 1 ∷ 5 ∷ 4 ∷ []) ∷ (1 ∷ 2 ∷ 6 ∷ 5 ∷ []) ∷ (2 ∷ 3 ∷ 7 ∷ 6 ∷ []) ∷ [];
  up = true ∷ false ∷ true ∷ [];
  edges = ends 0 1 ∷ ends 1 2 ∷ ends 2 3 ∷ ends 3 7 ∷ ends 7 6 ∷ ends 6 5 ∷ ends 5 4 ∷ ends 4 0 ∷ ends 1 5 ∷ ends 2 6 ∷ [];
  sides = sides (Some 0) None ∷ sides (Some 1) None ∷ sides (Some 2) None ∷ sides (Some 2) None ∷ sides (Some 2) None ∷ sides (Some 1) None ∷ sides (Some 0) None ∷ sides (Some 0) None ∷ sides (Some 0) (Some 1) ∷ sides (Some 1) (Some 2) ∷ [];
  marks = B ∷ B ∷ B ∷ B ∷ B ∷ B ∷ B ∷ B ∷ V ∷ V ∷ [];
}

abbrev pub strip_vv_points : List Pt
strip_vv_points = point (pos 0) (pos 0) ∷ point (pos 1) (pos 0) ∷ point (pos 2) (pos 0) ∷ point (pos 3) (pos 0) ∷ point (pos 0) (pos 1) ∷ point (pos 1) (pos 1) ∷ point (pos 2) (pos 1) ∷ point (pos 3) (pos 1) ∷ []

-- scale 1
abbrev pub strip_vm : Sheet
strip_vm = record {
  images = point (pos 0) (pos 0) ∷ point (pos 1) (pos 0) ∷ point (pos 0) (pos 0) ∷ point (pos 1) (pos 0) ∷ point (pos 0) (pos 1) ∷ point (pos 1) (pos 1) ∷ point (pos 0) (pos 1) ∷ point (pos 1) (pos 1) ∷ [];
  rings = (0 ∷ 1 ∷ 5 ∷ 4 ∷ []) ∷ (1 ∷ 2 ∷ 6 ∷ 5 ∷ []) ∷ (2 ∷ 3 ∷ 7 ∷ 6 ∷ []) ∷ [];
  up = true ∷ false ∷ true ∷ [];
  edges = ends 0 1 ∷ ends 1 2 ∷ ends 2 3 ∷ ends 3 7 ∷ ends 7 6 ∷ ends 6 5 ∷ ends 5 4 ∷ ends 4 0 ∷ ends 1 5 ∷ ends 2 6 ∷ [];
  sides = sides (Some 0) None ∷ sides (Some 1) None ∷ sides (Some 2) None ∷ sides (Some 2) None ∷ sides (Some 2) None ∷ sides (Some 1) None ∷ sides (Some 0) None ∷ sides (Some 0) None ∷ sides (Some 0) (Some 1) ∷ sides (Some 1) (Some 2) ∷ [];
  marks = B ∷ B ∷ B ∷ B ∷ B ∷ B ∷ B ∷ B ∷ V ∷ M ∷ [];
}

abbrev pub strip_vm_points : List Pt
strip_vm_points = point (pos 0) (pos 0) ∷ point (pos 1) (pos 0) ∷ point (pos 2) (pos 0) ∷ point (pos 3) (pos 0) ∷ point (pos 0) (pos 1) ∷ point (pos 1) (pos 1) ∷ point (pos 2) (pos 1) ∷ point (pos 3) (pos 1) ∷ []

-- scale 1
abbrev pub strip_uu : Sheet
strip_uu = record {
  images = point (pos 0) (pos 0) ∷ point (pos 1) (pos 0) ∷ point (pos 0) (pos 0) ∷ point (pos 1) (pos 0) ∷ point (pos 0) (pos 1) ∷ point (pos 1) (pos 1) ∷ point (pos 0) (pos 1) ∷ point (pos 1) (pos 1) ∷ [];
  rings = (0 ∷ 1 ∷ 5 ∷ 4 ∷ []) ∷ (1 ∷ 2 ∷ 6 ∷ 5 ∷ []) ∷ (2 ∷ 3 ∷ 7 ∷ 6 ∷ []) ∷ [];
  up = true ∷ false ∷ true ∷ [];
  edges = ends 0 1 ∷ ends 1 2 ∷ ends 2 3 ∷ ends 3 7 ∷ ends 7 6 ∷ ends 6 5 ∷ ends 5 4 ∷ ends 4 0 ∷ ends 1 5 ∷ ends 2 6 ∷ [];
  sides = sides (Some 0) None ∷ sides (Some 1) None ∷ sides (Some 2) None ∷ sides (Some 2) None ∷ sides (Some 2) None ∷ sides (Some 1) None ∷ sides (Some 0) None ∷ sides (Some 0) None ∷ sides (Some 0) (Some 1) ∷ sides (Some 1) (Some 2) ∷ [];
  marks = B ∷ B ∷ B ∷ B ∷ B ∷ B ∷ B ∷ B ∷ U ∷ U ∷ [];
}

abbrev pub strip_uu_points : List Pt
strip_uu_points = point (pos 0) (pos 0) ∷ point (pos 1) (pos 0) ∷ point (pos 2) (pos 0) ∷ point (pos 3) (pos 0) ∷ point (pos 0) (pos 1) ∷ point (pos 1) (pos 1) ∷ point (pos 2) (pos 1) ∷ point (pos 3) (pos 1) ∷ []

-- scale 1
abbrev pub strip_uuu : Sheet
strip_uuu = record {
  images = point (pos 0) (pos 0) ∷ point (pos 1) (pos 0) ∷ point (pos 0) (pos 0) ∷ point (pos 1) (pos 0) ∷ point (pos 0) (pos 0) ∷ point (pos 0) (pos 1) ∷ point (pos 1) (pos 1) ∷ point (pos 0) (pos 1) ∷ point (pos 1) (pos 1) ∷ point (pos 0) (pos 1) ∷ [];
  rings = (0 ∷ 1 ∷ 6 ∷ 5 ∷ []) ∷ (1 ∷ 2 ∷ 7 ∷ 6 ∷ []) ∷ (2 ∷ 3 ∷ 8 ∷ 7 ∷ []) ∷ (3 ∷ 4 ∷ 9 ∷ 8 ∷ []) ∷ [];
  up = true ∷ false ∷ true ∷ false ∷ [];
  edges = ends 0 1 ∷ ends 1 2 ∷ ends 2 3 ∷ ends 3 4 ∷ ends 4 9 ∷ ends 9 8 ∷ ends 8 7 ∷ ends 7 6 ∷ ends 6 5 ∷ ends 5 0 ∷ ends 1 6 ∷ ends 2 7 ∷ ends 3 8 ∷ [];
  sides = sides (Some 0) None ∷ sides (Some 1) None ∷ sides (Some 2) None ∷ sides (Some 3) None ∷ sides (Some 3) None ∷ sides (Some 3) None ∷ sides (Some 2) None ∷ sides (Some 1) None ∷ sides (Some 0) None ∷ sides (Some 0) None ∷ sides (Some 0) (Some 1) ∷ sides (Some 1) (Some 2) ∷ sides (Some 2) (Some 3) ∷ [];
  marks = B ∷ B ∷ B ∷ B ∷ B ∷ B ∷ B ∷ B ∷ B ∷ B ∷ U ∷ U ∷ U ∷ [];
}

abbrev pub strip_uuu_points : List Pt
strip_uuu_points = point (pos 0) (pos 0) ∷ point (pos 1) (pos 0) ∷ point (pos 2) (pos 0) ∷ point (pos 3) (pos 0) ∷ point (pos 4) (pos 0) ∷ point (pos 0) (pos 1) ∷ point (pos 1) (pos 1) ∷ point (pos 2) (pos 1) ∷ point (pos 3) (pos 1) ∷ point (pos 4) (pos 1) ∷ []

-- scale 1
abbrev pub strip_fvf : Sheet
strip_fvf = record {
  images = point (pos 0) (pos 0) ∷ point (pos 1) (pos 0) ∷ point (pos 2) (pos 0) ∷ point (pos 1) (pos 0) ∷ point (pos 0) (pos 0) ∷ point (pos 0) (pos 1) ∷ point (pos 1) (pos 1) ∷ point (pos 2) (pos 1) ∷ point (pos 1) (pos 1) ∷ point (pos 0) (pos 1) ∷ [];
  rings = (0 ∷ 1 ∷ 6 ∷ 5 ∷ []) ∷ (1 ∷ 2 ∷ 7 ∷ 6 ∷ []) ∷ (2 ∷ 3 ∷ 8 ∷ 7 ∷ []) ∷ (3 ∷ 4 ∷ 9 ∷ 8 ∷ []) ∷ [];
  up = true ∷ true ∷ false ∷ false ∷ [];
  edges = ends 0 1 ∷ ends 1 2 ∷ ends 2 3 ∷ ends 3 4 ∷ ends 4 9 ∷ ends 9 8 ∷ ends 8 7 ∷ ends 7 6 ∷ ends 6 5 ∷ ends 5 0 ∷ ends 1 6 ∷ ends 2 7 ∷ ends 3 8 ∷ [];
  sides = sides (Some 0) None ∷ sides (Some 1) None ∷ sides (Some 2) None ∷ sides (Some 3) None ∷ sides (Some 3) None ∷ sides (Some 3) None ∷ sides (Some 2) None ∷ sides (Some 1) None ∷ sides (Some 0) None ∷ sides (Some 0) None ∷ sides (Some 0) (Some 1) ∷ sides (Some 1) (Some 2) ∷ sides (Some 2) (Some 3) ∷ [];
  marks = B ∷ B ∷ B ∷ B ∷ B ∷ B ∷ B ∷ B ∷ B ∷ B ∷ F ∷ V ∷ F ∷ [];
}

abbrev pub strip_fvf_points : List Pt
strip_fvf_points = point (pos 0) (pos 0) ∷ point (pos 1) (pos 0) ∷ point (pos 2) (pos 0) ∷ point (pos 3) (pos 0) ∷ point (pos 4) (pos 0) ∷ point (pos 0) (pos 1) ∷ point (pos 1) (pos 1) ∷ point (pos 2) (pos 1) ∷ point (pos 3) (pos 1) ∷ point (pos 4) (pos 1) ∷ []

-- scale 1
abbrev pub strip_212 : Sheet
strip_212 = record {
  images = point (pos 0) (pos 0) ∷ point (pos 2) (pos 0) ∷ point (pos 1) (pos 0) ∷ point (pos 3) (pos 0) ∷ point (pos 0) (pos 1) ∷ point (pos 2) (pos 1) ∷ point (pos 1) (pos 1) ∷ point (pos 3) (pos 1) ∷ [];
  rings = (0 ∷ 1 ∷ 5 ∷ 4 ∷ []) ∷ (1 ∷ 2 ∷ 6 ∷ 5 ∷ []) ∷ (2 ∷ 3 ∷ 7 ∷ 6 ∷ []) ∷ [];
  up = true ∷ false ∷ true ∷ [];
  edges = ends 0 1 ∷ ends 1 2 ∷ ends 2 3 ∷ ends 3 7 ∷ ends 7 6 ∷ ends 6 5 ∷ ends 5 4 ∷ ends 4 0 ∷ ends 1 5 ∷ ends 2 6 ∷ [];
  sides = sides (Some 0) None ∷ sides (Some 1) None ∷ sides (Some 2) None ∷ sides (Some 2) None ∷ sides (Some 2) None ∷ sides (Some 1) None ∷ sides (Some 0) None ∷ sides (Some 0) None ∷ sides (Some 0) (Some 1) ∷ sides (Some 1) (Some 2) ∷ [];
  marks = B ∷ B ∷ B ∷ B ∷ B ∷ B ∷ B ∷ B ∷ V ∷ V ∷ [];
}

abbrev pub strip_212_points : List Pt
strip_212_points = point (pos 0) (pos 0) ∷ point (pos 2) (pos 0) ∷ point (pos 3) (pos 0) ∷ point (pos 5) (pos 0) ∷ point (pos 0) (pos 1) ∷ point (pos 2) (pos 1) ∷ point (pos 3) (pos 1) ∷ point (pos 5) (pos 1) ∷ []

-- scale 1
abbrev pub midlines : Sheet
midlines = record {
  images = point (pos 0) (pos 0) ∷ point (pos 1) (pos 0) ∷ point (pos 0) (pos 0) ∷ point (pos 0) (pos 1) ∷ point (pos 1) (pos 1) ∷ point (pos 0) (pos 1) ∷ point (pos 0) (pos 0) ∷ point (pos 1) (pos 0) ∷ point (pos 0) (pos 0) ∷ [];
  rings = (0 ∷ 1 ∷ 4 ∷ 3 ∷ []) ∷ (1 ∷ 2 ∷ 5 ∷ 4 ∷ []) ∷ (3 ∷ 4 ∷ 7 ∷ 6 ∷ []) ∷ (4 ∷ 5 ∷ 8 ∷ 7 ∷ []) ∷ [];
  up = true ∷ false ∷ false ∷ true ∷ [];
  edges = ends 0 1 ∷ ends 1 2 ∷ ends 2 5 ∷ ends 5 8 ∷ ends 8 7 ∷ ends 7 6 ∷ ends 6 3 ∷ ends 3 0 ∷ ends 1 4 ∷ ends 4 7 ∷ ends 3 4 ∷ ends 4 5 ∷ [];
  sides = sides (Some 0) None ∷ sides (Some 1) None ∷ sides (Some 1) None ∷ sides (Some 3) None ∷ sides (Some 3) None ∷ sides (Some 2) None ∷ sides (Some 2) None ∷ sides (Some 0) None ∷ sides (Some 0) (Some 1) ∷ sides (Some 2) (Some 3) ∷ sides (Some 2) (Some 0) ∷ sides (Some 3) (Some 1) ∷ [];
  marks = B ∷ B ∷ B ∷ B ∷ B ∷ B ∷ B ∷ B ∷ U ∷ U ∷ U ∷ U ∷ [];
}

abbrev pub midlines_points : List Pt
midlines_points = point (pos 0) (pos 0) ∷ point (pos 1) (pos 0) ∷ point (pos 2) (pos 0) ∷ point (pos 0) (pos 1) ∷ point (pos 1) (pos 1) ∷ point (pos 2) (pos 1) ∷ point (pos 0) (pos 2) ∷ point (pos 1) (pos 2) ∷ point (pos 2) (pos 2) ∷ []

-- scale 5
abbrev pub slant : Sheet
slant = record {
  images = point (pos 0) (pos 0) ∷ point (pos 5) (pos 0) ∷ point (negsuc 3) (pos 12) ∷ point (pos 12) (pos 24) ∷ point (pos 15) (pos 20) ∷ point (pos 0) (pos 20) ∷ [];
  rings = (0 ∷ 1 ∷ 4 ∷ 5 ∷ []) ∷ (1 ∷ 2 ∷ 3 ∷ 4 ∷ []) ∷ [];
  up = true ∷ false ∷ [];
  edges = ends 0 1 ∷ ends 1 2 ∷ ends 2 3 ∷ ends 3 4 ∷ ends 4 5 ∷ ends 5 0 ∷ ends 1 4 ∷ [];
  sides = sides (Some 0) None ∷ sides (Some 1) None ∷ sides (Some 1) None ∷ sides (Some 1) None ∷ sides (Some 0) None ∷ sides (Some 0) None ∷ sides (Some 0) (Some 1) ∷ [];
  marks = B ∷ B ∷ B ∷ B ∷ B ∷ B ∷ V ∷ [];
}

abbrev pub slant_points : List Pt
slant_points = point (pos 0) (pos 0) ∷ point (pos 1) (pos 0) ∷ point (pos 4) (pos 0) ∷ point (pos 4) (pos 4) ∷ point (pos 3) (pos 4) ∷ point (pos 0) (pos 4) ∷ []
