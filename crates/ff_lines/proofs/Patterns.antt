-- The drawing of lines is a crease pattern within the limits.
use Rattle.std.proofs.Common.{◌≡◌, inl, inr, ℕ, ◌<◌, ◌≤◌, arith, sym, ap, ◌∙◌, subst, List, length, slice_get, get_or, Some}
use Rattle.std.specs.List.{All}
use Rattle.std.proofs.lemmas.Option.{slice_get_within, slice_get-get_or, get_or_from_slice_get}
use Rattle.std.proofs.lemmas.List.Elements.{All-from_get_or, All-get_or}
use Rattle.ff_basics.proofs.Numbers.{less_or}
use Rattle.ff_basics.proofs.Options.{some_same}
use Rattle.ff_whole.specs.declared.points.Pt.{Pt}
use Rattle.ff_whole.specs.Points.{IsNear, origin}
use Rattle.ff_types.specs.declared.limits.TheConstants.{MOST_EDGES, MOST_VERTICES}
use Rattle.ff_types.specs.declared.patterns.EdgeEnds.{EdgeEnds}
use Rattle.ff_types.specs.declared.patterns.Mark.{Mark}
use Rattle.ff_types.specs.declared.patterns.Mark.TheVariants.{B}
use Rattle.ff_types.specs.Patterns.{IsPattern, edge_at}
use Rattle.ff_lines.specs.declared.items.LineItem.{LineItem}
use Rattle.ff_lines.specs.Lines.{IsProper}
use Rattle.ff_lines.specs.Drawings.{AreEdges, AreVertices}
use Rattle.ff_lines.proofs.Ordered.{near_at}

pub proper_at : (lines : List LineItem) → All IsProper lines → (i : ℕ) (l : LineItem) → slice_get lines i ≡ Some l → IsProper l
proper_at lines all i l there = subst IsProper (get_or_from_slice_get lines i l l there) (All-get_or IsProper lines i l (slice_get_within lines i l there) all)

pub all_near : (lines : List LineItem) → All IsProper lines → (points : List Pt) → AreVertices lines points → All IsNear points
all_near lines all points vertices = All-from_get_or IsNear points origin (λ i l. near_at lines (proper_at lines all) points vertices i l)

module _ (lines : List LineItem) (all : All IsProper lines) (points : List Pt) (edges : List EdgeEnds) (marks : List Mark)
    (vertices : AreVertices lines points) (h : AreEdges lines points edges marks) where
  ordered : (e : ℕ) → e < length edges → ((edge_at edges e).a < (edge_at edges e).b) × ((edge_at edges e).b < length points)
  ordered e l =
      let m : e < length marks = (let n = h.as_many in omega (arith, l, n)) in
      let p = (h.pieces (edge_at edges e).a (edge_at edges e).b (get_or marks e B)).1 (e, slice_get-get_or edges e (record { a = 0; b = 0 }) l, slice_get-get_or marks e B m) in
      (p.0, p.1)

  apart : (e k : ℕ) → e < k → k < length edges → (edge_at edges e).a ≡ (edge_at edges k).a → (edge_at edges e).b ≡ (edge_at edges k).b → ⊥
  apart e k l m x y = elim (h.rise e k l m) [ inl less ↦ omega (arith, less, x) | inr same ↦ (let s = same.1 in omega (arith, s, y)) ]

  pub is_pattern : length points ≤ MOST_VERTICES → length edges ≤ MOST_EDGES → IsPattern points edges (Some marks)
  is_pattern few few_too = record {
    few_points = few;
    few_edges = few_too;
    near = near_at lines (proper_at lines all) points vertices;
    joins = λ e l. (let o = ordered e l in let a = o.0 in let b = o.1 in record { first = omega (arith, a, b); second = b; differ = λ s. omega (arith, a, s) });
    once = λ e k l m x y. elim (less_or e k) [
      | inl less ↦ absurd (apart e k less m x y)
      | inr j ↦ elim j [ inl s ↦ s | inr more ↦ absurd (apart k e more l (sym x) (sym y)) ]
    ];
    once_back = λ e k l m x y. (let a = (ordered e l).0 in let b = (ordered k m).0 in omega (arith, a, b, x, y));
    marked = λ ms s. ap length (sym (some_same s)) ∙ h.as_many;
  }
