-- Faces on one side of an edge lie left of the way to its second end, or left of the way back.
use Rattle.std.proofs.Common.{◌≡◌, ℕ, refl, ◌∙◌, ap, arith, ℤ, pos, Bool, ◌&&◌, ◌||◌, List, [], ◌∷◌}
use Rattle.std.specs.Prelude.{int_le, neg_ℤ}
use Rattle.std.specs.List.{list_all}
use Rattle.std.proofs.lemmas.Int.{ints}
use Rattle.ff_whole.specs.declared.points.Pt.{Pt}
use Rattle.ff_whole.specs.Places.{place_of, through, height}
use Rattle.ff_whole.specs.Convex.{point_at}
use Rattle.ff_whole.proofs.Turns.{height-back}
use Rattle.ff_types.specs.Faces.{ring_at}
use Rattle.ff_types.specs.Sheets.{Sheet, tail, head}
use Rattle.ff_types.specs.Cites.{on_one_side}
use Rattle.ff_edges.specs.Ways.{are_left, are_right}
use Rattle.ff_tacos.specs.Making.{are_all_left}

all_same : {X : Type 0} (s t : X → Bool) (xs : List X) → ((x : X) → s x ≡ t x) → list_all s xs ≡ list_all t xs
all_same s t [] h = refl
all_same s t (x ∷ xs) h = ap (λ b. b && list_all s xs) (h x) ∙ ap (λ b. t x && b) (all_same s t xs h)

at_most : (z : ℤ) → int_le (pos 0) (neg_ℤ z) ≡ int_le z (pos 0)
at_most z = grind (arith, ints)

back_is_right : (points : List Pt) (p q : Pt) (ring : List ℕ)
    → are_left points q p ring ≡ are_right points p q ring
back_is_right points p q ring =
    all_same _ _ ring (λ v. ap (λ z. int_le (pos 0) z) (height-back p q (place_of (point_at points v)))
    ∙ at_most (height (through p q) (place_of (point_at points v))))

pub side_is : (g : Sheet) (e : ℕ) (p q : Pt) (faces : List ℕ) → p ≡ tail g e → q ≡ head g e
    → are_all_left g p q faces || are_all_left g q p faces ≡ on_one_side g e faces
side_is g e p q faces a b =
    ap (λ x. are_all_left g p q faces || x)
    (all_same _ _ faces (λ f. back_is_right g.images p q (ring_at g.rings f)))
    ∙ (λ i. list_all (λ f. are_left g.images (a i) (b i) (ring_at g.rings f)) faces
    || list_all (λ f. are_right g.images (a i) (b i) (ring_at g.rings f)) faces)
