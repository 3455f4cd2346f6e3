-- That small lists of images are a folding, by computing.
use Rattle.std.proofs.Common.{◌≡◌, ℕ, zero, suc, ◌<◌, ◌==◌, ℤ, pos, negsuc, ◌*ℤ◌, Bool, true, false, not, ◌&&◌, List, length, refl, ◌∙◌, ap, subst, Some, Option, arith, IsTrue}
use Rattle.std.specs.Ordering.{int_eq}
use Rattle.std.proofs.lemmas.Int.{ints}
use Rattle.std.proofs.lemmas.Bool.{false≢true, eqb-true}
use Rattle.std.proofs.lemmas.Bool.Decides.{Decides-int_eq}
use Rattle.ff_basics.proofs.Tests.{both_of}
use Rattle.ff_whole.specs.declared.points.Pt.{Pt}
use Rattle.ff_whole.specs.Points.{turn}
use Rattle.ff_whole.specs.Convex.{point_at}
use Rattle.ff_types.specs.declared.patterns.Mark.{Mark}
use Rattle.ff_types.specs.declared.patterns.Mark.TheVariants.{B, M, V, F, U}
use Rattle.ff_types.specs.declared.faces.EdgeSides.{EdgeSides}
use Rattle.ff_types.specs.Rings.{corner, corners}
use Rattle.ff_types.specs.Faces.{ring_at, mark_at}
use Rattle.ff_types.specs.Sides.{sides_at}
use Rattle.ff_types.specs.Foldings.{IsFolding, RingKeepsShape, DividesAll, FitFlags, is_up, signed, scaled, spread}
use Rattle.ff_types.proofs.Computing.{all_below, below, below_two, is_pos, positive, same_point}

equal : (a b : ℤ) → IsTrue (int_eq a b) → a ≡ b
equal a b t = (Decides-int_eq a b).0 t

equal_points : (p q : Pt) → IsTrue (same_point p q) → p ≡ q
equal_points p q t = let b = both_of (int_eq p.x q.x) (int_eq p.y q.y) t in points p.x p.y q.x q.y (equal _ _ b.0) (equal _ _ b.1) where
  points : (a b c d : ℤ) → a ≡ c → b ≡ d → ◌≡◌ {A = Pt} (record { x = a; y = b }) (record { x = c; y = d })
  points a b c d e f = ap (λ x. record { x = x; y = b }) e ∙ ap (λ y. record { x = c; y = y }) f

abbrev pub keeps_shape : ℤ → Bool → Pt → Pt → Pt → Pt → Pt → Pt → Bool
keeps_shape scale up p q r u v w = int_eq (spread u v w) ((scale *ℤ scale) *ℤ spread p q r) && int_eq (turn u v w) (signed up ((scale *ℤ scale) *ℤ turn p q r))

abbrev pub ring_keeps : ℤ → Bool → List Pt → List Pt → Bool
ring_keeps scale up ring image = all_below (length ring) (λ i. all_below (length ring) (λ j. all_below (length ring) (λ k.
    keeps_shape scale up (point_at ring i) (point_at ring j) (point_at ring k) (point_at image i) (point_at image j) (point_at image k))))

kept : (scale : ℤ) (up : Bool) (ring image : List Pt) → IsTrue (ring_keeps scale up ring image) → RingKeepsShape scale up ring image
kept scale up ring image t i j k h l m =
    let a = below_two (length ring) (length ring) (λ i j. all_below (length ring) (λ k. keeps_shape scale up (point_at ring i) (point_at ring j) (point_at ring k) (point_at image i) (point_at image j) (point_at image k))) t i j h l in
    let b = both_of _ _ (below (length ring) (λ k. keeps_shape scale up (point_at ring i) (point_at ring j) (point_at ring k) (point_at image i) (point_at image j) (point_at image k)) a k m) in
    record { dots = equal _ _ b.0; crosses = equal _ _ b.1 }

abbrev pub like : Bool → Bool → Bool
like true b = b
like false b = not b

abbrev pub fits_flags : Mark → Bool → Bool → Bool
fits_flags B a b = true
fits_flags F a b = like a b
fits_flags _ a b = not (like a b)

alike : (a b : Bool) → IsTrue (like a b) → a ≡ b
alike true true t = refl
alike true false t = absurd (false≢true t)
alike false true t = absurd (false≢true t)
alike false false t = refl

unlike : (a b : Bool) → IsTrue (not (like a b)) → a ≡ not b
unlike true true t = absurd (false≢true t)
unlike true false t = refl
unlike false true t = refl
unlike false false t = absurd (false≢true t)

flags : (m : Mark) (a b : Bool) → IsTrue (fits_flags m a b) → FitFlags m a b
flags B a b t = tt
flags M a b t = unlike a b t
flags V a b t = unlike a b t
flags F a b t = alike a b t
flags U a b t = unlike a b t

abbrev pub edge_fits : Mark → List Bool → Option ℕ → Option ℕ → Bool
edge_fits m up (Some f) (Some g) = fits_flags m (is_up up f) (is_up up g)
edge_fits m up _ _ = true

edge_flags : (m : Mark) (up : List Bool) (l r : Option ℕ) (f g : ℕ) → IsTrue (edge_fits m up l r) → l ≡ Some f → r ≡ Some g → FitFlags m (is_up up f) (is_up up g)
edge_flags m up l r f g t a b = flags m (is_up up f) (is_up up g) (subst (λ x. IsTrue (edge_fits m up (Some f) x)) b (subst (λ x. IsTrue (edge_fits m up x r)) a t))

abbrev pub is_folding : List Pt → List (List ℕ) → List EdgeSides → List Mark → ℤ → List Pt → List Bool → Bool
is_folding points rings sides marks scale images up = is_pos scale && ((length images == length points) && ((length up == length rings) && (is_up up 0
    && (all_below (length (ring_at rings 0)) (λ i. same_point (point_at images (corner (ring_at rings 0) i)) (scaled scale (point_at points (corner (ring_at rings 0) i))))
    && (all_below (length rings) (λ f. ring_keeps scale (is_up up f) (corners points (ring_at rings f)) (corners images (ring_at rings f)))
    && all_below (length sides) (λ e. edge_fits (mark_at marks e) up (sides_at sides e).left (sides_at sides e).right))))))

pub folding : (points : List Pt) (rings : List (List ℕ)) (sides : List EdgeSides) (marks : List Mark) (scale : ℤ) (images : List Pt) (up : List Bool)
    → IsTrue (is_folding points rings sides marks scale images up) → ((d : ℕ) → 1 < d → DividesAll d scale images → ⊥) → IsFolding points rings sides marks scale images up
folding points rings sides marks scale images up t least =
    let a = both_of _ _ t in
    let b = both_of _ _ a.1 in
    let c = both_of _ _ b.1 in
    let d = both_of _ _ c.1 in
    let e = both_of _ _ d.1 in
    let f = both_of _ _ e.1 in
    record {
      positive = let h = positive scale a.0 in omega (arith, ints);
      as_many_points = eqb-true _ _ b.0;
      as_many_flags = eqb-true _ _ c.0;
      first_up = d.0;
      first_stays = λ i h. equal_points _ _ (below (length (ring_at rings 0)) (λ i. same_point (point_at images (corner (ring_at rings 0) i)) (scaled scale (point_at points (corner (ring_at rings 0) i)))) e.0 i h);
      shapes = λ k h. kept scale (is_up up k) (corners points (ring_at rings k)) (corners images (ring_at rings k)) (below (length rings) (λ f. ring_keeps scale (is_up up f) (corners points (ring_at rings f)) (corners images (ring_at rings f))) f.0 k h);
      flags = λ k g h l x y. edge_flags (mark_at marks k) up (sides_at sides k).left (sides_at sides k).right g h (below (length sides) (λ e. edge_fits (mark_at marks e) up (sides_at sides e).left (sides_at sides e).right) f.1 k l) x y;
      least = least;
    }

-- no number above 1 divides 1
pub one_has_no_factor : (d : ℕ) (k : ℤ) → 1 < d → pos 1 ≡ pos d *ℤ k → ⊥
one_has_no_factor d (pos zero) h e = omega (arith, ints, e)
one_has_no_factor d (pos (suc n)) h e = omega (arith, ints, e, h)
one_has_no_factor d (negsuc n) h e = omega (arith, ints, e, h)

pub least_one : (images : List Pt) (d : ℕ) → 1 < d → DividesAll d (pos 1) images → ⊥
least_one images d h a = one_has_no_factor d a.scale_too.0 h a.scale_too.1
