-- A refusal leaves no folding: none at all, or none with near points.
use Rattle.std.proofs.Common.{◌≡◌, ℕ, zero, suc, ◌<◌, inl, inr, arith, refl, sym, ap, ◌∙◌, subst, Bool, List, [], ◌∷◌, length, map, slice_get, Some, None, ℤ, pos, negsuc, ◌*ℤ◌, ◌<ℤ◌}
use Rattle.std.proofs.lemmas.Int.{ints}
use Rattle.std.proofs.lemmas.Bool.{false≢true}
use Rattle.std.proofs.lemmas.List.{get_or_past}
use Rattle.std.proofs.lemmas.List.Elements.{Contains-append_cases}
use Rattle.std.specs.List.{Contains}
use Rattle.ff_basics.proofs.Memberships.{first_member, in_map, later_member, no_member}
use Rattle.ff_whole.specs.declared.points.Pt.{Pt}
use Rattle.ff_whole.specs.declared.places.Place.{Place}
use Rattle.ff_whole.specs.Convex.{point_at}
use Rattle.ff_types.specs.declared.refusals.Refusal.{Refusal}
use Rattle.ff_types.specs.declared.refusals.Refusal.TheVariants.{Parity, Inconsistent, Oversized}
use Rattle.ff_types.specs.Faces.{ring_at}
use Rattle.ff_types.specs.Foldings.{AreNear}
use Rattle.ff_types.specs.FoldRefusals.{placings, IsTornAt, IsNearAt, IsTooFarAt, ArePlaced}
use Rattle.ff_reflect.specs.Images.{IsAt}
use Rattle.ff_reflect.specs.Sheets.{Paper, paper_of, HasFaces}
use Rattle.ff_reflect.specs.Folding.{Excludes, HasNoNearFolding}
use Rattle.ff_reflect.specs.Laws.{RefusedDontFold}
use Rattle.ff_types.specs.declared.patterns.Pattern.{Pattern}
use Rattle.ff_types.specs.declared.faces.Faces.{Faces}
use Rattle.ff_reflect.proofs.Cases.{by_below}
use Rattle.ff_reflect.proofs.Foldings.{Folds, folds_carried, same_from_at, broken_folds_not, place_in}

-- ---- placings

pub get_member : {A : Type 0} (xs : List A) (i : ℕ) (x : A) → slice_get xs i ≡ Some x → Contains xs x
get_member [] i x e = absurd (let n : None ≡ Some x = e in cc)
get_member (y ∷ xs) zero x e = first_member y xs x (let n : Some y ≡ Some x = e in cc)
get_member (y ∷ xs) (suc i) x e = later_member y xs x (get_member xs i x e)

-- each placing is of a corner of a face of the order
pub in_placings : (rings : List (List ℕ)) (order : List ℕ) (p : ℕ × ℕ) → Contains (placings rings order) p → Contains order p.0 × Contains (ring_at rings p.0) p.1
in_placings rings [] p c = absurd (no_member p c)
in_placings rings (f ∷ order) p c = elim (Contains-append_cases (map (λ v. (f, v)) (ring_at rings f)) (placings rings order) p c) [
  | inl k ↦
      let r = in_map (λ v. (f, v)) (ring_at rings f) p k in
      let face : f ≡ p.0 = ap (λ (q : ℕ × ℕ). q.0) r.2 in
      let vertex : r.0 ≡ p.1 = ap (λ (q : ℕ × ℕ). q.1) r.2 in
      (first_member f order p.0 face, subst (λ v. Contains (ring_at rings p.0) v) vertex (subst (λ g. Contains (ring_at rings g) r.0) face r.1))
  | inr k ↦ let r = in_placings rings order p k in (later_member f order p.0 r.0, r.1)
]

-- a ring with a corner is a face's, and its corner is a vertex
pub face_there : (rings : List (List ℕ)) (f v : ℕ) → Contains (ring_at rings f) v → f < length rings
face_there rings f v c = by_below f (length rings) (λ l. l) (λ l. absurd (no_member v (subst (λ ring. Contains ring v) (get_or_past rings f [] l) c)))

pub corner_there : (paper : Paper) → HasFaces paper → (f v : ℕ) → Contains (ring_at paper.rings f) v → v < length paper.points
corner_there paper h f v c =
    let a = h.faces in let r = a.rings_are in
    let ring = r.each f (face_there paper.rings f v c) in
    let i = place_in (ring_at paper.rings f) v c in
    subst (λ n. n < length paper.points) i.2 (ring.there i.0 i.1)

-- ---- refusals

-- a folding of what is placed has each placed vertex there
pub placed_at : (paper : Paper) (order : List ℕ) (up : List Bool) (carried : ℕ → ℕ → Place) → HasFaces paper
    → ArePlaced paper.points paper.rings paper.edges paper.sides paper.marks order up carried
    → (scale : ℤ) (images : List Pt) (flags : List Bool) → Folds paper scale images flags
    → (i : ℕ) (p : ℕ × ℕ) → slice_get (placings paper.rings order) i ≡ Some p → IsAt scale (carried p.0 p.1) (point_at images p.1)
placed_at paper order up carried h placed scale images flags fold i p e =
    let c = in_placings paper.rings order p (get_member (placings paper.rings order) i p e) in
    folds_carried paper order up carried (record { has_faces = h; in_order = placed.in_order }) placed.flags placed.carried_so scale images flags fold p.0 c.0 p.1 c.1

pub torn_folds_not : (paper : Paper) (order : List ℕ) (up : List Bool) (carried : ℕ → ℕ → Place) → HasFaces paper
    → ArePlaced paper.points paper.rings paper.edges paper.sides paper.marks order up carried
    → (i : ℕ) (p : ℕ × ℕ) → IsTornAt (placings paper.rings order) carried i p
    → (scale : ℤ) (images : List Pt) (flags : List Bool) → Folds paper scale images flags → ⊥
torn_folds_not paper order up carried h placed i p torn scale images flags fold =
    let home = torn.is_home in
    let positive : pos 0 <ℤ scale = (let p = fold.positive in omega (arith, ints)) in
    let a = placed_at paper order up carried h placed scale images flags fold torn.home torn.at_home home.0 in
    let b = placed_at paper order up carried h placed scale images flags fold i p torn.there in
    let a' = subst (λ v. IsAt scale (carried torn.at_home.0 torn.at_home.1) (point_at images v)) torn.same_vertex a in
    false≢true (sym torn.torn ∙ same_from_at scale _ _ (point_at images p.1) positive a' b)

pub far_folds_not : (paper : Paper) (order : List ℕ) (up : List Bool) (carried : ℕ → ℕ → Place) → HasFaces paper
    → ArePlaced paper.points paper.rings paper.edges paper.sides paper.marks order up carried
    → (i : ℕ) (p : ℕ × ℕ) → IsTooFarAt (placings paper.rings order) carried i p
    → (scale : ℤ) (images : List Pt) (flags : List Bool) → Folds paper scale images flags → AreNear images → ⊥
far_folds_not paper order up carried h placed i p far scale images flags fold near = by scale refl where
  near_at : (n : ℕ) → scale ≡ pos n → (q : ℕ × ℕ) (j : ℕ) → slice_get (placings paper.rings order) j ≡ Some q → IsNearAt n (carried q.0 q.1)
  near_at n e q j there =
      let at = placed_at paper order up carried h placed scale images flags fold j q there in
      let c = in_placings paper.rings order q (get_member (placings paper.rings order) j q there) in
      (point_at images q.1, near q.1 (subst (λ m. q.1 < m) (sym fold.as_many_points) (corner_there paper h q.0 q.1 c.1)), subst (λ z. z *ℤ (carried q.0 q.1).x ≡ (carried q.0 q.1).w *ℤ (point_at images q.1).x) e at.x, subst (λ z. z *ℤ (carried q.0 q.1).y ≡ (carried q.0 q.1).w *ℤ (point_at images q.1).y) e at.y)

  by : (z : ℤ) → scale ≡ z → ⊥
  by (pos n) e = far.far_away n (let q = fold.positive in omega (arith, ints), λ j q l home. near_at n e q j home.0)
  by (negsuc n) e = let q = fold.positive in omega (arith, ints)

-- what a refusal excludes
pub refused_excludes : RefusedDontFold
refused_excludes p faces h (Parity e) (order, up, in_order, flags, broken) = λ scale images ups fold.
    broken_folds_not (paper_of p faces) order up (record { has_faces = h; in_order = in_order }) flags e broken scale images ups fold
refused_excludes p faces h (Inconsistent v) (order, up, carried, placed, (i, q, goes, torn, is)) = λ scale images ups fold.
    torn_folds_not (paper_of p faces) order up carried h placed i q torn scale images ups fold
refused_excludes p faces h (Oversized v) (order, up, carried, placed, (i, q, goes, far, is)) = λ scale images ups fold near.
    far_folds_not (paper_of p faces) order up carried h placed i q far scale images ups fold near
refused_excludes p faces h r nothing = absurd nothing

-- in each case a folding with near points
pub none_near : (p : Pattern) (faces : Faces) (r : Refusal) → Excludes p faces r → HasNoNearFolding p faces
none_near p faces (Parity e) none = λ scale images up fold near. none scale images up fold
none_near p faces (Inconsistent v) none = λ scale images up fold near. none scale images up fold
none_near p faces (Oversized v) none = none
none_near p faces r none = absurd none
