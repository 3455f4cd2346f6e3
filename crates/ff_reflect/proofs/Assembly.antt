-- From the walk and the flags to the placing, and what refusals exclude.
use Rattle.std.proofs.Common.{◌≡◌, ◌∙◌, ℕ, ◌<◌, List, [], ◌∷◌, length, Bool, refl, sym, ap, subst, slice_index_or, ℤ}
use Rattle.std.proofs.lemmas.List.{get_or_past, get_or_read}
use Rattle.std.specs.List.{Contains}
use Rattle.ff_whole.specs.declared.points.Pt.{Pt}
use Rattle.ff_whole.specs.Points.{origin, IsNear}
use Rattle.ff_types.specs.declared.patterns.Mark.{Mark}
use Rattle.ff_types.specs.declared.patterns.Pattern.{Pattern}
use Rattle.ff_types.specs.declared.faces.Faces.{Faces}
use Rattle.ff_types.specs.declared.refusals.No.{No}
use Rattle.ff_types.specs.declared.refusals.No.TheVariants.{Refused, NoMemory}
use Rattle.ff_types.specs.declared.refusals.Refusal.{Refusal}
use Rattle.ff_types.specs.declared.refusals.Refusal.TheVariants.{Parity}
use Rattle.ff_types.specs.Faces.{ring_at}
use Rattle.ff_types.specs.Placing.{Meeting, AreFlags, IsFirstBroken}
use Rattle.ff_types.specs.FoldRefusals.{placings, RefusesFolding}
use Rattle.ff_whole.specs.Sizes.{IsBelow as IsSmall}
use Rattle.ff_whole.specs.declared.sizes.TheConstants.{SLOPE_SIZE}
use Rattle.ff_types.specs.Foldings.{IsFolding, AreNear}
use Rattle.ff_reflect.specs.declared.placed.Placed.{Placed}
use Rattle.ff_reflect.specs.declared.walk.Meeting.{Meeting as CodeMeeting}
use Rattle.ff_reflect.specs.declared.walk.Walk.{Walk}
use Rattle.ff_reflect.specs.Sheets.{Paper, paper_of, HasFaces}
use Rattle.ff_reflect.specs.Trees.{first_meetings, order_along, AreBelow}
use Rattle.ff_reflect.specs.Walked.{met_of, IsTree}
use Rattle.ff_reflect.specs.Flags.{AreTreeFlags, NoneBroken}
use Rattle.ff_reflect.specs.Puts.{AreNearPoints}
use Rattle.ff_reflect.specs.Standing.{IsReady, IsStanding}
use Rattle.ff_reflect.specs.Folding.{IsRefused, WhyNoFolding, WhyNotPlaced}
use Rattle.ff_reflect.proofs.Cases.{by_below}
use Rattle.ff_reflect.proofs.Orders.{all_of}
use Rattle.ff_reflect.proofs.Foldings.{known, broken_folds_not}
use Rattle.ff_reflect.proofs.Refused.{get_member, refused_excludes}
use Rattle.ff_reflect.proofs.Taken.{tree_orders}
use Rattle.ff_reflect.proofs.Turned.{tree_flags}
use Rattle.ff_reflect.proofs.Carry.{parent_of}
use Rattle.ff_reflect.proofs.Stops.{near_origin}
use Rattle.ff_reflect.proofs.Whole.{all_folded}

-- ---- the faces and edges of meetings are there

pub met_below : (paper : Paper) (met tree : List Meeting) → HasFaces paper → IsTree paper met tree → AreBelow (length paper.rings) (length paper.marks) met
met_below paper met tree h t i m e =
    let k = known paper (order_along tree) h m (subst (λ ms. Contains ms m) t.all (get_member met i m e)) in
    let b = k.faces in
    let a = h.faces in
    record { face = b.first; across = b.second; edge = subst (λ n. m.edge < n) (sym a.as_many_marks) k.edge }

pub tree_below : (paper : Paper) (met tree : List Meeting) → HasFaces paper → IsTree paper met tree → AreBelow (length paper.rings) (length paper.marks) tree
tree_below paper met tree h t i m e =
    let p = parent_of met tree m t.first (get_member tree i m e) in met_below paper met tree h t p.0 m p.1.0

-- ---- ready to place

pub ready_of : (paper : Paper) (met tree : List Meeting) (up : List Bool) → HasFaces paper → IsTree paper met tree → AreTreeFlags (length paper.rings) paper.marks tree up → NoneBroken met paper.marks up → IsReady paper tree up
ready_of paper met tree up h t f n = record {
  has_faces = h;
  tree_is = record { all = refl; first = t.first ∙ ap (first_meetings (0 ∷ [])) t.all; grows = t.grows };
  flags = subst (λ ms. AreFlags ms paper.marks up) t.all (tree_flags (length paper.rings) paper.marks met tree up t.first f);
  whole = subst (λ ms. NoneBroken ms paper.marks up) t.all n;
  as_many = f.as_many;
}

-- all points of a drawing are near, and what stands past them
pub drawing_near : (paper : Paper) → HasFaces paper → AreNearPoints paper.points
drawing_near paper h u = by_below u (length paper.points) (λ l. let d = h.drawing in d.near u l) (λ l. subst IsNear (sym (get_or_past paper.points u origin l)) near_origin)

-- ---- refusals

pub parity_refused : (pattern : Pattern) (faces : Faces) (met tree : List Meeting) (up : List Bool) (e : ℕ) → HasFaces (paper_of pattern faces) → IsTree (paper_of pattern faces) met tree
    → AreTreeFlags (length faces.rings) faces.marks tree up → IsFirstBroken met faces.marks up e → IsRefused pattern faces (Parity e)
parity_refused pattern faces met tree up e h t f b =
    let paper = paper_of pattern faces in
    let flags : AreFlags (all_of paper (order_along tree)) faces.marks up = subst (λ ms. AreFlags ms faces.marks up) t.all (tree_flags (length faces.rings) faces.marks met tree up t.first f) in
    let broken : IsFirstBroken (all_of paper (order_along tree)) faces.marks up e = subst (λ ms. IsFirstBroken ms faces.marks up e) t.all b in
    let order = tree_orders paper met tree t in
    record {
      stop = (order_along tree, up, order, flags, broken);
      none = λ scale images flagged fold. broken_folds_not paper (order_along tree) up (record { has_faces = h; in_order = order }) flags e broken scale images flagged fold;
    }

pub refused : (pattern : Pattern) (faces : Faces) (r : Refusal) → HasFaces (paper_of pattern faces) → RefusesFolding pattern.points faces.rings pattern.edges faces.sides faces.marks r → IsRefused pattern faces r
refused pattern faces r h w = record { stop = w; none = refused_excludes pattern faces h r w }

pub why_not : (pattern : Pattern) (faces : Faces) (n : No) → HasFaces (paper_of pattern faces) → WhyNotPlaced pattern faces n → WhyNoFolding pattern faces n
why_not pattern faces (Refused r) h w = refused pattern faces r h w
why_not pattern faces NoMemory h w = tt

-- the ring of face 0, as it was read
pub first_ring : (paper : Paper) (rings : List (List ℕ)) (read ring : List ℕ) → 0 < length paper.rings → rings ≡ paper.rings → read ≡ slice_index_or rings 0 read → ring ≡ read → ring ≡ ring_at paper.rings 0
first_ring paper rings read ring some er e same = same ∙ get_or_read rings 0 read (subst (λ rs. 0 < length rs) (sym er) some) e [] ∙ ap (λ rs. ring_at rs 0) er

-- ---- as the code has them

pub below_read : (faces edges : ℕ) (rings : List (List ℕ)) (marks : List Mark) (list items : List CodeMeeting) → length rings ≡ faces → length marks ≡ edges → list ≡ items
    → AreBelow faces edges (met_of items) → AreBelow (length rings) (length marks) (met_of list)
below_read faces edges rings marks list items er em el h = subst (λ n. AreBelow n (length marks) (met_of list)) (sym er) (subst (λ n. AreBelow faces n (met_of list)) (sym em) (subst (λ ms. AreBelow faces edges (met_of ms)) (sym el) h))

-- what the walk and the flags gave, and what was read of it
pub record AreRead (pattern : Pattern) (faces : Faces) (walk : Walk) (up : List Bool) (rings : List (List ℕ)) (marks : List Mark) (met tree : List CodeMeeting) (flags : List Bool) : Type 0 where
  pub rings_are : rings ≡ faces.rings
  pub marks_are : marks ≡ faces.marks
  pub met_is : met ≡ walk.met.items
  pub tree_is : tree ≡ walk.tree.items
  pub flags_are : flags ≡ up

pub parity_read : (pattern : Pattern) (faces : Faces) (walk : Walk) (up : List Bool) (rings : List (List ℕ)) (marks : List Mark) (met tree : List CodeMeeting) (flags : List Bool) (e : ℕ) → AreRead pattern faces walk up rings marks met tree flags
    → HasFaces (paper_of pattern faces) → IsTree (paper_of pattern faces) (met_of walk.met.items) (met_of walk.tree.items)
    → AreTreeFlags (length rings) marks (met_of tree) up → IsFirstBroken (met_of met) marks flags e → IsRefused pattern faces (Parity e)
parity_read pattern faces walk up rings marks met tree flags e r h t f b =
    parity_refused pattern faces (met_of walk.met.items) (met_of walk.tree.items) up e h t
    (subst (λ rs. AreTreeFlags (length rs) faces.marks (met_of walk.tree.items) up) r.rings_are (subst (λ ms. AreTreeFlags (length rings) ms (met_of walk.tree.items) up) r.marks_are (subst (λ ms. AreTreeFlags (length rings) marks (met_of ms) up) r.tree_is f)))
    (subst (λ bs. IsFirstBroken (met_of walk.met.items) faces.marks bs e) r.flags_are (subst (λ ms. IsFirstBroken (met_of walk.met.items) ms flags e) r.marks_are (subst (λ ms. IsFirstBroken (met_of ms) marks flags e) r.met_is b)))

pub ready_read : (pattern : Pattern) (faces : Faces) (walk : Walk) (up : List Bool) (rings : List (List ℕ)) (marks : List Mark) (met tree : List CodeMeeting) (flags : List Bool) → AreRead pattern faces walk up rings marks met tree flags
    → HasFaces (paper_of pattern faces) → IsTree (paper_of pattern faces) (met_of walk.met.items) (met_of walk.tree.items)
    → AreTreeFlags (length rings) marks (met_of tree) up → NoneBroken (met_of met) marks flags → IsReady (paper_of pattern faces) (met_of walk.tree.items) up
ready_read pattern faces walk up rings marks met tree flags r h t f n =
    ready_of (paper_of pattern faces) (met_of walk.met.items) (met_of walk.tree.items) up h t
    (subst (λ rs. AreTreeFlags (length rs) faces.marks (met_of walk.tree.items) up) r.rings_are (subst (λ ms. AreTreeFlags (length rings) ms (met_of walk.tree.items) up) r.marks_are (subst (λ ms. AreTreeFlags (length rings) marks (met_of ms) up) r.tree_is f)))
    (subst (λ bs. NoneBroken (met_of walk.met.items) faces.marks bs) r.flags_are (subst (λ ms. NoneBroken (met_of walk.met.items) ms flags) r.marks_are (subst (λ ms. NoneBroken (met_of ms) marks flags) r.met_is n)))

pub folding_read : (pattern : Pattern) (faces : Faces) (tree : List Meeting) (up : List Bool) (s : Placed) (scale : ℤ) (points : List Pt) (flags : List Bool) → IsReady (paper_of pattern faces) tree up
    → IsStanding (paper_of pattern faces) tree up (placings faces.rings (order_along tree)) s → scale ≡ s.scale → points ≡ s.points.items → flags ≡ up
    → IsFolding pattern.points faces.rings faces.sides faces.marks scale points flags × AreNear points
folding_read pattern faces tree up s scale points flags r h es ep ef =
    let a = all_folded (paper_of pattern faces) tree up s r h in (
      subst (λ d. IsFolding pattern.points faces.rings faces.sides faces.marks d points flags) (sym es)
          (subst (λ ps. IsFolding pattern.points faces.rings faces.sides faces.marks s.scale ps flags) (sym ep) (subst (IsFolding pattern.points faces.rings faces.sides faces.marks s.scale s.points.items) (sym ef) a.0)),
      subst AreNear (sym ep) a.1,
    )

-- the scale fits
pub scale_below : (paper : Paper) (tree : List Meeting) (up : List Bool) (done : List (ℕ × ℕ)) (s : Placed) → IsStanding paper tree up done s → IsSmall SLOPE_SIZE s.scale
scale_below paper tree up done s h = let k = h.stands in k.small
