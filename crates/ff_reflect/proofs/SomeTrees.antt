-- Faces have a placing order and flags, whether or not memory is left to list them.
use Rattle.std.proofs.Common.{◌≡◌, ◌∙◌, ℕ, zero, suc, ◌+◌, ◌<◌, ◌≤◌, List, [], ◌∷◌, ◌++◌, length, Bool, true, false, arith, refl, sym, ap, subst, replicate, slice_set, slice_get, slice_index, slice_index_or, Some}
use Rattle.std.proofs.lemmas.List.{take_all, append_assoc, append-nil, length-map, length-replicate}
use Rattle.std.proofs.lemmas.List.Elements.{Contains-get_or}
use Rattle.std.specs.List.{Contains}
use Rattle.ff_basics.proofs.Memberships.{first_member, later_member}
use Rattle.ff_types.specs.declared.patterns.Mark.{Mark}
use Rattle.ff_types.specs.Placing.{Meeting, meetings, meetings_of}
use Rattle.ff_types.specs.Foldings.{is_up}
use Rattle.ff_reflect.specs.Sheets.{Paper, HasFaces}
use Rattle.ff_reflect.specs.Trees.{order_along, Grows, AreBelow}
use Rattle.ff_reflect.specs.Walked.{AreWalked, IsTree}
use Rattle.ff_reflect.specs.Flags.{flag_across, AreTreeFlags}
use Rattle.ff_reflect.proofs.Cases.{by_test, by_below}
use Rattle.ff_reflect.proofs.Meetings.{is_meeting}
use Rattle.ff_reflect.proofs.Foldings.{known_of}
use Rattle.ff_reflect.proofs.Walks.{walk_again, walk_new, walk_none}
use Rattle.ff_reflect.proofs.Taken.{stays_in, IsWalkTo, take_more_faces}
use Rattle.ff_reflect.proofs.Turned.{AreTurned, turned_more, turned_all}

-- ---- the walk

-- the meetings of a list, one after the other
walk_all : (faces : ℕ) (ms met tree : List Meeting) (seen : List Bool) → AreWalked faces met tree seen → ((m : Meeting) → Contains ms m → (m.across < faces) × Contains (order_along tree) m.face)
    → (new : List Meeting) × (flags : List Bool) × AreWalked faces (met ++ ms) new flags
walk_all faces [] met tree seen w h = (tree, seen, subst (λ ms. AreWalked faces ms tree seen) (sym (append-nil met)) w)
walk_all faces (m ∷ ms) met tree seen w h = by_test (slice_index_or seen m.across false)
    (λ e. let v = walk_again faces met tree seen m w here.0 e in after (walk_all faces ms (met ++ m ∷ []) tree seen v (later tree seen v)))
    (λ e. let v = walk_new faces met tree seen m w here.0 here.1 e in after (walk_all faces ms (met ++ m ∷ []) (tree ++ m ∷ []) (slice_set seen m.across true) v (later (tree ++ m ∷ []) (slice_set seen m.across true) v)))
  where
    here : (m.across < faces) × Contains (order_along tree) m.face
    here = h m (first_member m ms m refl)

    later : (new : List Meeting) (flags : List Bool) → AreWalked faces (met ++ m ∷ []) new flags → (x : Meeting) → Contains ms x → (x.across < faces) × Contains (order_along new) x.face
    later new flags v x c = let k = h x (later_member m ms x c) in (k.0, stays_in faces met (m ∷ []) tree new seen flags x.face w v k.1)

    after : (more : List Meeting) × (ups : List Bool) × AreWalked faces ((met ++ m ∷ []) ++ ms) more ups → (more : List Meeting) × (ups : List Bool) × AreWalked faces (met ++ m ∷ ms) more ups
    after (more, ups, v) = (more, ups, subst (λ xs. AreWalked faces xs more ups) (append_assoc met (m ∷ []) ms) v)

module _ (paper : Paper) (h : HasFaces paper) where
  -- the meetings of a face of the order
  meets : (tree : List Meeting) (face : ℕ) → Contains (order_along tree) face → (m : Meeting) → Contains (meetings_of paper.rings paper.edges paper.sides face) m
      → (m.across < length paper.rings) × Contains (order_along tree) m.face
  meets tree face c m k =
      let b = (known_of paper h face m k).faces in
      (b.second, subst (Contains (order_along tree)) (sym (is_meeting paper.rings paper.edges paper.sides face m k).face) c)

  -- all faces of the order were taken
  whole_walk : (met tree : List Meeting) (seen : List Bool) (place : ℕ) → IsWalkTo paper met tree seen place → length (order_along tree) ≤ place → IsTree paper met tree
  whole_walk met tree seen place w k = record {
    all = w.taken ∙ ap (meetings paper.rings paper.edges paper.sides) (take_all place (order_along tree) k);
    first = (let v = w.walked in v.first);
    grows = (let v = w.walked in v.grows);
  }

  some_walk : (n : ℕ) (met tree : List Meeting) (seen : List Bool) (place : ℕ) → IsWalkTo paper met tree seen place → length paper.rings ≤ place + n
      → (end : List Meeting) × (all : List Meeting) × IsTree paper all end
  some_walk zero met tree seen place w l = (tree, met, whole_walk met tree seen place w (let v = w.walked in let c = v.counted in let m = length-map tree (λ (x : Meeting). x.across) in omega (arith, l, c, m)))
  some_walk (suc n) met tree seen place w l = by_below place (length (order_along tree))
      (λ k.
      let face = slice_index (order_along tree) place in
      let c = Contains-get_or (order_along tree) place 0 k in
      let r = walk_all (length paper.rings) (meetings_of paper.rings paper.edges paper.sides face) met tree seen w.walked (meets tree face c) in
      some_walk n (met ++ meetings_of paper.rings paper.edges paper.sides face) r.0 r.1 (place + 1) (take_more_faces paper met tree r.0 seen r.1 place face w k refl r.2) (omega (arith, l)))
      (λ k. (tree, met, whole_walk met tree seen place w k))

  pub some_tree : 0 < length paper.rings → (tree : List Meeting) × (all : List Meeting) × IsTree paper all tree
  some_tree some = some_walk (length paper.rings) [] [] (slice_set (replicate (length paper.rings) false) 0 true) 0
      (record { walked = walk_none (length paper.rings) (replicate (length paper.rings) false) some refl; taken = refl; within = omega arith }) (omega arith)

-- ---- the flags

up_none : (n : ℕ) → is_up (replicate n true) 0 ≡ true
up_none zero = refl
up_none (suc n) = refl

there : (tree : List Meeting) (i : ℕ) → i < length tree → (m : Meeting) × (slice_get tree i ≡ Some m)
there [] i l = absurd (omega (arith, l))
there (m ∷ tree) zero l = (m, refl)
there (m ∷ tree) (suc i) l = there tree i (omega (arith, l))

pub some_flags : (faces edges : ℕ) (marks : List Mark) (tree : List Meeting) → Grows (0 ∷ []) tree → AreBelow faces edges tree → (up : List Bool) × AreTreeFlags faces marks tree up
some_flags faces edges marks tree g b = let t = turn_to (length tree) (omega arith) in (t.0, turned_all faces marks tree t.0 (length tree) t.1 (omega arith)) where
  turn_to : (n : ℕ) → n ≤ length tree → (up : List Bool) × AreTurned faces marks tree up n
  turn_to zero l = (replicate faces true, record { as_many = length-replicate faces true; first = up_none faces; so_far = λ j m k. absurd (omega (arith, k)) })
  turn_to (suc n) l =
      let t = turn_to n (omega (arith, l)) in
      let m = there tree n l in
      let new = slice_set t.0 m.0.across (flag_across marks t.0 m.0) in
      let across = (b n m.0 m.1).across in
      (new, subst (AreTurned faces marks tree new) (omega arith) (turned_more faces marks tree t.0 new n m.0 g t.1 m.1 across refl))
