-- The walk over all faces: each face taken in turn.
use Rattle.std.proofs.Common.{◌≡◌, ◌∙◌, ℕ, zero, suc, ◌+◌, ◌-◌, ◌<◌, ◌≤◌, List, [], ◌∷◌, ◌++◌, length, Bool, arith, refl, sym, ap, subst, slice_index, slice_index_or, take, Option}
use Rattle.std.proofs.Common.{Vec, Global, vec_len}
use Rattle.std.proofs.lemmas.List.{take_more, take_all, append_assoc, append-nil, map-append, length-append, length-map, take-append-le}
use Rattle.std.proofs.lemmas.List.Elements.{Contains-append_left, filter_map-append, Contains-get_or}
use Rattle.std.specs.List.{Contains, filter_map, cons_option}
use Rattle.ff_basics.proofs.Memberships.{by_member, first_member, later_member}
use Rattle.ff_types.specs.Placing.{Meeting, meetings, meetings_of, meeting_at, firsts, IsPlacingOrder}
use Rattle.ff_reflect.specs.declared.walk.Meeting.{Meeting as CodeMeeting}
use Rattle.ff_reflect.specs.declared.walk.Walk.{Walk}
use Rattle.ff_reflect.specs.Sheets.{Paper}
use Rattle.ff_reflect.specs.Trees.{first_meetings, faces_across, order_along}
use Rattle.ff_reflect.specs.Walked.{meeting_of, met_of, AreWalked, HasMet, IsTree}
use Rattle.ff_reflect.proofs.Walks.{first_meetings-append}
use Rattle.ff_reflect.proofs.Meetings.{meetings-append, steps-at, steps-length}
use Rattle.ff_types.specs.Faces.{ring_at}
use Rattle.ff_types.specs.Inside.{steps}
use Rattle.ff_types.specs.Rings.{corner, after}
use Rattle.ff_reflect.proofs.Firsts.{across_firsts}

pub face_at_place : (tree : List CodeMeeting) (place : ℕ) (m : CodeMeeting) → place < length (order_along (met_of tree)) → (place ≡ 0 → ⊥)
    → m ≡ slice_index_or tree (place - 1) m → m.across ≡ slice_index (order_along (met_of tree)) place
face_at_place tree zero m l n e = absurd (n refl)
face_at_place tree (suc k) m l n e = go tree k (omega (arith, l)) (e ∙ ap (λ i. slice_index_or tree i m) (omega arith)) where
  go : (ms : List CodeMeeting) (k : ℕ) → k < length (faces_across (met_of ms)) → m ≡ slice_index_or ms k m → m.across ≡ slice_index (faces_across (met_of ms)) k
  go [] k l e = absurd (omega (arith, l))
  go (x ∷ ms) zero l e = ap (λ (z : CodeMeeting). z.across) e
  go (x ∷ ms) (suc k) l e = go ms k (omega (arith, l)) e

-- what a ring has met, one step more
pub met_step : {A B : Type 0} (h : A → Option B) (xs : List A) (i : ℕ) (d : A) (o : Option B) → i < length xs → h (slice_index_or xs i d) ≡ o
    → filter_map h (take (i + 1) xs) ≡ filter_map h (take i xs) ++ cons_option o []
met_step h xs i d o l e = ap (filter_map h) (take_more xs i d l) ∙ filter_map-append h (take i xs) (slice_index_or xs i d ∷ []) ∙ ap (λ o. filter_map h (take i xs) ++ cons_option o []) e

-- the tree goes on
pub longer : (faces : ℕ) (met more tree new : List Meeting) (seen flags : List Bool) → AreWalked faces met tree seen → AreWalked faces (met ++ more) new flags
    → new ≡ tree ++ first_meetings (faces_across met ++ 0 ∷ []) more
longer faces met more tree new seen flags w v = v.first ∙ first_meetings-append (0 ∷ []) met more ∙ ap (λ t. t ++ first_meetings (faces_across met ++ 0 ∷ []) more) (sym w.first)

-- a face of the order stays in it
pub stays_in : (faces : ℕ) (met more tree new : List Meeting) (seen flags : List Bool) (f : ℕ) → AreWalked faces met tree seen → AreWalked faces (met ++ more) new flags
    → Contains (order_along tree) f → Contains (order_along new) f
stays_in faces met more tree new seen flags f w v c = subst (λ t. Contains (order_along t) f) (sym (longer faces met more tree new seen flags w v))
    (by_member 0 (faces_across tree) f (λ e. first_member 0 _ f e) (λ d. later_member 0 _ f (subst (λ xs. Contains xs f) (sym (map-append (λ (m : Meeting). m.across) tree _)) (Contains-append_left (faces_across tree) _ f d))) c)

-- one step of a ring
pub step_more : (paper : Paper) (ring : List ℕ) (face i : ℕ) (old w : Walk) (front : List Meeting) → HasMet (length paper.rings) (front ++ filter_map (meeting_at face paper.edges paper.sides) (take i (steps ring))) old
    → (v : ℕ) → i < length ring → v ≡ after ring i
    → HasMet (length paper.rings) (met_of old.met.items ++ cons_option (meeting_at face paper.edges paper.sides (corner ring i, v)) []) w
    → HasMet (length paper.rings) (front ++ filter_map (meeting_at face paper.edges paper.sides) (take (i + 1) (steps ring))) w
step_more paper ring face i old w front h v l e n = record {
  is_walk = n.is_walk;
  met = n.met
      ∙ ap (λ ms. ms ++ cons_option (meeting_at face paper.edges paper.sides (corner ring i, v)) []) h.met
      ∙ append_assoc front _ _ ∙ ap (λ ms. front ++ ms) (sym (met_step (meeting_at face paper.edges paper.sides) (steps ring) i (0, 0) (meeting_at face paper.edges paper.sides (corner ring i, v))
      (subst (λ k. i < k) (sym (steps-length ring)) l) (ap (meeting_at face paper.edges paper.sides) (steps-at ring i l ∙ ap (λ x. (corner ring i, x)) (sym e)))));
}

pub ring_met : (paper : Paper) (ring : List ℕ) (face i : ℕ) (w : Walk) (front : List Meeting) → ring ≡ ring_at paper.rings face → length ring ≤ i
    → HasMet (length paper.rings) (front ++ filter_map (meeting_at face paper.edges paper.sides) (take i (steps ring))) w
    → HasMet (length paper.rings) (front ++ meetings_of paper.rings paper.edges paper.sides face) w
ring_met paper ring face i w front r l h = record {
  is_walk = h.is_walk;
  met = h.met
      ∙ ap (λ xs. front ++ filter_map (meeting_at face paper.edges paper.sides) xs) (take_all i (steps ring) (let n = steps-length ring in omega (arith, n, l)) ∙ ap steps r);
}

-- a face of the order stays in it, along a ring
pub stays : (faces : ℕ) (old w : Walk) (more : List Meeting) (f : ℕ) → AreWalked faces (met_of old.met.items) (met_of old.tree.items) old.seen.items → HasMet faces (met_of old.met.items ++ more) w
    → Contains (order_along (met_of old.tree.items)) f → Contains (order_along (met_of w.tree.items)) f
stays faces old w more f h n c = stays_in faces (met_of old.met.items) more (met_of old.tree.items) (met_of w.tree.items) old.seen.items w.seen.items f h
    (subst (λ ms. AreWalked faces ms (met_of w.tree.items) w.seen.items) n.met n.is_walk) c

-- ---- the loop

-- the faces before the place were taken
pub record IsWalkTo (paper : Paper) (met tree : List Meeting) (seen : List Bool) (place : ℕ) : Type 0 where
  pub walked : AreWalked (length paper.rings) met tree seen
  pub taken : met ≡ meetings paper.rings paper.edges paper.sides (take place (order_along tree))
  pub within : place ≤ length (order_along tree)

-- one face more was taken
pub take_more_faces : (paper : Paper) (met tree new : List Meeting) (seen flags : List Bool) (place face : ℕ) → IsWalkTo paper met tree seen place → place < length (order_along tree)
    → face ≡ slice_index (order_along tree) place → AreWalked (length paper.rings) (met ++ meetings_of paper.rings paper.edges paper.sides face) new flags
    → IsWalkTo paper (met ++ meetings_of paper.rings paper.edges paper.sides face) new flags (place + 1)
take_more_faces paper met tree new seen flags place face h l e w = record {
  walked = w;
  taken = ap (λ ms. ms ++ meetings_of paper.rings paper.edges paper.sides face) h.taken
      ∙ sym (ap (meetings paper.rings paper.edges paper.sides) front
      ∙ meetings-append paper.rings paper.edges paper.sides (take place (order_along tree)) (face ∷ [])
      ∙ ap (λ ms. meetings paper.rings paper.edges paper.sides (take place (order_along tree)) ++ ms) (append-nil (meetings_of paper.rings paper.edges paper.sides face)));
  within = (let m = long in omega (arith, l, m));
}
  where
    more : List Meeting
    more = first_meetings (faces_across met ++ 0 ∷ []) (meetings_of paper.rings paper.edges paper.sides face)

    is : new ≡ tree ++ more
    is = longer (length paper.rings) met (meetings_of paper.rings paper.edges paper.sides face) tree new seen flags h.walked w

    order_is : order_along new ≡ order_along tree ++ faces_across more
    order_is = ap order_along is ∙ ap (λ xs. 0 ∷ xs) (map-append (λ (m : Meeting). m.across) tree more)

    long : length (order_along tree) ≤ length (order_along new)
    long = let k = ap length order_is in let m = length-append (order_along tree) (faces_across more) in omega (arith, k, m)

    front : take (place + 1) (order_along new) ≡ take place (order_along tree) ++ face ∷ []
    front = ap (take (place + 1)) order_is ∙ take-append-le (place + 1) (order_along tree) (faces_across more) (omega (arith, l)) ∙ take_more (order_along tree) place 0 l
        ∙ ap (λ f. take place (order_along tree) ++ f ∷ []) (sym e)

pub to_next : (paper : Paper) (met tree : List Meeting) (seen : List Bool) (place face : ℕ) (w : Walk) → IsWalkTo paper met tree seen place → place < length (order_along tree)
    → face ≡ slice_index (order_along tree) place → HasMet (length paper.rings) (met ++ meetings_of paper.rings paper.edges paper.sides face) w
    → IsWalkTo paper (met_of w.met.items) (met_of w.tree.items) w.seen.items (place + 1)
to_next paper met tree seen place face w h l e n =
    subst (λ ms. IsWalkTo paper ms (met_of w.tree.items) w.seen.items (place + 1)) (sym n.met)
    (take_more_faces paper met tree (met_of w.tree.items) seen w.seen.items place face h l e
    (subst (λ ms. AreWalked (length paper.rings) ms (met_of w.tree.items) w.seen.items) n.met n.is_walk))

-- so the order is the placing order
pub tree_orders : (paper : Paper) (met tree : List Meeting) → IsTree paper met tree → IsPlacingOrder paper.rings paper.edges paper.sides (order_along tree)
tree_orders paper met tree t = ap (λ xs. 0 ∷ xs) (ap faces_across t.first ∙ across_firsts (0 ∷ []) met ∙ ap (λ ms. firsts (0 ∷ []) (faces_across ms)) t.all)

-- the face at a place of the order is in it, and so it is there
pub in_order : (tree : List Meeting) (place face : ℕ) → place < length (order_along tree) → face ≡ slice_index (order_along tree) place → Contains (order_along tree) face
in_order tree place face l e = subst (Contains (order_along tree)) (sym e) (Contains-get_or (order_along tree) place 0 l)

pub take_there : (paper : Paper) (met tree : List Meeting) (seen : List Bool) (place face : ℕ) → IsWalkTo paper met tree seen place → place < length (order_along tree)
    → face ≡ slice_index (order_along tree) place → face < length paper.rings
take_there paper met tree seen place face h l e = let w = h.walked in w.there face (in_order tree place face l e)

pub within_order : (tree : List CodeMeeting) (place : ℕ) → place ≤ length tree → place < length (order_along (met_of tree))
within_order tree place h = let a = length-map tree meeting_of in let b = length-map (met_of tree) (λ (m : Meeting). m.across) in omega (arith, a, b, h)

pub place_within : (tree : Vec CodeMeeting Global) (place n : ℕ) → n ≡ vec_len tree → place ≤ n → place ≤ length tree.items
place_within tree place n e h = let k = tree.ok.0 in omega (arith, e, h, k)
