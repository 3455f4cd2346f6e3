-- The placing order: it has all faces, each once, and each but face 0 is first met from one before it.
use Rattle.std.proofs.Common.{◌≡◌, ◌≢◌, ℕ, zero, suc, ◌<◌, ◌≤◌, arith, refl, sym, ap, ◌∙◌, subst, List, [], ◌∷◌, ◌++◌, length, take, drop, slice_get, slice_index_or, Some, None}
use Rattle.std.proofs.lemmas.List.{take-append-drop, length-take, map-append, get_or_append_left, get_or-take, length-map, get_or_default}
use Rattle.std.proofs.lemmas.List.Elements.{Contains-get_or}
use Rattle.std.specs.List.{Contains}
use Rattle.ff_basics.proofs.Memberships.{by_member, first_member, in_map, later_member, no_member}
use Rattle.ff_types.specs.Placing.{Meeting, meetings_of, meetings, firsts, IsPlacingOrder, IsParent}
use Rattle.ff_reflect.specs.Sheets.{Paper, HasFaces}
use Rattle.ff_reflect.specs.Trees.{faces_across}
use Rattle.ff_reflect.proofs.Cases.{by_below, by_same}
use Rattle.ff_reflect.proofs.Firsts.{in_firsts, firsts_in, firsts-append, firsts_differ}
use Rattle.ff_reflect.proofs.Meetings.{is_meeting, in_meetings, meetings_in, meetings-append}
use Rattle.ff_reflect.proofs.Across.{all_faces, between_faces}

-- ---- lists

-- a member's first place
pub record IsFirstAt (xs : List ℕ) (x : ℕ) : Type 0 where
  pub place : ℕ
  pub inside : place < length xs
  pub there : slice_index_or xs place 0 ≡ x
  pub first : (j : ℕ) → j < place → slice_index_or xs j 0 ≢ x

pub first_place : (xs : List ℕ) (x : ℕ) → Contains xs x → IsFirstAt xs x
first_place [] x m = absurd (no_member x m)
first_place (y ∷ ys) x m = by_same y x
    (λ e. record { place = 0; inside = omega arith; there = e; first = λ j l. absurd (omega (arith, l)) })
    (λ n. let r = first_place ys x (by_member y ys x (λ e. absurd (n e)) (λ k. k) m) in
    let l = r.inside in
    record { place = suc r.place; inside = omega (arith, l); there = r.there; first = go n r.place r.first })
  where
    go : (y ≡ x → ⊥) → (n : ℕ) → ((j : ℕ) → j < n → slice_index_or ys j 0 ≢ x) → (j : ℕ) → j < suc n → slice_index_or (y ∷ ys) j 0 ≢ x
    go f n g zero l = f
    go f n g (suc j) l = g j (omega (arith, l))

pub across_at : (ms : List Meeting) (i : ℕ) (m : Meeting) → slice_get ms i ≡ Some m → slice_index_or (faces_across ms) i 0 ≡ m.across
across_at [] i m e = absurd (let n : None ≡ Some m = e in cc)
across_at (x ∷ ms) zero m e = let d : x ≡ m = (let n : Some x ≡ Some m = e in cc) in ap (λ (z : Meeting). z.across) d
across_at (x ∷ ms) (suc i) m e = across_at ms i m e

meeting_there : (ms : List Meeting) (i : ℕ) → i < length ms → (m : Meeting) × (slice_get ms i ≡ Some m)
meeting_there [] i h = absurd (omega (arith, h))
meeting_there (x ∷ ms) zero h = (x, refl)
meeting_there (x ∷ ms) (suc i) h = meeting_there ms i (omega (arith, h))

pub get_in : (ms : List Meeting) (i : ℕ) (m : Meeting) → slice_get ms i ≡ Some m → Contains ms m
get_in [] i m e = absurd (let n : None ≡ Some m = e in cc)
get_in (x ∷ ms) zero m e = first_member x ms m (let n : Some x ≡ Some m = e in cc)
get_in (x ∷ ms) (suc i) m e = later_member x ms m (get_in ms i m e)

get_front : (ms ns : List Meeting) (i : ℕ) (m : Meeting) → slice_get ms i ≡ Some m → slice_get (ms ++ ns) i ≡ Some m
get_front [] ns i m e = absurd (let n : None ≡ Some m = e in cc)
get_front (x ∷ ms) ns zero m e = e
get_front (x ∷ ms) ns (suc i) m e = get_front ms ns i m e

pub across_in : (ms : List Meeting) (m : Meeting) → Contains ms m → Contains (faces_across ms) m.across
across_in [] m c = absurd (no_member m c)
across_in (x ∷ ms) m c = by_member x ms m
    (λ e. first_member x.across (faces_across ms) m.across (ap (λ (z : Meeting). z.across) e))
    (λ k. later_member x.across (faces_across ms) m.across (across_in ms m k)) c

-- ---- the order

-- the face has one before it in the order from which it is first met
pub record IsMetEarlier (all : List Meeting) (order : List ℕ) (k : ℕ) : Type 0 where
  pub place : ℕ
  pub meeting : Meeting
  pub parent : IsParent all place meeting
  pub across_it : meeting.across ≡ slice_index_or order k 0
  pub before : ℕ
  pub is_before : before < k
  pub from_it : slice_index_or order before 0 ≡ meeting.face

-- what is known of an order of placing
pub record IsOrdered (paper : Paper) (order : List ℕ) : Type 0 where
  pub has_faces : HasFaces paper
  pub in_order : IsPlacingOrder paper.rings paper.edges paper.sides order

-- the meetings of the faces of the order
abbrev pub all_of : Paper → List ℕ → List Meeting
all_of paper order = meetings paper.rings paper.edges paper.sides order

pub zero_in : (paper : Paper) (order : List ℕ) → IsOrdered paper order → Contains order 0
zero_in paper order o = subst (λ xs. Contains xs 0) (sym o.in_order) (first_member 0 _ 0 refl)

pub order_closed : (paper : Paper) (order : List ℕ) → IsOrdered paper order → (m : Meeting) → Contains (all_of paper order) m → Contains order m.across
order_closed paper order o m c = subst (λ xs. Contains xs m.across) (sym o.in_order)
    (firsts_in [] (0 ∷ faces_across (all_of paper order)) m.across (later_member 0 _ m.across (across_in (all_of paper order) m c)) refl)

-- all faces are in the order
pub order_has : (paper : Paper) (order : List ℕ) → IsOrdered paper order → (f : ℕ) → f < length paper.rings → Contains order f
order_has paper order o f l = all_faces paper o.has_faces order (zero_in paper order o)
    (λ g m c k. order_closed paper order o m (meetings_in paper.rings paper.edges paper.sides order g m c k)) f l

-- no two places have one face
pub order_differs : (paper : Paper) (order : List ℕ) → IsOrdered paper order → (i j : ℕ) → i < j → j < length order → slice_index_or order i 0 ≡ slice_index_or order j 0 → ⊥
order_differs paper order o i j l h e =
    firsts_differ [] (0 ∷ faces_across (all_of paper order)) i j l (subst (λ xs. j < length xs) o.in_order h) (subst (λ xs. slice_index_or xs i 0 ≡ slice_index_or xs j 0) o.in_order e)

pub order_first : (paper : Paper) (order : List ℕ) → IsOrdered paper order → slice_index_or order 0 0 ≡ 0
order_first paper order o = ap (λ xs. slice_index_or xs 0 0) o.in_order

-- the faces first met from the faces before a place
abbrev pub first_met : Paper → List ℕ → ℕ → List ℕ
first_met paper order k = firsts [] (0 ∷ faces_across (all_of paper (take k order)))

all_split : (paper : Paper) (order : List ℕ) (k : ℕ) → all_of paper order ≡ all_of paper (take k order) ++ all_of paper (drop k order)
all_split paper order k = ap (all_of paper) (sym (take-append-drop k order)) ∙ meetings-append paper.rings paper.edges paper.sides (take k order) (drop k order)

-- the order begins with them
order_split : (paper : Paper) (order : List ℕ) → IsOrdered paper order → (k : ℕ)
    → order ≡ first_met paper order k ++ firsts ((0 ∷ faces_across (all_of paper (take k order))) ++ []) (faces_across (all_of paper (drop k order)))
order_split paper order o k = o.in_order ∙ ap (λ ms. firsts [] (0 ∷ faces_across ms)) (all_split paper order k)
    ∙ ap (λ xs. firsts [] (0 ∷ xs)) (map-append (λ (m : Meeting). m.across) (all_of paper (take k order)) (all_of paper (drop k order)))
    ∙ firsts-append [] (0 ∷ faces_across (all_of paper (take k order))) (faces_across (all_of paper (drop k order)))

-- each member of the order is a face, but for face 0 where there is none
not_zero_there : (paper : Paper) (order : List ℕ) → IsOrdered paper order → (k : ℕ) → 0 < k → k < length order → slice_index_or order k 0 ≡ 0 → ⊥
not_zero_there paper order o k some h e = order_differs paper order o 0 k some h (order_first paper order o ∙ sym e)

pub face_in_range : (paper : Paper) (order : List ℕ) → IsOrdered paper order → (k : ℕ) → 0 < k → k < length order → slice_index_or order k 0 < length paper.rings
face_in_range paper order o k some h =
    let face = slice_index_or order k 0 in
    let among = in_firsts [] (0 ∷ faces_across (all_of paper order)) face (subst (λ xs. Contains xs face) o.in_order (Contains-get_or order k 0 h)) in
    let c : Contains (faces_across (all_of paper order)) face = by_member 0 _ face (λ e. absurd (not_zero_there paper order o k some h (sym e))) (λ c. c) among.0 in
    let m = in_map (λ (m : Meeting). m.across) (all_of paper order) face c in
    let from = in_meetings paper.rings paper.edges paper.sides order m.0 m.1 in
    let meeting = is_meeting paper.rings paper.edges paper.sides from.0 m.0 from.2 in
    let a = o.has_faces.faces in
    let b = between_faces paper.rings _ _ from.0 m.0.across (a.sides_are m.0.edge meeting.edge) meeting.sides_are in
    subst (λ g. g < length paper.rings) m.2 b.second

front_at : (order : List ℕ) (k : ℕ) → k < length order → (g : ℕ) → Contains (take k order) g → (j : ℕ) × (j < k) × (slice_index_or order j 0 ≡ g)
front_at order k h g (j, l, e) =
    let m : j < k = (let n = length-take k order in omega (arith, l, n, h)) in
    (j, m, sym (get_or-take k order j 0 m) ∙ get_or_default (take k order) j 0 g l ∙ e)

-- faces before a place of the order have met the face there: else they would be all faces
pub front_longer : (paper : Paper) (order : List ℕ) → IsOrdered paper order → (k : ℕ) → 0 < k → k < length order → k < length (first_met paper order k)
front_longer paper order o k some h = by_below k (length (first_met paper order k)) (λ l. l) closed where
  front : List ℕ
  front = take k order

  face : ℕ
  face = slice_index_or order k 0

  closed : length (first_met paper order k) ≤ k → k < length (first_met paper order k)
  closed l =
      let c : Contains front face = all_faces paper o.has_faces front zero_front front_closed face (face_in_range paper order o k some h) in
      let at = front_at order k h face c in
      absurd (order_differs paper order o at.0 k at.1 h at.2)
    where
      zero_front : Contains front 0
      zero_front = (0, (let n = length-take k order in omega (arith, n, some, h)), get_or_default front 0 0 0 (let n = length-take k order in omega (arith, n, some, h)) ∙ get_or-take k order 0 0 some ∙ order_first paper order o)

      in_front : (g : ℕ) → Contains (first_met paper order k) g → Contains front g
      in_front g (j, m, e) =
          let n = length-take k order in
          let inside : j < length front = omega (arith, m, l, n, h) in (
            j,
            inside,
            get_or_default front j g 0 inside ∙ get_or-take k order j 0 (omega (arith, m, l))
                ∙ ap (λ xs. slice_index_or xs j 0) (order_split paper order o k) ∙ get_or_append_left (first_met paper order k) _ 0 j m ∙ get_or_default (first_met paper order k) j 0 g m ∙ e,
          )

      front_closed : (f : ℕ) (m : Meeting) → Contains front f → Contains (meetings_of paper.rings paper.edges paper.sides f) m → Contains front m.across
      front_closed f m c d = in_front m.across (firsts_in [] (0 ∷ faces_across (all_of paper front)) m.across
          (later_member 0 (faces_across (all_of paper front)) m.across (across_in (all_of paper front) m (meetings_in paper.rings paper.edges paper.sides front f m c d))) refl)

-- the face at a place is the first that they met besides
pub next_face : (paper : Paper) (order : List ℕ) → IsOrdered paper order → (k : ℕ) → 0 < k → k < length order → slice_index_or order k 0 ≡ slice_index_or (first_met paper order k) k 0
next_face paper order o k some h = ap (λ xs. slice_index_or xs k 0) (order_split paper order o k) ∙ get_or_append_left (first_met paper order k) _ 0 k (front_longer paper order o k some h)

-- each face but the first is met earlier
pub met_earlier : (paper : Paper) (order : List ℕ) → IsOrdered paper order → (k : ℕ) → 0 < k → k < length order → IsMetEarlier (all_of paper order) order k
met_earlier paper order o k some h = found (front_longer paper order o k some h) where
  front : List ℕ
  front = take k order

  face : ℕ
  face = slice_index_or order k 0

  found : k < length (first_met paper order k) → IsMetEarlier (all_of paper order) order k
  found l =
      let same : face ≡ slice_index_or (first_met paper order k) k 0 = ap (λ xs. slice_index_or xs k 0) (order_split paper order o k) ∙ get_or_append_left (first_met paper order k) _ 0 k l in
      let among = in_firsts [] (0 ∷ faces_across (all_of paper front)) face (subst (Contains (first_met paper order k)) (sym same) (Contains-get_or (first_met paper order k) k 0 l)) in
      let across_one : Contains (faces_across (all_of paper front)) face = by_member 0 (faces_across (all_of paper front)) face (λ e. absurd (not_zero_there paper order o k some h (sym e))) (λ c. c) among.0 in
      let first = first_place (faces_across (all_of paper front)) face across_one in
      let inside : first.place < length (all_of paper front) = subst (λ n. first.place < n) (length-map (all_of paper front) (λ (m : Meeting). m.across)) first.inside in
      let m = meeting_there (all_of paper front) first.place inside in
      let is_across : m.0.across ≡ face = sym (across_at (all_of paper front) first.place m.0 m.1) ∙ first.there in
      let from = in_meetings paper.rings paper.edges paper.sides front m.0 (get_in (all_of paper front) first.place m.0 m.1) in
      let meeting = is_meeting paper.rings paper.edges paper.sides from.0 m.0 from.2 in
      let at = front_at order k h from.0 from.1 in
      record {
        place = first.place;
        meeting = m.0;
        parent = (
          subst (λ ms. slice_get ms first.place ≡ Some m.0) (sym (all_split paper order k)) (get_front (all_of paper front) (all_of paper (drop k order)) first.place m.0 m.1),
          (λ e. not_zero_there paper order o k some h (sym is_across ∙ e)),
          (λ j n l e d. first.first j l (before j n (less j first.place l first.inside) e ∙ d ∙ is_across)),
        );
        across_it = is_across;
        before = at.0;
        is_before = at.1;
        from_it = back (slice_index_or order at.0 0) from.0 m.0.face at.2 meeting.face;
      }
    where
      back : (n g f : ℕ) → n ≡ g → f ≡ g → n ≡ f
      back n g f e d = e ∙ sym d

      less : (j i : ℕ) → j < i → i < length (faces_across (all_of paper front)) → j < length (faces_across (all_of paper front))
      less j i l h = omega (arith, l, h)

      before : (j : ℕ) (n : Meeting) → j < length (faces_across (all_of paper front)) → slice_get (all_of paper order) j ≡ Some n → slice_index_or (faces_across (all_of paper front)) j 0 ≡ n.across
      before j n l e =
          sym (get_or_append_left (faces_across (all_of paper front)) (faces_across (all_of paper (drop k order))) 0 j l)
          ∙ ap (λ xs. slice_index_or xs j 0) (sym (map-append (λ (m : Meeting). m.across) (all_of paper front) (all_of paper (drop k order))) ∙ ap faces_across (sym (all_split paper order k)))
          ∙ across_at (all_of paper order) j n e

-- what holds of face 0, and of a face first met from one of which it holds, holds of all faces of the order
pub along_order : (paper : Paper) (order : List ℕ) → IsOrdered paper order → (P : ℕ → Type 0) → P 0
    → ((i : ℕ) (m : Meeting) → IsParent (all_of paper order) i m → Contains order m.face → P m.face → P m.across)
    → (f : ℕ) → Contains order f → P f
along_order paper order o P first step f (k, h, e) =
    subst P (sym (get_or_default order k f 0 h) ∙ e) (upto k (omega arith) h)
  where
    go : (n : ℕ) → ((j : ℕ) → j < n → j < length order → P (slice_index_or order j 0)) → n < length order → P (slice_index_or order n 0)
    go zero below h = subst P (sym (order_first paper order o)) first
    go (suc n) below h =
        let m = met_earlier paper order o (suc n) (omega arith) h in
        let l = m.is_before in
        let there : m.before < length order = omega (arith, l, h) in
        subst P m.across_it (step m.place m.meeting m.parent (subst (Contains order) m.from_it (Contains-get_or order m.before 0 there))
        (subst P m.from_it (below m.before l there)))

    all : (n : ℕ) → (j : ℕ) → j < n → j < length order → P (slice_index_or order j 0)
    all zero j l h = absurd (omega (arith, l))
    all (suc n) j l h = by_below j n (λ k. all n j k h) (λ k. subst (λ i. P (slice_index_or order i 0)) (let e : n ≡ j = omega (arith, k, l) in e) (go n (all n) (omega (arith, k, l, h))))

    upto : (k : ℕ) → k < suc k → k < length order → P (slice_index_or order k 0)
    upto k l h = all (suc k) k l h
