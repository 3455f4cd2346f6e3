-- What a meeting is: an edge with a face on both sides, seen from one of them.
use Rattle.std.proofs.Common.{◌≡◌, ℕ, zero, suc, ◌+◌, ◌<◌, ◌≤◌, ◌==◌, ◌⊎◌, inl, inr, not, arith, refl, sym, ap, ◌∙◌, subst, true, false, Bool, List, [], ◌∷◌, ◌++◌, length, cond, slice_index_or, nat_lt, Option, Some, None, IsTrue, append_assoc}
use Rattle.std.proofs.lemmas.Bool.{eqb-true, eqb-false, lt-ltb}
use Rattle.std.proofs.lemmas.List.{get_or_default, get_or_append_left, get_or_push}
use Rattle.std.proofs.lemmas.Bool.Decides.{nat_tests}
use Rattle.std.proofs.lemmas.List.Quantifiers.{position-Some}
use Rattle.std.proofs.lemmas.List.Elements.{Contains-append_left, Contains-append_right, Contains-append_cases}
use Rattle.std.specs.Prelude.{position, option_and_then, option_map}
use Rattle.std.specs.List.{Contains, filter_map, cons_option, position_or_len}
use Rattle.ff_basics.proofs.Memberships.{by_member, first_member, later_member, no_member}
use Rattle.ff_basics.proofs.Lists.{filter_map_in, in_filter_map}
use Rattle.ff_whole.specs.Convex.{next}
use Rattle.ff_types.specs.declared.patterns.EdgeEnds.{EdgeEnds}
use Rattle.ff_types.specs.declared.faces.EdgeSides.{EdgeSides}
use Rattle.ff_types.specs.Patterns.{edge_at}
use Rattle.ff_types.specs.Drawings.{joins}
use Rattle.ff_types.specs.Rings.{corner, after, Goes}
use Rattle.ff_types.specs.Faces.{ring_at}
use Rattle.ff_types.specs.Sides.{sides_at}
use Rattle.ff_types.specs.Inside.{steps, steps_from}
use Rattle.ff_types.specs.Placing.{Meeting, other_of, meeting_over, meeting_at, meetings_of, meetings}
use Rattle.ff_reflect.proofs.Cases.{by_below, by_test}

-- ---- lists

pub position_is : {A : Type 0} (p : A → Bool) (xs : List A) (i : ℕ) (d : A) → i < length xs → p (slice_index_or xs i d) ≡ true
    → ((k : ℕ) → k < i → p (slice_index_or xs k d) ≡ false) → position p xs ≡ Some i
position_is {A = A} p xs i d h t f = ap (λ n. cond (nat_lt n (length xs)) (Some n) None) (go xs i h t f) ∙ ap (λ b. cond b (Some i) None) (lt-ltb i (length xs) h) where
  go : (ys : List A) (i : ℕ) → i < length ys → p (slice_index_or ys i d) ≡ true → ((k : ℕ) → k < i → p (slice_index_or ys k d) ≡ false) → position_or_len p ys ≡ i
  go [] i h t f = absurd (omega (arith, h))
  go (y ∷ ys) zero h t f = ap (λ b. cond (not b) (1 + position_or_len p ys) 0) t
  go (y ∷ ys) (suc i) h t f = ap (λ b. cond (not b) (1 + position_or_len p ys) 0) (f 0 (omega arith)) ∙ ap (λ n. 1 + n) (go ys i (omega (arith, h)) t (λ k l. f (suc k) (omega (arith, l)))) ∙ omega arith

-- ---- the steps of a ring

steps_from-length : (first u : ℕ) (rest : List ℕ) → length (steps_from first u rest) ≡ suc (length rest)
steps_from-length first u [] = refl
steps_from-length first u (v ∷ rest) = ap suc (steps_from-length first v rest)

steps_from-at : (first u : ℕ) (rest : List ℕ) (i : ℕ) → i < suc (length rest)
    → slice_index_or (steps_from first u rest) i (0, 0) ≡ (slice_index_or (u ∷ rest) i 0, slice_index_or (rest ++ first ∷ []) i 0)
steps_from-at first u [] zero h = refl
steps_from-at first u [] (suc i) h = absurd (omega (arith, h))
steps_from-at first u (v ∷ rest) zero h = refl
steps_from-at first u (v ∷ rest) (suc i) h = steps_from-at first v rest i (omega (arith, h))

pub steps-length : (ring : List ℕ) → length (steps ring) ≡ length ring
steps-length [] = refl
steps-length (v ∷ rest) = steps_from-length v v rest

pub steps-at : (ring : List ℕ) (i : ℕ) → i < length ring → slice_index_or (steps ring) i (0, 0) ≡ (corner ring i, after ring i)
steps-at [] i h = absurd (omega (arith, h))
steps-at (v ∷ rest) i h = steps_from-at v v rest i h ∙ ap (λ n. (slice_index_or (v ∷ rest) i 0, n)) (by_below (i + 1) (length (v ∷ rest)) inner last) where
  inner : i + 1 < length (v ∷ rest) → slice_index_or (rest ++ v ∷ []) i 0 ≡ after (v ∷ rest) i
  inner l = get_or_append_left rest (v ∷ []) 0 i (omega (arith, l)) ∙ ap (λ n. slice_index_or (v ∷ rest) n 0) (let e : suc i ≡ next (length (v ∷ rest)) i = grind (arith, nat_tests, l) in e)

  last : length (v ∷ rest) ≤ i + 1 → slice_index_or (rest ++ v ∷ []) i 0 ≡ after (v ∷ rest) i
  last l = get_or_push rest v 0 i (omega (arith, l, h)) ∙ ap (λ n. slice_index_or (v ∷ rest) n 0) (let e : 0 ≡ next (length (v ∷ rest)) i = grind (arith, nat_tests, l) in e)

pub step_from_goes : (ring : List ℕ) (u v : ℕ) → Goes ring u v → Contains (steps ring) (u, v)
step_from_goes ring u v g =
    let h : g.place < length (steps ring) = subst (λ n. g.place < n) (sym (steps-length ring)) g.inside in
    let from = g.from in
    let to = g.to in
    (g.place, h, get_or_default (steps ring) g.place (u, v) (0, 0) h ∙ steps-at ring g.place g.inside ∙ (λ i. (from i, to i)))

-- ---- lists of meetings

pub meetings-append : (rings : List (List ℕ)) (edges : List EdgeEnds) (sides : List EdgeSides) (xs ys : List ℕ)
    → meetings rings edges sides (xs ++ ys) ≡ meetings rings edges sides xs ++ meetings rings edges sides ys
meetings-append rings edges sides [] ys = refl
meetings-append rings edges sides (x ∷ xs) ys =
    ap (λ r. meetings_of rings edges sides x ++ r) (meetings-append rings edges sides xs ys)
    ∙ sym (append_assoc (meetings_of rings edges sides x) (meetings rings edges sides xs) (meetings rings edges sides ys))

pub in_meetings : (rings : List (List ℕ)) (edges : List EdgeEnds) (sides : List EdgeSides) (order : List ℕ) (m : Meeting)
    → Contains (meetings rings edges sides order) m → (f : ℕ) × Contains order f × Contains (meetings_of rings edges sides f) m
in_meetings rings edges sides [] m c = absurd (no_member m c)
in_meetings rings edges sides (f ∷ order) m c = elim (Contains-append_cases (meetings_of rings edges sides f) (meetings rings edges sides order) m c) [
  | inl k ↦ (f, first_member f order f refl, k)
  | inr k ↦ let r = in_meetings rings edges sides order m k in (r.0, later_member f order r.0 r.1, r.2)
]

pub meetings_in : (rings : List (List ℕ)) (edges : List EdgeEnds) (sides : List EdgeSides) (order : List ℕ) (f : ℕ) (m : Meeting)
    → Contains order f → Contains (meetings_of rings edges sides f) m → Contains (meetings rings edges sides order) m
meetings_in rings edges sides [] f m c k = absurd (no_member f c)
meetings_in rings edges sides (g ∷ order) f m c k = by_member g order f
    (λ e. Contains-append_left (meetings_of rings edges sides g) (meetings rings edges sides order) m (subst (λ h. Contains (meetings_of rings edges sides h) m) (sym e) k))
    (λ d. Contains-append_right (meetings_of rings edges sides g) (meetings rings edges sides order) m (meetings_in rings edges sides order f m d k)) c

-- ---- what a meeting says

-- the edge has these two faces
abbrev pub HasSides : EdgeSides → ℕ → ℕ → Type 0
HasSides s f g = ((s.left ≡ Some f) × (s.right ≡ Some g)) ⊎ ((s.left ≡ Some g) × (s.right ≡ Some f))

pub record IsMeeting (edges : List EdgeEnds) (sides : List EdgeSides) (f : ℕ) (m : Meeting) : Type 0 where
  pub face : m.face ≡ f
  pub edge : m.edge < length edges
  pub sides_are : HasSides (sides_at sides m.edge) f m.across

-- the other face of the two
other : (f : ℕ) (l r : Option ℕ) (g : ℕ) → other_of f l r ≡ Some g → ((l ≡ Some f) × (r ≡ Some g)) ⊎ ((l ≡ Some g) × (r ≡ Some f))
other f None r g e = absurd (none_some e) where
  none_some : None ≡ Some g → ⊥
  none_some q = cc
other f (Some a) None g e = absurd (none_some e) where
  none_some : None ≡ Some g → ⊥
  none_some q = cc
other f (Some a) (Some b) g e = by (a == f) refl (b == f) refl e where
  by : (s : Bool) → (a == f) ≡ s → (t : Bool) → (b == f) ≡ t → cond s (Some b) (cond t (Some a) None) ≡ Some g
      → ((Some a ≡ Some f) × (Some b ≡ Some g)) ⊎ ((Some a ≡ Some g) × (Some b ≡ Some f))
  by true d t k q = inl (ap Some (eqb-true a f d), q)
  by false d true k q = inr (q, ap Some (eqb-true b f k))
  by false d false k q = absurd (let n : None ≡ Some g = q in cc)

other_is : (f g : ℕ) (l r : Option ℕ) → ((l ≡ Some f) × (r ≡ Some g)) ⊎ ((l ≡ Some g) × (r ≡ Some f)) → other_of f l r ≡ Some g
other_is f g l r (inl (a, b)) = rw (a, b) (by (f == f) refl) where
  by : (s : Bool) → (f == f) ≡ s → cond s (Some g) (cond (g == f) (Some f) None) ≡ Some g
  by true e = refl
  by false e = absurd (eqb-false f f e refl)
other_is f g l r (inr (a, b)) = rw (a, b) (by (g == f) refl (f == f) refl) where
  by : (s : Bool) → (g == f) ≡ s → (t : Bool) → (f == f) ≡ t → cond s (Some f) (cond t (Some g) None) ≡ Some g
  by true e t k = ap Some (sym (eqb-true g f e))
  by false e true k = refl
  by false e false k = absurd (eqb-false f f k refl)

pub met_at : (edges : List EdgeEnds) (sides : List EdgeSides) (f : ℕ) (step : ℕ × ℕ) (m : Meeting) → meeting_at f edges sides step ≡ Some m → IsMeeting edges sides f m
met_at edges sides f step m = over (position (joins step.0 step.1) edges) refl where
  with_other : (k : ℕ) → k < length edges → (o : Option ℕ) → other_of f (sides_at sides k).left (sides_at sides k).right ≡ o
      → option_map (λ h. record { face = f; edge = k; across = h }) o ≡ Some m → IsMeeting edges sides f m
  with_other k l None d q = absurd (let n : None ≡ Some m = q in cc)
  with_other k l (Some h) d q =
      let same : record { face = f; edge = k; across = h } ≡ m = (let n : Some (let z : Meeting = record { face = f; edge = k; across = h } in z) ≡ Some m = q in cc) in
      subst (IsMeeting edges sides f) same (record { face = refl; edge = l; sides_are = other f _ _ h d })

  over : (o : Option ℕ) → position (joins step.0 step.1) edges ≡ o → option_and_then (meeting_over f sides) o ≡ Some m → IsMeeting edges sides f m
  over None e d = absurd (let n : None ≡ Some m = d in cc)
  over (Some k) e d = with_other k (position-Some (joins step.0 step.1) edges k (record { a = 0; b = 0 }) e).0 (other_of f (sides_at sides k).left (sides_at sides k).right) refl d

pub is_meeting : (rings : List (List ℕ)) (edges : List EdgeEnds) (sides : List EdgeSides) (f : ℕ) (m : Meeting) → Contains (meetings_of rings edges sides f) m → IsMeeting edges sides f m
is_meeting rings edges sides f m c =
    let r = in_filter_map (meeting_at f edges sides) (steps (ring_at rings f)) m c in met_at edges sides f r.0 m r.2

-- an edge with faces on both sides is met from each, where no other edge joins its ends
pub met_over : (rings : List (List ℕ)) (edges : List EdgeEnds) (sides : List EdgeSides) (u v e f g : ℕ)
    → ((k : ℕ) → k < length edges → IsTrue (joins (edge_at edges e).a (edge_at edges e).b (edge_at edges k)) → e ≡ k)
    → e < length edges → IsTrue (joins u v (edge_at edges e)) → ((k : ℕ) → k < length edges → IsTrue (joins u v (edge_at edges k)) → e ≡ k)
    → Goes (ring_at rings f) u v → HasSides (sides_at sides e) f g → Contains (meetings_of rings edges sides f) (record { face = f; edge = e; across = g })
met_over rings edges sides u v e f g once l j unique goes sides_are =
    filter_map_in (meeting_at f edges sides) (steps (ring_at rings f)) (u, v) _ (step_from_goes (ring_at rings f) u v goes)
    (ap (λ o. option_and_then (meeting_over f sides) o) (position_is (joins u v) edges e (record { a = 0; b = 0 }) l j before)
    ∙ ap (λ o. option_map (λ h. record { face = f; edge = e; across = h }) o) (other_is f g _ _ sides_are))
  where
    before : (k : ℕ) → k < e → joins u v (edge_at edges k) ≡ false
    before k h = by_test (joins u v (edge_at edges k)) (λ t. let same = unique k (omega (arith, h, l)) t in absurd (omega (arith, same, h))) (λ t. t)
