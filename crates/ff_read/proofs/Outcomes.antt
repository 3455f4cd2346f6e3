-- What reading comes to: a pattern, or the first thing that is wrong. It comes to one of these, and to no two.
use Rattle.std.proofs.Common.{◌≡◌, ◌∙◌, ◌⊎◌, inl, inr, ℕ, zero, suc, ◌+◌, ◌<◌, ◌≤◌, List, [], ◌∷◌, ◌++◌, length, take, slice_get, get_or, Option, None, Some, option_map, option_and_then, arith, refl, sym, ap, subst}
use Rattle.std.proofs.lemmas.List.{take_all}
use Rattle.std.proofs.lemmas.Bool.{cases_lt}
use Rattle.std.proofs.lemmas.Option.{none-some, same_Some}
use Rattle.ff_basics.proofs.Numbers.{below_or_last, less_or}
use Rattle.serde_json.specs.Data.{Data}
use Rattle.ff_whole.specs.declared.points.Pt.{Pt}
use Rattle.ff_whole.specs.Points.{IsNear}
use Rattle.ff_whole.specs.Convex.{point_at}
use Rattle.ff_types.specs.declared.limits.TheConstants.{MOST_VERTICES, MOST_EDGES}
use Rattle.ff_types.specs.declared.patterns.EdgeEnds.{EdgeEnds}
use Rattle.ff_types.specs.declared.patterns.Mark.{Mark}
use Rattle.ff_types.specs.declared.refusals.Refusal.{Refusal}
use Rattle.ff_types.specs.declared.refusals.Refusal.TheVariants.{BadVertex, FarVertex, BadEdge, BadMark, TooMany}
use Rattle.ff_types.specs.declared.refusals.What.TheVariants.{Vertices, Edges}
use Rattle.ff_types.specs.Patterns.{edge_at}
use Rattle.ff_read.specs.Spelling.{Keys, point_of, ends_of, mark_of, all_of, optional_all_of}
use Rattle.ff_read.specs.Refused.{IsFirstBad, IsFirstFar, IsFirstBadEdge, IsNewEdge, IsSameEdge, AreNear, ArePoints, AreEdges, HaveEdges}
use Rattle.ff_read.proofs.Lists.{all_of-more}
use Rattle.ff_read.proofs.SeenEdges.{edges_more}

-- ---- the outcomes, stage by stage; None where a pattern is read

abbrev pub Counted : List Pt → List EdgeEnds → Option Refusal → Type 0
Counted ps es r =
    ((MOST_VERTICES < length ps) × (r ≡ Some (TooMany Vertices MOST_VERTICES)))
    ⊎ (((length ps ≤ MOST_VERTICES) × (MOST_EDGES < length es) × (r ≡ Some (TooMany Edges MOST_EDGES))) ⊎ ((length ps ≤ MOST_VERTICES) × (length es ≤ MOST_EDGES) × (r ≡ None)))

abbrev pub MarksOut : Keys → List Pt → List EdgeEnds → Option Refusal → Type 0
MarksOut k ps es r =
    ((ds : List Data) × (e : ℕ) × (k.marks ≡ Some ds) × IsFirstBad mark_of ds e × (r ≡ Some (BadMark e)))
    ⊎ ((ms : Option (List Mark)) × (optional_all_of mark_of k.marks ≡ Some ms) × Counted ps es r)

abbrev pub EdgesOut : Keys → List Pt → Option Refusal → Type 0
EdgesOut k ps r = ((e : ℕ) × IsFirstBadEdge (length ps) k.edges e × (r ≡ Some (BadEdge e))) ⊎ ((es : List EdgeEnds) × HaveEdges (length ps) k.edges es × MarksOut k ps es r)

abbrev pub PointsOut : Keys → Option Refusal → Type 0
PointsOut k r =
    ((v : ℕ) × IsFirstBad point_of k.vertices v × (r ≡ Some (BadVertex v)))
    ⊎ (((ps : List Pt) × (v : ℕ) × (all_of point_of k.vertices ≡ Some ps) × IsFirstFar ps v × (r ≡ Some (FarVertex v))) ⊎ ((ps : List Pt) × ArePoints k.vertices ps × EdgesOut k ps r))

-- ---- what a list spells, item by item

pub one_value : {A : Type 0} (o : Option A) (a b : A) → o ≡ Some a → o ≡ Some b → a ≡ b
one_value o a b e f = same_Some a b (sym e ∙ f)

-- the first item and the rest
Begins : {B A : Type 0} → (B → Option A) → B → List B → List A → Type 0
Begins {A = A} f d ds xs = (a : A) × (rest : List A) × (f d ≡ Some a) × (all_of f ds ≡ Some rest) × (xs ≡ a ∷ rest)

begins_rest : {B A : Type 0} (f : B → Option A) (d : B) (ds : List B) (xs : List A) (a : A) (o : Option (List A)) → f d ≡ Some a → all_of f ds ≡ o → option_map (λ rest. a ∷ rest) o ≡ Some xs → Begins f d ds xs
unfolding Begins
begins_rest f d ds xs a None e g h = absurd (none-some xs h)
begins_rest f d ds xs a (Some rest) e g h = (a, rest, e, g, sym (same_Some (a ∷ rest) xs h))

begins_at : {B A : Type 0} (f : B → Option A) (d : B) (ds : List B) (xs : List A) (o : Option A) → f d ≡ o → option_and_then (λ a. option_map (λ rest. a ∷ rest) (all_of f ds)) o ≡ Some xs → Begins f d ds xs
begins_at f d ds xs None e h = absurd (none-some xs h)
begins_at f d ds xs (Some a) e h = begins_rest f d ds xs a (all_of f ds) e refl h

begins : {B A : Type 0} (f : B → Option A) (d : B) (ds : List B) (xs : List A) → all_of f (d ∷ ds) ≡ Some xs → Begins f d ds xs
begins f d ds xs h = begins_at f d ds xs (f d) refl h

pub head_and_rest : {B A : Type 0} (f : B → Option A) (d : B) (ds : List B) (xs : List A) → all_of f (d ∷ ds) ≡ Some xs → (a : A) × (rest : List A) × (f d ≡ Some a) × (all_of f ds ≡ Some rest) × (xs ≡ a ∷ rest)
unfolding Begins
head_and_rest f d ds xs h = begins f d ds xs h

-- item i spells item i
spells_at : {B A : Type 0} (f : B → Option A) (us : List B) (xs : List A) (i : ℕ) (d : B) (z : A) → all_of f us ≡ Some xs → slice_get us i ≡ Some d → (f d ≡ Some (get_or xs i z)) × (i < length xs)
unfolding Begins
spells_at f [] xs i d z e g = absurd (none-some d g)
spells_at f (u ∷ us) xs zero d z e g = let b = begins f u us xs e in rw (b.4, ← same_Some u d g) (b.2, omega arith)
spells_at f (u ∷ us) xs (suc i) d z e g =
    let b = begins f u us xs e in
    let r = spells_at f us b.1 i d z b.3 g in
    rw b.4 (r.0, omega (arith, r.1))

-- a front spells a front
front_spells : {B A : Type 0} (f : B → Option A) (us : List B) (xs : List A) (i : ℕ) (ys : List A) → all_of f us ≡ Some xs → all_of f (take i us) ≡ Some ys → ys ≡ take i xs
unfolding Begins
front_spells f [] xs zero ys e h = sym (same_Some [] ys h)
front_spells f [] xs (suc i) ys e h = rw (← same_Some [] xs e, ← same_Some [] ys h) refl
front_spells f (u ∷ us) xs zero ys e h = sym (same_Some [] ys h)
front_spells f (u ∷ us) xs (suc i) ys e h =
    let b = begins f u us xs e in
    let c = begins f u (take i us) ys h in
    let head = one_value (f u) c.0 b.0 c.2 b.2 in
    let tail = front_spells f us b.1 i c.1 b.3 c.3 in
    rw (b.4, c.4, head, tail) refl

get_take : {A : Type 0} (xs : List A) (i j : ℕ) → i < j → slice_get (take j xs) i ≡ slice_get xs i
get_take [] i zero l = refl
get_take [] i (suc j) l = refl
get_take (x ∷ xs) i zero l = absurd (omega (arith, l))
get_take (x ∷ xs) zero (suc j) l = refl
get_take (x ∷ xs) (suc i) (suc j) l = get_take xs i j (omega (arith, l))

take_take : {A : Type 0} (xs : List A) (i j : ℕ) → i ≤ j → take i (take j xs) ≡ take i xs
take_take [] zero zero l = refl
take_take [] zero (suc j) l = refl
take_take [] (suc i) zero l = refl
take_take [] (suc i) (suc j) l = refl
take_take (x ∷ xs) zero j l = refl
take_take (x ∷ xs) (suc i) zero l = absurd (omega (arith, l))
take_take (x ∷ xs) (suc i) (suc j) l = ap (λ zs. x ∷ zs) (take_take xs i j (omega (arith, l)))

-- ---- no two outcomes

not_bad : {B A : Type 0} (f : B → Option A) (us : List B) (xs : List A) (i : ℕ) (d : B) → all_of f us ≡ Some xs → slice_get us i ≡ Some d → f d ≡ None → ⊥
unfolding Begins
not_bad f [] xs i d e g h = none-some d g
not_bad f (u ∷ us) xs zero d e g h = let b = begins f u us xs e in none-some b.0 (sym h ∙ ap f (sym (same_Some u d g)) ∙ b.2)
not_bad f (u ∷ us) xs (suc i) d e g h = let b = begins f u us xs e in not_bad f us b.1 i d b.3 g h

pub bad_or_all : {B A : Type 0} (f : B → Option A) (ds : List B) (i : ℕ) (xs : List A) → IsFirstBad f ds i → all_of f ds ≡ Some xs → ⊥
bad_or_all f ds i xs b e = not_bad f ds xs i b.item e b.is b.bad

bad_before : {B A : Type 0} (f : B → Option A) (ds : List B) (i j : ℕ) → IsFirstBad f ds i → IsFirstBad f ds j → i < j → ⊥
bad_before f ds i j b c l = not_bad f (take j ds) c.front i b.item c.before (get_take ds i j l ∙ b.is) b.bad

pub one_bad : {B A : Type 0} (f : B → Option A) (ds : List B) (i j : ℕ) → IsFirstBad f ds i → IsFirstBad f ds j → (i < j) ⊎ ((i ≡ j) ⊎ (j < i)) → i ≡ j
one_bad f ds i j b c (inl l) = absurd (bad_before f ds i j b c l)
one_bad f ds i j b c (inr (inl e)) = e
one_bad f ds i j b c (inr (inr l)) = absurd (bad_before f ds j i c b l)

one_far : (ps : List Pt) (v w : ℕ) → IsFirstFar ps v → IsFirstFar ps w → (v < w) ⊎ ((v ≡ w) ⊎ (w < v)) → v ≡ w
one_far ps v w a b (inl l) = absurd (a.far (b.before v l))
one_far ps v w a b (inr (inl e)) = e
one_far ps v w a b (inr (inr l)) = absurd (b.far (a.before w l))

far_or_near : (ps : List Pt) (v : ℕ) → IsFirstFar ps v → AreNear ps → ⊥
far_or_near ps v a n = a.far (n v a.within)

edge_take : (xs : List EdgeEnds) (k i : ℕ) → k < i → edge_at (take i xs) k ≡ edge_at xs k
edge_take [] k zero l = refl
edge_take [] k (suc i) l = refl
edge_take (x ∷ xs) k zero l = absurd (omega (arith, l))
edge_take (x ∷ xs) zero (suc i) l = refl
edge_take (x ∷ xs) (suc k) (suc i) l = edge_take xs k i (omega (arith, l))

taken : (xs : List EdgeEnds) (i k : ℕ) → k < length (take i xs) → k < i
taken [] zero k l = absurd (omega (arith, l))
taken [] (suc i) k l = absurd (omega (arith, l))
taken (x ∷ xs) zero k l = absurd (omega (arith, l))
taken (x ∷ xs) (suc i) zero l = omega arith
taken (x ∷ xs) (suc i) (suc k) l = omega (arith, taken xs i k (omega (arith, l)))

-- each of the edges is new after those before it
new_at : (n : ℕ) (xs : List EdgeEnds) (e : ℕ) → AreEdges n xs → e < length xs → IsNewEdge n (take e xs) (edge_at xs e)
new_at n xs e a l = record {
  joins = a.joins e l;
  once = λ k m s. a.once k e (taken xs e k m) l (subst (λ (x : EdgeEnds). IsSameEdge x (edge_at xs e)) (edge_take xs k e (taken xs e k m)) s);
}

not_bad_edge : (n : ℕ) (us : List Data) (xs : List EdgeEnds) (e : ℕ) (d : Data) (front : List EdgeEnds) → all_of ends_of us ≡ Some xs → AreEdges n xs → slice_get us e ≡ Some d → all_of ends_of (take e us) ≡ Some front
    → ((new : EdgeEnds) → ends_of d ≡ Some new → IsNewEdge n front new → ⊥) → ⊥
not_bad_edge n us xs e d front s a g b h =
    let at = spells_at ends_of us xs e d (record { a = 0; b = 0 }) s g in
    h (edge_at xs e) at.0 (subst (λ (ys : List EdgeEnds). IsNewEdge n ys (edge_at xs e)) (sym (front_spells ends_of us xs e front s b)) (new_at n xs e a at.1))

bad_edge_or_all : (n : ℕ) (ds : List Data) (e : ℕ) (xs : List EdgeEnds) → IsFirstBadEdge n ds e → HaveEdges n ds xs → ⊥
bad_edge_or_all n ds e xs b h = not_bad_edge n ds xs e b.item b.front h.spelled h.good b.is b.before b.bad

bad_edge_before : (n : ℕ) (ds : List Data) (i j : ℕ) → IsFirstBadEdge n ds i → IsFirstBadEdge n ds j → i < j → ⊥
bad_edge_before n ds i j b c l =
    let before = subst (λ (us : List Data). all_of ends_of us ≡ Some b.front) (sym (take_take ds i j (omega (arith, l)))) b.before in
    not_bad_edge n (take j ds) c.front i b.item b.front c.before c.edges (get_take ds i j l ∙ b.is) before b.bad

one_bad_edge : (n : ℕ) (ds : List Data) (i j : ℕ) → IsFirstBadEdge n ds i → IsFirstBadEdge n ds j → (i < j) ⊎ ((i ≡ j) ⊎ (j < i)) → i ≡ j
one_bad_edge n ds i j b c (inl l) = absurd (bad_edge_before n ds i j b c l)
one_bad_edge n ds i j b c (inr (inl e)) = e
one_bad_edge n ds i j b c (inr (inr l)) = absurd (bad_edge_before n ds j i c b l)

one_count : (ps qs : List Pt) (es fs : List EdgeEnds) (r s : Option Refusal) → ps ≡ qs → es ≡ fs → Counted ps es r → Counted qs fs s → r ≡ s
one_count ps qs es fs r s p e (inl a) (inl b) = a.1 ∙ sym b.1
one_count ps qs es fs r s p e (inl a) (inr (inl b)) = absurd (omega (arith, ap length p, a.0, b.0))
one_count ps qs es fs r s p e (inl a) (inr (inr b)) = absurd (omega (arith, ap length p, a.0, b.0))
one_count ps qs es fs r s p e (inr (inl a)) (inl b) = absurd (omega (arith, ap length p, a.0, b.0))
one_count ps qs es fs r s p e (inr (inl a)) (inr (inl b)) = a.2 ∙ sym b.2
one_count ps qs es fs r s p e (inr (inl a)) (inr (inr b)) = absurd (omega (arith, ap length e, a.1, b.1))
one_count ps qs es fs r s p e (inr (inr a)) (inl b) = absurd (omega (arith, ap length p, a.0, b.0))
one_count ps qs es fs r s p e (inr (inr a)) (inr (inl b)) = absurd (omega (arith, ap length e, a.1, b.1))
one_count ps qs es fs r s p e (inr (inr a)) (inr (inr b)) = a.2 ∙ sym b.2

mapped_some : (o : Option (List Mark)) (ms : Option (List Mark)) → option_map Some o ≡ Some ms → (xs : List Mark) × (o ≡ Some xs)
mapped_some None ms e = absurd (none-some ms e)
mapped_some (Some xs) ms e = (xs, refl)

all_marks : (o : Option (List Data)) (ds : List Data) (e : ℕ) (ms : Option (List Mark)) → o ≡ Some ds → IsFirstBad mark_of ds e → optional_all_of mark_of o ≡ Some ms → ⊥
all_marks None ds e ms h b s = none-some ds h
all_marks (Some us) ds e ms h b s =
    let m = mapped_some (all_of mark_of us) ms s in
    bad_or_all mark_of ds e m.0 b (subst (λ (xs : List Data). all_of mark_of xs ≡ Some m.0) (same_Some us ds h) m.1)

one_marks : (k : Keys) (ps qs : List Pt) (es fs : List EdgeEnds) (r s : Option Refusal) → ps ≡ qs → es ≡ fs → MarksOut k ps es r → MarksOut k qs fs s → r ≡ s
one_marks k ps qs es fs r s p e (inl a) (inl b) =
    let same = one_value k.marks a.0 b.0 a.2 b.2 in
    let bad = subst (λ (ds : List Data). IsFirstBad mark_of ds a.1) same a.3 in
    a.4 ∙ ap (λ i. Some (BadMark i)) (one_bad mark_of b.0 a.1 b.1 bad b.3 (less_or a.1 b.1)) ∙ sym b.4
one_marks k ps qs es fs r s p e (inl a) (inr b) = absurd (all_marks k.marks a.0 a.1 b.0 a.2 a.3 b.1)
one_marks k ps qs es fs r s p e (inr a) (inl b) = absurd (all_marks k.marks b.0 b.1 a.0 b.2 b.3 a.1)
one_marks k ps qs es fs r s p e (inr a) (inr b) = one_count ps qs es fs r s p e a.2 b.2

one_edges : (k : Keys) (ps qs : List Pt) (r s : Option Refusal) → ps ≡ qs → EdgesOut k ps r → EdgesOut k qs s → r ≡ s
one_edges k ps qs r s p (inl a) (inl b) =
    let bad = subst (λ (xs : List Pt). IsFirstBadEdge (length xs) k.edges a.0) p a.1 in
    a.2 ∙ ap (λ i. Some (BadEdge i)) (one_bad_edge (length qs) k.edges a.0 b.0 bad b.1 (less_or a.0 b.0)) ∙ sym b.2
one_edges k ps qs r s p (inl a) (inr b) = absurd (bad_edge_or_all (length qs) k.edges a.0 b.0 (subst (λ (xs : List Pt). IsFirstBadEdge (length xs) k.edges a.0) p a.1) b.1)
one_edges k ps qs r s p (inr a) (inl b) = absurd (bad_edge_or_all (length ps) k.edges b.0 a.0 (subst (λ (xs : List Pt). IsFirstBadEdge (length xs) k.edges b.0) (sym p) b.1) a.1)
one_edges k ps qs r s p (inr a) (inr b) = one_marks k ps qs a.0 b.0 r s p (one_value (all_of ends_of k.edges) a.0 b.0 a.1.spelled b.1.spelled) a.2 b.2

pub one_out : (k : Keys) (r s : Option Refusal) → PointsOut k r → PointsOut k s → r ≡ s
one_out k r s (inl a) (inl b) = a.2 ∙ ap (λ i. Some (BadVertex i)) (one_bad point_of k.vertices a.0 b.0 a.1 b.1 (less_or a.0 b.0)) ∙ sym b.2
one_out k r s (inl a) (inr (inl b)) = absurd (bad_or_all point_of k.vertices a.0 b.0 a.1 b.2)
one_out k r s (inl a) (inr (inr b)) = absurd (bad_or_all point_of k.vertices a.0 b.0 a.1 b.1.spelled)
one_out k r s (inr (inl a)) (inl b) = absurd (bad_or_all point_of k.vertices b.0 a.0 b.1 a.2)
one_out k r s (inr (inl a)) (inr (inl b)) =
    let far = subst (λ (ps : List Pt). IsFirstFar ps a.1) (one_value (all_of point_of k.vertices) a.0 b.0 a.2 b.2) a.3 in
    a.4 ∙ ap (λ i. Some (FarVertex i)) (one_far b.0 a.1 b.1 far b.3 (less_or a.1 b.1)) ∙ sym b.4
one_out k r s (inr (inl a)) (inr (inr b)) = absurd (far_or_near b.0 a.1 (subst (λ (ps : List Pt). IsFirstFar ps a.1) (one_value (all_of point_of k.vertices) a.0 b.0 a.2 b.1.spelled) a.3) b.1.near)
one_out k r s (inr (inr a)) (inl b) = absurd (bad_or_all point_of k.vertices b.0 a.0 b.1 a.1.spelled)
one_out k r s (inr (inr a)) (inr (inl b)) = absurd (far_or_near a.0 b.1 (subst (λ (ps : List Pt). IsFirstFar ps b.1) (one_value (all_of point_of k.vertices) b.0 a.0 b.2 a.1.spelled) b.3) a.1.near)
one_out k r s (inr (inr a)) (inr (inr b)) = one_edges k a.0 b.0 r s (one_value (all_of point_of k.vertices) a.0 b.0 a.1.spelled b.1.spelled) a.2 b.2

-- ---- one outcome at least, by what can't be

-- an item and then the rest
or_rest : {B A : Type 0} (f : B → Option A) (d : B) (ds : List B) (a : A) → f d ≡ Some a → ((xs : List A) × (all_of f ds ≡ Some xs)) ⊎ ((i : ℕ) × IsFirstBad f ds i)
    → ((xs : List A) × (all_of f (d ∷ ds) ≡ Some xs)) ⊎ ((i : ℕ) × IsFirstBad f (d ∷ ds) i)
or_rest f d ds a e (inl o) = inl (a ∷ o.0, rw (e, o.1) refl)
or_rest f d ds a e (inr o) = inr (suc o.0, record { item = o.1.item; is = o.1.is; bad = o.1.bad; front = a ∷ o.1.front; before = rw (e, o.1.before) refl })

or_first : {B A : Type 0} (f : B → Option A) (d : B) (ds : List B) (o : Option A) → f d ≡ o → ((xs : List A) × (all_of f ds ≡ Some xs)) ⊎ ((i : ℕ) × IsFirstBad f ds i)
    → ((xs : List A) × (all_of f (d ∷ ds) ≡ Some xs)) ⊎ ((i : ℕ) × IsFirstBad f (d ∷ ds) i)
or_first f d ds None e rest = inr (0, record { item = d; is = refl; bad = e; front = []; before = refl })
or_first f d ds (Some a) e rest = or_rest f d ds a e rest

near_more : (ps : List Pt) (n : ℕ) → ((v : ℕ) → v < n → IsNear (point_at ps v)) → IsNear (point_at ps n) → (v : ℕ) → (v < n) ⊎ (v ≡ n) → IsNear (point_at ps v)
near_more ps n near here v (inl l) = near v l
near_more ps n near here v (inr e) = subst (λ (i : ℕ). IsNear (point_at ps i)) (sym e) here

here : (ds : List Data) (j : ℕ) → j < length ds → (d : Data) × (slice_get ds j ≡ Some d)
here [] j l = absurd (omega (arith, l))
here (d ∷ ds) zero l = (d, refl)
here (d ∷ ds) (suc j) l = here ds j (omega (arith, l))

next_spelled : (ds : List Data) (j : ℕ) (xs : List EdgeEnds) (d : Data) (new : EdgeEnds) → all_of ends_of (take j ds) ≡ Some xs → slice_get ds j ≡ Some d → ends_of d ≡ Some new → all_of ends_of (take (suc j) ds) ≡ Some (xs ++ new ∷ [])
next_spelled ds j xs d new s g e =
    let next : j + 1 ≡ suc j = omega arith in
    subst (λ (n : ℕ). all_of ends_of (take n ds) ≡ Some (xs ++ new ∷ [])) next (all_of-more ends_of ds j xs d new s g (sym e))

pub all_or_first : {B A : Type 0} (f : B → Option A) (ds : List B) → ((xs : List A) × (all_of f ds ≡ Some xs)) ⊎ ((i : ℕ) × IsFirstBad f ds i)
all_or_first f [] = inl ([], refl)
all_or_first f (d ∷ ds) = or_first f d ds (f d) refl (all_or_first f ds)

-- a place that can't be no place
near_so_far : (ps : List Pt) (n : ℕ) → n ≤ length ps → ((v : ℕ) → IsFirstFar ps v → ⊥) → (((v : ℕ) → v < n → IsNear (point_at ps v)) → ⊥) → ⊥
near_so_far ps zero l far refute = refute (λ v m. absurd (omega (arith, m)))
near_so_far ps (suc n) l far refute =
    near_so_far ps n (omega (arith, l)) far
    (λ near. far n (record { within = omega (arith, l); far = λ here. refute (λ v m. near_more ps n near here v (below_or_last n v m)); before = near }))

edges_so_far : (n : ℕ) (ds : List Data) (j : ℕ) → j ≤ length ds → ((e : ℕ) → IsFirstBadEdge n ds e → ⊥) → ((xs : List EdgeEnds) → all_of ends_of (take j ds) ≡ Some xs → AreEdges n xs → ⊥) → ⊥
edges_so_far n ds zero l bad refute = refute [] refl (record { joins = λ e m. absurd (omega (arith, m)); once = λ k e o m. absurd (omega (arith, m)) })
edges_so_far n ds (suc j) l bad refute =
    let d = here ds j (omega (arith, l)) in
    edges_so_far n ds j (omega (arith, l)) bad
    (λ xs s a. bad j (record { item = d.0; is = d.1; front = xs; before = s; edges = a; bad = λ new e h. refute (xs ++ new ∷ []) (next_spelled ds j xs d.0 new s d.1 e) (edges_more n xs new a h) }))

counted : (ps : List Pt) (es : List EdgeEnds) → (MOST_VERTICES < length ps) ⊎ (length ps ≤ MOST_VERTICES) → (MOST_EDGES < length es) ⊎ (length es ≤ MOST_EDGES) → (r : Option Refusal) × Counted ps es r
counted ps es (inl a) b = (Some (TooMany Vertices MOST_VERTICES), inl (a, refl))
counted ps es (inr a) (inl b) = (Some (TooMany Edges MOST_EDGES), inr (inl (a, b, refl)))
counted ps es (inr a) (inr b) = (None, inr (inr (a, b, refl)))

marked_out : (k : Keys) (ps : List Pt) (es : List EdgeEnds) (ds : List Data) → k.marks ≡ Some ds → ((ms : List Mark) × (all_of mark_of ds ≡ Some ms)) ⊎ ((e : ℕ) × IsFirstBad mark_of ds e)
    → (r : Option Refusal) × MarksOut k ps es r
marked_out k ps es ds e (inl m) =
    let c = counted ps es (cases_lt MOST_VERTICES (length ps)) (cases_lt MOST_EDGES (length es)) in
    (c.0, inr (Some m.0, rw (e, m.1) refl, c.1))
marked_out k ps es ds e (inr b) = (Some (BadMark b.0), inl (ds, b.0, e, b.1, refl))

marks_out : (k : Keys) (ps : List Pt) (es : List EdgeEnds) (o : Option (List Data)) → k.marks ≡ o → (r : Option Refusal) × MarksOut k ps es r
marks_out k ps es None e =
    let c = counted ps es (cases_lt MOST_VERTICES (length ps)) (cases_lt MOST_EDGES (length es)) in
    (c.0, inr (None, rw e refl, c.1))
marks_out k ps es (Some ds) e = marked_out k ps es ds e (all_or_first mark_of ds)

edges_out : (k : Keys) (ps : List Pt) → ((r : Option Refusal) → EdgesOut k ps r → ⊥) → ⊥
edges_out k ps none =
    edges_so_far (length ps) k.edges (length k.edges) (omega arith) (λ e bad. none (Some (BadEdge e)) (inl (e, bad, refl)))
    (λ es s a. let m = marks_out k ps es k.marks refl in
    none m.0 (inr (es, record { spelled = subst (λ (ds : List Data). all_of ends_of ds ≡ Some es) (take_all (length k.edges) k.edges (omega arith)) s; good = a }, m.1)))

points_out : (k : Keys) → ((ps : List Pt) × (all_of point_of k.vertices ≡ Some ps)) ⊎ ((v : ℕ) × IsFirstBad point_of k.vertices v) → ((r : Option Refusal) → PointsOut k r → ⊥) → ⊥
points_out k (inr b) none = none (Some (BadVertex b.0)) (inl (b.0, b.1, refl))
points_out k (inl p) none =
    near_so_far p.0 (length p.0) (omega arith) (λ v far. none (Some (FarVertex v)) (inr (inl (p.0, v, p.1, far, refl))))
    (λ near. edges_out k p.0 (λ r o. none r (inr (inr (p.0, record { spelled = p.1; near = near }, o)))))

pub some_out : (k : Keys) → ((r : Option Refusal) → PointsOut k r → ⊥) → ⊥
some_out k none = points_out k (all_or_first point_of k.vertices) none
