-- No point of an edge is strictly inside a ring that is convex, has no vertex inside and goes on at each corner as walks do.
-- From a point inside, the way to the edge's first end leaves the ring on its border; where edges meet at ends alone, it does so
-- at that end, a corner of the ring, and the edge would stand between the ring's two edges there.
use Rattle.std.proofs.Common.{◌≡◌, ◌⊎◌, inl, inr, ℕ, zero, suc, ◌<◌, List, [], ◌∷◌, arith, refl, sym, ap, ◌∙◌, subst, ℤ, pos, ◌+ℤ◌, ◌*ℤ◌, ◌<ℤ◌, ◌≤ℤ◌}
use lib.IntN.{neg_ℤ}
use Rattle.std.proofs.lemmas.Int.{ints}
use Rattle.std.specs.List.{All, Contains}
use Rattle.std.proofs.lemmas.List.Elements.{All-cons, All-head, All-tail, All-nil}
use Rattle.ff_basics.proofs.Numbers.{below_or_last}
use Rattle.ff_whole.proofs.Laws.{*ℤ-distrib_left}
use Rattle.ff_whole.proofs.Ring.{var, num, ◌⊕◌, ◌⊗◌, opp, solve}
use Rattle.ff_whole.proofs.Signs.{linear, pos-mul, nonneg-mul}
use Rattle.ff_whole.proofs.Turns.{height-through}
use Rattle.ff_whole.proofs.Combinations.{combine, height-combine}
use Rattle.ff_whole.proofs.Exits.{last, border_place}
use Rattle.ff_whole.proofs.OnEdges.{long_from_left, on-x, on-y}
use Rattle.ff_whole.proofs.Offsets.{past-sum}
use Rattle.ff_whole.proofs.ConvexBorders.{IsConvexRing, on_ring}
use Rattle.ff_whole.specs.declared.points.Pt.{Pt}
use Rattle.ff_whole.specs.declared.places.Place.{Place}
use Rattle.ff_whole.specs.declared.lines.Line.{Line}
use Rattle.ff_whole.specs.Points.{minus, dot, turn}
use Rattle.ff_whole.specs.Convex.{next}
use Rattle.ff_whole.specs.Places.{place_of, through, height, past}

-- ---- lists of lines

abbrev pub lines : (ℕ → Line) → ℕ → List Line
lines f zero = []
lines f (suc n) = f n ∷ lines f n

lines_all : (P : Line → Type 0) (f : ℕ → Line) (n : ℕ) → ((i : ℕ) → i < n → P (f i)) → All P (lines f n)
lines_all P f zero h = All-nil P
lines_all P f (suc n) h = All-cons P (f n) (lines f n) (h n (omega arith)) (lines_all P f n (λ i l. h i (omega (arith, l))))

lines_each : (P : Line → Type 0) (f : ℕ → Line) (n : ℕ) → All P (lines f n) → (i : ℕ) → i < n → P (f i)
lines_each P f zero h i l = absurd (omega (arith, l))
lines_each P f (suc n) h i l = elim (below_or_last n i l) [
  | inl m ↦ lines_each P f n (All-tail P (f n) (lines f n) h) i m
  | inr e ↦ subst (λ j. P (f j)) (sym e) (All-head P (f n) (lines f n) h)
]

line_in : (f : ℕ → Line) (n i : ℕ) → i < n → Contains (lines f n) (f i)
line_in f zero i l = absurd (omega (arith, l))
line_in f (suc n) i l = elim (below_or_last n i l) [
  | inl m ↦ let r = line_in f n i m in (suc r.0, (let s = r.1 in omega arith), r.2)
  | inr e ↦ (0, omega arith, ap f (sym e))
]

in_lines : (f : ℕ → Line) (n : ℕ) (k : Line) → Contains (lines f n) k → (i : ℕ) × (i < n) × (f i ≡ k)
in_lines f zero k h = let l = h.1 in absurd (omega arith)
in_lines f (suc n) k (zero, l, e) = (n, omega arith, e)
in_lines f (suc n) k (suc j, l, e) = let r = in_lines f n k (j, omega (arith, l), e) in (r.0, (let s = r.1 in omega arith), r.2)

-- ---- the law

-- the n vertices go round a convex ring
module _ (n : ℕ) (v : ℕ → Pt) (some : 0 < n) (ring : IsConvexRing n v) (a b : Pt) (s t : ℕ) where
  abbrev left : ℕ → Pt → ℤ
  left i p = turn (v i) (v (next n i)) p

  abbrev line : ℕ → Line
  line i = through (v i) (v (next n i))

  abbrev inner : Place
  inner = combine (pos s) (place_of a) (pos t) (place_of b)

  inner-height : (i : ℕ) → height (line i) inner ≡ pos s *ℤ left i a +ℤ pos t *ℤ left i b
  inner-height i = height-combine (line i) (pos s) (place_of a) (pos t) (place_of b)
      ∙ ap (λ z. pos s *ℤ z +ℤ pos t *ℤ height (line i) (place_of b)) (height-through (v i) (v (next n i)) a)
      ∙ ap (λ z. pos s *ℤ left i a +ℤ pos t *ℤ z) (height-through (v i) (v (next n i)) b)

  -- the point with weights x and y of an edge of the ring is that with weights sigma and tau of a and b
  pub record Leaves : Type 0 where
    pub edge : ℕ
    pub within : edge < n
    pub sigma : ℤ
    pub tau : ℤ
    pub x : ℤ
    pub y : ℤ
    pub sigma_pos : pos 0 <ℤ sigma
    pub tau_nonneg : pos 0 ≤ℤ tau
    pub x_nonneg : pos 0 ≤ℤ x
    pub y_nonneg : pos 0 ≤ℤ y
    pub sums : sigma +ℤ tau ≡ x +ℤ y
    pub same_x : sigma *ℤ a.x +ℤ tau *ℤ b.x ≡ x *ℤ (v edge).x +ℤ y *ℤ (v (next n edge)).x
    pub same_y : sigma *ℤ a.y +ℤ tau *ℤ b.y ≡ x *ℤ (v edge).y +ℤ y *ℤ (v (next n edge)).y

  -- a point inside, and a not: the way to a leaves the ring on one of its edges
  module _ (inside : (i : ℕ) → i < n → pos 0 <ℤ (pos s *ℤ left i a +ℤ pos t *ℤ left i b)) where
    inner_left : (i : ℕ) → i < n → pos 0 <ℤ height (line i) inner
    inner_left i l = let e = inner-height i in let h = inside i l in omega (arith, linear)

    -- where it leaves on the line of edge i
    exit_on : (i : ℕ) → i < n → height (line i) (place_of a) ≤ℤ pos 0 → height (line i) (last (line i) (place_of a) inner) ≡ pos 0
        → ((j : ℕ) → j < n → pos 0 ≤ℤ height (line j) (last (line i) (place_of a) inner)) → Leaves
    exit_on i l low on not_right =
        let m = last (line i) (place_of a) inner in
        let hq = height (line i) inner in
        let hp = height (line i) (place_of a) in
        let q = inner_left i l in
        let hs : pos 0 ≤ℤ pos s = omega (arith, ints) in
        let ht : pos 0 ≤ℤ pos t = omega (arith, ints) in
        let ps = nonneg-mul (neg_ℤ hp) (pos s) (omega (arith, linear)) hs in
        let pt = nonneg-mul (neg_ℤ hp) (pos t) (omega (arith, linear)) ht in
        let sigma0 = hq +ℤ neg_ℤ hp *ℤ pos s in
        let tau0 = neg_ℤ hp *ℤ pos t in
        let mw : m.w ≡ sigma0 +ℤ tau0 = solve (hq ∷ hp ∷ pos s ∷ pos t ∷ []) (var 0 ⊗ num (pos 1) ⊕ opp (var 1) ⊗ (var 2 ⊗ num (pos 1) ⊕ var 3 ⊗ num (pos 1))) ((var 0 ⊕ opp (var 1) ⊗ var 2) ⊕ opp (var 1) ⊗ var 3) refl in
        let w : pos 0 <ℤ m.w = omega (arith, linear) in
        let r = on_ring n v ring m w not_right i l on in
        let k = r.0 in
        let p = v k in
        let p' = v (next n k) in
        let d = dot (minus p' p) (minus p' p) in
        let o = ring.wide k r.1 in
        let long = long_from_left (minus p' p) (minus (v o.0) p) o.2 in
        let e = past-sum p p' m in
        let dw : d *ℤ m.w ≡ d *ℤ sigma0 +ℤ d *ℤ tau0 = ap (λ z. d *ℤ z) mw ∙ *ℤ-distrib_left d sigma0 tau0 in
        let mx : d *ℤ m.x ≡ (d *ℤ sigma0) *ℤ a.x +ℤ (d *ℤ tau0) *ℤ b.x = solve (hq ∷ hp ∷ pos s ∷ pos t ∷ d ∷ a.x ∷ b.x ∷ [])
        (var 4 ⊗ (var 0 ⊗ var 5 ⊕ opp (var 1) ⊗ (var 2 ⊗ var 5 ⊕ var 3 ⊗ var 6))) ((var 4 ⊗ (var 0 ⊕ opp (var 1) ⊗ var 2)) ⊗ var 5 ⊕ (var 4 ⊗ (opp (var 1) ⊗ var 3)) ⊗ var 6) refl in
        let my : d *ℤ m.y ≡ (d *ℤ sigma0) *ℤ a.y +ℤ (d *ℤ tau0) *ℤ b.y = solve (hq ∷ hp ∷ pos s ∷ pos t ∷ d ∷ a.y ∷ b.y ∷ [])
        (var 4 ⊗ (var 0 ⊗ var 5 ⊕ opp (var 1) ⊗ (var 2 ⊗ var 5 ⊕ var 3 ⊗ var 6))) ((var 4 ⊗ (var 0 ⊕ opp (var 1) ⊗ var 2)) ⊗ var 5 ⊕ (var 4 ⊗ (opp (var 1) ⊗ var 3)) ⊗ var 6) refl in
        let ox = on-x p p' m r.2 in
        let oy = on-y p p' m r.2 in
        record {
          edge = k;
          within = r.1;
          sigma = d *ℤ sigma0;
          tau = d *ℤ tau0;
          x = past p' p m;
          y = past p p' m;
          sigma_pos = pos-mul d sigma0 long (omega (arith, linear));
          tau_nonneg = nonneg-mul d tau0 (omega (arith, linear)) pt;
          x_nonneg = r.2.before;
          y_nonneg = r.2.after;
          sums = omega (arith, linear);
          same_x = omega (arith, linear);
          same_y = omega (arith, linear);
        }

    pub leaves : (k : ℕ) → k < n → left k a ≤ℤ pos 0 → Leaves
    leaves k l low = go n refl
      where
        go : (m : ℕ) → n ≡ m → Leaves
        go zero e = absurd (omega (arith, l, e))
        go (suc m) e =
            let all : All (λ j. pos 0 <ℤ height j inner) (lines line (suc m)) = lines_all (λ j. pos 0 <ℤ height j inner) line (suc m) (λ i h. inner_left i (omega (arith, h, e))) in
            let h = height-through (v k) (v (next n k)) a in
            by (border_place (line m) (lines line m) (place_of a) inner all (line k) (line_in line (suc m) k (omega (arith, l, e))) (omega (arith, linear)))
          where
            Low : Line → Type 0
            Low j = height j (place_of a) ≤ℤ pos 0

            There : Line → Type 0
            There j = height j (last j (place_of a) inner) ≡ pos 0

            NotRight : Line → Type 0
            NotRight j = All (λ o. pos 0 ≤ℤ height o (last j (place_of a) inner)) (lines line (suc m))

            at_edge : (i : ℕ) → i < n → Low (line i) → There (line i) → NotRight (line i) → Leaves
            at_edge i o low on right = exit_on i o low on (λ j h. lines_each (λ o. pos 0 ≤ℤ height o (last (line i) (place_of a) inner)) line (suc m) right j (omega (arith, h, e)))

            by : (j : Line) × Contains (lines line (suc m)) j × Low j × There j × NotRight j → Leaves
            by (j, c, low, on, right) = let i = in_lines line (suc m) j c in at_edge i.0 (let x = i.1 in omega (arith, e)) (subst Low (sym i.2) low) (subst There (sym i.2) on) (subst NotRight (sym i.2) right)
