-- One more bar, and one more ring of bars.
use Rattle.std.proofs.Common.{ℕ, zero, suc, ◌≡◌, ◌⊎◌, inl, inr, ◌+◌, ◌<◌, List, [], ◌∷◌, ◌++◌, length, arith, refl, sym, ap, subst, ◌∙◌, get_or, Bool, true, false}
use Rattle.std.proofs.lemmas.List.{get_or_default}
use Rattle.std.specs.List.{Contains}
use Rattle.std.proofs.lemmas.List.Elements.{Contains-append_left, Contains-append_right, Contains-append_cases}
use Rattle.ff_basics.proofs.Numbers.{last_or}
use Rattle.ff_whole.specs.declared.points.Pt.{Pt}
use Rattle.ff_types.specs.Faces.{ring_at}
use Rattle.ff_types.specs.Foldings.{is_up}
use Rattle.ff_cells.specs.declared.bars.Bar.{Bar}
use Rattle.ff_cells.specs.Steps.{IsBarOf, AddsBar, step_at, HasBar, AddsSteps, AreRingBars}

no_less : (i : ℕ) → i < 0 → ⊥
no_less i h = omega (arith, h)

only_one : {X : Type 0} (x y : X) → Contains (x ∷ []) y → x ≡ y
only_one x y (zero, lt, e) = e
only_one x y (suc k, lt, e) = absurd (omega (arith, lt))

has_more : {X : Type 0} (xs : List X) (x : X) → Contains (xs ++ x ∷ []) x
has_more xs x = Contains-append_right xs (x ∷ []) x (0, omega arith, refl)

pub adds_none : (points : List Pt) (ring : List ℕ) (up : Bool) (face : ℕ) (bars : List Bar)
    → AddsSteps points ring up face 0 bars bars
adds_none points ring up face bars = record {
  kept = λ b h. h;
  each = λ b h. inl h;
  all = λ i h. absurd (no_less i h);
}

pub adds_one : (points : List Pt) (ring : List ℕ) (up : Bool) (face n : ℕ) (old mid new : List Bar)
    → AddsSteps points ring up face n old mid → AddsBar (step_at points ring up n) face mid new
    → AddsSteps points ring up face (n + 1) old new
adds_one points ring up face n old mid new a (inl (flat, same)) = record {
  kept = λ b h. subst (λ bs. Contains bs b) (sym same) (a.kept b h);
  each = λ b h. elim (a.each b (subst (λ bs. Contains bs b) same h))
      [ inl o ↦ inl o | inr (i, lt, s) ↦ inr (i, omega (arith, lt), s) ];
  all = λ i lt. elim (last_or i n lt) [
    | inl l ↦ subst (HasBar points ring up face i) (sym same)
        (a.all i l)
    | inr e ↦ inl (subst (λ k. (step_at points ring up k).0.x ≡ (step_at points ring up k).1.x)
        (sym e) flat)
  ];
}
adds_one points ring up face n old mid new a (inr (bar, is, s)) = record {
  kept = λ b h. into b (a.kept b h);
  each = λ b h. elim (Contains-append_cases mid (bar ∷ []) b (subst (λ bs. Contains bs b) is h)) [
    | inl m ↦ elim (a.each b m) [ inl o ↦ inl o | inr (i, lt, t) ↦ inr (i, omega (arith, lt), t) ]
    | inr m ↦ inr (
      n,
      omega arith,
      subst (IsBarOf (step_at points ring up n).0
          (step_at points ring up n).1 face) (only_one bar b m) s,
    )
  ];
  all = λ i lt. elim (last_or i n lt) [
    | inl l ↦ older i (a.all i l)
    | inr e ↦ subst
        (λ k. HasBar points ring up face k new) (sym e) (inr (
          bar,
          subst (λ bs. Contains bs bar) (sym is) (has_more mid bar),
          s,
        ))
  ];
}
  where
    into : (b : Bar) → Contains mid b → Contains new b
    into b m = subst (λ bs. Contains bs b) (sym is) (Contains-append_left mid (bar ∷ []) b m)

    older : (i : ℕ) → HasBar points ring up face i mid → HasBar points ring up face i new
    older i (inl f) = inl f
    older i (inr (b, m, t)) = inr (b, into b m, t)

pub rings_none : (points : List Pt) (rings : List (List ℕ)) (up : List Bool) (bars : List Bar) → bars ≡ []
    → AreRingBars points rings up 0 bars
rings_none points rings up bars e = record {
  each = λ b h. absurd (none b h);
  all = λ f i h l. absurd (no_less f h);
}
  where
    none : (b : Bar) → Contains bars b → ⊥
    none b (k, lt, q) = let l : length bars ≡ 0 = ap length e in omega (arith, lt, l)

pub rings_one : (points : List Pt) (rings : List (List ℕ)) (up : List Bool) (n : ℕ) (old new : List Bar)
    → AreRingBars points rings up n old
    → AddsSteps points (ring_at rings n) (is_up up n) n (length (ring_at rings n)) old new
    → AreRingBars points rings up (n + 1) new
rings_one points rings up n old new r a = record {
  each = λ b h. elim (a.each b h) [
    | inl o ↦ (let e = r.each b o in (e.0, omega (arith, e.1), e.2, e.3))
    | inr (i, lt, s) ↦ (let f = s.face_is in (
      i,
      omega (arith, f),
      subst (λ k. i < length (ring_at rings k))
          (sym f) lt,
      subst (λ k. IsBarOf (step_at points (ring_at rings k) (is_up up k) i).0
          (step_at points (ring_at rings k) (is_up up k) i).1 k b) (sym f) s,
    ))
  ];
  all = λ f i h l. elim (last_or f n h) [
    | inl m ↦ older f i (r.all f i m l)
    | inr e ↦ subst (λ k. HasBar points (ring_at rings k) (is_up up k) k i new) (sym e)
        (a.all i (subst (λ k. i < length (ring_at rings k)) e l))
  ];
}
  where
    older : (f i : ℕ) → HasBar points (ring_at rings f) (is_up up f) f i old
        → HasBar points (ring_at rings f) (is_up up f) f i new
    older f i (inl q) = inl q
    older f i (inr (b, m, t)) = inr (b, a.kept b m, t)

-- the same, where the lists are given by other names
pub face_added : (points ps : List Pt) (rings : List (List ℕ)) (ring : List ℕ) (ups us : List Bool) (f : ℕ)
    (old new : List Bar) → ps ≡ points → ring ≡ ring_at rings f → us ≡ ups → f < length ups
    → AreRingBars points rings ups f old → AddsSteps ps ring (get_or us f false) f (length ring) old new
    → AreRingBars points rings ups (f + 1) new
face_added points ps rings ring ups us f old new ep er eu lt r a = rings_one points rings ups f old new r
    (subst (λ p. AddsSteps p (ring_at rings f) (is_up ups f) f (length (ring_at rings f)) old new) ep
    (subst (λ l. AddsSteps ps l (is_up ups f) f (length l) old new) er
    (subst (λ u. AddsSteps ps ring u f (length ring) old new)
    (ap (λ l. get_or l f false) eu ∙ get_or_default ups f false true lt) a)))
