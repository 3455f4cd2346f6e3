-- Edges of a list don't cross where those of its two parts don't.
use Rattle.std.proofs.Common.{◌≡◌, ◌⊎◌, inl, inr, ℕ, ◌+◌, ◌<◌, ◌≤◌, Bool, true, false, List, [], ◌∷◌, ◌++◌, length, arith, sym, ◌∙◌, subst, ℤ, ◌<ℤ◌, ◌≤ℤ◌}
use Rattle.std.proofs.lemmas.Int.{by_lt_z}
use Rattle.std.specs.List.{Contains}
use Rattle.std.proofs.lemmas.List.{get_or_default}
use Rattle.std.proofs.lemmas.List.Elements.{Contains-get_or, Contains-push, Contains-append_left, Contains-push_cases}
use Rattle.ff_basics.proofs.Numbers.{last_or}
use Rattle.ff_whole.specs.declared.points.Pt.{Pt}
use Rattle.ff_whole.proofs.Signs.{linear}
use Rattle.ff_types.specs.declared.patterns.EdgeEnds.{EdgeEnds}
use Rattle.ff_drawn.specs.declared.extents.Extent.{Extent}
use Rattle.ff_drawn.specs.Extents.{extent_at, IsAroundEdge, AreRound, AreNotCrossing, NoneCross, IsBeyond, Reaches, IsPart}
use Rattle.ff_drawn.proofs.EdgeExtents.{apart_in_x, apart_in_y, turned}

-- ---- a part, extent by extent

pub record IsPartTo (P : Extent → Type 0) (list : List Extent) (n : ℕ) (part : List Extent) : Type 0 where
  pub only : (e : Extent) → Contains part e → Contains list e
  pub all : (k : ℕ) → k < n → P (extent_at list k) → Contains part (extent_at list k)

module _ (P : Extent → Type 0) (list : List Extent) where
  pub part_skips : (n : ℕ) (part : List Extent) → IsPartTo P list n part → (P (extent_at list n) → ⊥) → IsPartTo P list (n + 1) part
  part_skips n part h not = record {
    only = h.only;
    all = λ k l p. elim (last_or k n l) [ inl m ↦ h.all k m p | inr e ↦ absurd (not (subst (λ j. P (extent_at list j)) e p)) ];
  }

  pub part_takes : (n : ℕ) (part : List Extent) → n < length list → IsPartTo P list n part → IsPartTo P list (n + 1) (part ++ extent_at list n ∷ [])
  part_takes n part l h = record {
    only = λ e m. elim (Contains-push_cases part (extent_at list n) e m) [
      | inl o ↦ h.only e o
      | inr q ↦ subst (Contains list) q (Contains-get_or list n _ l)
    ];
    all = λ k m p. elim (last_or k n m) [
      | inl o ↦ Contains-append_left part (extent_at list n ∷ []) _ (h.all k o p)
      | inr q ↦ subst (λ j. Contains (part ++ extent_at list n ∷ []) (extent_at list j)) (sym q) (Contains-push part (extent_at list n))
    ];
  }

  pub whole_part : (n : ℕ) (part : List Extent) → length list ≤ n → IsPartTo P list n part → IsPart P list part
  whole_part n part l h = record {
    only = h.only;
    all = λ e m p. let q = get_or_default list m.0 _ e m.1 ∙ m.2 in
        subst (Contains part) q (h.all m.0 (let o = m.1 in omega (arith, o, l)) (subst P (sym q) p));
  }

-- ---- both parts

pub round_part : (points : List Pt) (edges : List EdgeEnds) (P : Extent → Type 0) (list part : List Extent) → AreRound points edges list → IsPart P list part → AreRound points edges part
round_part points edges P list part a h i l = let m = h.only (extent_at part i) (Contains-get_or part i _ l) in
    subst (IsAroundEdge points edges) (get_or_default list m.0 _ (extent_at part i) m.1 ∙ m.2) (a m.0 m.1)

round_at : (points : List Pt) (edges : List EdgeEnds) (list : List Extent) (e : Extent) → AreRound points edges list → Contains list e → IsAroundEdge points edges e
round_at points edges list e a m = subst (IsAroundEdge points edges) (get_or_default list m.0 _ e m.1 ∙ m.2) (a m.0 m.1)

beyond_or : (upright : Bool) (at : Pt) (e : Extent) → IsBeyond upright at e ⊎ (IsBeyond upright at e → ⊥)
beyond_or true at e = by_lt_z at.x e.low.x inl (λ l. inr (λ m. omega (arith, linear, l, m)))
beyond_or false at e = by_lt_z at.y e.low.y inl (λ l. inr (λ m. omega (arith, linear, l, m)))

reaches_or : (upright : Bool) (at : Pt) (e : Extent) → Reaches upright at e ⊎ (Reaches upright at e → ⊥)
reaches_or true at e = by_lt_z at.x e.high.x inl (λ l. inr (λ m. omega (arith, linear, l, m)))
reaches_or false at e = by_lt_z at.y e.high.y inl (λ l. inr (λ m. omega (arith, linear, l, m)))

not_less : (a b : ℤ) → (a <ℤ b → ⊥) → b ≤ℤ a
not_less a b h = by_lt_z a b (λ l. absurd (h l)) (λ l. l)

-- what is beyond the line reaches beyond it
beyond_reaches : (points : List Pt) (edges : List EdgeEnds) (upright : Bool) (at : Pt) (e : Extent) → IsAroundEdge points edges e → IsBeyond upright at e → Reaches upright at e
beyond_reaches points edges true at e a l = let w = a.first.west in let x = a.first.east in omega (arith, linear, l, w, x)
beyond_reaches points edges false at e a l = let w = a.first.south in let x = a.first.north in omega (arith, linear, l, w, x)

-- and lies apart from what doesn't reach beyond it
beyond_apart : (points : List Pt) (edges : List EdgeEnds) (upright : Bool) (at : Pt) (e k : Extent) → IsAroundEdge points edges e → IsAroundEdge points edges k → (Reaches upright at e → ⊥) → IsBeyond upright at k
    → AreNotCrossing points edges e.number k.number
beyond_apart points edges true at e k a b n l = let m = not_less at.x e.high.x n in apart_in_x points edges e k a b (omega (arith, linear, l, m))
beyond_apart points edges false at e k a b n l = let m = not_less at.y e.high.y n in apart_in_y points edges e k a b (omega (arith, linear, l, m))

pub none_in_parts : (points : List Pt) (edges : List EdgeEnds) (upright : Bool) (at : Pt) (list lower upper : List Extent) → AreRound points edges list
    → IsPart (λ e. IsBeyond upright at e → ⊥) list lower → IsPart (Reaches upright at) list upper → NoneCross points edges lower → NoneCross points edges upper → NoneCross points edges list
none_in_parts points edges upright at list lower upper a low up none nope e k m n =
    let x = round_at points edges list e a m in
    let y = round_at points edges list k a n in
    elim (beyond_or upright at e) [
      | inl b ↦ elim (reaches_or upright at k) [
        | inl r ↦ nope e k (up.all e m (beyond_reaches points edges upright at e x b)) (up.all k n r)
        | inr r ↦ turned (beyond_apart points edges upright at k e y x r b)
      ]
      | inr b ↦ elim (beyond_or upright at k) [
        | inl d ↦ elim (reaches_or upright at e) [
          | inl r ↦ nope e k (up.all e m r) (up.all k n (beyond_reaches points edges upright at k y d))
          | inr r ↦ beyond_apart points edges upright at e k x y r d
        ]
        | inr d ↦ none e k (low.all e m b) (low.all k n d)
      ]
    ]
