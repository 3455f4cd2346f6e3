-- One more bar, and the faces that are open past it.
use Rattle.std.proofs.Common.{ℕ, suc, ◌≡◌, ◌⊎◌, ◌↔◌, inl, inr, ◌+◌, ◌<◌, List, [], ◌∷◌, length, get_or, arith, refl, sym, ap, subst, ◌∙◌, Bool, true, false, true≢false}
use Rattle.std.specs.List.{Contains}
use Rattle.std.proofs.lemmas.List.{get_or_default}
use Rattle.ff_cells.specs.declared.bars.Bar.{Bar}
use Rattle.ff_cells.specs.Pass.{IsPassed}
use borrow.Author.Tests.{eqb-true, eqb-false}
use Rattle.std.specs.Bool.{◌==◌}
use Rattle.std.proofs.Common.{◌++◌, append_assoc, append-nil, pos}
use Rattle.ff_cells.specs.declared.found.Found.{Found}
use Rattle.ff_cells.specs.Tally.{IsTally, Adds}
use Rattle.ff_whole.specs.declared.places.Place.{Place}
use Rattle.ff_cells.specs.declared.cell.Cell.{Cell}
use Rattle.ff_cells.specs.Gap.{gap}
use Rattle.ff_cells.specs.Emits.{IsCellAt, HasNone, IsEmitted}
use Rattle.ff_cells.specs.Next.{IsOpenAfter}

pub none_open : (v : List Bar) (f : ℕ) → IsOpenAfter v 0 f → ⊥
none_open v f o = let a = o.first in omega arith

module _ (v : List Bar) (i : ℕ) (b : Bar) (lt : i < length v) (is : get_or v i b ≡ b) where
  in_reach : (k : ℕ) → k < i + 1 → (k < i) ⊎ (k ≡ i)
  in_reach k h = grind arith

  at_i : (k : ℕ) (d : Bar) → k ≡ i → get_or v k d ≡ b
  at_i k d e = ap (λ j. get_or v j d) e ∙ get_or_default v i d b lt ∙ is

  -- a face that was open stays so where the bar doesn't close it
  stays : (f : ℕ) → IsOpenAfter v i f → (b.face ≡ f → b.lower ≡ false → ⊥) → IsOpenAfter v (i + 1) f
  stays f o keep = record {
    at = o.at;
    by = o.by;
    within = o.within;
    first = (let a = o.first in omega arith);
    by_is = o.by_is;
    by_lower = o.by_lower;
    by_face = o.by_face;
    none = none;
  }
    where
      none : (k : ℕ) (d : Bar) → o.at < k → k < i + 1 → k < length v → (get_or v k d).face ≡ f
          → (get_or v k d).lower ≡ false → ⊥
      none k d a h l face upper = elim (in_reach k h) [
        | inl c ↦ o.none k d a c l face upper
        | inr e ↦ keep (ap (λ (x : Bar). x.face) (sym (at_i k d e)) ∙ face)
            (ap (λ (x : Bar). x.lower) (sym (at_i k d e)) ∙ upper)
      ]

  opened : (f : ℕ) → b.lower ≡ true → f ≡ b.face → IsOpenAfter v (i + 1) f
  opened f low e = record {
    at = i;
    by = b;
    within = lt;
    first = omega arith;
    by_is = is;
    by_lower = low;
    by_face = sym e;
    none = λ k d a h l face upper. absurd (no k a h);
  }
    where
      no : (k : ℕ) → i < k → k < i + 1 → ⊥
      no k a h = omega arith

  -- what is open past the bar was open before it and not closed by it, or is opened by it
  was : (f : ℕ) → IsOpenAfter v (i + 1) f → (IsOpenAfter v i f × (b.face ≡ f → b.lower ≡ false → ⊥))
      ⊎ ((b.lower ≡ true) × (f ≡ b.face))
  was f o = elim (in_reach o.at o.first) [
    | inl h ↦ inl (
      record {
        at = o.at;
        by = o.by;
        within = o.within;
        first = h;
        by_is = o.by_is;
        by_lower = o.by_lower;
        by_face = o.by_face;
        none = λ k d a g l face upper. o.none k d a (omega arith) l face upper;
      },
      λ face upper. o.none i b h (omega arith) lt (ap (λ (x : Bar). x.face) is ∙ face)
          (ap (λ (x : Bar). x.lower) is ∙ upper),
    )
    | inr e ↦ (let same : o.by ≡ b = sym o.by_is ∙ at_i o.at o.by e in
        inr (
          ap (λ (x : Bar). x.lower) (sym same) ∙ o.by_lower,
          sym o.by_face
              ∙ ap (λ (x : Bar). x.face) same,
        ))
  ]

  pub passed : (xs zs : List ℕ) → ((f : ℕ) → Contains xs f ↔ IsOpenAfter v i f)
      → ((f : ℕ) → Contains zs f ↔ IsPassed b.face b.lower xs f) → (f : ℕ)
      → Contains zs f ↔ IsOpenAfter v (i + 1) f
  passed xs zs before step f = (
    λ c. out b.lower refl ((step f).0 c),
    λ o. (step f).1 (back b.lower refl (was f o)),
  )
    where
      out : (t : Bool) → b.lower ≡ t → IsPassed b.face t xs f → IsOpenAfter v (i + 1) f
      out true e (inl h) = opened f e h
      out true e (inr m) = stays f ((before f).0 m) (λ face upper. true≢false (sym e ∙ upper))
      out false e (m, n) = stays f ((before f).0 m) (λ face upper. n (sym face))

      back : (t : Bool) → b.lower ≡ t → (IsOpenAfter v i f × (b.face ≡ f → b.lower ≡ false → ⊥))
          ⊎ ((b.lower ≡ true) × (f ≡ b.face)) → IsPassed b.face t xs f
      back true e (inl (o, k)) = inr ((before f).1 o)
      back true e (inr (l, h)) = inl h
      back false e (inl (o, k)) = ((before f).1 o, λ h. k (sym h) e)
      back false e (inr (l, h)) = absurd (true≢false (sym l ∙ e))

-- the cells of the first n gaps are found besides
abbrev pub Emitted : List Bar → Place → Place → ℕ → Found → Found → Type 0
Emitted v left right n start found = (more : List Cell) × Adds start more found
    × IsEmitted v left right n more

pub emit_start : (v : List Bar) (left right : Place) (found : Found) → Emitted v left right 0 found found
emit_start v left right found = ([], λ all t. subst (λ zs. IsTally zs found) (sym (append-nil all)) t, refl)

pub emit_none : (v : List Bar) (left right : Place) (n : ℕ) (start found : Found)
    → Emitted v left right n start found → HasNone v left right n → Emitted v left right (n + 1) start found
emit_none v left right n start found (more, e, m) h = let s : suc n ≡ n + 1 = omega arith in
    (more, e, subst (λ k. IsEmitted v left right k more) s (inl (m, h)))

pub emit_one : (v : List Bar) (left right : Place) (n : ℕ) (start mid found : Found) (c : Cell)
    → Emitted v left right n start mid → Adds mid (c ∷ []) found → IsCellAt v left right n c
    → Emitted v left right (n + 1) start found
emit_one v left right n start mid found c (more, e, m) a h =
    let s : suc n ≡ n + 1 = omega arith in (
      more ++ c ∷ [],
      λ all t. subst (λ zs. IsTally zs found) (append_assoc all more (c ∷ [])) (a (all ++ more) (e all t)),
      subst (λ k. IsEmitted v left right k (more ++ c ∷ [])) s (inr (more, c, refl, m, h)),
    )

-- no face is open where the list of open faces is empty
pub none_of_empty : (v : List Bar) (left right : Place) (n : ℕ) (xs : List ℕ)
    → ((f : ℕ) → Contains xs f ↔ IsOpenAfter v n f) → length xs ≡ 0 → HasNone v left right n
none_of_empty v left right n xs h e = inr (inl (λ f o. (let m = (h f).1 o in empty m)))
  where
    empty : {f : ℕ} → Contains xs f → ⊥
    empty (k, lt, q) = omega (arith, e)

pub none_of_same : (v : List Bar) (left right : Place) (n : ℕ) (low high : Bar) → n < length v
    → ((k : ℕ) → k + 1 ≡ n → get_or v k low ≡ low) → get_or v n high ≡ high
    → (gap low.line high.line left ≡ pos 0) × (gap low.line high.line right ≡ pos 0) → HasNone v left right n
none_of_same v left right n low high lt lo hi h = inr (inr (λ k e d.
    (let a : low ≡ get_or v k d = sym (lo k e) ∙ get_or_default v k low d (omega arith) in
    let b : high ≡ get_or v n d = sym hi ∙ get_or_default v n high d lt in
    subst (λ (x : Bar). (gap x.line (get_or v n d).line left ≡ pos 0)
    × (gap x.line (get_or v n d).line right ≡ pos 0)) a
    (subst (λ (y : Bar). (gap low.line y.line left ≡ pos 0) × (gap low.line y.line right ≡ pos 0)) b h))))

pub empty_of_test : (n m : ℕ) (b : Bool) → n ≡ m → b ≡ (n == 0) → b ≡ true → m ≡ 0
empty_of_test n m b e h t = sym e ∙ eqb-true n 0 (sym h ∙ t)

pub some_of_test : (n m : ℕ) (b : Bool) → n ≡ m → b ≡ (n == 0) → b ≡ false → 0 < m
some_of_test n m b e h t = let f = eqb-false n 0 (sym h ∙ t) in omega (arith, e, f)
