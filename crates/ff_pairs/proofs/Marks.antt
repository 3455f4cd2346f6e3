-- Pairs marked in a table of flags, one after the other.
use Rattle.std.proofs.Common.{◌≡◌, ℕ, ◌+◌, ◌*◌, ◌/◌, ◌<◌, ◌⊎◌, ◌↔◌, Bool, true, false, List, length, get_or, set, refl, sym, ◌∙◌, ap, subst, inl, inr, arith, IsTrue, Some, slice_get}
use mathlib.Core.Logic.{dite}
use native.Mathlib.Decide.{ℕ_discrete}
use Rattle.std.proofs.Math.ListN.{length-set}
use Rattle.std.proofs.lemmas.Nat.{div-mul-add, mul-add-lt}
use Rattle.std.proofs.lemmas.Grind.{get_or-set_at}
use Rattle.std.proofs.lemmas.List.{get_or-set_other, get_or_default}
use Rattle.ff_basics.proofs.Numbers.{last_or}
use Rattle.ff_cells.specs.declared.cell.Cell.{Cell}
use Rattle.ff_pairs.specs.Tables.{is_marked, Adds, StandsAt, IsBehind, IsAhead, IsOrdered, IsInCells}

same_index : (w f h a b : ℕ) → h < w → b < w → f * w + h ≡ a * w + b → (f ≡ a) × (h ≡ b)
same_index w f h a b l m e =
    let d : f ≡ a = sym (div-mul-add f w h l) ∙ ap (λ n. n / w) e ∙ div-mul-add a w b m in
    let p : f * w ≡ a * w = ap (λ n. n * w) d in
    (d, omega (arith, e, p))

-- one pair is marked
pub mark_one : (w : ℕ) (table : List Bool) (a b : ℕ) → a < w → b < w → length table ≡ w * w
    → Adds w table (set table (a * w + b) true) (λ f h. (f ≡ a) × (h ≡ b))
mark_one w table a b l m size = record { long = length-set table (a * w + b) true; adds = adds } where
  within : a * w + b < length table
  within = subst (λ n. a * w + b < n) (sym size) (mul-add-lt a w b w l m)

  adds : (f h : ℕ) → f < w → h < w → IsTrue (is_marked w (set table (a * w + b) true) f h) ↔ (IsTrue (is_marked w table f h) ⊎ ((f ≡ a) × (h ≡ b)))
  adds f h p q = dite (ℕ_discrete (f * w + h) (a * w + b))
      (λ e. (λ t. inr (same_index w f h a b q m e), λ t. get_or-set_at table (a * w + b) (f * w + h) true false e within))
      (λ e. let o = get_or-set_other table (a * w + b) (f * w + h) true false e in
      (λ t. inl (sym o ∙ t), λ t. elim t [ inl u ↦ o ∙ u | inr u ↦ absurd (e (λ i. u.0 i * w + u.1 i)) ]))

-- nothing is
pub mark_none : (w : ℕ) (table : List Bool) (Related : ℕ → ℕ → Type 0) → ((f h : ℕ) → Related f h → ⊥) → Adds w table table Related
mark_none w table Related none = record { long = refl; adds = λ f h p q. (λ t. inl t, λ t. elim t [ inl u ↦ u | inr u ↦ absurd (none f h u) ]) }

-- some pairs, and then more
pub mark_more : (w : ℕ) (old mid new : List Bool) (R S T : ℕ → ℕ → Type 0) → Adds w old mid R → Adds w mid new S
    → ((f h : ℕ) → T f h ↔ (R f h ⊎ S f h)) → Adds w old new T
mark_more w old mid new R S T a b k = record { long = b.long ∙ a.long; adds = λ f h p q. (there f h p q, back f h p q) } where
  there : (f h : ℕ) → f < w → h < w → IsTrue (is_marked w new f h) → IsTrue (is_marked w old f h) ⊎ T f h
  there f h p q t = elim ((b.adds f h p q).0 t) [
    | inl u ↦ elim ((a.adds f h p q).0 u) [ inl v ↦ inl v | inr v ↦ inr ((k f h).1 (inl v)) ]
    | inr u ↦ inr ((k f h).1 (inr u))
  ]

  back : (f h : ℕ) → f < w → h < w → IsTrue (is_marked w old f h) ⊎ T f h → IsTrue (is_marked w new f h)
  back f h p q (inl t) = (b.adds f h p q).1 (inl ((a.adds f h p q).1 (inl t)))
  back f h p q (inr t) = elim ((k f h).0 t) [
    | inl u ↦ (b.adds f h p q).1 (inl ((a.adds f h p q).1 (inr u)))
    | inr u ↦ (b.adds f h p q).1 (inr u)
  ]

-- ---- the faces behind one of a list

pub none_behind : (faces : List ℕ) (i f h : ℕ) → IsBehind faces i (i + 1) f h → ⊥
none_behind faces i f h (s, (k, l, m, t)) = omega (arith, l, m)

pub stands_is : (xs : List ℕ) (k x : ℕ) → StandsAt xs k x → x ≡ get_or xs k 0
stands_is xs k x (l, e) = sym e ∙ get_or_default xs k x 0 l

is_stands : (xs : List ℕ) (k x : ℕ) → k < length xs → x ≡ get_or xs k 0 → StandsAt xs k x
is_stands xs k x l e = (l, get_or_default xs k x 0 l ∙ sym e)

pub more_behind : (faces : List ℕ) (i j f h : ℕ) → i < j → j < length faces
    → IsBehind faces i (j + 1) f h ↔ (IsBehind faces i j f h ⊎ ((f ≡ get_or faces i 0) × (h ≡ get_or faces j 0)))
more_behind faces i j f h lt within = (there, back) where
  there : IsBehind faces i (j + 1) f h → IsBehind faces i j f h ⊎ ((f ≡ get_or faces i 0) × (h ≡ get_or faces j 0))
  there (s, (k, l, m, t)) = elim (last_or k j m) [ inl e ↦ inl (s, (k, l, e, t)) | inr e ↦ inr (stands_is faces i f s, stands_is faces j h (subst (λ n. StandsAt faces n h) e t)) ]

  back : IsBehind faces i j f h ⊎ ((f ≡ get_or faces i 0) × (h ≡ get_or faces j 0)) → IsBehind faces i (j + 1) f h
  back (inl (s, (k, l, m, t))) = (s, (k, l, omega (arith, m), t))
  back (inr (s, t)) = (is_stands faces i f (omega (arith, lt, within)) s, (j, lt, omega arith, is_stands faces j h within t))

-- ---- the faces before one of a list

pub none_ahead : (faces : List ℕ) (i f h : ℕ) → IsAhead faces i 0 f h → ⊥
none_ahead faces i f h (s, (k, l, m, t)) = omega (arith, m)

pub more_ahead : (faces : List ℕ) (i j f h : ℕ) → j < i → i < length faces
    → IsAhead faces i (j + 1) f h ↔ (IsAhead faces i j f h ⊎ ((f ≡ get_or faces j 0) × (h ≡ get_or faces i 0)))
more_ahead faces i j f h lt within = (there, back) where
  there : IsAhead faces i (j + 1) f h → IsAhead faces i j f h ⊎ ((f ≡ get_or faces j 0) × (h ≡ get_or faces i 0))
  there (s, (k, l, m, t)) = elim (last_or k j m) [ inl e ↦ inl (s, (k, l, e, t)) | inr e ↦ inr (stands_is faces j f (subst (λ n. StandsAt faces n f) e t), stands_is faces i h s) ]

  back : IsAhead faces i j f h ⊎ ((f ≡ get_or faces j 0) × (h ≡ get_or faces i 0)) → IsAhead faces i (j + 1) f h
  back (inl (s, (k, l, m, t))) = (s, (k, l, omega (arith, m), t))
  back (inr (s, t)) = (is_stands faces i h within t, (j, lt, omega arith, is_stands faces j f (omega (arith, lt, within)) s))

-- ---- the pairs of the cells

same_cell : (c d : Cell) → Some c ≡ Some d → c ≡ d
same_cell c d e = cc

pub more_in_cells : (cells : List Cell) (n : ℕ) (c : Cell) (f h : ℕ) → slice_get cells n ≡ Some c
    → IsInCells cells (n + 1) f h ↔ (IsInCells cells n f h ⊎ IsOrdered c.faces (length c.faces) f h)
more_in_cells cells n c f h at = (there, back) where
  there : IsInCells cells (n + 1) f h → IsInCells cells n f h ⊎ IsOrdered c.faces (length c.faces) f h
  there (k, d, l, e, o) = elim (last_or k n l) [
    | inl m ↦ inl (k, d, m, e, o)
    | inr m ↦ inr (subst (λ (z : Cell). IsOrdered z.faces (length z.faces) f h) (same_cell d c (sym e ∙ ap (slice_get cells) m ∙ at)) o)
  ]

  back : IsInCells cells n f h ⊎ IsOrdered c.faces (length c.faces) f h → IsInCells cells (n + 1) f h
  back (inl (k, d, l, e, o)) = (k, d, omega (arith, l), e, o)
  back (inr o) = (n, c, omega arith, at, o)
