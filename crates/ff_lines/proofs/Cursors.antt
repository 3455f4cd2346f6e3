-- Cursors of lines that go over the points.
use Rattle.std.proofs.Common.{◌≡◌, ◌≢◌, inl, inr, ℕ, ◌+◌, ◌<◌, ◌≤◌, arith, sym, ◌∙◌, subst, List, [], ◌∷◌, ◌++◌, length, length-set, slice_get, set, get_or-set_same, get_or-set_other, Some}
use Rattle.std.proofs.lemmas.List.{get_or_append_left, get_or_push}
use Rattle.std.proofs.lemmas.Option.{slice_get_within}
use Rattle.ff_basics.proofs.Numbers.{last_or, less_or}
use Rattle.ff_basics.proofs.Options.{same_value}
use Rattle.ff_whole.specs.declared.points.Pt.{Pt}
use Rattle.ff_lines.specs.declared.items.LineItem.{LineItem}
use Rattle.ff_lines.specs.Heads.{AreCursors, IsCursor, IsLast, IsNext, IsOnAt, cursor_at}

-- ---- one cursor

pub cursor_of_next : (l : LineItem) (points : List Pt) (a b : ℕ) → IsNext l points a b → IsCursor l points (a + 1) b
cursor_of_next l points a b h = record {
  from = (let o = h.order in omega (arith, o));
  on = λ i. h.b_on;
  none = λ x f g i. h.none x (omega (arith, f)) g;
}

pub cursor_of_last : (l : LineItem) (points : List Pt) (a : ℕ) → a < length points → IsLast l points a → IsCursor l points (a + 1) (length points)
cursor_of_last l points a inside h = record {
  from = omega (arith, inside);
  on = λ i. absurd (omega (arith, i));
  none = λ x f g i. h x (omega (arith, f)) i;
}

-- one that isn't at a goes on
pub cursor_past : (l : LineItem) (points : List Pt) (a c : ℕ) → IsCursor l points a c → c ≢ a → IsCursor l points (a + 1) c
cursor_past l points a c h d = record {
  from = (let f = h.from in elim (less_or a c) [ inl x ↦ omega (arith, x) | inr y ↦ elim y [ inl e ↦ absurd (d (sym e)) | inr z ↦ absurd (omega (arith, z, f)) ] ]);
  on = h.on;
  none = λ x f g i. h.none x (omega (arith, f)) g i;
}

-- and its line doesn't have the point a
pub cursor_off : (l : LineItem) (points : List Pt) (a c : ℕ) → a < length points → IsCursor l points a c → c ≢ a → IsOnAt l points a → ⊥
cursor_off l points a c inside h d = let f = (cursor_past l points a c h d).from in h.none a (omega arith) (omega (arith, f)) inside

-- ---- all cursors

module _ (lines : List LineItem) (i : ℕ) (points : List Pt) (a : ℕ) (cursors : List ℕ) (l : LineItem) (there : slice_get lines i ≡ Some l) (h : AreCursors lines i points a cursors) where
  pub here : IsCursor l points a (cursor_at cursors i)
  here = h.left i l (omega arith) there

  pub cursor_stays : IsCursor l points (a + 1) (cursor_at cursors i) → AreCursors lines (i + 1) points a cursors
  cursor_stays c = record {
    as_many = h.as_many;
    past = λ j m less is. elim (last_or j i less) [
      | inl x ↦ h.past j m x is
      | inr e ↦ subst (λ k. IsCursor m points (a + 1) (cursor_at cursors k)) (sym e) (subst (λ n. IsCursor n points (a + 1) (cursor_at cursors i)) (same_value there (subst (λ k. slice_get lines k ≡ Some m) e is)) c)
    ];
    left = λ j m from is. h.left j m (omega (arith, from)) is;
  }

  pub cursor_set : (b : ℕ) → IsCursor l points (a + 1) b → AreCursors lines (i + 1) points a (set cursors i b)
  cursor_set b c = record {
    as_many = length-set cursors i b ∙ h.as_many;
    past = λ j m less is. elim (last_or j i less) [
      | inl x ↦ subst (IsCursor m points (a + 1)) (sym (other j (λ e. omega (arith, x, e)))) (h.past j m x is)
      | inr e ↦ subst (λ k. IsCursor m points (a + 1) (cursor_at (set cursors i b) k)) (sym e) (subst (IsCursor m points (a + 1)) (sym same)
          (subst (λ n. IsCursor n points (a + 1) b) (same_value there (subst (λ k. slice_get lines k ≡ Some m) e is)) c))
    ];
    left = λ j m from is. subst (IsCursor m points a) (sym (other j (λ e. omega (arith, from, e)))) (h.left j m (omega (arith, from)) is);
  } where
    other : (j : ℕ) → j ≢ i → cursor_at (set cursors i b) j ≡ cursor_at cursors j
    other j d = get_or-set_other cursors i j b 0 d

    same : cursor_at (set cursors i b) i ≡ b
    same = get_or-set_same cursors i b 0 (let w = slice_get_within lines i l there in let n = h.as_many in omega (arith, w, n))

pub all_past : (lines : List LineItem) (n : ℕ) (points : List Pt) (a : ℕ) (cursors : List ℕ) → length lines ≤ n → AreCursors lines n points a cursors → AreCursors lines 0 points (a + 1) cursors
all_past lines n points a cursors end h = record {
  as_many = h.as_many;
  past = λ i l less is. absurd (omega (arith, less));
  left = λ i l from is. h.past i l (let w = slice_get_within lines i l is in omega (arith, w, end)) is;
}

-- ---- the first ones

pub cursors_more : (lines : List LineItem) (points : List Pt) (i : ℕ) (l : LineItem) (cursors : List ℕ) (c : ℕ) → length cursors ≡ i → slice_get lines i ≡ Some l
    → ((k : ℕ) (m : LineItem) → k < i → slice_get lines k ≡ Some m → IsCursor m points 0 (cursor_at cursors k)) → IsCursor l points 0 c
    → (k : ℕ) (m : LineItem) → k < i + 1 → slice_get lines k ≡ Some m → IsCursor m points 0 (cursor_at (cursors ++ c ∷ []) k)
cursors_more lines points i l cursors c n there h new k m less is = elim (last_or k i less) [
  | inl x ↦ subst (IsCursor m points 0) (sym (get_or_append_left cursors (c ∷ []) 0 k (omega (arith, x, n)))) (h k m x is)
  | inr e ↦ subst (IsCursor m points 0) (sym (get_or_push cursors c 0 k (n ∙ sym e))) (subst (λ z. IsCursor z points 0 c) (same_value there (subst (λ j. slice_get lines j ≡ Some m) e is)) new)
]
