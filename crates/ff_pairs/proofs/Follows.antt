-- The pairs of a cell that follows another one.
use Rattle.std.proofs.Common.{◌≡◌, ℕ, ◌+◌, ◌<◌, ◌≤◌, ◌⊎◌, Bool, List, length, get_or, refl, sym, ◌∙◌, ap, subst, inl, inr, arith, IsTrue}
use Rattle.std.specs.List.{Contains}
use Rattle.std.specs.List.Sorted.{IsStrictlyIncreasing}
use Rattle.std.proofs.lemmas.List.Kept.{AllPairs-from_increasing}
use Rattle.ff_basics.proofs.Numbers.{last_or}
use Rattle.ff_pairs.specs.Tables.{is_marked, Adds, StandsAt, IsAside, IsOrdered, AreAllMarked}
use Rattle.ff_pairs.proofs.Marks.{stands_is}

-- ---- the order of a list

falls : (xs : List ℕ) (i j f h : ℕ) → IsStrictlyIncreasing xs → StandsAt xs i f → StandsAt xs j h → i < j → f < h
falls xs i j f h up s t lt = rw (stands_is xs i f s, stands_is xs j h t) (AllPairs-from_increasing xs up i j 0 lt t.0)

rises : (xs : List ℕ) (i j f h : ℕ) → IsStrictlyIncreasing xs → StandsAt xs i f → StandsAt xs j h → f < h → i < j
rises xs i j f h up s t lt = by where
  same : i ≡ j → f ≡ h
  same e = stands_is xs i f s ∙ ap (λ k. get_or xs k 0) e ∙ sym (stands_is xs j h t)

  by : i < j
  by = elim (either i j) [ inl k ↦ k | inr k ↦ absurd (elim k [ inl e ↦ (let d = same e in omega (arith, lt, d)) | inr e ↦ (let d = falls xs j i h f up t s e in omega (arith, lt, d)) ]) ]
    where
      either : (i j : ℕ) → (i < j) ⊎ ((i ≡ j) ⊎ (j < i))
      either i j = grind arith

pub ordered : (xs : List ℕ) (f h : ℕ) → IsStrictlyIncreasing xs → f < h → Contains xs f → Contains xs h → IsOrdered xs (length xs) f h
ordered xs f h up lt (i, l, s) (j, m, t) = (i, l, ((l, s), (j, rises xs i j f h up (l, s) (m, t) lt, m, (m, t))))

-- ---- the faces one after the other

aside_ordered : (faces : List ℕ) (i f h : ℕ) → IsAside faces i f h → IsOrdered faces (length faces) f h
aside_ordered faces i f h (inl (s, (k, l, m, t))) = (k, t.0, (t, (i, l, s.0, s)))
aside_ordered faces i f h (inr (s, b)) = (i, s.0, (s, b))

-- each of the first i faces stands in the list before, or is marked with all others
pub record AreDoneTo (w : ℕ) (old table : List Bool) (before faces : List ℕ) (i : ℕ) : Type 0 where
  pub long : length table ≡ length old
  pub kept : AreAllMarked w table (λ f h. IsTrue (is_marked w old f h))
  pub only : (f h : ℕ) → f < w → h < w → IsTrue (is_marked w table f h) → IsTrue (is_marked w old f h) ⊎ IsOrdered faces (length faces) f h
  pub each : (k : ℕ) → k < i → Contains before (get_or faces k 0) ⊎ AreAllMarked w table (IsAside faces k)

module _ (w : ℕ) (old : List Bool) (before faces : List ℕ) where
  -- a face that was in the list before
  pub done_there : (table : List Bool) (i : ℕ) → Contains before (get_or faces i 0) → AreDoneTo w old table before faces i → AreDoneTo w old table before faces (i + 1)
  done_there table i c d = record {
    long = d.long;
    kept = d.kept;
    only = d.only;
    each = λ k l. elim (last_or k i l) [ inl m ↦ d.each k m | inr e ↦ inl (subst (λ n. Contains before (get_or faces n 0)) (sym e) c) ];
  }

  -- a face that is marked
  pub done_more : (mid new : List Bool) (i : ℕ) → Adds w mid new (IsAside faces i) → AreDoneTo w old mid before faces i → AreDoneTo w old new before faces (i + 1)
  done_more mid new i a d = record {
    long = a.long ∙ d.long;
    kept = λ f h p q t. (a.adds f h p q).1 (inl (d.kept f h p q t));
    only = λ f h p q t. elim ((a.adds f h p q).0 t) [ inl u ↦ d.only f h p q u | inr u ↦ inr (aside_ordered faces i f h u) ];
    each = λ k l. elim (last_or k i l) [
      | inl m ↦ elim (d.each k m) [ inl c ↦ inl c | inr all ↦ inr (λ f h p q t. (a.adds f h p q).1 (inl (all f h p q t))) ]
      | inr e ↦ inr (λ f h p q t. (a.adds f h p q).1 (inr (subst (λ n. IsAside faces n f h) e t)))
    ];
  }

  -- so all pairs are marked, where those of the list before were
  pub done_all : (new : List Bool) (i : ℕ) → length faces ≤ i → IsStrictlyIncreasing before → IsStrictlyIncreasing faces
      → AreAllMarked w old (IsOrdered before (length before)) → AreDoneTo w old new before faces i → Adds w old new (IsOrdered faces (length faces))
  done_all new i far up rising marked d = record { long = d.long; adds = λ f h p q. (d.only f h p q, back f h p q) } where
    all : (f h : ℕ) → f < w → h < w → IsOrdered faces (length faces) f h → IsTrue (is_marked w new f h)
    all f h p q (j, l, (s, (k, m, o, t))) = elim (d.each j (omega (arith, l, far))) [
      | inr a ↦ a f h p q (inr (s, (k, m, o, t)))
      | inl a ↦ elim (d.each k (omega (arith, o, far))) [
        | inr b ↦ b f h p q (inl (t, (j, m, m, s)))
        | inl b ↦ d.kept f h p q (marked f h p q (ordered before f h up (falls faces j k f h rising s t m)
            (subst (Contains before) (sym (stands_is faces j f s)) a) (subst (Contains before) (sym (stands_is faces k h t)) b)))
      ]
    ]

    back : (f h : ℕ) → f < w → h < w → IsTrue (is_marked w old f h) ⊎ IsOrdered faces (length faces) f h → IsTrue (is_marked w new f h)
    back f h p q (inl t) = d.kept f h p q t
    back f h p q (inr o) = all f h p q o
