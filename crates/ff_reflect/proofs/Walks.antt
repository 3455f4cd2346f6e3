-- One meeting more: the first ones, and the faces seen.
use Rattle.std.proofs.Common.{◌≡◌, ◌∙◌, ℕ, zero, suc, ◌<◌, ◌==◌, List, [], ◌∷◌, ◌++◌, length, Bool, true, false, cond, arith, refl, sym, ap, subst, ◌⊎◌, inl, inr, slice_index_or, slice_set, replicate}
use Rattle.std.proofs.lemmas.Bool.{false≢true, eqb-true, eqb-false}
use Rattle.std.proofs.lemmas.List.{length-set, get_or-set_same, get_or-set_other, map-append, length-append, length-replicate, append-nil}
use Rattle.std.proofs.lemmas.List.Elements.{Contains-append_left, Contains-append_right, Contains-append_cases}
use Rattle.std.specs.List.{Contains}
use Rattle.ff_basics.proofs.Memberships.{by_member, first_member, later_member, no_member}
use Rattle.ff_types.specs.Placing.{Meeting, has_number, firsts}
use Rattle.ff_reflect.specs.Trees.{first_meetings, faces_across, order_along, Grows}
use Rattle.ff_reflect.specs.Walked.{unseen, AreWalked}
use Rattle.ff_reflect.proofs.Cases.{by_test, by_same}
use Rattle.ff_reflect.proofs.Firsts.{HaveSame, same_tests, has_from_contains, contains_from_has, in_firsts, firsts_in, across_firsts, again, moved, has-append}

-- ---- first meetings

first_meetings-same : (s t : List ℕ) (ms : List Meeting) → HaveSame s t → first_meetings s ms ≡ first_meetings t ms
first_meetings-same s t [] h = refl
first_meetings-same s t (m ∷ ms) h =
    ap (λ b. cond b (first_meetings s ms) (m ∷ first_meetings (m.across ∷ s) ms)) (h m.across)
    ∙ by (has_number m.across t) (first_meetings-same s t ms h) (first_meetings-same (m.across ∷ s) (m.across ∷ t) ms (λ y. ap (λ b. cond (y == m.across) true b) (h y)))
  where
    by : (b : Bool) → first_meetings s ms ≡ first_meetings t ms → first_meetings (m.across ∷ s) ms ≡ first_meetings (m.across ∷ t) ms
        → cond b (first_meetings s ms) (m ∷ first_meetings (m.across ∷ s) ms) ≡ cond b (first_meetings t ms) (m ∷ first_meetings (m.across ∷ t) ms)
    by true e f = e
    by false e f = ap (λ r. m ∷ r) f

pub first_meetings-append : (s : List ℕ) (ms ns : List Meeting) → first_meetings s (ms ++ ns) ≡ first_meetings s ms ++ first_meetings (faces_across ms ++ s) ns
first_meetings-append s [] ns = refl
first_meetings-append s (m ∷ ms) ns = by (has_number m.across s) refl (first_meetings-append s ms ns) (first_meetings-append (m.across ∷ s) ms ns) where
  x : ℕ
  x = m.across

  xs : List ℕ
  xs = faces_across ms

  by : (b : Bool) → has_number x s ≡ b → first_meetings s (ms ++ ns) ≡ first_meetings s ms ++ first_meetings (xs ++ s) ns
      → first_meetings (x ∷ s) (ms ++ ns) ≡ first_meetings (x ∷ s) ms ++ first_meetings (xs ++ x ∷ s) ns
      → cond b (first_meetings s (ms ++ ns)) (m ∷ first_meetings (x ∷ s) (ms ++ ns)) ≡ cond b (first_meetings s ms) (m ∷ first_meetings (x ∷ s) ms) ++ first_meetings (x ∷ xs ++ s) ns
  by true e f g = f ∙ ap (λ r. first_meetings s ms ++ r) (first_meetings-same (xs ++ s) (x ∷ xs ++ s) ns (again x s e xs))
  by false e f g = ap (λ r. m ∷ r) (g ∙ ap (λ r. first_meetings (x ∷ s) ms ++ r) (first_meetings-same (xs ++ x ∷ s) (x ∷ xs ++ s) ns (moved x xs s)))

-- the faces across the first meetings, with 0, are the faces across all, with 0
seen_same : (met tree : List Meeting) → tree ≡ first_meetings (0 ∷ []) met → HaveSame (faces_across met ++ 0 ∷ []) (order_along tree)
seen_same met tree e x = same_tests _ _ there back where
  is : faces_across tree ≡ firsts (0 ∷ []) (faces_across met)
  is = ap faces_across e ∙ across_firsts (0 ∷ []) met

  there : has_number x (faces_across met ++ 0 ∷ []) ≡ true → has_number x (order_along tree) ≡ true
  there h = by_same x 0
      (λ z. has_from_contains x (order_along tree) (first_member 0 (faces_across tree) x (sym z)))
      (λ n. has_from_contains x (order_along tree) (later_member 0 (faces_across tree) x (subst (λ ys. Contains ys x) (sym is)
      (firsts_in (0 ∷ []) (faces_across met) x (elim (Contains-append_cases (faces_across met) (0 ∷ []) x (contains_from_has x _ h)) [ inl c ↦ c | inr c ↦ by_member 0 [] x (λ q. absurd (n (sym q))) (λ c. absurd (no_member x c)) c ])
      (by_test (has_number x (0 ∷ [])) (λ t. by_member 0 [] x (λ q. absurd (n (sym q))) (λ c. absurd (no_member x c)) (contains_from_has x (0 ∷ []) t)) (λ t. t))))))

  back : has_number x (order_along tree) ≡ true → has_number x (faces_across met ++ 0 ∷ []) ≡ true
  back h = has_from_contains x (faces_across met ++ 0 ∷ []) (by_member 0 (faces_across tree) x
      (λ z. Contains-append_right (faces_across met) (0 ∷ []) x (first_member 0 [] x z))
      (λ c. let r = in_firsts (0 ∷ []) (faces_across met) x (subst (λ ys. Contains ys x) is c) in Contains-append_left (faces_across met) (0 ∷ []) x r.0)
      (contains_from_has x (order_along tree) h))

-- one meeting more, with a face across that was seen, or wasn't
first_more : (met tree : List Meeting) (m : Meeting) → tree ≡ first_meetings (0 ∷ []) met
    → first_meetings (0 ∷ []) (met ++ m ∷ []) ≡ tree ++ cond (has_number m.across (order_along tree)) [] (m ∷ [])
first_more met tree m e = first_meetings-append (0 ∷ []) met (m ∷ []) ∙ ap (λ r. r ++ first_meetings (faces_across met ++ 0 ∷ []) (m ∷ [])) (sym e)
    ∙ ap (λ b. tree ++ cond b [] (m ∷ [])) (seen_same met tree e m.across)

-- ---- trees

grows_more : (seen : List ℕ) (tree : List Meeting) (m : Meeting) → Grows seen tree → Contains seen m.face ⊎ Contains (faces_across tree) m.face
    → has_number m.across seen ≡ false → has_number m.across (faces_across tree) ≡ false → Grows seen (tree ++ m ∷ [])
grows_more seen [] m g (inl c) n k = (c, n, tt)
grows_more seen [] m g (inr c) n k = absurd (no_member m.face c)
grows_more seen (x ∷ tree) m g c n k = (g.0, g.1, grows_more (x.across ∷ seen) tree m g.2 (move c) (or_false (m.across == x.across) (has_number m.across (faces_across tree)) k n) (rest (m.across == x.across) (has_number m.across (faces_across tree)) k)) where
  move : Contains seen m.face ⊎ Contains (x.across ∷ faces_across tree) m.face → Contains (x.across ∷ seen) m.face ⊎ Contains (faces_across tree) m.face
  move (inl c) = inl (later_member x.across seen m.face c)
  move (inr c) = by_member x.across (faces_across tree) m.face (λ e. inl (first_member x.across seen m.face e)) (λ d. inr d) c

  rest : (a b : Bool) → cond a true b ≡ false → b ≡ false
  rest true b e = absurd (false≢true (sym e))
  rest false b e = e

  or_false : {c : Bool} (a b : Bool) → cond a true b ≡ false → c ≡ false → cond a true c ≡ false
  or_false true b e f = absurd (false≢true (sym e))
  or_false false b e f = f

-- ---- which faces were seen

unseen-set : (seen : List Bool) (g : ℕ) → g < length seen → slice_index_or seen g false ≡ false → suc (unseen (slice_set seen g true)) ≡ unseen seen
unseen-set [] g l e = absurd (omega (arith, l))
unseen-set (true ∷ seen) zero l e = absurd (false≢true (sym e))
unseen-set (false ∷ seen) zero l e = refl
unseen-set (true ∷ seen) (suc g) l e = unseen-set seen g (omega (arith, l)) e
unseen-set (false ∷ seen) (suc g) l e = ap suc (unseen-set seen g (omega (arith, l)) e)

-- ---- the two steps

pub walk_again : (faces : ℕ) (met tree : List Meeting) (seen : List Bool) (m : Meeting) → AreWalked faces met tree seen → m.across < faces
    → slice_index_or seen m.across false ≡ true → AreWalked faces (met ++ m ∷ []) tree seen
walk_again faces met tree seen m w l e = record {
  first = sym (first_more met tree m w.first ∙ ap (λ b. tree ++ cond b [] (m ∷ [])) (sym (w.seen_so m.across l) ∙ e) ∙ append-nil tree);
  grows = w.grows;
  wide = w.wide;
  there = w.there;
  seen_so = w.seen_so;
  counted = w.counted;
}

pub walk_new : (faces : ℕ) (met tree : List Meeting) (seen : List Bool) (m : Meeting) → AreWalked faces met tree seen → m.across < faces
    → Contains (order_along tree) m.face → slice_index_or seen m.across false ≡ false → AreWalked faces (met ++ m ∷ []) (tree ++ m ∷ []) (slice_set seen m.across true)
walk_new faces met tree seen m w l c e = record {
  first = sym (first_more met tree m w.first ∙ ap (λ b. tree ++ cond b [] (m ∷ [])) lacks);
  grows = grows_more (0 ∷ []) tree m w.grows (by_member 0 (faces_across tree) m.face (λ q. inl (first_member 0 [] m.face q)) (λ d. inr d) c) (zero_part (m.across == 0) (has_number m.across (faces_across tree)) lacks) (tree_part (m.across == 0) (has_number m.across (faces_across tree)) lacks);
  wide = length-set seen m.across true ∙ w.wide;
  there = there;
  seen_so = seen_so;
  counted = (let n = length-append tree (m ∷ []) in let k = w.counted in let u = unseen-set seen m.across (subst (λ i. m.across < i) (sym w.wide) l) e in omega (arith, n, k, u));
}
  where
    lacks : has_number m.across (order_along tree) ≡ false
    lacks = sym (w.seen_so m.across l) ∙ e

    zero_part : (a b : Bool) → cond a true b ≡ false → cond a true false ≡ false
    zero_part true b e = e
    zero_part false b e = refl

    tree_part : (a b : Bool) → cond a true b ≡ false → b ≡ false
    tree_part true b e = absurd (false≢true (sym e))
    tree_part false b e = e

    same_number : (n : ℕ) → (n == n) ≡ true
    same_number n = by_test (n == n) (λ t. t) (λ f. absurd (eqb-false n n f refl))

    across_more : faces_across (tree ++ m ∷ []) ≡ faces_across tree ++ m.across ∷ []
    across_more = map-append (λ (x : Meeting). x.across) tree (m ∷ [])

    there : (g : ℕ) → Contains (order_along (tree ++ m ∷ [])) g → g < faces
    there g k = elim (Contains-append_cases (order_along tree) (m.across ∷ []) g (subst (λ xs. Contains (0 ∷ xs) g) across_more k)) [
      | inl d ↦ w.there g d
      | inr d ↦ by_member m.across [] g (λ q. subst (λ i. i < faces) q l) (λ n. absurd (no_member g n)) d
    ]

    or_assoc : (a b c : Bool) → cond a true (cond b true c) ≡ cond (cond a true b) true c
    or_assoc true b c = refl
    or_assoc false b c = refl

    has_more : (g : ℕ) → has_number g (order_along (tree ++ m ∷ [])) ≡ cond (has_number g (order_along tree)) true (cond (g == m.across) true false)
    has_more g = ap (λ ys. has_number g (0 ∷ ys)) across_more ∙ ap (λ b. cond (g == 0) true b) (has-append g (faces_across tree) (m.across ∷ []))
        ∙ or_assoc (g == 0) (has_number g (faces_across tree)) (cond (g == m.across) true false)

    or_true : (a : Bool) → cond a true true ≡ true
    or_true true = refl
    or_true false = refl

    or_none : (a : Bool) → cond a true false ≡ a
    or_none true = refl
    or_none false = refl

    seen_so : (g : ℕ) → g < faces → slice_index_or (slice_set seen m.across true) g false ≡ has_number g (order_along (tree ++ m ∷ []))
    seen_so g k = by_same g m.across
        (λ q. let here : slice_index_or (slice_set seen m.across true) g false ≡ true = ap (λ i. slice_index_or (slice_set seen m.across true) i false) q ∙ get_or-set_same seen m.across true false (subst (λ i. m.across < i) (sym w.wide) l) in
        here ∙ sym (has_more g ∙ ap (λ b. cond (has_number g (order_along tree)) true (cond b true false)) (ap (λ i. i == m.across) q ∙ same_number m.across) ∙ or_true (has_number g (order_along tree))))
        (λ n. get_or-set_other seen m.across g true false n ∙ w.seen_so g k
        ∙ sym (has_more g ∙ ap (λ b. cond (has_number g (order_along tree)) true (cond b true false)) (by_test (g == m.across) (λ t. absurd (n (eqb-true g m.across t))) (λ t. t)) ∙ or_none (has_number g (order_along tree))))

-- ---- the start

unseen-none : (n : ℕ) → unseen (replicate n false) ≡ n
unseen-none zero = refl
unseen-none (suc n) = ap suc (unseen-none n)

pub walk_none : (faces : ℕ) (seen : List Bool) → 0 < faces → seen ≡ replicate faces false → AreWalked faces [] [] (slice_set seen 0 true)
walk_none faces seen h e = subst (λ s. AreWalked faces [] [] (slice_set s 0 true)) (sym e) (go faces h) where
  flag : (n g : ℕ) → slice_index_or (replicate n false) g false ≡ false
  flag zero g = refl
  flag (suc n) zero = refl
  flag (suc n) (suc g) = flag n g

  later : (g : ℕ) → (suc g == 0) ≡ false
  later g = by_test (suc g == 0) (λ t. let q = eqb-true (suc g) 0 t in absurd (omega (arith, q))) (λ t. t)

  go : (n : ℕ) → 0 < n → AreWalked n [] [] (slice_set (replicate n false) 0 true)
  go zero h = absurd (omega (arith, h))
  go (suc n) h = record {
    first = refl;
    grows = tt;
    wide = ap suc (length-replicate n false);
    there = λ g c. by_member 0 [] g (λ e. omega (arith, e)) (λ k. absurd (no_member g k)) c;
    seen_so = at n;
    counted = (let u = unseen-none n in omega (arith, u));
  } where
    at : (n g : ℕ) → g < suc n → slice_index_or (true ∷ replicate n false) g false ≡ has_number g (0 ∷ [])
    at n zero l = refl
    at n (suc g) l = flag n g ∙ sym (ap (λ b. cond b true false) (later g))

pub seen_within : (faces : ℕ) (met tree : List Meeting) (seen : List Bool) (g : ℕ) → AreWalked faces met tree seen → g < faces → g < length seen
seen_within faces met tree seen g w l = subst (λ n. g < n) (sym w.wide) l
