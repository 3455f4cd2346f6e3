-- Going on from the bars of one strip to those of the next.
use Rattle.std.proofs.Common.{ℕ, zero, suc, cond, ◌≡◌, ◌+◌, ◌<◌, ◌≤◌, List, [], ◌∷◌, ◌++◌, length, get_or, take, filter, ◌-◌, ◌⊎◌, inl, inr, arith, refl, sym, ap, subst, ◌∙◌, ℤ, ◌<ℤ◌, ◌≤ℤ◌, Bool, true, false, true≢false, Ordering}
use Rattle.std.proofs.Common.Ordering.{Less, Equal, Greater}
use Rattle.std.specs.Ordering.{int_cmp, is_lt, MatchOrdering}
use Rattle.std.specs.Cmp.{IsTotalOrder, int_ranks}
use Rattle.std.proofs.lemmas.Cmp.{int_cmp_total}
use Rattle.std.proofs.lemmas.Int.{ints}
use Rattle.std.proofs.lemmas.List.{get_or_default}
use Rattle.std.proofs.lemmas.List.Elements.{filter_more}
use Rattle.std.specs.List.Sorted.{IsPermutation}
use Rattle.std.proofs.lemmas.List.Sorted.{Contains-permutation, IsPermutation-sym, IsPermutation-trans, IsPermutation-append_left}
use Rattle.ff_whole.specs.declared.points.Pt.{Pt}
use Rattle.ff_cells.specs.Steps.{AreBars}
use Rattle.ff_cells.specs.declared.bars.Bar.{Bar}
use Rattle.ff_cells.specs.declared.active.Active.{Active}
use Rattle.ff_cells.specs.Strip.{spans_strip}
use Rattle.ff_cells.specs.Reached.{AreFromLeft, AreActive, IsReached, lasts}
use Rattle.ff_cells.proofs.Filtering.{filter_permutation}

pub left_total : IsTotalOrder (λ (a b : Bar). int_cmp a.lo.x b.lo.x)
left_total = record {
  antisymm = λ a b. int_cmp_total.antisymm a.lo.x b.lo.x;
  trans = λ a b c. int_cmp_total.trans a.lo.x b.lo.x c.lo.x;
  congr = λ a b c. int_cmp_total.congr a.lo.x b.lo.x c.lo.x;
}

pub not_lower : (a b : ℤ) → is_lt (int_cmp b a) ≡ false → a ≤ℤ b
not_lower a b = by (int_cmp b a) (int_ranks b a)
  where
    by : (r : Ordering) → MatchOrdering r (b <ℤ a) (b ≡ a) (a <ℤ b) → is_lt r ≡ false → a ≤ℤ b
    by Less m e = absurd (true≢false e)
    by Equal m e = omega (arith, ints, m)
    by Greater m e = omega (arith, ints, m)

-- what ends before a ends before a c after it
lasts_before : (a c : ℤ) (b : Bar) → a ≤ℤ c → lasts a b ≡ false → lasts c b ≡ false
lasts_before a c b h e = grind (arith, ints)

lasting_again : (a c : ℤ) → a ≤ℤ c → (xs : List Bar)
    → filter (lasts c) (filter (lasts a) xs) ≡ filter (lasts c) xs
lasting_again a c h [] = refl
lasting_again a c h (b ∷ bs) = by (lasts a b) refl (lasting_again a c h bs)
  where
    by : (t : Bool) → lasts a b ≡ t → filter (lasts c) (filter (lasts a) bs) ≡ filter (lasts c) bs
        → filter (lasts c) (filter (lasts a) (b ∷ bs)) ≡ filter (lasts c) (b ∷ bs)
    by true e r = rw e (ap (λ ys. cond (lasts c b) (b ∷ ys) ys) r)
    by false e r = rw (e, lasts_before a c b h e) r

spans_back : (a c : ℤ) (b : Bar) → a <ℤ b.lo.x → spans_strip a c b ≡ false
spans_back a c b h = grind (arith, ints)

spans_there : (a c : ℤ) (b : Bar) → b.lo.x ≤ℤ a → spans_strip a c b ≡ lasts c b
spans_there a c b h = grind (arith, ints)

-- where the first n bars begin at a or before and the others after it
spanning_front : (a c : ℤ) (bars : List Bar) (n : ℕ)
    → ((k : ℕ) (d : Bar) → k < n → k < length bars → (get_or bars k d).lo.x ≤ℤ a)
    → ((k : ℕ) (d : Bar) → n ≤ k → k < length bars → a <ℤ (get_or bars k d).lo.x)
    → filter (spans_strip a c) bars ≡ filter (lasts c) (take n bars)
spanning_front a c [] zero h g = refl
spanning_front a c [] (suc n) h g = refl
spanning_front a c (b ∷ bs) zero h g =
    rw (spans_back a c b (g zero b (omega arith) (omega arith)))
    (spanning_front a c bs zero (λ k d lt l. absurd (omega (arith, lt)))
    (λ k d le lt. g (suc k) d (omega arith) (omega (arith, lt))))
spanning_front a c (b ∷ bs) (suc n) h g =
    rw (spans_there a c b (h zero b (omega arith) (omega arith)))
    (ap (λ ys. cond (lasts c b) (b ∷ ys) ys)
    (spanning_front a c bs n (λ k d lt l. h (suc k) d (omega (arith, lt)) (omega (arith, l)))
    (λ k d le lt. g (suc k) d (omega (arith, le)) (omega (arith, lt)))))

-- the bars after one that begins after a do too
all_after : (a : ℤ) (bars : List Bar) → AreFromLeft bars → (m n : ℕ) → IsReached bars a n → (d : Bar)
    → n + m < length bars → a <ℤ (get_or bars (n + m) d).lo.x
all_after a bars sorted zero n h d lt =
    let e : n + 0 ≡ n = omega arith in
    subst (λ k. a <ℤ (get_or bars k d).lo.x) (sym e) (h d (omega (arith, lt)))
all_after a bars sorted (suc m) n h d lt =
    let e : n + m + 1 ≡ n + suc m = omega arith in
    let prev = all_after a bars sorted m n h d (omega (arith, lt)) in
    let up = not_lower (get_or bars (n + m) d).lo.x (get_or bars (n + m + 1) d).lo.x
    (sorted (n + m) d (omega arith) (omega (arith, lt))) in
    subst (λ k. a <ℤ (get_or bars k d).lo.x) e (omega (arith, ints, prev, up))

-- what has been reached spans the strip
pub spanning : (bars : List Bar) (a c : ℤ) (active : Active) → AreFromLeft bars → AreActive bars a c active
    → IsReached bars a active.reached → IsPermutation (filter (spans_strip a c) bars) active.bars.items
spanning bars a c active sorted so next = subst (λ ys. IsPermutation ys active.bars.items)
    (sym (spanning_front a c bars active.reached (λ k d lt l. so.begun k d lt)
    (λ k d le lt. let e : active.reached + (k - active.reached) ≡ k = omega (arith, le) in
    subst (λ j. a <ℤ (get_or bars j d).lo.x) e (all_after a bars sorted (k - active.reached)
    active.reached next d (subst (λ j. j < length bars) (sym e) lt))))) so.are

-- on to the strip up to c
pub lasting_on : (bars : List Bar) (a c : ℤ) (active new : Active) → a ≤ℤ c → AreActive bars a a active
    → new.reached ≡ active.reached → new.bars.items ≡ filter (lasts c) active.bars.items → AreActive bars a c new
lasting_on bars a c active new h so e is = record {
  within = subst (λ n. n ≤ length bars) (sym e) so.within;
  begun = λ k d lt. so.begun k d (subst (λ n. k < n) e lt);
  are = subst (λ n. IsPermutation (filter (lasts c) (take n bars)) new.bars.items) (sym e)
      (subst (IsPermutation (filter (lasts c) (take active.reached bars))) (sym is)
      (subst (λ ys. IsPermutation ys (filter (lasts c) active.bars.items))
      (lasting_again a c h (take active.reached bars))
      (filter_permutation (lasts c) (filter (lasts a) (take active.reached bars)) active.bars.items so.are)));
}

-- the strip ends
pub at_end : (bars : List Bar) (a c : ℤ) (active : Active) → a ≤ℤ c → AreActive bars a c active
    → AreActive bars c c active
at_end bars a c active h so = record {
  within = so.within;
  begun = λ k d lt. let low = so.begun k d lt in omega (arith, ints, low, h);
  are = so.are;
}

-- one more bar
pub reached_more : (bars : List Bar) (a c : ℤ) (active new : Active) (b : Bar) → AreActive bars a c active
    → active.reached < length bars → b ≡ get_or bars active.reached b → b.lo.x ≤ℤ a
    → new.reached ≡ active.reached + 1 → new.bars.items ≡ active.bars.items ++ filter (lasts c) (b ∷ [])
    → AreActive bars a c new
reached_more bars a c active new b so lt at low e is = record {
  within = omega (arith, lt, e);
  begun = λ k d l. by k d (split k active.reached (subst (λ n. k < n) e l));
  are = subst (IsPermutation (filter (lasts c) (take new.reached bars))) (sym is)
      (subst (λ ys. IsPermutation ys (active.bars.items ++ filter (lasts c) (b ∷ []))) is_one_more
      (IsPermutation-append_left (filter (lasts c) (b ∷ [])) (filter (lasts c) (take active.reached bars))
      active.bars.items so.are));
}
  where
    split : (k n : ℕ) → k < n + 1 → (k < n) ⊎ (k ≡ n)
    split k n h = grind arith

    is_one_more : filter (lasts c) (take active.reached bars) ++ filter (lasts c) (b ∷ [])
        ≡ filter (lasts c) (take new.reached bars)
    is_one_more = ap (λ x. filter (lasts c) (take active.reached bars) ++ filter (lasts c) (x ∷ [])) at
        ∙ sym (filter_more (lasts c) bars active.reached b lt) ∙ ap (λ n. filter (lasts c) (take n bars)) (sym e)

    by : (k : ℕ) (d : Bar) → (k < active.reached) ⊎ (k ≡ active.reached) → (get_or bars k d).lo.x ≤ℤ a
    by k d (inl h) = so.begun k d h
    by k d (inr h) = subst (λ (x : Bar). x.lo.x ≤ℤ a)
        (at ∙ get_or_default bars active.reached b d lt ∙ ap (λ j. get_or bars j d) (sym h)) low

-- the bars that span the strip change places
pub active_moved : (bars : List Bar) (a c : ℤ) (active new : Active) → new.reached ≡ active.reached
    → IsPermutation active.bars.items new.bars.items → AreActive bars a c active → AreActive bars a c new
active_moved bars a c active new e same so = record {
  within = subst (λ n. n ≤ length bars) (sym e) so.within;
  begun = λ k d lt. so.begun k d (subst (λ n. k < n) e lt);
  are = subst (λ n. IsPermutation (filter (lasts c) (take n bars)) new.bars.items) (sym e)
      (IsPermutation-trans _ _ _ so.are same);
}

-- the bars in another order are the same bars
pub bars_moved : (points : List Pt) (rings : List (List ℕ)) (up : List Bool) (bars moved : List Bar)
    → IsPermutation bars moved → AreBars points rings up bars → AreBars points rings up moved
bars_moved points rings up bars moved same are = record {
  each = λ b h. are.each b (Contains-permutation moved bars b (IsPermutation-sym bars moved same) h);
  all = λ f i lt l. elim (are.all f i lt l) [
    | inl v ↦ inl v
    | inr (b, h, is) ↦ inr (b, Contains-permutation bars moved b same h, is)
  ];
}
