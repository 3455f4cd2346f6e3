-- One part more is searched.
use Rattle.std.proofs.Common.{◌≡◌, ℕ, ◌<◌, inl, inr, ◌∙◌, refl, sym, ap, subst, arith, Bool, true, false, List, [], ◌∷◌, ◌++◌, length, slice_get, filter_map, Option, Some, None}
use Rattle.std.proofs.lemmas.Option.{slice_get_within}
use Rattle.std.proofs.lemmas.List.{append-nil}
use Rattle.std.proofs.lemmas.List.Elements.{filter_map-append}
use Rattle.ff_basics.proofs.Lists.{get_before, get_last, get_either}
use Rattle.ff_near.specs.declared.parts.PartNear.{PartNear}
use Rattle.ff_tables.specs.declared.orders.Order.{Order}
use Rattle.ff_near.specs.declared.parts.PartBest.{PartBest}
use Rattle.ff_near.specs.declared.parts.PartNear.TheVariants as variant
use Rattle.ff_near.specs.Near.{IsFirst, HoldsOfNone, has_none, is_unfinished}
use Rattle.ff_near.specs.Gathered.{Tells, AreGathered, earlier_of, best_in, first_in}

module _ (test : PartNear → Bool) (outcomes : List PartNear) (outcome : PartNear) where
  one_outcome : (a b : PartNear) → Some a ≡ Some b → a ≡ b
  one_outcome a b e = cc

  last_is : (k : ℕ) → k ≡ length outcomes → (other : PartNear) → slice_get (outcomes ++ outcome ∷ []) k ≡ Some other → outcome ≡ other
  last_is k e other f = one_outcome outcome other (sym (get_last outcomes outcome) ∙ subst (λ n. slice_get (outcomes ++ outcome ∷ []) n ≡ Some other) e f)

  -- an earlier one stays the first
  pub longer : (k : ℕ) → IsFirst test outcomes k → IsFirst test (outcomes ++ outcome ∷ []) k
  longer k first = record {
    outcome = first.outcome;
    there = get_before outcomes outcome first.outcome k first.there;
    holds = first.holds;
    before = λ j other l there. elim (get_either outcomes outcome other j there) [
      | inl before ↦ first.before j other l before
      | inr last ↦ let m = slice_get_within outcomes k first.outcome first.there in absurd (nothing j k l last.0 m)
    ];
  } where
    nothing : (j k : ℕ) → j < k → j ≡ length outcomes → k < length outcomes → ⊥
    nothing j k l e m = omega (arith, l, e, m)

  -- the test doesn't hold of it
  pub not_told : test outcome ≡ false → (told : Option ℕ) → Tells test outcomes told → Tells test (outcomes ++ outcome ∷ []) told
  not_told e None none = λ k other there. elim (get_either outcomes outcome other k there) [
    | inl before ↦ none k other before
    | inr last ↦ ap test (sym (last_is k last.0 other there)) ∙ e
  ]
  not_told e (Some k) first = longer k first

  -- it is the first
  pub first_one : test outcome ≡ true → HoldsOfNone test outcomes → IsFirst test (outcomes ++ outcome ∷ []) (length outcomes)
  first_one e none = record {
    outcome = outcome;
    there = get_last outcomes outcome;
    holds = e;
    before = λ j other l there. elim (get_either outcomes outcome other j there) [
      | inl before ↦ none j other before
      | inr last ↦ absurd (nothing j l last.0)
    ];
  } where
    nothing : (j : ℕ) → j < length outcomes → j ≡ length outcomes → ⊥
    nothing j l e = omega (arith, l, e)

  -- it is the first, or an earlier one is
  pub told_one : test outcome ≡ true → (told : Option ℕ) → Tells test outcomes told → (k : ℕ) → k ≡ length outcomes → Tells test (outcomes ++ outcome ∷ []) (earlier_of told k)
  told_one e None none k f = subst (λ n. IsFirst test (outcomes ++ outcome ∷ []) n) (sym f) (first_one e none)
  told_one e (Some j) first k f = longer j first

module _ (outcomes : List PartNear) (outcome : PartNear) (bests : List PartBest) (firsts : List (List Order)) (none unfinished : Option ℕ)
    (are : AreGathered outcomes bests firsts none unfinished) where
  pub one_best : (best : PartBest) (first : List Order) → outcome ≡ variant.Best best first → (more : List PartBest) → more ≡ bests ++ best ∷ []
      → (most : List (List Order)) → most ≡ firsts ++ first ∷ [] → AreGathered (outcomes ++ outcome ∷ []) more most none unfinished
  one_best best first e more f most g = record {
    bests_are = f ∙ ap (λ (l : List PartBest). l ++ best ∷ []) are.bests_are ∙ sym (filter_map-append best_in outcomes (outcome ∷ []) ∙ ap (λ (o : PartNear). filter_map best_in outcomes ++ filter_map best_in (o ∷ [])) e);
    firsts_are = g ∙ ap (λ (l : List (List Order)). l ++ first ∷ []) are.firsts_are ∙ sym (filter_map-append first_in outcomes (outcome ∷ []) ∙ ap (λ (o : PartNear). filter_map first_in outcomes ++ filter_map first_in (o ∷ [])) e);
    none_is = not_told has_none outcomes outcome (ap has_none e) none are.none_is;
    unfinished_is = not_told is_unfinished outcomes outcome (ap is_unfinished e) unfinished are.unfinished_is;
  }

  as_before : best_in outcome ≡ None → first_in outcome ≡ None → (bests ≡ filter_map best_in (outcomes ++ outcome ∷ [])) × (firsts ≡ filter_map first_in (outcomes ++ outcome ∷ []))
  as_before e f = (
    are.bests_are ∙ sym (append-nil (filter_map best_in outcomes)) ∙ sym (filter_map-append best_in outcomes (outcome ∷ []) ∙ ap (λ l. filter_map best_in outcomes ++ l) (dropped best_in e)),
    are.firsts_are ∙ sym (append-nil (filter_map first_in outcomes)) ∙ sym (filter_map-append first_in outcomes (outcome ∷ []) ∙ ap (λ l. filter_map first_in outcomes ++ l) (dropped first_in f)),
  )
    where
      dropped : {Y : Type 0} (h : PartNear → Option Y) → h outcome ≡ None → filter_map h (outcome ∷ []) ≡ []
      dropped h e = rw e refl

  pub one_none : outcome ≡ variant.None → (k : ℕ) → k ≡ length outcomes → (told : Option ℕ) → told ≡ earlier_of none k
      → AreGathered (outcomes ++ outcome ∷ []) bests firsts told unfinished
  one_none e k counted told f = let same = as_before (ap best_in e) (ap first_in e) in record {
    bests_are = same.0;
    firsts_are = same.1;
    none_is = subst (λ o. Tells has_none (outcomes ++ outcome ∷ []) o) (sym f) (told_one has_none outcomes outcome (ap has_none e) none are.none_is k counted);
    unfinished_is = not_told is_unfinished outcomes outcome (ap is_unfinished e) unfinished are.unfinished_is;
  }

  pub one_unfinished : outcome ≡ variant.Unfinished → (k : ℕ) → k ≡ length outcomes → (told : Option ℕ) → told ≡ earlier_of unfinished k
      → AreGathered (outcomes ++ outcome ∷ []) bests firsts none told
  one_unfinished e k counted told f = let same = as_before (ap best_in e) (ap first_in e) in record {
    bests_are = same.0;
    firsts_are = same.1;
    none_is = not_told has_none outcomes outcome (ap has_none e) none are.none_is;
    unfinished_is = subst (λ o. Tells is_unfinished (outcomes ++ outcome ∷ []) o) (sym f) (told_one is_unfinished outcomes outcome (ap is_unfinished e) unfinished are.unfinished_is k counted);
  }
