-- Where each pair has one order, the said pairs are the orders of the overlapping faces.
use Rattle.std.proofs.Common.{◌≡◌, ◌⊎◌, inl, inr, ℕ, ◌<◌, Bool, true, false, not, List, IsTrue, refl, sym, ap, subst, ◌∙◌}
use Rattle.std.proofs.lemmas.Bool.{false≢true}
use Rattle.ff_basics.proofs.Numbers.{less_or}
use Rattle.ff_basics.proofs.Tests.{same_truth}
use Rattle.ff_tables.specs.declared.terms.Kind.{Kind}
use Rattle.ff_tables.specs.Rows.{is_row, HasRow}
use Rattle.ff_types.specs.declared.cites.Cite.{Cite}
use Rattle.ff_types.specs.declared.cases.Case.{Case}
use Rattle.ff_types.specs.Sheets.{Sheet}
use Rattle.ff_types.specs.Inside.{Overlap}
use Rattle.ff_types.specs.Cases.{key, IsCaseOf}
use Rattle.ff_types.specs.Terms.{kind_of, terms_of, HasItsRow}
use Rattle.ff_types.specs.Stackings.{OrdersOverlaps}
use Rattle.ff_types.proofs.FewFaces.{overlap_turned}
use Rattle.ff_crossings.specs.RowMeanings.{RowsByTest, values}
use Rattle.ff_crossings.proofs.CaseRows.{same_terms}
use Rattle.ff_orders.specs.declared.items.OrderItem.{OrderItem}
use Rattle.ff_orders.specs.Said.{is_said, IsSaid}
use Rattle.ff_orders.specs.Verdicts.{AreOrders}

-- a test is true or isn't
pub true_or : (b : Bool) → IsTrue b ⊎ (IsTrue b → ⊥)
true_or true = inl refl
true_or false = inr (λ t. false≢true t)

-- what is known, and can't be false, is so
pub known : {A : Type 0} → A ⊎ (A → ⊥) → ((A → ⊥) → ⊥) → A
known (inl a) n = a
known (inr m) n = absurd (n m)

-- whether a cite has a row is known
pub row_known : RowsByTest → (g : Sheet) (above : ℕ → ℕ → Bool) (c : Cite) → HasItsRow g above c ⊎ (HasItsRow g above c → ⊥)
row_known by_test g above c = elim (true_or (is_row (kind_of c) (values above (terms_of g c)))) [
  | inl t ↦ inl ((by_test (kind_of c) (values above (terms_of g c))).1 t)
  | inr n ↦ inr (λ r. n ((by_test (kind_of c) (values above (terms_of g c))).0 r))
]

-- a row of a cite is one of each cite with its key
pub row_by_key : (g : Sheet) (above : ℕ → ℕ → Bool) (c d : Cite) → key d ≡ key c → HasItsRow g above d → HasItsRow g above c
row_by_key g above c d e (k, has) =
    let t = same_terms g d c e in
    (k, subst (λ (kind : Kind). HasRow kind k (values above (terms_of g c))) t.0 (subst (λ ts. HasRow (kind_of d) k (values above ts)) t.1 has))

not_both : (p q : Bool) → (IsTrue p → IsTrue q → ⊥) → ((IsTrue p → ⊥) → (IsTrue q → ⊥) → ⊥) → p ≡ not q
not_both true true f h = absurd (f refl refl)
not_both false false f h = absurd (h (λ t. false≢true t) (λ t. false≢true t))
not_both true false f h = refl
not_both false true f h = refl

turn : (p q : Bool) → p ≡ not q → q ≡ not p
turn p true e = ap not (sym e)
turn p false e = ap not (sym e)

module _ (g : Sheet) (case : Case) (is : IsCaseOf g case) (items : List OrderItem) (above : ℕ → ℕ → Bool) (said : IsSaid g items above) where
  -- of overlapping faces the set is what is said
  pub told : (f h : ℕ) → Overlap g f h → above f h ≡ is_said g.up items f h
  told f h over = same_truth (above f h) (is_said g.up items f h) (λ t. ((said f h).0 t).1) (λ t. (said f h).1 (over, t))

  module _ (orders : AreOrders g case items) where
    one_lower : (f h : ℕ) → f < h → Overlap g f h → is_said g.up items f h ≡ not (is_said g.up items h f)
    one_lower f h l over =
        let n = (is.pairs_are f h l).0 over in
        not_both (is_said g.up items f h) (is_said g.up items h f)
        (λ t u. orders.no_contradiction n.0 (record { pair = (f, h); there = n.1; lesser_said = t; greater_said = u }))
        (λ t u. orders.none_missing n.0 (record { pair = (f, h); there = n.1; lesser_not = t; greater_not = u }))

    one_order : (f h : ℕ) → Overlap g f h → above f h ≡ not (above h f)
    one_order f h over = told f h over ∙ by (less_or f h) ∙ ap not (sym (told h f (overlap_turned g f h over))) where
      by : (f < h) ⊎ ((f ≡ h) ⊎ (h < f)) → is_said g.up items f h ≡ not (is_said g.up items h f)
      by (inl l) = one_lower f h l over
      by (inr (inl e)) = absurd (over.differ e)
      by (inr (inr l)) = turn (is_said g.up items h f) (is_said g.up items f h) (one_lower h f l (overlap_turned g f h over))

    pub overlaps : OrdersOverlaps g above
    overlaps = record { one = one_order; only = λ f h t. ((said f h).0 t).0 }
