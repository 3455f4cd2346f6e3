-- Nothing is wrong with given orders exactly where the said pairs are a geometric stacking that keeps the creases.
use Rattle.std.proofs.Common.{◌≡◌, ◌⊎◌, inl, ℕ, ◌↔◌, Bool, true, false, not, List, slice_get, IsTrue, Option, Some, None, refl, sym, ap, subst, ◌∙◌}
use Rattle.std.proofs.lemmas.Bool.{false≢true}
use Rattle.ff_types.specs.declared.patterns.Mark.{Mark}
use Rattle.ff_types.specs.declared.patterns.Mark.TheVariants.{B, M, V, F, U}
use Rattle.ff_types.specs.declared.cases.Case.{Case}
use Rattle.ff_types.specs.Sheets.{Sheet, mark_of, left_face, right_face}
use Rattle.ff_types.specs.Inside.{Overlap}
use Rattle.ff_types.specs.Cases.{IsCaseOf}
use Rattle.ff_types.specs.Keeping.{KeepsMark, KeepsCreases}
use Rattle.ff_types.specs.Crossings.{IsGeometricStacking}
use Rattle.ff_types.proofs.FewFaces.{overlap_turned}
use Rattle.ff_crossings.specs.CrossingLaws.{HasAllRows, RowsGiveStackings}
use Rattle.ff_crossings.specs.RowMeanings.{RowsByTest}
use Rattle.ff_crossings.proofs.BorderLaws.{HasBorderLaws}
use Rattle.ff_crossings.proofs.CiteRows.{cites_have_rows}
use Rattle.ff_orders.specs.declared.items.OrderItem.{OrderItem}
use Rattle.ff_orders.specs.declared.items.OrderVerdict.{OrderVerdict}
use Rattle.ff_orders.specs.declared.items.OrderVerdict.TheVariants.{Verified, Contradiction, Missing, Mark as BrokenMark, Cycle, Crossing}
use Rattle.ff_orders.specs.Said.{is_said, IsSaid}
use Rattle.ff_orders.specs.Verdicts.{AreCreased, IsVerdict}
use Rattle.ff_orders.proofs.SaidOrders.{known, overlaps, row_by_key, row_known, told, true_or}

mark_known : (g : Sheet) (above : ℕ → ℕ → Bool) (mark : Mark) (f h : Option ℕ) → KeepsMark g above mark f h ⊎ (KeepsMark g above mark f h → ⊥)
mark_known g above V (Some f) (Some h) = true_or _
mark_known g above M (Some f) (Some h) = true_or _
mark_known g above V None h = inl tt
mark_known g above V (Some f) None = inl tt
mark_known g above M None h = inl tt
mark_known g above M (Some f) None = inl tt
mark_known g above B f h = inl tt
mark_known g above F f h = inl tt
mark_known g above U f h = inl tt

both_not : (p q : Bool) → p ≡ not q → IsTrue p → IsTrue q → ⊥
both_not p true e t u = false≢true (sym e ∙ t)
both_not p false e t u = false≢true u

neither_not : (p q : Bool) → p ≡ not q → (IsTrue p → ⊥) → (IsTrue q → ⊥) → ⊥
neither_not p true e t u = u refl
neither_not p false e t u = t e

module _ (g : Sheet) (laws : HasBorderLaws g) (by_test : RowsByTest) (stack : RowsGiveStackings g) (case : Case) (is : IsCaseOf g case)
    (items : List OrderItem) (above : ℕ → ℕ → Bool) (said : IsSaid g items above) where
  geometry : IsVerdict g case items above Verified → IsGeometricStacking g above × KeepsCreases g above
  geometry (creased, none) = (stack above (overlaps g case is items above said creased.orders) rows, creases) where
    rows : HasAllRows g above
    rows c holds =
        let d = is.complete c holds in
        row_by_key g above c d.1 d.3 (known (row_known by_test g above d.1) (λ n. none d.0 (record { cite = d.1; there = d.2; none = n })))

    creases : KeepsCreases g above
    creases e l = known (mark_known g above (mark_of g e) (left_face g e) (right_face g e)) (λ n. creased.no_mark e (record { edge = l; broken = n }))

  module _ (geo : IsGeometricStacking g above) (keeps : KeepsCreases g above) where
    overlap_of : (n : ℕ) (p : ℕ × ℕ) → slice_get case.pairs n ≡ Some p → Overlap g p.0 p.1
    overlap_of n p e = (is.pairs_are p.0 p.1 (is.sorted_pairs.rising n p e)).1 (n, e)

    one : (n : ℕ) (p : ℕ × ℕ) → slice_get case.pairs n ≡ Some p → is_said g.up items p.0 p.1 ≡ not (is_said g.up items p.1 p.0)
    one n p e = let over = overlap_of n p e in
        sym (told g case is items above said p.0 p.1 over) ∙ geo.stacking.orders.one p.0 p.1 over
        ∙ ap not (told g case is items above said p.1 p.0 (overlap_turned g p.0 p.1 over))

    creased : AreCreased g case items above
    creased = record {
      orders = record {
        no_contradiction = λ n c. both_not _ _ (one n c.pair c.there) c.lesser_said c.greater_said;
        none_missing = λ n m. neither_not _ _ (one n m.pair m.there) m.lesser_not m.greater_not;
      };
      no_mark = λ e m. m.broken (keeps e m.edge);
    }

    verified : (verdict : OrderVerdict) → IsVerdict g case items above verdict → verdict ≡ Verified
    verified Verified v = refl
    verified (Contradiction f h) (n, e, first) = absurd (creased.orders.no_contradiction n first.is)
    verified (Missing f h) (never, (n, e, first)) = absurd (creased.orders.none_missing n first.is)
    verified (BrokenMark e) (orders, first) = absurd (creased.no_mark e first.is)
    verified (Cycle f h k) (passed, (at, first)) = let r = first.first.is in
        absurd (r.none (cites_have_rows g laws above geo r.cite (laws.witnessed r.cite (is.witnessed first.number r.cite r.there))))
    verified (Crossing c) (passed, no_triple, first) = let r = first.first.is in
        absurd (r.none (cites_have_rows g laws above geo r.cite (laws.witnessed r.cite (is.witnessed first.number r.cite r.there))))

  pub verdict_tells : (verdict : OrderVerdict) → IsVerdict g case items above verdict
      → (verdict ≡ Verified) ↔ (IsGeometricStacking g above × KeepsCreases g above)
  verdict_tells verdict v = ((λ e. geometry (subst (IsVerdict g case items above) e v)), (λ both. verified both.0 both.1 verdict v))
