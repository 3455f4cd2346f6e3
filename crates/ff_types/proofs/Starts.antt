-- The starts of a case, place by place.
use Rattle.std.proofs.Common.{◌≡◌, ℕ, zero, suc, ◌-◌, ◌<◌, ◌==◌, Bool, true, false, List, length, refl, sym, ◌∙◌, ap, subst, Some, arith, slice_get}
use Rattle.std.proofs.lemmas.Bool.{eqb-true, eqb-false}
use Rattle.std.proofs.lemmas.Option.{slice_get-get_or, slice_get_within, get_or_from_slice_get}
use Rattle.ff_tables.specs.declared.systems.System.{System}
use Rattle.ff_tables.specs.declared.givens.Given.{Given}
use Rattle.ff_tables.specs.declared.givens.GivenBy.{GivenBy}
use Rattle.ff_tables.specs.declared.givens.GivenBy.TheVariants.{Crease, Pin}
use Rattle.ff_types.specs.declared.cites.Cite.{Cite}
use Rattle.ff_types.specs.CaseFields.{AreCaseFields, IsNextStart, AreStarts, is_crease, edge_of, start_at}

-- by the crease of that edge
by_edge : (by : GivenBy) → is_crease by ≡ true → by ≡ Crease (edge_of by)
by_edge (Crease e) t = refl
by_edge Pin t = cc

there : (starts : List Given) (n : ℕ) → n < length starts → slice_get starts n ≡ Some (start_at starts n)
there starts n h = slice_get-get_or starts n _ h

is_there : (starts : List Given) (n : ℕ) (g : Given) → slice_get starts n ≡ Some g → start_at starts n ≡ g
is_there starts n g e = get_or_from_slice_get starts n g _ e

pub starts_from_fields : (system : System) (cites : List Cite) (pairs : List (ℕ × ℕ)) (starts : List Given) → AreCaseFields system cites pairs starts → AreStarts system.vars starts
starts_from_fields system cites pairs starts f = record { each = each } where
  each : (n : ℕ) → n < length starts → IsNextStart system.vars starts n
  each n h = record {
    fits = f.fit n (start_at starts n) (there starts n h);
    by_crease = f.by_creases n (start_at starts n) (there starts n h);
    after = λ some. f.rising (n - 1) n (start_at starts (n - 1)) (start_at starts n) _ _ (omega (arith, some)) (there starts (n - 1) (omega (arith, h))) (there starts n h)
        (by_edge _ (f.by_creases (n - 1) (start_at starts (n - 1)) (there starts (n - 1) (omega (arith, h))))) (by_edge _ (f.by_creases n (start_at starts n) (there starts n h)));
  }

pub fields_from_starts : (system : System) (cites : List Cite) (pairs : List (ℕ × ℕ)) (starts : List Given) → length cites ≡ length system.constraints → length pairs ≡ system.vars → AreStarts system.vars starts → AreCaseFields system cites pairs starts
fields_from_starts system cites pairs starts cited paired s = record {
  cited = cited;
  paired = paired;
  fit = λ i g e. subst (λ h. h.var < system.vars) (is_there starts i g e) (s.each i (slice_get_within starts i g e)).fits;
  by_creases = λ i g e. subst (λ h. is_crease h.by ≡ true) (is_there starts i g e) (s.each i (slice_get_within starts i g e)).by_crease;
  rising = λ i j g h d e l x y p q. rises i j g h d e l x y p q;
} where
  step : (n : ℕ) → suc n < length starts → edge_of (start_at starts n).by < edge_of (start_at starts (suc n)).by
  step n h = subst (λ k. edge_of (start_at starts k).by < edge_of (start_at starts (suc n)).by) less ((s.each (suc n) h).after (omega arith)) where
    less : suc n - 1 ≡ n
    less = omega arith

  far : (m n : ℕ) → m < n → n < length starts → edge_of (start_at starts m).by < edge_of (start_at starts n).by
  far m zero l h = absurd (omega (arith, l))
  far m (suc n) l h = by (m == n) refl (far m n) where
    by : (b : Bool) → (m == n) ≡ b → (m < n → n < length starts → edge_of (start_at starts m).by < edge_of (start_at starts n).by) → edge_of (start_at starts m).by < edge_of (start_at starts (suc n)).by
    by true e g = subst (λ k. edge_of (start_at starts k).by < edge_of (start_at starts (suc n)).by) (sym (eqb-true m n e)) (step n h)
    by false e g = omega (arith, g (less (eqb-false m n e)) (omega (arith, h)), step n h) where
      less : (m ≡ n → ⊥) → m < n
      less d = grind (arith, l, d)

  rises : (i j : ℕ) (g h : Given) (d e : ℕ) → i < j → slice_get starts i ≡ Some g → slice_get starts j ≡ Some h → g.by ≡ Crease d → h.by ≡ Crease e → d < e
  rises i j g h d e l x y p q = subst (λ k. k < e) (ap edge_of (ap (λ z. z.by) (is_there starts i g x) ∙ p)) (subst (λ k. edge_of (start_at starts i).by < k) (ap edge_of (ap (λ z. z.by) (is_there starts j h y) ∙ q)) (far i j l (slice_get_within starts j h y)))
