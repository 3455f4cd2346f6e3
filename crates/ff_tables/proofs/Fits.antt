-- Constraints that fit.
use Rattle.std.proofs.Common.{List, ◌≡◌, ℕ, ◌<◌, length, sym, ap, ◌∙◌, subst, inl, inr}
use Rattle.std.proofs.lemmas.Bool.{cases_order}
use Rattle.ff_tables.specs.declared.terms.Constraint.{Constraint}
use Rattle.ff_tables.specs.declared.terms.Term.{Term}
use Rattle.ff_tables.specs.Orders.{term_at}
use Rattle.ff_tables.specs.Rows.{arity}
use Rattle.ff_tables.specs.Systems.{IsFit}
use Rattle.ff_tables.specs.Fitting.{AreWithin, AllDiffer}

pub fit_from : (vars : ℕ) (con : Constraint) (ts : List Term) → ts ≡ con.terms → length ts ≡ arity con.kind
    → AreWithin vars ts → AllDiffer ts → IsFit vars con
fit_from vars con ts e n within differ = record {
  terms = ap length (sym e) ∙ n;
  within = subst (λ (us : List Term). AreWithin vars us) e within;
  differ = subst (λ (us : List Term). (i j : ℕ) → i < length us → j < length us
      → (term_at us i).var ≡ (term_at us j).var → i ≡ j) e order;
}
  where
    order : (i j : ℕ) → i < length ts → j < length ts → (term_at ts i).var ≡ (term_at ts j).var → i ≡ j
    order i j li lj same = elim (cases_order i j) [
      | inl e ↦ e
      | inr s ↦ elim s [ inl a ↦ absurd (differ j lj i a (sym same)) | inr b ↦ absurd (differ i li j b same) ]
    ]
