-- Constraints that are due, and those that the opening facts settle.
use Rattle.std.proofs.Common.{◌≡◌, ◌⊎◌, ⊎_elim, inl, inr, ℕ, zero, suc, ◌+◌, ◌<◌, ◌≤◌, List, [], ◌∷◌, ◌++◌, length, get_or, slice_get, length-append, refl, sym, ap, ◌∙◌, subst, arith, Option, Some, None}
use Rattle.std.proofs.lemmas.List.{get_or_append_left, get_or_push}
use mathlib.Core.Logic.{dite}
use native.Mathlib.Decide.{ℕ_discrete}
use Rattle.ff_tables.specs.declared.orders.Order.{Order}
use Rattle.ff_tables.specs.declared.terms.Constraint.{Constraint}
use Rattle.ff_tables.specs.Orders.{term_at}
use Rattle.ff_propagate.specs.declared.facts.Fact.{Fact}
use Rattle.ff_propagate.specs.declared.words.Held.{Held}
use Rattle.ff_propagate.specs.Facts.{fact_at, value_at, seen}
use Rattle.ff_propagate.specs.Words.{held}
use Rattle.ff_propagate.proofs.Lists.{seen_is}
use Rattle.ff_board.specs.declared.opening.Opening.{Opening}
use Rattle.ff_board.specs.Due.{IsSettledBy, AreDue}
use Rattle.ff_board.specs.Facts.{cons_in, SeenAt, Grows}
use Rattle.ff_board.specs.Rule.{Opens, AgreeAt}
use Rattle.ff_board.specs.Swept.{Base, RestsBetween, Quiets}
use Rattle.ff_board.proofs.Sweeps.{seen_grows}

pub no_dues : (cons : List Constraint) (fs : List (Option Fact)) → AreDue cons fs 0 []
no_dues cons fs = record {
  below = λ k l. absurd (omega (arith, l));
  each = λ c con l. absurd (omega (arith, l));
}

one_constraint : (x : Option Constraint) (a b : Constraint) → x ≡ Some a → x ≡ Some b → a ≡ b
one_constraint x a b p q = cc

pub due_settled : (cons : List Constraint) (fs : List (Option Fact)) (n : ℕ) (list : List ℕ) (con : Constraint) → slice_get cons n ≡ Some con → IsSettledBy fs con
    → AreDue cons fs n list → AreDue cons fs (n + 1) list
due_settled cons fs n list con at settled was = record {
  below = λ k l. let b = was.below k l in omega (arith, b);
  each = λ c other l there. dite (ℕ_discrete c n)
      (λ e. inl (subst (IsSettledBy fs) (one_constraint (slice_get cons n) con other at (ap (slice_get cons) (sym e) ∙ there)) settled))
      (λ d. was.each c other (omega (arith, l, d)) there);
}

pub due_pushed : (cons : List Constraint) (fs : List (Option Fact)) (n : ℕ) (list : List ℕ) → AreDue cons fs n list → AreDue cons fs (n + 1) (list ++ n ∷ [])
due_pushed cons fs n list was =
    let long : length (list ++ n ∷ []) ≡ length list + 1 = length-append list (n ∷ []) in
    record {
      below = λ k l. dite (ℕ_discrete k (length list))
          (λ e. let s : get_or (list ++ n ∷ []) k 0 ≡ n = ap (λ (j : ℕ). get_or (list ++ n ∷ []) j 0) e ∙ get_or_push list n 0 (length list) refl in omega (arith, s))
          (λ d. let m : k < length list = omega (arith, l, long, d) in let b = was.below k m in let s = get_or_append_left list (n ∷ []) 0 k m in omega (arith, b, s));
      each = λ c con l there. dite (ℕ_discrete c n)
          (λ e. inr (length list, omega (arith, long), get_or_push list n 0 (length list) refl ∙ sym e))
          (λ d. ⊎_elim inl (λ t. inr (t.0, omega (arith, t.1, long), get_or_append_left list (n ∷ []) 0 t.0 t.1 ∙ t.2)) (was.each c con (omega (arith, l, d)) there));
    }

-- what the opening facts settle rests, once they were seen
pub settled_rests : (o : Opening) (con : Constraint) (old new : List ℕ) → IsSettledBy o.facts con → Opens o old → AgreeAt o old → Grows old new → RestsBetween o con old new
settled_rests o con old new settled opened agree grow = record {
  found = value_at o.facts;
  before = λ j s l b. ⊎_elim
      (λ h. let k = settled.0 j l in
      let f = seen_is (fact_at o.facts (term_at con.terms j).var) k.0 k.1 in
      let same = agree (term_at con.terms j).var h.0 f.0 h.1 f.1 in
      ap seen f.1 ∙ ap Some (ap (λ (x : Fact). x.value) (sym same) ∙ h.2))
      (λ e. e) b;
  after = λ j s l e. let f = seen_is (fact_at o.facts (term_at con.terms j).var) s e in
      let w = opened (term_at con.terms j).var f.0 f.1 in (_, grow (term_at con.terms j).var _ w.1, f.2);
  rests = (settled.1, λ p l. inl (settled.0 p l));
}

-- where the constraints that are due rest, all do
pub quiets_all : (o : Opening) (list : List ℕ) (old new : List ℕ) → AreDue (cons_in o) o.facts (length (cons_in o)) list → Opens o old → AgreeAt o old → Grows old new
    → ((k : ℕ) (con : Constraint) → k < length list → slice_get (cons_in o) (get_or list k 0) ≡ Some con → RestsBetween o con old new)
    → Quiets o (length (cons_in o)) old new
quiets_all o list old new due opened agree grow rests c con l at = ⊎_elim
    (λ settled. settled_rests o con old new settled opened agree grow)
    (λ (t : (k : ℕ) × (k < length list) × (get_or list k 0 ≡ c)). rests t.0 con t.1 (ap (slice_get (cons_in o)) t.2 ∙ at))
    (due.each c con l at)
