-- The share of a hand is done.
use Rattle.std.proofs.Common.{◌≡◌, ℕ, ◌+◌, ◌%◌, ◌<◌, ◌⊎◌, List, length, slice_get, get_or, sym, refl, ap, ◌∙◌, subst, ⊎_elim, inl, inr, arith, Option, Some}
use mathlib.Core.Logic.{dite}
use native.Mathlib.Decide.{ℕ_discrete}
use Rattle.ff_tables.specs.declared.orders.Order.{Order}
use Rattle.ff_tables.specs.declared.terms.Constraint.{Constraint}
use Rattle.ff_tables.specs.Orders.{term_at}
use Rattle.ff_tables.specs.Forces.{Forces, NoneAgrees}
use Rattle.ff_tables.proofs.Agreeing.{forces_more}
use Rattle.ff_board.specs.declared.opening.Opening.{Opening}
use Rattle.ff_board.specs.Facts.{cons_in, SeenAt, Grows}
use Rattle.ff_board.specs.Swept.{Base, RestsBetween, IsDeadSeen}
use Rattle.ff_board.proofs.Sweeps.{base_grows, seen_grows, rested}
use Rattle.ff_propagate.specs.Facts.{fact_at}
use Rattle.ff_propagate.specs.Words.{held}
use Rattle.ff_propagate.proofs.Lists.{seen_is}
use Rattle.ff_board.specs.Due.{IsSettledBy, AreDue}
use Rattle.ff_board.specs.Rule.{Opens}
use Rattle.ff_steal.specs.Shares.{SeenSome, IsDone, AreDone, AreDoneOf}

-- an examination at which nothing more was forced
pub quiet_done : (o : Opening) (c : ℕ) (first old new : List ℕ) → Grows first old → ((con : Constraint) → slice_get (cons_in o) c ≡ Some con → RestsBetween o con old new) → IsDone o c first new
quiet_done o c first old new grows rests con is = inl (λ v s f.
    let t = rested o con old new (rests con is) v s (forces_more con.kind con.terms (Base o first) (Base o old) v s (λ j x l b. base_grows o first old (term_at con.terms j).var x grows b) f) in (t.0, t.1))

pub dead_done : (o : Opening) (c : ℕ) (first new : List ℕ) → IsDeadSeen o c new → IsDone o c first new
dead_done o c first new dead con is =
    let same : dead.0 ≡ con = let a = dead.1 in cc in
    inr (subst (λ (x : Constraint). NoneAgrees x.kind x.terms (SeenAt new)) same dead.2)

-- more that is seen before, and after
pub done_wide : (o : Opening) (c : ℕ) (first old new last : List ℕ) → Grows first old → Grows new last → IsDone o c old new → IsDone o c first last
done_wide o c first old new last a z done con is = ⊎_elim
    (λ all. inl (λ v s f. let t = all v s (forces_more con.kind con.terms (Base o first) (Base o old) v s (λ j x l b. base_grows o first old (term_at con.terms j).var x a b) f) in (t.0, z v t.0 t.1)))
    (λ none. inr (λ k row at agrees. none k row at (λ j b l seen. agrees j b l (seen_grows new last (term_at con.terms j).var _ z seen))))
    (done con is)

pub shares_wide : (o : Opening) (number of n : ℕ) (first old last : List ℕ) → Grows old last → AreDone o number of n first old → AreDone o number of n first last
shares_wide o number of n first old last z done c l e = done_wide o c first first old last (λ v h p. p) z (done c l e)

-- one constraint of the list more
pub shares_on : (o : Opening) (number of : ℕ) (list : List ℕ) (k : ℕ) (first old new : List ℕ) → Grows first old → Grows old new
    → AreDoneOf o number of list k first old → (get_or list k 0 % of ≡ number → IsDone o (get_or list k 0) old new)
    → AreDoneOf o number of list (k + 1) first new
shares_on o number of list k first old new a z done one i l e = dite (ℕ_discrete i k)
    (λ s. subst (λ (j : ℕ). IsDone o (get_or list j 0) first new) (sym s)
    (done_wide o (get_or list k 0) first old new new a (λ v h p. p) (one (ap (λ (j : ℕ). get_or list j 0 % of) (sym s) ∙ e))))
    (λ d. done_wide o (get_or list i 0) first first old new (λ v h p. p) z (done i (omega (arith, l, d)) e))

-- a constraint that the opening facts settle is done once they were seen
settled_done : (o : Opening) (c : ℕ) (con : Constraint) (first new : List ℕ) → slice_get (cons_in o) c ≡ Some con → IsSettledBy o.facts con → Opens o new
    → IsDone o c first new
settled_done o c con first new there settled opened other is = inl (λ v s f.
    let same : other ≡ con = one other con (sym is ∙ there) in
    let g = subst (λ (x : Constraint). Forces x.kind x.terms (Base o first) v s) same f in
    let k = settled.0 g.0 g.1 in
    let h = seen_is (fact_at o.facts (term_at con.terms g.0).var) k.0 k.1 in
    let w = opened (term_at con.terms g.0).var h.0 h.1 in
    (_, ap (held new) (sym g.2) ∙ w.1))
  where
    one : (a b : Constraint) → Some a ≡ Some b → a ≡ b
    one a b e = cc

-- where the constraints that are due are done, the whole share is
pub shares_all : (o : Opening) (number of : ℕ) (list : List ℕ) (first new : List ℕ) → Opens o new → AreDue (cons_in o) o.facts (length (cons_in o)) list
    → ((i : ℕ) → i < length list → get_or list i 0 % of ≡ number → IsDone o (get_or list i 0) first new)
    → AreDone o number of (length (cons_in o)) first new
shares_all o number of list first new opened due done c l e con is = ⊎_elim
    (λ settled. settled_done o c con first new is settled opened con is)
    (λ (t : (i : ℕ) × (i < length list) × (get_or list i 0 ≡ c)).
    subst (λ (k : ℕ). IsDone o k first new) t.2 (done t.0 t.1 (ap (λ (k : ℕ). k % of) t.2 ∙ e)) con is)
    (due.each c con l is)
