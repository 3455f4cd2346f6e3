-- What reading the terms of a constraint gives.
use Rattle.std.proofs.Common.{◌≡◌, ◌≢◌, ℕ, ◌+◌, ◌<◌, ◌≤◌, List, length, slice_get, refl, sym, ap, ◌∙◌, subst, inl, arith, Option, Some, None}
use Rattle.ff_tables.specs.declared.orders.Order.{Order}
use Rattle.ff_tables.specs.declared.terms.Term.{Term}
use Rattle.ff_tables.specs.declared.terms.Constraint.{Constraint}
use Rattle.ff_tables.specs.declared.known.Forced.TheVariants.{Nothing}
use Rattle.ff_tables.specs.Orders.{term_at}
use Rattle.ff_tables.specs.Systems.{IsFit}
use Rattle.ff_tables.specs.Forces.{Forces, Knows, ForcedIs, NoneAgrees, IsFirst}
use Rattle.ff_tables.proofs.Agreeing.{forces_more}
use Rattle.ff_propagate.specs.declared.words.Held.{Held}
use Rattle.ff_board.specs.declared.opening.Opening.{Opening}
use Rattle.ff_propagate.specs.Words.{held}
use Rattle.ff_board.specs.Facts.{vars_in, cons_in, SeenAt, SeenBelow, Grows}
use Rattle.ff_board.specs.Found.{value_in, found_at}
use Rattle.ff_board.specs.Rule.{set_below}
use Rattle.ff_board.specs.Swept.{Base, RestsBetween}
use Rattle.ff_board.proofs.Examined.{found_is, below_less, none_some}

pub record Read (o : Opening) (ts : List Term) (xs : List (Option Order)) (old new : List ℕ) (top : ℕ) : Type 0 where
  pub wide : length ts ≤ length xs
  pub before : (j : ℕ) (s : Order) → j < length ts → Base o old (term_at ts j).var s → value_in xs j ≡ Some s
  pub after : (j : ℕ) (s : Order) → j < length ts → value_in xs j ≡ Some s → (h : Held) × (held new (term_at ts j).var ≡ Some h) × (h.fact.value ≡ s) × (h.fact.level ≤ top)

module _ (o : Opening) (con : Constraint) (ts : List Term) (xs : List (Option Order)) (old new : List ℕ) (top : ℕ) (same : ts ≡ con.terms) (fit : IsFit (vars_in o) con) (read : Read o ts xs old new top) where
  here : Read o con.terms xs old new top
  here = subst (λ (us : List Term). Read o us xs old new top) same read

  known : (j : ℕ) → j < length con.terms → found_at ts xs (term_at con.terms j).var ≡ value_in xs j
  known j l = ap (λ (us : List Term). found_at us xs (term_at con.terms j).var) same ∙ found_is con.terms xs here.wide fit.differ j l

  seen_after : (j : ℕ) (s : Order) → j < length con.terms → found_at ts xs (term_at con.terms j).var ≡ Some s → (h : Held) × (held new (term_at con.terms j).var ≡ Some h) × (h.fact.value ≡ s) × (h.fact.level ≤ top)
  seen_after j s l e = here.after j s l (sym (known j l) ∙ e)

  found_before : (j : ℕ) (s : Order) → j < length con.terms → Base o old (term_at con.terms j).var s → found_at ts xs (term_at con.terms j).var ≡ Some s
  found_before j s l b = known j l ∙ here.before j s l b

  pub rests : ForcedIs con.kind con.terms (found_at ts xs) Nothing → RestsBetween o con old new
  rests r = record {
    found = found_at ts xs;
    before = found_before;
    after = λ j s l e. let h = seen_after j s l e in (h.0, h.1, h.2);
    rests = r;
  }

  pub none : NoneAgrees con.kind con.terms (Knows (found_at ts xs)) → NoneAgrees con.kind con.terms (SeenAt new)
  none r k row at agrees = r k row at (λ j b l e. let h = seen_after j _ l e in agrees j b l (h.0, h.1, h.2))

  pub forces : (v : ℕ) (s : Order) → IsFirst con.kind con.terms (found_at ts xs) v s → Forces con.kind con.terms (SeenBelow new (top + 1)) v s
  forces v s first = forces_more con.kind con.terms (Knows (found_at ts xs)) (SeenBelow new (top + 1)) v s
      (λ j t l e. let h = seen_after j t l e in (h.0, h.1, omega (arith, h.3), h.2)) (first.at, first.within, first.var, first.only)

  pub inside : (v : ℕ) (s : Order) → IsFirst con.kind con.terms (found_at ts xs) v s → v < vars_in o
  inside v s first = subst (λ (u : ℕ). u < vars_in o) first.var (fit.within first.at first.within)

  pub more : (v : ℕ) (s : Order) (last : List ℕ) → IsFirst con.kind con.terms (found_at ts xs) v s → Grows old last → (h : Held) → held last v ≡ Some h → set_below (vars_in o) old < set_below (vars_in o) last
  more v s last first grow h e = below_less (vars_in o) old last v h grow (inside v s first) e
      (λ g p. none_some (found_at ts xs v) g.fact.value first.unknown
      (ap (found_at ts xs) (sym first.var) ∙ found_before first.at g.fact.value first.within (inl (g, ap (held old) first.var ∙ p, refl))))
