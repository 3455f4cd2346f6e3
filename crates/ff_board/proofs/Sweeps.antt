-- When a pass, and a sweep, has ended.
use Rattle.std.proofs.Common.{◌≡◌, ℕ, ◌+◌, ◌<◌, ◌≤◌, ◌⊎◌, Bool, true, false, List, length, slice_get, get_or, sym, refl, ap, ◌∙◌, subst, ⊎_elim, inl, inr, arith, Option, Some, None}
use Rattle.std.proofs.lemmas.Option.{slice_get_within}
use mathlib.Core.Logic.{dite}
use native.Mathlib.Decide.{ℕ_discrete}
use Rattle.ff_tables.specs.declared.orders.Order.{Order}
use Rattle.ff_tables.specs.declared.terms.Term.{Term}
use Rattle.ff_tables.specs.declared.terms.Constraint.{Constraint}
use Rattle.ff_tables.specs.Orders.{term_at, turn}
use Rattle.ff_tables.specs.Systems.{AreFit}
use Rattle.ff_tables.specs.Forces.{Forces, Knows, Agrees}
use Rattle.ff_tables.proofs.Agreeing.{forces_more}
use Rattle.ff_propagate.proofs.Exact.{quiet_known}
use Rattle.ff_propagate.specs.declared.words.Held.{Held}
use Rattle.ff_board.specs.declared.opening.Opening.{Opening}
use Rattle.ff_propagate.specs.Words.{held}
use Rattle.ff_board.specs.Facts.{vars_in, cons_in, SeenAt, Grows}
use Rattle.ff_board.specs.Rule.{set_below, Opens}
use Rattle.ff_board.specs.Swept.{Base, RestsBetween, Quiets, QuietsOf, Closes}
use Rattle.ff_board.proofs.Counts.{same_below}

pub seen_grows : (ws xs : List ℕ) (v : ℕ) (s : Order) → Grows ws xs → SeenAt ws v s → SeenAt xs v s
seen_grows ws xs v s g h = (h.0, g v h.0 h.1, h.2)

pub opens_grows : (o : Opening) (ws xs : List ℕ) → Grows ws xs → Opens o ws → Opens o xs
opens_grows o ws xs g opened v f at = let t = opened v f at in (t.0, g v _ t.1)

pub base_grows : (o : Opening) (ws xs : List ℕ) (v : ℕ) (s : Order) → Grows ws xs → Base o ws v s → Base o xs v s
base_grows o ws xs v s g b = ⊎_elim (λ h. inl (seen_grows ws xs v s g h)) inr b

pub widens : (o : Opening) (con : Constraint) (first old new last : List ℕ) → Grows first old → Grows new last → RestsBetween o con old new → RestsBetween o con first last
widens o con first old new last a z r = record {
  found = r.found;
  before = λ j s l b. r.before j s l (base_grows o first old (term_at con.terms j).var s a b);
  after = λ j s l f. seen_grows new last (term_at con.terms j).var s z (r.after j s l f);
  rests = r.rests;
}

-- one constraint of the list more
pub quiets_on : (o : Opening) (list : List ℕ) (n : ℕ) (first old new : List ℕ) → Grows first old → Grows old new → QuietsOf o list n first old
    → ((con : Constraint) → slice_get (cons_in o) (get_or list n 0) ≡ Some con → RestsBetween o con old new) → QuietsOf o list (n + 1) first new
quiets_on o list n first old new a z all r k d l at = dite (ℕ_discrete k n)
    (λ e. widens o d first old new new a (λ v h p. p) (r d (ap (λ (j : ℕ). slice_get (cons_in o) (get_or list j 0)) (sym e) ∙ at)))
    (λ e. widens o d first first old new (λ v h p. p) z (all k d (omega arith) at))

-- what a constraint that rests forces from what was known before is seen after
pub rested : (o : Opening) (con : Constraint) (old new : List ℕ) → RestsBetween o con old new → (v : ℕ) (s : Order) → Forces con.kind con.terms (Base o old) v s → SeenAt new v s
rested o con old new r v s f =
    let k : r.found v ≡ Some s = quiet_known con.kind con.terms r.found v s r.rests (forces_more con.kind con.terms (Base o old) (Knows r.found) v s (λ j t l b. r.before j t l b) f) in
    subst (λ (z : ℕ). SeenAt new z s) f.2 (r.after f.0 s f.1 (ap r.found f.2 ∙ k))

pub closes : (o : Opening) (first mid last : List ℕ) → Grows first mid → Grows mid last → set_below (vars_in o) first ≡ set_below (vars_in o) last → Quiets o (length (cons_in o)) first mid
    → AreFit (vars_in o) (cons_in o) → Closes o last
closes o first mid last a z count all fits c con at =
    let r = all c con (slice_get_within (cons_in o) c con at) at in
    let up : Grows first last = λ v h p. z v h (a v h p) in
    let back : (j : ℕ) (s : Order) → j < length con.terms → SeenAt last (term_at con.terms j).var s → Base o first (term_at con.terms j).var s =
    λ j s l h. inl (h.0, same_below (vars_in o) first last up count (term_at con.terms j).var h.0 ((fits c con at).within j l) h.1, h.2) in
    let some = r.rests.0 in (
      (some.0, some.1, some.2, λ j b l h. some.3 j b l (r.before j _ l (back j _ l h))),
      λ v s f. seen_grows mid last v s z (rested o con first mid r v s (forces_more con.kind con.terms (SeenAt last) (Base o first) v s back f)),
    )
