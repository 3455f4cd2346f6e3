-- An examination that sets a fact.
use Rattle.std.proofs.Common.{zero, suc, [], ◌∷◌, if◌then◌else◌, ◌==◌, ◌≡◌, ◌≢◌, ℕ, ◌<◌, ◌≤◌, Bool, List, length, refl, sym, ap, ◌∙◌, subst, arith, Option, Some, None, eq-eqb, ne_eqb, eqb}
use mathlib.Core.Logic.{dite}
use native.Mathlib.Decide.{ℕ_discrete}
use Rattle.ff_tables.specs.declared.orders.Order.{Order}
use Rattle.ff_tables.specs.declared.terms.Term.{Term}
use Rattle.ff_tables.specs.Orders.{term_at}
use Rattle.ff_propagate.specs.declared.facts.Fact.{Fact}
use Rattle.ff_propagate.specs.declared.words.Held.{Held}
use Rattle.ff_board.specs.declared.seats.View.{View}
use Rattle.ff_board.specs.declared.offering.Offer.{Offer}
use Rattle.ff_board.specs.declared.offering.Offer.TheVariants.{Set, Same, Other}
use Rattle.ff_propagate.specs.Words.{held}
use Rattle.ff_board.specs.Facts.{Grows}
use Rattle.ff_board.specs.Found.{value_in, found_at}
use Rattle.ff_board.specs.Answer.{Answers, fact_of, fact_seen}
use Rattle.ff_board.specs.Rule.{set_below}
use Rattle.ff_board.proofs.Counts.{below_grows, same_below}

pub held_by : (x : Option Held) (f : Fact) → fact_of x ≡ Some f → (h : Held) × (x ≡ Some h) × (h.fact ≡ f)
held_by None f e = absurd (let q : None ≡ Some f = e in cc)
held_by (Some h) f e = (h, refl, let q : Some h.fact ≡ Some f = e in cc)

pub told_seen : (v : ℕ) (f : Fact) (old d : View) (r : Offer) → Answers old v f d r → (h : Held) × (held d.seen v ≡ Some h)
told_seen v f old d Set t = (record { fact = f; marks = t.1.0 }, t.1.1)
told_seen v f old d (Same g) t = let q = held_by (held d.seen v) g t.1 in (q.0, q.1)
told_seen v f old d (Other g) t = let q = held_by (held d.seen v) g t.1 in (q.0, q.1)

pub below_less : (k : ℕ) (ws xs : List ℕ) (v : ℕ) (h : Held) → Grows ws xs → v < k → held xs v ≡ Some h → ((g : Held) → held ws v ≡ Some g → ⊥) → set_below k ws < set_below k xs
below_less k ws xs v h g l e unseen = let a = below_grows k ws xs g in
    dite (ℕ_discrete (set_below k ws) (set_below k xs)) (λ same. absurd (unseen h (same_below k ws xs g same v h l e))) (λ n. omega arith)

-- terms of different variables
abbrev pub Differ : List Term → Type 0
Differ ts = (i j : ℕ) → i < length ts → j < length ts → (term_at ts i).var ≡ (term_at ts j).var → i ≡ j

-- what was found of a term's variable is what stands at the term
pub found_is : (ts : List Term) (xs : List (Option Order)) → length ts ≤ length xs → Differ ts → (j : ℕ) → j < length ts → found_at ts xs (term_at ts j).var ≡ value_in xs j
found_is [] xs wide differ j l = absurd (omega arith)
found_is (t ∷ ts) [] wide differ j l = absurd (omega arith)
found_is (t ∷ ts) (x ∷ xs) wide differ zero l = rw (eq-eqb t.var t.var refl) refl
found_is (t ∷ ts) (x ∷ xs) wide differ (suc j) l =
    let apart : t.var ≢ (term_at ts j).var = λ e. let z : zero ≡ suc j = differ zero (suc j) (omega arith) l e in absurd (omega arith) in
    rw (ne_eqb t.var (term_at ts j).var apart) (found_is ts xs (omega arith) (λ i k a b e. let s : suc i ≡ suc k = differ (suc i) (suc k) (omega arith) (omega arith) e in omega arith) j (omega arith))

pub none_some : {X : Type 0} (x : Option X) (y : X) → x ≡ None → x ≡ Some y → ⊥
none_some x y p q = let e : None ≡ Some y = sym p ∙ q in cc

pub found_first : (ts : List Term) (xs : List (Option Order)) (v j : ℕ) → j < length ts → length ts ≤ length xs → ((i : ℕ) → i < j → (term_at ts i).var ≢ v) → (term_at ts j).var ≡ v → value_in xs j ≡ found_at ts xs v
found_first [] xs v j l wide earlier e = absurd (omega arith)
found_first (t ∷ ts) [] v j l wide earlier e = absurd (omega arith)
found_first (t ∷ ts) (x ∷ xs) v zero l wide earlier e = rw (eq-eqb t.var v e) refl
found_first (t ∷ ts) (x ∷ xs) v (suc j) l wide earlier e = rw (ne_eqb t.var v (earlier zero (omega arith))) (found_first ts xs v j (omega arith) (omega arith) (λ i k. earlier (suc i) (omega arith)) e)

pub found_none : (ts : List Term) (xs : List (Option Order)) (v : ℕ) → ((i : ℕ) → i < length ts → (term_at ts i).var ≢ v) → None ≡ found_at ts xs v
found_none [] xs v all = refl
found_none (t ∷ ts) [] v all = refl
found_none (t ∷ ts) (x ∷ xs) v all = rw (ne_eqb t.var v (all zero (omega arith))) (found_none ts xs v (λ i l. all (suc i) (omega arith)))
