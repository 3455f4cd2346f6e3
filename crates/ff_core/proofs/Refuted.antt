-- What the facts of an epoch come to.
use Rattle.std.proofs.Common.{◌≡◌, ℕ, ◌+◌, ◌<◌, ◌≤◌, List, length, map, get_or, slice_get, sym, ap, ◌∙◌, subst, inl, inr, arith, Option, Some, None}
use Rattle.std.specs.Prelude.{MatchOption}
use Rattle.std.proofs.lemmas.Option.{slice_get-get_or, slice_get_within}
use Rattle.ff_basics.proofs.Numbers.{last_or}
use Rattle.ff_tables.specs.declared.orders.Order.{Order}
use Rattle.ff_tables.specs.declared.terms.Constraint.{Constraint}
use Rattle.ff_tables.specs.declared.givens.Given.{Given}
use Rattle.ff_types.specs.declared.cases.Case.{Case}
use Rattle.ff_types.specs.Pairs.{AreSorted}
use Rattle.ff_propagate.specs.declared.facts.Fact.{Fact}
use Rattle.ff_propagate.specs.declared.facts.Reason.TheVariants as reason
use Rattle.ff_propagate.specs.declared.facts.ClashAt.{ClashAt}
use Rattle.ff_propagate.specs.declared.facts.ClashAt.TheVariants as at
use Rattle.ff_propagate.specs.Facts.{fact_at, value_at, seen}
use Rattle.ff_propagate.specs.FactRule.{StandsBy, MeetsFactRule}
use Rattle.ff_propagate.specs.Closure.{IsClosure, Gives, HoldsGivens}
use Rattle.ff_propagate.specs.ClosureLaws.{AreQuiet, QuietFactsAreTheClosure}
use Rattle.ff_refute.specs.Givens.{IsClash}
use Rattle.ff_journal.specs.declared.entries.Entry.{Entry}
use Rattle.ff_journal.specs.declared.entries.Outcome.{Outcome}
use Rattle.ff_journal.specs.declared.entries.Outcome.TheVariants as outcome
use Rattle.ff_journal.specs.Epochs.{givens_of}
use Rattle.ff_journal.proofs.LastPublished.{value_is}
use Rattle.ff_core.specs.Steps.{HaveContradiction, IsNotClosed}
use Rattle.ff_core.specs.Scans.{IsFirstMore}
use Rattle.ff_core.specs.Ends.{IsMet, IsContradicted, IsRefuted, ComesTo}
use Rattle.ff_core.specs.declared.refuting.Ended.TheVariants as ended
use Rattle.ff_told.specs.Ends.{IsRefutedBy}
use Rattle.ff_told.proofs.Refuted.{end_is_outcome, board_long}
use Rattle.ff_core.proofs.Scanned.{not_more}

same_given : {a b : Given} → Some a ≡ Some b → a ≡ b
same_given e = cc

same_fact : {a b : Fact} → Some a ≡ Some b → a ≡ b
same_fact e = cc

-- ---- contradictions

-- the fact of a given's variable is by a given
by_given : (vars : ℕ) (cons : List Constraint) (gs : List Given) (fs : List (Option Fact)) (i : ℕ) (g : Given) (h : Fact)
    → MeetsFactRule vars cons gs fs → slice_get gs i ≡ Some g → fact_at fs g.var ≡ Some h → (n : ℕ) × (h.reason ≡ reason.Given n)
by_given vars cons gs fs i g h rule is at =
    let r = rule.given i g is in
    let e : r.fact ≡ h = same_fact (sym r.there ∙ at) in
    (r.number, subst (λ (x : Fact). x.reason ≡ reason.Given r.number) e r.by_given)

-- what the fact of the i-th given's variable tells
pub met_or_clash : (vars : ℕ) (cons : List Constraint) (gs : List Given) (fs : List (Option Fact)) (i : ℕ) (d : Given) (h : Fact) (o : Option ℕ)
    → MeetsFactRule vars cons gs fs → i < length gs → fact_at fs (get_or gs i d).var ≡ Some h → IsContradicted (get_or gs i d) h o
    → MatchOption o (IsMet gs fs i) (λ first. IsClash cons gs fs (at.Givens first i))
met_or_clash vars cons gs fs i d h None rule l at c = λ g is.
    let e : get_or gs i d ≡ g = same_given (sym (slice_get-get_or gs i d l) ∙ is) in
    let b = by_given vars cons gs fs i (get_or gs i d) h rule (slice_get-get_or gs i d l) at in
    subst (λ (x : Given). value_at fs x.var ≡ Some x.value) e (ap seen at ∙ ap Some (c b.0 b.1))
met_or_clash vars cons gs fs i d h (Some first) rule l at c =
    let s = subst (λ r. StandsBy cons gs fs (get_or gs i d).var h.value h.level r) c.0 (rule.stands (get_or gs i d).var h at) in
    let given = s.1 in
    (given.given, get_or gs i d, given.there, slice_get-get_or gs i d l, (given.variable, λ e. c.1 (sym given.value ∙ e)))

-- there is a fact
pub no_fact : (vars : ℕ) (cons : List Constraint) (gs : List Given) (fs : List (Option Fact)) (i : ℕ) (d : Given)
    → MeetsFactRule vars cons gs fs → i < length gs → fact_at fs (get_or gs i d).var ≡ None → ⊥
no_fact vars cons gs fs i d rule l at = let r = rule.given i (get_or gs i d) (slice_get-get_or gs i d l) in nothing r.fact (sym at ∙ r.there)
  where
    nothing : (h : Fact) → None ≡ Some h → ⊥
    nothing h e = cc

pub met_more : (gs : List Given) (fs : List (Option Fact)) (i : ℕ) → ((k : ℕ) → k < i → IsMet gs fs k) → IsMet gs fs i
    → (k : ℕ) → k < i + 1 → IsMet gs fs k
met_more gs fs i old new k l = elim (last_or k i l) [
  | inl m ↦ old k m
  | inr e ↦ subst (λ n. IsMet gs fs n) (sym e) new
]

pub met_all : (gs : List Given) (fs : List (Option Fact)) (i : ℕ) → length gs ≤ i → ((k : ℕ) → k < i → IsMet gs fs k) → HoldsGivens gs (value_at fs)
met_all gs fs i l met k g is = let m = slice_get_within gs k g is in met k (omega (arith, m, l)) g is

-- givens that hold don't contradict each other
pub holds_agree : (gs : List Given) (fs : List (Option Fact)) → HoldsGivens gs (value_at fs) → HaveContradiction gs → ⊥
holds_agree gs fs holds (i, j, g, h, gi, hj, c) = c.1 (same_order (sym (holds i g gi) ∙ ap (value_at fs) c.0 ∙ holds j h hj))
  where
    same_order : {a b : Order} → Some a ≡ Some b → a ≡ b
    same_order e = cc

-- a clash of givens is a contradiction, and one of the facts a dead constraint
pub clash_ends : (case : Case) (gs : List Given) (fs : List (Option Fact)) (k : ClashAt) → IsClash case.system.constraints gs fs k
    → (c : ℕ) → IsNotClosed case.system.constraints gs fs c → ⊥
clash_ends case gs fs (at.Givens first second) (g, h, gi, hj, d) c n = n.agreed (first, second, g, h, gi, hj, d)
clash_ends case gs fs (at.Dead d) dead c n = n.alive (d, dead)

-- a refutation of an epoch's givens is one of the epoch
pub epoch_refuted : (case : Case) (j : List Entry) (e : ℕ) (gs : List Given) (o : Outcome) → AreSorted case.pairs → gs ≡ givens_of case j e
    → IsRefutedBy case gs o → IsRefuted case j e o
epoch_refuted case j e gs (outcome.Board board) sorted is r = absurd r
epoch_refuted case j e gs (outcome.Impossible pins log) sorted is r = end_is_outcome case j e gs (outcome.Impossible pins log) sorted is r

-- ---- what facts come to

pub comes_refuted : (case : Case) (j : List Entry) (e : ℕ) (gs : List Given) (fs : List (Option Fact)) (k : ClashAt) (o : Outcome)
    → gs ≡ givens_of case j e → IsClash case.system.constraints gs fs k → IsRefuted case j e o → ComesTo case j e fs (ended.With o)
comes_refuted case j e gs fs k (outcome.Board board) is clash r = absurd r
comes_refuted case j e gs fs k (outcome.Impossible pins log) is clash r =
    (λ n. clash_ends case gs fs k clash n.0 (subst (λ xs. IsNotClosed case.system.constraints xs fs n.0) (sym is) n.1), r, tt)

pub comes_more : (case : Case) (j : List Entry) (e : ℕ) (gs : List Given) (fs : List (Option Fact)) (c : ℕ) → gs ≡ givens_of case j e
    → HoldsGivens gs (value_at fs) → IsFirstMore case.system.constraints fs c → ComesTo case j e fs (ended.More c)
comes_more case j e gs fs c is holds m = subst (λ xs. IsNotClosed case.system.constraints xs fs c) is
    (record { agreed = holds_agree gs fs holds; alive = m.alive; forces = m.forces; first = m.first })

pub comes_closed : QuietFactsAreTheClosure → (case : Case) (j : List Entry) (e : ℕ) (gs : List Given) (fs : List (Option Fact)) (board : List (Option Order))
    → gs ≡ givens_of case j e → MeetsFactRule case.system.vars case.system.constraints gs fs → HoldsGivens gs (value_at fs)
    → AreQuiet case.system.constraints (value_at fs) → board ≡ map seen fs → ComesTo case j e fs (ended.With (outcome.Board board))
comes_closed closure case j e gs fs board is rule holds quiet b = (
  λ n. not_more case.system.constraints fs n.0 n.1.forces.constraint n.1.forces.there (quiet n.0 n.1.forces.constraint n.1.forces.there) n.1.forces,
  (
    ap (λ xs. length xs) b ∙ board_long fs ∙ rule.wide,
    subst (λ v. IsClosure case.system.constraints (Gives (givens_of case j e)) v) (sym (value_is fs board b))
        (subst (λ xs. IsClosure case.system.constraints (Gives xs) (value_at fs)) is (closure case.system.vars case.system.constraints gs fs rule holds quiet)),
  ),
  b,
)
