-- What was found on a board that was swept.
use Rattle.std.proofs.Common.{◌≡◌, ℕ, suc, ◌<◌, ◌≤◌, List, [], ◌∷◌, length, map, slice_get, sym, refl, ap, ◌∙◌, subst, arith, Option, Some, None}
use Rattle.std.specs.Arc.{arc_value}
use Rattle.ff_tables.specs.declared.orders.Order.{Order}
use Rattle.ff_tables.specs.declared.givens.Given.{Given}
use Rattle.ff_tables.specs.Orders.{term_at}
use Rattle.ff_tables.specs.Forces.{Knows}
use Rattle.ff_tables.proofs.Agreeing.{dead_more}
use Rattle.ff_types.specs.declared.cases.Case.{Case}
use Rattle.ff_propagate.specs.declared.facts.Fact.{Fact}
use Rattle.ff_propagate.specs.declared.words.Held.{Held}
use Rattle.ff_propagate.specs.Words.{held}
use Rattle.ff_propagate.specs.Facts.{fact_at, value_at, seen}
use Rattle.ff_propagate.specs.FactRule.{MeetsFactRule}
use Rattle.ff_propagate.specs.RuleLaws.{FactsAreInside}
use Rattle.ff_propagate.specs.Closure.{InClosure, IsClosure, Gives}
use Rattle.ff_board.specs.declared.opening.Opening.{Opening}
use Rattle.ff_board.specs.declared.seats.View.{View}
use Rattle.ff_board.specs.declared.sweep.Sweep.{Sweep}
use Rattle.ff_board.specs.declared.sweep.Sweep.TheVariants as sweep
use Rattle.ff_board.specs.Answer.{fact_of, fact_seen}
use Rattle.ff_board.specs.Ends.{SweepEnds}
use Rattle.ff_board.specs.Facts.{vars_in, cons_in, Grows, SeenAt}
use Rattle.ff_board.specs.Rule.{IsLearned}
use Rattle.ff_journal.specs.declared.entries.Outcome.{Outcome}
use Rattle.ff_journal.specs.declared.entries.Outcome.TheVariants as outcome
use Rattle.ff_journal.specs.Shown.{AreOfBoard}
use Rattle.ff_journal.proofs.LastPublished.{value_is}
use Rattle.ff_told.specs.Ends.{IsEndOf, IsRefutedBy}
use Rattle.ff_told.proofs.Refuted.{board_long}
use Rattle.ff_desk.specs.Ends.{SweptTo}

pub closed_end : (case : Case) (gs : List Given) (fs : List (Option Fact)) (board : List (Option Order)) → board ≡ map seen fs
    → MeetsFactRule case.system.vars case.system.constraints gs fs → IsClosure case.system.constraints (Gives gs) (value_at fs)
    → IsEndOf case gs (outcome.Board board)
closed_end case gs fs board is rule closure = (
  ap (λ xs. length xs) is ∙ board_long fs ∙ rule.wide,
  subst (λ v. IsClosure case.system.constraints (Gives gs) v) (sym (value_is fs board is)) closure,
)

pub refuted_end : (case : Case) (gs : List Given) (fs : List (Option Fact)) (o : Outcome) → IsRefutedBy case gs o → IsEndOf case gs o × AreOfBoard o fs
refuted_end case gs fs (outcome.Board board) r = absurd r
refuted_end case gs fs (outcome.Impossible pins log) r = (r, tt)

some_fact : (x : Option Fact) (s : Order) → seen x ≡ Some s → (h : Fact) × (x ≡ Some h) × (h.value ≡ s)
some_fact None s e = absurd (let q : None ≡ Some s = e in cc)
some_fact (Some h) s e = (h, refl, let q : Some h.value ≡ Some s = e in cc)

to_seen : (x : Option Held) (s : Order) → seen (fact_of x) ≡ Some s → (h : Held) × (x ≡ Some h) × (h.fact.value ≡ s)
to_seen None s e = absurd (let q : None ≡ Some s = e in cc)
to_seen (Some h) s e = (h, refl, let q : Some h.fact.value ≡ Some s = e in cc)

-- what was seen by the end of the sweep is among the facts that were collected
collected : (o : Opening) (ws : List ℕ) (d : View) (fs : List (Option Fact)) → d.opening ≡ o → Grows ws d.seen → IsLearned d
    → ((v : ℕ) → v < vars_in o → fact_at fs v ≡ fact_seen d v) → (v : ℕ) (s : Order) → SeenAt ws v s → Knows (value_at fs) v s
collected o ws d fs at grows learned found v s (h, is, value) =
    let here = grows v h is in
    let inside = subst (λ (x : Opening). v < vars_in x) at (learned.inside v h here) in
    ap seen (found v inside ∙ ap fact_of here) ∙ ap Some value

-- what the facts that were collected come to
pub swept_to : FactsAreInside → (o : Opening) (case : Case) (gs : List Given) (ws : List ℕ) (d : View) (fs : List (Option Fact)) (w : Sweep)
    → arc_value o.case ≡ case → o.givens ≡ gs → SweepEnds o ws w → d.opening ≡ o → Grows ws d.seen → IsLearned d
    → MeetsFactRule (vars_in o) (cons_in o) o.givens fs → ((v : ℕ) → v < vars_in o → fact_at fs v ≡ fact_seen d v) → SweptTo case gs fs w
swept_to inside o case gs ws d fs w of_case of_givens ends at grows learned rule found =
    subst (λ x. SweptTo x gs fs w) of_case (subst (λ g. SweptTo (arc_value o.case) g fs w) of_givens (by w ends))
  where
    by : (w : Sweep) → SweepEnds o ws w → SweptTo (arc_value o.case) o.givens fs w
    by sweep.Closed (opens, closes, closure) = λ v s. (
      λ e. let h = some_fact (fact_at fs v) s e in
          subst (λ t. InClosure (cons_in o) (Gives o.givens) v t) h.2 (inside (vars_in o) (cons_in o) o.givens fs rule v h.0 h.1),
      λ all. collected o ws d fs at grows learned found v s (to_seen (held ws v) s ((closure v s).1 all)),
    )
    by (sweep.Dead c) (con, there, none) = record {
      constraint = con;
      there = there;
      none = dead_more con.kind con.terms (SeenAt ws) (Knows (value_at fs))
          (λ j t l known. collected o ws d fs at grows learned found (term_at con.terms j).var t known) none;
    }
