-- Levels that stay low, and publications of what was found.
use Rattle.std.proofs.Common.{◌≡◌, ◌≢◌, ℕ, zero, suc, ◌+◌, ◌*◌, ◌^◌, ◌<◌, ◌≤◌, List, [], ◌∷◌, ◌++◌, length, replicate, get_or, slice_get, sym, refl, ap, ◌∙◌, subst, arith, Option, Some, None}
use Rattle.std.specs.Arc.{arc_value}
use Rattle.ff_tables.specs.declared.orders.Order.{Order}
use Rattle.ff_tables.specs.declared.terms.Constraint.{Constraint}
use Rattle.ff_tables.specs.declared.givens.Given.{Given}
use Rattle.ff_types.specs.declared.cases.Case.{Case}
use Rattle.ff_types.specs.Pairs.{AreSorted}
use Rattle.ff_propagate.specs.declared.facts.Fact.{Fact}
use Rattle.ff_propagate.specs.declared.facts.Reason.{Reason}
use Rattle.ff_propagate.specs.declared.facts.Reason.TheVariants as by
use Rattle.ff_propagate.specs.Facts.{fact_at, value_at}
use Rattle.ff_propagate.specs.FactRule.{MeetsFactRule, StandsBy}
use Rattle.ff_propagate.specs.Agreeing.{Agree}
use Rattle.ff_propagate.specs.Closing.{Contradict, IsFirstContradiction}
use Rattle.ff_propagate.specs.Closure.{IsClosure, Gives}
use Rattle.ff_carry.specs.Carrying.{NoGiven, IsCarried}
use Rattle.ff_carry.specs.Laws.{CarriedMeet}
use Rattle.ff_refute.specs.Givens.{AreGivens}
use Rattle.ff_board.specs.Standing.{top_level}
use Rattle.ff_board.specs.Facts.{vars_in, cons_in}
use Rattle.ff_board.specs.Answer.{fact_seen}
use Rattle.ff_board.specs.Views.{BoardView, SeatView, IsAt, IsOpenedWith, AreFew}
use Rattle.ff_journal.specs.declared.entries.Entry.{Entry}
use Rattle.ff_journal.specs.declared.entries.Outcome.{Outcome}
use Rattle.ff_journal.specs.declared.entries.Outcome.TheVariants as outcome
use Rattle.ff_journal.specs.Epochs.{last_begun, givens_of}
use Rattle.ff_journal.specs.Publications.{published}
use Rattle.ff_journal.proofs.PinGivens.{givens_few}
use Rattle.ff_told.specs.Ends.{IsEndOf, IsRefutedBy}
use Rattle.ff_told.proofs.Refuted.{are_givens, end_is_outcome}
use Rattle.ff_desk.specs.Views.{HomeView, DeskView}
use Rattle.ff_desk.specs.Loans.{IsLoan, IsFound}
use Rattle.ff_desk.specs.Desks.{IsDesk, IsFew, IsKept, IsOpeningOf, IsPresentOf, HasPresent}
use Rattle.ff_desk.proofs.Counts.{few}
use Rattle.ff_desk.proofs.Keeping.{published_in, clash_keeps, found_keeps}

-- ---- levels

pub top_le : (fs : List (Option Fact)) (n : ℕ) → ((v : ℕ) (f : Fact) → fact_at fs v ≡ Some f → f.level ≤ n) → top_level fs ≤ n
top_le [] n h = omega arith
top_le (None ∷ fs) n h = top_le fs n (λ v f at. h (suc v) f at)
top_le (Some f ∷ fs) n h = let a = h 0 f refl in let b = top_le fs n (λ v g at. h (suc v) g at) in omega (arith, a, b)

same_fact : {a b : Fact} → Some a ≡ Some b → a ≡ b
same_fact e = cc

top_most : (fs : List (Option Fact)) (v : ℕ) (f : Fact) → fact_at fs v ≡ Some f → f.level ≤ top_level fs
top_most [] v f e = absurd (let q : None ≡ Some f = e in cc)
top_most (None ∷ fs) zero f e = absurd (let q : None ≡ Some f = e in cc)
top_most (None ∷ fs) (suc v) f e = top_most fs v f e
top_most (Some h ∷ fs) zero f e = let same : h.level ≡ f.level = ap (λ (x : Fact). x.level) (same_fact e) in omega (arith, same)
top_most (Some h ∷ fs) (suc v) f e = let l = top_most fs v f e in omega (arith, l)

-- a fact by a constraint is of a variable without a given
no_given : (vars : ℕ) (cons : List Constraint) (gs : List Given) (fs : List (Option Fact)) (v c : ℕ) (f : Fact) → MeetsFactRule vars cons gs fs
    → fact_at fs v ≡ Some f → f.reason ≡ by.Forced c → NoGiven gs v
no_given vars cons gs fs v c f rule at is i g there var =
    let h = rule.given i g there in
    let e : h.fact ≡ f = same_fact (sym h.there ∙ ap (fact_at fs) var ∙ at) in
    clash h.number c (sym h.by_given ∙ ap (λ (x : Fact). x.reason) e ∙ is)
  where
    clash : (i c : ℕ) → by.Given i ≡ by.Forced c → ⊥
    clash i c e = cc

-- carried facts have no greater levels
pub carried_low : (vars : ℕ) (cons : List Constraint) (gs : List Given) (old new : List (Option Fact)) → MeetsFactRule vars cons gs new
    → IsCarried vars cons gs old new → top_level new ≤ top_level old
carried_low vars cons gs old new rule is = top_le new (top_level old) (λ v f at. low v f f.reason refl at (rule.stands v f at))
  where
    low : (v : ℕ) (f : Fact) (r : Reason) → f.reason ≡ r → fact_at new v ≡ Some f → StandsBy cons gs new v f.value f.level f.reason → f.level ≤ top_level old
    low v f (by.Given i) e at stands = let z = subst (λ r. StandsBy cons gs new v f.value f.level r) e stands in let k = z.0 in omega (arith, k)
    low v f (by.Forced c) e at stands = top_most old v f ((is.forced v f (no_given vars cons gs new v c f rule at e)).0 at).was

-- ---- what is kept, and what is carried from it

none_long : (n : ℕ) → length (replicate {A = Option Fact} n None) ≡ n
none_long zero = refl
none_long (suc n) = ap suc (none_long n)

pub none_there : (n v : ℕ) (h : Fact) → fact_at (replicate n None) v ≡ Some h → ⊥
none_there zero v h e = let q : None ≡ Some h = e in cc
none_there (suc n) zero h e = let q : None ≡ Some h = e in cc
none_there (suc n) (suc v) h e = none_there n v h e

no_item : (i : ℕ) (g : Given) → slice_get [] i ≡ Some g → ⊥
no_item i g e = cc

-- no facts are by the rule under no givens
pub empty_rule : (vars : ℕ) (cons : List Constraint) → MeetsFactRule vars cons [] (replicate vars None)
empty_rule vars cons = record {
  wide = none_long vars;
  stands = λ v h at. absurd (none_there vars v h at);
  given = λ i g at. absurd (no_item i g at);
}

pub kept_rule : (case : Case) (j : List Entry) (gs : List Given) (fs : List (Option Fact)) (home : Option HomeView) → IsKept case j gs fs home
    → MeetsFactRule case.system.vars case.system.constraints gs fs
kept_rule case j gs fs (Some home) k = k.rule
kept_rule case j gs fs None (none, empty, later) = subst (λ g. MeetsFactRule case.system.vars case.system.constraints g fs) (sym none)
    (subst (λ f. MeetsFactRule case.system.vars case.system.constraints [] f) (sym empty) (empty_rule case.system.vars case.system.constraints))

-- a present board is of the least unpublished epoch
pub present_of : (case : Case) (j : List Entry) (kept : List (Option Fact)) (present : Option HomeView) (home : HomeView) → present ≡ Some home
    → HasPresent case j kept present → IsPresentOf case j kept home.board.opening
present_of case j kept None home e h = absurd (let q : None ≡ Some home = e in cc)
present_of case j kept (Some p) home e h = let q : p ≡ home = one e in subst (λ (x : HomeView). IsPresentOf case j kept x.board.opening) q h
  where
    one : {a b : HomeView} → Some a ≡ Some b → a ≡ b
    one e = cc

-- ---- givens that contradict each other

pub closure_agrees : (cons : List Constraint) (gs : List Given) (value : ℕ → Option Order) → IsClosure cons (Gives gs) value → Agree gs
closure_agrees cons gs value closure i j g h gi hj (same, differ) =
    let a : value g.var ≡ Some g.value = (closure g.var g.value).1 (λ set closed. closed.base_held g.var g.value (i, record { given = g; there = gi; variable = refl; value = refl })) in
    let b : value h.var ≡ Some h.value = (closure h.var h.value).1 (λ set closed. closed.base_held h.var h.value (j, record { given = h; there = hj; variable = refl; value = refl })) in
    differ (one (sym a ∙ ap value same ∙ b))
  where
    one : {a b : Order} → Some a ≡ Some b → a ≡ b
    one e = cc

pub first_disagrees : (gs : List Given) (first second : ℕ) → IsFirstContradiction gs first second → Agree gs → ⊥
first_disagrees gs first second is agree = agree first second is.g is.h is.g_there is.h_there is.contradict

-- ---- publications

pub clash_publishes : (d : DeskView) (o : Outcome) → IsDesk d → AreSorted d.base.case.pairs → published d.journal ≤ last_begun d.journal
    → (Agree (givens_of d.base.case d.journal (published d.journal)) → ⊥)
    → IsRefutedBy d.base.case (givens_of d.base.case d.journal (published d.journal)) o → IsDesk (published_in d o d.givens d.facts d.home)
clash_publishes d (outcome.Board board) is sorted begun clash r = absurd r
clash_publishes d (outcome.Impossible pins log) is sorted begun clash r = clash_keeps d pins log is begun clash
    (end_is_outcome d.base.case d.journal (published d.journal) (givens_of d.base.case d.journal (published d.journal)) (outcome.Impossible pins log) sorted refl r)

pub found_publishes : (d : DeskView) (board : BoardView) (seat : SeatView) (gs : List Given) (fs : List (Option Fact)) (o : Outcome) (home : HomeView) → IsDesk d
    → AreSorted d.base.case.pairs → IsOpeningOf d.base.case d.journal (published d.journal) board.opening → IsFound board seat gs fs o
    → home.board ≡ board → home.seat ≡ seat → IsDesk (published_in d o gs fs (Some home))
found_publishes d board seat gs fs o home is sorted opening f hb hs =
    let its : gs ≡ givens_of d.base.case d.journal (published d.journal) = f.givens ∙ opening.its in
    found_keeps d o gs fs home is opening.begun
    (end_is_outcome d.base.case d.journal (published d.journal) gs o sorted its (subst (λ c. IsEndOf c gs o) opening.case_is f.end))
    f.shown its f.agree
    (subst (λ (c : Case). MeetsFactRule c.system.vars c.system.constraints gs fs) opening.case_is f.rule)
    (ap (λ (b : BoardView). arc_value b.opening.case) hb ∙ opening.case_is, ap (λ (b : BoardView). b.opening.givens) hb ∙ sym f.givens)
    (λ v l. f.seen v (subst (λ (c : Case). v < c.system.vars) (sym opening.case_is) l) ∙ ap (λ (s : SeatView). fact_seen s.view v) (sym hs))
    (let vars = is.few.vars in
    let same = ap (λ (c : Case). c.system.vars) opening.case_is in
    let low = opening.low in
    top_le fs ((published d.journal + 1) * 2 ^ 18) (λ v h at. let l = f.low v h at in omega (arith, l, low, same, vars)))

-- ---- what fits

-- an epoch has few givens
pub few_givens : (d : DeskView) (e : ℕ) → IsDesk d → AreSorted d.base.case.pairs → length (givens_of d.base.case d.journal e) < 2 ^ 22
few_givens d e is sorted =
    let g = givens_few d.base.case d.journal e sorted in
    let s = is.few.starts in
    let n = few d.base.lengths d.journal is.within is.order in
    let b = n.0 in
    let t = is.few.commands in
    omega (arith, g, s, b, t)

-- a board that is opened with carried facts has room
pub carried_few : (d : DeskView) (gs : List Given) (fs : List (Option Fact)) → IsDesk d → AreSorted d.base.case.pairs
    → gs ≡ givens_of d.base.case d.journal (published d.journal) → MeetsFactRule d.base.case.system.vars d.base.case.system.constraints gs fs
    → IsCarried d.base.case.system.vars d.base.case.system.constraints gs d.facts fs → AreFew d.base.case gs fs
carried_few d gs fs is sorted its rule carried = record {
  vars = is.few.vars;
  constraints = is.few.constraints;
  givens = subst (λ (g : List Given). length g < 2 ^ 22) (sym its) (few_givens d (published d.journal) is sorted);
  low =
      let l = carried_low d.base.case.system.vars d.base.case.system.constraints gs d.facts fs rule carried in
      let k = is.low in
      let n = (few d.base.lengths d.journal is.within is.order).1 in
      let t = is.few.commands in
      omega (arith, l, k, n, t);
}

-- what is lent
pub lent_is : (d : DeskView) (home : HomeView) → IsDesk d → d.present ≡ Some home
    → MeetsFactRule d.base.case.system.vars d.base.case.system.constraints home.board.opening.givens home.board.opening.facts
    → IsOpeningOf d.base.case d.journal (published d.journal) home.board.opening
lent_is d home is e rule =
    let p = present_of d.base.case d.journal d.facts d.present home e is.present in record {
      begun = p.unpublished;
      case_is = p.case_is;
      its = p.its;
      low =
          let l = carried_low d.base.case.system.vars d.base.case.system.constraints home.board.opening.givens d.facts home.board.opening.facts rule p.carried in
          let k = is.low in omega (arith, l, k);
    }

-- a desk with a board of the least unpublished epoch
pub held_keeps : (d : DeskView) (home : HomeView) → IsDesk d → IsPresentOf d.base.case d.journal d.facts home.board.opening → IsDesk (record d { present = Some home })
held_keeps d home is p = record {
  few = is.few;
  legal = is.legal;
  order = is.order;
  within = is.within;
  kept = is.kept;
  low = is.low;
  read = is.read;
  present = p;
  pages = is.pages;
  demands = is.demands;
  earlier = is.earlier;
}

-- a board that was opened with carried facts
pub opened_for : (case : Case) (j : List Entry) (kept : List (Option Fact)) (gs : List Given) (fs : List (Option Fact)) (home : HomeView)
    → published j ≤ last_begun j → IsOpenedWith case gs fs home.board.opening → gs ≡ givens_of case j (published j) → Agree gs
    → IsCarried case.system.vars case.system.constraints gs kept fs → IsPresentOf case j kept home.board.opening
opened_for case j kept gs fs home begun opened its agree carried = record {
  unpublished = begun;
  case_is = opened.0;
  its = opened.1 ∙ its;
  agree = subst Agree (sym opened.1) agree;
  carried = subst (λ g. IsCarried case.system.vars case.system.constraints g kept home.board.opening.facts) (sym opened.1)
      (subst (λ f. IsCarried case.system.vars case.system.constraints gs kept f) (sym opened.2) carried);
}

-- what is lent, with the seat at home
pub loan_is : (d : DeskView) (home : HomeView) (board : BoardView) (seat : SeatView) → IsDesk d → d.present ≡ Some home → board ≡ home.board → IsAt board seat
    → IsLoan board seat
loan_is d home board seat is e same at =
    let p = present_of d.base.case d.journal d.facts d.present home e is.present in record {
      seat_at = at;
      givens = subst (λ (b : BoardView). AreGivens (arc_value b.opening.case) b.opening.givens) (sym same)
          (subst (λ (c : Case). AreGivens c home.board.opening.givens) (sym p.case_is)
          (are_givens d.base.case d.journal (published d.journal) home.board.opening.givens p.its));
      agree = subst (λ (b : BoardView). Agree b.opening.givens) (sym same) p.agree;
    }

pub loan_opening : CarriedMeet → (d : DeskView) (home : HomeView) (board : BoardView) → IsDesk d → d.present ≡ Some home → board ≡ home.board
    → IsOpeningOf d.base.case d.journal (published d.journal) board.opening
loan_opening meet d home board is e same =
    let p = present_of d.base.case d.journal d.facts d.present home e is.present in
    let o = home.board.opening in
    subst (λ (b : BoardView). IsOpeningOf d.base.case d.journal (published d.journal) b.opening) (sym same)
    (lent_is d home is e (meet d.base.case.system.vars d.base.case.system.constraints d.givens o.givens d.facts o.facts
    (kept_rule d.base.case d.journal d.givens d.facts d.home is.kept) p.carried))
