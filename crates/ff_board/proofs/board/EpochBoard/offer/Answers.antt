use Rattle.std.proofs.Common.{rules, ◌≡◌, ◌≢◌, ◌+◌, ◌<◌, ◌≤◌, ◌^◌, ℕ, length, refl, sym, ap, ◌∙◌, subst, arith, eqb, true, Bool, List, Option, Some, None, slice_get, eq-eqb, ne_eqb}
use Rattle.std.proofs.lemmas.Option.{slice_get_within}
use prog.Atomic.{either}
use Rattle.ff_tables.specs.declared.terms.Constraint.{Constraint}
use Rattle.ff_tables.specs.declared.terms.Term.{Term}
use Rattle.ff_tables.specs.Orders.{term_at}
use Rattle.ff_tables.specs.Forces.{Forces}
use Rattle.ff_propagate.specs.declared.facts.Reason.{Reason}
use Rattle.ff_propagate.specs.declared.words.Held.{Held}
use Rattle.ff_propagate.specs.Words.{held, held_of, number_of}
use Rattle.ff_propagate.proofs.Packs.{unset}
use Rattle.ff_board.specs.declared.opening.Opening.{Opening}
use Rattle.ff_board.specs.declared.seats.View.{View}
use Rattle.ff_board.specs.Answer.{fact_of}
use Rattle.ff_board.specs.Facts.{SeenBelow, Lower, is_marked, cons_in, IsForcedSeen, MarksFound}
use Rattle.ff_board.specs.Rule.{Offered, word_after}
use Rattle.ff_board.proofs.Got.{some_some}
use Rattle.ff_board.proofs.Steps.{offers, answered}
use Rattle.ff_board.proofs.Marks.{found_by}
use Rattle.ff_board.proofs.board.EpochBoard.offer.Goals as goal

pub put-requires-clause-word : goal.put-requires-clause-word
put-requires-clause-word c unseen =
    let o = c.args.self.now.opening in let con = c.constraint-con.result.now in let m = c.marks-marks.ensures in
    let f = subst (IsForcedSeen o c.args.seat.now.view.seen c.args.var c.args.fact) c.in-Forced.is c.requires.forced in
    let e : con ≡ f.0 = some_some con f.0 (sym c.constraint-con.ensures ∙ f.1) in
    let h : Held = record { fact = c.args.fact; marks = c.marks-marks.result } in
    let at = m.seat.1 ∙ c.requires.seat.1 in
    subst (λ (z : Opening). Offered z c.marks-marks.new.seat.view.seen c.args.var c.write_word-word.result) (sym at)
    (offers o con c.args.seat.now.view.seen _ c.args.var _ c.in-Forced.index h c.in-Forced.is c.constraint-con.ensures c.requires.level.0 c.write_word-word.ensures m.seat.2
    (subst (λ (ts : List Term). (j : ℕ) → j < length ts → is_marked c.marks-marks.result j ≡ true → Lower c.marks-marks.new.seat.view.seen c.args.fact.level (term_at ts j).var) c.as_slice.ensures.value m.marked)
    (subst (λ (ts : List Term). (j : ℕ) (g : Held) → j < length ts → (term_at ts j).var ≢ c.args.var → held c.args.seat.now.view.seen (term_at ts j).var ≡ Some g → g.fact.level < c.args.fact.level → is_marked c.marks-marks.result j ≡ true) c.as_slice.ensures.value m.all)
    (subst (λ (z : Constraint). Forces z.kind z.terms (SeenBelow c.args.seat.now.view.seen c.args.fact.level) c.args.var c.args.fact.value) (sym e) f.2) c.requires.level.2 unseen)

pub returns-in-None-clause-answers : goal.returns-in-None-clause-answers
returns-in-None-clause-answers c =
    let o = c.args.self.now.opening in let con = c.constraint-con.result.now in let m = c.marks-marks.ensures in
    let t = c.put.ensures.look in let n = c.put.result in let z : n ≡ 0 = unset n (sym c.in-None.ensures) in
    let at = c.put.ensures.seat.1 ∙ (m.seat.1 ∙ c.requires.seat.1) in (
      (omega (arith, m.seat.3, ap (λ (d : View). d.looks) t.is), n, ap (λ (d : View). d.last) t.is, ap fact_of (sym c.in-None.ensures)),
      (
        c.marks-marks.result,
        t.here ∙ (ap held_of (ap (λ (b : Bool). either b c.write_word-word.result n) (eq-eqb n 0 z)) ∙ c.write_word-word.ensures),
        subst (λ (x : Opening × Reason). MarksFound x.0 c.args.seat.now.view.seen c.put.new.seat.view.seen c.args.var c.args.fact.level c.marks-marks.result x.1) (λ k. (sym at k, sym c.in-Forced.is k))
            (found_by o con c.in-Forced.index c.args.seat.now.view.seen c.marks-marks.new.seat.view.seen c.put.new.seat.view.seen c.args.var c.args.fact.level c.marks-marks.result c.constraint-con.ensures t.kept
            (subst (λ (ts : List Term). (j : ℕ) → j < length ts → is_marked c.marks-marks.result j ≡ true → Lower c.marks-marks.new.seat.view.seen c.args.fact.level (term_at ts j).var) c.as_slice.ensures.value m.marked)
            (subst (λ (ts : List Term). (j : ℕ) (g : Held) → j < length ts → (term_at ts j).var ≢ c.args.var → held c.args.seat.now.view.seen (term_at ts j).var ≡ Some g → g.fact.level < c.args.fact.level → is_marked c.marks-marks.result j ≡ true) c.as_slice.ensures.value m.all)),
      ),
    )

pub returns-then-eq-clause-answers : goal.returns-then-eq-clause-answers
returns-then-eq-clause-answers c = let t = c.put.ensures.look in let n = c.put.result in let m = c.marks-marks.ensures in (
  (omega (arith, m.seat.3, ap (λ (d : View). d.looks) t.is), n, ap (λ (d : View). d.last) t.is, ap fact_of (sym c.in-Some.ensures)),
  ap fact_of (t.here ∙ answered n c.write_word-word.result c.in-Some.held (sym c.in-Some.ensures)),
  search rules,
)

pub returns-else-eq-clause-answers : goal.returns-else-eq-clause-answers
returns-else-eq-clause-answers c = let t = c.put.ensures.look in let n = c.put.result in let m = c.marks-marks.ensures in (
  (omega (arith, m.seat.3, ap (λ (d : View). d.looks) t.is), n, ap (λ (d : View). d.last) t.is, ap fact_of (sym c.in-Some.ensures)),
  ap fact_of (t.here ∙ answered n c.write_word-word.result c.in-Some.held (sym c.in-Some.ensures)),
  search rules,
)
