use Rattle.std.proofs.Common.{◌^◌, ⊎_elim, inl, inr, rules, ◌≡◌, ℕ, ◌+◌, ◌<◌, ◌≤◌, refl, sym, ap, ◌∙◌, subst, arith, Some, None, length, slice_get, List, Option}
use Rattle.std.specs.Arc.{arc_value}
use Rattle.ff_tables.specs.declared.orders.Order.{Order}
use Rattle.ff_tables.specs.declared.terms.Constraint.{Constraint}
use Rattle.ff_board.specs.declared.opening.Opening.{Opening}
use Rattle.ff_propagate.specs.declared.words.Held.{Held}
use Rattle.ff_propagate.specs.Words.{held}
use Rattle.ff_board.specs.Facts.{vars_in, cons_in, Grows}
use Rattle.ff_board.specs.Swept.{RestsBetween}
use Rattle.ff_board.proofs.Got.{some_some}
use Rattle.ff_board.proofs.Examined.{told_seen}
use Rattle.ff_board.proofs.Readings.{Read, rests, none, forces, inside, more}
use Rattle.ff_board.proofs.board.EpochBoard.examine.Goals as goal

pub offer-requires-clause-forced : goal.offer-requires-clause-forced
offer-requires-clause-forced c = let o = c.args.self.now.opening in let con = c.constraint-con.result.now in let ts = c.as_slice-terms.result.now in let e = c.terms-top.ensures in
    let fit = (arc_value o.case).system.fit c.args.index con c.constraint-con.ensures in
    let read : Read o ts c.terms-top.new.values c.args.seat.now.view.seen c.terms-top.new.seat.view.seen c.terms-top.result = record { wide = omega (arith, e.wide, c.as_slice-terms.ensures.few); before = e.before; after = e.after } in
    (con, c.constraint-con.ensures, forces o con ts c.terms-top.new.values _ _ c.terms-top.result c.as_slice-terms.ensures.value fit read c.in-Value.var c.in-Value.value c.in-Value.ensures)

pub returns-in-Nothing-clause-look : goal.returns-in-Nothing-clause-look
returns-in-Nothing-clause-look c other is = let o = c.args.self.now.opening in let con = c.constraint-con.result.now in let ts = c.as_slice-terms.result.now in let e = c.terms-top.ensures in
    let fit = (arc_value o.case).system.fit c.args.index con c.constraint-con.ensures in
    let read : Read o ts c.terms-top.new.values c.args.seat.now.view.seen c.terms-top.new.seat.view.seen c.terms-top.result = record { wide = omega (arith, e.wide, c.as_slice-terms.ensures.few); before = e.before; after = e.after } in
    subst (λ (x : Constraint). RestsBetween o x c.args.seat.now.view.seen c.terms-top.new.seat.view.seen) (some_some con other (sym c.constraint-con.ensures ∙ is))
    (rests o con ts c.terms-top.new.values _ _ c.terms-top.result c.as_slice-terms.ensures.value fit read c.in-Nothing.ensures)

pub returns-in-Dead-clause-look : goal.returns-in-Dead-clause-look
returns-in-Dead-clause-look c = let o = c.args.self.now.opening in let con = c.constraint-con.result.now in let ts = c.as_slice-terms.result.now in let e = c.terms-top.ensures in
    let fit = (arc_value o.case).system.fit c.args.index con c.constraint-con.ensures in
    let read : Read o ts c.terms-top.new.values c.args.seat.now.view.seen c.terms-top.new.seat.view.seen c.terms-top.result = record { wide = omega (arith, e.wide, c.as_slice-terms.ensures.few); before = e.before; after = e.after } in
    (con, c.constraint-con.ensures, none o con ts c.terms-top.new.values _ _ c.terms-top.result c.as_slice-terms.ensures.value fit read c.in-Dead.ensures)

pub returns-in-Set-clause-look : goal.returns-in-Set-clause-look
returns-in-Set-clause-look c = let o = c.args.self.now.opening in let con = c.constraint-con.result.now in let ts = c.as_slice-terms.result.now in let e = c.terms-top.ensures in
    let fit = (arc_value o.case).system.fit c.args.index con c.constraint-con.ensures in
    let read : Read o ts c.terms-top.new.values c.args.seat.now.view.seen c.terms-top.new.seat.view.seen c.terms-top.result = record { wide = omega (arith, e.wide, c.as_slice-terms.ensures.few); before = e.before; after = e.after } in
    let seen = told_seen c.in-Value.var _ c.terms-top.new.seat.view c.offer.new.seat.view c.offer.result c.offer.ensures.answers in
    more o con ts c.terms-top.new.values _ _ c.terms-top.result c.as_slice-terms.ensures.value fit read c.in-Value.var c.in-Value.value c.offer.new.seat.view.seen c.in-Value.ensures (λ v h p. c.offer.ensures.seat.2 v h (e.seat.2 v h p)) seen.0 seen.1

pub returns-in-Same-clause-look : goal.returns-in-Same-clause-look
returns-in-Same-clause-look c = let o = c.args.self.now.opening in let con = c.constraint-con.result.now in let ts = c.as_slice-terms.result.now in let e = c.terms-top.ensures in
    let fit = (arc_value o.case).system.fit c.args.index con c.constraint-con.ensures in
    let read : Read o ts c.terms-top.new.values c.args.seat.now.view.seen c.terms-top.new.seat.view.seen c.terms-top.result = record { wide = omega (arith, e.wide, c.as_slice-terms.ensures.few); before = e.before; after = e.after } in
    let seen = told_seen c.in-Value.var _ c.terms-top.new.seat.view c.offer.new.seat.view c.offer.result c.offer.ensures.answers in
    more o con ts c.terms-top.new.values _ _ c.terms-top.result c.as_slice-terms.ensures.value fit read c.in-Value.var c.in-Value.value c.offer.new.seat.view.seen c.in-Value.ensures (λ v h p. c.offer.ensures.seat.2 v h (e.seat.2 v h p)) seen.0 seen.1

pub returns-in-Other-clause-look : goal.returns-in-Other-clause-look
returns-in-Other-clause-look c = let o = c.args.self.now.opening in let con = c.constraint-con.result.now in let ts = c.as_slice-terms.result.now in let e = c.terms-top.ensures in
    let fit = (arc_value o.case).system.fit c.args.index con c.constraint-con.ensures in
    let read : Read o ts c.terms-top.new.values c.args.seat.now.view.seen c.terms-top.new.seat.view.seen c.terms-top.result = record { wide = omega (arith, e.wide, c.as_slice-terms.ensures.few); before = e.before; after = e.after } in
    let seen = told_seen c.in-Value.var _ c.terms-top.new.seat.view c.offer.new.seat.view c.offer.result c.offer.ensures.answers in
    more o con ts c.terms-top.new.values _ _ c.terms-top.result c.as_slice-terms.ensures.value fit read c.in-Value.var c.in-Value.value c.offer.new.seat.view.seen c.in-Value.ensures (λ v h p. c.offer.ensures.seat.2 v h (e.seat.2 v h p)) seen.0 seen.1

pub offer-requires-clause-level : goal.offer-requires-clause-level
offer-requires-clause-level c = let o = c.args.self.now.opening in let e = c.terms-top.ensures in let a : 2 ^ 30 ≡ 1073741824 = refl in (
  omega arith,
  omega (arith, e.top, o.low, a),
  ⊎_elim (λ z. inl (omega (arith, z))) (λ t. inr (t.0, t.1, t.2, omega (arith, t.3))) e.level,
)
