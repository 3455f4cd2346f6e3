use Rattle.std.proofs.Common.{◌≡◌, ◌+◌, ◌<◌, ◌≤◌, ℕ, inr, sym, ap, ◌∙◌, subst, arith}
use Rattle.ff_board.specs.declared.opening.Opening.{Opening}
use Rattle.ff_board.specs.declared.seats.View.{View}
use Rattle.ff_board.specs.Facts.{vars_in}
use Rattle.ff_board.specs.Rule.{Looked, Offered, MayPut}
use Rattle.ff_board.specs.Views.{BoardView, SeatView, GoesOn}
use Rattle.ff_board.proofs.Steps.{looks}
use Rattle.ff_board.proofs.Going.{look_goes, look_told}
use Rattle.ff_board.proofs.board.EpochBoard.put.Goals as goal

pub compare_exchange-requires : goal.compare_exchange-requires
compare_exchange-requires c = let b = c.self.inside in let k = c.self.invariant in let d : View = c.seat.inside.seat.me.0 in
    let here : c.args.var < vars_in b.table.shared.key.value =
    let e = ap vars_in k.0 in let f = ap (λ (x : BoardView). vars_in x.opening) c.self.view_is in omega (arith, c.requires.var) in
    let may : MayPut d c.args.var c.args.word = subst (λ (x : SeatView). MayPut x.view c.args.var c.args.word) (sym c.seat.view_is) c.requires.word in
    let of : d.opening ≡ b.table.shared.key.value =
    ap (λ (x : SeatView). x.view.opening) c.seat.view_is ∙ (c.requires.seat.1 ∙ (sym (ap (λ (x : BoardView). x.opening) c.self.view_is) ∙ sym k.0)) in (
      ap (λ (x : SeatView). x.table) c.seat.view_is ∙ (c.requires.seat.0 ∙ sym (ap (λ (x : BoardView). x.table) c.self.view_is)),
      omega (arith, here, ap vars_in k.0, k.1),
      looks _ _ _ _ _ _ here (inr (λ unseen. subst (λ (o : Opening). Offered o d.seen c.args.var c.args.word) of (may unseen))),
    )

pub invariant_of-seat : goal.invariant_of-seat
invariant_of-seat c = c.compare_exchange.ensures.2.1.learned

pub returns-clause-seat : goal.returns-clause-seat
returns-clause-seat c = look_goes _ _ _ c.seat.view_is _ _ _ _ _ c.compare_exchange.ensures.0 c.compare_exchange.ensures.2.1

pub returns-clause-look : goal.returns-clause-look
returns-clause-look c = look_told _ _ _ c.seat.view_is _ _ _ _ (c.compare_exchange.ensures.2.1)
