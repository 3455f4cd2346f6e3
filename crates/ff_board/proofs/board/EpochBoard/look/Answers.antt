use Rattle.std.proofs.Common.{◌≡◌, ◌+◌, ◌<◌, ◌≤◌, ℕ, sym, ap, ◌∙◌, subst, arith}
use Rattle.ff_board.specs.declared.seats.View.{View}
use Rattle.ff_board.specs.Facts.{vars_in}
use Rattle.ff_board.specs.Rule.{Looked}
use Rattle.ff_board.specs.Views.{BoardView, SeatView, GoesOn}
use Rattle.ff_board.proofs.Steps.{loads, found}
use Rattle.ff_board.proofs.Going.{look_goes, look_told}
use Rattle.ff_board.proofs.board.EpochBoard.look.Goals as goal

pub load-requires : goal.load-requires
load-requires c = let b = c.self.inside in let k = c.self.invariant in
    let here : c.args.var < vars_in b.table.shared.key.value =
    let e = ap vars_in k.0 in let f = ap (λ (x : BoardView). vars_in x.opening) c.self.view_is in omega (arith, c.requires.var) in (
      ap (λ (x : SeatView). x.table) c.seat.view_is ∙ (c.requires.seat.0 ∙ sym (ap (λ (x : BoardView). x.table) c.self.view_is)),
      omega (arith, here, ap vars_in k.0, k.1),
      loads _ _ _ _ _ here,
    )

pub invariant_of-seat : goal.invariant_of-seat
invariant_of-seat c = c.load.ensures.2.1.learned

pub returns-clause-seat : goal.returns-clause-seat
returns-clause-seat c = look_goes _ _ _ c.seat.view_is _ _ _ _ _ c.load.ensures.0 c.load.ensures.2.1

pub returns-clause-look : goal.returns-clause-look
returns-clause-look c = look_told _ _ _ c.seat.view_is _ _ _ _ (found _ _ _ _ c.load.ensures.2.1)
