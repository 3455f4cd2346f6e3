use Rattle.std.proofs.Common.{arith, ◌≡◌, ◌<◌, ◌∷◌, ◌∙◌, sym, ap, subst, Some, inl}
use Rattle.atomic_table.specs.Table.{rest}
use Rattle.atomic_table.specs.Seated.{TableId}
use Rattle.ff_door.specs.declared.waiter.Waiter.{Waiter}
use Rattle.ff_door.specs.Entries.{Adds}
use Rattle.ff_door.specs.Rule.{In, let_out}
use Rattle.ff_door.specs.Views.{DoorView, SeatView, seat_view, gone_out}
use Rattle.ff_door.proofs.Turns.{serves}
use Rattle.ff_door.proofs.Sound.{is_in}
use Rattle.ff_door.proofs.door.Door.leave.Goals as goal

pub fetch_add-requires : goal.fetch_add-requires
fetch_add-requires g c = let e = c.exchange-empty.ensures in let y = c.args.value in
    let v : c.exchange-empty.new.seat.me.0 ≡ c.seat.inside.seat.me.0 = ap (λ m. m.0) e.3 in
    let h : In c.seat.inside.seat.me = is_in c.seat.inside.seat.me c.seat.invariant (ap (λ (x : SeatView g.row.T-Entry.Denot g.row.T-Base.Denot). x.inside) c.seat.view_is ∙ c.requires.inside) in
    let table : c.seat.inside.seat.table_id ≡ c.self.inside.table.shared.table_id =
    ap (λ (x : SeatView g.row.T-Entry.Denot g.row.T-Base.Denot). x.table) c.seat.view_is ∙ (c.requires.door.0 ∙ sym (ap (λ (x : DoorView g.row.T-Base.Denot). x.table) c.self.view_is)) in
    let adds : Adds g.T.Kept.names c.seat.inside.seat.me.0.number c.seat.inside.seat.me.0.seen (g.T.Kept.listed y) =
    subst (λ (x : SeatView g.row.T-Entry.Denot g.row.T-Base.Denot). Adds g.T.Kept.names x.number x.seen (g.T.Kept.listed y)) (sym c.seat.view_is) c.requires.adds in
    let based : Some (g.T.Kept.base y) ≡ c.seat.inside.seat.me.0.base =
    ap Some c.requires.base ∙ (sym c.requires.door.1 ∙ sym (ap (λ (x : SeatView g.row.T-Entry.Denot g.row.T-Base.Denot). x.base) c.seat.view_is)) in (
      e.0 ∙ table,
      omega (arith, c.self.invariant.0),
      serves g.T.Kept.listed g.T.Kept.names g.T.Kept.base _ _ _ _ y (ap (λ d. d.waits) v ∙ h.0) (ap (λ d. d.inside) v ∙ h.1)
          (ap (λ m. m.1) e.3 ∙ ap (λ l. (0, Some y) ∷ rest l) h.3)
          (subst (λ (d : Waiter g.row.T-Entry.Denot g.row.T-Base.Denot). Adds g.T.Kept.names d.number d.seen (g.T.Kept.listed y)) (sym v) adds)
          (based ∙ ap (λ d. d.base) (sym v)),
    )

pub invariant_of-seat : goal.invariant_of-seat
invariant_of-seat g c = let e = c.exchange-empty.ensures in let y = c.args.value in
    let v : c.exchange-empty.new.seat.me.0 ≡ c.seat.inside.seat.me.0 = ap (λ m. m.0) e.3 in
    let h : In c.seat.inside.seat.me = is_in c.seat.inside.seat.me c.seat.invariant (ap (λ (x : SeatView g.row.T-Entry.Denot g.row.T-Base.Denot). x.inside) c.seat.view_is ∙ c.requires.inside) in
    let t = c.fetch_add.ensures.2 y (ap (λ m. m.1) e.3 ∙ ap (λ l. (0, Some y) ∷ rest l) h.3) in
    let parts = ap (λ d. d.parts) t.1 ∙ ap (λ d. d.parts) v in (
      parts ∙ c.seat.invariant.0,
      inl (ap (λ d. d.waits) t.1, ap (λ d. d.inside) t.1, subst (λ n. 0 < n) (sym parts) h.2, t.0),
    )

pub returns : goal.returns
returns g c = let e = c.exchange-empty.ensures in let y = c.args.value in
    let v : c.exchange-empty.new.seat.me.0 ≡ c.seat.inside.seat.me.0 = ap (λ m. m.0) e.3 in
    let h : In c.seat.inside.seat.me = is_in c.seat.inside.seat.me c.seat.invariant (ap (λ (x : SeatView g.row.T-Entry.Denot g.row.T-Base.Denot). x.inside) c.seat.view_is ∙ c.requires.inside) in
    let t = c.fetch_add.ensures.2 y (ap (λ m. m.1) e.3 ∙ ap (λ l. (0, Some y) ∷ rest l) h.3) in
    let table = c.fetch_add.ensures.0 ∙ e.0 in
    record {
      out = ap (λ (z : TableId × Waiter g.row.T-Entry.Denot g.row.T-Base.Denot). seat_view z.0 z.1) (λ k. (table k, (t.1 ∙ ap (let_out (g.T.Kept.listed y)) v) k))
          ∙ ap (gone_out (g.T.Kept.listed y)) c.seat.view_is;
    }
