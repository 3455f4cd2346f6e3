use Rattle.std.proofs.Common.{rules, arith, ◌≡◌, ◌%◌, ◌^◌, ◌∷◌, ◌∙◌, sym, ap, subst, Some, None}
use Rattle.atomic_table.specs.Table.{rest}
use Rattle.ff_door.specs.Entries.{Follows}
use Rattle.ff_door.specs.Rule.{Queued, let_in}
use Rattle.ff_door.specs.Views.{DoorView}
use Rattle.ff_door.proofs.Turns.{arrives}
use Rattle.ff_door.proofs.door.Door.wait.Goals as goal

pub load-requires : goal.load-requires
load-requires g c = let same = c.loop.invariant in (
  same.0 ∙ (c.requires.door ∙ sym (ap (λ (x : DoorView g.row.T-Base.Denot). x.table) c.self.view_is)),
  omega (arith, c.self.invariant.0),
  arrives g.T.Kept.listed g.T.Kept.names g.T.Kept.base _ _ _ _ (subst Queued (sym same.1) c.requires.queued.0),
)

pub exchange-requires : goal.exchange-requires
exchange-requires g c = let same = c.loop.invariant in
    let took = c.load.ensures.2.0 (c.if-load-ticket.true ∙ (sym c.requires.queued.1 ∙ ap (λ m. m.0.ticket % 2 ^ 64) (sym same.1))) in
    let door = same.0 ∙ (c.requires.door ∙ sym (ap (λ (x : DoorView g.row.T-Base.Denot). x.table) c.self.view_is)) in
    (c.load.ensures.0 ∙ door, (Some took.0, took.1 ∙ ap (λ cs. (0, Some took.0) ∷ rest cs) (sym took.1)))

pub returns-then-load-ticket-clause-taken : goal.returns-then-load-ticket-clause-taken
returns-then-load-ticket-clause-taken g c = let same = c.loop.invariant in
    let took = c.load.ensures.2.0 (c.if-load-ticket.true ∙ (sym c.requires.queued.1 ∙ ap (λ m. m.0.ticket % 2 ^ 64) (sym same.1))) in
    let now = c.exchange.ensures.3 in let x : took.0 ≡ c.unwrap.result = search rules in λ k. (
      (ap (λ m. m.0) now ∙ (took.2 ∙ (ap (λ m. let_in (g.T.Kept.listed took.0) m.0) same.1 ∙ ap (λ y. let_in (g.T.Kept.listed y) c.args.seat.now.me.0) x))) k,
      (ap (λ m. m.1) now ∙ ap (λ l. (0, None) ∷ l) (ap rest took.1 ∙ (ap (λ m. m.1) same.1 ∙ c.requires.queued.0.3))) k,
    )

pub returns-then-load-ticket-clause-seen : goal.returns-then-load-ticket-clause-seen
returns-then-load-ticket-clause-seen g c = let same = c.loop.invariant in
    let took = c.load.ensures.2.0 (c.if-load-ticket.true ∙ (sym c.requires.queued.1 ∙ ap (λ m. m.0.ticket % 2 ^ 64) (sym same.1))) in
    let x : took.0 ≡ c.unwrap.result = search rules in
    subst (λ y. Follows g.T.Kept.names c.args.seat.now.me.0.number c.args.seat.now.me.0.seen (g.T.Kept.listed y)) x
    (subst (λ m. Follows g.T.Kept.names m.0.number m.0.seen (g.T.Kept.listed took.0)) same.1 took.3)

pub returns-then-load-ticket-clause-base : goal.returns-then-load-ticket-clause-base
returns-then-load-ticket-clause-base g c = let same = c.loop.invariant in
    let took = c.load.ensures.2.0 (c.if-load-ticket.true ∙ (sym c.requires.queued.1 ∙ ap (λ m. m.0.ticket % 2 ^ 64) (sym same.1))) in
    let x : took.0 ≡ c.unwrap.result = search rules in
    ap (λ y. Some (g.T.Kept.base y)) (sym x) ∙ (took.4 ∙ ap (λ m. m.0.base) same.1)
