use Rattle.std.proofs.Common.{◌≡◌, ℕ, ◌+◌, rules, sym, ap, ◌∙◌, subst, arith, List, [], ◌∷◌, length, length-append, slice_get, Some}
use Rattle.std.specs.Option.{IsSome}
use Rattle.ff_door.specs.Entries.{Follows}
use Rattle.ff_door.specs.Views.{DoorView, SeatView}
use Rattle.ff_door.proofs.Gathering.{closes}
use Rattle.ff_door.proofs.Rows.{got_longer, got_last, same_there}
use Rattle.ff_door.proofs.Sound.{is_out}
use Rattle.ff_door.proofs.Ends.{all_seen}
use Rattle.ff_door.proofs.door.Door.close.Goals as goal

pub gather_all-requires-clause-door : goal.gather_all-requires-clause-door
gather_all-requires-clause-door g c = let l = c.pop.new.self.items in let x = c.in-Some.last in
    ap (λ (s : SeatView g.row.T-Entry.Denot g.row.T-Base.Denot). s.table) c.last.view_is
    ∙ (c.requires.seats (length l) x (ap (λ y. slice_get y (length l)) c.in-Some.ensures.items ∙ got_last l x)).0.0

pub gather_all-requires-clause-out : goal.gather_all-requires-clause-out
gather_all-requires-clause-out g c = let l = c.pop.new.self.items in let x = c.in-Some.last in
    is_out c.last.inside.seat.me c.last.invariant (ap (λ (s : SeatView g.row.T-Entry.Denot g.row.T-Base.Denot). s.inside) c.last.view_is
    ∙ (c.requires.seats (length l) x (ap (λ y. slice_get y (length l)) c.in-Some.ensures.items ∙ got_last l x)).1)

pub gather_all-requires-clause-seats : goal.gather_all-requires-clause-seats
gather_all-requires-clause-seats g c k d h = c.requires.seats k d (ap (λ y. slice_get y k) c.in-Some.ensures.items ∙ got_longer c.pop.new.self.items (c.in-Some.last ∷ []) k d h)

pub close_with-closed-requires : goal.close_with-closed-requires
close_with-closed-requires g c = let l = c.pop.new.self.items in let x = c.in-Some.last in
    c.gather_all.ensures.door ∙ (ap (λ (s : SeatView g.row.T-Entry.Denot g.row.T-Base.Denot). s.table) c.last.view_is
    ∙ ((c.requires.seats (length l) x (ap (λ y. slice_get y (length l)) c.in-Some.ensures.items ∙ got_last l x)).0.0
    ∙ sym (ap (λ (d : DoorView g.row.T-Base.Denot). d.table) c.self.view_is)))

pub unwrap-requires : goal.unwrap-requires
unwrap-requires g c = let l = c.pop.new.self.items in let x = c.in-Some.last in
    let count : length c.args.seats.items ≡ length l + 1 = ap length c.in-Some.ensures.items ∙ length-append l (x ∷ []) in
    let seats : c.self.inside.table.shared.key.seats ≡ c.args.self.seats = ap (λ (d : DoorView g.row.T-Base.Denot). d.seats) c.self.view_is in
    let o = c.gather_all.ensures.out in
    let z = closes g.T.Kept.listed g.T.Kept.names g.T.Kept.base c.self.inside.table.shared.key _ c.gather_all.new.head.me.0 _ _ (omega (arith, c.gather_all.ensures.parts, c.last.invariant.0, c.requires.all)) o.2 o.1 c.close_with-closed.ensures.values.2 in
    let t : c.take-value.result ≡ Some z.0 = same_there _ 0 _ _ c.take-value.ensures.value z.1 in
    subst IsSome (sym t) (search rules)

pub returns-clause-seen : goal.returns-clause-seen
returns-clause-seen g c k d h = let l = c.pop.new.self.items in let x = c.in-Some.last in
    let count : length c.args.seats.items ≡ length l + 1 = ap length c.in-Some.ensures.items ∙ length-append l (x ∷ []) in
    let seats : c.self.inside.table.shared.key.seats ≡ c.args.self.seats = ap (λ (y : DoorView g.row.T-Base.Denot). y.seats) c.self.view_is in
    let o = c.gather_all.ensures.out in
    let z = closes g.T.Kept.listed g.T.Kept.names g.T.Kept.base c.self.inside.table.shared.key _ c.gather_all.new.head.me.0 _ _ (omega (arith, c.gather_all.ensures.parts, c.last.invariant.0, c.requires.all)) o.2 o.1 c.close_with-closed.ensures.values.2 in
    let t : c.take-value.result ≡ Some z.0 = same_there _ 0 _ _ c.take-value.ensures.value z.1 in
    let u : z.0 ≡ c.unwrap.result = search rules in
    let its : Follows g.T.Kept.names x.number x.seen (g.T.Kept.listed z.0) =
    subst (λ (s : SeatView g.row.T-Entry.Denot g.row.T-Base.Denot). Follows g.T.Kept.names s.number s.seen (g.T.Kept.listed z.0)) c.last.view_is
    (subst (λ (y : ℕ × List g.row.T-Entry.Denot). Follows g.T.Kept.names y.0 y.1 (g.T.Kept.listed z.0)) (λ i. (c.gather_all.ensures.number i, c.gather_all.ensures.seen i)) z.3) in
    subst (λ y. Follows g.T.Kept.names d.number d.seen (g.T.Kept.listed y)) u
    (all_seen g.T.Kept.names l x c.gather_all.new.head.me.0.joined (g.T.Kept.listed z.0) c.gather_all.ensures.joined its z.4 k d
    (ap (λ y. slice_get y k) (sym c.in-Some.ensures.items) ∙ h))

pub returns-clause-base : goal.returns-clause-base
returns-clause-base g c = let l = c.pop.new.self.items in let x = c.in-Some.last in
    let count : length c.args.seats.items ≡ length l + 1 = ap length c.in-Some.ensures.items ∙ length-append l (x ∷ []) in
    let seats : c.self.inside.table.shared.key.seats ≡ c.args.self.seats = ap (λ (y : DoorView g.row.T-Base.Denot). y.seats) c.self.view_is in
    let o = c.gather_all.ensures.out in
    let z = closes g.T.Kept.listed g.T.Kept.names g.T.Kept.base c.self.inside.table.shared.key _ c.gather_all.new.head.me.0 _ _ (omega (arith, c.gather_all.ensures.parts, c.last.invariant.0, c.requires.all)) o.2 o.1 c.close_with-closed.ensures.values.2 in
    let t : c.take-value.result ≡ Some z.0 = same_there _ 0 _ _ c.take-value.ensures.value z.1 in
    let u : z.0 ≡ c.unwrap.result = search rules in
    ap g.T.Kept.base (sym u) ∙ (z.2 ∙ ap (λ (y : DoorView g.row.T-Base.Denot). y.base) c.self.view_is)
