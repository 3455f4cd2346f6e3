use Rattle.std.proofs.Common.{◌≡◌, ℕ, ◌+◌, refl, sym, ap, ◌∙◌, subst, arith, List, [], ◌∷◌, length, length-append, slice_get, Some, suc}
use mathlib.Core.Logic.{dite}
use native.Mathlib.Decide.{ℕ_discrete}
use Rattle.ff_door.specs.Rule.{Out}
use Rattle.ff_door.specs.Views.{SeatView}
use Rattle.ff_door.proofs.Rows.{got_longer, got_last, same_some}
use Rattle.ff_door.proofs.Sound.{is_out}
use Rattle.ff_door.proofs.door.Door.gather_all.Goals as goal

pub gather-requires-clause-other_door : goal.gather-requires-clause-other_door
gather-requires-clause-other_door g c = let l = c.pop.new.self.items in let other = c.in-Some.other in
    let at = c.loop-other.invariant.rest (length l) other (ap (λ x. slice_get x (length l)) c.in-Some.ensures.items ∙ got_last l other) in
    ap (λ (x : SeatView g.row.T-Entry.Denot g.row.T-Base.Denot). x.table) c.other.view_is ∙ (c.requires.seats (length l) other at).0.0

pub gather-requires-clause-out : goal.gather-requires-clause-out
gather-requires-clause-out g c = let l = c.pop.new.self.items in let other = c.in-Some.other in
    let at = c.loop-other.invariant.rest (length l) other (ap (λ x. slice_get x (length l)) c.in-Some.ensures.items ∙ got_last l other) in (
      c.loop-other.invariant.out,
      is_out c.other.inside.seat.me c.other.invariant
          (ap (λ (x : SeatView g.row.T-Entry.Denot g.row.T-Base.Denot). x.inside) c.other.view_is ∙ (c.requires.seats (length l) other at).1),
    )

pub loop-other-preserved : goal.loop-other-preserved
loop-other-preserved g c = let l = c.pop.new.self.items in let other = c.in-Some.other in let was = c.loop-other.invariant in let it = c.in-Some.ensures.items in
    let at = was.rest (length l) other (ap (λ x. slice_get x (length l)) it ∙ got_last l other) in
    let one = c.other.invariant.0 in let now = c.gather.ensures.gathered in
    let seen : ◌≡◌ {A = ℕ × List g.row.T-Entry.Denot} (c.other.inside.seat.me.0.number, c.other.inside.seat.me.0.seen) (other.number, other.seen) =
    ap (λ (x : SeatView g.row.T-Entry.Denot g.row.T-Base.Denot). (x.number, x.seen)) c.other.view_is in
    let count : length c.loop-other.seats.items ≡ length l + 1 = ap length it ∙ length-append l (other ∷ []) in
    record {
      same = (c.gather.ensures.door ∙ was.same.0, ap (λ m. m.0.number) now ∙ was.same.1, ap (λ m. m.0.seen) now ∙ was.same.2);
      out = subst Out (sym now) (was.out.0, was.out.1, omega (arith, was.out.2), refl);
      rest = λ k d h. was.rest k d (ap (λ x. slice_get x k) it ∙ got_longer l (other ∷ []) k d h);
      parts = let p = ap (λ m. m.0.parts) now in let r = was.parts in omega arith;
      joined = λ k d b h. dite (ℕ_discrete k (length l))
          (λ e. let same : other ≡ d = same_some other d (sym at ∙ (ap (slice_get c.args.seats.items) (sym e) ∙ h)) in
          (0, ap (λ m. slice_get m.0.joined 0) now ∙ (ap Some seen ∙ ap (λ (x : SeatView g.row.T-Entry.Denot g.row.T-Base.Denot). Some (x.number, x.seen)) same)))
          (λ n. let o = was.joined k d (omega (arith, count)) h in (suc o.0, ap (λ m. slice_get m.0.joined (suc o.0)) now ∙ o.1));
    }
