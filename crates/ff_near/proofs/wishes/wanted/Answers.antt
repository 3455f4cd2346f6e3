use Rattle.std.proofs.Common.{sym, subst, arith}
use Rattle.std.proofs.lemmas.Option.{slice_get-get_or}
use Rattle.ff_near.specs.Wishes.{IsBad, AreWishes}
use Rattle.ff_near.specs.Noting.{AreNoted}
use Rattle.ff_near.proofs.Noted.{none_noted, is_bad, is_noted, are_wishes}
use Rattle.ff_near.proofs.wishes.wanted.Goals as goal

pub loop-i-init : goal.loop-i-init
loop-i-init c = none_noted _ _ _ c.in_ok-seen.ensures

pub returns-then-not-note : goal.returns-then-not-note
returns-then-not-note c =
    let bad = is_bad _ _ _ _ _ _ _ c.loop-i.invariant c.note.ensures.notes c.if-not-note.true (slice_get-get_or c.as_slice-list.result.now c.loop-i.i _ c.loop-i-test.true) in
    (subst (λ l. IsBad c.args.case.now.pairs l c.loop-i.i) c.as_slice-list.ensures bad, λ j less is. c.loop-i.invariant.good j less (subst (λ l. IsBad c.args.case.now.pairs l j) (sym c.as_slice-list.ensures) is))

pub loop-i-preserved : goal.loop-i-preserved
loop-i-preserved c = is_noted _ _ _ _ _ _ _ c.loop-i.invariant c.note.ensures.notes c.if-not-note.false (slice_get-get_or c.as_slice-list.result.now c.loop-i.i _ c.loop-i-test.true)

pub returns : goal.returns
returns c = (c.in_ok-copy.ensures, subst (λ l. AreWishes c.args.case.now.pairs l) c.as_slice-list.ensures (are_wishes c.args.case.now.pairs c.as_slice-list.result.now c.loop-i.seen.items (subst (λ n. AreNoted c.args.case.now.pairs c.as_slice-list.result.now n c.loop-i.seen.items) (omega (arith, c.loop-i-test.false, c.loop-i.auto.i-end)) c.loop-i.invariant)))
