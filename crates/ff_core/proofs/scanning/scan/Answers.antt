use Rattle.std.proofs.Common.{◌+◌, ◌≤◌, length, subst, sym, refl, arith}
use Rattle.std.proofs.lemmas.Option.{slice_get_read}
use Rattle.ff_propagate.specs.ClosureLaws.{AreQuiet}
use Rattle.ff_propagate.specs.Facts.{value_at}
use Rattle.ff_core.specs.Scans.{IsScannedTo, IsFirstMore}
use Rattle.ff_core.proofs.Scanned.{scan_next, scan_quiet_all, scan_more_all}
use Rattle.ff_core.proofs.scanning.scan.Goals as goal

pub loop-c-preserved : goal.loop-c-preserved
loop-c-preserved c = subst (λ o. IsScannedTo c.as_slice-constraints.result.now c.args.facts.now (c.loop-c.c + 1) o) (sym c.next_more-more.ensures)
    (scan_next c.as_slice-constraints.result.now c.args.facts.now c.loop-c.c c.index-constraints-c.result c.loop-c.more c.forced-found.result
    (slice_get_read c.as_slice-constraints.result.now _ _ _ refl c.loop-c-test.true c.index-constraints-c.is) c.forced-found.ensures
    c.in_default.not-Dead c.loop-c.invariant)

pub returns-in-Some : goal.returns-in-Some
returns-in-Some c =
    let l : length c.as_slice-constraints.result.now ≤ c.loop-c.c = omega arith in
    subst (λ cons. IsFirstMore cons c.args.facts.now c.in-Some.c) c.as_slice-constraints.ensures
    (scan_more_all c.as_slice-constraints.result.now c.args.facts.now c.loop-c.c c.in-Some.c l
    (subst (λ o. IsScannedTo c.as_slice-constraints.result.now c.args.facts.now c.loop-c.c o) c.in-Some.is c.loop-c.invariant))

pub returns-in-None : goal.returns-in-None
returns-in-None c =
    let l : length c.as_slice-constraints.result.now ≤ c.loop-c.c = omega arith in
    subst (λ cons. AreQuiet cons (value_at c.args.facts.now)) c.as_slice-constraints.ensures
    (scan_quiet_all c.as_slice-constraints.result.now c.args.facts.now c.loop-c.c l
    (subst (λ o. IsScannedTo c.as_slice-constraints.result.now c.args.facts.now c.loop-c.c o) c.in-None.is c.loop-c.invariant))
