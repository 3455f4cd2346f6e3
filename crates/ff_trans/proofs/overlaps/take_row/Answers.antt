use Rattle.std.proofs.Common.{ℕ, ◌+◌, ◌≡◌, arith, ap, refl, subst, length}
use Rattle.std.proofs.lemmas.Option.{get_or_from_slice_get}
use Rattle.ff_types.specs.Pairs.{pair_at}
use Rattle.ff_trans.specs.Rows.{AreFoundTo}
use Rattle.ff_trans.proofs.FoundTriples.{pair_below, third_below, third_before, found_begins, found_ends}
use Rattle.ff_trans.proofs.overlaps.take_row.Goals as goal

pub overflow_step-k : goal.overflow_step-k
overflow_step-k c =
    let below = (pair_below c.args.cells.now c.args.pairs.now c.requires.pairs (length c.args.row.now) c.args.n c.faces-f.result.0 c.faces-f.result.1 c.requires.below c.faces-f.ensures.value).1 in
    let few = c.requires.few in
    record { fits = omega (arith, below, few) }

pub loop-k-init : goal.loop-k-init
loop-k-init c =
    let pairs = c.args.pairs.now in let n = c.args.n in
    let e : (pair_at pairs n).1 ≡ c.faces-f.result.1 = ap (λ (z : ℕ × ℕ). z.1) (get_or_from_slice_get pairs n c.faces-f.result (0, 0) c.faces-f.ensures.value) in
    record {
      above = omega (arith, e);
      long = refl;
      same = λ k l. refl;
      low = λ d l. c.requires.row.low d (omega (arith, l, e));
      found = subst (λ k. AreFoundTo c.args.cells.now pairs n (k + 1) c.args.found.now) e (found_begins c.args.cells.now pairs n c.args.found.now c.requires.found);
      keeps = refl;
    }

pub returns-clause-found : goal.returns-clause-found
returns-clause-found c =
    let pairs = c.args.pairs.now in let n = c.args.n in
    let far = c.loop-k-test.false in
    found_ends c.args.cells.now pairs n c.loop-k.k c.loop-k.found
    (third_before c.args.cells.now (pair_at pairs n).0 (pair_at pairs n).1 (length c.args.row.now) c.loop-k.k c.args.reach c.args.row.now c.requires.row c.requires.reach c.loop-k.invariant.above (omega (arith, far))
    (λ i third t. third_below c.args.cells.now pairs c.requires.pairs (length c.args.row.now) i (pair_at pairs n).0 (pair_at pairs n).1 third c.requires.below t))
    c.loop-k.invariant.found
