use Rattle.std.proofs.Common.{◌≡◌, ◌<◌, ℕ, sym, subst, arith, Some, slice_get, List}
use Rattle.std.proofs.lemmas.Result.{IfErr-weaker}
use Rattle.std.proofs.lemmas.Option.{get_or_from_slice_get}
use Rattle.ff_types.specs.Pairs.{pair_at}
use Rattle.ff_trans.specs.Rows.{IsFirst}
use Rattle.ff_trans.proofs.FoundTriples.{first_third, second_third, on_both, taken_to, too_many_taken, found_skips}
use Rattle.ff_trans.proofs.overlaps.take_triple.Goals as goal

-- the faces of the pair, read from the list
read : (pairs : List (ℕ × ℕ)) (n : ℕ) (p : ℕ × ℕ) → slice_get pairs n ≡ Some p → pair_at pairs n ≡ p
read pairs n p e = get_or_from_slice_get pairs n p (0, 0) e

lower : (p q : ℕ × ℕ) (k : ℕ) → p ≡ q → q.0 < q.1 → p.1 < k → p.0 < k
lower p q k e l m = let r = subst (λ (z : ℕ × ℕ). z.0 < z.1) (sym e) l in omega (arith, r, m)

pub take-requires-clause-second : goal.take-requires-clause-second
take-requires-clause-second c =
    let pairs = c.args.pairs.now in let n = c.args.n in let k = c.args.k in
    let e = read pairs n c.faces-f.result c.faces-f.ensures.value in
    let found = subst (IsFirst c.args.cells.now (pair_at pairs n).0 (pair_at pairs n).1 k) c.in-Some.is c.requires.first in
    subst (λ (z : ℕ × ℕ). (m : ℕ) × (slice_get pairs m ≡ Some (z.0, k))) e
    (first_third c.args.cells.now pairs c.requires.pairs c.in-Some.i (pair_at pairs n).0 (pair_at pairs n).1 k (lower (pair_at pairs n) c.faces-f.result k e c.faces-f.ensures.rising c.requires.above) found.0)

pub take-requires-clause-third : goal.take-requires-clause-third
take-requires-clause-third c =
    let pairs = c.args.pairs.now in let n = c.args.n in let k = c.args.k in
    let e = read pairs n c.faces-f.result c.faces-f.ensures.value in
    let found = subst (IsFirst c.args.cells.now (pair_at pairs n).0 (pair_at pairs n).1 k) c.in-Some.is c.requires.first in
    subst (λ (z : ℕ × ℕ). (m : ℕ) × (slice_get pairs m ≡ Some (z.1, k))) e (second_third c.args.cells.now pairs c.requires.pairs c.in-Some.i (pair_at pairs n).0 (pair_at pairs n).1 k c.requires.above found.0)

pub returns-in-Some-clause-found : goal.returns-in-Some-clause-found
returns-in-Some-clause-found c =
    let cells = c.args.cells.now in let pairs = c.args.pairs.now in let n = c.args.n in let k = c.args.k in
    let found = subst (IsFirst cells (pair_at pairs n).0 (pair_at pairs n).1 k) c.in-Some.is c.requires.first in
    on_both c.take.result c.take.ensures.taken c.take.ensures.room (λ taken room.
    taken_to cells pairs c.requires.pairs n k c.args.found.now c.faces-f.result c.faces-f.ensures.value c.requires.pair c.requires.above c.in-Some.i c.index-cells-i.result c.index-cells-i.is found c.requires.found
    c.take.new.found taken room)

pub returns-in-Some-clause-refused : goal.returns-in-Some-clause-refused
returns-in-Some-clause-refused c =
    let cells = c.args.cells.now in let pairs = c.args.pairs.now in let n = c.args.n in let k = c.args.k in
    let found = subst (IsFirst cells (pair_at pairs n).0 (pair_at pairs n).1 k) c.in-Some.is c.requires.first in
    IfErr-weaker c.take.result _ _ (λ why full. too_many_taken cells pairs c.requires.pairs n k c.args.found.now c.faces-f.result c.faces-f.ensures.value c.requires.pair c.requires.above c.in-Some.i c.index-cells-i.result
    c.index-cells-i.is found c.requires.found why full) c.take.ensures.refused

pub returns-in-None-clause-found : goal.returns-in-None-clause-found
returns-in-None-clause-found c =
    let pairs = c.args.pairs.now in let n = c.args.n in let k = c.args.k in
    found_skips c.args.cells.now pairs n k c.args.found.now (subst (IsFirst c.args.cells.now (pair_at pairs n).0 (pair_at pairs n).1 k) c.in-None.is c.requires.first) c.requires.found
