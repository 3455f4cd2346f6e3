use Rattle.std.proofs.Common.{ℕ, ◌-◌, ◌∙◌, sym, ap, arith, true≢false}
use Rattle.std.proofs.lemmas.Bool.{eqb-true}
use Rattle.std.proofs.lemmas.Option.{get_or_from_slice_get}
use Rattle.ff_trans.proofs.overlaps.goes_on.Goals as goal

pub returns-then-n-eq0 : goal.returns-then-n-eq0
returns-then-n-eq0 c = λ t. absurd (true≢false (sym t))

pub returns : goal.returns
returns c = λ t.
    let pairs = c.args.pairs.now in let n = c.args.n in
    let some = c.if-n-eq0.false in
    let before = ap (λ (z : ℕ × ℕ). z.0) (get_or_from_slice_get pairs (n - 1) c.faces.result (0, 0) c.faces.ensures.value) in
    let this = ap (λ (z : ℕ × ℕ). z.0) (get_or_from_slice_get pairs n c.faces-2.result (0, 0) c.faces-2.ensures.value) in
    (n - 1, grind (arith, some), before ∙ eqb-true c.faces.result.0 c.faces-2.result.0 t ∙ sym this)
