use Rattle.std.proofs.Common.{rules, ◌≡◌, ◌+◌, ◌-◌, ◌<◌, ◌≤◌, ℕ, suc, length, drop, sym, ap, ◌∙◌, subst, arith}
use Rattle.std.proofs.lemmas.List.{drop_all}
use Rattle.ff_propagate.specs.Facts.{fact_at}
use Rattle.ff_board.specs.Standing.{top_level, top_with}
use Rattle.ff_board.proofs.Tops.{top_from}
use Rattle.ff_board.proofs.few.top_of.Goals as goal

pub loop-left-init : goal.loop-left-init
loop-left-init c = record {
  inside = omega (arith, c.requires);
  top = sym (ap top_level (drop_all c.args.vars c.args.facts.now (omega (arith, c.requires))));
}

pub loop-left-preserved : goal.loop-left-preserved
loop-left-preserved c = let l = c.loop-left in let fs = c.args.facts.now in let v : ℕ = l.left - 1 in
    let some : 0 < l.left = omega arith in
    let e : suc v ≡ l.left = omega (arith, some) in
    let at : top_level (drop v fs) ≡ top_with (fact_at fs v) (top_level (drop (suc v) fs)) = top_from fs v (omega (arith, l.invariant.inside, some)) in
    record {
      inside = omega (arith, l.invariant.inside);
      top = c.top_with_fact-top.ensures ∙ (λ k. top_with (c.fact.ensures k) ((l.invariant.top ∙ ap (λ (n : ℕ). top_level (drop n fs)) (sym e)) k)) ∙ sym at;
    }

pub returns : goal.returns
returns c = let z : c.loop-left.left ≡ 0 = omega arith in c.loop-left.invariant.top ∙ ap (λ (n : ℕ). top_level (drop n c.args.facts.now)) z
