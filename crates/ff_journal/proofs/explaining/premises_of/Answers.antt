use Rattle.std.proofs.Common.{◌++◌, [], ap, ◌∙◌, sym, map, take}
use Rattle.std.specs.List.{filter_map, cons_option}
use Rattle.ff_journal.specs.Premises.{premise_besides}
use Rattle.ff_journal.proofs.Explained.{premises_more}
use Rattle.ff_journal.proofs.explaining.premises_of.Goals as goal

pub loop-j-preserved : goal.loop-j-preserved
loop-j-preserved c =
    let h = premise_besides c.args.case.now.pairs c.args.facts.now c.args.level c.args.asked in
    let ts = c.as_slice-terms.result.now in
    c.in_ok-add.ensures
    ∙ ap (λ xs. xs ++ cons_option c.premise_besides.result []) c.loop-j.invariant
    ∙ ap (λ o. filter_map h (map (λ t. t.var) (take c.loop-j.j ts)) ++ cons_option o []) c.premise_besides.ensures
    ∙ sym (premises_more h ts c.loop-j.j c.loop-j-test.true)
