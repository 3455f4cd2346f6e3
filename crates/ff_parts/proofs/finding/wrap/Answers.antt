use Rattle.std.proofs.Common.{rules, ap, ◌∙◌}
use Rattle.ff_basics.specs.NumberedLists.{lists_in}
use Rattle.ff_parts.proofs.Zipped.{paired}
use Rattle.ff_parts.proofs.finding.wrap.Goals as goal

pub returns-clause-vars : goal.returns-clause-vars
returns-clause-vars c = c.loop-vars.invariant.0 ∙ ap lists_in
    (paired c.args.lists.items c.args.touching.items c.into_iter-vars-iterator.result
    c.loop-vars.vars-iterator c.next.new.self c.loop-vars.yielded c.requires.as_many (search rules)
    (search rules) (search rules) (search rules) c.loop-vars.yielded_by c.in-None.ensures.steps).0

pub returns-clause-touching : goal.returns-clause-touching
returns-clause-touching c = c.loop-vars.invariant.1 ∙ ap lists_in
    (paired c.args.lists.items c.args.touching.items c.into_iter-vars-iterator.result
    c.loop-vars.vars-iterator c.next.new.self c.loop-vars.yielded c.requires.as_many (search rules)
    (search rules) (search rules) (search rules) c.loop-vars.yielded_by c.in-None.ensures.steps).1
