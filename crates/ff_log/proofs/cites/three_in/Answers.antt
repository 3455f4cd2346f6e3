use Rattle.std.proofs.Common.{rules, ◌∙◌}
use Rattle.ff_log.proofs.Others.{three_here}
use Rattle.ff_log.proofs.cites.three_in.Goals as goal

pub returns : goal.returns
returns c = c.three_of.ensures ∙ three_here c.args.faces.0.now c.args.faces.1.now c.args.faces.2.now c.args.word.now c.args.places.0.now c.args.places.1.now c.args.places.2.now
    c.in_ok-a.a c.in_ok-b.b c.in_ok-c.c (search rules) c.in_ok-a.ensures c.in_ok-b.ensures c.in_ok-c.ensures
