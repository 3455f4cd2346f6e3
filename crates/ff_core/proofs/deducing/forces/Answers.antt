use Rattle.std.proofs.Common.{rules}
use Rattle.std.proofs.lemmas.Bool.{false≢true}
use Rattle.ff_core.proofs.Standing.{dead_tried, some_tried}
use Rattle.ff_core.proofs.deducing.forces.Goals as goal

pub returns-in-Dead : goal.returns-in-Dead
returns-in-Dead c = (
  λ _. dead_tried c.args.vars c.args.con.now c.requires.fit c.args.facts.now c.args.level c.args.var c.args.value
      c.other.result c.other.ensures (c.has_var.ensures.0 (search rules)) c.in-Dead.ensures,
  λ _. search rules,
)

pub returns-in-Nothing : goal.returns-in-Nothing
returns-in-Nothing c = (
  λ f. absurd (false≢true f),
  λ f. absurd (some_tried c.args.con.now c.args.facts.now c.args.level c.args.var c.args.value
      c.other.result c.other.ensures c.requires.unset c.in-Nothing.ensures.0 f),
)

pub returns-in-Value : goal.returns-in-Value
returns-in-Value c = (
  λ f. absurd (false≢true f),
  λ f. absurd (some_tried c.args.con.now c.args.facts.now c.args.level c.args.var c.args.value
      c.other.result c.other.ensures c.requires.unset c.in-Value.ensures.some f),
)
