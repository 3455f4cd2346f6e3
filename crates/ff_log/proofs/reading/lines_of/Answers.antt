use Rattle.std.proofs.Common.{ap, sym, ◌∙◌}
use Rattle.ff_log.specs.Reading.{line_of}
use Rattle.ff_log.proofs.LogLaws.{first_bad}
use Rattle.ff_log.proofs.reading.lines_of.Goals as goal

pub returns-in-None-clause-bad : goal.returns-in-None-clause-bad
returns-in-None-clause-bad c = first_bad c.args.lines.now c.loop-i.log.items c.loop-i.i c.index-lines-i.result c.loop-i.invariant c.loop-i-test.true c.index-lines-i.is
    (sym c.in-None.is ∙ c.in_ok-line.ensures ∙ ap line_of c.as_str.ensures)
