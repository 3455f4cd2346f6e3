use Rattle.serde_json.specs.View.{view}
use Rattle.ff_read.proofs.Members.{ok_lines, ok_pins}
use Rattle.ff_read.proofs.Sizes.{has_few_members}
use Rattle.ff_read.proofs.checks.read_check.Goals as goal

pub check_of-requires : goal.check_of-requires
check_of-requires c = record { few = has_few_members c.args.bytes.now (view c.in_ok-object.object) c.requires.few c.in_ok-object.ensures }

pub returns-clause-lines : goal.returns-clause-lines
returns-clause-lines c =
    ok_lines (view c.in_ok-object.object) c.check_of.result (has_few_members c.args.bytes.now (view c.in_ok-object.object) c.requires.few c.in_ok-object.ensures) c.check_of.ensures

pub returns-clause-pins : goal.returns-clause-pins
returns-clause-pins c = ok_pins (view c.in_ok-object.object) c.check_of.result c.check_of.ensures
