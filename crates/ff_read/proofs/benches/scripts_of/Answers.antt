use Rattle.std.proofs.Common.{arith, map}
use Rattle.std.proofs.lemmas.List.{length-map}
use Rattle.serde_json.specs.View.{view}
use Rattle.ff_read.specs.Benches.{AreFew}
use Rattle.ff_read.specs.Scripts.{seen_lists}
use Rattle.ff_read.proofs.ScriptLists.{with_few}
use Rattle.ff_read.proofs.benches.scripts_of.Goals as goal

pub returns : goal.returns
returns c =
    let few : AreFew (seen_lists c.args.viewers.now) =
    (omega (arith, c.if-viewers-gt-MOST_VIEWERS.false, length-map c.args.viewers.now (λ s. map view s.now)), omega (arith, c.if-count_of-gt-MOST_COMMANDS.false, c.count_of.ensures)) in
    with_few (seen_lists c.args.viewers.now) c.all_commands.result few c.all_commands.ensures
