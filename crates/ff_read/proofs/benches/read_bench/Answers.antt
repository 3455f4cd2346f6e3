use Rattle.serde_json.specs.View.{view}
use Rattle.ff_read.proofs.ScriptLists.{ok_few}
use Rattle.ff_read.proofs.Sizes.{has_few_scripts}
use Rattle.ff_read.proofs.benches.read_bench.Goals as goal

pub bench_of-requires : goal.bench_of-requires
bench_of-requires c = record { few = has_few_scripts c.args.bytes.now (view c.in_ok-object.object) c.requires.few c.in_ok-object.ensures }

pub returns-clause-few : goal.returns-clause-few
returns-clause-few c = ok_few (view c.in_ok-object.object) c.bench_of.result c.bench_of.ensures
