use Rattle.serde_json.specs.View.{view}
use Rattle.ff_read.proofs.Sizes.{has_few_items}
use Rattle.ff_read.proofs.patterns.read_fold.Goals as goal

pub fold_items-requires-clause-few : goal.fold_items-requires-clause-few
fold_items-requires-clause-few c = has_few_items c.args.bytes.now (view c.in_ok-object.object) c.requires c.in_ok-object.ensures
