use Rattle.serde_json.specs.View.{view}
use Rattle.ff_read.proofs.Lists.{list_of_array}
use Rattle.ff_read.proofs.keys.items_of.Goals as goal

pub returns : goal.returns
returns c = rw c.as_slice.ensures.value (list_of_array c.in_ok-list.list.now.items (view c.args.value.now) c.in_ok-list.ensures)
