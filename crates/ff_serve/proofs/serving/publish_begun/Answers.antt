use Rattle.std.proofs.Common.{rules}
use Rattle.ff_serve.proofs.Quieted.{on_ok}
use Rattle.ff_serve.proofs.Commands.{more_published}
use Rattle.ff_serve.proofs.serving.publish_begun.Goals as goal

pub returns-clause-more : goal.returns-clause-more
returns-clause-more c = on_ok c.publish.result (more_published c.args.core.now c.publish.new.core) c.publish.ensures.published
