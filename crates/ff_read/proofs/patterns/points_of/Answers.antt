use Rattle.std.proofs.Common.{length, ap, arith}
use Rattle.ff_read.specs.Spelling.{point_of}
use Rattle.ff_read.proofs.Lists.{as_many_views}
use Rattle.ff_read.proofs.patterns.points_of.Goals as goal

pub overflow_cast-result : goal.overflow_cast-result
overflow_cast-result c = omega (arith, ap length c.as_slice.ensures, as_many_views point_of c.args.list.now c.in-Ok.points c.in-Ok.ensures, c.in-Some.ensures.within, c.requires)
