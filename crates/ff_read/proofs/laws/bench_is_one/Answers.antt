use Rattle.ff_read.proofs.OneBench.{bench_is_one}
use Rattle.ff_read.proofs.laws.bench_is_one.Goals as goal

pub returns : goal.returns
returns c = bench_is_one
