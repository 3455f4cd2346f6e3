use Rattle.std.proofs.Common.{length, subst}
use Rattle.std.specs.List.Sorted.{IsPermutation}
use Rattle.ff_read.specs.Seen.{AreRising}
use Rattle.ff_read.proofs.SortedEdges.{once_of}
use Rattle.ff_read.proofs.edges.are_apart.Goals as goal

pub returns : goal.returns
returns c rising =
    let edges = c.args.edges.now in
    let sorted = c.sort_unstable.new.self.items in
    record {
      joins = c.all_join.ensures c.if-not-all_join.false;
      once = once_of edges sorted
          (subst (λ keys. IsPermutation keys sorted) c.in_ok-keys.ensures c.sort_unstable.ensures.permutation)
          (subst (λ keys. AreRising keys (length keys)) c.as_slice.ensures.value (c.are_rising.ensures rising));
    }
