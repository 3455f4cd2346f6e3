use Rattle.std.proofs.Common.{rules, ◌≡◌, ◌+◌, ◌≤◌, ℕ, List, [], ◌∷◌, ◌++◌, length, take, sym, ap, ◌∙◌, arith}
use Rattle.ff_bench.specs.Runs.{lengths_in}
use Rattle.ff_bench.proofs.Following.{take_next}
use Rattle.ff_bench.proofs.Dealing.{one_popped}
use Rattle.ff_bench.proofs.Scripts.{take_full, lengths_many}
use Rattle.ff_bench.proofs.running.lengths_of.Goals as goal

pub loop-k-preserved : goal.loop-k-preserved
loop-k-preserved c =
    let i = c.loop-k.invariant in let k = c.loop-k.k in let n = c.length_of.result in let m = one_popped c.push_reserved.new.self.items c.loop-k.lengths.items n c.push_reserved.ensures.items in let q = i.count in record {
      items = c.push_reserved.ensures.items ∙ (ap (λ (l : List ℕ). l ++ n ∷ []) i.items ∙ sym (take_next (lengths_in c.args.scripts.now) k n c.length_of.ensures));
      count = omega (arith, m, q);
      room = search rules;
    }

pub returns : goal.returns
returns c =
    let i = c.loop-k.invariant in let all = lengths_in c.args.scripts.now in let k = c.loop-k.k in
    let z : length c.args.scripts.now ≤ k = search rules in
    let n = ap (λ (l : List ℕ). length l) i.items in let q = i.count in let m = lengths_many c.args.scripts.now in
    search rules ∙ (i.items ∙ take_full all k (omega (arith, z, n, q, m)))
