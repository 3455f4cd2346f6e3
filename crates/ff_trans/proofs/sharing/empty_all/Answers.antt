use Rattle.std.proofs.Common.{◌∙◌, ◌<◌, sym, ap, subst, length, []}
use Rattle.std.proofs.lemmas.List.{length-set}
use Rattle.ff_basics.specs.NumberedLists.{lists_in}
use Rattle.ff_basics.proofs.NumberedLists.{length_in}
use Rattle.ff_trans.proofs.Shares.{emptied}
use Rattle.ff_trans.proofs.sharing.empty_all.Goals as goal

pub loop-k-preserved : goal.loop-k-preserved
loop-k-preserved c =
    let old = c.loop-k.lists in let new = c.empty.new.lists in let k = c.loop-k.k in
    let within = subst (λ n. k < n) (sym (c.loop-k.invariant.long)) c.loop-k-test.true in
    record {
      long = sym (length_in new) ∙ ap length c.empty.ensures ∙ length-set (lists_in old) k [] ∙ length_in old ∙ c.loop-k.invariant.long;
      empty = emptied k (lists_in old) (lists_in new) (subst (λ n. k < n) (sym (length_in old)) within) c.empty.ensures c.loop-k.invariant.empty;
    }
