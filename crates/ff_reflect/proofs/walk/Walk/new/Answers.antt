use Rattle.std.proofs.Common.{◌≡◌, rules, ap, sym, subst, false, true, replicate, List, [], slice_set}
use Rattle.ff_types.specs.Placing.{Meeting}
use Rattle.ff_reflect.specs.Walked.{met_of, AreWalked}
use Rattle.ff_reflect.proofs.Walks.{walk_none}
use Rattle.ff_reflect.proofs.walk.Walk.new.Goals as goal

pub returns : goal.returns
returns c =
    let v : c.in_ok-seen.seen.items ≡ replicate c.args.faces false = search rules in
    let a = c.new.ensures.items in
    let b = c.new-2.ensures.items in
    record {
      met = ap met_of a;
      is_walk = subst (λ (m : List Meeting). AreWalked c.args.faces m (met_of c.new-2.result.items) (slice_set c.in_ok-seen.seen.items 0 true)) (sym (ap met_of a))
          (subst (λ (t : List Meeting). AreWalked c.args.faces [] t (slice_set c.in_ok-seen.seen.items 0 true)) (sym (ap met_of b)) (walk_none c.args.faces c.in_ok-seen.seen.items c.requires v));
    }
