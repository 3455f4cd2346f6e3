use Rattle.std.proofs.Common.{◌∙◌, ◌++◌, ◌∷◌, [], ap, sym, subst, List, true, false, slice_set}
use Rattle.std.proofs.lemmas.List.{map-append, get_or_read}
use Rattle.ff_types.specs.Placing.{Meeting}
use Rattle.ff_reflect.specs.Walked.{meeting_of, met_of, AreWalked}
use Rattle.ff_reflect.proofs.Walks.{walk_again, walk_new, seen_within}
use Rattle.ff_reflect.proofs.walk.Walk.meet.Goals as goal

pub returns-else-not-index : goal.returns-else-not-index
returns-else-not-index c =
    let s = c.args.self.now in
    let met = ap met_of c.in_ok-push.ensures.items ∙ map-append meeting_of s.met.items (c.args.m ∷ []) in
    let flag = sym (get_or_read s.seen.items c.args.m.across c.index.result.now (seen_within _ _ _ _ _ c.requires.walk c.requires.across) c.index.ensures false) ∙ c.if-not-index.false in
    record {
      met = met;
      is_walk = subst (λ (ms : List Meeting). AreWalked c.args.faces ms (met_of s.tree.items) s.seen.items) (sym met)
          (walk_again c.args.faces (met_of s.met.items) (met_of s.tree.items) s.seen.items (meeting_of c.args.m) c.requires.walk c.requires.across flag);
    }

pub returns-in_ok-push-2 : goal.returns-in_ok-push-2
returns-in_ok-push-2 c =
    let s = c.args.self.now in
    let met = ap met_of c.in_ok-push.ensures.items ∙ map-append meeting_of s.met.items (c.args.m ∷ []) in
    let tree = ap met_of c.in_ok-push-2.ensures.items ∙ map-append meeting_of s.tree.items (c.args.m ∷ []) in
    let flag = sym (get_or_read s.seen.items c.args.m.across c.index.result.now (seen_within _ _ _ _ _ c.requires.walk c.requires.across) c.index.ensures false) ∙ c.if-not-index.true in
    record {
      met = met;
      is_walk = subst (λ (ms : List Meeting). AreWalked c.args.faces ms (met_of c.push-then-not-index.new.self.items) (slice_set s.seen.items c.args.m.across true)) (sym met)
          (subst (λ (ts : List Meeting). AreWalked c.args.faces (met_of s.met.items ++ meeting_of c.args.m ∷ []) ts (slice_set s.seen.items c.args.m.across true)) (sym tree)
          (walk_new c.args.faces (met_of s.met.items) (met_of s.tree.items) s.seen.items (meeting_of c.args.m) c.requires.walk c.requires.across c.requires.face flag));
    }
