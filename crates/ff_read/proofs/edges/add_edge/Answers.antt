use Rattle.std.proofs.Common.{◌≡◌, ℕ, sym, ◌∙◌, rules, subst, cond, true}
use Rattle.std.proofs.lemmas.Bool.{not-false, not-true}
use Rattle.std.specs.BTreeSet.{contains}
use Rattle.std.specs.BTreeMap.{is_at}
use Rattle.std.specs.Ordering.{nat_cmp}
use Rattle.ff_types.specs.Patterns.{Joins}
use Rattle.ff_read.proofs.SeenEdges.{fresh, again, have_seen_more}
use Rattle.ff_read.proofs.edges.add_edge.Goals as goal

pub returns-then-not-branch : goal.returns-then-not-branch
returns-then-not-branch c =
    let seen = not-false _ (sym c.in_ok-insert.ensures.added ∙ c.if-not-branch.true) in
    again _ _ _ _ c.requires.few c.requires.seen (rw (← c.key_of.ensures) seen)

pub returns : goal.returns
returns c =
    let joins : Joins c.args.n c.args.ends = search rules in
    let lacks = not-true _ (sym c.in_ok-insert.ensures.added ∙ c.if-not-branch.false) in
    let new = fresh _ _ _ _ c.requires.seen joins (rw (← c.key_of.ensures) lacks) in
    let updates = subst (λ (key : ℕ). (q : ℕ) → contains nat_cmp c.insert.new.self q ≡ cond (is_at (nat_cmp key) q) true (contains nat_cmp c.args.seen.now q)) c.key_of.ensures c.in_ok-insert.ensures.updates.0 in
    (c.in_ok-push.ensures.items, new, rw c.in_ok-push.ensures.items (have_seen_more _ _ _ _ _ c.requires.seen new updates))
