use Rattle.std.proofs.Common.{◌<◌, ◌∷◌, ◌++◌, [], ◌∙◌, ℕ, List, ap, sym, subst, arith, length}
use Rattle.std.proofs.lemmas.List.{length-set}
use Rattle.ff_basics.proofs.NumberedLists.{length_in}
use Rattle.ff_basics.specs.NumberedLists.{list_at, lists_in}
use Rattle.ff_tables.specs.declared.terms.Term.{Term}
use Rattle.ff_tables.specs.Orders.{term_at}
use Rattle.ff_propagate.proofs.Listing.{put_more, put_all}
use Rattle.ff_propagate.proofs.uses.put_constraint.Goals as goal

pub loop-j-preserved : goal.loop-j-preserved
loop-j-preserved c =
    let terms = c.as_slice-terms.result.now in
    let old = lists_in c.loop-j.lists in
    let v = (term_at terms c.loop-j.j).var in
    let b : v < length c.args.lists.now = subst
    (λ (ts : List Term). (i : ℕ) → i < length ts → (term_at ts i).var < length c.args.lists.now)
    (sym c.as_slice-terms.ensures.value) c.requires.fit c.loop-j.j c.loop-j-test.true in (
      put_more c.args.constraints.now terms c.args.c c.loop-j.j old (lists_in c.put.new.lists)
          (omega (arith, b, length_in c.args.lists.now, c.loop-j.invariant.1)) c.loop-j.invariant.0
          c.in_ok-put.ensures,
      ap length c.in_ok-put.ensures ∙ length-set old v (list_at old v ++ c.args.c ∷ []) ∙ c.loop-j.invariant.1,
    )

pub returns-clause-listed : goal.returns-clause-listed
returns-clause-listed c = put_all c.args.constraints.now c.args.con.now c.as_slice-terms.result.now c.args.c
    c.loop-j.j (lists_in c.loop-j.lists) c.requires.con c.as_slice-terms.ensures.value c.loop-j-test.false
    c.loop-j.invariant.0
