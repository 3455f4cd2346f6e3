use Rattle.std.proofs.Common.{◌↔◌, IsTrue, List, Option, sym, subst, ◌∙◌}
use Rattle.std.specs.Cmp.Lexicographic.{same_text, other_text}
use Rattle.ff_propagate.specs.declared.facts.Fact.{Fact}
use Rattle.ff_propagate.specs.Facts.{value_at}
use Rattle.ff_alike.specs.Alike.{HaveSameRim}
use Rattle.ff_pages.proofs.Bordering.{keep_same, keep_not}
use Rattle.ff_pages.proofs.pages.Pages.same.Goals as goal

pub returns-then-eq : goal.returns-then-eq
returns-then-eq c = keep_same c.args.case.now.system.constraints c.args.self.now (value_at c.args.facts.now) c.args.part.now.vars c.same_rim.result
    (sym c.as_slice-2.ensures ∙ sym (same_text c.as_slice.result.now c.as_slice-2.result.now c.if-eq.ensures) ∙ c.as_slice.ensures)
    (subst (λ (fs : List (Option Fact)). IsTrue c.same_rim.result ↔ HaveSameRim c.args.case.now.system.constraints (value_at fs) (value_at c.args.facts.now) c.args.self.now.part.vars)
    c.deref.ensures c.same_rim.ensures)

pub returns : goal.returns
returns c = keep_not c.args.case.now.system.constraints c.args.self.now (value_at c.args.facts.now) c.args.part.now.vars
    (λ q. other_text c.as_slice.result.now c.as_slice-2.result.now c.if-eq.ensures (c.as_slice.ensures ∙ sym q ∙ sym c.as_slice-2.ensures))
