use Rattle.std.proofs.Common.{◌≡◌, sym, subst}
use Rattle.ff_propagate.specs.Boards.{IsBoardOf}
use Rattle.ff_propagate.specs.Facts.{value_at}
use Rattle.ff_propagate.specs.Parts.{IsPart, AreTouching}
use Rattle.ff_propagate.specs.declared.parts.Part.{Part}
use Rattle.ff_told.proofs.paging.pages_for.Goals as goal

pub returns-clause-pages : goal.returns-clause-pages
returns-clause-pages c =
    let vars = c.args.case.now.system.vars in
    let cons = c.args.case.now.system.constraints in record {
      stands = c.new-pages.ensures.stands vars cons c.args.case.now.system.fit
          (subst (λ f. IsBoardOf vars cons f) (sym c.in_ok-shown.ensures) c.requires.board)
          (subst (λ (x : Part). IsPart vars cons (value_at c.in_ok-shown.shown.value) x.vars) (sym c.in_ok-own.ensures)
          (subst (λ f. IsPart vars cons (value_at f) c.args.part.now.vars) (sym c.in_ok-shown.ensures) c.requires.part))
          (subst (λ (x : Part). AreTouching cons x.vars x.touching) (sym c.in_ok-own.ensures) c.requires.touching);
      givens = subst (λ g. g.value ≡ c.args.givens.now.value) (sym c.new-pages.ensures.givens) c.in_ok-given.ensures;
      facts = subst (λ f. f.value ≡ c.args.facts.now.value) (sym c.new-pages.ensures.facts) c.in_ok-shown.ensures;
      budgeted = c.new-pages.ensures.budget;
    }
