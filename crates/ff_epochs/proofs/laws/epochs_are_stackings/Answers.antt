use Rattle.std.proofs.Common.{rules, ◌≡◌, ℕ, List, ◌++◌, take, sym, ap, ◌∙◌, subst}
use Rattle.std.specs.List.{filter_map}
use Rattle.ff_tables.specs.declared.givens.Given.{Given}
use Rattle.ff_types.specs.declared.pins.Pin.{Pin}
use Rattle.ff_propagate.specs.Closure.{IsClosure, Gives, Clashes}
use Rattle.ff_log.specs.Grounds.{IsAcceptedIn}
use Rattle.ff_solve.specs.Choices.{IsKept, AreStackings}
use Rattle.ff_parts.specs.Factors.{Factors}
use Rattle.ff_journal.specs.Epochs.{pins_of, givens_of, given_of_pin}
use Rattle.ff_journal.specs.Publications.{on_board}
use Rattle.ff_epochs.proofs.Settled.{pins_settled, published_at}
use Rattle.ff_epochs.proofs.ListedPins.{givens_are, pins_listed}
use Rattle.ff_journal.specs.declared.entries.Outcome.TheVariants as outcome
use Rattle.ff_epochs.proofs.laws.epochs_are_stackings.Goals as goal

pub returns-clause-closures : goal.returns-clause-closures
returns-clause-closures c = λ case budget j legal i e board at.
    let p = published_at case budget j legal i e (outcome.Board board) at in (
      p.right.0,
      subst (λ (pins : List Pin). IsClosure case.system.constraints (Gives (case.starts ++ filter_map (given_of_pin case.pairs) pins)) (on_board board))
          (pins_settled case j i e p.begun) p.right.1,
    )

pub returns-clause-stackings : goal.returns-clause-stackings
returns-clause-stackings c = λ g case of true_to budget j legal i e board at parts are.
    let p = published_at case budget j legal i e (outcome.Board board) at in
    let closure : IsClosure case.system.constraints (Gives (givens_of case j e)) (on_board board) =
    subst (λ (pins : List Pin). IsClosure case.system.constraints (Gives (case.starts ++ filter_map (given_of_pin case.pairs) pins)) (on_board board))
    (pins_settled case j i e p.begun) p.right.1 in
    let factors : Factors case.system.vars case.system.constraints (givens_of case j e) (on_board board) parts =
    c.parts_factor.ensures case.system.vars case.system.constraints (on_board board) parts case.system.fit are (givens_of case j e) closure in
    c.stackings_are_choices.ensures.choices g case of true_to (pins_of case j e) (pins_listed case j e of.sorted_pairs) (on_board board) parts
    (subst (λ (gs : List Given). Factors case.system.vars case.system.constraints gs (on_board board) parts) (givens_are case j e of.sorted_pairs) factors)

pub returns-clause-none : goal.returns-clause-none
returns-clause-none c = λ g case of true_to budget j legal i e pins log at.
    let p = published_at case budget j legal i e (outcome.Impossible pins log) at in
    let settled = pins_settled case j i e p.begun in
    let its : pins ≡ pins_of case j e = p.right.1 ∙ settled in
    let clashes : Clashes case.system.constraints (Gives (givens_of case j e)) =
    subst (λ (ps : List Pin). Clashes case.system.constraints (Gives (case.starts ++ filter_map (given_of_pin case.pairs) ps))) settled p.right.0 in
    record {
      its = its;
      accepted = subst (λ (ps : List Pin). IsAcceptedIn case ps log.lines) (sym p.right.1) p.right.2;
      none = λ above kept. c.stackings_are_choices.ensures.clash g case true_to (pins_of case j e) (pins_listed case j e of.sorted_pairs)
          (subst (λ (gs : List Given). Clashes case.system.constraints (Gives gs)) (givens_are case j e of.sorted_pairs) clashes) above
          (subst (λ (ps : List Pin). IsKept g ps above) its kept);
    }
