-- Pages that are kept for the parts of the last published board.
use Rattle.std.proofs.Common.{◌≡◌, ℕ, ◌-◌, ◌<◌, List, sym, refl, subst, arith, Option, Some, None}
use Rattle.ff_types.specs.declared.cases.Case.{Case}
use Rattle.ff_propagate.specs.declared.facts.Fact.{Fact}
use Rattle.ff_pages.specs.declared.pages.Pages.{Pages}
use Rattle.ff_journal.specs.declared.entries.Entry.{Entry}
use Rattle.ff_journal.specs.declared.entries.Outcome.{Outcome}
use Rattle.ff_journal.specs.declared.entries.Outcome.TheVariants as outcome
use Rattle.ff_journal.specs.Epochs.{givens_of}
use Rattle.ff_journal.specs.Publications.{published, IsLast}
use Rattle.ff_journal.specs.Shown.{AreShown}
use Rattle.ff_journal.proofs.LastPublished.{value_is}
use Rattle.ff_told.specs.Paged.{KeepAllPages}
use Rattle.ff_told.proofs.Kept.{AreKept, one_last}
use Rattle.ff_core.specs.States.{State, ShowsLast, KeepsPages, StandsFor}

-- the shown facts, where the last published epoch has this board
pub shown_are : (case : Case) (j : List Entry) (fs : List (Option Fact)) (e : ℕ) (last : Outcome)
    → ShowsLast case j (Some fs) → IsLast j e last → AreShown case j e last fs
shown_are case j fs e last (d, o, l, shown) m =
    let r = one_last j d e o last l m in
    subst (λ n. AreShown case j n last fs) r.0 (subst (λ x. AreShown case j d x fs) r.1 shown)

pub something_shown : (case : Case) (j : List Entry) (o : Option (List (Option Fact))) → ShowsLast case j o → 0 < published j → o ≡ None → ⊥
something_shown case j None h l e = omega (arith, h, l)
something_shown case j (Some fs) h l e = cc

kept_by : (case : Case) (core : State) (shown : Option (List (Option Fact))) (fs : List (Option Fact)) (pages : List Pages) → shown ≡ Some fs
    → ShowsLast case core.journal shown → KeepsPages case core.budget core.journal shown (Some pages) → AreKept case core.budget core.journal fs pages
kept_by case core None fs pages e shows keeps = absurd keeps
kept_by case core (Some gs) fs pages e shows (n, board, l, all) =
    let same : gs ≡ fs = same_facts e in
    let a = shown_are case core.journal gs n (outcome.Board board) shows l in
    subst (λ xs. AreKept case core.budget core.journal xs pages) same (record {
      epoch = n;
      board = board;
      last = l;
      value = value_is gs board a.board;
      is = a.board;
      rule = a.rule;
      all = all;
    })
  where
    same_facts : {a b : List (Option Fact)} → Some a ≡ Some b → a ≡ b
    same_facts e = cc

pub are_kept : (case : Case) (core : State) (fs : List (Option Fact)) (pages : List Pages) → StandsFor case core → core.shown ≡ Some fs
    → core.pages ≡ Some pages → AreKept case core.budget core.journal fs pages
are_kept case core fs pages stands e p = kept_by case core core.shown fs pages e stands.shows
    (subst (λ o. KeepsPages case core.budget core.journal core.shown o) p stands.keeps)

-- some facts are shown where pages are kept
pub shown_some : (case : Case) (core : State) (pages : List Pages) → StandsFor case core → core.pages ≡ Some pages → (fs : List (Option Fact)) × (core.shown ≡ Some fs)
shown_some case core pages stands p = by core.shown refl (subst (λ o. KeepsPages case core.budget core.journal core.shown o) p stands.keeps)
  where
    by : (o : Option (List (Option Fact))) → core.shown ≡ o → KeepsPages case core.budget core.journal core.shown (Some pages) → (fs : List (Option Fact)) × (core.shown ≡ Some fs)
    by None e k = absurd (subst (λ o. KeepsPages case core.budget core.journal o (Some pages)) e k)
    by (Some fs) e k = (fs, e)

-- the state with other pages of the same parts
pub pages_on : (case : Case) (core : State) (fs : List (Option Fact)) (pages more : List Pages) → StandsFor case core → core.shown ≡ Some fs → AreKept case core.budget core.journal fs pages
    → KeepAllPages case pages more → StandsFor case (record core { pages = Some more })
pages_on case core fs pages more stands e k keep = record {
  turns = stands.turns;
  legal = stands.legal;
  works = stands.works;
  shows = stands.shows;
  keeps = subst (λ o. KeepsPages case core.budget core.journal o (Some more)) (sym e)
      (k.epoch, k.board, k.last, keep.all core.budget (givens_of case core.journal k.epoch) fs k.all);
}
