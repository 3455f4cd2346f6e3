-- The facts of the last published epoch, whose levels replies to `why` have. This project's own.
use Rattle.std.specs.Prelude.{◌≡◌, ℕ, List, map, Option, Some, None, Contains}
use Rattle.ff_types.specs.declared.cases.Case.{Case}
use Rattle.ff_types.specs.Pairs.{number_of}
use Rattle.ff_propagate.specs.declared.facts.Fact.{Fact}
use Rattle.ff_propagate.specs.Facts.{fact_at, seen}
use Rattle.ff_propagate.specs.FactRule.{MeetsFactRule}
use Rattle.ff_journal.specs.declared.entries.Entry.{Entry}
use Rattle.ff_journal.specs.declared.entries.Outcome.{Outcome}
use Rattle.ff_journal.specs.declared.entries.Outcome.TheVariants as outcome
use Rattle.ff_journal.specs.Epochs.{givens_of}
use Rattle.ff_viewer.specs.declared.replies.Premise.{Premise}
use Rattle.ff_viewer.specs.declared.replies.Reply.{Reply}
use Rattle.ff_viewer.specs.declared.replies.Reply.TheVariants as reply
use Rattle.ff_viewer.specs.declared.replies.Why.{Why}
use Rattle.ff_viewer.specs.declared.replies.Why.TheVariants as why
use Rattle.ff_journal.specs.Reasons.{Named, IsNamedSince, name_of, names_in}

-- the facts are by the fact rule under the givens of epoch e
abbrev pub AreFactsOf : Case → List Entry → ℕ → List (Option Fact) → Type 0
AreFactsOf case journal e fs = MeetsFactRule case.system.vars case.system.constraints (givens_of case journal e) fs

-- the facts have the values of the board, where there is one
abbrev pub AreOfBoard : Outcome → List (Option Fact) → Type 0
AreOfBoard (outcome.Board board) fs = board ≡ map seen fs
AreOfBoard (outcome.Impossible pins log) fs = Unit {0}

-- the pair's fact has this level
pub record IsLevelIn (case : Case) (fs : List (Option Fact)) (m : Named) : Type 0 where
  pub variable : ℕ
  pub fact : Fact
  pub of_pair : number_of case.pairs m.pair.0 m.pair.1 ≡ Some variable
  pub there : fact_at fs variable ≡ Some fact
  pub level : fact.level ≡ m.level

-- the names of a reason have levels of the facts
abbrev pub LevelsFit : Case → List (Option Fact) → ℕ → Why → Type 0
LevelsFit case fs n (why.Forced level cite premises) = ((h : Fact) × (fact_at fs n ≡ Some h) × (h.level ≡ level))
    × ((p : Premise) → Contains premises p → IsLevelIn case fs (name_of p))
LevelsFit case fs n _ = Unit {0}

-- the facts have the levels that replies since the last publication name
abbrev pub HaveLevels : Case → List Entry → List (Option Fact) → Type 0
HaveLevels case journal fs = (m : Named) → IsNamedSince journal m → IsLevelIn case fs m

-- the facts of the last published epoch: by the fact rule, those of its board where it has one, with the levels named since
pub record AreShown (case : Case) (journal : List Entry) (e : ℕ) (last : Outcome) (fs : List (Option Fact)) : Type 0 where
  pub rule : AreFactsOf case journal e fs
  pub board : AreOfBoard last fs
  pub levels : HaveLevels case journal fs

-- the names of an entry have levels of the shown facts
abbrev pub NamesFit : Case → Option (List (Option Fact)) → Entry → Type 0
NamesFit case None e = (m : Named) → Contains (names_in e) m → ⊥
NamesFit case (Some fs) e = (m : Named) → Contains (names_in e) m → IsLevelIn case fs m

-- what a reply to `why` names
abbrev pub ReplyFits : Case → List (Option Fact) → Option ℕ → Reply → Type 0
ReplyFits case fs (Some n) (reply.Because w) = LevelsFit case fs n w
ReplyFits case fs _ (reply.Because w) = ⊥
ReplyFits case fs _ _ = Unit {0}
