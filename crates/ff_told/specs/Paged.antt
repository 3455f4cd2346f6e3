-- Pages of the parts of a published board, and what they tell. This project's own.
use Rattle.std.specs.Prelude.{◌≡◌, ℕ, List, map, slice_get, Option, Some, None}
use Rattle.ff_tables.specs.declared.orders.Order.{Order}
use Rattle.ff_tables.specs.declared.givens.Given.{Given}
use Rattle.ff_types.specs.declared.cases.Case.{Case}
use Rattle.ff_propagate.specs.declared.facts.Fact.{Fact}
use Rattle.ff_propagate.specs.declared.parts.Part.{Part}
use Rattle.ff_propagate.specs.Facts.{value_at}
use Rattle.ff_propagate.specs.FactRule.{MeetsFactRule}
use Rattle.ff_propagate.specs.Parts.{AreParts}
use Rattle.ff_parts.specs.Lists.{vars_of}
use Rattle.ff_refute.specs.Givens.{AreGivens}
use Rattle.ff_pages.specs.declared.pages.Pages.{Pages}
use Rattle.ff_pages.specs.declared.pages.PageAnswer.{PageAnswer}
use Rattle.ff_pages.specs.declared.pages.PageAnswer.TheVariants as answer
use Rattle.ff_pages.specs.Paging.{StandsIn, IsPage, HasLog}
use Rattle.ff_viewer.specs.declared.commands.Question.{Question}
use Rattle.ff_viewer.specs.declared.replies.Reply.{Reply}
use Rattle.ff_viewer.specs.declared.replies.Reply.TheVariants as reply
use Rattle.ff_journal.specs.declared.entries.Entry.{Entry}
use Rattle.ff_journal.specs.declared.entries.Outcome.{Outcome}
use Rattle.ff_journal.specs.declared.entries.Outcome.TheVariants as outcome
use Rattle.ff_journal.specs.Publications.{IsLast}
use Rattle.ff_journal.specs.Replies.{Answers}

-- the pages of a part of these facts, which are by the fact rule under these givens
pub record ArePagesOf (case : Case) (budget : ℕ) (gs : List Given) (fs : List (Option Fact)) (p : Pages) : Type 0 where
  pub stands : StandsIn case.system.vars case.system.constraints p
  pub givens : p.givens.value ≡ gs
  pub facts : p.facts.value ≡ fs
  pub budgeted : p.budget ≡ budget

-- the variables of each one's part
abbrev pub parts_of : List Pages → List (List ℕ)
parts_of pages = map (λ p. p.part.vars) pages

-- the pages of all parts of a board
pub record AreAllPages (case : Case) (budget : ℕ) (gs : List Given) (fs : List (Option Fact)) (pages : List Pages) : Type 0 where
  pub parts : AreParts case.system.vars case.system.constraints (value_at fs) (parts_of pages)
  pub each : (i : ℕ) (p : Pages) → slice_get pages i ≡ Some p → ArePagesOf case budget gs fs p

-- the last published epoch has a board
abbrev pub ShowsBoard : List Entry → Type 0
ShowsBoard journal = (e : ℕ) × (board : List (Option Order)) × IsLast journal e (outcome.Board board)

-- the pages of these parts, in their order
pub record AreLaid (case : Case) (budget : ℕ) (gs : List Given) (fs : List (Option Fact)) (parts : List Part) (pages : List Pages)
    : Type 0 where
  pub are : parts_of pages ≡ vars_of parts
  pub each : (i : ℕ) (p : Pages) → slice_get pages i ≡ Some p → ArePagesOf case budget gs fs p

-- the pages are those of all parts of a board by the fact rule, under givens that are the case's starts and pins
pub record HavePages (case : Case) (pages : List Pages) : Type 0 where
  pub budget : ℕ
  pub givens : List Given
  pub facts : List (Option Fact)
  pub are : AreAllPages case budget givens facts pages
  pub pinned : AreGivens case givens
  pub rule : MeetsFactRule case.system.vars case.system.constraints givens facts

-- the pages are of the same parts as before
pub record KeepAllPages (case : Case) (old new : List Pages) : Type 0 where
  pub parts : parts_of new ≡ parts_of old
  pub all : (budget : ℕ) (gs : List Given) (fs : List (Option Fact)) → AreAllPages case budget gs fs old
      → AreAllPages case budget gs fs new

-- the answer is that of page k of the i-th part
abbrev pub IsPageAt : Case → List Pages → ℕ → ℕ → PageAnswer → Type 0
IsPageAt case pages i k a = (budget : ℕ) (gs : List Given) (fs : List (Option Fact)) (vars : List ℕ) → AreAllPages case budget gs fs pages
    → slice_get (parts_of pages) i ≡ Some vars → IsPage case.system.constraints fs vars budget k a × HasLog case gs a

-- what an answer is told as
abbrev pub reply_of : PageAnswer → Reply
reply_of (answer.Page solutions) = reply.Page solutions
reply_of (answer.Past count) = reply.Past count
reply_of (answer.None log) = reply.None log
reply_of answer.Unfinished = reply.Unfinished

-- the reply tells page k of the i-th part, or that there is no such part
abbrev pub IsPageToldBy : Case → List Pages → ℕ → ℕ → Option (List ℕ) → Reply → Type 0
IsPageToldBy case pages i k None told = told ≡ reply.NoPart
IsPageToldBy case pages i k (Some vars) told = (a : PageAnswer) × (told ≡ reply_of a) × IsPageAt case pages i k a

-- the reply to `page` for the i-th part
abbrev pub IsPageToldAt : Case → List Pages → ℕ → ℕ → Reply → Type 0
IsPageToldAt case pages i k told = IsPageToldBy case pages i k (slice_get (parts_of pages) i) told

-- the reply is right for a question by the last published epoch
abbrev pub AnswersLast : Case → ℕ → List Entry → Question → Reply → Type 0
AnswersLast case budget journal question told = (e : ℕ) × (last : Outcome) × IsLast journal e last
    × Answers case budget journal e last question told
