-- Which parts are demanded, and which of them are open. This project's own.
use Rattle.std.specs.Prelude.{◌≡◌, ℕ, ◌+◌, ◌*◌, ◌<◌, ◌⊎◌, ◌↔◌, Bool, false, IsTrue, List, [], length, drop, slice_get, slice_index_or, Option, Some, None}
use Rattle.ff_tables.specs.declared.terms.Constraint.{Constraint}
use Rattle.ff_propagate.specs.Facts.{value_at}
use Rattle.ff_propagate.specs.Trees.{Tree, IsTree, visits}
use Rattle.ff_viewer.specs.declared.commands.Command.{Command}
use Rattle.ff_viewer.specs.declared.commands.Command.TheVariants as command
use Rattle.ff_viewer.specs.declared.commands.Question.TheVariants as ask
use Rattle.ff_viewer.specs.declared.replies.Reply.{Reply}
use Rattle.ff_viewer.specs.declared.replies.Reply.TheVariants as reply
use Rattle.ff_journal.specs.declared.entries.Entry.{Entry}
use Rattle.ff_journal.specs.declared.entries.Entry.TheVariants as entry
use Rattle.ff_journal.specs.Publications.{outcomes}
use Rattle.ff_pages.specs.declared.pages.Pages.{Pages}
use Rattle.ff_pages.specs.Paging.{visited_of}
use Rattle.ff_desk.specs.declared.demands.Demand.{Demand}
use Rattle.ff_desk.specs.declared.demands.Demand.TheVariants as demand

-- what a reply to `page` of the part demands: the part, unless the reply is `impossible` or `no part`
abbrev pub page_demand : ℕ → Reply → Demand
page_demand p reply.Impossible = demand.Nothing
page_demand p reply.NoPart = demand.Nothing
page_demand p _ = demand.Part p

-- what a reply to `stack` demands: all parts, unless it is `impossible` or `count`
abbrev pub stack_demand : Reply → Demand
stack_demand reply.Impossible = demand.Nothing
stack_demand (reply.Count count) = demand.Nothing
stack_demand _ = demand.All

-- what a command with its reply demands
abbrev pub demand_of : Command → Reply → Demand
demand_of (command.Ask (ask.Page p k)) told = page_demand p told
demand_of (command.Ask (ask.Stack choice)) told = stack_demand told
demand_of _ told = demand.Nothing

-- what an entry demands
abbrev pub demand_in : Entry → Demand
demand_in (entry.Said viewer index said told) = demand_of said told
demand_in (entry.Published e outcome) = demand.Nothing

-- the part p is among what is demanded
abbrev pub Demands : Demand → ℕ → Type 0
Demands demand.Nothing p = ⊥
Demands (demand.Part q) p = q ≡ p
Demands demand.All p = Unit {0}

-- an entry that comes after the last publication demands the part p
pub record IsDemanded (journal : List Entry) (p : ℕ) : Type 0 where
  pub place : ℕ
  pub entry : Entry
  pub there : slice_get journal place ≡ Some entry
  pub since : outcomes (drop place journal) ≡ []
  pub demands : Demands (demand_in entry) p

-- The marks are those of the demanded parts. Where no pages are there, nobody has demanded a part.
abbrev pub AreDemanded : List Entry → Option (List Pages) → List Bool → Type 0
AreDemanded journal None marks = (p : ℕ) → IsDemanded journal p → ⊥
AreDemanded journal (Some pages) marks = (length marks ≡ length pages)
    × ((p : ℕ) → p < length pages → IsTrue (slice_index_or marks p false) ↔ IsDemanded journal p)

-- all nodes of the part's tree are visited, or what is left of the budget doesn't cover the next
pub record IsClosed (cons : List Constraint) (p : Pages) : Type 0 where
  pub tree : Tree
  pub is_tree : IsTree cons (value_at p.facts.value) p.part.vars tree
  pub ended : (drop (visited_of p) (visits tree) ≡ []) ⊎ (p.budget < length p.part.vars * (visited_of p + 1))

-- the pages of the p-th part
abbrev pub HasPages : Option (List Pages) → ℕ → Pages → Type 0
HasPages None p pages = ⊥
HasPages (Some list) p pages = slice_get list p ≡ Some pages

-- the p-th part is demanded and open
pub record IsOpenAt (cons : List Constraint) (journal : List Entry) (list : Option (List Pages)) (p : ℕ) : Type 0 where
  pub pages : Pages
  pub there : HasPages list p pages
  pub demanded : IsDemanded journal p
  pub open_yet : IsClosed cons pages → ⊥
