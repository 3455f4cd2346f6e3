-- Why a pair has its value: a crease, a pin, or a constraint from facts of lower levels. This project's own.
use Rattle.std.specs.Prelude.{◌≡◌, ℕ, ◌<◌, ◌≤◌, ◌==◌, ◌↔◌, not, List, [], ◌∷◌, ◌++◌, drop, map, slice_get, Option, Some, None, Contains}
use Rattle.std.specs.List.{filter, filter_map}
use Rattle.ff_tables.specs.declared.orders.Order.{Order}
use Rattle.ff_tables.specs.declared.terms.Term.{Term}
use Rattle.ff_tables.specs.declared.terms.Constraint.{Constraint}
use Rattle.ff_tables.specs.declared.givens.Given.{Given}
use Rattle.ff_tables.specs.declared.givens.GivenBy.TheVariants as by
use Rattle.ff_tables.specs.Forces.{Forces}
use Rattle.ff_types.specs.declared.cites.Cite.{Cite}
use Rattle.ff_types.specs.declared.cases.Case.{Case}
use Rattle.ff_types.specs.Pairs.{in_order}
use Rattle.ff_viewer.specs.declared.commands.Command.TheVariants as command
use Rattle.ff_viewer.specs.declared.commands.Question.TheVariants as ask
use Rattle.ff_viewer.specs.declared.replies.Premise.{Premise}
use Rattle.ff_viewer.specs.declared.replies.Reply.TheVariants as reply
use Rattle.ff_viewer.specs.declared.replies.Why.{Why}
use Rattle.ff_viewer.specs.declared.replies.Why.TheVariants as why
use Rattle.ff_journal.specs.declared.entries.Entry.{Entry}
use Rattle.ff_journal.specs.declared.entries.Entry.TheVariants as entry
use Rattle.ff_journal.specs.Publications.{outcomes, on_board}

-- ---- what is given

-- the crease e gives the variable
pub record IsCreaseOn (starts : List Given) (n e : ℕ) : Type 0 where
  pub place : ℕ
  pub start : Given
  pub there : slice_get starts place ≡ Some start
  pub of_variable : start.var ≡ n
  pub by_crease : start.by ≡ by.Crease e

-- the least such crease
pub record IsLeastCrease (starts : List Given) (n e : ℕ) : Type 0 where
  pub crease : IsCreaseOn starts n e
  pub least : (d : ℕ) → IsCreaseOn starts n d → e ≤ d

-- no crease gives the variable
abbrev pub HasNoCrease : List Given → ℕ → Type 0
HasNoCrease starts n = (e : ℕ) → IsCreaseOn starts n e → ⊥

-- one of the givens is of the variable
pub record IsGivenIn (gs : List Given) (n : ℕ) : Type 0 where
  pub place : ℕ
  pub given : Given
  pub there : slice_get gs place ≡ Some given
  pub of_variable : given.var ≡ n

-- ---- named levels

-- a pair with the level that a reply names
pub record Named : Type 0 where
  pub pair : ℕ × ℕ
  pub level : ℕ

-- what a premise names
abbrev pub name_of : Premise → Named
name_of p = record { pair = (p.f, p.g); level = p.level }

-- the pairs and levels that an entry names: of a reply with a level, the asked pair and the premises
abbrev pub names_in : Entry → List Named
names_in (entry.Said viewer index (command.Ask (ask.Why f g)) (reply.Because (why.Forced level cite premises))) = record { pair = in_order f g; level = level } ∷ map name_of premises
names_in _ = []

-- an entry that comes after the last publication names the pair with its level
pub record IsNamedSince (journal : List Entry) (m : Named) : Type 0 where
  pub place : ℕ
  pub entry : Entry
  pub there : slice_get journal place ≡ Some entry
  pub since : outcomes (drop place journal) ≡ []
  pub names : Contains (names_in entry) m

-- ---- what is forced

-- Of a published board and the givens of its epoch: a premise of the variable n, for a fact of this level. It has f < g
-- and the value that the board has, and its level is lower, and 0 exactly where the variable is given.
pub record IsPremise (case : Case) (gs : List Given) (board : List (Option Order)) (level n : ℕ) (p : Premise) : Type 0
  where
    pub of_pair : slice_get case.pairs n ≡ Some (p.f, p.g)
    pub on_the_board : on_board board n ≡ Some p.value
    pub lower : p.level < level
    pub zero : (p.level ≡ 0) ↔ IsGivenIn gs n

-- the premises say that the variable v has the value s
pub record AreSaying (case : Case) (premises : List Premise) (v : ℕ) (s : Order) : Type 0 where
  pub premise : Premise
  pub among : Contains premises premise
  pub of_pair : slice_get case.pairs v ≡ Some (premise.f, premise.g)
  pub value : premise.value ≡ s

-- the variables of the other terms
abbrev pub others : ℕ → List Term → List ℕ
others n terms = filter (λ v. not (v == n)) (map (λ t. t.var) terms)

-- The variable isn't given, and no reply since the last publication names its pair with a level below this one.
pub record IsLeftOut (case : Case) (gs : List Given) (before : List Entry) (level v : ℕ) : Type 0 where
  pub not_given : IsGivenIn gs v → ⊥
  pub not_lower : (m : Named) → IsNamedSince before m → slice_get case.pairs v ≡ Some m.pair → level ≤ m.level

-- A constraint forces the value s of the variable n from the premises. The cite is the case's cite of it. The premises
-- are, in term order, those of its other terms that have a level below this one, and every row of it that agrees with them
-- has the value s.
pub record IsForcedFrom (case : Case) (gs : List Given) (before : List Entry) (board : List (Option Order)) (n : ℕ) (s : Order)
    (level : ℕ) (cite : Cite) (premises : List Premise) : Type 0 where
  pub positive : 0 < level
  pub number : ℕ
  pub constraint : Constraint
  pub there : slice_get case.system.constraints number ≡ Some constraint
  pub cited : slice_get case.cites number ≡ Some cite
  pub chosen : ℕ → Option Premise
  pub listed : premises ≡ filter_map chosen (others n constraint.terms)
  pub each : (v : ℕ) (p : Premise) → chosen v ≡ Some p → IsPremise case gs board level v p
  pub left_out : (v : ℕ) → Contains (others n constraint.terms) v → chosen v ≡ None → IsLeftOut case gs before level v
  pub forces : Forces constraint.kind constraint.terms (AreSaying case premises) n s

-- Why the variable n has the value s: its least crease; where it has none, its pin; else by a constraint.
abbrev pub IsWhy : Case → List Given → List Entry → List (Option Order) → ℕ → Order → Why → Type 0
IsWhy case gs before board n s (why.Crease e) = IsLeastCrease case.starts n e
IsWhy case gs before board n s why.Pin = HasNoCrease case.starts n × IsGivenIn gs n
IsWhy case gs before board n s (why.Forced level cite premises) = (IsGivenIn gs n → ⊥)
    × IsForcedFrom case gs before board n s level cite premises

-- From the last publication on, through this entry, a pair has one level.
abbrev pub KeepsLevels : List Entry → Entry → Type 0
KeepsLevels before e = (a b : Named) → Contains (names_in e) a → IsNamedSince (before ++ e ∷ []) b → a.pair ≡ b.pair
    → a.level ≡ b.level
