-- The rule of a board, and what a look tells. This project's own.
use Rattle.std.specs.Prelude.{zero, suc, if◌then◌else◌, ◌≡◌, ℕ, ◌+◌, ◌<◌, ◌≤◌, ◌==◌, Bool, true, List, [], ◌∷◌, length, replicate, slice_index, slice_set, slice_get, Option, Some, None, eqb}
use mathlib.Core.Option.{some}
use lib.ListN.{get_elem?}
use prog.Atomic.{either}
use Rattle.atomic_table.specs.Table.{State, Me, Step}
use Rattle.ff_tables.specs.declared.terms.Constraint.{Constraint}
use Rattle.ff_tables.specs.Orders.{term_at}
use Rattle.ff_propagate.specs.declared.facts.Fact.{Fact}
use Rattle.ff_propagate.specs.declared.facts.Reason.TheVariants as by
use Rattle.ff_propagate.specs.declared.words.Held.{Held}
use Rattle.ff_propagate.specs.Facts.{fact_at}
use Rattle.ff_propagate.specs.Words.{held, held_of}
use Rattle.ff_board.specs.Standing.{top_level, set_count}
use Rattle.ff_board.specs.declared.opening.Opening.{Opening}
use Rattle.ff_board.specs.declared.seats.View.{View}
use Rattle.ff_board.specs.Facts.{vars_in, cons_in, AllIn, Reaches, FactOk, Grows, Sound, is_marked}

-- how many words are set
abbrev pub words_set : List ℕ → ℕ
words_set [] = 0
words_set (w ∷ ws) = (if w == 0 then 0 else 1) + words_set ws

-- how many of the first k words are set
abbrev pub set_below : ℕ → List ℕ → ℕ
set_below zero ws = 0
set_below (suc k) [] = 0
set_below (suc k) (w ∷ ws) = (if w == 0 then 0 else 1) + set_below k ws

-- each opening fact stands, with some marks
abbrev pub Opens : Opening → List ℕ → Type 0
Opens o ws = (v : ℕ) (f : Fact) → fact_at o.facts v ≡ Some f
    → (m : ℕ) × (held ws v ≡ Some (record { fact = f; marks = m }))

-- what the words meet: one for each variable and one that stays 0; each fact stands by its reason and is in the
-- closure; the opening facts stand; a level is at most the greatest opening level and the number of words set since
pub record Stand (o : Opening) (ws : List ℕ) : Type 0 where
  pub wide : length ws ≡ vars_in o + 1
  pub facts : (v : ℕ) (h : Held) → held ws v ≡ Some h → (v < vars_in o) × FactOk o ws v h
  pub closure : AllIn o ws
  pub opened : Opens o ws
  pub more : set_count o.facts ≤ words_set ws
  pub low : (v : ℕ) (h : Held) → held ws v ≡ Some h
      → h.fact.level + set_count o.facts ≤ top_level o.facts + words_set ws

-- a view is of this board, and holds only facts of the words
abbrev pub Sees : Opening → List ℕ → View → Type 0
Sees o ws d = (d.opening ≡ o) × (length d.seen ≡ vars_in o + 1) × Grows d.seen ws

-- The rule of a board, at each moment: what the words meet, and what each view does.
pub record Kept (o : Opening) (s : State ℕ View) : Type 0 where
  pub stand : Stand o s.words
  pub seats : (j : ℕ) (d : View) → get_elem? s.views j ≡ some d → Sees o s.words d

-- the view of the first seat, without a look
abbrev pub starting : Opening → View
starting o = record { opening = o; seen = replicate (vars_in o + 1) 0; looks = 0; last = None }

-- the view after a look at the variable v that found the word n, where the word n' stood then
abbrev pub looked : View → ℕ → ℕ → ℕ → View
looked d v n n' =
    record { opening = d.opening; seen = slice_set d.seen v n'; looks = d.looks + 1; last = Some (v, n) }

-- for each fact that was seen and marks the variable v, the word n has a fact of a lower level
abbrev pub Backed : View → ℕ → ℕ → Type 0
Backed d v n = (u : ℕ) (h : Held) → held d.seen u ≡ Some h → (c : ℕ) → h.fact.reason ≡ by.Forced c
    → (con : Constraint) → slice_get (cons_in d.opening) c ≡ Some con
    → (j : ℕ) → j < length con.terms → is_marked h.marks j ≡ true → (term_at con.terms j).var ≡ v
    → (g : Held) × (held_of n ≡ Some g) × (g.fact.level < h.fact.level)

-- where an opening fact was seen, it is that fact
abbrev pub AgreeAt : Opening → List ℕ → Type 0
AgreeAt o ws = (v : ℕ) (h : Held) (f : Fact) → held ws v ≡ Some h → fact_at o.facts v ≡ Some f → h.fact ≡ f

-- what was seen: facts of the board's variables, in the closure of its givens, the opening facts among them, of
-- levels that are at most the number of variables above the greatest opening level
pub record IsLearned (d : View) : Type 0 where
  pub inside : (v : ℕ) (h : Held) → held d.seen v ≡ Some h → v < vars_in d.opening
  pub closure : AllIn d.opening d.seen
  pub agrees : AgreeAt d.opening d.seen
  pub low : (v : ℕ) (h : Held) → held d.seen v ≡ Some h
      → h.fact.level ≤ top_level d.opening.facts + vars_in d.opening

-- What a look at the variable v tells, which found the word n, where n' stood then: the view has this look;
-- nothing that was seen is lost; the word's fact was seen; an opening fact was found; each fact stands by its reason
-- where all its marked terms were seen, and where it marks v, a fact of a lower level was found there.
pub record Looked (d : View) (v n n' : ℕ) (d' : View) : Type 0 where
  pub is : d' ≡ looked d v n n'
  pub wide : v < length d.seen
  pub kept : Grows d.seen d'.seen
  pub here : held d'.seen v ≡ held_of n'
  pub opened : (f : Fact) → fact_at d.opening.facts v ≡ Some f
      → (m : ℕ) × (held_of n ≡ Some (record { fact = f; marks = m }))
  pub sound : Sound d.opening d'.seen
  pub backed : Backed d v n
  pub learned : IsLearned d'

-- the word that stands after a look that puts x where it finds 0, and found n
abbrev pub word_after : ℕ → ℕ → ℕ
word_after x n = either (eqb n 0) x n

-- what a step tells
abbrev pub told : Step ℕ → Me ℕ View → ℕ → Me ℕ View → Type 0
told st m n m' = (m'.1 ≡ m.1) × Looked m.0 st.word n (either (n == st.first) st.second n) m'.0

-- the word x has a fact of the variable v that may be set by who has seen ws
abbrev pub Offered : Opening → List ℕ → ℕ → ℕ → Type 0
Offered o ws v x = (h : Held) × (held_of x ≡ Some h) × FactOk o ws v h × Reaches ws h.fact.level

-- the word x may be put at the variable v, where no fact of v was seen
abbrev pub MayPut : View → ℕ → ℕ → Type 0
MayPut d v x = ((h : Held) → held d.seen v ≡ Some h → ⊥) → Offered d.opening d.seen v x
