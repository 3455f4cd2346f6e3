-- The last publication of a legal journal.
use Rattle.std.proofs.Common.{◌≡◌, ℕ, suc, ◌+◌, ◌-◌, ◌<◌, ◌≤◌, Bool, true, false, List, [], ◌∷◌, ◌++◌, length, map, take, drop, get_or, slice_get, sym, refl, ap, ◌∙◌, subst, arith, Option, Some, None}
use Rattle.std.specs.List.{filter_map}
use Rattle.std.proofs.lemmas.List.{take-append-le, append-nil, take-append-drop}
use Rattle.std.proofs.lemmas.List.Elements.{filter-append, filter_map-append}
use Rattle.ff_tables.specs.declared.orders.Order.{Order}
use Rattle.ff_types.specs.declared.cases.Case.{Case}
use Rattle.ff_propagate.specs.declared.facts.Fact.{Fact}
use Rattle.ff_propagate.specs.Facts.{value_at, seen}
use Rattle.ff_propagate.specs.Closure.{IsClosure, Clashes, Gives}
use Rattle.ff_propagate.specs.Boards.{IsBoardOf}
use Rattle.ff_log.specs.Grounds.{IsAcceptedIn}
use Rattle.ff_journal.specs.declared.entries.Entry.{Entry}
use Rattle.ff_journal.specs.declared.entries.Entry.TheVariants as entry
use Rattle.ff_journal.specs.declared.entries.Outcome.{Outcome}
use Rattle.ff_journal.specs.declared.entries.Outcome.TheVariants as outcome
use Rattle.ff_journal.specs.Epochs.{is_change, changes, last_begun, last_of, pins_after, given_of_pin, givens_of}
use Rattle.ff_journal.specs.Publications.{outcome_in, outcomes, published, on_board, IsLast, IsOutcome}
use Rattle.ff_journal.specs.Journals.{IsLegal}
use Rattle.ff_journal.specs.Shown.{AreShown}
use Rattle.ff_journal.specs.Answering.{is_board, shown_after, shows_board}
use Rattle.ff_journal.proofs.Snoc.{last_more}
use Rattle.ff_journal.proofs.NextEntry.{at_more}
use Rattle.ff_journal.proofs.Levels.{board_value}

some_outcome : {a b : Outcome} → Some a ≡ Some b → a ≡ b
some_outcome e = cc

-- where the last outcome was published
record IsAt (j : List Entry) (last : Outcome) : Type 0 where
  place : ℕ
  epoch : ℕ
  there : slice_get j place ≡ Some (entry.Published epoch last)
  before : published (take place j) + 1 ≡ published j

last_at : (j : List Entry) (last : Outcome) → last_of (outcomes j) ≡ Some last → IsAt j last
last_at [] last h = absurd (nothing h)
  where
    nothing : None ≡ Some last → ⊥
    nothing e = cc
last_at (entry.Said v i said told ∷ j) last h =
    let r = last_at j last h in
    record { place = suc r.place; epoch = r.epoch; there = r.there; before = r.before }
last_at (entry.Published e o ∷ j) last h = by (outcomes j) refl (last_at j last) h
  where
    by : (os : List Outcome) → outcomes j ≡ os → (last_of (outcomes j) ≡ Some last → IsAt j last) → last_of (o ∷ os) ≡ Some last
        → IsAt (entry.Published e o ∷ j) last
    by [] is later g = record {
      place = 0;
      epoch = e;
      there = ap (λ x. Some (entry.Published e x)) (some_outcome g);
      before = ap (λ (os : List Outcome). length (o ∷ os)) (sym is);
    }
    by (p ∷ os) is later g =
        let r = later (ap (λ xs. last_of xs) is ∙ g) in
        let b = r.before in
        record { place = suc r.place; epoch = r.epoch; there = r.there; before = omega (arith, b) }

abbrev OutcomeBy : Case → List Entry → Outcome → Type 0
OutcomeBy case made (outcome.Board board) = (length board ≡ case.system.vars)
    × IsClosure case.system.constraints (Gives (case.starts ++ filter_map (given_of_pin case.pairs) (pins_after case.pairs made))) (on_board board)
OutcomeBy case made (outcome.Impossible pins log) = Clashes case.system.constraints (Gives (case.starts ++ filter_map (given_of_pin case.pairs) (pins_after case.pairs made)))
    × (pins ≡ pins_after case.pairs made) × IsAcceptedIn case (pins_after case.pairs made) log.lines

-- an outcome stays right as the journal goes on
outcome_by : (case : Case) (made more : List Entry) (o : Outcome) → made ≡ more
    → OutcomeBy case made o → OutcomeBy case more o
outcome_by case made more o e h = subst (λ m. OutcomeBy case m o) e h

outcome_kept : (case : Case) (j : List Entry) (i e : ℕ) (o : Outcome) → e ≤ last_begun (take i j) → IsOutcome case (take i j) e o
    → IsOutcome case j e o
outcome_kept case j i e o l h = from o h
  where
    same : take e (changes (take i j)) ≡ take e (changes j)
    same = sym (take-append-le e (changes (take i j)) (changes (drop i j)) l)
        ∙ ap (take e) (sym (filter-append is_change (take i j) (drop i j)) ∙ ap changes (take-append-drop i j))

    from : (o : Outcome) → IsOutcome case (take i j) e o → IsOutcome case j e o
    from (outcome.Board board) h = outcome_by case (take e (changes (take i j))) (take e (changes j)) (outcome.Board board) same h
    from (outcome.Impossible pins log) h = outcome_by case (take e (changes (take i j))) (take e (changes j)) (outcome.Impossible pins log) same h

-- The last outcome of a legal journal is right.
pub last_right : (case : Case) (budget : ℕ) (j : List Entry) (e : ℕ) (last : Outcome) → IsLegal case budget j → IsLast j e last
    → IsOutcome case j e last
last_right case budget j e last legal l =
    let r = last_at j last l.is in
    let p = legal.each r.place (entry.Published r.epoch last) r.there in
    let c = l.counted in
    let b = r.before in
    let n = p.next in
    let same : r.epoch ≡ e = omega (arith, c, b, n) in
    subst (λ k. IsOutcome case j k last) same (outcome_kept case j r.place r.epoch last p.begun p.right)

-- the values of a board that facts have
pub value_is : (fs : List (Option Fact)) (board : List (Option Order)) → board ≡ map seen fs → on_board board ≡ value_at fs
value_is fs board e = ap on_board e ∙ (λ i n. board_value fs n i)

-- The shown facts of a board are a board.
pub shown_board : (case : Case) (budget : ℕ) (j : List Entry) (e : ℕ) (board : List (Option Order)) (fs : List (Option Fact))
    → IsLegal case budget j → IsLast j e (outcome.Board board) → AreShown case j e (outcome.Board board) fs
    → IsBoardOf case.system.vars case.system.constraints fs
shown_board case budget j e board fs legal l shown = (
  givens_of case j e,
  (
    shown.rule,
    subst (IsClosure case.system.constraints (Gives (givens_of case j e))) (value_is fs board shown.board)
        (last_right case budget j e (outcome.Board board) legal l).1,
  ),
)

-- ---- whether there is a board

last_some : (os : List Outcome) → 0 < length os → (o : Outcome) × (last_of os ≡ Some o)
last_some [] l = absurd (omega (arith, l))
last_some (o ∷ []) l = (o, refl)
last_some (o ∷ p ∷ os) l = last_some (p ∷ os) (omega arith)

pub is_last : (j : List Entry) → 0 < published j → (e : ℕ) × (last : Outcome) × IsLast j e last
is_last j l = let r = last_some (outcomes j) l in (published j - 1, r.0, record { counted = omega (arith, l); is = r.1 })

pub board_last : (j : List Entry) → 0 < published j → shows_board (last_of (outcomes j)) ≡ true
    → (e : ℕ) × (board : List (Option Order)) × IsLast j e (outcome.Board board)
board_last j l h = let r = is_last j l in by r.0 r.1 r.2
  where
    by : (e : ℕ) (o : Outcome) → IsLast j e o → (k : ℕ) × (board : List (Option Order)) × IsLast j k (outcome.Board board)
    by e (outcome.Board board) q = (e, board, q)
    by e (outcome.Impossible pins log) q = absurd (no (sym (ap shows_board q.is) ∙ h))
      where
        no : false ≡ true → ⊥
        no x = cc

pub no_board_last : (j : List Entry) → 0 < published j → shows_board (last_of (outcomes j)) ≡ false
    → (e : ℕ) × (last : Outcome) × (is_board last ≡ false) × IsLast j e last
no_board_last j l h = let r = is_last j l in (r.0, r.1, sym (ap shows_board r.2.is) ∙ h, r.2)

shown_more : (j : List Entry) (x : Entry) (b : Bool) → b ≡ shows_board (last_of (outcomes j))
    → shown_after x b ≡ shows_board (last_of (outcomes (j ++ x ∷ [])))
shown_more j (entry.Said v i said told) b h = h ∙ ap (λ xs. shows_board (last_of xs)) (sym (filter_map-append outcome_in j (entry.Said v i said told ∷ []) ∙ append-nil (outcomes j)))
shown_more j (entry.Published e o) b h = ap shows_board (sym (last_more (outcomes j) o))
    ∙ ap (λ xs. shows_board (last_of xs)) (sym (filter_map-append outcome_in j (entry.Published e o ∷ [])))

pub shown_next : (xs : List Entry) (i : ℕ) (x : Entry) (b : Bool) → i < length xs → x ≡ get_or xs i x
    → b ≡ shows_board (last_of (outcomes (take i xs))) → shown_after x b ≡ shows_board (last_of (outcomes (take (i + 1) xs)))
shown_next xs i x b l e h = shown_more (take i xs) x b h ∙ ap (λ t. shows_board (last_of (outcomes t))) (sym (at_more xs i x l e))
