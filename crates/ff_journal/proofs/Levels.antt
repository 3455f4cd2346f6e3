-- Replies whose levels are those of the shown facts keep one level for each pair.
use Rattle.std.proofs.Common.{◌≡◌, ℕ, zero, suc, ◌⊎◌, Bool, true, false, cond, ltb, eqb, List, [], ◌∷◌, length, map, sym, refl, ap, ◌∙◌, subst, inl, inr, arith, Option, Some, None, Contains}
use Rattle.std.specs.List.{filter_map, cons_option}
use Rattle.std.proofs.lemmas.Bool.{lt-ltb, le-ltb, cases_order}
use Rattle.ff_tables.specs.declared.orders.Order.{Order}
use Rattle.ff_tables.specs.declared.givens.Given.{Given}
use Rattle.ff_types.specs.declared.cases.Case.{Case}
use Rattle.ff_types.specs.Pairs.{AreSorted, in_order, number_of, pair_at, place_in}
use Rattle.ff_types.proofs.SortedPairs.{number_there}
use Rattle.ff_propagate.specs.declared.facts.Fact.{Fact}
use Rattle.ff_propagate.specs.Facts.{fact_at, value_at, seen}
use Rattle.ff_propagate.specs.FactRule.{MeetsFactRule}
use Rattle.ff_viewer.specs.declared.commands.Command.{Command}
use Rattle.ff_viewer.specs.declared.commands.Command.TheVariants as command
use Rattle.ff_viewer.specs.declared.commands.Question.TheVariants as ask
use Rattle.ff_viewer.specs.declared.replies.Premise.{Premise}
use Rattle.ff_viewer.specs.declared.replies.Reply.{Reply}
use Rattle.ff_viewer.specs.declared.replies.Reply.TheVariants as reply
use Rattle.ff_viewer.specs.declared.replies.Why.{Why}
use Rattle.ff_viewer.specs.declared.replies.Why.TheVariants as why
use Rattle.ff_journal.specs.declared.entries.Entry.{Entry}
use Rattle.ff_journal.specs.declared.entries.Entry.TheVariants as entry
use Rattle.ff_journal.specs.declared.entries.Outcome.TheVariants as outcome
use Rattle.ff_journal.specs.Epochs.{givens_of}
use Rattle.ff_journal.specs.Publications.{on_board, IsLast}
use Rattle.ff_journal.specs.Reasons.{Named, name_of, KeepsLevels}
use Rattle.ff_journal.specs.Replies.{IsReason, IsWhyReply, IsWhyReplyBy}
use Rattle.ff_journal.specs.Journals.{IsSaid, commands_of}
use Rattle.ff_journal.specs.Premises.{premise_by, premise_besides}
use Rattle.ff_journal.specs.Shown.{IsLevelIn, HaveLevels, LevelsFit, ReplyFits, NamesFit, AreShown}
use Rattle.ff_journal.proofs.Snoc.{named_said}
use Rattle.ff_journal.proofs.Explained.{premise_is, chosen, pair_there, variable_within}

same_number : {a b : ℕ} → Some a ≡ Some b → a ≡ b
same_number e = cc

same_fact : {a b : Fact} → Some a ≡ Some b → a ≡ b
same_fact e = cc

-- two names of one pair have one level
one_level : (case : Case) (fs : List (Option Fact)) (a b : Named) → IsLevelIn case fs a → IsLevelIn case fs b → a.pair ≡ b.pair
    → a.level ≡ b.level
one_level case fs a b i j e =
    let v : i.variable ≡ j.variable = same_number (sym i.of_pair ∙ ap (λ (p : ℕ × ℕ). number_of case.pairs p.0 p.1) e ∙ j.of_pair) in
    let f : i.fact ≡ j.fact = same_fact (sym i.there ∙ ap (fact_at fs) v ∙ j.there) in
    sym i.level ∙ ap (λ (x : Fact). x.level) f ∙ j.level

pub keeps_levels : (case : Case) (j : List Entry) (fs : List (Option Fact)) (viewer index : ℕ) (said : Command) (told : Reply)
    → HaveLevels case j fs → NamesFit case (Some fs) (entry.Said viewer index said told)
    → KeepsLevels j (entry.Said viewer index said told)
keeps_levels case j fs viewer index said told have fit a b c n e = one_level case fs a b (fit a c)
    (elim (named_said j viewer index said told b n) [
      | inl k ↦ fit b k
      | inr k ↦ have b k
    ]) e

-- ---- names

contains_cons : {X : Type 0} → (x y : X) (xs : List X) → Contains (x ∷ xs) y → (x ≡ y) ⊎ Contains xs y
contains_cons x y xs (zero, l, e) = inl e
contains_cons x y xs (suc k, l, e) = inr (k, omega (arith, l), e)

contains_map : (ps : List Premise) (m : Named) → Contains (map name_of ps) m → (p : Premise) × Contains ps p × (name_of p ≡ m)
contains_map [] m c = let l = c.1 in absurd (omega (arith, l))
contains_map (p ∷ ps) m c = elim (contains_cons (name_of p) m (map name_of ps) c) [
  | inl e ↦ (p, (0, omega arith, refl), e)
  | inr k ↦ let r = contains_map ps m k in let l = r.1.1 in (r.0, (suc r.1.0, omega (arith, l), r.1.2), r.2)
]

from_option : (h : ℕ → Option Premise) (x : ℕ) (o : Option Premise) (ps : List Premise) (p : Premise) → h x ≡ o
    → Contains (cons_option o ps) p → ((v : ℕ) × (h v ≡ Some p)) ⊎ Contains ps p
from_option h x None ps p e c = inr c
from_option h x (Some q) ps p e c = elim (contains_cons q p ps c) [
  | inl s ↦ inl (x, e ∙ ap Some s)
  | inr k ↦ inr k
]

-- what a filtered list has was given for some item
given_for : (h : ℕ → Option Premise) (xs : List ℕ) (p : Premise) → Contains (filter_map h xs) p → (v : ℕ) × (h v ≡ Some p)
given_for h [] p c = let l = c.1 in absurd (omega (arith, l))
given_for h (x ∷ xs) p c = elim (from_option h x (h x) (filter_map h xs) p refl c) [
  | inl r ↦ r
  | inr k ↦ given_for h xs p k
]

besides_is : (pairs : List (ℕ × ℕ)) (fs : List (Option Fact)) (k n v : ℕ) (p : Premise) → premise_besides pairs fs k n v ≡ Some p
    → premise_by pairs fs k v ≡ Some p
besides_is pairs fs k n v p e = elim (chosen (eqb v n) None (premise_by pairs fs k v) (Some p) e) [
  | inl (t, x) ↦ absurd (nothing x)
  | inr (t, x) ↦ x
]
  where
    nothing : None ≡ Some p → ⊥
    nothing q = cc

-- the premises that facts give have their levels
pub premises_fit : (case : Case) (gs : List Given) (fs : List (Option Fact)) (k n : ℕ) (xs : List ℕ) (ps : List Premise)
    → AreSorted case.pairs → MeetsFactRule case.system.vars case.system.constraints gs fs
    → ps ≡ filter_map (premise_besides case.pairs fs k n) xs → (p : Premise) → Contains ps p → IsLevelIn case fs (name_of p)
premises_fit case gs fs k n xs ps sorted rule are p c =
    let g = given_for (premise_besides case.pairs fs k n) xs p (subst (λ qs. Contains qs p) are c) in
    let f = premise_is (pair_at case.pairs g.0) k (fact_at fs g.0) p (besides_is case.pairs fs k n g.0 p g.1) in
    subst (λ q. IsLevelIn case fs (name_of q)) (sym f.is) (record {
      variable = g.0;
      fact = f.fact;
      of_pair = number_there case.pairs g.0 (pair_at case.pairs g.0) sorted (pair_there case.pairs g.0 (variable_within case gs fs g.0 f.fact rule f.there));
      there = f.there;
      level = refl;
    })

-- ---- the entry

-- the two faces in order are in order
twice : (f g : ℕ) (p : ℕ × ℕ) (b : Bool) → ltb f g ≡ b → p ≡ cond {A = ℕ × ℕ} b (f, g) (g, f) → in_order p.0 p.1 ≡ p
twice f g p true t e = subst (λ (q : ℕ × ℕ). in_order q.0 q.1 ≡ q) (sym e) (ap (λ b. cond {A = ℕ × ℕ} b (f, g) (g, f)) t)
twice f g p false t e = subst (λ (q : ℕ × ℕ). in_order q.0 q.1 ≡ q) (sym e) (elim (cases_order f g) [
  | inl q ↦ ap (λ b. cond {A = ℕ × ℕ} b (g, f) (f, g)) (le-ltb g f (omega (arith, q))) ∙ turned q
  | inr (inl l) ↦ absurd (clash (sym t ∙ lt-ltb f g l))
  | inr (inr l) ↦ ap (λ b. cond {A = ℕ × ℕ} b (g, f) (f, g)) (lt-ltb g f l)
])
  where
    clash : false ≡ true → ⊥
    clash q = cc

    turned : f ≡ g → ◌≡◌ {A = ℕ × ℕ} (f, g) (g, f)
    turned q i = (q i, sym q i)

in_order_twice : (f g : ℕ) → in_order (in_order f g).0 (in_order f g).1 ≡ in_order f g
in_order_twice f g = twice f g (in_order f g) (ltb f g) refl refl

number_in_order : (pairs : List (ℕ × ℕ)) (f g n : ℕ) → number_of pairs f g ≡ Some n → number_of pairs (in_order f g).0 (in_order f g).1 ≡ Some n
number_in_order pairs f g n h = ap (place_in pairs) (in_order_twice f g) ∙ h

because_fits : (case : Case) (fs : List (Option Fact)) (viewer index f g n : ℕ) (w : Why) → number_of case.pairs f g ≡ Some n
    → LevelsFit case fs n w → NamesFit case (Some fs) (entry.Said viewer index (command.Ask (ask.Why f g)) (reply.Because w))
because_fits case fs viewer index f g n (why.Crease e) h fit m c = let l = c.1 in absurd (omega (arith, l))
because_fits case fs viewer index f g n why.Pin h fit m c = let l = c.1 in absurd (omega (arith, l))
because_fits case fs viewer index f g n (why.Forced level cite ps) h fit m c = elim (contains_cons (record { pair = in_order f g; level = level }) m (map name_of ps) c) [
  | inl e ↦ subst (λ x. IsLevelIn case fs x) e (record { variable = n; fact = fit.0.0; of_pair = number_in_order case.pairs f g n h; there = fit.0.1; level = fit.0.2 })
  | inr k ↦ let r = contains_map ps m k in subst (λ x. IsLevelIn case fs x) r.2 (fit.1 r.0 r.1)
]

-- the names of a reply to `why` have levels of the facts
pub why_fits : (case : Case) (gs : List Given) (before : List Entry) (fs : List (Option Fact)) (viewer index f g : ℕ) (o : Option ℕ) (told : Reply)
    → number_of case.pairs f g ≡ o → IsWhyReplyBy case gs before fs o told → ReplyFits case fs o told
    → NamesFit case (Some fs) (entry.Said viewer index (command.Ask (ask.Why f g)) told)
why_fits case gs before fs viewer index f g None told h r fit = subst (λ t. NamesFit case (Some fs) (entry.Said viewer index (command.Ask (ask.Why f g)) t)) (sym r)
    (λ m c. let l = c.1 in absurd (omega (arith, l)))
why_fits case gs before fs viewer index f g (Some n) told h r fit = by_value (value_at fs n) r
  where
    by_value : (s : Option Order) → IsReason case gs before (map seen fs) n s told → NamesFit case (Some fs) (entry.Said viewer index (command.Ask (ask.Why f g)) told)
    by_value None q = subst (λ t. NamesFit case (Some fs) (entry.Said viewer index (command.Ask (ask.Why f g)) t)) (sym q)
        (λ m c. let l = c.1 in absurd (omega (arith, l)))
    by_value (Some s) q = subst (λ t. NamesFit case (Some fs) (entry.Said viewer index (command.Ask (ask.Why f g)) t)) (sym q.1)
        (because_fits case fs viewer index f g n q.0 h (subst (λ t. ReplyFits case fs (Some n) t) q.1 fit))

pub board_value : (fs : List (Option Fact)) (n : ℕ) → on_board (map seen fs) n ≡ value_at fs n
board_value [] n = refl
board_value (h ∷ fs) zero = refl
board_value (h ∷ fs) (suc n) = board_value fs n

on_the_board : (case : Case) (gs : List Given) (before : List Entry) (fs : List (Option Fact)) (o : Option ℕ) (told : Reply)
    → IsWhyReplyBy case gs before fs o told → IsWhyReply case gs before (outcome.Board (map seen fs)) o told
on_the_board case gs before fs None told r = r
on_the_board case gs before fs (Some n) told r = subst (λ s. IsReason case gs before (map seen fs) n s told) (sym (board_value fs n)) r

-- A reply to `why` by the shown facts of a board is right.
pub why_said : (case : Case) (budget : ℕ) (j : List Entry) (fs : List (Option Fact)) (e : ℕ) (board : List (Option Order))
    (viewer f g : ℕ) (told : Reply) → IsLast j e (outcome.Board board) → AreShown case j e (outcome.Board board) fs
    → IsWhyReplyBy case (givens_of case j e) j fs (number_of case.pairs f g) told → ReplyFits case fs (number_of case.pairs f g) told
    → IsSaid case budget j viewer (length (commands_of viewer j)) (command.Ask (ask.Why f g)) told
why_said case budget j fs e board viewer f g told last shown r fit = record {
  counted = refl;
  epoch = e;
  last = outcome.Board board;
  published = last;
  replied = subst (λ b. IsWhyReply case (givens_of case j e) j (outcome.Board b) (number_of case.pairs f g) told) (sym shown.board)
      (on_the_board case (givens_of case j e) j fs (number_of case.pairs f g) told r);
  levels = keeps_levels case j fs viewer (length (commands_of viewer j)) (command.Ask (ask.Why f g)) told shown.levels
      (why_fits case (givens_of case j e) j fs viewer (length (commands_of viewer j)) f g (number_of case.pairs f g) told refl r fit);
}
