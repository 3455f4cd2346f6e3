-- A core stands after an entry of a viewer.
use Rattle.std.proofs.Common.{◌≡◌, ℕ, suc, ◌+◌, ◌-◌, ◌<◌, ◌≤◌, ◌⊎◌, Bool, true, false, cond, List, [], ◌∷◌, ◌++◌, length, take, sym, refl, ap, ◌∙◌, subst, inl, inr, arith, Option, Some, None}
use Rattle.std.proofs.lemmas.List.{length-append}
use Rattle.std.proofs.Math.Seq.{take-append_seam}
use Rattle.ff_tables.specs.declared.givens.Given.{Given}
use Rattle.ff_types.specs.declared.cases.Case.{Case}
use Rattle.ff_propagate.specs.declared.facts.Fact.{Fact}
use Rattle.ff_propagate.specs.FactRule.{StandsBy, MeetsFactRule}
use Rattle.ff_tables.specs.declared.terms.Constraint.{Constraint}
use Rattle.ff_viewer.specs.declared.commands.Command.{Command}
use Rattle.ff_viewer.specs.declared.replies.Reply.{Reply}
use Rattle.ff_journal.specs.declared.entries.Entry.{Entry}
use Rattle.ff_journal.specs.declared.entries.Entry.TheVariants as entry
use Rattle.ff_journal.specs.declared.entries.Outcome.TheVariants as outcome
use Rattle.ff_journal.specs.Epochs.{is_change, changes, last_begun, givens_of}
use Rattle.ff_journal.specs.Publications.{published}
use Rattle.ff_journal.specs.Journals.{IsSaid}
use Rattle.ff_told.specs.Paged.{AreAllPages}
use Rattle.ff_core.specs.States.{State, WorksOn, ShowsLast, KeepsPages, StandsFor, AreOpening, IsFirstGiven}
use Rattle.ff_core.specs.Steps.{WorkNext, WorksOnAfter, ReopensFrom, IsReopened}
use Rattle.ff_pages.specs.declared.pages.Pages.{Pages}
use Rattle.ff_journal.specs.Shown.{AreFactsOf, NamesFit}
use Rattle.ff_journal.proofs.Snoc.{legal_more, givens_kept, begun_grows, outcomes_said, last_said, named_said}

-- no more epochs are published than have begun
pub published_begun : (case : Case) (j : List Entry) (w : Option (List (Option Fact))) → WorksOn case j w
    → published j ≤ last_begun j + 1
published_begun case j None h = omega (arith, h)
published_begun case j (Some fs) h = let l = h.0 in omega (arith, l)

facts_kept : (case : Case) (j : List Entry) (e : Entry) (n : ℕ) (fs : List (Option Fact)) → n ≤ last_begun j
    → AreFactsOf case j n fs → AreFactsOf case (j ++ e ∷ []) n fs
facts_kept case j e n fs l rule = subst (λ gs. MeetsFactRule case.system.vars case.system.constraints gs fs)
    (sym (givens_kept case j e n l)) rule

shown_kept : (case : Case) (j : List Entry) (viewer index : ℕ) (said : Command) (told : Reply) (o : Option (List (Option Fact)))
    → published j ≤ last_begun j + 1 → NamesFit case o (entry.Said viewer index said told) → ShowsLast case j o
    → ShowsLast case (j ++ entry.Said viewer index said told ∷ []) o
shown_kept case j viewer index said told None few fit h = ap (λ os. length os) (outcomes_said j viewer index said told) ∙ h
shown_kept case j viewer index said told (Some fs) few fit (e, last, l, a) = (
  e,
  last,
  last_said j viewer index said told e last l,
  record {
    rule = let c = l.counted in facts_kept case j (entry.Said viewer index said told) e fs (omega (arith, c, few)) a.rule;
    board = a.board;
    levels = λ m n. elim (named_said j viewer index said told m n) [
      | inl k ↦ fit m k
      | inr k ↦ a.levels m k
    ];
  },
)

-- kept pages are of the last published board still
pages_kept : (case : Case) (budget : ℕ) (j : List Entry) (viewer index : ℕ) (said : Command) (told : Reply)
    (shown : Option (List (Option Fact))) (pages : Option (List Pages)) → published j ≤ last_begun j + 1
    → KeepsPages case budget j shown pages → KeepsPages case budget (j ++ entry.Said viewer index said told ∷ []) shown pages
pages_kept case budget j viewer index said told shown None few k = tt
pages_kept case budget j viewer index said told None (Some ps) few k = k
pages_kept case budget j viewer index said told (Some fs) (Some ps) few (e, board, l, all) =
    let c = l.counted in (
      e,
      board,
      last_said j viewer index said told e (outcome.Board board) l,
      subst (λ gs. AreAllPages case budget gs fs ps) (sym (givens_kept case j (entry.Said viewer index said told) e (omega (arith, c, few)))) all,
    )

published_said : (j : List Entry) (viewer index : ℕ) (said : Command) (told : Reply)
    → published (j ++ entry.Said viewer index said told ∷ []) ≡ published j
published_said j viewer index said told = ap (λ os. length os) (outcomes_said j viewer index said told)

-- where an epoch is unpublished the facts worked on stay right
pub work_kept : (case : Case) (j : List Entry) (viewer index : ℕ) (said : Command) (told : Reply) (fs : List (Option Fact))
    → WorksOn case j (Some fs) → WorksOn case (j ++ entry.Said viewer index said told ∷ []) (Some fs)
work_kept case j viewer index said told fs (l, rule) =
    let s : Entry = entry.Said viewer index said told in
    let p : published (j ++ s ∷ []) ≡ published j = published_said j viewer index said told in
    let g : last_begun j ≤ last_begun (j ++ s ∷ []) = begun_grows j s in
    (omega (arith, p, g, l), subst (λ n. AreFactsOf case (j ++ s ∷ []) n fs) (sym p) (facts_kept case j s (published j) fs l rule))

-- the facts of givens are by the rule
pub opening_rule : (vars : ℕ) (cons : List Constraint) (gs : List Given) (fs : List (Option Fact)) → AreOpening vars gs fs
    → MeetsFactRule vars cons gs fs
opening_rule vars cons gs fs o = record {
  wide = o.wide;
  stands = λ v h at. stands v h (o.given v h at);
  given = λ i g is. let a = o.all i g is in let f = o.given g.var a.0 a.1 in record {
    fact = a.0;
    number = f.place;
    there = a.1;
    by_given = ap (λ (x : Fact). x.reason) f.is;
  };
}
  where
    stands : (v : ℕ) (h : Fact) → IsFirstGiven gs v h → StandsBy cons gs fs v h.value h.level h.reason
    stands v h f = subst (λ (x : Fact). StandsBy cons gs fs v x.value x.level x.reason) (sym f.is)
        (refl, record { given = f.given; there = f.there; variable = f.of_variable; value = refl })

-- ---- epochs that are opened

-- what is opened is worked on
pub next_works : (case : Case) (j : List Entry) (n : ℕ) (w : Option (List (Option Fact))) → WorkNext case j n w → n ≡ published j
    → published j ≤ last_begun j + 1 → WorksOn case j w
next_works case j n None h is few = omega (arith, h, is, few)
next_works case j n (Some fs) (l, o) is few =
    (omega (arith, l, is), subst (λ m. AreFactsOf case j m fs) is (opening_rule case.system.vars case.system.constraints (givens_of case j n) fs o))

works_after : (case : Case) (j : List Entry) (viewer index : ℕ) (said : Command) (told : Reply) (o w : Option (List (Option Fact)))
    → WorksOn case j o → ReopensFrom case (j ++ entry.Said viewer index said told ∷ []) o w
    → WorksOn case (j ++ entry.Said viewer index said told ∷ []) w
works_after case j viewer index said told (Some fs) w works r =
    subst (λ x. WorksOn case (j ++ entry.Said viewer index said told ∷ []) x) (sym r) (work_kept case j viewer index said told fs works)
works_after case j viewer index said told None w works r =
    let s : Entry = entry.Said viewer index said told in
    let p : published (j ++ s ∷ []) ≡ published j = published_said j viewer index said told in
    let g : last_begun j ≤ last_begun (j ++ s ∷ []) = begun_grows j s in
    next_works case (j ++ s ∷ []) (published (j ++ s ∷ [])) w r refl (omega (arith, p, g, works))

works_on_after : (case : Case) (j : List Entry) (viewer index : ℕ) (said : Command) (told : Reply) (o w : Option (List (Option Fact)))
    → WorksOn case j o → ReopensFrom case (j ++ entry.Said viewer index said told ∷ []) o w
    → ((published j ≤ last_begun j) × (w ≡ o))
    ⊎ ((published j ≡ last_begun j + 1) × WorkNext case (j ++ entry.Said viewer index said told ∷ []) (published j) w)
works_on_after case j viewer index said told (Some fs) w works r = inl (works.0, r)
works_on_after case j viewer index said told None w works r =
    inr (works, subst (λ n. WorkNext case (j ++ entry.Said viewer index said told ∷ []) n w) (published_said j viewer index said told) r)

-- the state after an entry
abbrev pub said_in : State → ℕ → ℕ → Command → Reply → State
said_in old viewer index said told = record old { journal = old.journal ++ entry.Said viewer index said told ∷ [] }

-- A core stands after an entry of a viewer that is right, whose levels are those of the shown facts, once an epoch that it begins
-- is opened where none is worked on.
pub entered_stands : (case : Case) (old new : State) (viewer index : ℕ) (said : Command) (told : Reply) → StandsFor case old
    → IsSaid case old.budget old.journal viewer index said told
    → NamesFit case old.shown (entry.Said viewer index said told)
    → IsReopened case (said_in old viewer index said told) new → StandsFor case new
entered_stands case old new viewer index said told stands is fit (same, r) = subst (λ x. StandsFor case x) (sym same) (record {
  turns = stands.turns;
  legal = legal_more case old.budget old.journal (entry.Said viewer index said told) stands.legal is;
  works = works_after case old.journal viewer index said told old.working new.working stands.works r;
  shows = shown_kept case old.journal viewer index said told old.shown few fit stands.shows;
  keeps = pages_kept case old.budget old.journal viewer index said told old.shown old.pages few stands.keeps;
})
  where
    few : published old.journal ≤ last_begun old.journal + 1
    few = published_begun case old.journal old.working stands.works

-- what it changes
pub entered_says : (case : Case) (old new : State) (viewer index : ℕ) (said : Command) (told : Reply) → StandsFor case old
    → IsReopened case (said_in old viewer index said told) new
    → (new.journal ≡ old.journal ++ entry.Said viewer index said told ∷ []) × (new.budget ≡ old.budget) × (new.shown ≡ old.shown)
    × WorksOnAfter case old new
entered_says case old new viewer index said told stands (same, r) = (
  ap (λ (x : State). x.journal) same,
  ap (λ (x : State). x.budget) same,
  ap (λ (x : State). x.shown) same,
  elim (works_on_after case old.journal viewer index said told old.working new.working stands.works r) [
    | inl h ↦ inl h
    | inr h ↦ inr (h.0, subst (λ j. WorkNext case j (published old.journal) new.working) (sym (ap (λ (x : State). x.journal) same)) h.1)
  ],
)

-- ---- room for givens

-- there are at most as many changes as entries that aren't publications
changes_few : (j : List Entry) → last_begun j + published j ≤ length j
changes_few [] = omega arith
changes_few (entry.Said v i said told ∷ j) = by (is_change (entry.Said v i said told)) (changes_few j)
  where
    by : (b : Bool) → last_begun j + published j ≤ length j
        → length (cond b (entry.Said v i said told ∷ changes j) (changes j)) + published j ≤ suc (length j)
    by true l = omega (arith, l)
    by false l = omega (arith, l)
changes_few (entry.Published e o ∷ j) = let l = changes_few j in omega (arith, l)

pub begun_few : (j : List Entry) → last_begun j ≤ length j
begun_few j = let l = changes_few j in omega (arith, l)

-- an entry of a viewer leaves room
pub begun_room : (j : List Entry) (viewer index : ℕ) (said : Command) (told : Reply) → 0 < published j
    → last_begun (j ++ entry.Said viewer index said told ∷ []) ≤ length j
begun_room j viewer index said told some =
    let s : Entry = entry.Said viewer index said told in
    let l = changes_few (j ++ s ∷ []) in
    let p : published (j ++ s ∷ []) ≡ published j = published_said j viewer index said told in
    let n : length (j ++ s ∷ []) ≡ length j + 1 = length-append j (s ∷ []) in
    omega (arith, l, p, n, some)

-- ---- taking an entry back

-- a list is what it was once its last item is taken back
pub taken_back : {X : Type 0} → (xs ys : List X) (x y : X) → xs ++ x ∷ [] ≡ ys ++ y ∷ [] → ys ≡ xs
taken_back xs ys x y e = sym (front ys y) ∙ ap (λ zs. take (length zs - 1) zs) (sym e) ∙ front xs x
  where
    front : {X : Type 0} → (zs : List X) (z : X) → take (length (zs ++ z ∷ []) - 1) (zs ++ z ∷ []) ≡ zs
    front zs z =
        let n : length (zs ++ z ∷ []) ≡ length zs + 1 = length-append zs (z ∷ []) in
        let m : length (zs ++ z ∷ []) - 1 ≡ length zs = omega (arith, n) in
        ap (λ k. take k (zs ++ z ∷ [])) m ∙ take-append_seam zs (z ∷ [])

pub not_empty : {X : Type 0} → (xs : List X) (x : X) → xs ++ x ∷ [] ≡ [] → ⊥
not_empty xs x e =
    let n : length (xs ++ x ∷ []) ≡ length xs + 1 = length-append xs (x ∷ []) in
    let z : length (xs ++ x ∷ []) ≡ 0 = ap (λ zs. length zs) e in
    omega (arith, n, z)
