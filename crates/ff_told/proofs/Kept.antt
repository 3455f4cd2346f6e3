-- Pages of the parts of the last published board.
use Rattle.std.proofs.Common.{◌≡◌, ℕ, zero, suc, ◌+◌, ◌*◌, ◌<◌, ◌≤◌, ◌⊎◌, inl, inr, false, List, [], ◌∷◌, ◌++◌, length, map, take, drop, get_or, set, slice_get, sym, refl, ap, ◌∙◌, subst, arith, Option, Some, None}
use Rattle.std.proofs.lemmas.List.{take_more, map-append}
use Rattle.ff_basics.proofs.Lists.{get_either}
use Rattle.ff_tables.specs.declared.orders.Order.{Order}
use Rattle.ff_tables.specs.declared.terms.Constraint.{Constraint}
use Rattle.ff_tables.specs.declared.givens.Given.{Given}
use Rattle.ff_types.specs.declared.cases.Case.{Case}
use Rattle.ff_types.specs.Pairs.{AreSorted}
use Rattle.ff_propagate.specs.declared.facts.Fact.{Fact}
use Rattle.ff_propagate.specs.declared.parts.Part.{Part}
use Rattle.ff_propagate.specs.Facts.{value_at, seen}
use Rattle.ff_propagate.specs.FactRule.{MeetsFactRule}
use Rattle.ff_propagate.specs.Parts.{AreParts}
use Rattle.ff_propagate.specs.Trees.{Tree, IsTree, visits, found, turns_to_page, page_of}
use Rattle.ff_parts.specs.Lists.{vars_of}
use Rattle.ff_refute.specs.Givens.{AreGivens}
use Rattle.ff_pages.specs.declared.pages.Pages.{Pages}
use Rattle.ff_pages.specs.declared.pages.PageAnswer.{PageAnswer}
use Rattle.ff_pages.specs.declared.pages.PageAnswer.TheVariants as answer
use Rattle.ff_pages.specs.Paging.{StandsIn, IsSamePages, IsPage, HasLog}
use Rattle.ff_viewer.specs.declared.commands.Question.TheVariants as ask
use Rattle.ff_viewer.specs.declared.replies.Reply.{Reply}
use Rattle.ff_viewer.specs.declared.replies.Reply.TheVariants as reply
use Rattle.ff_journal.specs.declared.entries.Entry.{Entry}
use Rattle.ff_journal.specs.declared.entries.Outcome.{Outcome}
use Rattle.ff_journal.specs.declared.entries.Outcome.TheVariants as outcome
use Rattle.ff_journal.specs.Epochs.{last_of, givens_of, pins_of}
use Rattle.ff_journal.specs.Publications.{published, outcomes, on_board, IsLast}
use Rattle.ff_journal.specs.Pages.{IsBeyond, IsWithin, HasNone, IsPast, IsPage as IsPageOf}
use Rattle.ff_journal.specs.Replies.{AreBoardParts, IsPageReplyOf, IsPageReplyAt}
use Rattle.ff_journal.specs.Answering.{is_board, shows_board}
use Rattle.ff_journal.proofs.LastPublished.{no_board_last}
use Rattle.ff_told.specs.Paged.{ArePagesOf, AreAllPages, parts_of, AreLaid, HavePages, KeepAllPages, IsPageAt, IsPageToldBy, IsPageToldAt, AnswersLast, reply_of}
use Rattle.ff_told.proofs.Refuted.{are_givens, say_pins}

same_pages : {a b : Pages} → Some a ≡ Some b → a ≡ b
same_pages e = cc

same_list : {a b : List ℕ} → Some a ≡ Some b → a ≡ b
same_list e = cc

same_outcome : {a b : Outcome} → Some a ≡ Some b → a ≡ b
same_outcome e = cc

-- ---- pages are made

pub laid_none : (case : Case) (budget : ℕ) (gs : List Given) (fs : List (Option Fact)) (parts : List Part) → AreLaid case budget gs fs (take 0 parts) []
laid_none case budget gs fs parts = record { are = refl; each = λ i p h. absurd (nothing p h) }
  where
    nothing : (p : Pages) → None ≡ Some p → ⊥
    nothing p e = cc

pub laid_more : (case : Case) (budget : ℕ) (gs : List Given) (fs : List (Option Fact)) (parts : List Part) (i : ℕ) (part : Part) (pages more : List Pages) (p : Pages)
    → i < length parts → part ≡ get_or parts i part → p.part ≡ part → ArePagesOf case budget gs fs p → more ≡ pages ++ p ∷ []
    → AreLaid case budget gs fs (take i parts) pages → AreLaid case budget gs fs (take (i + 1) parts) more
laid_more case budget gs fs parts i part pages more p l read is own add laid = subst (λ xs. AreLaid case budget gs fs (take (i + 1) parts) xs) (sym add) (record {
  are = map-append (λ (x : Pages). x.part.vars) pages (p ∷ []) ∙ ap (λ xs. xs ++ p.part.vars ∷ []) laid.are
      ∙ ap (λ (x : Part). vars_of (take i parts) ++ x.vars ∷ []) (is ∙ read)
      ∙ sym (map-append (λ (x : Part). x.vars) (take i parts) (get_or parts i part ∷ []))
      ∙ ap vars_of (sym (take_more parts i part l));
  each = λ k x h. elim (get_either pages p x k h) [
    | inl a ↦ laid.each k x a
    | inr b ↦ subst (λ y. ArePagesOf case budget gs fs y) (sym b.1) own
  ];
})

pub laid_all : (case : Case) (budget : ℕ) (gs : List Given) (fs : List (Option Fact)) (parts : List Part) (pages : List Pages)
    → AreParts case.system.vars case.system.constraints (value_at fs) (vars_of parts) → AreLaid case budget gs fs parts pages
    → AreAllPages case budget gs fs pages
laid_all case budget gs fs parts pages are laid = record {
  parts = subst (λ ps. AreParts case.system.vars case.system.constraints (value_at fs) ps) (sym laid.are) are;
  each = laid.each;
}

pub all_parts : (case : Case) (budget : ℕ) (gs : List Given) (fs : List (Option Fact)) (parts : List Part) (i : ℕ) (pages : List Pages)
    → i ≡ length parts → AreLaid case budget gs fs (take i parts) pages → AreLaid case budget gs fs parts pages
all_parts case budget gs fs parts i pages e laid = subst (λ ps. AreLaid case budget gs fs ps pages) (ap (λ n. take n parts) e ∙ all parts) laid
  where
    all : (xs : List Part) → take (length xs) xs ≡ xs
    all [] = refl
    all (x ∷ xs) = ap (λ ys. x ∷ ys) (all xs)

-- ---- one of them goes on

set_parts : (ps : List Pages) (i : ℕ) (p q : Pages) → slice_get ps i ≡ Some p → q.part ≡ p.part → parts_of (set ps i q) ≡ parts_of ps
set_parts [] i p q h e = refl
set_parts (x ∷ ps) zero p q h e = ap (λ (y : Part). y.vars ∷ parts_of ps) (e ∙ ap (λ (y : Pages). y.part) (sym (same_pages h)))
set_parts (x ∷ ps) (suc i) p q h e = ap (λ ys. x.part.vars ∷ ys) (set_parts ps i p q h e)

set_each : (ps : List Pages) (i : ℕ) (q : Pages) (k : ℕ) (x : Pages) → slice_get (set ps i q) k ≡ Some x
    → (x ≡ q) ⊎ (slice_get ps k ≡ Some x)
set_each [] i q k x h = inr h
set_each (y ∷ ps) zero q zero x h = inl (sym (same_pages h))
set_each (y ∷ ps) zero q (suc k) x h = inr h
set_each (y ∷ ps) (suc i) q zero x h = inr h
set_each (y ∷ ps) (suc i) q (suc k) x h = set_each ps i q k x h

went_on : (case : Case) (budget : ℕ) (gs : List Given) (fs : List (Option Fact)) (p q : Pages) → ArePagesOf case budget gs fs p
    → StandsIn case.system.vars case.system.constraints q → IsSamePages p q → ArePagesOf case budget gs fs q
went_on case budget gs fs p q own stands same = record {
  stands = stands;
  givens = subst (λ g. g.value ≡ gs) (sym same.givens) own.givens;
  facts = subst (λ f. f.value ≡ fs) (sym same.facts) own.facts;
  budgeted = same.budget ∙ own.budgeted;
}

pub all_kept : (case : Case) (ps : List Pages) (i : ℕ) (p q : Pages) → slice_get ps i ≡ Some p
    → StandsIn case.system.vars case.system.constraints q → IsSamePages p q → KeepAllPages case ps (set ps i q)
all_kept case ps i p q at stands same = record {
  parts = set_parts ps i p q at same.part;
  all = λ budget gs fs are. record {
    parts = subst (λ xs. AreParts case.system.vars case.system.constraints (value_at fs) xs) (sym (set_parts ps i p q at same.part)) are.parts;
    each = λ k x h. elim (set_each ps i q k x h) [
      | inl e ↦ subst (λ y. ArePagesOf case budget gs fs y) (sym e) (went_on case budget gs fs p q (are.each i p at) stands same)
      | inr a ↦ are.each k x a
    ];
  };
}

pub parts_at : (ps : List Pages) (i : ℕ) (p : Pages) → slice_get ps i ≡ Some p → slice_get (parts_of ps) i ≡ Some p.part.vars
parts_at [] zero p h = cc
parts_at [] (suc i) p h = cc
parts_at (x ∷ ps) zero p h = ap (λ (y : Pages). Some y.part.vars) (same_pages h)
parts_at (x ∷ ps) (suc i) p h = parts_at ps i p h

pub page_is : (case : Case) (ps : List Pages) (i k : ℕ) (p : Pages) (a : PageAnswer) → slice_get ps i ≡ Some p
    → IsPage case.system.constraints p.facts.value p.part.vars p.budget k a → HasLog case p.givens.value a → IsPageAt case ps i k a
page_is case ps i k p a at page log budget gs fs vars are is =
    let own = are.each i p at in
    let v : p.part.vars ≡ vars = same_list (sym (parts_at ps i p at) ∙ is) in (
      subst (λ f. IsPage case.system.constraints f vars budget k a) own.facts
          (subst (λ n. IsPage case.system.constraints p.facts.value vars n k a) own.budgeted
          (subst (λ xs. IsPage case.system.constraints p.facts.value xs p.budget k a) v page)),
      subst (λ g. HasLog case g a) own.givens log,
    )

pub pages_stand : (case : Case) (ps : List Pages) (i : ℕ) (p : Pages) → slice_get ps i ≡ Some p → HavePages case ps
    → StandsIn case.system.vars case.system.constraints p × AreGivens case p.givens.value
    × MeetsFactRule case.system.vars case.system.constraints p.givens.value p.facts.value
pages_stand case ps i p at have =
    let own = have.are.each i p at in (
      own.stands,
      subst (λ g. AreGivens case g) (sym own.givens) have.pinned,
      subst (λ g. MeetsFactRule case.system.vars case.system.constraints g p.facts.value) (sym own.givens)
          (subst (λ f. MeetsFactRule case.system.vars case.system.constraints have.givens f) (sym own.facts) have.rule),
    )

-- ---- the reply to `page`

past_few : {X : Type 0} (n m : ℕ) (xs : List X) → take (suc m) (drop n xs) ≡ [] → length xs ≤ n
past_few zero m [] e = omega arith
past_few zero m (x ∷ xs) e = cc
past_few (suc n) m [] e = omega arith
past_few (suc n) m (x ∷ xs) e = let r = past_few n m xs e in omega (arith, r)

within_by : (cons : List Constraint) (value : ℕ → Option Order) (vars : List ℕ) (budget k : ℕ) (tree : Tree) → IsTree cons value vars tree
    → turns_to_page vars tree k ≤ budget → IsWithin cons value vars budget k
within_by cons value vars budget k tree is covered = record { tree = tree; is_tree = is; covered = covered }

pub page_reply : (case : Case) (j : List Entry) (e : ℕ) (board : List (Option Order)) (fs : List (Option Fact)) (budget k : ℕ) (vars : List ℕ) (a : PageAnswer)
    → AreSorted case.pairs → on_board board ≡ value_at fs → IsPage case.system.constraints fs vars budget k a → HasLog case (givens_of case j e) a
    → IsPageReplyOf case (pins_of case j e) board budget k vars (reply_of a)
page_reply case j e board fs budget k vars (answer.Page solutions) sorted value (tree, is, sols, (covered, page, some)) log =
    subst (λ v. IsPageOf case.system.constraints v vars budget k solutions) (sym value) (record {
      within = within_by case.system.constraints (value_at fs) vars budget k tree is covered;
      is = page ∙ ap (page_of k) sols;
      some = some;
    })
page_reply case j e board fs budget k vars (answer.Past count) sorted value (tree, is, sols, (covered, counted, some, none)) log =
    subst (λ v. IsPast case.system.constraints v vars budget k count) (sym value) (record {
      within = within_by case.system.constraints (value_at fs) vars budget k tree is covered;
      counted = counted ∙ ap (λ xs. length xs) sols;
      some = some;
      fewer = subst (λ n. n ≤ 64 * k) (sym counted) (past_few (64 * k) 63 (found (visits tree)) none);
    })
page_reply case j e board fs budget k vars (answer.None log) sorted value (tree, is, sols, (covered, none)) accepted = (
  subst (λ v. HasNone case.system.constraints v vars budget) (sym value)
      (record { tree = tree; is_tree = is; covered = covered; none = sym sols ∙ none }),
  accepted (pins_of case j e) (say_pins case j e (givens_of case j e) sorted refl),
)
page_reply case j e board fs budget k vars answer.Unfinished sorted value (tree, is, sols, more) log =
    subst (λ v. IsBeyond case.system.constraints v vars budget k) (sym value) (record { tree = tree; is_tree = is; more = more })

pub board_parts : (case : Case) (budget : ℕ) (gs : List Given) (fs : List (Option Fact)) (board : List (Option Order)) (pages : List Pages)
    → on_board board ≡ value_at fs → AreAllPages case budget gs fs pages → AreBoardParts case board (parts_of pages)
board_parts case budget gs fs board pages value are =
    subst (λ v. AreParts case.system.vars case.system.constraints v (parts_of pages)) (sym value) are.parts

page_said : (case : Case) (budget : ℕ) (j : List Entry) (e : ℕ) (board : List (Option Order)) (fs : List (Option Fact)) (pages : List Pages) (n k : ℕ) (told : Reply)
    → AreSorted case.pairs → on_board board ≡ value_at fs → AreAllPages case budget (givens_of case j e) fs pages → IsPageToldAt case pages n k told
    → IsPageReplyAt case (pins_of case j e) board budget k (slice_get (parts_of pages) n) told
page_said case budget j e board fs pages n k told sorted value are t = by (slice_get (parts_of pages) n) refl t
  where
    by : (o : Option (List ℕ)) → slice_get (parts_of pages) n ≡ o → IsPageToldBy case pages n k o told
        → IsPageReplyAt case (pins_of case j e) board budget k o told
    by None is t = t
    by (Some vars) is (a, same, at) =
        let r = at budget (givens_of case j e) fs vars are is in
        subst (λ x. IsPageReplyOf case (pins_of case j e) board budget k vars x) (sym same)
        (page_reply case j e board fs budget k vars a sorted value r.0 r.1)

-- ---- the last published board

-- the last published epoch is one
pub one_last : (j : List Entry) (d e : ℕ) (o p : Outcome) → IsLast j d o → IsLast j e p → (d ≡ e) × (o ≡ p)
one_last j d e o p l m = let a = l.counted in let b = m.counted in (omega (arith, a, b), same_outcome (sym l.is ∙ m.is))

-- the kept pages, of the shown facts of a board
pub record AreKept (case : Case) (budget : ℕ) (j : List Entry) (fs : List (Option Fact)) (pages : List Pages) : Type 0 where
  pub epoch : ℕ
  pub board : List (Option Order)
  pub last : IsLast j epoch (outcome.Board board)
  pub value : on_board board ≡ value_at fs
  pub is : board ≡ map seen fs
  pub rule : MeetsFactRule case.system.vars case.system.constraints (givens_of case j epoch) fs
  pub all : AreAllPages case budget (givens_of case j epoch) fs pages

pub have_on : (case : Case) (old new : List Pages) → HavePages case old → KeepAllPages case old new → HavePages case new
have_on case old new have keep = record {
  budget = have.budget;
  givens = have.givens;
  facts = have.facts;
  are = keep.all have.budget have.givens have.facts have.are;
  pinned = have.pinned;
  rule = have.rule;
}

pub have_pages : (case : Case) (budget : ℕ) (j : List Entry) (fs : List (Option Fact)) (pages : List Pages) → AreKept case budget j fs pages → HavePages case pages
have_pages case budget j fs pages k = record {
  budget = budget;
  givens = givens_of case j k.epoch;
  facts = fs;
  are = k.all;
  pinned = are_givens case j k.epoch (givens_of case j k.epoch) refl;
  rule = k.rule;
}

pub page_answers : (case : Case) (budget : ℕ) (j : List Entry) (fs : List (Option Fact)) (pages : List Pages) (n k : ℕ) (told : Reply)
    → AreSorted case.pairs → AreKept case budget j fs pages → IsPageToldAt case pages n k told → AnswersLast case budget j (ask.Page n k) told
page_answers case budget j fs pages n k told sorted kept t = (
  kept.epoch,
  outcome.Board kept.board,
  kept.last,
  (
    parts_of pages,
    board_parts case budget (givens_of case j kept.epoch) fs kept.board pages kept.value kept.all,
    page_said case budget j kept.epoch kept.board fs pages n k told sorted kept.value kept.all t,
  ),
)

-- an impossible epoch has no pages and no stacks
pub impossible_page : (case : Case) (budget : ℕ) (j : List Entry) (n k : ℕ) → 0 < published j → shows_board (last_of (outcomes j)) ≡ false
    → AnswersLast case budget j (ask.Page n k) reply.Impossible
impossible_page case budget j n k l h = let r = no_board_last j l h in by r.0 r.1 r.2 r.3
  where
    by : (e : ℕ) (o : Outcome) → is_board o ≡ false → IsLast j e o → AnswersLast case budget j (ask.Page n k) reply.Impossible
    by e (outcome.Board board) b m = cc
    by e (outcome.Impossible pins log) b m = (e, outcome.Impossible pins log, m, refl)
