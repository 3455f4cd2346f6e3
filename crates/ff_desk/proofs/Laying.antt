-- Pages of a desk.
use Rattle.std.proofs.Common.{◌≡◌, ℕ, zero, suc, ◌+◌, ◌-◌, ◌*◌, ◌^◌, ◌<◌, ◌≤◌, inl, inr, Bool, true, false, List, [], ◌∷◌, ◌++◌, length, replicate, get_or, map, sym, refl, ap, ◌∙◌, subst, arith, Option, Some, None}
use Rattle.ff_tables.specs.declared.orders.Order.{Order}
use Rattle.ff_tables.specs.declared.givens.Given.{Given}
use Rattle.ff_types.specs.declared.cases.Case.{Case}
use Rattle.ff_propagate.specs.declared.facts.Fact.{Fact}
use Rattle.ff_propagate.specs.Boards.{IsBoardOf}
use Rattle.ff_pages.specs.declared.pages.Pages.{Pages}
use Rattle.ff_viewer.specs.declared.commands.Command.{Command}
use Rattle.ff_viewer.specs.declared.replies.Reply.{Reply}
use Rattle.ff_journal.specs.declared.entries.Entry.{Entry}
use Rattle.ff_journal.specs.declared.entries.Entry.TheVariants as entry
use Rattle.ff_journal.specs.declared.entries.Outcome.TheVariants as outcome
use Rattle.ff_journal.specs.Epochs.{givens_of}
use Rattle.ff_journal.specs.Publications.{published, IsLast}
use Rattle.ff_journal.proofs.LastPublished.{value_is, shown_board}
use Rattle.ff_told.specs.Paged.{AreAllPages, KeepAllPages, ShowsBoard, parts_of}
use Rattle.ff_told.specs.Earlier.{turns_in, AreUnvisited, AreOrdered, AreAlongside}
use Rattle.ff_told.proofs.Kept.{AreKept}
use Rattle.ff_told.proofs.Earlier.{unvisited_turns, turns_most, all_ordered, none_ordered}
use Rattle.ff_told.proofs.Filled.{parts_long, pages_few}
use Rattle.ff_desk.specs.declared.demands.Demand.{Demand}
use Rattle.ff_desk.specs.declared.demands.Demand.TheVariants as demand
use Rattle.ff_desk.specs.Views.{EarlierView, DeskView}
use Rattle.ff_desk.specs.Demands.{Demands, demand_of, IsDemanded, AreDemanded}
use Rattle.ff_desk.specs.Desks.{IsDesk, KeepsPages, KeepsEarlier}
use Rattle.ff_desk.specs.Prepared.{IsLaidFor}
use Rattle.ff_desk.specs.Steps.{turns_laid, kept_after}
use Rattle.ff_desk.specs.Marks.{IsMarked, AreMarked}
use Rattle.ff_desk.proofs.Counts.{few}
use Rattle.ff_desk.proofs.Demanding.{demanded_said, demanded_before, demanded_here}

-- the facts of the last board are a board
pub facts_board : (d : DeskView) → IsDesk d → ShowsBoard d.journal → IsBoardOf d.base.case.system.vars d.base.case.system.constraints d.facts
facts_board d is (e, board, l) = shown_board d.base.case d.base.budget d.journal e board d.facts is.legal l (is.read e board l)

-- ---- pages are made

flags_long : (n : ℕ) → length (replicate n false) ≡ n
flags_long zero = refl
flags_long (suc n) = ap suc (flags_long n)

flag_false : (n p : ℕ) → get_or (replicate n false) p false ≡ true → ⊥
flag_false zero p e = cc
flag_false (suc n) zero e = cc
flag_false (suc n) (suc p) e = flag_false n p e

pub laid_keeps : (d : DeskView) (list more : List Pages) (marks : List Bool) (e : EarlierView) → IsDesk d → d.pages ≡ None → ShowsBoard d.journal
    → AreAllPages d.base.case d.base.budget (givens_of d.base.case d.journal (published d.journal - 1)) d.facts list → KeepAllPages d.base.case list more
    → AreUnvisited list → marks ≡ replicate (length list) false → e.pages ≡ []
    → turns_in more + e.spent ≡ turns_in list + turns_in d.earlier.pages + d.earlier.spent
    → IsDesk (record d { pages = Some more; demanded = marks; earlier = e })
laid_keeps d list more marks e is none (n, board, l) all keep new are gone turns =
    let nobody = subst (λ p. AreDemanded d.journal p d.demanded) none is.demands in
    let c = l.counted in
    let same : published d.journal - 1 ≡ n = omega (arith, c) in
    let long : length more ≡ length list = sym (parts_long more) ∙ ap (λ (xs : List (List ℕ)). length xs) keep.parts ∙ parts_long list in record {
      few = is.few;
      legal = is.legal;
      order = is.order;
      within = is.within;
      kept = is.kept;
      low = is.low;
      read = is.read;
      present = is.present;
      pages = (
        n,
        board,
        l,
        keep.all d.base.budget (givens_of d.base.case d.journal n) d.facts
            (subst (λ k. AreAllPages d.base.case d.base.budget (givens_of d.base.case d.journal k) d.facts list) same all),
      );
      demands = (
        ap (λ xs. length xs) are ∙ flags_long (length list) ∙ sym long,
        λ p l. (λ m. absurd (flag_false (length list) p (subst (λ xs. get_or xs p false ≡ true) are m)), λ m. absurd (nobody p m)),
      );
      earlier =
          let was = subst (λ x. KeepsEarlier d.base.case d.base.budget (published d.journal) x d.earlier) none is.earlier in
          let ordered = was.0 in
          let many = was.1 in
          let spent = was.2 in
          let vars = is.few.vars in
          let t = turns_most d.base.case.system.vars d.base.case.system.constraints d.earlier.pages ordered.stand in
          let z = unvisited_turns list new in (gone, omega (arith, turns, t, z, many, vars, spent, c));
    }

-- ---- pages go on

kept_by : (d : DeskView) (pages : Option (List Pages)) (ps : List Pages) → IsDesk d → pages ≡ Some ps
    → KeepsPages d.base.case d.base.budget d.journal d.facts pages → AreKept d.base.case d.base.budget d.journal d.facts ps
kept_by d None ps is e k = absurd (let q : None ≡ Some ps = e in cc)
kept_by d (Some xs) ps is e (n, board, l, all) =
    let a = is.read n board l in
    let same : xs ≡ ps = one e in
    subst (λ x. AreKept d.base.case d.base.budget d.journal d.facts x) same (record {
      epoch = n;
      board = board;
      last = l;
      value = value_is d.facts board a.board;
      is = a.board;
      rule = a.rule;
      all = all;
    })
  where
    one : {a b : List Pages} → Some a ≡ Some b → a ≡ b
    one e = cc

pub are_kept : (d : DeskView) (ps : List Pages) → IsDesk d → d.pages ≡ Some ps → AreKept d.base.case d.base.budget d.journal d.facts ps
are_kept d ps is e = kept_by d d.pages ps is e is.pages

pub pages_on : (d : DeskView) (ps more : List Pages) → IsDesk d → d.pages ≡ Some ps → KeepAllPages d.base.case ps more → IsDesk (record d { pages = Some more })
pages_on d ps more is e keep =
    let k = are_kept d ps is e in
    let old = subst (λ p. AreDemanded d.journal p d.demanded) e is.demands in
    let long : length more ≡ length ps = sym (parts_long more) ∙ ap (λ (xs : List (List ℕ)). length xs) keep.parts ∙ parts_long ps in record {
      few = is.few;
      legal = is.legal;
      order = is.order;
      within = is.within;
      kept = is.kept;
      low = is.low;
      read = is.read;
      present = is.present;
      pages = (k.epoch, k.board, k.last, keep.all d.base.budget (givens_of d.base.case d.journal k.epoch) d.facts k.all);
      demands = (old.0 ∙ sym long, λ p l. old.1 p (omega (arith, l, long)));
      earlier = subst (λ x. KeepsEarlier d.base.case d.base.budget (published d.journal) x d.earlier) e is.earlier;
    }

-- ---- what an entry demands is marked

nobody_more : (j : List Entry) (viewer index : ℕ) (said : Command) (told : Reply) (x : Demand) → demand_of said told ≡ x → IsLaidFor x None
    → ((p : ℕ) → IsDemanded j p → ⊥) → (p : ℕ) → IsDemanded (j ++ entry.Said viewer index said told ∷ []) p → ⊥
nobody_more j viewer index said told demand.Nothing e laid none p d = elim (demanded_said j viewer index said told p d) [
  | inl m ↦ subst (λ x. Demands x p) e m
  | inr m ↦ none p m
]
nobody_more j viewer index said told (demand.Part q) e (list, s) none p d = let q : None ≡ Some list = s in cc
nobody_more j viewer index said told demand.All e (list, s) none p d = let q : None ≡ Some list = s in cc

pub entered_demands : (j : List Entry) (viewer index : ℕ) (said : Command) (told : Reply) (pages : Option (List Pages)) (old new : List Bool)
    → IsLaidFor (demand_of said told) pages → AreDemanded j pages old → AreMarked old (demand_of said told) new
    → AreDemanded (j ++ entry.Said viewer index said told ∷ []) pages new
entered_demands j viewer index said told None old new laid were marked = nobody_more j viewer index said told (demand_of said told) refl laid were
entered_demands j viewer index said told (Some ps) old new laid (long, were) marked = (
  marked.long ∙ long,
  λ p l.
      let here : p < length old = omega (arith, l, long) in (
        λ m. elim ((marked.each p here).0 m) [
          | inl d ↦ demanded_here j viewer index said told p d
          | inr d ↦ demanded_before j viewer index said told p ((were p l).0 d)
        ],
        λ d. (marked.each p here).1 (elim (demanded_said j viewer index said told p d) [
          | inl m ↦ inl m
          | inr m ↦ inr ((were p l).1 m)
        ]),
      ),
)

-- ---- turns

-- a publication drops no search
pub turns_kept : (case : Case) (budget n : ℕ) (pages : Option (List Pages)) (e : EarlierView) → KeepsEarlier case budget n pages e
    → (kept_after pages e).spent + turns_in (kept_after pages e).pages + turns_laid None ≡ e.spent + turns_in e.pages + turns_laid pages
turns_kept case budget n None e keeps = refl
turns_kept case budget n (Some ps) e (none, spent) = let z : turns_in e.pages ≡ 0 = ap turns_in none in omega (arith, z)

-- the turns of a desk are few
pub turns_fit : (d : DeskView) → IsDesk d → (d.earlier.spent + turns_in d.earlier.pages + turns_laid d.pages < 2 ^ 63) × (length d.earlier.pages < 2 ^ 32)
turns_fit d is = by d.pages is.earlier is.pages
  where
    n : published d.journal ≤ 1025
    n = let f = (few d.base.lengths d.journal is.within is.order).1 in let t = is.few.commands in omega (arith, f, t)

    by : (pages : Option (List Pages)) → KeepsEarlier d.base.case d.base.budget (published d.journal) pages d.earlier
        → KeepsPages d.base.case d.base.budget d.journal d.facts pages
        → (d.earlier.spent + turns_in d.earlier.pages + turns_laid pages < 2 ^ 63) × (length d.earlier.pages < 2 ^ 32)
    by None (ordered, many, spent) keeps =
        let t = turns_most d.base.case.system.vars d.base.case.system.constraints d.earlier.pages ordered.stand in
        let vars = is.few.vars in (omega (arith, n, t, many, vars, spent), omega (arith, many, vars))
    by (Some ps) (none, spent) (e, board, l, all) =
        let z : turns_in d.earlier.pages ≡ 0 = ap turns_in none in
        let y : length d.earlier.pages ≡ 0 = ap (λ (xs : List Pages). length xs) none in
        let t = turns_most d.base.case.system.vars d.base.case.system.constraints ps (all_ordered d.base.case d.base.budget (givens_of d.base.case d.journal e) d.facts ps all).stand in
        let many = pages_few d.base.case d.base.budget (givens_of d.base.case d.journal e) d.facts ps all in
        let vars = is.few.vars in (omega (arith, n, z, t, many, vars, spent), omega (arith, y))

pub ordered_earlier : (d : DeskView) → IsDesk d → (budget : ℕ) × AreOrdered d.base.case budget d.earlier.pages
ordered_earlier d is = by d.pages is.earlier
  where
    by : (pages : Option (List Pages)) → KeepsEarlier d.base.case d.base.budget (published d.journal) pages d.earlier → (budget : ℕ) × AreOrdered d.base.case budget d.earlier.pages
    by None keeps = (d.base.budget, keeps.0)
    by (Some ps) keeps = (d.base.budget, subst (λ xs. AreOrdered d.base.case d.base.budget xs) (sym keeps.0) (none_ordered d.base.case d.base.budget))

pub ordered_laid : (d : DeskView) (ps : List Pages) → IsDesk d → d.pages ≡ Some ps → ((budget : ℕ) × AreOrdered d.base.case budget ps) × (length ps < 2 ^ 32)
ordered_laid d ps is e =
    let k = are_kept d ps is e in
    let many = pages_few d.base.case d.base.budget (givens_of d.base.case d.journal k.epoch) d.facts ps k.all in
    let vars = is.few.vars in
    ((d.base.budget, all_ordered d.base.case d.base.budget (givens_of d.base.case d.journal k.epoch) d.facts ps k.all), omega (arith, many, vars))

-- new pages beside those that are kept
pub ordered_both : (d : DeskView) (list : List Pages) (gs : List Given) → IsDesk d → d.pages ≡ None → AreAllPages d.base.case d.base.budget gs d.facts list
    → AreAlongside d.base.case list d.earlier.pages
ordered_both d list gs is none all =
    let was = subst (λ x. KeepsEarlier d.base.case d.base.budget (published d.journal) x d.earlier) none is.earlier in
    (d.base.budget, all_ordered d.base.case d.base.budget gs d.facts list all, was.0)

pub room_for : (d : DeskView) (list : List Pages) → IsDesk d → AreUnvisited list → d.earlier.spent + turns_in d.earlier.pages + turns_in list < 2 ^ 64
room_for d list is new = let f = (turns_fit d is).0 in let z = unvisited_turns list new in omega (arith, f, z)

-- those of searches that are dropped once pages are laid are counted
pub turns_moved : (was e : EarlierView) (pages : Option (List Pages)) (list more : List Pages) → pages ≡ None → AreUnvisited list → e.pages ≡ []
    → turns_in more + e.spent ≡ turns_in list + turns_in was.pages + was.spent
    → e.spent + turns_in e.pages + turns_in more ≡ was.spent + turns_in was.pages + turns_laid pages
turns_moved was e pages list more none new gone turns =
    let a : turns_laid pages ≡ 0 = ap turns_laid none in
    let b : turns_in e.pages ≡ 0 = ap turns_in gone in
    let z = unvisited_turns list new in omega (arith, turns, a, b, z)
