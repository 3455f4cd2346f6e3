-- What each entry keeps of a desk.
use Rattle.std.proofs.Common.{◌≡◌, ◌≢◌, ℕ, zero, suc, ◌+◌, ◌*◌, ◌^◌, ◌<◌, ◌≤◌, ◌⊎◌, inl, inr, false, Bool, List, [], ◌∷◌, ◌++◌, length, replicate, get_or, sym, refl, ap, ◌∙◌, subst, arith, Option, Some, None}
use Rattle.std.specs.Arc.{arc_value}
use Rattle.std.proofs.lemmas.List.{length-append}
use Rattle.std.proofs.lemmas.List.Elements.{filter_map-append}
use mathlib.Core.Logic.{dite}
use native.Mathlib.Decide.{ℕ_discrete}
use Rattle.ff_basics.proofs.Numbers.{last_or}
use Rattle.ff_tables.specs.declared.orders.Order.{Order}
use Rattle.ff_tables.specs.declared.givens.Given.{Given}
use Rattle.ff_types.specs.declared.pins.Pin.{Pin}
use Rattle.ff_types.specs.declared.cases.Case.{Case}
use Rattle.ff_log.specs.declared.logs.Log.{Log}
use Rattle.ff_propagate.specs.declared.facts.Fact.{Fact}
use Rattle.ff_propagate.specs.FactRule.{MeetsFactRule}
use Rattle.ff_propagate.specs.Agreeing.{Agree}
use Rattle.ff_propagate.specs.Facts.{fact_at}
use Rattle.ff_board.specs.Answer.{fact_seen}
use Rattle.ff_board.specs.Standing.{top_level}
use Rattle.ff_viewer.specs.declared.commands.Command.{Command}
use Rattle.ff_viewer.specs.declared.replies.Reply.{Reply}
use Rattle.ff_pages.specs.declared.pages.Pages.{Pages}
use Rattle.ff_journal.specs.declared.entries.Entry.{Entry}
use Rattle.ff_journal.specs.declared.entries.Entry.TheVariants as entry
use Rattle.ff_journal.specs.declared.entries.Outcome.{Outcome}
use Rattle.ff_journal.specs.declared.entries.Outcome.TheVariants as outcome
use Rattle.ff_journal.specs.Epochs.{last_begun, last_of, changes, givens_of}
use Rattle.ff_journal.specs.Publications.{outcomes, published, IsLast, IsOutcome}
use Rattle.ff_journal.specs.Journals.{IsSaid, commands_of, command_by}
use Rattle.ff_journal.specs.Shown.{AreShown, AreFactsOf, AreOfBoard, NamesFit}
use Rattle.ff_journal.proofs.Snoc.{legal_more, changes_same, givens_kept, begun_grows, outcomes_said, outcomes_published, last_more, last_said, named_said, named_published}
use Rattle.ff_told.specs.Paged.{AreAllPages}
use Rattle.ff_told.specs.Earlier.{AreOrdered}
use Rattle.ff_told.proofs.Earlier.{all_ordered}
use Rattle.ff_told.proofs.Filled.{pages_few}
use Rattle.ff_desk.specs.Views.{BaseView, HomeView, EarlierView, DeskView}
use Rattle.ff_desk.specs.Demands.{AreDemanded}
use Rattle.ff_desk.specs.Desks.{IsDesk, IsKept, IsKeptOf, ContradictFrom, IsPresentOf, HasPresent, AreLastFacts, KeepsPages, KeepsEarlier}
use Rattle.ff_desk.specs.Steps.{kept_after}
use Rattle.ff_desk.proofs.Counts.{count_same, count_other}
use Rattle.ff_desk.proofs.Demanding.{demanded_published}

-- ---- an entry of a viewer

published_said : (j : List Entry) (viewer index : ℕ) (said : Command) (told : Reply)
    → published (j ++ entry.Said viewer index said told ∷ []) ≡ published j
published_said j viewer index said told = ap (λ os. length os) (outcomes_said j viewer index said told)

-- publications that stand are of epochs that have begun, so their givens stay
contradict_stays : (case : Case) (j : List Entry) (x : Entry) (first : ℕ) → published j ≤ last_begun j + 1 → ContradictFrom case j first
    → (e : ℕ) → first ≤ e → e < published j → Agree (givens_of case (j ++ x ∷ []) e) → ⊥
contradict_stays case j x first order old e from below agree = old e from below (subst Agree (givens_kept case j x e (omega (arith, order, below))) agree)

kept_said : (case : Case) (j : List Entry) (x : Entry) (gs : List Given) (fs : List (Option Fact)) (home : Option HomeView)
    → published (j ++ x ∷ []) ≡ published j → published j ≤ last_begun j + 1 → IsKept case j gs fs home → IsKept case (j ++ x ∷ []) gs fs home
kept_said case j x gs fs None same order k =
    (k.0, k.1, λ e from below. contradict_stays case j x 0 order k.2 e from (omega (arith, same, below)))
kept_said case j x gs fs (Some home) same order k = record {
  epoch = k.epoch;
  is_published = let p = k.is_published in omega (arith, same, p);
  later = λ e from below. contradict_stays case j x (k.epoch + 1) order k.later e from (omega (arith, same, below));
  its = k.its ∙ sym (givens_kept case j x k.epoch (let p = k.is_published in omega (arith, order, p)));
  agree = k.agree;
  rule = k.rule;
  of_case = k.of_case;
  of_givens = k.of_givens;
  seen = k.seen;
}

within_said : (lengths : List ℕ) (j : List Entry) (v index : ℕ) (said : Command) (told : Reply)
    → ((w : ℕ) → length (commands_of w j) ≤ get_or lengths w 0) → length (commands_of v j) < get_or lengths v 0
    → (w : ℕ) → length (commands_of w (j ++ entry.Said v index said told ∷ [])) ≤ get_or lengths w 0
within_said lengths j v index said told old room w =
    let x : Entry = entry.Said v index said told in
    let more : length (commands_of w (j ++ x ∷ [])) ≡ length (commands_of w j) + length (commands_of w (x ∷ [])) =
    ap (λ t. length t) (filter_map-append (command_by w) j (x ∷ [])) ∙ length-append (commands_of w j) (commands_of w (x ∷ [])) in
    let o = old w in
    dite (ℕ_discrete v w)
    (λ e. let c = count_same w v index said told [] e in let r = subst (λ u. length (commands_of u j) < get_or lengths u 0) e room in omega (arith, more, c, r))
    (λ n. let c = count_other w v index said told [] n in omega (arith, more, c, o))

present_said : (case : Case) (j : List Entry) (x : Entry) (fs : List (Option Fact)) (present : Option HomeView)
    → published (j ++ x ∷ []) ≡ published j → HasPresent case j fs present → HasPresent case (j ++ x ∷ []) fs present
present_said case j x fs None same h = tt
present_said case j x fs (Some p) same h = record {
  unpublished = let u = h.unpublished in let g = begun_grows j x in omega (arith, same, u, g);
  case_is = h.case_is;
  its = h.its ∙ sym (givens_kept case j x (published j) h.unpublished) ∙ ap (givens_of case (j ++ x ∷ [])) (sym same);
  agree = h.agree;
  carried = h.carried;
}

last_before : (j : List Entry) (viewer index : ℕ) (said : Command) (told : Reply) (e : ℕ) (last : Outcome)
    → IsLast (j ++ entry.Said viewer index said told ∷ []) e last → IsLast j e last
last_before j viewer index said told e last l = record {
  counted = sym (published_said j viewer index said told) ∙ l.counted;
  is = ap (λ os. last_of os) (sym (outcomes_said j viewer index said told)) ∙ l.is;
}

read_said : (case : Case) (j : List Entry) (viewer index : ℕ) (said : Command) (told : Reply) (fs : List (Option Fact))
    → published j ≤ last_begun j + 1 → NamesFit case (Some fs) (entry.Said viewer index said told) → AreLastFacts case j fs
    → AreLastFacts case (j ++ entry.Said viewer index said told ∷ []) fs
read_said case j viewer index said told fs order fit old e board last =
    let l = last_before j viewer index said told e (outcome.Board board) last in
    let a = old e board l in
    let c = l.counted in record {
      rule = subst (λ gs. MeetsFactRule case.system.vars case.system.constraints gs fs)
          (sym (givens_kept case j (entry.Said viewer index said told) e (omega (arith, c, order)))) a.rule;
      board = a.board;
      levels = λ m n. elim (named_said j viewer index said told m n) [
        | inl k ↦ fit m k
        | inr k ↦ a.levels m k
      ];
    }

pages_said : (case : Case) (budget : ℕ) (j : List Entry) (viewer index : ℕ) (said : Command) (told : Reply) (fs : List (Option Fact)) (pages : Option (List Pages))
    → published j ≤ last_begun j + 1 → KeepsPages case budget j fs pages → KeepsPages case budget (j ++ entry.Said viewer index said told ∷ []) fs pages
pages_said case budget j viewer index said told fs None order k = tt
pages_said case budget j viewer index said told fs (Some ps) order (e, board, l, all) =
    let c = l.counted in (
      e,
      board,
      last_said j viewer index said told e (outcome.Board board) l,
      subst (λ gs. AreAllPages case budget gs fs ps) (sym (givens_kept case j (entry.Said viewer index said told) e (omega (arith, c, order)))) all,
    )

-- the desk after an entry of a viewer, with these demanded parts
abbrev pub said_in : DeskView → ℕ → ℕ → Command → Reply → List Bool → DeskView
said_in d viewer index said told marks = record d { journal = d.journal ++ entry.Said viewer index said told ∷ []; demanded = marks }

pub said_keeps : (d : DeskView) (viewer index : ℕ) (said : Command) (told : Reply) (marks : List Bool) → IsDesk d
    → IsSaid d.base.case d.base.budget d.journal viewer index said told → NamesFit d.base.case (Some d.facts) (entry.Said viewer index said told)
    → length (commands_of viewer d.journal) < get_or d.base.lengths viewer 0
    → AreDemanded (d.journal ++ entry.Said viewer index said told ∷ []) d.pages marks → IsDesk (said_in d viewer index said told marks)
said_keeps d viewer index said told marks is legal fit room demands =
    let x : Entry = entry.Said viewer index said told in
    let same = published_said d.journal viewer index said told in record {
      few = is.few;
      legal = legal_more d.base.case d.base.budget d.journal x is.legal legal;
      order = let o = is.order in let g = begun_grows d.journal x in omega (arith, same, o, g);
      within = within_said d.base.lengths d.journal viewer index said told is.within room;
      kept = kept_said d.base.case d.journal x d.givens d.facts d.home same is.order is.kept;
      low = let l = is.low in omega (arith, same, l);
      read = read_said d.base.case d.journal viewer index said told d.facts is.order fit is.read;
      present = present_said d.base.case d.journal x d.facts d.present same is.present;
      pages = pages_said d.base.case d.base.budget d.journal viewer index said told d.facts d.pages is.order is.pages;
      demands = demands;
      earlier = subst (λ n. KeepsEarlier d.base.case d.base.budget n d.pages d.earlier) (sym same) is.earlier;
    }

-- ---- a publication

-- the pages of the last board are kept from its publication on
earlier_published : (case : Case) (budget : ℕ) (j more : List Entry) (fs : List (Option Fact)) (pages : Option (List Pages)) (e : EarlierView)
    → published more ≡ published j + 1 → KeepsPages case budget j fs pages → KeepsEarlier case budget (published j) pages e
    → KeepsEarlier case budget (published more) None (kept_after pages e)
earlier_published case budget j more fs None e p keeps (ordered, few, spent) = (ordered, few, omega (arith, p, spent))
earlier_published case budget j more fs (Some ps) e p (n, board, last, all) (none, spent) =
    (all_ordered case budget (givens_of case j n) fs ps all, pages_few case budget (givens_of case j n) fs ps all, omega (arith, p, spent))

pub published_one : (j : List Entry) (e : ℕ) (o : Outcome) → published (j ++ entry.Published e o ∷ []) ≡ published j + 1
published_one j e o = ap (λ os. length os) (outcomes_published j e o) ∙ length-append (outcomes j) (o ∷ [])

pub begun_same : (j : List Entry) (e : ℕ) (o : Outcome) → last_begun (j ++ entry.Published e o ∷ []) ≡ last_begun j
begun_same j e o = ap (λ es. length es) (changes_same j (entry.Published e o) refl)

within_published : (lengths : List ℕ) (j : List Entry) (e : ℕ) (o : Outcome) → ((w : ℕ) → length (commands_of w j) ≤ get_or lengths w 0)
    → (w : ℕ) → length (commands_of w (j ++ entry.Published e o ∷ [])) ≤ get_or lengths w 0
within_published lengths j e o old w =
    let x : Entry = entry.Published e o in
    let more : length (commands_of w (j ++ x ∷ [])) ≡ length (commands_of w j) + length (commands_of w (x ∷ [])) =
    ap (λ t. length t) (filter_map-append (command_by w) j (x ∷ [])) ∙ length-append (commands_of w j) (commands_of w (x ∷ [])) in
    let l = old w in omega (arith, more, l)

contradict_more : (case : Case) (j : List Entry) (o : Outcome) (first : ℕ) → published j ≤ last_begun j
    → (Agree (givens_of case j (published j)) → ⊥) → ContradictFrom case j first
    → ContradictFrom case (j ++ entry.Published (published j) o ∷ []) first
contradict_more case j o first begun clash old e from below agree =
    let x : Entry = entry.Published (published j) o in
    let p = published_one j (published j) o in
    elim (last_or e (published j) (omega (arith, p, below))) [
      | inl l ↦ contradict_stays case j x first (omega (arith, begun)) old e from l agree
      | inr s ↦ clash (subst Agree (ap (givens_of case (j ++ x ∷ [])) s ∙ givens_kept case j x (published j) begun) agree)
    ]

kept_clash : (case : Case) (j : List Entry) (o : Outcome) (gs : List Given) (fs : List (Option Fact)) (home : Option HomeView)
    → published j ≤ last_begun j → (Agree (givens_of case j (published j)) → ⊥) → IsKept case j gs fs home
    → IsKept case (j ++ entry.Published (published j) o ∷ []) gs fs home
kept_clash case j o gs fs None begun clash k = (k.0, k.1, contradict_more case j o 0 begun clash k.2)
kept_clash case j o gs fs (Some home) begun clash k = record {
  epoch = k.epoch;
  is_published = let p = k.is_published in let q = published_one j (published j) o in omega (arith, p, q);
  later = contradict_more case j o (k.epoch + 1) begun clash k.later;
  its = k.its ∙ sym (givens_kept case j (entry.Published (published j) o) k.epoch (let p = k.is_published in omega (arith, begun, p)));
  agree = k.agree;
  rule = k.rule;
  of_case = k.of_case;
  of_givens = k.of_givens;
  seen = k.seen;
}

last_outcome : (j : List Entry) (n e : ℕ) (o p : Outcome) → IsLast (j ++ entry.Published n o ∷ []) e p → (e ≡ published j) × (o ≡ p)
last_outcome j n e o p l =
    let c = l.counted in let q = published_one j n o in
    (omega (arith, c, q), same (sym (last_more (outcomes j) o) ∙ ap (λ os. last_of os) (sym (outcomes_published j n o)) ∙ l.is))
  where
    same : {a b : Outcome} → Some a ≡ Some b → a ≡ b
    same e = cc

-- the desk after a publication, with other givens and facts kept, if there are some
abbrev pub published_in : DeskView → Outcome → List Given → List (Option Fact) → Option HomeView → DeskView
published_in d o gs fs home = record d { journal = d.journal ++ entry.Published (published d.journal) o ∷ []; givens = gs; facts = fs; home = home; present = None; pages = None; earlier = kept_after d.pages d.earlier }

-- an epoch is published whose givens contradict each other
pub clash_keeps : (d : DeskView) (pins : List Pin) (log : Log) → IsDesk d → published d.journal ≤ last_begun d.journal
    → (Agree (givens_of d.base.case d.journal (published d.journal)) → ⊥)
    → IsOutcome d.base.case d.journal (published d.journal) (outcome.Impossible pins log)
    → IsDesk (published_in d (outcome.Impossible pins log) d.givens d.facts d.home)
clash_keeps d pins log is begun clash right =
    let o : Outcome = outcome.Impossible pins log in
    let p = published_one d.journal (published d.journal) o in
    let b = begun_same d.journal (published d.journal) o in record {
      few = is.few;
      legal = legal_more d.base.case d.base.budget d.journal (entry.Published (published d.journal) o) is.legal (record { next = refl; begun = begun; right = right });
      order = omega (arith, p, b, begun);
      within = within_published d.base.lengths d.journal (published d.journal) o is.within;
      kept = kept_clash d.base.case d.journal o d.givens d.facts d.home begun clash is.kept;
      low = let l = is.low in omega (arith, p, l);
      read = λ e board last. absurd (no_board pins log board (last_outcome d.journal (published d.journal) e o (outcome.Board board) last).1);
      present = tt;
      pages = tt;
      demands = demanded_published d.journal (published d.journal) o;
      earlier = earlier_published d.base.case d.base.budget d.journal (d.journal ++ entry.Published (published d.journal) o ∷ []) d.facts d.pages d.earlier p is.pages is.earlier;
    }
  where
    no_board : (pins : List Pin) (log : Log) (board : List (Option Order)) → outcome.Impossible pins log ≡ outcome.Board board → ⊥
    no_board pins log board e = cc

-- an epoch is published by what was found on a board of it
pub found_keeps : (d : DeskView) (o : Outcome) (gs : List Given) (fs : List (Option Fact)) (home : HomeView) → IsDesk d
    → published d.journal ≤ last_begun d.journal → IsOutcome d.base.case d.journal (published d.journal) o → AreOfBoard o fs
    → gs ≡ givens_of d.base.case d.journal (published d.journal) → Agree gs
    → MeetsFactRule d.base.case.system.vars d.base.case.system.constraints gs fs
    → (arc_value home.board.opening.case ≡ d.base.case) × (home.board.opening.givens ≡ gs)
    → ((v : ℕ) → v < d.base.case.system.vars → fact_at fs v ≡ fact_seen home.seat.view v)
    → top_level fs ≤ (published d.journal + 1) * 2 ^ 18
    → IsDesk (published_in d o gs fs (Some home))
found_keeps d o gs fs home is begun right shown its agree rule of seen low =
    let n = published d.journal in
    let x : Entry = entry.Published n o in
    let p = published_one d.journal n o in
    let b = begun_same d.journal n o in
    let here : gs ≡ givens_of d.base.case (d.journal ++ x ∷ []) n = its ∙ sym (givens_kept d.base.case d.journal x n begun) in record {
      few = is.few;
      legal = legal_more d.base.case d.base.budget d.journal x is.legal (record { next = refl; begun = begun; right = right });
      order = omega (arith, p, b, begun);
      within = within_published d.base.lengths d.journal n o is.within;
      kept = record {
        epoch = n;
        is_published = omega (arith, p);
        later = λ e from below agree. omega (arith, p, from, below);
        its = here;
        agree = agree;
        rule = rule;
        of_case = of.0;
        of_givens = of.1;
        seen = seen;
      };
      low = subst (λ k. top_level fs ≤ k * 2 ^ 18) (sym p) low;
      read = λ e board last.
          let r = last_outcome d.journal n e o (outcome.Board board) last in record {
            rule = subst (λ k. AreFactsOf d.base.case (d.journal ++ x ∷ []) k fs) (sym r.0)
                (subst (λ g. MeetsFactRule d.base.case.system.vars d.base.case.system.constraints g fs) here rule);
            board = subst (λ y. AreOfBoard y fs) r.1 shown;
            levels = λ m named. absurd (named_published d.journal n o m named);
          };
      present = tt;
      pages = tt;
      demands = demanded_published d.journal n o;
      earlier = earlier_published d.base.case d.base.budget d.journal (d.journal ++ x ∷ []) d.facts d.pages d.earlier p is.pages is.earlier;
    }
