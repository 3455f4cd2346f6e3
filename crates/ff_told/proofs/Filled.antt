-- All pairs, with a solution of each part.
use Rattle.std.proofs.Common.{◌≡◌, ℕ, zero, suc, ◌+◌, ◌<◌, ◌≤◌, inl, inr, false, List, [], ◌∷◌, ◌++◌, length, map, take, drop, get_or, slice_get, sym, refl, ap, ◌∙◌, subst, arith, Option, Some, None, Contains}
use Rattle.std.proofs.lemmas.List.{append-nil, take_all}
use Rattle.std.proofs.lemmas.List.Elements.{Contains-append_cases}
use Rattle.std.proofs.lemmas.Option.{slice_get-get_or, slice_get_within, get_or_from_slice_get}
use Rattle.ff_basics.proofs.Memberships.{by_member, in_map, in_filter, no_member}
use Rattle.ff_tables.specs.declared.orders.Order.{Order}
use Rattle.ff_tables.specs.declared.orders.Order.TheVariants.{Below, Above}
use Rattle.ff_tables.specs.declared.terms.Constraint.{Constraint}
use Rattle.ff_tables.specs.declared.givens.Given.{Given}
use Rattle.ff_tables.specs.Rows.{all_lists}
use Rattle.ff_types.specs.declared.cases.Case.{Case}
use Rattle.ff_propagate.specs.declared.facts.Fact.{Fact}
use Rattle.ff_propagate.specs.Facts.{value_at, seen}
use Rattle.ff_propagate.specs.Choices.{value_of}
use Rattle.ff_propagate.specs.Parts.{AreParts}
use Rattle.ff_propagate.specs.Solutions.{joint, is_solution, solutions_of}
use Rattle.ff_pages.specs.declared.pages.Pages.{Pages}
use Rattle.ff_viewer.specs.declared.commands.Question.TheVariants as ask
use Rattle.ff_viewer.specs.declared.replies.Reply.{Reply}
use Rattle.ff_viewer.specs.declared.replies.Reply.TheVariants as reply
use Rattle.ff_journal.specs.declared.entries.Entry.{Entry}
use Rattle.ff_journal.specs.declared.entries.Outcome.{Outcome}
use Rattle.ff_journal.specs.declared.entries.Outcome.TheVariants as outcome
use Rattle.ff_journal.specs.Epochs.{last_of, givens_of}
use Rattle.ff_journal.specs.Publications.{on_board, outcomes, published, IsLast}
use Rattle.ff_journal.specs.Replies.{HasSolution, HaveSolutions, IsFirstStop, from_to, stack_of, IsStackOf}
use Rattle.ff_journal.specs.Answering.{is_board, shows_board}
use Rattle.ff_journal.proofs.LastPublished.{no_board_last}
use Rattle.ff_told.specs.Paged.{AreAllPages, parts_of}
use Rattle.ff_told.specs.Paged.{AnswersLast}
use Rattle.ff_told.specs.Stacked.{AreValues, AreLongAs, IsStackTold}
use Rattle.ff_told.proofs.Kept.{AreKept, board_parts}

-- ---- values by parts

drop_at : {X : Type 0} (xs : List X) (i : ℕ) (x : X) → slice_get xs i ≡ Some x → drop i xs ≡ x ∷ drop (suc i) xs
drop_at [] zero x h = cc
drop_at [] (suc i) x h = cc
drop_at (y ∷ xs) zero x h = cc
drop_at (y ∷ xs) (suc i) x h = drop_at xs i x h

drop_whole : {X : Type 0} (n : ℕ) (xs : List X) → length xs ≤ n → drop n xs ≡ []
drop_whole zero [] l = refl
drop_whole zero (x ∷ xs) l = absurd (omega (arith, l))
drop_whole (suc n) [] l = refl
drop_whole (suc n) (x ∷ xs) l = drop_whole n xs (omega (arith, l))

-- a slice that is written back to its list
pub written : {X : Type 0} (n : ℕ) (new old : List X) → length new ≡ n → length old ≤ n → take n (new ++ drop (length new) old) ≡ new
written n new old e l =
    ap (λ xs. take n (new ++ xs)) (drop_whole (length new) old (omega (arith, e, l))) ∙ ap (λ xs. take n xs) (append-nil new) ∙ take_all n new (omega (arith, e))

pub all_next : (value : ℕ → Option Order) (parts : List (List ℕ)) (sols : List (List Order)) (at n : ℕ) (vars : List ℕ) (sol : List Order) (values more : List (Option Order))
    → slice_get parts at ≡ Some vars → slice_get sols at ≡ Some sol → suc at ≡ n
    → ((v : ℕ → Option Order) → AreValues v values → AreValues (joint v vars sol) more)
    → AreValues (value_of value (drop n parts) (drop n sols)) values → AreValues (value_of value (drop at parts) (drop at sols)) more
all_next value parts sols at n vars sol values more v w e fill are =
    subst (λ xs. AreValues (value_of value xs (drop at sols)) more) (sym (drop_at parts at vars v))
    (subst (λ ys. AreValues (value_of value (vars ∷ drop (suc at) parts) ys) more) (sym (drop_at sols at sol w))
    (fill (value_of value (drop (suc at) parts) (drop (suc at) sols))
    (subst (λ k. AreValues (value_of value (drop k parts) (drop k sols)) values) (sym e) are)))

-- ---- the whole list

listed : (value : ℕ → Option Order) (n : ℕ) (xs : List (Option Order)) → ((v : ℕ) → v < length xs → get_or xs v None ≡ value (n + v))
    → xs ≡ map value (from_to n (length xs))
listed value n [] h = refl
listed value n (x ∷ xs) h =
    ap (λ y. y ∷ xs) (h 0 (omega arith) ∙ ap value (none_more n))
    ∙ ap (λ ys. value n ∷ ys) (listed value (suc n) xs (λ v l. h (suc v) (omega (arith, l)) ∙ ap value (one_more n v)))
  where
    none_more : (n : ℕ) → n + 0 ≡ n
    none_more n = omega arith

    one_more : (n v : ℕ) → n + suc v ≡ suc n + v
    one_more n v = omega arith

board_at : (xs : List (Option Order)) (v : ℕ) → get_or xs v None ≡ on_board xs v
board_at [] v = refl
board_at (x ∷ xs) zero = refl
board_at (x ∷ xs) (suc v) = board_at xs v

pub board_values : (xs : List (Option Order)) → AreValues (on_board xs) xs
board_values xs = record { each = λ v l. board_at xs v }

pub stack_is : (board : List (Option Order)) (parts : List (List ℕ)) (sols : List (List Order)) (values : List (Option Order)) → length values ≡ length board
    → AreValues (value_of (on_board board) parts sols) values → values ≡ stack_of board parts sols
stack_is board parts sols values long are =
    listed (value_of (on_board board) parts sols) 0 values (λ v l. are.each v l ∙ ap (value_of (on_board board) parts sols) (zero_more v))
    ∙ ap (λ n. map (value_of (on_board board) parts sols) (from_to 0 n)) long
  where
    zero_more : (v : ℕ) → v ≡ 0 + v
    zero_more v = omega arith

-- ---- how long solutions are

long_in : (n : ℕ) (xs : List Order) → Contains (all_lists n) xs → length xs ≡ n
long_in zero xs c = by_member [] [] xs (λ e. ap (λ ys. length ys) (sym e)) (λ d. absurd (no_member xs d)) c
long_in (suc n) xs c = elim (Contains-append_cases (map (λ rest. Below ∷ rest) (all_lists n)) (map (λ rest. Above ∷ rest) (all_lists n)) xs c) [
  | inl d ↦ let r = in_map (λ rest. Below ∷ rest) (all_lists n) xs d in ap (λ ys. length ys) (sym r.2) ∙ ap suc (long_in n r.0 r.1)
  | inr d ↦ let r = in_map (λ rest. Above ∷ rest) (all_lists n) xs d in ap (λ ys. length ys) (sym r.2) ∙ ap suc (long_in n r.0 r.1)
]

solution_long : (cons : List Constraint) (value : ℕ → Option Order) (vars : List ℕ) (k : ℕ) (s : List Order) → slice_get (solutions_of cons value vars) k ≡ Some s
    → length s ≡ length vars
solution_long cons value vars k s h =
    let all = solutions_of cons value vars in
    let c : Contains all s = (k, slice_get_within all k s h, get_or_from_slice_get all k s s h) in
    long_in (length vars) s (in_filter (is_solution cons value vars) (all_lists (length vars)) s c).0

same_list : {a b : List ℕ} → Some a ≡ Some b → a ≡ b
same_list e = cc

same_orders : {a b : List Order} → Some a ≡ Some b → a ≡ b
same_orders e = cc

solution_at : (case : Case) (board : List (Option Order)) (budget : ℕ) (parts : List (List ℕ)) (choice : List ℕ) (sols : List (List Order)) (k : ℕ) (vars : List ℕ) (s : List Order)
    → HaveSolutions case board budget parts choice sols → slice_get parts k ≡ Some vars → slice_get sols k ≡ Some s → (c : ℕ) × HasSolution case board budget vars c s
solution_at case board budget [] choice sols zero vars s h p q = cc
solution_at case board budget [] choice sols (suc k) vars s h p q = cc
solution_at case board budget (v ∷ parts) [] sols k vars s h p q = absurd h
solution_at case board budget (v ∷ parts) (c ∷ choice) [] k vars s h p q = absurd h
solution_at case board budget (v ∷ parts) (c ∷ choice) (x ∷ sols) zero vars s h p q =
    (c, subst (λ xs. HasSolution case board budget xs c s) (same_list p) (subst (λ y. HasSolution case board budget v c y) (same_orders q) h.0))
solution_at case board budget (v ∷ parts) (c ∷ choice) (x ∷ sols) (suc k) vars s h p q = solution_at case board budget parts choice sols k vars s h.1 p q

pub solutions_fit : (case : Case) (budget b : ℕ) (gs : List Given) (fs : List (Option Fact)) (pages : List Pages) (choice : List ℕ) (sols : List (List Order)) (n : ℕ)
    → AreAllPages case b gs fs pages → HaveSolutions case (map seen fs) budget (parts_of pages) choice sols → n ≡ case.system.vars
    → AreLongAs n (parts_of pages) sols
solutions_fit case budget b gs fs pages choice sols n are have is k vars s p q =
    let r = solution_at case (map seen fs) budget (parts_of pages) choice sols k vars s have p q in
    (solution_long case.system.constraints (on_board (map seen fs)) vars r.0 s r.1.is, λ j l. subst (λ m. get_or vars j 0 < m) (sym is) ((are.parts.each k vars p).undecided j l).variable)

pub solutions_many : (case : Case) (board : List (Option Order)) (budget : ℕ) (parts : List (List ℕ)) (choice : List ℕ) (sols : List (List Order))
    → HaveSolutions case board budget parts choice sols → length sols ≡ length parts
solutions_many case board budget [] [] [] h = refl
solutions_many case board budget [] [] (x ∷ sols) h = absurd h
solutions_many case board budget [] (c ∷ choice) sols h = absurd h
solutions_many case board budget (v ∷ parts) [] sols h = absurd h
solutions_many case board budget (v ∷ parts) (c ∷ choice) [] h = absurd h
solutions_many case board budget (v ∷ parts) (c ∷ choice) (x ∷ sols) h = ap suc (solutions_many case board budget parts choice sols h.1)

-- ---- how many parts there are

pub parts_long : (ps : List Pages) → length (parts_of ps) ≡ length ps
parts_long [] = refl
parts_long (p ∷ ps) = ap suc (parts_long ps)

least_rise : (vars : ℕ) (cons : List Constraint) (value : ℕ → Option Order) (parts : List (List ℕ)) → AreParts vars cons value parts
    → (k : ℕ) (p : List ℕ) → slice_get parts k ≡ Some p → k ≤ get_or p 0 0
least_rise vars cons value parts are zero p h = omega arith
least_rise vars cons value parts are (suc k) p h =
    let l = slice_get_within parts (suc k) p h in
    let q = get_or parts k [] in
    let m : k < length parts = omega (arith, l) in
    let at : slice_get parts k ≡ Some q = slice_get-get_or parts k [] m in
    let r = least_rise vars cons value parts are k q at in
    let s = are.sorted k (suc k) q p (omega arith) at h in
    omega (arith, r, s)

few_parts : (vars : ℕ) (cons : List Constraint) (value : ℕ → Option Order) (parts : List (List ℕ)) → AreParts vars cons value parts → length parts ≤ vars
few_parts vars cons value parts are = by (length parts) refl
  where
    by : (n : ℕ) → length parts ≡ n → length parts ≤ vars
    by zero e = omega (arith, e)
    by (suc n) e =
        let p = get_or parts n [] in
        let at : slice_get parts n ≡ Some p = slice_get-get_or parts n [] (omega (arith, e)) in
        let r = least_rise vars cons value parts are n p at in
        let u = ((are.each n p at).undecided 0 (are.each n p at).some).variable in
        omega (arith, e, r, u)

pub pages_few : (case : Case) (b : ℕ) (gs : List Given) (fs : List (Option Fact)) (pages : List Pages) → AreAllPages case b gs fs pages → length pages ≤ case.system.vars
pages_few case b gs fs pages are =
    let l = few_parts case.system.vars case.system.constraints (value_at fs) (parts_of pages) are.parts in
    let e = parts_long pages in
    omega (arith, l, e)

-- ---- the reply

-- a stop is neither a count nor a stack
stop_is_no_count : (case : Case) (board : List (Option Order)) (budget p count : ℕ) (parts : List (List ℕ)) (choice : List ℕ)
    → IsFirstStop case board budget p parts choice (reply.Count count) → ⊥
stop_is_no_count case board budget p count [] choice h = h
stop_is_no_count case board budget p count (v ∷ parts) [] h = h
stop_is_no_count case board budget p count (v ∷ parts) (c ∷ choice) (inl h) = h
stop_is_no_count case board budget p count (v ∷ parts) (c ∷ choice) (inr h) = stop_is_no_count case board budget (suc p) count parts choice h.2

stop_is_no_stack : (case : Case) (board : List (Option Order)) (budget p : ℕ) (values : List (Option Order)) (parts : List (List ℕ)) (choice : List ℕ)
    → IsFirstStop case board budget p parts choice (reply.Stack values) → ⊥
stop_is_no_stack case board budget p values [] choice h = h
stop_is_no_stack case board budget p values (v ∷ parts) [] h = h
stop_is_no_stack case board budget p values (v ∷ parts) (c ∷ choice) (inl h) = h
stop_is_no_stack case board budget p values (v ∷ parts) (c ∷ choice) (inr h) = stop_is_no_stack case board budget (suc p) values parts choice h.2

pub stop_told : (case : Case) (board : List (Option Order)) (budget : ℕ) (parts : List (List ℕ)) (choice : List ℕ) (told : Reply) → length choice ≡ length parts
    → IsFirstStop case board budget 0 parts choice told → IsStackOf case board budget parts choice told
stop_told case board budget parts choice (reply.Count count) many h = absurd (stop_is_no_count case board budget 0 count parts choice h)
stop_told case board budget parts choice (reply.Stack values) many h = absurd (stop_is_no_stack case board budget 0 values parts choice h)
stop_told case board budget parts choice _ many h = (many, h)

pub stack_told : (case : Case) (board : List (Option Order)) (budget : ℕ) (parts : List (List ℕ)) (choice : List ℕ) (sols : List (List Order)) (told : Reply)
    → HaveSolutions case board budget parts choice sols → told ≡ reply.Stack (stack_of board parts sols) → IsStackOf case board budget parts choice told
stack_told case board budget parts choice sols told have is = subst (λ t. IsStackOf case board budget parts choice t) (sym is) (sols, have, refl)

pub stack_answers : (case : Case) (budget : ℕ) (j : List Entry) (fs : List (Option Fact)) (pages : List Pages) (choice : List ℕ) (told : Reply)
    → AreKept case budget j fs pages → IsStackTold case fs pages choice told → AnswersLast case budget j (ask.Stack choice) told
stack_answers case budget j fs pages choice told kept t = (
  kept.epoch,
  outcome.Board kept.board,
  kept.last,
  (
    parts_of pages,
    board_parts case budget (givens_of case j kept.epoch) fs kept.board pages kept.value kept.all,
    subst (λ b. IsStackOf case b budget (parts_of pages) choice told) (sym kept.is) (t budget (givens_of case j kept.epoch) kept.all),
  ),
)

pub impossible_stack : (case : Case) (budget : ℕ) (j : List Entry) (choice : List ℕ) → 0 < published j → shows_board (last_of (outcomes j)) ≡ false
    → AnswersLast case budget j (ask.Stack choice) reply.Impossible
impossible_stack case budget j choice l h = let r = no_board_last j l h in by r.0 r.1 r.2 r.3
  where
    by : (e : ℕ) (o : Outcome) → is_board o ≡ false → IsLast j e o → AnswersLast case budget j (ask.Stack choice) reply.Impossible
    by e (outcome.Board board) b m = cc
    by e (outcome.Impossible pins log) b m = (e, outcome.Impossible pins log, m, refl)
