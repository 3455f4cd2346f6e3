-- What the numbers of a `stack` give.
use Rattle.std.proofs.Common.{◌≡◌, ℕ, zero, suc, ◌+◌, ◌*◌, ◌/◌, ◌%◌, ◌<◌, ◌≤◌, inl, inr, List, [], ◌∷◌, ◌++◌, length, map, take, drop, slice_get, sym, refl, ap, ◌∙◌, subst, arith, Option, Some, None}
use Rattle.std.proofs.lemmas.List.{take_more, take_all}
use Rattle.std.proofs.lemmas.Option.{slice_get-get_or, slice_get_within}
use Rattle.ff_tables.specs.declared.orders.Order.{Order}
use Rattle.ff_tables.specs.declared.givens.Given.{Given}
use Rattle.ff_types.specs.declared.cases.Case.{Case}
use Rattle.ff_propagate.specs.declared.facts.Fact.{Fact}
use Rattle.ff_propagate.specs.Facts.{value_at, seen}
use Rattle.ff_propagate.specs.Solutions.{solutions_of}
use Rattle.ff_propagate.specs.Trees.{Tree, IsTree, turns_to_page, page_of}
use Rattle.ff_pages.specs.declared.pages.Pages.{Pages}
use Rattle.ff_pages.specs.declared.pages.PageAnswer.TheVariants as answer
use Rattle.ff_pages.specs.Paging.{IsPage}
use Rattle.ff_log.specs.declared.logs.Log.{Log}
use Rattle.ff_viewer.specs.declared.replies.Reply.{Reply}
use Rattle.ff_viewer.specs.declared.replies.Reply.TheVariants as reply
use Rattle.ff_journal.specs.Publications.{on_board}
use Rattle.ff_journal.specs.Pages.{IsBeyond, IsWithin, HasNone}
use Rattle.ff_journal.specs.Replies.{HasSolution, HaveSolutions, IsStop, IsFirstStop}
use Rattle.ff_journal.proofs.LastPublished.{value_is}
use Rattle.ff_told.specs.declared.stacking.Chosen.{Chosen}
use Rattle.ff_told.specs.declared.stacking.Chosen.TheVariants as chosen
use Rattle.ff_told.specs.Paged.{AreAllPages, parts_of}
use Rattle.ff_told.specs.Paged.{KeepAllPages, IsPageAt}
use Rattle.ff_told.specs.Stacked.{IsPicked, IsChosen, AreChosen}

-- ---- a place on a page

on_front : {X : Type 0} (n r : ℕ) (ys : List X) (x : X) → slice_get (take n ys) r ≡ Some x → slice_get ys r ≡ Some x
on_front zero r ys x h = absurd (nothing r x h)
  where
    nothing : {X : Type 0} (r : ℕ) (x : X) → slice_get [] r ≡ Some x → ⊥
    nothing r x h = cc
on_front (suc n) r [] x h = h
on_front (suc n) zero (y ∷ ys) x h = h
on_front (suc n) (suc r) (y ∷ ys) x h = on_front n r ys x h

zero_more : (r : ℕ) → r ≡ 0 + r
zero_more r = omega arith

one_more : (m r : ℕ) → suc (m + r) ≡ suc m + r
one_more m r = omega arith

on_rest : {X : Type 0} (m r : ℕ) (ys : List X) (x : X) → slice_get (drop m ys) r ≡ Some x → slice_get ys (m + r) ≡ Some x
on_rest zero r ys x h = subst (λ k. slice_get ys k ≡ Some x) (zero_more r) h
on_rest (suc m) r [] x h = cc
on_rest (suc m) r (y ∷ ys) x h = subst (λ k. slice_get (y ∷ ys) k ≡ Some x) (one_more m r) (on_rest m r ys x h)

page_place : {X : Type 0} (m r : ℕ) (xs : List X) (x : X) → slice_get (take 64 (drop m xs)) r ≡ Some x → slice_get xs (m + r) ≡ Some x
page_place m r xs x h = on_rest m r xs x (on_front 64 r (drop m xs) x h)

past_end : {X : Type 0} (xs : List X) (k : ℕ) → length xs ≤ k → slice_get xs k ≡ None
past_end [] zero l = refl
past_end [] (suc k) l = refl
past_end (x ∷ xs) zero l = absurd (omega (arith, l))
past_end (x ∷ xs) (suc k) l = past_end xs k (omega (arith, l))

short_page : {X : Type 0} (m r : ℕ) (xs : List X) → length (take 64 (drop m xs)) ≤ r → r < 64 → length xs ≤ m + r
short_page m r xs l few = dropped m xs (taken 64 r (drop m xs) l few)
  where
    taken : {X : Type 0} (n r : ℕ) (ys : List X) → length (take n ys) ≤ r → r < n → length ys ≤ r
    taken zero r ys l f = absurd (omega (arith, f))
    taken (suc n) r [] l f = omega arith
    taken (suc n) zero (y ∷ ys) l f = absurd (omega (arith, l))
    taken (suc n) (suc r) (y ∷ ys) l f = let h = taken n r ys (omega (arith, l)) (omega (arith, f)) in omega (arith, h)

    dropped : {X : Type 0} (m : ℕ) (ys : List X) → length (drop m ys) ≤ r → length ys ≤ m + r
    dropped zero ys l = omega (arith, l)
    dropped (suc m) [] l = omega arith
    dropped (suc m) (y ∷ ys) l = let h = dropped m ys l in omega (arith, h)

some_on_page : {X : Type 0} (m : ℕ) (xs : List X) → 0 < length (take 64 (drop m xs)) → 0 < length xs
some_on_page zero [] l = l
some_on_page (suc m) [] l = l
some_on_page m (x ∷ xs) l = omega arith

few_passed : {X : Type 0} (n : ℕ) (xs : List X) → take 64 (drop n xs) ≡ [] → length xs ≤ n
few_passed zero [] e = omega arith
few_passed zero (x ∷ xs) e = cc
few_passed (suc n) [] e = omega arith
few_passed (suc n) (x ∷ xs) e = let r = few_passed n xs e in omega (arith, r)

whole : (k : ℕ) → 64 * (k / 64) + k % 64 ≡ k
whole k = omega arith

below : (k : ℕ) → k % 64 < 64
below k = omega arith

-- ---- one part

at_value : (case : Case) (fs : List (Option Fact)) (vars : List ℕ) (budget k : ℕ) (tree : Tree) → IsTree case.system.constraints (value_at fs) vars tree
    → turns_to_page vars tree k ≤ budget → IsWithin case.system.constraints (on_board (map seen fs)) vars budget k
at_value case fs vars budget k tree is covered = subst (λ v. IsWithin case.system.constraints v vars budget k) (sym (value_is fs (map seen fs) refl))
    (record { tree = tree; is_tree = is; covered = covered })

-- a page's solutions, and the one at the place
pub page_picks : (case : Case) (pages : List Pages) (p k : ℕ) (solutions : List (List Order)) (c : Chosen) → IsPageAt case pages p (k / 64) (answer.Page solutions)
    → IsPicked solutions p (k % 64) c → IsChosen case pages p k c
page_picks case pages p k solutions (chosen.Solution solution) at picked budget gs fs vars are is = from (at budget gs fs vars are is).0
  where
    from : IsPage case.system.constraints fs vars budget (k / 64) (answer.Page solutions) → HasSolution case (map seen fs) budget vars k solution
    from (tree, is_tree, sols, (covered, page, some)) = record {
      within = at_value case fs vars budget (k / 64) tree is_tree covered;
      is = subst (λ v. slice_get (solutions_of case.system.constraints v vars) k ≡ Some solution) (sym (value_is fs (map seen fs) refl))
          (subst (λ n. slice_get (solutions_of case.system.constraints (value_at fs) vars) n ≡ Some solution) (whole k)
          (page_place (64 * (k / 64)) (k % 64) (solutions_of case.system.constraints (value_at fs) vars) solution
          (subst (λ xs. slice_get xs (k % 64) ≡ Some solution) (page ∙ ap (page_of (k / 64)) sols) picked)));
    }
page_picks case pages p k solutions (chosen.Stop told) at (few, t) budget gs fs vars are is =
    subst (λ x. IsStop case (map seen fs) budget p vars k x) (sym t) (from (at budget gs fs vars are is).0)
  where
    from : IsPage case.system.constraints fs vars budget (k / 64) (answer.Page solutions) → IsStop case (map seen fs) budget p vars k (reply.PartPast p)
    from (tree, is_tree, sols, (covered, page, some)) =
        let all = solutions_of case.system.constraints (value_at fs) vars in
        let same : solutions ≡ page_of (k / 64) all = page ∙ ap (page_of (k / 64)) sols in
        let w = whole k in
        let short = short_page (64 * (k / 64)) (k % 64) all (subst (λ xs. length xs ≤ k % 64) same few) (below k) in (
          refl,
          at_value case fs vars budget (k / 64) tree is_tree covered,
          subst (λ v. 0 < length (solutions_of case.system.constraints v vars)) (sym (value_is fs (map seen fs) refl))
              (some_on_page (64 * (k / 64)) all (subst (λ xs. 0 < length xs) same some)),
          subst (λ v. slice_get (solutions_of case.system.constraints v vars) k ≡ None) (sym (value_is fs (map seen fs) refl))
              (past_end all k (subst (λ n. length all ≤ n) w short)),
        )

pub past_stops : (case : Case) (pages : List Pages) (p k count : ℕ) → IsPageAt case pages p (k / 64) (answer.Past count)
    → IsChosen case pages p k (chosen.Stop (reply.PartPast p))
past_stops case pages p k count at budget gs fs vars are is = from (at budget gs fs vars are is).0
  where
    from : IsPage case.system.constraints fs vars budget (k / 64) (answer.Past count) → IsStop case (map seen fs) budget p vars k (reply.PartPast p)
    from (tree, is_tree, sols, (covered, counted, some, none)) =
        let all = solutions_of case.system.constraints (value_at fs) vars in
        let few = few_passed (64 * (k / 64)) all (ap (page_of (k / 64)) (sym sols) ∙ none) in
        let w = whole k in
        let n : count ≡ length all = counted ∙ ap (λ xs. length xs) sols in (
          refl,
          at_value case fs vars budget (k / 64) tree is_tree covered,
          subst (λ v. 0 < length (solutions_of case.system.constraints v vars)) (sym (value_is fs (map seen fs) refl)) (subst (λ m. 0 < m) n some),
          subst (λ v. slice_get (solutions_of case.system.constraints v vars) k ≡ None) (sym (value_is fs (map seen fs) refl))
              (past_end all k (omega (arith, few, w))),
        )

pub none_stops : (case : Case) (pages : List Pages) (p k : ℕ) (log : Log) → IsPageAt case pages p (k / 64) (answer.None log)
    → IsChosen case pages p k (chosen.Stop (reply.PartNone p))
none_stops case pages p k log at budget gs fs vars are is = from (at budget gs fs vars are is).0
  where
    from : IsPage case.system.constraints fs vars budget (k / 64) (answer.None log) → IsStop case (map seen fs) budget p vars k (reply.PartNone p)
    from (tree, is_tree, sols, (covered, none)) = (
      refl,
      subst (λ v. HasNone case.system.constraints v vars budget) (sym (value_is fs (map seen fs) refl))
          (record { tree = tree; is_tree = is_tree; covered = covered; none = sym sols ∙ none }),
    )

pub unfinished_stops : (case : Case) (pages : List Pages) (p k : ℕ) → IsPageAt case pages p (k / 64) answer.Unfinished
    → IsChosen case pages p k (chosen.Stop (reply.PartUnfinished p))
unfinished_stops case pages p k at budget gs fs vars are is = from (at budget gs fs vars are is).0
  where
    from : IsPage case.system.constraints fs vars budget (k / 64) answer.Unfinished → IsStop case (map seen fs) budget p vars k (reply.PartUnfinished p)
    from (tree, is_tree, sols, more) = (
      refl,
      subst (λ v. IsBeyond case.system.constraints v vars budget (k / 64)) (sym (value_is fs (map seen fs) refl))
          (record { tree = tree; is_tree = is_tree; more = more }),
    )

-- ---- all parts

have_more : (case : Case) (board : List (Option Order)) (budget : ℕ) (ps : List (List ℕ)) (cs : List ℕ) (ss : List (List Order)) (vars : List ℕ) (k : ℕ) (s : List Order)
    → HaveSolutions case board budget ps cs ss → HasSolution case board budget vars k s
    → HaveSolutions case board budget (ps ++ vars ∷ []) (cs ++ k ∷ []) (ss ++ s ∷ [])
have_more case board budget [] [] [] vars k s h one = (one, tt)
have_more case board budget [] [] (x ∷ ss) vars k s h one = absurd h
have_more case board budget [] (c ∷ cs) ss vars k s h one = absurd h
have_more case board budget (p ∷ ps) [] ss vars k s h one = absurd h
have_more case board budget (p ∷ ps) (c ∷ cs) [] vars k s h one = absurd h
have_more case board budget (p ∷ ps) (c ∷ cs) (x ∷ ss) vars k s h one = (h.0, have_more case board budget ps cs ss vars k s h.1 one)

first_stop : (case : Case) (board : List (Option Order)) (budget p n : ℕ) (ps : List (List ℕ)) (cs : List ℕ) (ss : List (List Order)) (vars : List ℕ) (k : ℕ)
    (rest : List (List ℕ)) (more : List ℕ) (told : Reply) → n ≡ p + length ps → HaveSolutions case board budget ps cs ss → IsStop case board budget n vars k told
    → IsFirstStop case board budget p (ps ++ vars ∷ rest) (cs ++ k ∷ more) told
first_stop case board budget p n [] [] [] vars k rest more told e h stop = inl (subst (λ m. IsStop case board budget m vars k told) (omega (arith, e)) stop)
first_stop case board budget p n [] [] (x ∷ ss) vars k rest more told e h stop = absurd h
first_stop case board budget p n [] (c ∷ cs) ss vars k rest more told e h stop = absurd h
first_stop case board budget p n (q ∷ ps) [] ss vars k rest more told e h stop = absurd h
first_stop case board budget p n (q ∷ ps) (c ∷ cs) [] vars k rest more told e h stop = absurd h
first_stop case board budget p n (q ∷ ps) (c ∷ cs) (x ∷ ss) vars k rest more told e h stop =
    inr (x, h.0, first_stop case board budget (suc p) n ps cs ss vars k rest more told (omega (arith, e)) h.1 stop)

at_next : {X : Type 0} (xs : List X) (i : ℕ) (x : X) → slice_get xs i ≡ Some x → take (i + 1) xs ≡ take i xs ++ x ∷ []
at_next xs i x h =
    let l = slice_get_within xs i x h in
    take_more xs i x l ∙ ap (λ y. take i xs ++ y ∷ []) (same (sym (slice_get-get_or xs i x l) ∙ h))
  where
    same : {X : Type 0} {a b : X} → Some a ≡ Some b → a ≡ b
    same e = cc

split_at : {X : Type 0} (xs : List X) (i : ℕ) (x : X) → slice_get xs i ≡ Some x → xs ≡ take i xs ++ x ∷ drop (suc i) xs
split_at [] zero x h = cc
split_at [] (suc i) x h = cc
split_at (y ∷ xs) zero x h = cc
split_at (y ∷ xs) (suc i) x h = ap (λ ys. y ∷ ys) (split_at xs i x h)

taken_long : {X : Type 0} (xs : List X) (i : ℕ) (x : X) → slice_get xs i ≡ Some x → length (take i xs) ≡ i
taken_long [] zero x h = cc
taken_long [] (suc i) x h = cc
taken_long (y ∷ xs) zero x h = refl
taken_long (y ∷ xs) (suc i) x h = ap suc (taken_long xs i x h)

part_there : (pages : List Pages) (i : ℕ) → i < length pages → (vars : List ℕ) × (slice_get (parts_of pages) i ≡ Some vars)
part_there [] i l = absurd (omega (arith, l))
part_there (p ∷ pages) zero l = (p.part.vars, refl)
part_there (p ∷ pages) (suc i) l = part_there pages i (omega (arith, l))

-- what a part gives now it gave at first
chosen_first : (case : Case) (pages now : List Pages) (i k : ℕ) (c : Chosen) → KeepAllPages case pages now → IsChosen case now i k c → IsChosen case pages i k c
chosen_first case pages now i k c keep is budget gs fs vars are at =
    is budget gs fs vars (keep.all budget gs fs are) (ap (λ ps. slice_get ps i) keep.parts ∙ at)

pub chosen_more : (case : Case) (pages now : List Pages) (choice : List ℕ) (i k : ℕ) (solutions more : List (List Order)) (s : List Order) → i < length pages
    → slice_get choice i ≡ Some k → KeepAllPages case pages now → IsChosen case now i k (chosen.Solution s) → more ≡ solutions ++ s ∷ []
    → AreChosen case pages choice i solutions → AreChosen case pages choice (i + 1) more
chosen_more case pages now choice i k solutions more s l at keep is add are budget gs fs all =
    let r = part_there pages i l in
    subst (λ xs. HaveSolutions case (map seen fs) budget (take (i + 1) (parts_of pages)) (take (i + 1) choice) xs) (sym add)
    (subst (λ xs. HaveSolutions case (map seen fs) budget xs (take (i + 1) choice) (solutions ++ s ∷ [])) (sym (at_next (parts_of pages) i r.0 r.1))
    (subst (λ xs. HaveSolutions case (map seen fs) budget (take i (parts_of pages) ++ r.0 ∷ []) xs (solutions ++ s ∷ [])) (sym (at_next choice i k at))
    (have_more case (map seen fs) budget (take i (parts_of pages)) (take i choice) solutions r.0 k s (are budget gs fs all)
    (chosen_first case pages now i k (chosen.Solution s) keep is budget gs fs r.0 all r.1))))

pub chosen_all : (case : Case) (pages : List Pages) (choice : List ℕ) (i : ℕ) (solutions : List (List Order)) → length choice ≤ i → length choice ≡ length pages
    → AreChosen case pages choice i solutions → (budget : ℕ) (gs : List Given) (fs : List (Option Fact)) → AreAllPages case budget gs fs pages
    → HaveSolutions case (map seen fs) budget (parts_of pages) choice solutions
chosen_all case pages choice i solutions e many are budget gs fs all =
    subst (λ xs. HaveSolutions case (map seen fs) budget xs choice solutions) (take_all i (parts_of pages) (let l = long pages in omega (arith, e, many, l)))
    (subst (λ xs. HaveSolutions case (map seen fs) budget (take i (parts_of pages)) xs solutions) (take_all i choice e) (are budget gs fs all))
  where
    long : (ps : List Pages) → length (parts_of ps) ≡ length ps
    long [] = refl
    long (p ∷ ps) = ap suc (long ps)

pub chosen_stops : (case : Case) (pages now : List Pages) (choice : List ℕ) (i k : ℕ) (solutions : List (List Order)) (told : Reply) → i < length pages
    → slice_get choice i ≡ Some k → KeepAllPages case pages now → IsChosen case now i k (chosen.Stop told) → AreChosen case pages choice i solutions
    → (budget : ℕ) (gs : List Given) (fs : List (Option Fact)) → AreAllPages case budget gs fs pages
    → IsFirstStop case (map seen fs) budget 0 (parts_of pages) choice told
chosen_stops case pages now choice i k solutions told l at keep is are budget gs fs all =
    let r = part_there pages i l in
    subst (λ xs. IsFirstStop case (map seen fs) budget 0 xs choice told) (sym (split_at (parts_of pages) i r.0 r.1))
    (subst (λ xs. IsFirstStop case (map seen fs) budget 0 (take i (parts_of pages) ++ r.0 ∷ drop (suc i) (parts_of pages)) xs told) (sym (split_at choice i k at))
    (first_stop case (map seen fs) budget 0 i (take i (parts_of pages)) (take i choice) solutions r.0 k (drop (suc i) (parts_of pages)) (drop (suc i) choice) told
    (let t = taken_long (parts_of pages) i r.0 r.1 in omega (arith, t)) (are budget gs fs all)
    (chosen_first case pages now i k (chosen.Stop told) keep is budget gs fs r.0 all r.1)))

pub keeps_on : (case : Case) (a b c : List Pages) → KeepAllPages case a b → KeepAllPages case b c → KeepAllPages case a c
keeps_on case a b c k l = record { parts = l.parts ∙ k.parts; all = λ budget gs fs are. l.all budget gs fs (k.all budget gs fs are) }
