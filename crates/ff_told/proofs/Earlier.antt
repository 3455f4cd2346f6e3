-- What pages of an earlier board have found is kept.
use Rattle.std.proofs.Common.{◌≡◌, ℕ, zero, suc, ◌+◌, ◌*◌, ◌<◌, ◌≤◌, ◌↔◌, ◌⊎◌, inl, inr, true, false, IsTrue, Bool, List, [], ◌∷◌, ◌++◌, length, take, get_or, set, slice_get, slice_index, refl, sym, ap, ◌∙◌, subst, arith, Option, Some, None, Result, Ok, Err}
use Rattle.std.specs.Ordering.{nat_cmp, ordering_index}
use Rattle.std.specs.List.Sorted.{IsBinarySearchResult, IsNonDecreasingBy}
use Rattle.std.proofs.lemmas.Cmp.{ranked}
use Rattle.std.proofs.lemmas.Bool.{cases_lt, cases_eq}
use Rattle.std.proofs.lemmas.Bool.Decides.{nat_tests}
use Rattle.std.proofs.lemmas.List.{take_more, length-append, length-set}
use Rattle.std.proofs.lemmas.Option.{slice_get_within, slice_get-get_or, get_or_from_slice_get}
use Rattle.ff_basics.proofs.Lists.{get_either, get_before, get_last}
use Rattle.ff_tables.specs.declared.terms.Constraint.{Constraint}
use Rattle.ff_tables.specs.declared.givens.Given.{Given}
use Rattle.ff_types.specs.declared.cases.Case.{Case}
use Rattle.ff_propagate.specs.declared.facts.Fact.{Fact}
use Rattle.ff_propagate.specs.Facts.{value_at}
use Rattle.ff_propagate.specs.declared.parts.Part.{Part}
use Rattle.ff_pages.specs.declared.pages.Pages.{Pages}
use Rattle.ff_pages.specs.Paging.{StandsIn, CanKeep, IsSamePages, visited_of}
use Rattle.ff_told.specs.Paged.{AreAllPages, KeepAllPages, parts_of}
use Rattle.ff_told.specs.Earlier.{turns_by, turns_in, AreUnvisited, AreOrdered, AreAlongside, CanKeepFor, HasTaken, HaveTaken, SomeKeeps, HasTakenFrom, HaveTakenFrom, NoneTakes, TakesAt, NoneLeast, LeastAt}
use Rattle.ff_told.proofs.Kept.{parts_at}

same_pages : {a b : Pages} → Some a ≡ Some b → a ≡ b
same_pages e = cc

-- ---- new pages

pub none_visited : AreUnvisited []
none_visited i p h = absurd (nothing p h)
  where
    nothing : (p : Pages) → None ≡ Some p → ⊥
    nothing p e = cc

pub unvisited_more : (pages more : List Pages) (p : Pages) → AreUnvisited pages → visited_of p ≡ 0 → more ≡ pages ++ p ∷ [] → AreUnvisited more
unvisited_more pages more p all none add = subst AreUnvisited (sym add) (λ i x h. elim (get_either pages p x i h) [
  | inl a ↦ all i x a
  | inr b ↦ ap visited_of b.1 ∙ none
])

pub unvisited_turns : (pages : List Pages) → AreUnvisited pages → turns_in pages ≡ 0
unvisited_turns [] all = refl
unvisited_turns (p ∷ pages) all =
    let one : visited_of p ≡ 0 = all 0 p refl in
    let rest = unvisited_turns pages (λ i x h. all (suc i) x h) in
    let none : turns_by p ≡ 0 = ap (λ n. length p.part.vars * n) one ∙ by (length p.part.vars) in omega (arith, none, rest)
  where
    by : (n : ℕ) → n * 0 ≡ 0
    by n = omega arith

pub all_ordered : (case : Case) (budget : ℕ) (gs : List Given) (fs : List (Option Fact)) (pages : List Pages) → AreAllPages case budget gs fs pages
    → AreOrdered case budget pages
all_ordered case budget gs fs pages are = record {
  stand = λ i p h. (are.each i p h).stands;
  budgeted = λ i p h. (are.each i p h).budgeted;
  rising = λ k l p q less a b. are.parts.sorted k l p.part.vars q.part.vars less (parts_at pages k p a) (parts_at pages l q b);
}

pub none_ordered : (case : Case) (budget : ℕ) → AreOrdered case budget []
none_ordered case budget = record {
  stand = λ i p h. absurd (nothing p h);
  budgeted = λ i p h. absurd (nothing p h);
  rising = λ k l p q less a b. absurd (nothing p a);
}
  where
    nothing : (p : Pages) → None ≡ Some p → ⊥
    nothing p e = cc

-- ---- the place of a part

module _ (case : Case) (budget : ℕ) (pages : List Pages) (are : AreOrdered case budget pages) where
  least_rise : (i j : ℕ) (d : Pages) → i ≤ j → j < length pages → get_or (get_or pages i d).part.vars 0 0 ≤ get_or (get_or pages j d).part.vars 0 0
  least_rise i j d le l = elim (cases_eq i j) [
    | inl e ↦ subst (λ n. get_or (get_or pages i d).part.vars 0 0 ≤ get_or (get_or pages n d).part.vars 0 0) e (omega arith)
    | inr ne ↦ (let r = are.rising i j (get_or pages i d) (get_or pages j d) (omega (arith, le, ne)) (slice_get-get_or pages i d (omega (arith, le, l))) (slice_get-get_or pages j d l) in omega (arith, r))
  ]

  tests_rise : (var : ℕ) → IsNonDecreasingBy (λ (p : Pages). ordering_index (nat_cmp (get_or p.part.vars 0 0) var)) pages
  tests_rise var i j d le l = higher (get_or (get_or pages i d).part.vars 0 0) (get_or (get_or pages j d).part.vars 0 0) (least_rise i j d le l)
    where
      higher : (a b : ℕ) → a ≤ b → ordering_index (nat_cmp a var) ≤ ordering_index (nat_cmp b var)
      higher a b le = grind (arith, nat_tests)

  pub none_least : (var at : ℕ) → IsBinarySearchResult (λ (p : Pages). nat_cmp (get_or p.part.vars 0 0) var) pages (Err at) → NoneLeast pages var
  none_least var at parted i p h is =
      let two = parted (tests_rise var) in
      let l = slice_get_within pages i p h in
      let here : get_or pages i p ≡ p = same_pages (sym (slice_get-get_or pages i p l) ∙ h) in
      let value : get_or (get_or pages i p).part.vars 0 0 ≡ var = ap (λ (x : Pages). get_or x.part.vars 0 0) here ∙ is in
      elim (cases_lt i at) [
        | inl below ↦ (let r = ranked _ var _ (sym (two.0 i p (omega arith) below)) in omega (arith, r, value))
        | inr above ↦ (let r = ranked _ var _ (sym (two.1 i p above l)) in omega (arith, r, value))
      ]

  -- two places of pages of the same least variable are one
  pub apart : (i k : ℕ) (p q : Pages) → slice_get pages i ≡ Some p → slice_get pages k ≡ Some q → get_or p.part.vars 0 0 ≡ get_or q.part.vars 0 0
      → (k ≡ i → ⊥) → ⊥
  apart i k p q a b least other =
      elim (cases_lt k i) [
        | inl l ↦ (let r = are.rising k i q p l b a in omega (arith, r, least))
        | inr l ↦ (let r = are.rising i k p q (below (cases_eq k i) l) a b in omega (arith, r, least))
      ]
    where
      below : (k ≡ i) ⊎ (k ≡ i → ⊥) → i ≤ k → i < k
      below (inl e) l = absurd (other e)
      below (inr n) l = omega (arith, n, l)

  pub is_least : (var i : ℕ) → i < length pages → IsBinarySearchResult (λ (p : Pages). nat_cmp (get_or p.part.vars 0 0) var) pages (Ok i) → LeastAt pages var i
  is_least var i l equal =
      let f = there pages i l in
      let here : get_or pages i f.0 ≡ f.0 = get_or_from_slice_get pages i f.0 f.0 f.1 in
      (f.0, f.1, sym (ap (λ (x : Pages). get_or x.part.vars 0 0) here) ∙ ranked _ var _ (sym (equal f.0)))
    where
      there : (xs : List Pages) (i : ℕ) → i < length xs → (x : Pages) × (slice_get xs i ≡ Some x)
      there [] i l = absurd (omega (arith, l))
      there (x ∷ xs) zero l = (x, refl)
      there (x ∷ xs) (suc i) l = there xs i (omega (arith, l))

  -- the earlier pages can't be kept, since those of the part with the same least variable can't
  pub none_else : (cons : List Constraint) (e : Pages) (i : ℕ) (p : Pages) → slice_get pages i ≡ Some p → get_or p.part.vars 0 0 ≡ get_or e.part.vars 0 0
      → (CanKeepFor cons e p → ⊥) → NoneTakes cons e pages
  none_else cons e i p at least never k q b can = by (cases_eq k i)
    where
      by : (k ≡ i) ⊎ (k ≡ i → ⊥) → ⊥
      by (inl is) = never (subst (λ x. CanKeepFor cons e x) (same_pages (sym b ∙ subst (λ n. slice_get pages n ≡ Some p) (sym is) at)) can)
      by (inr other) = apart i k p q at b (least ∙ sym (ap (λ vs. get_or vs 0 0) can.vars_are)) other

  -- the earlier pages can't be kept, since there is no part with the same least variable
  pub none_takes : (cons : List Constraint) (e : Pages) → NoneLeast pages (get_or e.part.vars 0 0) → NoneTakes cons e pages
  none_takes cons e none i p h can = none i p h (ap (λ vs. get_or vs 0 0) can.vars_are)

-- ---- one search is taken over

pub can_same : (cons : List Constraint) (e p q : Pages) → IsSamePages p q → CanKeepFor cons e p → CanKeepFor cons e q
can_same cons e p q same can = subst (λ f. CanKeep cons e (value_at f.value) q.part.vars) (sym same.facts)
    (subst (λ (x : Part). CanKeep cons e (value_at p.facts.value) x.vars) (sym same.part) can)

pub same_back : (p q : Pages) → IsSamePages p q → IsSamePages q p
same_back p q same = record { givens = sym same.givens; facts = sym same.facts; part = sym same.part; budget = sym same.budget }

pub same_on : (p q r : Pages) → IsSamePages p q → IsSamePages q r → IsSamePages p r
same_on p q r a b = record { givens = b.givens ∙ a.givens; facts = b.facts ∙ a.facts; part = b.part ∙ a.part; budget = b.budget ∙ a.budget }

pub same_self : (p : Pages) → IsSamePages p p
same_self p = record { givens = refl; facts = refl; part = refl; budget = refl }

pub none_taken : (cons : List Constraint) (e : Pages) (pages : List Pages) → NoneTakes cons e pages → HaveTaken cons e pages pages
none_taken cons e pages none = record {
  as_many = refl;
  each = λ i p q a b.
      let is : q ≡ p = same_pages (sym b ∙ a) in
      subst (λ x. HasTaken cons e p x) (sym is) (record { same = same_self p; taken = λ can. absurd (none i p a can); left = λ _. refl });
}

-- an item of a list with another one in its place
pub set_at : (ps : List Pages) (i : ℕ) (q : Pages) (k : ℕ) (x : Pages) → slice_get (set ps i q) k ≡ Some x
    → ((k ≡ i) × (x ≡ q)) ⊎ ((k ≡ i → ⊥) × (slice_get ps k ≡ Some x))
set_at [] i q k x h = absurd (nothing k h)
  where
    nothing : (k : ℕ) → slice_get [] k ≡ Some x → ⊥
    nothing zero e = cc
    nothing (suc k) e = cc
set_at (y ∷ ps) zero q zero x h = inl (refl, sym (same_pages h))
set_at (y ∷ ps) zero q (suc k) x h = inr (λ e. omega (arith, e), h)
set_at (y ∷ ps) (suc i) q zero x h = inr (λ e. omega (arith, e), h)
set_at (y ∷ ps) (suc i) q (suc k) x h = elim (set_at ps i q k x h) [
  | inl a ↦ inl (ap suc a.0, a.1)
  | inr b ↦ inr (λ e. b.0 (let f : k ≡ i = omega (arith, e) in f), b.1)
]

module _ (case : Case) (budget : ℕ) (pages : List Pages) (are : AreOrdered case budget pages) (e : Pages) (i : ℕ) (p q : Pages) (at : slice_get pages i ≡ Some p) (same : IsSamePages p q)
  where
    pub some_taken : (cons : List Constraint) → CanKeepFor cons e p → visited_of q ≡ visited_of e → HaveTaken cons e pages (set pages i q)
    some_taken cons can visited = record {
      as_many = length-set pages i q;
      each = λ k x y a b. elim (set_at pages i q k y b) [
        | inl h ↦ (let is : x ≡ p = same_pages (sym a ∙ subst (λ n. slice_get pages n ≡ Some p) (sym h.0) at) in
            subst (λ z. HasTaken cons e x z) (sym h.1) (subst (λ z. HasTaken cons e z q) (sym is)
            (record { same = same; taken = λ _. visited; left = λ never. absurd (never can) })))
        | inr h ↦ (let is : y ≡ x = same_pages (sym h.1 ∙ a) in
            subst (λ z. HasTaken cons e x z) (sym is) (record {
              same = same_self x;
              taken = λ c. absurd (apart case budget pages are i k p x at a (ap (λ vs. get_or vs 0 0) (can.vars_are ∙ sym c.vars_are)) h.0);
              left = λ _. refl;
            }))
      ];
    }

    old_at : (k : ℕ) (x : Pages) → slice_get (set pages i q) k ≡ Some x → (y : Pages) × (slice_get pages k ≡ Some y) × IsSamePages y x
    old_at k x h = elim (set_at pages i q k x h) [
      | inl a ↦ (p, subst (λ n. slice_get pages n ≡ Some p) (sym a.0) at, subst (λ z. IsSamePages p z) (sym a.1) same)
      | inr b ↦ (x, b.1, same_self x)
    ]

    pub ordered_set : StandsIn case.system.vars case.system.constraints q → AreOrdered case budget (set pages i q)
    ordered_set stands = record {
      stand = λ k x h. elim (set_at pages i q k x h) [
        | inl a ↦ subst (λ z. StandsIn case.system.vars case.system.constraints z) (sym a.1) stands
        | inr b ↦ are.stand k x b.1
      ];
      budgeted = λ k x h. let o = old_at k x h in o.2.budget ∙ are.budgeted k o.0 o.1;
      rising = λ k l x y less a b.
          let u = old_at k x a in
          let v = old_at l y b in
          let r = are.rising k l u.0 v.0 less u.1 v.1 in
          let s = ap (λ z. get_or z.vars 0 0) u.2.part in
          let t = ap (λ z. get_or z.vars 0 0) v.2.part in omega (arith, r, s, t);
    }

pub turns_set : (pages : List Pages) (i : ℕ) (p q : Pages) → slice_get pages i ≡ Some p → turns_in (set pages i q) + turns_by p ≡ turns_in pages + turns_by q
turns_set [] zero p q h = cc
turns_set [] (suc i) p q h = cc
turns_set (x ∷ pages) zero p q h = let e = ap turns_by (same_pages h) in omega (arith, e)
turns_set (x ∷ pages) (suc i) p q h = let r = turns_set pages i p q h in omega (arith, r)

pub turns_same : (cons : List Constraint) (e p q : Pages) → IsSamePages p q → CanKeepFor cons e p → visited_of q ≡ visited_of e → turns_by q ≡ turns_by e
turns_same cons e p q same can visited = ap (λ (x : Part). length x.vars * visited_of q) same.part ∙ ap (λ vs. length vs * visited_of q) can.vars_are
    ∙ ap (λ n. length e.part.vars * n) visited

-- a search has visited no more turns than a thousand million
pub turns_few : (vars : ℕ) (cons : List Constraint) (p : Pages) → StandsIn vars cons p → turns_by p ≤ 1000000000
turns_few vars cons p at = let a = at.is_in.paid in let b = at.few in omega (arith, a, b)

pub keep_self : (case : Case) (pages : List Pages) → KeepAllPages case pages pages
keep_self case pages = record { parts = refl; all = λ budget gs fs are. are }

pub keep_on : (case : Case) (a b c : List Pages) → KeepAllPages case a b → KeepAllPages case b c → KeepAllPages case a c
keep_on case a b c first second = record {
  parts = second.parts ∙ first.parts;
  all = λ budget gs fs are. second.all budget gs fs (first.all budget gs fs are);
}

-- ---- one search after the other

-- the one list begins with the other
abbrev pub IsFrontOf : List Pages → List Pages → Type 0
IsFrontOf front all = (k : ℕ) (e : Pages) → slice_get front k ≡ Some e → slice_get all k ≡ Some e

pub front_less : (old new all : List Pages) (e : Pages) → old ≡ new ++ e ∷ [] → IsFrontOf old all → IsFrontOf new all × (slice_get all (length new) ≡ Some e)
front_less old new all e is front = (
  λ k x h. front k x (ap (λ xs. slice_get xs k) is ∙ get_before new e x k h),
  front (length new) e (ap (λ xs. slice_get xs (length new)) is ∙ get_last new e),
)

pub ordered_less : (case : Case) (budget : ℕ) (old new : List Pages) (e : Pages) → old ≡ new ++ e ∷ [] → AreOrdered case budget old → AreOrdered case budget new
ordered_less case budget old new e is are = record {
  stand = λ k x h. are.stand k x (up k x h);
  budgeted = λ k x h. are.budgeted k x (up k x h);
  rising = λ k l x y less a b. are.rising k l x y less (up k x a) (up l y b);
}
  where
    up : (k : ℕ) (x : Pages) → slice_get new k ≡ Some x → slice_get old k ≡ Some x
    up k x h = ap (λ xs. slice_get xs k) is ∙ get_before new e x k h

pub last_of : (old new : List Pages) (e : Pages) → old ≡ new ++ e ∷ [] → slice_get old (length new) ≡ Some e
last_of old new e is = ap (λ xs. slice_get xs (length new)) is ∙ get_last new e

pub turns_more : (old new : List Pages) (e : Pages) → old ≡ new ++ e ∷ [] → turns_in old ≡ turns_in new + turns_by e
turns_more old new e is = ap turns_in is ∙ at_end new
  where
    at_end : (xs : List Pages) → turns_in (xs ++ e ∷ []) ≡ turns_in xs + turns_by e
    at_end [] = omega arith
    at_end (x ∷ xs) = let r = at_end xs in omega (arith, r)

pub none_from : (cons : List Constraint) (all pages : List Pages) (n : ℕ) → length all ≤ n → HaveTakenFrom cons all n pages pages
none_from cons all pages n many = record {
  as_many = refl;
  each = λ i p q a b.
      let is : q ≡ p = same_pages (sym b ∙ a) in
      subst (λ x. HasTakenFrom cons all n p x) (sym is) (record {
        same = same_self p;
        taken = λ k. absurd (let l = slice_get_within all k.place k.pages k.there in let f = k.from in omega (arith, l, f, many));
        left = λ _. refl;
      });
}

module _ (case : Case) (budget : ℕ) (cons : List Constraint) (all : List Pages) (are : AreOrdered case budget all) (n : ℕ) (e : Pages) (at : slice_get all n ≡ Some e) where
  took : (f p q : Pages) → HasTakenFrom cons all (n + 1) f p → HasTaken cons e p q → HasTakenFrom cons all n f q
  took f p q before now = record {
    same = same_on f p q before.same now.same;
    taken = λ k. by k (cases_eq k.place n);
    left = λ none. now.left (λ can. none (record { place = n; from = omega arith; pages = e; there = at; can = can_same cons e p f (same_back f p before.same) can }))
        ∙ before.left (λ k. none (record { place = k.place; from = (let l = k.from in omega (arith, l)); pages = k.pages; there = k.there; can = k.can }));
  }
    where
      by : (k : SomeKeeps cons all n f) → (k.place ≡ n) ⊎ (k.place ≡ n → ⊥) → visited_of q ≡ visited_of k.pages
      by k (inl is) =
          let same : k.pages ≡ e = same_pages (sym k.there ∙ subst (λ m. slice_get all m ≡ Some e) (sym is) at) in
          now.taken (can_same cons e f p before.same (subst (λ x. CanKeepFor cons x f) same k.can)) ∙ ap visited_of (sym same)
      by k (inr other) =
          let l = k.from in
          now.left (λ can. apart case budget all are n k.place e k.pages at k.there
          (ap (λ vs. get_or vs 0 0) (sym can.vars_are ∙ ap (λ x. x.vars) before.same.part ∙ k.can.vars_are)) other)
          ∙ before.taken (record { place = k.place; from = omega (arith, l, other); pages = k.pages; there = k.there; can = k.can })

  pub took_all : (old mid new : List Pages) → HaveTakenFrom cons all (n + 1) old mid → HaveTaken cons e mid new → HaveTakenFrom cons all n old new
  took_all old mid new before now = record {
    as_many = now.as_many ∙ before.as_many;
    each = λ i f q a b.
        let l = slice_get_within new i q b in
        let m = now.as_many in
        let p = get_or mid i f in
        let c : slice_get mid i ≡ Some p = slice_get-get_or mid i f (omega (arith, l, m)) in
        took f p q (before.each i f p a c) (now.each i p q c b);
  }

-- ---- the sum

pub sum_next : (case : Case) (budget : ℕ) (pages : List Pages) (i sum used : ℕ) (p : Pages) → AreOrdered case budget pages → i < length pages → p ≡ get_or pages i p
    → used ≡ turns_by p → sum ≡ turns_in (take i pages) → sum ≤ i * 1000000000
    → (sum + used ≡ turns_in (take (i + 1) pages)) × (sum + used ≤ (i + 1) * 1000000000)
sum_next case budget pages i sum used p are l read is so few =
    let at : slice_get pages i ≡ Some p = slice_get-get_or pages i p l ∙ ap Some (sym read) in
    let t = turns_few case.system.vars case.system.constraints p (are.stand i p at) in
    let m = turns_more (take (i + 1) pages) (take i pages) (get_or pages i p) (take_more pages i p l) in
    let r = ap turns_by read in (omega (arith, m, r, is, so), omega (arith, t, is, few))

pub take_all : (pages : List Pages) (n : ℕ) → length pages ≤ n → take n pages ≡ pages
take_all [] zero l = refl
take_all [] (suc n) l = refl
take_all (p ∷ pages) zero l = absurd (omega (arith, l))
take_all (p ∷ pages) (suc n) l = ap (λ ys. p ∷ ys) (take_all pages n (omega (arith, l)))

-- the searches of so many pages have visited no more turns than a thousand million each
pub turns_most : (vars : ℕ) (cons : List Constraint) (pages : List Pages) → ((i : ℕ) (p : Pages) → slice_get pages i ≡ Some p → StandsIn vars cons p)
    → turns_in pages ≤ length pages * 1000000000
turns_most vars cons [] all = omega arith
turns_most vars cons (p ∷ pages) all =
    let a = turns_few vars cons p (all 0 p refl) in
    let b = turns_most vars cons pages (λ i x h. all (suc i) x h) in omega (arith, a, b)

-- what was taken over, told of the new pages alone
pub taken_told : (cons : List Constraint) (earlier old new : List Pages) → AreUnvisited old → HaveTakenFrom cons earlier 0 old new
    → (i : ℕ) (q : Pages) → slice_get new i ≡ Some q
    → ((k : SomeKeeps cons earlier 0 q) → visited_of q ≡ visited_of k.pages) × ((SomeKeeps cons earlier 0 q → ⊥) → visited_of q ≡ 0)
taken_told cons earlier old new none taken i q at =
    let l = slice_get_within new i q at in
    let m = taken.as_many in
    let p = get_or old i q in
    let there : slice_get old i ≡ Some p = slice_get-get_or old i q (omega (arith, l, m)) in
    let t = taken.each i p q there at in (
      λ k. t.taken (record { place = k.place; from = k.from; pages = k.pages; there = k.there; can = can_same cons k.pages q p (same_back p q t.same) k.can }),
      λ never. t.left (λ k. never (record { place = k.place; from = k.from; pages = k.pages; there = k.there; can = can_same cons k.pages p q t.same k.can }))
          ∙ none i p there,
    )
