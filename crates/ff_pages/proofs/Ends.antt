-- The ends of pages among the nodes of a tree.
use Rattle.std.proofs.Common.{◌≡◌, ℕ, zero, suc, ◌+◌, ◌-◌, ◌*◌, ◌<◌, ◌≤◌, inl, inr, List, [], ◌∷◌, ◌++◌, length, take, drop, refl, sym, ap, ◌∙◌, subst, arith, Option, Some, None, Result, Ok, Err, IfOk}
use Rattle.std.proofs.lemmas.List.{take-append-drop, append-nil}
use Rattle.std.proofs.lemmas.List.Elements.{filter_map-append}
use Rattle.ff_tables.specs.declared.orders.Order.{Order}
use Rattle.ff_tables.specs.declared.terms.Constraint.{Constraint}
use Rattle.ff_propagate.specs.Facts.{value_at}
use Rattle.ff_propagate.specs.Trees.{Tree, IsTree, visits, found, same, nodes_to, turns_to_page, page_of}
use Rattle.ff_log.specs.declared.logs.Log.{Log}
use Rattle.ff_propagate.specs.Solutions.{solutions_of}
use Rattle.ff_pages.proofs.Paged.{times}
use Rattle.ff_pages.specs.declared.pages.Pages.{Pages}
use Rattle.ff_pages.specs.declared.pages.PageAnswer.{PageAnswer}
use Rattle.ff_pages.specs.declared.pages.PageAnswer.TheVariants as answer
use Rattle.ff_pages.specs.declared.pages.Gone.{Gone}
use Rattle.ff_propagate.specs.declared.parts.Part.{Part}
use Rattle.ff_tables.specs.declared.memory.NoMemory.{NoMemory}
use Rattle.ff_pages.specs.declared.pages.Gone.TheVariants as gone
use Rattle.ff_pages.specs.Paging.{visited_of, StandsIn, FindsIn, Finds, IsPage, HasEnded, IsSamePages, IsEndOf}

abbrev Nodes : Type 0
Nodes = List (Option (List Order))

le_trans : (a b c : ℕ) → a ≤ b → b ≤ c → a ≤ c
le_trans a b c l m = omega (arith, l, m)

pub nodes_le : (m : ℕ) (ns : Nodes) → nodes_to m ns ≤ length ns
nodes_le m [] = omega arith
nodes_le m (None ∷ ns) = let r = nodes_le m ns in omega (arith, r)
nodes_le zero (Some v ∷ ns) = omega arith
nodes_le (suc m) (Some v ∷ ns) = let r = nodes_le m ns in omega (arith, r)

pub nodes_found : (m n : ℕ) (ns : Nodes) → m < length (found (take n ns)) → nodes_to m ns ≤ n
nodes_found m zero ns l = absurd (omega (arith, l))
nodes_found m (suc n) [] l = absurd (omega (arith, l))
nodes_found m (suc n) (None ∷ ns) l = let r = nodes_found m n ns l in omega (arith, r)
nodes_found zero (suc n) (Some v ∷ ns) l = omega arith
nodes_found (suc m) (suc n) (Some v ∷ ns) l = let r = nodes_found m n ns (omega (arith, l)) in omega (arith, r)

pub nodes_more : (m n : ℕ) (ns : Nodes) → length (found (take n ns)) ≤ m → (drop n ns ≡ [] → ⊥) → n + 1 ≤ nodes_to m ns
nodes_more m n [] l more = absurd (more (nothing n))
  where
    nothing : (n : ℕ) → drop {A = Option (List Order)} n [] ≡ []
    nothing zero = refl
    nothing (suc n) = refl
nodes_more m zero (None ∷ ns) l more = omega arith
nodes_more zero zero (Some v ∷ ns) l more = omega arith
nodes_more (suc m) zero (Some v ∷ ns) l more = omega arith
nodes_more m (suc n) (None ∷ ns) l more = let r = nodes_more m n ns l more in omega (arith, r)
nodes_more zero (suc n) (Some v ∷ ns) l more = absurd (omega (arith, l))
nodes_more (suc m) (suc n) (Some v ∷ ns) l more = let r = nodes_more m n ns (omega (arith, l)) more in omega (arith, r)

pub found_split : (n : ℕ) (ns : Nodes) → found ns ≡ found (take n ns) ++ found (drop n ns)
found_split n ns = ap found (sym (take-append-drop n ns)) ∙ filter_map-append same (take n ns) (drop n ns)

pub found_few : (n : ℕ) (ns : Nodes) → length (found (take n ns)) ≤ n
found_few zero ns = omega arith
found_few (suc n) [] = omega arith
found_few (suc n) (None ∷ ns) = let r = found_few n ns in omega (arith, r)
found_few (suc n) (Some v ∷ ns) = let r = found_few n ns in omega (arith, r)

pub all_visited : (n : ℕ) (ns : Nodes) → drop n ns ≡ [] → (take n ns ≡ ns) × (length ns ≤ n)
all_visited n ns e = (sym (append-nil (take n ns)) ∙ ap (λ xs. take n ns ++ xs) (sym e) ∙ take-append-drop n ns, long n ns e)
  where
    long : (n : ℕ) (ns : Nodes) → drop n ns ≡ [] → length ns ≤ n
    long zero [] e = omega arith
    long zero (x ∷ ns) e = cc
    long (suc n) [] e = omega arith
    long (suc n) (x ∷ ns) e = let r = long n ns e in omega (arith, r)

take_front : {X : Type 0} (n : ℕ) (xs ys : List X) → n ≤ length xs → take n (xs ++ ys) ≡ take n xs
take_front zero xs ys l = refl
take_front (suc n) [] ys l = absurd (omega (arith, l))
take_front (suc n) (x ∷ xs) ys l = ap (λ zs. x ∷ zs) (take_front n xs ys (omega (arith, l)))

pub page_front : {X : Type 0} (a n : ℕ) (xs ys : List X) → a + n ≤ length xs → take n (drop a (xs ++ ys)) ≡ take n (drop a xs)
page_front zero n xs ys l = take_front n xs ys (omega (arith, l))
page_front (suc a) n [] ys l = absurd (omega (arith, l))
page_front (suc a) n (x ∷ xs) ys l = page_front a n xs ys (omega (arith, l))

pub page_some : {X : Type 0} (a n : ℕ) (xs : List X) → a < length xs → 0 < n → 0 < length (take n (drop a xs))
page_some a n [] l m = absurd (omega (arith, l))
page_some zero zero (x ∷ xs) l m = absurd (omega (arith, m))
page_some zero (suc n) (x ∷ xs) l m = omega arith
page_some (suc a) n (x ∷ xs) l m = page_some a n xs (omega (arith, l)) m

pub page_none : {X : Type 0} (a n : ℕ) (xs : List X) → length xs ≤ a → take n (drop a xs) ≡ []
page_none zero zero [] l = refl
page_none zero (suc n) [] l = refl
page_none zero n (x ∷ xs) l = absurd (omega (arith, l))
page_none (suc a) zero [] l = refl
page_none (suc a) (suc n) [] l = refl
page_none (suc a) n (x ∷ xs) l = page_none a n xs (omega (arith, l))

pub times_le : (c a b : ℕ) → a ≤ b → c * a ≤ c * b
times_le c a b l =
    let e : c * b ≡ c * a + c * (b - a) = ap (λ n. c * n) (whole a b l) ∙ times c a (b - a) in
    at_least (c * b) (c * a) (c * (b - a)) e
  where
    whole : (x y : ℕ) → x ≤ y → y ≡ x + (y - x)
    whole x y h = omega (arith, h)

    at_least : (x y z : ℕ) → x ≡ y + z → y ≤ x
    at_least x y z h = omega (arith, h)

pub few_times : (c n b : ℕ) → 0 < c → c * n ≤ b → n ≤ b
few_times zero n b l m = absurd (omega (arith, l))
few_times (suc c) n b l m =
    let e : n * 1 ≤ n * suc c = times_le n 1 (suc c) (omega (arith, l)) in
    let f : suc c * n ≡ n * suc c = swap (suc c) n in
    omega (arith, e, f, m)
  where
    swap : (x y : ℕ) → x * y ≡ y * x
    swap x y = grind arith

-- the solutions found are the first of all
pub found_front : (vars : ℕ) (cons : List Constraint) (p : Pages) (at : StandsIn vars cons p)
    → found (visits at.tree) ≡ p.found.items ++ found (drop (visited_of p) (visits at.tree))
found_front vars cons p at = found_split (visited_of p) (visits at.tree)
    ∙ ap (λ xs. xs ++ found (drop (visited_of p) (visits at.tree))) (sym at.is_in.found_are)

end_is : (k : ℕ) → 64 * k + 63 < 64 * k + 64
end_is k = omega arith

pub page_found : (vars : ℕ) (cons : List Constraint) (p : Pages) → StandsIn vars cons p → (k : ℕ) → 64 * k + 64 ≤ length p.found.items
    → (page : List (List Order)) → page ≡ take 64 (drop (64 * k) p.found.items)
    → IsPage cons p.facts.value p.part.vars p.budget k (answer.Page page)
page_found vars cons p at k enough page is =
    let c = length p.part.vars in
    let ns = visits at.tree in
    let many : 64 * k + 63 < length (found (take (visited_of p) ns)) = subst (λ xs. 64 * k + 63 < length xs) at.is_in.found_are (more k (length p.found.items) enough) in
    let within = times_le c (nodes_to (64 * k + 63) ns) (visited_of p) (nodes_found (64 * k + 63) (visited_of p) ns many) in
    let paid = at.is_in.paid in (
      at.tree,
      at.is_in.is_tree,
      at.is_in.solutions,
      (
        le_trans _ _ _ within paid,
        is ∙ sym (page_front (64 * k) 64 p.found.items (found (drop (visited_of p) ns)) enough) ∙ ap (page_of k) (sym (found_front vars cons p at)),
        subst (λ xs. 0 < length xs) (sym is) (page_some (64 * k) 64 p.found.items (less k (length p.found.items) enough) (omega arith)),
      ),
    )
  where
    more : (k n : ℕ) → 64 * k + 64 ≤ n → 64 * k + 63 < n
    more k n l = omega (arith, l)

    less : (k n : ℕ) → 64 * k + 64 ≤ n → 64 * k < n
    less k n l = omega (arith, l)

pub page_unfinished : (vars : ℕ) (cons : List Constraint) (p : Pages) → StandsIn vars cons p → (k : ℕ)
    → ((tree : Tree) → IsTree cons (value_at p.facts.value) p.part.vars tree → FindsIn tree (64 * k + 64) p gone.Spent)
    → IsPage cons p.facts.value p.part.vars p.budget k answer.Unfinished
page_unfinished vars cons p at k finds =
    let c = length p.part.vars in
    let ns = visits at.tree in
    let f = finds at.tree at.is_in.is_tree in
    let few : length (found (take (visited_of p) ns)) ≤ 64 * k + 63 = subst (λ xs. length xs ≤ 64 * k + 63) at.is_in.found_are (less k (length p.found.items) f.0) in
    let end = times_le c (visited_of p + 1) (nodes_to (64 * k + 63) ns) (nodes_more (64 * k + 63) (visited_of p) ns few f.1) in
    (at.tree, at.is_in.is_tree, at.is_in.solutions, below p.budget _ _ f.2 end)
  where
    less : (k n : ℕ) → n < 64 * k + 64 → n ≤ 64 * k + 63
    less k n l = omega (arith, l)

    below : (a b c : ℕ) → a < b → b ≤ c → a < c
    below a b c l m = omega (arith, l, m)

-- what holds where the tree has ended
pub record IsWhole (cons : List Constraint) (p : Pages) (tree : Tree) : Type 0 where
  pub all : p.found.items ≡ found (visits tree)
  pub paid : length p.part.vars * length (visits tree) ≤ p.budget

pub whole : (vars : ℕ) (cons : List Constraint) (p : Pages) (at : StandsIn vars cons p) → HasEnded cons p → IsWhole cons p at.tree
whole vars cons p at ended =
    let a = all_visited (visited_of p) (visits at.tree) (ended at.tree at.is_in.is_tree) in
    record {
      all = at.is_in.found_are ∙ ap found a.0;
      paid = le_trans _ _ _ (times_le (length p.part.vars) _ _ a.1) at.is_in.paid;
    }

pub last_none : (vars : ℕ) (cons : List Constraint) (p : Pages) → StandsIn vars cons p → HasEnded cons p → (k : ℕ) → length p.found.items ≡ 0
    → (log : Log) → IsPage cons p.facts.value p.part.vars p.budget k (answer.None log)
last_none vars cons p at ended k none log =
    let w = whole vars cons p at ended in
    (at.tree, at.is_in.is_tree, at.is_in.solutions, (w.paid, sym w.all ∙ empty p.found.items none))
  where
    empty : (xs : List (List Order)) → length xs ≡ 0 → xs ≡ []
    empty [] e = refl
    empty (x ∷ xs) e = absurd (omega (arith, e))

-- then the part has no solution
pub last_unsolved : (vars : ℕ) (cons : List Constraint) (p : Pages) → StandsIn vars cons p → HasEnded cons p → length p.found.items ≡ 0
    → solutions_of cons (value_at p.facts.value) p.part.vars ≡ []
last_unsolved vars cons p at ended none =
    let w = whole vars cons p at ended in
    sym at.is_in.solutions ∙ sym w.all ∙ empty p.found.items none
  where
    empty : (xs : List (List Order)) → length xs ≡ 0 → xs ≡ []
    empty [] e = refl
    empty (x ∷ xs) e = absurd (omega (arith, e))

ends_within : (vars : ℕ) (cons : List Constraint) (p : Pages) (at : StandsIn vars cons p) → HasEnded cons p → (k : ℕ)
    → turns_to_page p.part.vars at.tree k ≤ p.budget
ends_within vars cons p at ended k = le_trans _ _ _ (times_le (length p.part.vars) _ _ (nodes_le (64 * k + 63) (visits at.tree))) (whole vars cons p at ended).paid

pub last_past : (vars : ℕ) (cons : List Constraint) (p : Pages) → StandsIn vars cons p → HasEnded cons p → (k : ℕ)
    → (length p.found.items ≡ 0 → ⊥) → length p.found.items ≤ 64 * k
    → IsPage cons p.facts.value p.part.vars p.budget k (answer.Past (length p.found.items))
last_past vars cons p at ended k some few =
    let w = whole vars cons p at ended in (
      at.tree,
      at.is_in.is_tree,
      at.is_in.solutions,
      (
        ends_within vars cons p at ended k,
        ap length w.all,
        positive (length p.found.items) some,
        ap (page_of k) (sym w.all) ∙ page_none (64 * k) 64 p.found.items few,
      ),
    )
  where
    positive : (n : ℕ) → (n ≡ 0 → ⊥) → 0 < n
    positive zero e = absurd (e refl)
    positive (suc n) e = omega arith

pub last_some : (vars : ℕ) (cons : List Constraint) (p : Pages) → StandsIn vars cons p → HasEnded cons p → (k : ℕ)
    → 64 * k < length p.found.items → (page : List (List Order)) → page ≡ take 64 (drop (64 * k) p.found.items)
    → IsPage cons p.facts.value p.part.vars p.budget k (answer.Page page)
last_some vars cons p at ended k more page is =
    let w = whole vars cons p at ended in (
      at.tree,
      at.is_in.is_tree,
      at.is_in.solutions,
      (
        ends_within vars cons p at ended k,
        is ∙ ap (page_of k) w.all,
        subst (λ xs. 0 < length xs) (sym is) (page_some (64 * k) 64 p.found.items more (omega arith)),
      ),
    )

-- there are fewer solutions than turns
pub found_fits : (vars : ℕ) (cons : List Constraint) (p : Pages) → StandsIn vars cons p → length p.found.items ≤ 1000000000
found_fits vars cons p at =
    let a : length p.found.items ≤ visited_of p = subst (λ xs. length xs ≤ visited_of p) (sym at.is_in.found_are) (found_few (visited_of p) (visits at.tree)) in
    let b = few_times (length p.part.vars) (visited_of p) p.budget at.part.some at.is_in.paid in
    le_trans _ _ _ a (le_trans _ _ _ b at.few)

take_step : {X : Type 0} (n : ℕ) (xs : List X) (x : X) → n < length xs → x ≡ Rattle.std.specs.Prelude.slice_index_or xs n x
    → take n xs ++ x ∷ [] ≡ take (suc n) xs
take_step n [] x l e = absurd (omega (arith, l))
take_step zero (y ∷ xs) x l e = ap (λ z. z ∷ []) e
take_step (suc n) (y ∷ xs) x l e = ap (λ zs. y ∷ zs) (take_step n xs x (omega (arith, l)) e)

dropped : {X : Type 0} (first i : ℕ) (xs : List X) (x : X) → first ≤ i → i < length xs → x ≡ Rattle.std.specs.Prelude.slice_index_or xs i x
    → (i - first < length (drop first xs)) × (x ≡ Rattle.std.specs.Prelude.slice_index_or (drop first xs) (i - first) x)
dropped zero i xs x l m e = (omega (arith, m), e ∙ ap (λ k. Rattle.std.specs.Prelude.slice_index_or xs k x) (same i))
  where
    same : (i : ℕ) → i ≡ i - 0
    same i = omega arith
dropped (suc first) i [] x l m e = absurd (omega (arith, m))
dropped (suc first) zero (y ∷ xs) x l m e = absurd (omega (arith, l))
dropped (suc first) (suc i) (y ∷ xs) x l m e =
    let r = dropped first i xs x (omega (arith, l)) (omega (arith, m)) e in
    let q = less i first in
    (subst (λ k. k < length (drop first xs)) q r.0, r.1 ∙ ap (λ k. Rattle.std.specs.Prelude.slice_index_or (drop first xs) k x) q)
  where
    less : (i f : ℕ) → i - f ≡ suc i - suc f
    less i f = omega arith

pub page_more : {X : Type 0} (first i : ℕ) (xs page new : List X) (x : X) → first ≤ i → i < length xs → x ≡ Rattle.std.specs.Prelude.slice_index_or xs i x
    → page ≡ take (i - first) (drop first xs) → new ≡ page ++ x ∷ [] → new ≡ take (i + 1 - first) (drop first xs)
page_more first i xs page new x l m e p n =
    let r = dropped first i xs x l m e in
    n ∙ ap (λ ys. ys ++ x ∷ []) p ∙ take_step (i - first) (drop first xs) x r.0 r.1 ∙ ap (λ k. take k (drop first xs)) (next first i l)
  where
    next : (f i : ℕ) → f ≤ i → suc (i - f) ≡ i + 1 - f
    next f i h = omega (arith, h)

take_many : {X : Type 0} (n m : ℕ) (xs : List X) → length xs ≤ n → length xs ≤ m → take n xs ≡ take m xs
take_many zero zero [] l m = refl
take_many zero (suc m) [] l h = refl
take_many (suc n) zero [] l h = refl
take_many (suc n) (suc m) [] l h = refl
take_many zero m (x ∷ xs) l h = absurd (omega (arith, l))
take_many (suc n) zero (x ∷ xs) l h = absurd (omega (arith, h))
take_many (suc n) (suc m) (x ∷ xs) l h = ap (λ ys. x ∷ ys) (take_many n m xs (omega (arith, l)) (omega (arith, h)))

long_drop : {X : Type 0} (n : ℕ) (xs : List X) → length (drop n xs) ≡ length xs - n
long_drop zero xs = omega arith
long_drop (suc n) [] = omega arith
long_drop (suc n) (x ∷ xs) = let r = long_drop n xs in omega (arith, r)

pub page_whole : {X : Type 0} (first e i : ℕ) (xs page : List X) → first ≤ length xs → e ≤ i → (first ≤ e → i ≤ e)
    → IsEndOf (length xs) first e
    → page ≡ take (i - first) (drop first xs) → page ≡ take 64 (drop first xs)
page_whole first e i xs page l low high (inl (end, few)) p =
    let r = long_drop first xs in
    let up = high (omega (arith, end, l)) in
    p ∙ take_many (i - first) 64 (drop first xs) (omega (arith, r, low, up, end)) (omega (arith, r, few))
page_whole first e i xs page l low high (inr (end, many)) p =
    let up = high (omega (arith, end)) in
    p ∙ ap (λ k. take k (drop first xs)) (full first i e low up end)
  where
    full : (f i e : ℕ) → e ≤ i → i ≤ e → e ≡ f + 64 → i - f ≡ 64
    full f i e h g k = omega (arith, h, g, k)

pub end_within : (count first end : ℕ) → IsEndOf count first end → first ≤ count → (first ≤ end) × (end ≤ count)
end_within count first end (inl (e, few)) l = (omega (arith, e, l), omega (arith, e))
end_within count first end (inr (e, many)) l = (omega (arith, e), omega (arith, e, many))

pub last_past_count : (vars : ℕ) (cons : List Constraint) (p : Pages) → StandsIn vars cons p → HasEnded cons p → (k count : ℕ)
    → count ≡ length p.found.items → (count ≡ 0 → ⊥) → count ≤ 64 * k
    → IsPage cons p.facts.value p.part.vars p.budget k (answer.Past count)
last_past_count vars cons p at ended k count is some few =
    subst (λ n. IsPage cons p.facts.value p.part.vars p.budget k (answer.Past n)) (sym is)
    (last_past vars cons p at ended k (λ e. some (is ∙ e)) (subst (λ n. n ≤ 64 * k) is few))

-- what was found stands in the facts, part and budget before the call
page_same : (cons : List Constraint) (p q : Pages) → IsSamePages p q → (k : ℕ) (a : PageAnswer) → IsPage cons q.facts.value q.part.vars q.budget k a
    → IsPage cons p.facts.value p.part.vars p.budget k a
page_same cons p q same k a page =
    subst (λ f. IsPage cons f.value p.part.vars p.budget k a) same.facts
    (subst (λ (x : Part). IsPage cons q.facts.value x.vars p.budget k a) same.part
    (subst (λ n. IsPage cons q.facts.value q.part.vars n k a) same.budget page))

pub found_page : (vars : ℕ) (cons : List Constraint) (p q : Pages) → IsSamePages p q → StandsIn vars cons q → (k : ℕ) (g : Gone) → g ≡ gone.Found
    → Finds cons (64 * k + 64) q g → (page : List (List Order)) → page ≡ take 64 (drop (64 * k) q.found.items)
    → IsPage cons p.facts.value p.part.vars p.budget k (answer.Page page)
found_page vars cons p q same at k g is finds page page_is = page_same cons p q same k (answer.Page page)
    (page_found vars cons q at k (subst (FindsIn at.tree (64 * k + 64) q) is (finds at.tree at.is_in.is_tree)) page page_is)

pub unfinished_page : (vars : ℕ) (cons : List Constraint) (p q : Pages) → IsSamePages p q → StandsIn vars cons q → (k : ℕ) (g : Gone) → g ≡ gone.Spent
    → Finds cons (64 * k + 64) q g → IsPage cons p.facts.value p.part.vars p.budget k answer.Unfinished
unfinished_page vars cons p q same at k g is finds = page_same cons p q same k answer.Unfinished
    (page_unfinished vars cons q at k (λ tree t. subst (FindsIn tree (64 * k + 64) q) is (finds tree t)))

pub last_page_same : (cons : List Constraint) (p q : Pages) → IsSamePages p q → (k : ℕ) (r : Result PageAnswer NoMemory)
    → IfOk r (λ a. IsPage cons q.facts.value q.part.vars q.budget k a) → IfOk r (λ a. IsPage cons p.facts.value p.part.vars p.budget k a)
last_page_same cons p q same k (Ok a) page = page_same cons p q same k a page
last_page_same cons p q same k (Err e) page = tt

-- a copy of what was read
pub copied : {X : Type 0} (xs : List X) (i : ℕ) (x y : X) → x ≡ y → y ≡ Rattle.std.specs.Prelude.slice_index_or xs i y → x ≡ Rattle.std.specs.Prelude.slice_index_or xs i x
copied xs i x y e f = subst (λ z. z ≡ Rattle.std.specs.Prelude.slice_index_or xs i z) (sym e) f
