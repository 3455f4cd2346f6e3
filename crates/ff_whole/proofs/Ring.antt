-- A solver for the identities of a commutative ring, at the integers.
-- An identity is written twice as an `Expr`, and holds where the normal form of the difference is empty, which `refl` computes:
--
--     square : (a b : ℤ) → (a +ℤ b) *ℤ (a -ℤ b) ≡ a *ℤ a -ℤ b *ℤ b
--     square a b = solve (a ∷ b ∷ []) ((var 0 ⊕ var 1) ⊗ (var 0 ⊖ var 1)) (var 0 ⊗ var 0 ⊖ var 1 ⊗ var 1) refl
--
-- `var n` is the n-th of the listed values, any terms; `num` is a constant, `opp` a sign. What the two sides compute to is
-- compared with the goal, so the goal may be written with `abbrev`s: `Formulas` has the expressions of those of this crate.
-- `solve_from` proves an identity up to multiples of what is 0, as in elimination: `by` is the factor, which is yours to find.
-- A wrong identity is refused. To find what doesn't cancel, leave out variables. Where there are more than ten variables, or
-- a degree above six, name a difference or a product by one variable.
use Rattle.std.proofs.Common.{◌≡◌, ℕ, zero, suc, arith, refl, sym, ap, ◌∙◌, ℤ, pos, negsuc, ◌+ℤ◌, ◌*ℤ◌, List, [], ◌∷◌, Bool, true, false}
use Prim.Native.Nat.{compare, Ordering}
use lib.Dec.{leb, compare_is_eq}
use borrow.Author.Tests.{eqb-true}
use lib.IntN.{◌-ℤ◌, neg_ℤ, *ℤ_comm, *ℤ-zero, zero-*ℤ}
use Rattle.std.proofs.lemmas.Int.{ints}
use Rattle.ff_whole.proofs.Laws.{*ℤ_assoc, *ℤ-distrib_left, *ℤ-distrib_right, one-*ℤ, minus_one-*ℤ}

-- ---- expressions

infixl 6 ◌⊕◌ ◌⊖◌
infixl 7 ◌⊗◌
pub data Expr : Type 0 where
  var : ℕ → Expr
  num : ℤ → Expr
  ◌⊕◌ : Expr → Expr → Expr
  ◌⊖◌ : Expr → Expr → Expr
  ◌⊗◌ : Expr → Expr → Expr
  opp : Expr → Expr

-- the value of a variable, by its number
abbrev pub at : List ℤ → ℕ → ℤ
at [] n = pos 0
at (x ∷ xs) zero = x
at (x ∷ xs) (suc n) = at xs n

-- the value of an expression at these values of its variables
abbrev pub eval : List ℤ → Expr → ℤ
eval env (var n) = at env n
eval env (num c) = c
eval env (a ⊕ b) = eval env a +ℤ eval env b
eval env (a ⊖ b) = eval env a -ℤ eval env b
eval env (a ⊗ b) = eval env a *ℤ eval env b
eval env (opp a) = neg_ℤ (eval env a)

-- ---- normal forms: a list of terms, each a coefficient and the sorted numbers of its variables

pub data Poly : Type 0 where
  nil : Poly
  term : ℤ → List ℕ → Poly → Poly

pub data Way : Type 0 where
  less same more : Way

-- how two terms stand in the order of a normal form, by the numbers of their variables
abbrev pub way_of : List ℕ → List ℕ → Way
way_of [] [] = same
way_of [] (y ∷ ys) = more
way_of (x ∷ xs) [] = less
way_of (x ∷ xs) (y ∷ ys) = elim (compare x y) [ Ordering.lt ↦ less | Ordering.eq ↦ way_of xs ys | Ordering.gt ↦ more ]

-- a term, left out where its coefficient is 0
abbrev pub put : ℤ → List ℕ → Poly → Poly
put (pos zero) m p = p
put (pos (suc n)) m p = term (pos (suc n)) m p
put (negsuc n) m p = term (negsuc n) m p

-- one term, merged into a normal form, and then the rest
abbrev pub into : ℤ → List ℕ → (Poly → Poly) → Poly → Poly
into c m rest nil = term c m (rest nil)
into c m rest (term d n q) =
    elim (way_of m n) [ less ↦ term c m (rest (term d n q)) | same ↦ put (c +ℤ d) m (rest q) | more ↦ term d n (into c m rest q) ]

-- the sum of two normal forms
abbrev pub merge : Poly → Poly → Poly
merge nil = λ q. q
merge (term c m p) = λ q. into c m (merge p) q

-- a variable put into the sorted list of a term
abbrev pub insert : ℕ → List ℕ → List ℕ
insert x [] = x ∷ []
insert x (y ∷ ys) = elim (leb x y) [ true ↦ x ∷ y ∷ ys | false ↦ y ∷ insert x ys ]

-- the variables of two terms, sorted
abbrev pub join : List ℕ → List ℕ → List ℕ
join [] ys = ys
join (x ∷ xs) ys = insert x (join xs ys)

-- a normal form times a term
abbrev pub scale : ℤ → List ℕ → Poly → Poly
scale c m nil = nil
scale c m (term d n q) = term (c *ℤ d) (join m n) (scale c m q)

-- the product of two normal forms
abbrev pub times : Poly → Poly → Poly
times nil q = nil
times (term c m p) q = merge (scale c m q) (times p q)

-- the normal form of an expression
abbrev pub norm : Expr → Poly
norm (var n) = term (pos 1) (n ∷ []) nil
norm (num c) = put c [] nil
norm (a ⊕ b) = merge (norm a) (norm b)
norm (a ⊖ b) = merge (norm a) (scale (negsuc 0) [] (norm b))
norm (a ⊗ b) = times (norm a) (norm b)
norm (opp a) = scale (negsuc 0) [] (norm a)

-- ---- what a normal form means

-- the value of a term without its coefficient
abbrev pub product : List ℤ → List ℕ → ℤ
product env [] = pos 1
product env (x ∷ xs) = at env x *ℤ product env xs

-- the value of a normal form
abbrev pub value : List ℤ → Poly → ℤ
value env nil = pos 0
value env (term c m p) = c *ℤ product env m +ℤ value env p

same_way : (m n : List ℕ) → way_of m n ≡ same → m ≡ n
same_way [] [] h = refl
same_way [] (y ∷ ys) h = cc
same_way (x ∷ xs) [] h = cc
same_way (x ∷ xs) (y ∷ ys) h = go (same_way xs ys) (compare x y) refl h
  where
    go : (way_of xs ys ≡ same → xs ≡ ys) → (o : Ordering) → compare x y ≡ o
        → (elim o as (λ z. Way) [ Ordering.lt ↦ less | Ordering.eq ↦ way_of xs ys | Ordering.gt ↦ more ]) ≡ same
        → x ∷ xs ≡ y ∷ ys
    go ih Ordering.lt e k = cc
    go ih Ordering.eq e k = let p : x ≡ y = eqb-true x y (ap compare_is_eq e) in let q = ih k in cc
    go ih Ordering.gt e k = cc

put-value : (env : List ℤ) (c : ℤ) (m : List ℕ) (p : Poly)
    → value env (put c m p) ≡ c *ℤ product env m +ℤ value env p
put-value env (pos zero) m p = omega (arith, ints)
put-value env (pos (suc n)) m p = refl
put-value env (negsuc n) m p = refl

into-value : (env : List ℤ) (c : ℤ) (m : List ℕ) (rest : Poly → Poly) (v : ℤ)
    → ((q : Poly) → value env (rest q) ≡ v +ℤ value env q) → (q : Poly)
    → value env (into c m rest q) ≡ c *ℤ product env m +ℤ v +ℤ value env q
into-value env c m rest v h nil = let e = h nil in omega (arith, ints)
into-value env c m rest v h (term d n q) = go (into-value env c m rest v h q) (way_of m n) refl
  where
    go : value env (into c m rest q) ≡ c *ℤ product env m +ℤ v +ℤ value env q → (w : Way) → way_of m n ≡ w
        → value env (elim w as (λ z. Poly) [ less ↦ term c m (rest (term d n q)) | same ↦ put (c +ℤ d) m (rest q) | more ↦ term d n (into c m rest q) ]) ≡ c *ℤ product env m +ℤ v +ℤ (d *ℤ product env n +ℤ value env q)
    go ih less e = let k = h (term d n q) in omega (arith, ints)
    go ih same e =
        let s = same_way m n e in
        let k = h q in
        let l = put-value env (c +ℤ d) m (rest q) in
        let r = *ℤ-distrib_right c d (product env m) in
        let t : d *ℤ product env n ≡ d *ℤ product env m = ap (λ x. d *ℤ product env x) (sym s) in
        omega (arith, ints)
    go ih more e = omega (arith, ints)

merge-value : (env : List ℤ) (p q : Poly) → value env (merge p q) ≡ value env p +ℤ value env q
merge-value env nil q = omega (arith, ints)
merge-value env (term c m p) q = into-value env c m (merge p) (value env p) (merge-value env p) q

insert-product : (env : List ℤ) (x : ℕ) (ys : List ℕ) → product env (insert x ys) ≡ at env x *ℤ product env ys
insert-product env x [] = refl
insert-product env x (y ∷ ys) = go (insert-product env x ys) (leb x y)
  where
    go : product env (insert x ys) ≡ at env x *ℤ product env ys → (b : Bool)
        → product env (elim b as (λ z. List ℕ) [ true ↦ x ∷ y ∷ ys | false ↦ y ∷ insert x ys ]) ≡ at env x *ℤ (at env y *ℤ product env ys)
    go ih true = refl
    go ih false =
        ap (λ z. at env y *ℤ z) ih
        ∙ sym (*ℤ_assoc (at env y) (at env x) (product env ys))
        ∙ ap (λ z. z *ℤ product env ys) (*ℤ_comm (at env y) (at env x))
        ∙ *ℤ_assoc (at env x) (at env y) (product env ys)

join-product : (env : List ℤ) (xs ys : List ℕ) → product env (join xs ys) ≡ product env xs *ℤ product env ys
join-product env [] ys = sym (one-*ℤ (product env ys))
join-product env (x ∷ xs) ys =
    insert-product env x (join xs ys)
    ∙ ap (λ z. at env x *ℤ z) (join-product env xs ys)
    ∙ sym (*ℤ_assoc (at env x) (product env xs) (product env ys))

-- the middle two of four factors change places
*ℤ_swap : (a b c d : ℤ) → (a *ℤ b) *ℤ (c *ℤ d) ≡ (a *ℤ c) *ℤ (b *ℤ d)
*ℤ_swap a b c d =
    *ℤ_assoc a b (c *ℤ d)
    ∙ ap (λ z. a *ℤ z) (sym (*ℤ_assoc b c d) ∙ ap (λ z. z *ℤ d) (*ℤ_comm b c) ∙ *ℤ_assoc c b d)
    ∙ sym (*ℤ_assoc a c (b *ℤ d))

scale-value : (env : List ℤ) (c : ℤ) (m : List ℕ) (q : Poly)
    → value env (scale c m q) ≡ (c *ℤ product env m) *ℤ value env q
scale-value env c m nil = sym (*ℤ-zero (c *ℤ product env m))
scale-value env c m (term d n q) =
    ap (λ z. c *ℤ d *ℤ z +ℤ value env (scale c m q)) (join-product env m n)
    ∙ ap (λ z. z +ℤ value env (scale c m q)) (*ℤ_swap c d (product env m) (product env n))
    ∙ ap (λ z. c *ℤ product env m *ℤ (d *ℤ product env n) +ℤ z) (scale-value env c m q)
    ∙ sym (*ℤ-distrib_left (c *ℤ product env m) (d *ℤ product env n) (value env q))

times-value : (env : List ℤ) (p q : Poly) → value env (times p q) ≡ value env p *ℤ value env q
times-value env nil q = sym (zero-*ℤ (value env q))
times-value env (term c m p) q =
    merge-value env (scale c m q) (times p q)
    ∙ ap (λ z. z +ℤ value env (times p q)) (scale-value env c m q)
    ∙ ap (λ z. c *ℤ product env m *ℤ value env q +ℤ z) (times-value env p q)
    ∙ sym (*ℤ-distrib_right (c *ℤ product env m) (value env p) (value env q))

minus-value : (env : List ℤ) (q : Poly) → value env (scale (negsuc 0) [] q) ≡ neg_ℤ (value env q)
minus-value env q = scale-value env (negsuc 0) [] q ∙ minus_one-*ℤ (value env q)

-- an expression has the value of its normal form
pub norm-value : (env : List ℤ) (e : Expr) → value env (norm e) ≡ eval env e
norm-value env (var n) = omega (arith, ints)
norm-value env (num c) = put-value env c [] nil ∙ omega (arith, ints)
norm-value env (a ⊕ b) =
    merge-value env (norm a) (norm b)
    ∙ ap (λ z. z +ℤ value env (norm b)) (norm-value env a)
    ∙ ap (λ z. eval env a +ℤ z) (norm-value env b)
norm-value env (a ⊖ b) =
    merge-value env (norm a) (scale (negsuc 0) [] (norm b))
    ∙ ap (λ z. z +ℤ value env (scale (negsuc 0) [] (norm b))) (norm-value env a)
    ∙ ap (λ z. eval env a +ℤ z) (minus-value env (norm b) ∙ ap neg_ℤ (norm-value env b))
norm-value env (a ⊗ b) =
    times-value env (norm a) (norm b)
    ∙ ap (λ z. z *ℤ value env (norm b)) (norm-value env a)
    ∙ ap (λ z. eval env a *ℤ z) (norm-value env b)
norm-value env (opp a) = minus-value env (norm a) ∙ ap neg_ℤ (norm-value env a)

-- what has an empty normal form is 0
pub vanishes : (env : List ℤ) (e : Expr) → norm e ≡ nil → eval env e ≡ pos 0
vanishes env e h = sym (norm-value env e) ∙ ap (value env) h

equal_from : (a b : ℤ) → a -ℤ b ≡ pos 0 → a ≡ b
equal_from a b h = omega (arith, ints)

-- two sides whose difference has an empty normal form are equal: the last argument is `refl`
pub solve : (env : List ℤ) (a b : Expr) → norm (a ⊖ b) ≡ nil → eval env a ≡ eval env b
solve env a b h = equal_from (eval env a) (eval env b) (vanishes env (a ⊖ b) h)

-- ---- from equations: a multiple of what is 0 is 0

-- `by` times `zero`, which is 0 where `zero` is
pub record Multiple : Type 0 where
  pub by : Expr
  pub zero : Expr

-- the sum of the multiples
abbrev pub total : List Multiple → Expr
total [] = num (pos 0)
total (m ∷ ms) = m.by ⊗ m.zero ⊕ total ms

-- what the multiples are of is 0
abbrev pub Vanish : List ℤ → List Multiple → Type 0
Vanish env [] = Unit {0}
Vanish env (m ∷ ms) = (eval env m.zero ≡ pos 0) × Vanish env ms

total-zero : (env : List ℤ) (ms : List Multiple) → Vanish env ms → eval env (total ms) ≡ pos 0
total-zero env [] h = refl
total-zero env (m ∷ ms) h =
    ap (λ z. eval env m.by *ℤ z +ℤ eval env (total ms)) h.0
    ∙ ap (λ z. z +ℤ eval env (total ms)) (*ℤ-zero (eval env m.by))
    ∙ ap (λ z. pos 0 +ℤ z) (total-zero env ms h.1)

-- two sides are equal that differ by multiples of what is 0
pub solve_from : (env : List ℤ) (ms : List Multiple) (a b : Expr) → norm (a ⊖ (b ⊕ total ms)) ≡ nil → Vanish env ms
    → eval env a ≡ eval env b
solve_from env ms a b e h =
    let s = solve env a (b ⊕ total ms) e in
    let t = total-zero env ms h in
    omega (arith, ints)
