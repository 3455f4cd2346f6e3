-- The order of darts, in which only a dart itself is equal to it.
use Rattle.std.proofs.Common.{◌≡◌, ◌⊎◌, inl, inr, ℕ, zero, suc, ◌<◌, List, [], ◌∷◌, length, true, get_or, arith, refl, Ordering, Less, Equal, Greater}
use Rattle.std.specs.Ordering.{nat_cmp, ordering_then, MatchOrdering, is_eq}
use Rattle.std.specs.Cmp.{ranks}
use Rattle.std.specs.List.{AllByRecursion, Contains}
use Rattle.std.specs.List.Sorted.{IsStrictlySortedBy}
use Rattle.std.proofs.lemmas.Bool.{false≢true}
use Rattle.ff_basics.proofs.Tests.{equal_of}
use Rattle.ff_drawn.specs.contracts.darts.DartOrd.TheImpl as order
use Rattle.ff_drawn.specs.declared.darts.Dart.{Dart}
use Rattle.ff_drawn.specs.Darts.{dart_at, ComesBefore}

-- what `cmp` answers
abbrev pub dart_cmp : Dart → Dart → Ordering
dart_cmp = order.cmp-value.it

same_dart : (p q : Dart) → p.tail ≡ q.tail → p.head ≡ q.head → p ≡ q
same_dart p q e f = λ i. record { tail = e i; head = f i }

by_parts : (p q : Dart) (a b : Ordering) → MatchOrdering a (p.tail < q.tail) (p.tail ≡ q.tail) (q.tail < p.tail)
    → MatchOrdering b (p.head < q.head) (p.head ≡ q.head) (q.head < p.head) → ordering_then a b ≡ Equal → p ≡ q
by_parts p q Less b x y e = absurd cc
by_parts p q Equal Less x y e = absurd cc
by_parts p q Equal Equal x y e = same_dart p q x y
by_parts p q Equal Greater x y e = absurd cc
by_parts p q Greater b x y e = absurd cc

pub dart_cmp-equal : (p q : Dart) → dart_cmp p q ≡ Equal → p ≡ q
dart_cmp-equal p q h = by_parts p q (nat_cmp p.tail q.tail) (nat_cmp p.head q.head) (ranks p.tail q.tail) (ranks p.head q.head) h

before_parts : (p q : Dart) (a b : Ordering) → MatchOrdering a (p.tail < q.tail) (p.tail ≡ q.tail) (q.tail < p.tail)
    → MatchOrdering b (p.head < q.head) (p.head ≡ q.head) (q.head < p.head) → ordering_then a b ≡ Less → ComesBefore p q
before_parts p q Less b x y e = inl x
before_parts p q Equal Less x y e = inr (x, y)
before_parts p q Equal Equal x y e = absurd cc
before_parts p q Equal Greater x y e = absurd cc
before_parts p q Greater b x y e = absurd cc

pub dart_cmp-less : (p q : Dart) → dart_cmp p q ≡ Less → ComesBefore p q
dart_cmp-less p q h = before_parts p q (nat_cmp p.tail q.tail) (nat_cmp p.head q.head) (ranks p.tail q.tail) (ranks p.head q.head) h

-- ---- a list in this order

all_less : (p : Dart) (ps : List Dart) → AllByRecursion (λ y. dart_cmp p y ≡ Less) ps → (k : ℕ) → k < length ps → ComesBefore p (dart_at ps k)
all_less p [] h k l = absurd (omega (arith, l))
all_less p (q ∷ ps) h zero l = dart_cmp-less p q h.0
all_less p (q ∷ ps) h (suc k) l = all_less p ps h.1 k (omega (arith, l))

pub sorted_by_place : (ps : List Dart) → IsStrictlySortedBy dart_cmp ps → (d c : ℕ) → d < c → c < length ps → ComesBefore (dart_at ps d) (dart_at ps c)
unfolding IsStrictlySortedBy
sorted_by_place [] h d c l m = absurd (omega (arith, m))
sorted_by_place (p ∷ ps) h d zero l m = absurd (omega (arith, l))
sorted_by_place (p ∷ ps) h zero (suc c) l m = all_less p ps h.0 c (omega (arith, m))
sorted_by_place (p ∷ ps) h (suc d) (suc c) l m = sorted_by_place ps h.1 d c (omega (arith, l)) (omega (arith, m))

-- ---- members

pub here_or_later : (p : Dart) (ps : List Dart) (q : Dart) (k : ℕ) → k < length (p ∷ ps) → get_or (p ∷ ps) k q ≡ q → (p ≡ q) ⊎ Contains ps q
here_or_later p ps q zero l e = inl e
here_or_later p ps q (suc k) l e = inr (k, omega (arith, l), e)
