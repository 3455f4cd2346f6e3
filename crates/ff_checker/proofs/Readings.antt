-- What is read of a constraint's terms tells which of its rows agree.
use Rattle.std.proofs.Common.{◌≡◌, ◌≢◌, ◌∙◌, ℕ, zero, suc, ◌+◌, ◌<◌, ◌≤◌, ◌⊎◌, inl, inr, Bool, true, false, ◌&&◌, ◌||◌, List, [], ◌∷◌, ◌++◌, length, take, Option, Some, None, refl, sym, ap, ap₂, subst, IsTrue, arith}
use Rattle.std.specs.Prelude.{slice_set}
use Rattle.std.proofs.lemmas.Bool.{false≢true, and_parts, and_from, cases_eq, or_parts}
use Rattle.std.proofs.lemmas.List.{get_or-set_same, get_or-set_other, length-set}
use Rattle.ff_basics.proofs.Options.{some_same}
use Rattle.ff_basics.proofs.Tests.{either_of}
use Rattle.ff_tables.specs.declared.orders.Order.{Order}
use Rattle.ff_tables.specs.declared.orders.Order.TheVariants.{Below, Above}
use Rattle.ff_tables.specs.declared.terms.Kind.{Kind}
use Rattle.ff_tables.specs.declared.terms.Kind.TheVariants as kind
use Rattle.ff_tables.specs.Orders.{row_at, turn, term_at}
use Rattle.ff_tables.specs.Rows.{arity}
use Rattle.ff_tables.specs.Forces.{NoneAgrees, Knows}
use Rattle.ff_tables.specs.Forces.{Agrees as PlainAgrees}
use Rattle.ff_log.specs.declared.claims.Claim.{Claim}
use Rattle.ff_log.specs.declared.claims.Declared.{Declared}
use Rattle.ff_log.specs.Logs.{claim_at, holds, Agrees, IsDead}
use Rattle.ff_checker.specs.Readings.{plain, plain_terms, value_of, known_in, known_of, HasBoth, AreRead, Only}

pub plain_length : (k : Kind) → length (plain_terms k) ≡ arity k
plain_length kind.TacoTaco = refl
plain_length kind.Transitivity = refl
plain_length kind.TacoTortilla = refl
plain_length kind.TortillaTortilla = refl

pub few_terms : (k : Kind) → arity k ≤ 6
few_terms kind.TacoTaco = omega arith
few_terms kind.Transitivity = omega arith
few_terms kind.TacoTortilla = omega arith
few_terms kind.TortillaTortilla = omega arith

pub plain_at : (k : Kind) (j : ℕ) → j < arity k → term_at (plain_terms k) j ≡ plain j
plain_at kind.TacoTaco zero l = refl
plain_at kind.TacoTaco (suc zero) l = refl
plain_at kind.TacoTaco (suc (suc zero)) l = refl
plain_at kind.TacoTaco (suc (suc (suc zero))) l = refl
plain_at kind.TacoTaco (suc (suc (suc (suc zero)))) l = refl
plain_at kind.TacoTaco (suc (suc (suc (suc (suc zero))))) l = refl
plain_at kind.TacoTaco (suc (suc (suc (suc (suc (suc j)))))) l = absurd (omega (arith, l))
plain_at kind.Transitivity zero l = refl
plain_at kind.Transitivity (suc zero) l = refl
plain_at kind.Transitivity (suc (suc zero)) l = refl
plain_at kind.Transitivity (suc (suc (suc j))) l = absurd (omega (arith, l))
plain_at kind.TacoTortilla zero l = refl
plain_at kind.TacoTortilla (suc zero) l = refl
plain_at kind.TacoTortilla (suc (suc j)) l = absurd (omega (arith, l))
plain_at kind.TortillaTortilla zero l = refl
plain_at kind.TortillaTortilla (suc zero) l = refl
plain_at kind.TortillaTortilla (suc (suc j)) l = absurd (omega (arith, l))

-- one term more of the plain ones
pub one_more : (k : Kind) (j : ℕ) → j < arity k → take j (plain_terms k) ++ plain j ∷ [] ≡ take (j + 1) (plain_terms k)
one_more kind.TacoTaco zero l = refl
one_more kind.TacoTaco (suc zero) l = refl
one_more kind.TacoTaco (suc (suc zero)) l = refl
one_more kind.TacoTaco (suc (suc (suc zero))) l = refl
one_more kind.TacoTaco (suc (suc (suc (suc zero)))) l = refl
one_more kind.TacoTaco (suc (suc (suc (suc (suc zero))))) l = refl
one_more kind.TacoTaco (suc (suc (suc (suc (suc (suc j)))))) l = absurd (omega (arith, l))
one_more kind.Transitivity zero l = refl
one_more kind.Transitivity (suc zero) l = refl
one_more kind.Transitivity (suc (suc zero)) l = refl
one_more kind.Transitivity (suc (suc (suc j))) l = absurd (omega (arith, l))
one_more kind.TacoTortilla zero l = refl
one_more kind.TacoTortilla (suc zero) l = refl
one_more kind.TacoTortilla (suc (suc j)) l = absurd (omega (arith, l))
one_more kind.TortillaTortilla zero l = refl
one_more kind.TortillaTortilla (suc zero) l = refl
one_more kind.TortillaTortilla (suc (suc j)) l = absurd (omega (arith, l))

-- ---- one term

above_told : (a b : Bool) → value_of a b ≡ Some Above → IsTrue a
above_told true b e = refl
above_told false true e = cc
above_told false false e = cc

below_told : (a b : Bool) → value_of a b ≡ Some Below → IsTrue b
below_told true true e = refl
below_told true false e = cc
below_told false true e = refl
below_told false false e = cc

above_known : (a b : Bool) → (IsTrue a → IsTrue b → ⊥) → IsTrue a → value_of a b ≡ Some Above
above_known true true n h = absurd (n refl refl)
above_known true false n h = refl
above_known false b n h = absurd (false≢true h)

below_known : (a b : Bool) → (IsTrue a → IsTrue b → ⊥) → IsTrue b → value_of a b ≡ Some Below
below_known true true n h = absurd (n refl refl)
below_known false true n h = refl
below_known a false n h = absurd (false≢true h)

-- a value that is known holds
told : (d : Declared) (held : List Claim) (j : ℕ) (s : Order) → known_of d held j ≡ Some s → IsTrue (holds held (claim_at d j s))
told d held j Above e = above_told (holds held (claim_at d j Above)) (holds held (claim_at d j Below)) e
told d held j Below e = below_told (holds held (claim_at d j Above)) (holds held (claim_at d j Below)) e

-- and one that holds alone is known
known : (d : Declared) (held : List Claim) (j : ℕ) (s : Order) → (HasBoth d held j → ⊥) → IsTrue (holds held (claim_at d j s)) → known_of d held j ≡ Some s
known d held j Above n h = above_known (holds held (claim_at d j Above)) (holds held (claim_at d j Below)) (λ a b. n (a, b)) h
known d held j Below n h = below_known (holds held (claim_at d j Above)) (holds held (claim_at d j Below)) (λ a b. n (a, b)) h

orders_differ : Below ≢ Above
orders_differ e = cc

-- where both values hold no row agrees
pub both_agree : (d : Declared) (held : List Claim) (row : List Order) (j : ℕ) → j < length d.terms → HasBoth d held j → Agrees d held row → ⊥
both_agree d held row j l both a = orders_differ (sym (a j Below l both.1) ∙ a j Above l both.0)

-- ---- the terms together

-- the row has each value that is known
abbrev pub Fits : Kind → (ℕ → Option Order) → List Order → Type 0
Fits k f row = (j : ℕ) (b : Order) → j < arity k → f j ≡ Some b → row_at row j ≡ b

pub plain_fits : (k : Kind) (f : ℕ → Option Order) (row : List Order) → PlainAgrees (plain_terms k) (Knows f) row → Fits k f row
plain_fits k f row a j b l e = a j b (omega (arith, l, plain_length k)) (subst (λ t. f t.var ≡ Some (turn t.flipped b)) (sym (plain_at k j l)) e)

pub fits_plain : (k : Kind) (f : ℕ → Option Order) (row : List Order) → Fits k f row → PlainAgrees (plain_terms k) (Knows f) row
fits_plain k f row a j b l e = let w : j < arity k = omega (arith, l, plain_length k) in
    a j b w (subst (λ t. f t.var ≡ Some (turn t.flipped b)) (plain_at k j w) e)

one_or_other : (a s : Order) → (a ≡ s) ⊎ (a ≡ turn true s)
one_or_other Below Below = inl refl
one_or_other Below Above = inr refl
one_or_other Above Below = inr refl
one_or_other Above Above = inl refl

never_turned : (s : Order) → turn true s ≡ s → ⊥
never_turned Below e = cc
never_turned Above e = cc

module _ (d : Declared) (held : List Claim) (values : List (Option Order)) (counted : length d.terms ≡ arity d.kind)
    (read : AreRead d held (length d.terms) values false) where
  not_both : (j : ℕ) → j < length d.terms → HasBoth d held j → ⊥
  not_both j l h = read.none refl j l h

  pub agrees_fits : (row : List Order) → Agrees d held row → Fits d.kind (known_in values) row
  agrees_fits row a j b l e = let w : j < length d.terms = omega (arith, l, counted) in
      a j b w (told d held j b (sym (read.known j w) ∙ e))

  pub fits_agrees : (row : List Order) → Fits d.kind (known_in values) row → Agrees d held row
  fits_agrees row a j b l h = a j b (omega (arith, l, counted)) (read.known j l ∙ known d held j b (not_both j l) h)

  pub none_dead : NoneAgrees d.kind (plain_terms d.kind) (Knows (known_in values)) → IsDead d held
  none_dead none k row has a = none k row has (fits_plain d.kind (known_in values) row (agrees_fits row a))

  pub dead_none : IsDead d held → NoneAgrees d.kind (plain_terms d.kind) (Knows (known_in values))
  dead_none dead k row has a = dead k row has (fits_agrees row (plain_fits d.kind (known_in values) row a))

  pub known_only : (j : ℕ) (s : Order) → j < length d.terms → known_in values j ≡ Some s → Only d held j s
  known_only j s l e k row has a = agrees_fits row a j s (omega (arith, l, counted)) e

  -- the opposite value in place of what is known there
  module _ (j : ℕ) (s : Order) (l : j < length d.terms) (unknown : known_in values j ≡ Some s → ⊥) where
    abbrev others : List (Option Order)
    others = slice_set values j (Some (turn true s))

    there : known_in others j ≡ Some (turn true s)
    there = get_or-set_same values j (Some (turn true s)) None (omega (arith, l, counted, few_terms d.kind, read.six))

    elsewhere : (i : ℕ) → i ≢ j → known_in others i ≡ known_in values i
    elsewhere i n = get_or-set_other values j i (Some (turn true s)) None n

    other_fits : (row : List Order) → Fits d.kind (known_in values) row → row_at row j ≡ turn true s → Fits d.kind (known_in others) row
    other_fits row a is i b w e = elim (cases_eq i j) [
      | inl q ↦ ap (row_at row) q ∙ is ∙ some_same (sym there ∙ ap (known_in others) (sym q) ∙ e)
      | inr n ↦ a i b w (sym (elsewhere i n) ∙ e)
    ]

    fits_other : (row : List Order) → Fits d.kind (known_in others) row → Fits d.kind (known_in values) row
    fits_other row a i b w e = elim (cases_eq i j) [
      | inl q ↦ elim (one_or_other b s) [
        | inl same ↦ absurd (unknown (ap (known_in values) (sym q) ∙ e ∙ ap (λ x. Some x) same))
        | inr turned ↦ ap (row_at row) q ∙ a j (turn true s) (omega (arith, l, counted)) there ∙ sym turned
      ]
      | inr n ↦ a i b w (elsewhere i n ∙ e)
    ]

    pub none_only : NoneAgrees d.kind (plain_terms d.kind) (Knows (known_in others)) → Only d held j s
    none_only none k row has a = elim (one_or_other (row_at row j) s) [
      | inl same ↦ same
      | inr turned ↦ absurd (none k row has (fits_plain d.kind (known_in others) row (other_fits row (agrees_fits row a) turned)))
    ]

    pub only_none : Only d held j s → NoneAgrees d.kind (plain_terms d.kind) (Knows (known_in others))
    only_none only k row has a =
        let fits = plain_fits d.kind (known_in others) row a in
        never_turned s (sym (fits j (turn true s) (omega (arith, l, counted)) there) ∙ only k row has (fits_agrees row (fits_other row fits)))

-- ---- reading them

pub read_more : (d : Declared) (held : List Claim) (j : ℕ) (values : List (Option Order)) (both a b : Bool) (v : Option Order) → AreRead d held j values both → j < 6
    → a ≡ holds held (claim_at d j Above) → b ≡ holds held (claim_at d j Below) → v ≡ value_of a b
    → AreRead d held (j + 1) (slice_set values j v) (both || (a && b))
read_more d held j values both a b v read l ia ib iv = record {
  six = length-set values j v ∙ read.six;
  known = λ i w. elim (cases_eq i j) [
    | inl q ↦ ap (known_in (slice_set values j v)) q ∙ get_or-set_same values j v None (omega (arith, l, read.six)) ∙ iv ∙ ap₂ value_of ia ib ∙ sym (ap (known_of d held) q)
    | inr n ↦ get_or-set_other values j i v None n ∙ read.known i (omega (arith, w, n))
  ];
  some = λ t. elim (either_of both (a && b) t) [
    | inl e ↦ let s = read.some e in (s.0, omega (arith, s.1), s.2)
    | inr e ↦ let p = and_parts a b e in (j, omega arith, (sym ia ∙ p.0, sym ib ∙ p.1))
  ];
  none = λ t i w h. elim (cases_eq i j) [
    | inl q ↦ let k : HasBoth d held j = subst (HasBoth d held) q h in
        false≢true (sym (or_parts both (a && b) t).1 ∙ and_from a b (ia ∙ k.0) (ib ∙ k.1))
    | inr n ↦ read.none (or_parts both (a && b) t).0 i (omega (arith, w, n)) h
  ];
}

-- the first n plain terms
pub record AreFilled (k : Kind) (n : ℕ) (terms : List Rattle.ff_tables.specs.declared.terms.Term.Term) : Type 0 where
  pub front : terms ≡ take n (plain_terms k)
  pub counted : length terms ≡ n

-- the read values where both hold of no term
pub read_alone : (d : Declared) (held : List Claim) (n : ℕ) (values : List (Option Order)) (both : Bool) → both ≡ false → AreRead d held n values both → AreRead d held n values false
read_alone d held n values both e read = subst (AreRead d held n values) e read

-- where some term has both, any value is the only one
pub both_only : (d : Declared) (held : List Claim) (n : ℕ) (values : List (Option Order)) (both : Bool) (j : ℕ) (s : Order) → n ≡ length d.terms → IsTrue both → AreRead d held n values both → Only d held j s
both_only d held n values both j s e t read k row has a = let some = read.some t in
    absurd (both_agree d held row some.0 (omega (arith, some.1, e)) some.2 a)
