-- A scan of all constraints, one after the other.
use Rattle.std.proofs.Common.{◌≡◌, ℕ, ◌+◌, ◌≤◌, List, length, slice_get, sym, refl, ap, ◌∙◌, subst, arith, Option, Some, None}
use Rattle.std.proofs.lemmas.Option.{slice_get_within}
use mathlib.Core.Logic.{dite}
use native.Mathlib.Decide.{ℕ_discrete}
use Rattle.ff_tables.specs.declared.orders.Order.{Order}
use Rattle.ff_tables.specs.declared.terms.Constraint.{Constraint}
use Rattle.ff_tables.specs.declared.known.Forced.TheVariants.{Nothing, Value, Dead}
use Rattle.ff_tables.specs.declared.known.Forced.{Forced}
use Rattle.ff_tables.specs.Forces.{Forces, ForcedIs, IsFirst, NoneAgrees, SomeAgrees, Knows}
use Rattle.ff_propagate.specs.declared.facts.Fact.{Fact}
use Rattle.ff_propagate.specs.Facts.{fact_at, value_at, seen}
use Rattle.ff_propagate.specs.Closing.{IsDeadIn}
use Rattle.ff_propagate.specs.ClosureLaws.{AreQuiet}
use Rattle.ff_propagate.proofs.Exact.{quiet_known}
use Rattle.ff_propagate.proofs.Lists.{seen_none}
use Rattle.ff_core.specs.Steps.{ForcesMore}
use Rattle.ff_core.specs.Scans.{first_of, more_after, IsFirstMore, AliveTo, QuietTo, MoreTo, IsScannedTo}

same_con : {a b : Constraint} → Some a ≡ Some b → a ≡ b
same_con e = cc

-- a constraint of which some row agrees isn't dead
not_dead : (cons : List Constraint) (fs : List (Option Fact)) (c : ℕ) (con : Constraint) → slice_get cons c ≡ Some con
    → SomeAgrees con.kind con.terms (Knows (value_at fs)) → IsDeadIn cons fs c → ⊥
not_dead cons fs c con is some d =
    let e : d.constraint ≡ con = same_con (sym d.there ∙ is) in
    let none = subst (λ (x : Constraint). NoneAgrees x.kind x.terms (Knows (value_at fs))) e d.none in
    none some.0 some.1 some.2 some.3

-- a quiet constraint forces no more
pub not_more : (cons : List Constraint) (fs : List (Option Fact)) (c : ℕ) (con : Constraint) → slice_get cons c ≡ Some con
    → ForcedIs con.kind con.terms (value_at fs) Nothing → ForcesMore cons fs c → ⊥
not_more cons fs c con is quiet m =
    let e : m.constraint ≡ con = same_con (sym m.there ∙ is) in
    let known : value_at fs m.variable ≡ Some m.value = quiet_known con.kind con.terms (value_at fs) m.variable m.value quiet
    (subst (λ (x : Constraint). Forces x.kind x.terms (Knows (value_at fs)) m.variable m.value) e m.forces) in
    clash (sym (ap seen m.unset) ∙ known)
  where
    clash : None ≡ Some m.value → ⊥
    clash h = cc

alive_more : (cons : List Constraint) (fs : List (Option Fact)) (n : ℕ) (con : Constraint) → slice_get cons n ≡ Some con
    → SomeAgrees con.kind con.terms (Knows (value_at fs)) → AliveTo cons fs n → AliveTo cons fs (n + 1)
alive_more cons fs n con is some alive c l d = dite (ℕ_discrete c n)
    (λ e. not_dead cons fs n con is some (subst (λ k. IsDeadIn cons fs k) e d))
    (λ ne. alive c (omega (arith, l, ne)) d)

quiet_more : (cons : List Constraint) (fs : List (Option Fact)) (n : ℕ) (con : Constraint) → slice_get cons n ≡ Some con
    → ForcedIs con.kind con.terms (value_at fs) Nothing → QuietTo cons fs n → QuietTo cons fs (n + 1)
quiet_more cons fs n con is quiet m c x l at = dite (ℕ_discrete c n)
    (λ e. subst (λ (y : Constraint). ForcedIs y.kind y.terms (value_at fs) Nothing) (same_con (sym is ∙ ap (slice_get cons) (sym e) ∙ at)) quiet)
    (λ ne. m c x (omega (arith, l, ne)) at)

more_kept : (cons : List Constraint) (fs : List (Option Fact)) (n : ℕ) (con : Constraint) (o : Option ℕ) → slice_get cons n ≡ Some con
    → ForcedIs con.kind con.terms (value_at fs) Nothing → MoreTo cons fs n o → MoreTo cons fs (n + 1) o
more_kept cons fs n con None is quiet m = quiet_more cons fs n con is quiet m
more_kept cons fs n con (Some d) is quiet m = let l = m.0 in (omega (arith, l), m.1, m.2)

pub scan_quiet : (cons : List Constraint) (fs : List (Option Fact)) (n : ℕ) (con : Constraint) (o : Option ℕ) → slice_get cons n ≡ Some con
    → ForcedIs con.kind con.terms (value_at fs) Nothing → IsScannedTo cons fs n o → IsScannedTo cons fs (n + 1) o
scan_quiet cons fs n con o is quiet s = record { alive = alive_more cons fs n con is quiet.0 s.alive; more_is = more_kept cons fs n con o is quiet s.more_is }

first_more : (cons : List Constraint) (fs : List (Option Fact)) (n : ℕ) (con : Constraint) (v : ℕ) (t : Order) (o : Option ℕ)
    → slice_get cons n ≡ Some con → IsFirst con.kind con.terms (value_at fs) v t → MoreTo cons fs n o
    → MoreTo cons fs (n + 1) (first_of o n)
first_more cons fs n con v t (Some d) is f m = let l = m.0 in (omega (arith, l), m.1, m.2)
first_more cons fs n con v t None is f m = (
  omega arith,
  record { constraint = con; there = is; variable = v; value = t; unset = seen_none (fact_at fs v) f.unknown; forces = (f.at, f.within, f.var, f.only) },
  λ d l g. not_more cons fs d g.constraint g.there (m d g.constraint l g.there) g,
)

pub scan_more : (cons : List Constraint) (fs : List (Option Fact)) (n : ℕ) (con : Constraint) (v : ℕ) (t : Order) (o : Option ℕ)
    → slice_get cons n ≡ Some con → IsFirst con.kind con.terms (value_at fs) v t → IsScannedTo cons fs n o
    → IsScannedTo cons fs (n + 1) (first_of o n)
scan_more cons fs n con v t o is f s = record { alive = alive_more cons fs n con is f.some s.alive; more_is = first_more cons fs n con v t o is f s.more_is }

-- the next constraint, where it isn't dead
pub scan_next : (cons : List Constraint) (fs : List (Option Fact)) (n : ℕ) (con : Constraint) (o : Option ℕ) (found : Forced)
    → slice_get cons n ≡ Some con → ForcedIs con.kind con.terms (value_at fs) found → (found ≡ Dead → ⊥) → IsScannedTo cons fs n o
    → IsScannedTo cons fs (n + 1) (more_after o found n)
scan_next cons fs n con o Nothing is f d s = scan_quiet cons fs n con o is f s
scan_next cons fs n con o (Value v t) is f d s = scan_more cons fs n con v t o is f s
scan_next cons fs n con o Dead is f d s = absurd (d refl)

pub scan_quiet_all : (cons : List Constraint) (fs : List (Option Fact)) (n : ℕ) → length cons ≤ n → IsScannedTo cons fs n None → AreQuiet cons (value_at fs)
scan_quiet_all cons fs n l s c con is = let m = slice_get_within cons c con is in s.more_is c con (omega (arith, l, m)) is

pub scan_more_all : (cons : List Constraint) (fs : List (Option Fact)) (n c : ℕ) → length cons ≤ n → IsScannedTo cons fs n (Some c) → IsFirstMore cons fs c
scan_more_all cons fs n c l s = record {
  alive = λ d. let m = slice_get_within cons d.0 d.1.constraint d.1.there in s.alive d.0 (omega (arith, l, m)) d.1;
  forces = s.more_is.1;
  first = s.more_is.2;
}
