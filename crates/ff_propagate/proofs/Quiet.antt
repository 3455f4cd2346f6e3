-- Values under which no constraint forces more: those of a board.
use Rattle.std.proofs.Common.{◌≡◌, ℕ, zero, suc, ◌<◌, Bool, true, false, ◌&&◌, List, [], ◌∷◌, length, slice_index, slice_get, IsTrue, refl, sym, ◌∙◌, subst, arith, Option, Some, None, Contains}
use Rattle.std.proofs.lemmas.List.{get_or_default}
use Rattle.std.specs.List.{list_all}
use Rattle.ff_tables.specs.declared.orders.Order.{Order}
use Rattle.ff_tables.specs.declared.terms.Kind.{Kind}
use Rattle.ff_tables.specs.declared.terms.Kind.TheVariants.{TacoTaco, TacoTortilla, TortillaTortilla, Transitivity}
use Rattle.ff_tables.specs.declared.terms.Constraint.{Constraint}
use Rattle.ff_tables.specs.Orders.{term_at}
use Rattle.ff_tables.specs.Rows.{arity}
use Rattle.ff_tables.specs.Systems.{AreFit}
use Rattle.ff_tables.specs.Forces.{Forces, Knows, NoneAgrees}
use Rattle.ff_tables.proofs.Agreeing.{forces_more}
use Rattle.ff_propagate.specs.Closure.{InClosure, IsClosure}
use Rattle.ff_propagate.specs.Parts.{IsPart, IsUndecided, AreLinked}
use Rattle.ff_propagate.proofs.Joining.{Stands}

-- what a constraint forces is known
abbrev pub IsQuiet : List Constraint → (ℕ → Option Order) → Type 0
IsQuiet cons f = (c : ℕ) (con : Constraint) (v : ℕ) (s : Order) → slice_get cons c ≡ Some con
    → Forces con.kind con.terms (Knows f) v s → f v ≡ Some s

-- what the closure forces is in it
pub closure_forced : (cons : List Constraint) (base : ℕ → Order → Type 0) (c : ℕ) (con : Constraint) (v : ℕ)
    (s : Order) → slice_get cons c ≡ Some con
    → Forces con.kind con.terms (InClosure cons base) v s → InClosure cons base v s
closure_forced cons base c con v s is f set closed = closed.forced_held c con v s is
    (forces_more con.kind con.terms (InClosure cons base) (λ u t. IsTrue (set u t)) v s
    (λ j t l q. q set closed) f)

-- a closure has all that is forced from it
pub closure_quiet : (cons : List Constraint) (base : ℕ → Order → Type 0) (f : ℕ → Option Order)
    → IsClosure cons base f → IsQuiet cons f
closure_quiet cons base f exact c con v s is force =
    (exact v s).1
    (closure_forced cons base c con v s is
    (forces_more con.kind con.terms (Knows f) (InClosure cons base) v s
    (λ j t l q. (exact (term_at con.terms j).var t).0 q) force))

one_term : (kind : Kind) → 0 < arity kind
one_term TacoTaco = omega arith
one_term TacoTortilla = omega arith
one_term TortillaTortilla = omega arith
one_term Transitivity = omega arith

-- a dead constraint forces both values
pub dead_forces : (vars : ℕ) (cons : List Constraint) → AreFit vars cons → (c : ℕ) (con : Constraint)
    → slice_get cons c ≡ Some con → (known : ℕ → Order → Type 0) → NoneAgrees con.kind con.terms known
    → (s : Order) → Forces con.kind con.terms known (term_at con.terms 0).var s
dead_forces vars cons fit c con is known none
    s = (
      0,
      subst (λ n. 0 < n) (sym (fit c con is).terms) (one_term con.kind),
      refl,
      λ k row at a.
          absurd (none k row at a),
    )

pub stands_contains : (part : List ℕ) (v : ℕ) → Stands part v → Contains part v
stands_contains part v (i, l, e) = (i, l, get_or_default part i v 0 l ∙ e)

pub contains_stands : (part : List ℕ) (v : ℕ) → Contains part v → Stands part v
contains_stands part v (i, l, e) = (i, l, get_or_default part i 0 v l ∙ e)

-- an undecided variable that stands in one constraint with one of the part is of the part
pub in_part : (vars : ℕ) (cons : List Constraint) (value : ℕ → Option Order) (part : List ℕ)
    → AreFit vars cons → IsPart vars cons value part → (c : ℕ) (con : Constraint)
    → slice_get cons c ≡ Some con
    → (i j : ℕ) → i < length con.terms → j < length con.terms → Stands part (term_at con.terms i).var
    → value (term_at con.terms j).var ≡ None → Stands part (term_at con.terms j).var
in_part vars cons value part fit is c con at i j li lj (k, lk, e) none =
    let v = (term_at con.terms i).var in
    let w = (term_at con.terms j).var in
    let u = slice_index part k in
    let w_open : IsUndecided vars value w = record { variable = (fit c con at).within j lj; open_yet = none }
    in
    let link : AreLinked vars cons value u w = record {
      first = is.undecided k lk;
      second = w_open;
      together = record {
        number = c;
        constraint = con;
        there = at;
        first = i;
        second = j;
        first_inside = li;
        second_inside = lj;
        first_is = sym e;
        second_is = refl;
      };
    } in
    contains_stands part w ((is.class k w lk w_open).0 (w ∷ [], (link, refl)))

pub all_at : {X : Type 0} (p : X → Bool) (xs : List X) (k : ℕ) (x : X) → list_all p xs ≡ true
    → slice_get xs k ≡ Some x → p x ≡ true
all_at p [] k x h e = absurd (no_row x e)
  where
    no_row : {X : Type 0} (y : X) → None ≡ Some y → ⊥
    no_row y e = cc
all_at p (y ∷ xs) zero x h e = subst (λ z. p z ≡ true) (same y x e) (front (p y) (list_all p xs) h)
  where
    same : {X : Type 0} (x y : X) → Some x ≡ Some y → x ≡ y
    same x y e = cc

    front : (b c : Bool) → (b && c) ≡ true → b ≡ true
    front true c e = refl
    front false c e = e
all_at p (y ∷ xs) (suc k) x h e = all_at p xs k x (back (p y) (list_all p xs) h) e
  where
    back : (b c : Bool) → (b && c) ≡ true → c ≡ true
    back true c e = e
    back false c e = cc

pub all_from : {X : Type 0} (p : X → Bool) (xs : List X)
    → ((k : ℕ) (x : X) → slice_get xs k ≡ Some x → p x ≡ true) → list_all p xs ≡ true
all_from p [] h = refl
all_from p (x ∷ xs) h = both (p x) (list_all p xs) (h 0 x refl) (all_from p xs (λ k y e. h (suc k) y e))
  where
    both : (b c : Bool) → b ≡ true → c ≡ true → (b && c) ≡ true
    both true c h e = e
    both false c h e = h
