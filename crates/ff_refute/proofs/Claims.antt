-- What holds of claims where it is known of variables: a constraint forces and dies the same.
use Rattle.std.proofs.Common.{◌≡◌, ℕ, zero, suc, ◌<◌, ◌==◌, ◌&&◌, ◌||◌, Bool, true, false, List, [], ◌∷◌, ◌++◌, map, length, slice_index_or, refl, sym, ap, ◌∙◌, subst, arith, if◌then◌else◌}
use Rattle.std.proofs.lemmas.Bool.{eq-eqb}
use Rattle.ff_tables.specs.declared.orders.Order.{Order}
use Rattle.ff_tables.specs.declared.orders.Order.TheVariants.{Below, Above}
use Rattle.ff_tables.specs.declared.terms.Term.{Term}
use Rattle.ff_tables.specs.declared.terms.Constraint.{Constraint}
use Rattle.ff_tables.specs.Orders.{turn, term_at}
use Rattle.ff_tables.specs.Forces.{Agrees, Forces, NoneAgrees}
use Rattle.ff_tables.proofs.Agreeing.{turn_turn}
use Rattle.ff_log.specs.declared.claims.Claim.{Claim}
use Rattle.ff_log.specs.Logs.{claim, is_claim, holds, with_claim, ForcesClaim, IsDead}
use Rattle.ff_log.specs.Logs.{Agrees as AgreesWith}
use Rattle.ff_log.specs.Grounds.{turned_pair, pair_of, declared_in}
use Rattle.ff_types.specs.Pairs.{pair_at}
use Rattle.ff_refute.specs.Making.{claim_of, Holds, Tells}

-- a claim of two faces, said in the other order
swapped : (f g : ℕ) (s : Order) → claim g f s ≡ claim f g (turn true s)
swapped f g Below = refl
swapped f g Above = refl

claim_of_pair : (fl : Bool) (p : ℕ × ℕ) (s : Order) → claim (turned_pair fl p).0 (turned_pair fl p).1 s ≡ claim p.0 p.1 (turn fl s)
claim_of_pair true p s = swapped p.0 p.1 s
claim_of_pair false p s = refl

term_pair : (pairs : List (ℕ × ℕ)) (ts : List Term) (j : ℕ) → j < length ts
    → slice_index_or (map (pair_of pairs) ts) j (0, 0) ≡ pair_of pairs (term_at ts j)
term_pair pairs [] j l = absurd (omega (arith, l))
term_pair pairs (t ∷ ts) zero l = refl
term_pair pairs (t ∷ ts) (suc j) l = term_pair pairs ts j (omega (arith, l))

as_many : (pairs : List (ℕ × ℕ)) (ts : List Term) → length (map (pair_of pairs) ts) ≡ length ts
as_many pairs [] = refl
as_many pairs (t ∷ ts) = ap suc (as_many pairs ts)

-- what the j-th term says of its faces
claim_of_term : (pairs : List (ℕ × ℕ)) (con : Constraint) (j : ℕ) (s : Order) → j < length con.terms
    → claim (pair_at (declared_in pairs con).terms j).0 (pair_at (declared_in pairs con).terms j).1 s
    ≡ claim_of pairs (term_at con.terms j).var (turn (term_at con.terms j).flipped s)
claim_of_term pairs con j s l =
    ap (λ p. claim p.0 p.1 s) (term_pair pairs con.terms j l)
    ∙ claim_of_pair (term_at con.terms j).flipped (pair_at pairs (term_at con.terms j).var) s

-- a row that agrees with what holds agrees with what is known
agrees_known : (pairs : List (ℕ × ℕ)) (con : Constraint) (held : List Claim) (known : ℕ → Order → Type 0) → Tells pairs held known
    → (row : List Order) → AgreesWith (declared_in pairs con) held row → Agrees con.terms known row
agrees_known pairs con held known tells row a j b l k =
    a j b (subst (λ n. j < n) (sym (as_many pairs con.terms)) l)
    (subst (Holds held) (sym (claim_of_term pairs con j b l)) (tells (term_at con.terms j).var (turn (term_at con.terms j).flipped b) k))

pub forces_claim : (pairs : List (ℕ × ℕ)) (con : Constraint) (held : List Claim) (known : ℕ → Order → Type 0)
    → Tells pairs held known → (v : ℕ) (s : Order) → Forces con.kind con.terms known v s
    → ForcesClaim (declared_in pairs con) held (claim_of pairs v s)
forces_claim pairs con held known tells v s (p, l, e, only) = record {
  place = p;
  value = turn (term_at con.terms p).flipped s;
  within = subst (λ n. p < n) (sym (as_many pairs con.terms)) l;
  says = claim_of_term pairs con p (turn (term_at con.terms p).flipped s) l
      ∙ ap (claim_of pairs (term_at con.terms p).var) (turn_turn (term_at con.terms p).flipped s) ∙ ap (λ u. claim_of pairs u s) e;
  only = λ k row at a. only k row at (agrees_known pairs con held known tells row a);
}

pub dead_claims : (pairs : List (ℕ × ℕ)) (con : Constraint) (held : List Claim) (known : ℕ → Order → Type 0)
    → Tells pairs held known → NoneAgrees con.kind con.terms known → IsDead (declared_in pairs con) held
dead_claims pairs con held known tells none k row at a = none k row at (agrees_known pairs con held known tells row a)

or_left : (a b : Bool) → a ≡ true → (a || b) ≡ true
or_left true b e = refl
or_left false b e = cc

or_cases : (a b c : Bool) → (b ≡ true → c ≡ true) → (a || b) ≡ true → (a || c) ≡ true
or_cases true b c f e = refl
or_cases false b c f e = f e

and_both : (a b : Bool) → a ≡ true → b ≡ true → (a && b) ≡ true
and_both true true e f = refl
and_both true false e f = cc
and_both false b e f = cc

is_itself : (c : Claim) → is_claim c c ≡ true
is_itself c = and_both (c.upper == c.upper) (c.lower == c.lower) (eq-eqb c.upper c.upper refl) (eq-eqb c.lower c.lower refl)

holds_end : (held : List Claim) (c : Claim) → holds (held ++ c ∷ []) c ≡ true
holds_end [] c = or_left (is_claim c c) false (is_itself c)
holds_end (d ∷ held) c = or_right (is_claim d c) (holds (held ++ c ∷ []) c) (holds_end held c)
  where
    or_right : (a b : Bool) → b ≡ true → (a || b) ≡ true
    or_right true b e = refl
    or_right false b e = e

holds_front : (held : List Claim) (c d : Claim) → holds held d ≡ true → holds (held ++ c ∷ []) d ≡ true
holds_front [] c d e = cc
holds_front (x ∷ held) c d e = or_cases (is_claim x d) (holds held d) (holds (held ++ c ∷ []) d) (holds_front held c d) e

pub holds_now : (c : Claim) (held : List Claim) → Holds (with_claim held c) c
holds_now c held = by (holds held c) refl
  where
    by : (b : Bool) → holds held c ≡ b → holds (if b then held else held ++ c ∷ []) c ≡ true
    by true e = e
    by false e = holds_end held c

pub holds_more : (c d : Claim) (held : List Claim) → Holds held d → Holds (with_claim held c) d
holds_more c d held h = by (holds held c)
  where
    by : (b : Bool) → holds (if b then held else held ++ c ∷ []) d ≡ true
    by true = h
    by false = holds_front held c d h
