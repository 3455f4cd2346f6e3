-- What own constraints force or leave no row for, said of the constraints that they copy.
use Rattle.std.proofs.Common.{◌≡◌, ℕ, ◌<◌, List, length, slice_index, slice_get, sym, ap, ◌∙◌, subst, arith, Option, Some}
use Rattle.ff_tables.specs.declared.orders.Order.{Order}
use Rattle.ff_tables.specs.declared.terms.Constraint.{Constraint}
use Rattle.ff_tables.specs.Orders.{term_at}
use Rattle.ff_tables.specs.Systems.{AreFit}
use Rattle.ff_tables.specs.Forces.{Forces, Knows, NoneAgrees}
use Rattle.ff_solver.specs.Copies.{AreCopied}
use Rattle.ff_solver.specs.Steps.{IsForcedBy, IsDeadBy}
use Rattle.ff_solver.proofs.Copied.{like_from, only_like, none_like}

-- the value of a variable of the case, which is one of its variables
pub record IsForcedThere (vars : ℕ) (cons : List Constraint) (known : ℕ → Order → Type 0) (number v : ℕ) (s : Order) : Type 0 where
  pub within : v < vars
  pub forced : IsForcedBy cons known number v s

module _ (vars : ℕ) (cons own : List Constraint) (fit : AreFit vars cons) (numbers part names : List ℕ)
    (copied : AreCopied cons numbers part names own (length numbers)) (f : ℕ → Option Order) (known : ℕ → Order → Type 0)
    (told : (u : ℕ) (s : Order) → f u ≡ Some s → known (slice_index names u) s) (c : ℕ) (con : Constraint)
    (at : slice_get own c ≡ Some con) where
  pub forced_there : (u : ℕ) (s : Order) → Forces con.kind con.terms (Knows f) u s
      → IsForcedThere vars cons known (slice_index numbers c) (slice_index names u) s
  forced_there u s (p, lp, e, only) =
      let copy = copied.each c con at in
      let lf : p < length copy.from.terms = omega (arith, lp, copy.copied.as_many) in
      let named : slice_index names u ≡ (term_at copy.from.terms p).var = ap (slice_index names) (sym e) ∙ (copy.copied.each p lf).name in
      record {
        within = subst (λ v. v < vars) (sym named) ((fit (slice_index numbers c) copy.from copy.there).within p lf);
        forced = record {
          constraint = copy.from;
          there = copy.there;
          forces = (
            p,
            lf,
            sym named,
            only_like con copy.from (like_from part names copy.from con copy.copied) (Knows f) known
                (λ j b l k. subst (λ v. known v b) (copy.copied.each j (omega (arith, l, copy.copied.as_many))).name
                (told (term_at con.terms j).var b k)) p s lp only,
          );
        };
      }

  pub dead_there : NoneAgrees con.kind con.terms (Knows f) → IsDeadBy cons known (slice_index numbers c)
  dead_there none =
      let copy = copied.each c con at in
      record {
        constraint = copy.from;
        there = copy.there;
        none = none_like con copy.from (like_from part names copy.from con copy.copied) (Knows f) known
            (λ j b l k. subst (λ v. known v b) (copy.copied.each j (omega (arith, l, copy.copied.as_many))).name
            (told (term_at con.terms j).var b k)) none;
      }
