-- The constraints that are dead are those whose cites have no row.
use Rattle.std.proofs.Common.{ℕ, List, Some, arith, ap}
use Rattle.std.proofs.lemmas.Option.{slice_get_within}
use Rattle.ff_basics.proofs.Options.{some_same}
use Rattle.ff_types.specs.declared.cases.Case.{Case}
use Rattle.ff_types.specs.Sheets.{Sheet}
use Rattle.ff_types.specs.Cases.{IsCaseOf}
use Rattle.ff_types.specs.Assignments.{set_by}
use Rattle.ff_crossings.proofs.CaseRows.{row_from_set, set_from_row}
use Rattle.ff_crossings.proofs.Truth.{at_place}
use Rattle.ff_orders.specs.declared.said.Said.{Said}
use Rattle.ff_orders.specs.Verdicts.{NoRowAt}
use Rattle.ff_orders.specs.Noted.{DeadAt, value_of}

module _ (g : Sheet) (case : Case) (is : IsCaseOf g case) (said : List Said) where
  pub no_row_is : (n : ℕ) → DeadAt said case.system.constraints n → NoRowAt g case (set_by case.pairs (value_of said)) n
  no_row_is n dead =
      let c = at_place case.cites n (let w = slice_get_within case.system.constraints n dead.con dead.there in omega (arith, w, case.valid.cited)) in
      record {
        cite = c.0;
        there = c.1;
        none = λ row.
            let r = row_from_set g case.pairs is.sorted_pairs (value_of said) c.0 dead.con (is.constraints_are n c.0 dead.con c.1 dead.there) row in
            dead.dead r.0 r.1 r.2 (λ j b l e. r.3 j b l (some_same e));
      }

  pub dead_is : (n : ℕ) → NoRowAt g case (set_by case.pairs (value_of said)) n → DeadAt said case.system.constraints n
  dead_is n no_row =
      let con = at_place case.system.constraints n (let w = slice_get_within case.cites n no_row.cite no_row.there in omega (arith, w, case.valid.cited)) in
      record {
        con = con.0;
        there = con.1;
        dead = λ k row has agrees. no_row.none (set_from_row g case.pairs is.sorted_pairs (value_of said) no_row.cite con.0
            (is.constraints_are n no_row.cite con.0 no_row.there con.1) (k, row, has, λ j b l e. agrees j b l (ap Some e)));
      }
