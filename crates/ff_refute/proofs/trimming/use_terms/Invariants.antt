use Rattle.std.proofs.Common.{ℕ, ◌⊎◌}
use Rattle.ff_refute.specs.Trimming.{Has, HasAllOf, HasTerms, IsTermOf}
use Rattle.ff_refute.proofs.trimming.use_terms.Given as goal

abbrev pub invariant-loop-j : goal.invariant-loop-j
invariant-loop-j l = HasAllOf l.uses l.fn.uses × HasTerms l.con.terms l.j l.uses
    × ((v : ℕ) → Has l.uses v → Has l.fn.uses v ⊎ IsTermOf l.con.terms l.j v)
