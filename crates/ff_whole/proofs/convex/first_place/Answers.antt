use Rattle.std.proofs.Common.{arith, sym, ◌∙◌}
use Rattle.std.proofs.lemmas.Bool.{false≢true}
use Rattle.std.proofs.lemmas.Int.{by_lt_z}
use borrow.Author.Count.{below_more}
use lib.Signed.{≤ℤ_refl}
use Rattle.ff_whole.proofs.Signs.{linear}
use Rattle.ff_whole.proofs.convex.first_place.Goals as goal
use Rattle.ff_whole.proofs.convex.first_place.Goals.{then-is_before, else-is_before}

pub loop-i-preserved : goal.loop-i-preserved
loop-i-preserved c =
    let v = c.loop-i.invariant in
    elim c.if-is_before.branch [
      | then-is_before w ↦
          let l = c.is_before.ensures.0 w.if-is_before.true in
          rw w.first-is (record { within = c.loop-i-test.true; least = below_more _ _ (λ k h. let m = v.least k h in omega (arith, linear)) (≤ℤ_refl _) })
      | else-is_before w ↦
          let here = by_lt_z _ _ (λ l. absurd (false≢true (sym w.if-is_before.false ∙ c.is_before.ensures.1 l))) (λ l. l) in
          rw w.first-is (record { within = v.within; least = below_more _ _ v.least here })
    ]
