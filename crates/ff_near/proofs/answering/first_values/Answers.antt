use Rattle.std.proofs.Common.{◌∙◌, ap, sym, length, slice_get}
use Rattle.ff_near.proofs.AllBest.{parts_within, as_many_firsts, solutions_long}
use Rattle.ff_near.proofs.answering.first_values.Goals as goal

pub put_solutions-requires-clause-within : goal.put_solutions-requires-clause-within
put_solutions-requires-clause-within c = parts_within _ _ _ _ _ _ _ c.requires.searched c.requires.parts _ c.in_ok-values.ensures.long

pub put_solutions-requires-clause-as_many : goal.put_solutions-requires-clause-as_many
put_solutions-requires-clause-as_many c = ap length c.as_slice.ensures.value ∙ as_many_firsts _ _ _ _ _ _ _ c.requires.searched c.requires.parts

pub put_solutions-requires-clause-long : goal.put_solutions-requires-clause-long
put_solutions-requires-clause-long c = λ k part solution p f. solutions_long _ _ _ _ _ _ _ c.requires.searched c.requires.parts k part solution p (ap (λ l. slice_get l k) (sym c.as_slice.ensures.value) ∙ f)
