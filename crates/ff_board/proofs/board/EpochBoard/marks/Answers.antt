use Rattle.std.proofs.Common.{refl, ◌≡◌, ◌≢◌, ◌+◌, ◌-◌, ◌<◌, ℕ, length, sym, ap, ◌∙◌, subst, arith, rules, get_or, true, Some}
use Rattle.std.proofs.lemmas.List.{get_or_read}
use Rattle.ff_tables.specs.declared.terms.Term.{Term}
use Rattle.ff_tables.specs.Orders.{term_at}
use Rattle.ff_propagate.specs.declared.words.Held.{Held}
use Rattle.ff_propagate.specs.Words.{held}
use Rattle.ff_board.specs.Facts.{Lower, Grows, is_marked}
use Rattle.ff_board.proofs.Marks.{few, few_all, marked, all, byte_of}
use Rattle.ff_board.proofs.Going.{goes_further}
use Rattle.ff_board.proofs.board.EpochBoard.marks.Goals as goal

pub loop-left-preserved : goal.loop-left-preserved
loop-left-preserved c =
    let ts = c.args.terms.now in let n = length ts in let i = c.loop-left.left in let was = c.loop-left.invariant in let low = c.is_lower-lower in
    let some : 0 < i = omega arith in
    let here : (term_at ts (i - 1)).var ≡ (term_at ts (i - 1)).var = refl in
    let P : ℕ → Type 0 = λ u. Lower c.loop-left.seat.view.seen c.args.level (term_at ts u).var in
    let Q : ℕ → Type 0 = λ u. Lower low.new.seat.view.seen c.args.level (term_at ts u).var in
    record {
      goes = goes_further c.args.seat.now c.loop-left.seat low.new.seat was.goes low.ensures.seat;
      inside = omega arith;
      few = few c.loop-left.marks c.from.result n i (byte_of low.result _ c.from.ensures) some was.inside was.few;
      marked = marked P Q n i c.loop-left.marks c.from.result low.result some c.from.ensures was.marked (λ u p. (p.0, low.ensures.seat.2 _ _ p.1, p.2)) (λ y. subst (λ (z : ℕ). Lower low.new.seat.view.seen c.args.level z) here (low.ensures.lower (search rules)));
      all = λ k g l apart seen less.
          let R : ℕ → Type 0 = λ u. ((term_at ts u).var ≢ c.args.var) × (held c.args.seat.now.view.seen (term_at ts u).var ≡ Some g) in
          all R n i c.loop-left.marks c.from.result low.result some c.from.ensures (λ k l r. was.all k g l r.0 r.1 less)
          (λ r. let t = low.ensures.all g (λ e. r.0 (sym here ∙ e)) (ap (held c.loop-left.seat.view.seen) here ∙ was.goes.2 _ g r.1) less in search rules) k l (apart, seen);
    }

pub returns-clause-few : goal.returns-clause-few
returns-clause-few c = let was = c.loop-left.invariant in few_all c.loop-left.marks (length c.args.terms.now) c.requires.few (let z : c.loop-left.left ≡ 0 = omega arith in rw (← z) was.few)

pub returns-clause-all : goal.returns-clause-all
returns-clause-all c j g l apart seen less = let z : c.loop-left.left ≡ 0 = omega arith in let e : j + c.loop-left.left ≡ j = omega arith in
    c.loop-left.invariant.all j g (omega arith) (subst (λ (k : ℕ). (term_at c.args.terms.now k).var ≢ c.args.var) (sym e) apart) (subst (λ (k : ℕ). held c.args.seat.now.view.seen (term_at c.args.terms.now k).var ≡ Some g) (sym e) seen) less
