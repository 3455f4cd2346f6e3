use Rattle.std.proofs.Common.{◌≡◌, ◌≢◌, ◌+◌, ◌<◌, ℕ, rules, refl, sym, ap, ◌∙◌, subst, arith, inl, inr, List, Bool, true, false, length, get_or, set, slice_get, Some}
use mathlib.Core.Logic.{dite}
use native.Mathlib.Decide.{ℕ_discrete}
use Rattle.std.specs.Arc.{arc_value}
use Rattle.ff_types.specs.declared.cases.Case.{Case}
use Rattle.ff_tables.specs.Orders.{term_at}
use Rattle.ff_propagate.specs.Facts.{fact_at}
use Rattle.ff_board.proofs.Steps.{fact_inside, backed_all}
use Rattle.ff_propagate.specs.declared.words.Held.{Held}
use Rattle.ff_board.specs.declared.opening.Opening.{Opening}
use Rattle.ff_propagate.specs.Words.{held, held_of}
use Rattle.ff_board.specs.Facts.{Grows, Sound, cons_in, vars_in}
use Rattle.ff_board.proofs.Rounds.{Noted, notes}
use Rattle.ff_board.proofs.Going.{goes_further}
use Rattle.ff_board.proofs.board.EpochBoard.round.Goals.{then-words-v-eq0+then-found-ne0, else-words-v-eq0, else-words-v-eq0-via-then-words-v-eq0+else-found-ne0, else-words-v-eq0-via-else-words-v-eq0}
use Rattle.ff_board.proofs.board.EpochBoard.round.Goals as goal

pub loop-v-preserved : goal.loop-v-preserved
loop-v-preserved c =
    let l = c.loop-v in let was = l.invariant in let look = c.look-found.ensures.look in let v = l.v in let n = c.look-found.result in let now = c.if-words-v-eq0 in
    let h : Noted l.words now.words l.fresh now.fresh v n = elim now.branch [
      | then-words-v-eq0+then-found-ne0 w ↦ inl (w.fresh-is, search rules, search rules, w.words-is)
      | else-words-v-eq0 w ↦ inr (
        w.fresh-is,
        w.words-is,
        elim w.else-words-v-eq0.branch [
          | else-words-v-eq0-via-then-words-v-eq0+else-found-ne0 u ↦ inr (search rules)
          | else-words-v-eq0-via-else-words-v-eq0 u ↦ inl (search rules)
        ],
      )
    ] in
    let t = notes c.args.words.now l.words now.words l.seat.view.seen c.look-found.new.seat.view.seen l.fresh now.fresh v n (let a = l.auto.words in let b = c.requires.words.0 in omega (arith, a, b, c.vars-v-end.ensures)) look.wide (ap (λ d. d.seen) look.is) look.kept
    was.covers was.noted was.quiet was.more was.less h in
    let o : l.seat.view.opening ≡ c.args.self.now.opening = was.goes.1 ∙ c.requires.seat.1 in
    record {
      goes = goes_further c.args.seat.now l.seat c.look-found.new.seat was.goes c.look-found.ensures.seat;
      covers = t.covers;
      noted = t.noted;
      quiet = t.quiet;
      more = t.more;
      less = t.less;
      backed = λ u h e d f con is j inside m b. dite (ℕ_discrete (term_at con.terms j).var v)
          (λ z. let q = look.backed u h (was.goes.2 u h e) d f con (ap (λ (x : Opening). slice_get (cons_in x) d) o ∙ is) j inside m z in (q.0, ap (held c.look-found.new.seat.view.seen) z ∙ (look.here ∙ q.1)))
          (λ n. let q = was.backed u h e d f con is j inside m (omega arith) in (q.0, look.kept _ _ q.1));
      sound = λ _. subst (λ (x : Opening). Sound x c.look-found.new.seat.view.seen) o look.sound;
      opened = λ u f b e. dite (ℕ_discrete u v)
          (λ z. let t = look.opened f (ap (λ (x : Opening). fact_at x.facts v) o ∙ (ap (fact_at c.args.self.now.opening.facts) (sym z) ∙ e)) in (t.0, ap (held c.look-found.new.seat.view.seen) z ∙ (look.here ∙ t.1)))
          (λ d. let t = was.opened u f (omega arith) e in (t.0, look.kept u _ t.1));
    }

pub returns-clause-sound : goal.returns-clause-sound
returns-clause-sound c some = c.loop-v.invariant.sound (omega (arith, some, c.vars-v-end.ensures))

pub returns-clause-same : goal.returns-clause-same
returns-clause-same c v l = c.loop-v.invariant.noted v (omega (arith, l, c.vars-v-end.ensures))

pub returns-clause-opened : goal.returns-clause-opened
returns-clause-opened c u f p = c.loop-v.invariant.opened u f (let b = fact_inside c.args.self.now.opening.facts u f p in omega (arith, c.args.self.now.opening.wide, c.vars-v-end.ensures)) p

pub returns-clause-backed : goal.returns-clause-backed
returns-clause-backed c u h e = backed_all c.args.self.now.opening c.loop-v.seat.view.seen h h.fact.reason refl
    (λ d f con is j l m. c.loop-v.invariant.backed u h e d f con is j l m
    (let w = ((arc_value c.args.self.now.opening.case).system.fit d con is).within j l in omega (arith, w, c.vars-v-end.ensures)))
