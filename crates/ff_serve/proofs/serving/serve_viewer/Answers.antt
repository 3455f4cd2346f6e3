use Rattle.std.proofs.Common.{rules, ◌≡◌, ℕ, ◌+◌, ◌*◌, ◌<◌, ◌≤◌, List, [], length, take, get_or, sym, ap, ◌∙◌, subst, arith}
use Rattle.ff_viewer.specs.declared.commands.Command.{Command}
use Rattle.ff_journal.specs.Journals.{script_of}
use Rattle.ff_serve.specs.Served.{AreServed}
use Rattle.ff_serve.proofs.Commands.{any_default, served_more, next_viewer, script_short, room_for_two, few_next}
use Rattle.ff_serve.proofs.serving.serve_viewer.Goals as goal

pub overflow_cast-index-end : goal.overflow_cast-index-end
overflow_cast-index-end g c =
    let s : c.as_slice-script.result.now ≡ script_of c.args.scripts.now c.args.viewer = c.as_slice-script.ensures ∙ (c.index-scripts-viewer.is ∙ any_default c.args.scripts.now c.args.viewer c.index-scripts-viewer.result [] c.requires.there) in
    let long = ap length s in let short = script_short c.args.scripts.now c.args.viewer c.requires.there c.requires.short in
    omega (arith, long, short)

pub serve_one-requires-clause-room : goal.serve_one-requires-clause-room
serve_one-requires-clause-room g c =
    let s : c.as_slice-script.result.now ≡ script_of c.args.scripts.now c.args.viewer = c.as_slice-script.ensures ∙ (c.index-scripts-viewer.is ∙ any_default c.args.scripts.now c.args.viewer c.index-scripts-viewer.result [] c.requires.there) in
    let long = ap length s in
    room_for_two c.args.case.now c.args.scripts.now c.args.viewer c.loop-index.index c.loop-index.core.journal c.requires.case c.requires.short
    c.requires.there (omega (arith, long, c.loop-index-test.true)) c.loop-index.invariant.few

pub loop-index-preserved : goal.loop-index-preserved
loop-index-preserved g c =
    let s : c.as_slice-script.result.now ≡ script_of c.args.scripts.now c.args.viewer = c.as_slice-script.ensures ∙ (c.index-scripts-viewer.is ∙ any_default c.args.scripts.now c.args.viewer c.index-scripts-viewer.result [] c.requires.there) in
    let long = ap length s in let was = c.loop-index.invariant in let e = c.in_ok-serve_one.ensures in
    let at : get_or c.as_slice-script.result.now c.loop-index.index c.index-script-index.result ≡ c.index-script-index.result = sym c.index-script-index.is in
    record {
      stands = e.stands;
      few = let f = e.served.few in let w = was.few in omega arith;
      all = e.all;
      served = served_more c.args.scripts.now c.args.viewer c.loop-index.index c.index-script-index.result c.loop-index.core.journal c.serve_one.new.core.journal
          (omega (arith, long, c.loop-index-test.true))
          (subst (λ (l : List Command). get_or l c.loop-index.index c.index-script-index.result ≡ c.index-script-index.result) s at)
          was.served e.served;
      budget = e.budget ∙ was.budget;
    }

pub returns-clause-few : goal.returns-clause-few
returns-clause-few g c =
    let s : c.as_slice-script.result.now ≡ script_of c.args.scripts.now c.args.viewer = c.as_slice-script.ensures ∙ (c.index-scripts-viewer.is ∙ any_default c.args.scripts.now c.args.viewer c.index-scripts-viewer.result [] c.requires.there) in
    let long = ap length s in let was = c.loop-index.invariant.few in
    few_next c.args.scripts.now c.args.viewer (length c.loop-index.core.journal) c.requires.there (omega (arith, long, was))

pub returns-clause-served : goal.returns-clause-served
returns-clause-served g c =
    let s : c.as_slice-script.result.now ≡ script_of c.args.scripts.now c.args.viewer = c.as_slice-script.ensures ∙ (c.index-scripts-viewer.is ∙ any_default c.args.scripts.now c.args.viewer c.index-scripts-viewer.result [] c.requires.there) in
    let whole : c.loop-index.index ≡ length (script_of c.args.scripts.now c.args.viewer) = (let long = ap length s in omega arith) in
    next_viewer c.args.scripts.now c.args.viewer c.loop-index.core.journal
    (subst (λ (n : ℕ). AreServed c.args.scripts.now c.args.viewer n c.loop-index.core.journal) whole c.loop-index.invariant.served)
