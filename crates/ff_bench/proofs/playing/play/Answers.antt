use Rattle.std.proofs.Common.{rules, ◌≡◌, ◌<◌, ℕ, List, [], length, slice_get, get_or, is_ok, true, false, IfOk, IfErr, Some, sym, ap, ◌∙◌, subst, arith}
use Rattle.ff_viewer.specs.declared.commands.Command.{Command}
use Rattle.ff_journal.specs.Epochs.{viewer_in}
use Rattle.ff_journal.specs.Journals.{commands_of, script_of}
use Rattle.ff_door.specs.Entries.{Follows}
use Rattle.ff_bench.specs.Turns.{EndsWith}
use Rattle.ff_bench.proofs.Following.{next_said, none_said, got_at, got_any}
use Rattle.ff_bench.proofs.playing.play.Goals as goal

pub returns-then-not-is_told : goal.returns-then-not-is_told
returns-then-not-is_told g c =
    let e = c.act-told.ensures in let i = c.loop-index.invariant in let v = c.args.viewer in let script = script_of c.args.scripts.now v in
    let old = c.loop-index.pass.seen in let new = c.act-told.new.pass.seen in record {
      of = e.pass;
      viewer = e.same.viewer ∙ i.viewer;
      whole = e.same.commands ∙ i.whole;
      entered = c.loop-index.index;
      said = none_said v c.loop-index.index script old new c.act-told.result (search rules) (subst (λ (k : ℕ). IfErr c.act-told.result (λ _. Follows viewer_in k old new)) i.viewer e.none) i.said;
    }

pub loop-index-preserved : goal.loop-index-preserved
loop-index-preserved g c =
    let e = c.act-told.ensures in let i = c.loop-index.invariant in let v = c.args.viewer in let script = script_of c.args.scripts.now v in
    let old = c.loop-index.pass.seen in let new = c.act-told.new.pass.seen in let said = c.index-script-index.result in
    let script_is : c.as_slice-script.result.now ≡ script = c.as_slice-script.ensures ∙ got_any c.args.scripts.now v c.index-scripts-viewer.result [] c.requires.there c.index-scripts-viewer.is in
    let less : c.loop-index.index < length script = search rules in
    let at : slice_get script c.loop-index.index ≡ Some said = got_at script c.loop-index.index said less (c.index-script-index.is ∙ ap (λ (l : List Command). get_or l c.loop-index.index said) script_is) in record {
      of = e.pass;
      viewer = e.same.viewer ∙ i.viewer;
      whole = e.same.commands ∙ i.whole;
      said = next_said v c.loop-index.index said script old new c.act-told.result (search rules) (subst (λ (k : ℕ). IfOk c.act-told.result (λ told. EndsWith k said old new told)) i.viewer e.done) at i.said;
    }
