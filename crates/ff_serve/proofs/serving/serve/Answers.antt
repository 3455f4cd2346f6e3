use Rattle.std.proofs.Common.{rules, ◌≡◌, ℕ, ◌<◌, List, length, sym, ap, ◌∙◌, subst, arith}
use Rattle.ff_journal.specs.Journals.{IsLegal}
use Rattle.ff_serve.specs.Served.{AreServed}
use Rattle.ff_serve.proofs.Commands.{complete, legal}
use Rattle.ff_serve.proofs.serving.serve.Goals as goal

pub returns-clause-legal : goal.returns-clause-legal
returns-clause-legal g c = let was = c.loop-viewer.invariant in
    let all : c.loop-viewer.viewer ≡ length c.args.scripts.now = (let s = ap length c.as_slice-all.ensures in omega arith) in
    legal c.args.case.now c.args.budget c.args.scripts.now c.loop-viewer.core.journal
    (subst (λ (n : ℕ). IsLegal c.args.case.now n c.loop-viewer.core.journal) was.budget was.stands.legal)
    (subst (λ (n : ℕ). AreServed c.args.scripts.now n 0 c.loop-viewer.core.journal) all was.served)

pub returns-clause-complete : goal.returns-clause-complete
returns-clause-complete g c = let was = c.loop-viewer.invariant in
    let all : c.loop-viewer.viewer ≡ length c.args.scripts.now = (let s = ap length c.as_slice-all.ensures in omega arith) in
    complete c.args.scripts.now c.loop-viewer.core.journal
    (subst (λ (n : ℕ). AreServed c.args.scripts.now n 0 c.loop-viewer.core.journal) all was.served) was.all
