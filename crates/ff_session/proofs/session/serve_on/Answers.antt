use Rattle.std.proofs.Common.{rules, arith}
use Rattle.ff_problem.proofs.FewInCases.{few_starts, few_constraints}
use Rattle.ff_session.proofs.Few.{few_commands, few_viewers}
use Rattle.ff_session.proofs.Made.{made}
use Rattle.ff_session.proofs.session.serve_on.Goals as goal

pub serve-requires-clause-starts : goal.serve-requires-clause-starts
serve-requires-clause-starts g c = let l = few_starts _ _ _ _ c.requires.problem in omega (arith, l)

pub serve-requires-clause-constraints : goal.serve-requires-clause-constraints
serve-requires-clause-constraints g c = let l = few_constraints _ _ _ _ c.requires.problem in omega (arith, l)

pub serve-requires-clause-viewers : goal.serve-requires-clause-viewers
serve-requires-clause-viewers g c = few_viewers c.args.input.now.scripts c.requires.few

pub serve-requires-clause-short : goal.serve-requires-clause-short
serve-requires-clause-short g c = few_commands c.args.input.now.scripts c.requires.few

pub returns : goal.returns
returns g c = let e = c.in_ok-core.ensures in let l = c.epochs_are_stackings.ensures in
    made c.args.bytes.now c.args.budget c.args.input.now c.args.found.now.faces c.args.found.now.folded c.args.found.now.case c.in_ok-core.core.journal
    c.requires.read c.requires.problem l.closures l.stackings l.none e.legal e.complete
