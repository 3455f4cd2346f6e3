use Rattle.std.proofs.Common.{rules, ◌≡◌, ◌+◌, ◌*◌, max, min, length, get_or, subst}
use Rattle.std.proofs.lemmas.Option.{slice_get-get_or}
use Rattle.ff_pages.specs.Paging.{RunsTo, visited_of}
use Rattle.ff_told.proofs.Kept.{all_kept}
use Rattle.ff_desk.proofs.Ahead.{has_gone}
use Rattle.ff_desk.proofs.searching.go_on.Goals as goal

pub returns-in_err-ahead-clause-pages : goal.returns-in_err-ahead-clause-pages
returns-in_err-ahead-clause-pages c = all_kept c.args.case.now c.args.list.now c.args.p (get_or c.args.list.now c.args.p c.index-list-p.result) c.ahead.new.self
    (slice_get-get_or c.args.list.now c.args.p c.index-list-p.result c.requires.there) c.ahead.ensures.stands c.ahead.ensures.same

pub returns-clause-pages : goal.returns-clause-pages
returns-clause-pages c = all_kept c.args.case.now c.args.list.now c.args.p (get_or c.args.list.now c.args.p c.index-list-p.result) c.ahead.new.self
    (slice_get-get_or c.args.list.now c.args.p c.index-list-p.result c.requires.there) c.ahead.ensures.stands c.ahead.ensures.same

pub returns-clause-went : goal.returns-clause-went
returns-clause-went c =
    let a = get_or c.args.list.now c.args.p c.index-list-p.result in
    let at = slice_get-get_or c.args.list.now c.args.p c.index-list-p.result c.requires.there in
    let turns : c.max.result ≡ max 4096 (length a.part.vars) = search rules in
    has_gone c.args.case.now.system.vars c.args.case.now.system.constraints c.args.list.now c.args.p a c.ahead.new.self at (c.requires.stands c.args.p a at) (c.requires.unfinished a at) c.ahead.ensures.same
    (subst (λ n. RunsTo c.args.case.now.system.constraints (min (length a.part.vars * visited_of a + n) a.budget) c.ahead.new.self) turns c.in_ok-ahead.ensures.ran)
