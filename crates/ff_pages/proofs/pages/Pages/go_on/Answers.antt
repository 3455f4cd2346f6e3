use Rattle.std.proofs.Common.{refl}
use Rattle.ff_pages.proofs.Paged.{is_search, either_stands, goes_on_ok, room_same, goes_same}
use Rattle.ff_pages.proofs.pages.Pages.go_on.Goals as goal

pub returns-clause-stands : goal.returns-clause-stands
returns-clause-stands c = either_stands c.args.case.now.system.vars c.args.case.now.system.constraints c.begin.new.self c.begin.ensures.stands c.in-Some.search c.in-Some.is
    _ c.advance_into.new.search c.args.turns c.advance_into.result
    (room_same c.args.self.now c.begin.new.self c.args.turns c.begin.ensures.same.part c.begin.ensures.visited c.begin.ensures.same.budget c.requires.turns)
    c.advance_into.ensures.stands c.advance_into.ensures.same c.advance_into.ensures.gone
    c.advance_into.ensures.kept c.advance_into.ensures.kept_found refl refl refl refl

pub returns-clause-gone : goal.returns-clause-gone
returns-clause-gone c = goes_same c.args.case.now.system.constraints c.args.self.now c.begin.new.self c.args.turns c.advance_into.new.search.visited c.advance_into.result
    c.begin.ensures.same.facts c.begin.ensures.same.part c.begin.ensures.visited
    (goes_on_ok c.args.case.now.system.vars c.args.case.now.system.constraints c.begin.new.self c.begin.ensures.stands c.in-Some.search c.in-Some.is
    c.advance_into.new.search c.args.turns c.advance_into.new.found.items c.advance_into.result c.advance_into.ensures.gone)

pub advance_into-requires-clause-search : goal.advance_into-requires-clause-search
advance_into-requires-clause-search c = is_search c.args.case.now.system.vars c.args.case.now.system.constraints c.begin.new.self c.begin.ensures.stands
    c.in-Some.search c.in-Some.is
