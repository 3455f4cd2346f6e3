use Rattle.std.proofs.Common.{◌≡◌, ◌<◌, ℕ, subst}
use Rattle.ff_journal.specs.Publications.{published}
use Rattle.ff_bench.specs.Turns.{Took}
use Rattle.ff_bench.proofs.Following.{gone_stayed, turn_searched, turn_published, turn_brought}
use Rattle.ff_bench.proofs.bench.Bench.turn_with.Goals as goal

pub returns-in_err-settle-in-Board-clause-gone : goal.returns-in_err-settle-in-Board-clause-gone
returns-in_err-settle-in-Board-clause-gone g c = gone_stayed c.args.place.now c.take.new.place c.settle.new.place c.in_ok-turn.ensures.gone c.settle.ensures.stays

pub returns-in-Searched-clause-turn : goal.returns-in-Searched-clause-turn
returns-in-Searched-clause-turn g c =
    let base = c.args.self.now.door.base in let k = c.args.place.now.number in let old = c.args.place.now.seen in let seen = c.take.new.place.seen in
    turn_searched base k old seen c.in-Searched.turn (subst (Took base k old seen) c.in-Searched.is c.in_ok-turn.ensures.took)

pub returns-in-Published-clause-turn : goal.returns-in-Published-clause-turn
returns-in-Published-clause-turn g c =
    let base = c.args.self.now.door.base in let k = c.args.place.now.number in let old = c.args.place.now.seen in let seen = c.take.new.place.seen in
    turn_published base k old seen (subst (Took base k old seen) c.in-Published.is c.in_ok-turn.ensures.took)

pub returns-in_ok-settle-in-Board-clause-gone : goal.returns-in_ok-settle-in-Board-clause-gone
returns-in_ok-settle-in-Board-clause-gone g c = gone_stayed c.args.place.now c.take.new.place c.settle.new.place c.in_ok-turn.ensures.gone c.settle.ensures.stays

pub returns-in_ok-settle-in-Board-clause-turn : goal.returns-in_ok-settle-in-Board-clause-turn
returns-in_ok-settle-in-Board-clause-turn g c =
    let base = c.args.self.now.door.base in let k = c.args.place.now.number in let old = c.args.place.now.seen in let seen = c.take.new.place.seen in
    turn_brought base k old seen c.settle.new.place.seen c.in-Board.loan (subst (Took base k old seen) c.in-Board.is c.in_ok-turn.ensures.took)
    (subst (λ (e : ℕ). e < published c.settle.new.place.seen) c.work_with-worked.ensures.epoch c.in_ok-settle-in-Board.ensures.brought)
