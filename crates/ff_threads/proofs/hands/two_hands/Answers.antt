use Rattle.std.proofs.Common.{◌<◌, ◌∙◌, sym, subst, ℕ}
use Rattle.ff_threads.proofs.Started.{two_of}
use Rattle.ff_threads.proofs.hands.two_hands.Goals as goal

pub returns : goal.returns
returns c =
    let both = two_of c.in_ok-crew.hands.items c.pop.new.self.items c.pop-2.new.self.items c.in-Some-pop.first c.in-Some.second c.in_ok-crew.ensures.hands c.in-Some.ensures.items c.in-Some-pop.ensures.items in
    let e = sym c.in_ok-crew.ensures.crew in
    (both.0 ∙ e, subst (λ (n : ℕ). c.in-Some-pop.first.number < n) (sym both.0) both.1, both.2 ∙ e, subst (λ (n : ℕ). c.in-Some.second.number < n) (sym both.2) both.3)
