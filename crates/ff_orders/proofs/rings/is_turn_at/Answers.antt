use Rattle.std.proofs.Common.{◌≡◌, ◌≢◌, ◌++◌, MatchOption, subst, drop, take, length, ◌-◌, List, ℕ}
use Rattle.std.proofs.lemmas.Bool.{false≢true}
use Rattle.std.proofs.lemmas.Bool.Decides.{Decides-eqb}
use Rattle.std.proofs.lemmas.Slice.Eq.{slice_eq-Decides, strip_prefix_is}
use Rattle.ff_orders.proofs.GivenFaces.{slice_rest, turn_nowhere, turn_there}
use Rattle.ff_orders.proofs.rings.is_turn_at.Goals as goal

pub returns-in-Some : goal.returns-in-Some
returns-in-Some c =
    let ring = c.args.ring.now in let list = c.args.list.now in let k = c.args.k in
    let p = take (length ring - k) (drop k ring) in
    turn_there ring list p c.in-Some.rest.now k c.eq.result (slice_rest k ring)
    (subst (λ r. MatchOption r ((rest : List ℕ) → list ≢ p ++ rest) (λ x. list ≡ p ++ x.now)) c.in-Some.is
    (strip_prefix_is Decides-eqb list p c.strip_prefix.result c.strip_prefix.ensures.cases))
    (slice_eq-Decides Decides-eqb c.in-Some.rest.now (take k ring) c.eq.result c.eq.ensures)

pub returns-in-None : goal.returns-in-None
returns-in-None c =
    let ring = c.args.ring.now in let list = c.args.list.now in let k = c.args.k in
    let p = take (length ring - k) (drop k ring) in (
      (λ t. absurd (false≢true t)),
      (λ turn. absurd (turn_nowhere ring list p k (slice_rest k ring)
          (subst (λ r. MatchOption r ((rest : List ℕ) → list ≢ p ++ rest) (λ x. list ≡ p ++ x.now)) c.in-None.is
          (strip_prefix_is Decides-eqb list p c.strip_prefix.result c.strip_prefix.ensures.cases)) turn)),
    )
