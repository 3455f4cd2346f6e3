use Rattle.std.proofs.Common.{◌<◌, ◌∙◌, length, sym, subst, ap, arith}
use Rattle.std.specs.Prelude.{slice_index_or, false}
use Rattle.std.proofs.lemmas.List.{get_or_default}
use Rattle.ff_checker.specs.LogStates.{IsWithin, place_of}
use Rattle.ff_checker.proofs.HeldLists.{place_within}
use Rattle.ff_checker.proofs.held.Held.has.Goals as goal

pub index-requires : goal.index-requires
index-requires c =
    let w : IsWithin c.args.self.now.side c.args.claim = record { upper = c.if-claim-self.false; lower = c.if-claim-self-2.false } in
    let l = place_within c.args.self.now.side c.args.claim w in
    omega (arith, c.place.ensures, l, c.requires.size, c.args.self.now.flags.ok.0)

pub returns : goal.returns
returns c =
    let w : IsWithin c.args.self.now.side c.args.claim = record { upper = c.if-claim-self.false; lower = c.if-claim-self-2.false } in
    let l : c.place.result < length c.args.self.now.flags.items = subst (λ n. n < length c.args.self.now.flags.items) (sym c.place.ensures)
    (subst (λ n. place_of c.args.self.now.side c.args.claim < n) (sym c.requires.size) (place_within c.args.self.now.side c.args.claim w)) in
    c.index.ensures ∙ get_or_default c.args.self.now.flags.items c.place.result c.index.result.now false l
    ∙ ap (λ n. slice_index_or c.args.self.now.flags.items n false) c.place.ensures ∙ c.requires.flags c.args.claim w
