use Rattle.std.proofs.Common.{rules, ◌≡◌, ℕ, ◌+◌, ◌<◌, List, Option, Some, None, slice_index_or, slice_get, sym, ap, ◌∙◌, arith}
use Rattle.std.proofs.lemmas.Option.{slice_get-get_or}
use Rattle.ff_propagate.specs.declared.facts.Fact.{Fact}
use Rattle.ff_carry.specs.declared.placing.Placed.{Placed}
use Rattle.ff_serve.proofs.Deduced.{inside, none_some, fact_of_place, reaches_on}
use Rattle.ff_serve.proofs.Quieted.{on_ok, works_rule}
use Rattle.ff_serve.proofs.deducing.deduce_one.Goals as goal

pub fact-requires : goal.fact-requires
fact-requires c = let o = c.args.order.now in let d : Placed = record { level = 0; var = 0 } in
    let f = fact_of_place c.args.facts.now o c.args.n (slice_index_or o c.args.n d) c.requires.order (slice_get-get_or o c.args.n d c.requires.n) in
    inside c.args.facts.now (slice_index_or o c.args.n d).var f.0 f.1

pub unreachable-requires : goal.unreachable-requires
unreachable-requires c = let o = c.args.order.now in let d : Placed = record { level = 0; var = 0 } in
    let f = fact_of_place c.args.facts.now o c.args.n (slice_index_or o c.args.n d) c.requires.order (slice_get-get_or o c.args.n d c.requires.n) in
    none_some f.0 (sym c.in-None.is ∙ (c.fact.ensures ∙ f.1))

pub returns-clause-same : goal.returns-clause-same
returns-clause-same c = let o = c.args.order.now in let d : Placed = record { level = 0; var = 0 } in
    let there = slice_get-get_or o c.args.n d c.requires.n in
    on_ok c.happen.result (λ happened. (reaches_on c.args.case.now c.args.facts.now o c.args.n (slice_index_or o c.args.n d) c.in-Some.fact c.args.core.now c.happen.new.core
    (λ work is. (works_rule c.args.case.now c.args.core.now work c.requires.stands is).wide) c.requires.founded c.requires.wide c.requires.order there
    (sym c.fact.ensures ∙ c.in-Some.is) c.requires.reached happened).0) c.happen.ensures.happens

pub returns-clause-reached : goal.returns-clause-reached
returns-clause-reached c = let o = c.args.order.now in let d : Placed = record { level = 0; var = 0 } in
    let there = slice_get-get_or o c.args.n d c.requires.n in
    on_ok c.happen.result (λ happened. (reaches_on c.args.case.now c.args.facts.now o c.args.n (slice_index_or o c.args.n d) c.in-Some.fact c.args.core.now c.happen.new.core
    (λ work is. (works_rule c.args.case.now c.args.core.now work c.requires.stands is).wide) c.requires.founded c.requires.wide c.requires.order there
    (sym c.fact.ensures ∙ c.in-Some.is) c.requires.reached happened).1) c.happen.ensures.happens
