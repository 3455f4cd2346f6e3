use Rattle.std.proofs.Common.{◌≡◌, ℕ, List, subst, refl, sym, Option}
use Rattle.ff_tables.specs.declared.orders.Order.{Order}
use Rattle.ff_tables.specs.declared.terms.Kind.{Kind}
use Rattle.ff_tables.specs.declared.terms.Kind.TheVariants as kind
use Rattle.ff_tables.specs.declared.terms.Term.{Term}
use Rattle.ff_tables.specs.declared.known.Forced.{Forced}
use Rattle.ff_tables.specs.Forces.{ForcedIs}
use Rattle.ff_tables.proofs.forcing.forced.Goals as goal

of_kind : (kind k : Kind) (ts us : List Term) (f : ℕ → Option Order) (r : Forced) → kind ≡ k → us ≡ ts
    → ForcedIs k us f r → ForcedIs kind ts f r
of_kind kind k ts us f r is same h = subst (λ (z : Kind). ForcedIs z ts f r) (sym is)
    (subst (λ (z : List Term). ForcedIs k z f r) same h)

pub returns-in-Transitivity : goal.returns-in-Transitivity
returns-in-Transitivity g c = of_kind c.args.constraint.now.kind kind.Transitivity c.args.constraint.now.terms
    c.as_slice-terms.result.now (g.K.Known.known c.args.known.now) c.forced_by_three.result c.in-Transitivity.is
    c.as_slice-terms.ensures.value c.forced_by_three.ensures

pub returns-in-TacoTaco : goal.returns-in-TacoTaco
returns-in-TacoTaco g c = of_kind c.args.constraint.now.kind kind.TacoTaco c.args.constraint.now.terms
    c.as_slice-terms.result.now (g.K.Known.known c.args.known.now) c.forced_by.result c.in-TacoTaco.is
    c.as_slice-terms.ensures.value c.forced_by.ensures

pub returns-in-TacoTortilla : goal.returns-in-TacoTortilla
returns-in-TacoTortilla g c = of_kind c.args.constraint.now.kind c.args.constraint.now.kind
    c.args.constraint.now.terms c.as_slice-terms.result.now (g.K.Known.known c.args.known.now)
    c.forced_by-in-TacoTortilla.result refl c.as_slice-terms.ensures.value c.forced_by-in-TacoTortilla.ensures
