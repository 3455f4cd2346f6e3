use Rattle.std.proofs.Common.{rules, ◌≡◌, ◌<◌, ◌≤◌, ℕ, List, length, true, false, inl, inr, sym, ap, ◌∙◌, subst, arith}
use Rattle.std.proofs.lemmas.Option.{slice_get_within}
use Rattle.ff_basics.proofs.Numbers.{last_or}
use Rattle.ff_pages.specs.declared.pages.Pages.{Pages}
use Rattle.ff_desk.specs.Searched.{IsOpenMarked}
use Rattle.ff_desk.proofs.laid.Laid.first_open.Goals as goal

never : false ≡ true → ⊥
never e = cc

pub returns-then-is_open : goal.returns-then-is_open
returns-then-is_open c = (c.is_open.ensures.0 c.if-is_open.true, c.loop-p.invariant)

pub loop-p-preserved : goal.loop-p-preserved
loop-p-preserved c q l o = elim (last_or q c.loop-p.p l) [
  | inl m ↦ c.loop-p.invariant q m o
  | inr e ↦ never (sym c.if-is_open.false ∙ c.is_open.ensures.1 (subst (λ n. IsOpenMarked c.args.case.now.system.constraints c.args.self.now c.args.marks.now n) e o))
]

pub returns : goal.returns
returns c q o =
    let w = slice_get_within c.args.self.now q o.pages o.there in
    let t = c.loop-p-test.false in
    let e = ap (λ (xs : List Pages). length xs) c.self.view_is in
    let k = c.self.inside.list.ok.0 in
    c.loop-p.invariant q (omega (arith, w, t, e, k)) o
