use Rattle.std.proofs.Common.{rules, ◌≡◌, ◌<◌, ℕ, List, length, take, drop, ◌++◌, sym, ap, ◌∙◌, subst, arith}
use Rattle.ff_told.proofs.Filled.{written}
use Rattle.ff_pages.specs.declared.pages.Pages.{Pages}
use Rattle.ff_desk.specs.Searched.{HasWentOn}
use Rattle.ff_desk.proofs.laid.Laid.search.Goals as goal

pub returns-in_ok-go_on-in-Some-clause-search : goal.returns-in_ok-go_on-in-Some-clause-search
returns-in_ok-go_on-in-Some-clause-search c =
    let v = c.as_mut_slice.ensures.value in
    let a = c.go_on.auto.list in
    let b = ap (λ (xs : List Pages). length xs) v in
    let o = c.self.inside.list.ok.0 in (
      c.in-Some.p,
      c.in-Some.ensures,
      subst (λ xs. HasWentOn c.args.case.now.system.constraints c.in-Some.p c.args.self.now xs)
          (sym (written c.self.inside.list.len c.go_on.new.list c.self.inside.list.items (omega (arith, a, b, o)) (omega (arith, o))))
          (subst (λ xs. HasWentOn c.args.case.now.system.constraints c.in-Some.p xs c.go_on.new.list) (v ∙ c.self.view_is) c.in_ok-go_on-in-Some.ensures.went),
    )
