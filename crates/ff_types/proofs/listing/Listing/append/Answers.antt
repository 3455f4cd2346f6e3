use Rattle.std.proofs.Common.{◌≡◌, ◌≤◌, sym, ◌∙◌, ap, subst, refl, arith, length, [], ◌∷◌, ◌++◌}
use Rattle.std.proofs.lemmas.List.{length_push}
use Rattle.ff_types.specs.declared.limits.TheConstants.{MOST_CONSTRAINTS}
use Rattle.ff_types.specs.Splitting.{listed_of, IsFull}
use Rattle.ff_types.proofs.Split.{length-listed, listed-push}
use Rattle.ff_types.proofs.listing.Listing.append.Goals as goal

pub returns-then-as_slice-ge-MOST_CONSTRAINTS-clause-refused : goal.returns-then-as_slice-ge-MOST_CONSTRAINTS-clause-refused
returns-then-as_slice-ge-MOST_CONSTRAINTS-clause-refused c =
    let many : length c.args.self.now ≡ length c.as_slice.result.now = sym (ap length c.as_slice.ensures.value ∙ length-listed c.self.inside.constraints.items c.self.inside.cites.items c.self.invariant ∙ ap length c.self.view_is) in
    let full = c.if-as_slice-ge-MOST_CONSTRAINTS.true in
    subst (IsFull (length c.args.self.now)) (sym c.too_many.ensures) (refl, subst (λ n. MOST_CONSTRAINTS ≤ n) (sym many) full)

pub returns-clause-appended : goal.returns-clause-appended
returns-clause-appended c =
    let cons = c.push_reserved.ensures.items ∙ ap (λ xs. xs ++ c.args.listed.constraint ∷ []) c.reserve_one.ensures.same_constraints in
    let cites = c.push_reserved-2.ensures.items ∙ ap (λ xs. xs ++ c.args.listed.cite ∷ []) c.reserve_one.ensures.same_cites in
    (λ i. listed_of (cons i) (cites i)) ∙ listed-push c.self.inside.constraints.items c.self.inside.cites.items c.args.listed c.self.invariant ∙ ap (λ ls. ls ++ c.args.listed ∷ []) c.self.view_is

pub returns-clause-few : goal.returns-clause-few
returns-clause-few c =
    let cons = c.push_reserved.ensures.items ∙ ap (λ xs. xs ++ c.args.listed.constraint ∷ []) c.reserve_one.ensures.same_constraints in
    let cites = c.push_reserved-2.ensures.items ∙ ap (λ xs. xs ++ c.args.listed.cite ∷ []) c.reserve_one.ensures.same_cites in
    let all = ap length ((λ i. listed_of (cons i) (cites i)) ∙ listed-push c.self.inside.constraints.items c.self.inside.cites.items c.args.listed c.self.invariant) in
    let more = length_push (listed_of c.self.inside.constraints.items c.self.inside.cites.items) c.args.listed in
    let many = length-listed c.self.inside.constraints.items c.self.inside.cites.items c.self.invariant in
    let len = ap length c.as_slice.ensures.value in
    let room = c.if-as_slice-ge-MOST_CONSTRAINTS.false in
    subst (λ n. n ≤ MOST_CONSTRAINTS) (sym (all ∙ more)) (omega (arith, many, len, room))
