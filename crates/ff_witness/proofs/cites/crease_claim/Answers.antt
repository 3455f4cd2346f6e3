use Rattle.std.proofs.Common.{◌≡◌, ◌∙◌, sym, ap, ap₂, length, arith, ℕ, Option, Some, None, true, refl}
use Rattle.std.specs.Prelude.{cond}
use Rattle.std.proofs.lemmas.Bool.{lt-ltb}
use Rattle.ff_types.specs.Sheets.{Sheet, sheet_of, mark_of, left_face, right_face, is_edge}
use Rattle.ff_types.specs.Faces.{mark_at}
use Rattle.ff_types.specs.Sides.{sides_at}
use Rattle.ff_log.specs.Grounds.{crease_claim, is_up_face}
use Rattle.ff_witness.specs.Witnessing.{is_up_in}
use Rattle.ff_witness.proofs.cites.crease_claim.Goals as goal

up_same : (g : Sheet) (face : Option ℕ) → is_up_in g.up face ≡ is_up_face g face
up_same g (Some f) = refl
up_same g None = refl

pub returns : goal.returns
returns c =
    let e = c.args.e in
    let g = sheet_of c.args.pattern.now c.args.faces.now c.args.folded.now in
    let sides = ap (λ xs. sides_at xs e) c.as_slice-2.ensures in
    let marks = ap (λ xs. mark_at xs e) c.as_slice-4.ensures in
    let up : c.is_up-up.result ≡ is_up_face g (left_face g e) = c.is_up-up.ensures ∙ ap₂ (λ us s. is_up_in us s.left) c.as_slice-3.ensures sides ∙ up_same g (left_face g e) in
    let there : is_edge g e ≡ true = lt-ltb e (length c.args.pattern.now.edges) (omega (arith, c.if-e-as_slice.false, ap length c.as_slice.ensures)) in
    c.claim_of_mark.ensures
    ∙ (λ i. crease_claim (marks i) (up i) (sides i).left (sides i).right)
    ∙ sym (ap (λ b. cond b (crease_claim (mark_of g e) (is_up_face g (left_face g e)) (left_face g e) (right_face g e)) None) there)
