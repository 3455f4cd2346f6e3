use Rattle.std.proofs.Common.{◌≡◌, ◌↔◌, sym, ◌∙◌, subst, IsTrue}
use Rattle.ff_types.specs.Sheets.{sheet_of}
use Rattle.ff_edges.specs.SharedSegments.{constrain}
use Rattle.ff_edges.specs.SharedSegments.{beside_both}
use Rattle.ff_types.specs.Cites.{on_one_side}
use Rattle.ff_edges.proofs.Segments.{folded_is_not_flat, constrain_by, both_folded}
use Rattle.ff_edges.proofs.shared.constrain.Goals as goal

pub returns-then-is_folded-2 : goal.returns-then-is_folded-2
returns-then-is_folded-2 c =
    let first = c.mark_of-first.result in let second = c.mark_of-second.result in
    let g = sheet_of c.args.pattern.now c.args.faces.now c.args.folded.now in
    let a = sym c.is_folded.ensures ∙ c.if-is_folded.true in
    let b = sym c.is_folded-then-is_folded.ensures ∙ c.if-is_folded-2.true in
    let side = on_one_side g c.args.e (beside_both g c.args.e c.args.k) in
    let same : constrain g c.args.e c.args.k ≡ side =
    (λ i. constrain_by ((sym c.mark_of-first.ensures.folded ∙ a) i) ((sym c.mark_of-second.ensures.folded ∙ b) i) side ((sym c.mark_of-first.ensures.flat ∙ folded_is_not_flat first a) i) ((sym c.mark_of-second.ensures.flat ∙ folded_is_not_flat second b) i)) ∙ both_folded side in
    subst (λ z. IsTrue c.on_one_side.result ↔ IsTrue z) (sym same) c.on_one_side.ensures
