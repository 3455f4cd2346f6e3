use Rattle.std.proofs.Common.{◌≡◌, ◌++◌, ◌∙◌, ◌≤◌, ap, codes, false, is_some, refl, string_bytes, subst, sym, true, Some}
use Rattle.serde_json.specs.Data.{Data, depth}
use Rattle.serde_json.specs.Find.{as_object}
use Rattle.serde_json.specs.Read.{max_depth}
use Rattle.serde_json.specs.Written.{compact_text, has_float}
use Rattle.ff_read.specs.Spelling.{object_of}
use Rattle.ff_lined.proofs.Floats.{no_float}
use Rattle.ff_lined.proofs.ReadBack.{object_read, shallow}
use Rattle.ff_lined.proofs.texts.line_with.Goals as goal

pub returns-clause-is : goal.returns-clause-is
returns-clause-is c =
    let is = c.in_ok-value.ensures in
    let plain = subst (λ (d : Data). has_float d ≡ false) (sym is) (no_float c.args.points.now c.args.edges.now c.args.marks.now) in
    c.of.ensures ∙ c.in_ok-push_str.ensures.bytes ∙ ap (λ t. t ++ codes "\n") (c.in_ok-text.ensures.text plain ∙ ap compact_text is)

pub returns-clause-read : goal.returns-clause-read
returns-clause-read c =
    let is = c.in_ok-value.ensures in
    subst (λ (d : Data). object_of c.of.result ≡ Some d) is (ap object_of c.of.ensures
    ∙ object_read c.push_str.new.self (string_bytes c.in_ok-text.text) _ c.in_ok-push_str.ensures.bytes c.in_ok-text.ensures.compact c.in_ok-text.ensures.order (c.in_ok-text.ensures.reads_back
    (subst (λ (d : Data). depth d ≤ max_depth) (sym is) (shallow c.args.points.now c.args.edges.now c.args.marks.now)))
    (subst (λ (d : Data). is_some (as_object d) ≡ true) (sym is) refl))
