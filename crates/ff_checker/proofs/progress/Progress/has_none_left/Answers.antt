use Rattle.std.proofs.Common.{◌≡◌, ◌<◌, ◌∙◌, length, Some, sym, ap, subst, arith}
use Rattle.std.specs.Prelude.{slice_get}
use Rattle.std.proofs.lemmas.Option.{slice_get-get_or}
use Rattle.ff_log.specs.declared.claims.Declared.{Declared}
use Rattle.ff_log.specs.Logs.{IsDead}
use Rattle.ff_checker.proofs.progress.Progress.has_none_left.Goals as goal

same_declared : (d e : Declared) → Some d ≡ Some e → d ≡ e
same_declared d e h = cc

pub returns : goal.returns
returns c =
    let ds = c.args.self.now.declared.items in
    let d = c.index.result.now in
    let held = c.args.self.now.held.list.items in
    let l : c.args.k < length ds = omega (arith, c.if-k-len.false, c.len.ensures, c.args.self.now.declared.ok.0) in
    let there : slice_get ds c.args.k ≡ Some d = slice_get-get_or ds c.args.k d l ∙ ap (λ x. Some x) (sym c.index.ensures) in (
      (λ t. (d, there, c.is_dead.ensures.0 t)),
      (λ h. c.is_dead.ensures.1 (subst (λ x. IsDead x held) (same_declared h.0 d (sym h.1 ∙ there)) h.2)),
    )
