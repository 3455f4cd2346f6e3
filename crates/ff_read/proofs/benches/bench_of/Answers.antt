use Rattle.std.proofs.Common.{◌∙◌, sym, ap, subst, option_map, rules}
use Rattle.serde_json.specs.View.{view}
use Rattle.ff_read.specs.Benches.{IsNoBenchOf}
use Rattle.ff_read.specs.Scripts.{AreFewScriptsNot, seen_in, seen_lists}
use Rattle.ff_read.proofs.OneBench.{no_fold, no_scripts, no_viewers}
use Rattle.ff_read.proofs.benches.bench_of.Goals as goal

pub returns-in_default-2 : goal.returns-in_default-2
returns-in_default-2 c =
    no_viewers (view c.args.object.now) (view c.in-Some.fold.now) c.bad-in_default-2.result (sym c.in-Some.ensures) c.in_ok-fold_keys.ensures (search rules) c.bad-in_default-2.ensures

pub returns-in_err-pattern : goal.returns-in_err-pattern
returns-in_err-pattern c =
    let keys = c.in_ok-fold_keys.ensures in
    let viewers = sym c.in_ok-viewers.ensures ∙ ap (option_map seen_in) c.in-Some-2.is in
    let why : IsNoBenchOf (view c.args.object.now) c.in_err-pattern.field-0.0 =
    no_fold (view c.args.object.now) (view c.in-Some.fold.now) keys.0 (seen_in c.in-Some-2.viewers) (sym c.in-Some.ensures) keys.1 viewers c.in_err-pattern.field-0.0 c.in_err-pattern.ensures in
    search (rules, why)

pub returns-in_err-scripts : goal.returns-in_err-scripts
returns-in_err-scripts c =
    let viewers = sym c.in_ok-viewers.ensures ∙ ap (option_map seen_in) c.in-Some-2.is in
    let scripts = subst (λ vs. AreFewScriptsNot (seen_lists vs) c.in_err-scripts.field-0.0) c.as_slice.ensures.value c.in_err-scripts.ensures in
    let why : IsNoBenchOf (view c.args.object.now) c.in_err-scripts.field-0.0 =
    no_scripts (view c.args.object.now) (view c.in-Some.fold.now) (seen_in c.in-Some-2.viewers) c.in_ok-pattern.pattern (sym c.in-Some.ensures) viewers c.in_ok-pattern.ensures c.in_err-scripts.field-0.0 scripts in
    search (rules, why)
