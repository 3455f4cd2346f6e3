-- The lines of what is answered to a log. This project's own.
use Rattle.std.specs.Prelude.{ℕ, List, ◌++◌, codes}
use Rattle.std.specs.Fmt.{decimal}
use Rattle.ff_checker.specs.declared.verdicts.WhyNot.{WhyNot}
use Rattle.ff_checker.specs.declared.verdicts.WhyNot.TheVariants.{NotGiven, BadWitness, NotForced, RowLeft, OpenBranch, AfterEnd}
use Rattle.ff_checker.specs.declared.verdicts.Verdict.{Verdict}
use Rattle.ff_checker.specs.declared.verdicts.Verdict.TheVariants.{Accepted, Refused}
use Rattle.ff_judged.specs.declared.judging.Judgement.{Judgement}
use Rattle.ff_judged.specs.declared.judging.Judgement.TheVariants.{BadLine, Checked}

-- why a line is refused
abbrev pub why_name : WhyNot → List ℕ
why_name NotGiven = codes "not given"
why_name BadWitness = codes "bad witness"
why_name NotForced = codes "not forced"
why_name RowLeft = codes "row left"
why_name OpenBranch = codes "open branch"
why_name AfterEnd = codes "after end"

-- `refused log LINE bad line`
abbrev pub bad_line : ℕ → List ℕ
bad_line n = codes "refused log " ++ decimal n ++ codes " bad line\n"

-- `refused log LINE WHY`
abbrev pub refused_line : ℕ → WhyNot → List ℕ
refused_line n why = codes "refused log " ++ decimal n ++ codes " " ++ why_name why ++ codes "\n"

-- `accepted`, or why not
abbrev pub verdict_line : Verdict → List ℕ
verdict_line Accepted = codes "accepted\n"
verdict_line (Refused n why) = refused_line n why

-- the line for what is answered to a log
abbrev pub judgement_line : Judgement → List ℕ
judgement_line (BadLine n) = bad_line n
judgement_line (Checked v) = verdict_line v
