-- Why a crease pattern has no folded sheet. This project's own.
use Rattle.std.specs.Prelude.{◌⊎◌}
use Rattle.ff_types.specs.declared.patterns.Pattern.{Pattern}
use Rattle.ff_types.specs.declared.refusals.Refusal.{Refusal}
use Rattle.ff_types.specs.declared.refusals.No.{No}
use Rattle.ff_types.specs.declared.refusals.No.TheVariants as no
use Rattle.ff_problem.specs.Problems.{RefusesAsDrawn, RefusesAsFolded}

-- it is refused as it is drawn or as it is folded; what it comes to after that isn't looked at
abbrev pub RefusesSheet : Pattern → Refusal → Type 0
RefusesSheet p r = RefusesAsDrawn p r ⊎ RefusesAsFolded p r

-- the refusal, or no memory
abbrev pub WhyNotFolded : Pattern → No → Type 0
WhyNotFolded p (no.Refused r) = RefusesSheet p r
WhyNotFolded p no.NoMemory = Unit {0}
