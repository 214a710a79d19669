-- What the rules but Duplicate refuse first at a place, and at several places.
use Rattle.std.specs.Prelude.{List, [], ◌∷◌, Option, None}
use Rattle.ada_static_rules.specs.Refusals.{Refusal}
use Rattle.ada_static_rules.specs.Scope.{Scope}
use Rattle.ada_static_rules.specs.Demand.{Demand, Site}
use Rattle.ada_static_rules.specs.RuleUnknown.{unknown}
use Rattle.ada_static_rules.specs.RuleMismatch.{mismatch}
use Rattle.ada_static_rules.specs.RuleNotStatic.{not_static}
use Rattle.ada_static_rules.specs.RuleRangeBad.{range_bad}
use Rattle.ada_static_rules.specs.RuleNotVariable.{not_variable}
use Rattle.ada_static_rules.specs.RuleReadOut.{read_out}
use Rattle.ada_static_rules.specs.RuleArgCount.{arg_count}
use Rattle.ada_static_rules.specs.RuleChoiceBad.{choice_bad}
use Rattle.ada_static_rules.specs.RuleArrayUse.{array_use}
use Rattle.ada_static_rules.specs.RuleTextUse.{text_use}
use Rattle.ada_static_rules.specs.RuleNotException.{not_exception}
use Rattle.ada_static_rules.specs.Sooner.{sooner, found}

abbrev pub refused_first_at : Scope → Demand → Option Refusal
refused_first_at scope d =
    sooner (found 1 (unknown scope d))
    (sooner (found 3 (mismatch scope d))
    (sooner (found 4 (not_static scope d))
    (sooner (found 5 (range_bad scope d))
    (sooner (found 6 (not_variable scope d))
    (sooner (found 7 (read_out scope d))
    (sooner (found 8 (arg_count scope d))
    (sooner (found 9 (choice_bad scope d))
    (sooner (found 10 (array_use scope d))
    (sooner (found 11 (text_use scope d)) (found 12 (not_exception scope d)))))))))))

unfoldable pub refused_first : List Site → Option Refusal
refused_first [] = None
refused_first (s ∷ rest) = sooner (refused_first_at s.scope s.demand) (refused_first rest)
