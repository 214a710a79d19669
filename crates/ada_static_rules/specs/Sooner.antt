-- Which of several refusals is answered: the one that starts first, of those at one start the one of the lowest rule, and of those the shortest one.
use Rattle.std.specs.Prelude.{ℕ, Bool, List, Option}
use Rattle.ada_tree.specs.declared.naming.Span.{Span}
use Rattle.ada_static_rules.specs.Refusals.{Refusal, by_rule}
use Rattle.ada_static_rules.specs.Ranking.{Rank, is_earlier, earlier, earliest}

-- refusals of one rule at one start are ranked by their ends
abbrev pub rank_of : Refusal → Rank
rank_of r = record { start = r.span.start; rule = r.rule; last = r.span.end }

-- a refusal stands before another one
abbrev pub is_before : Refusal → Refusal → Bool
is_before r q = is_earlier (rank_of r) (rank_of q)

-- the first of two
abbrev pub sooner : Option Refusal → Option Refusal → Option Refusal
sooner = earlier rank_of

-- the first of a list
abbrev pub least_of : List Refusal → Option Refusal
least_of = earliest rank_of

-- the first of the places that a rule refuses
abbrev pub found : ℕ → List Span → Option Refusal
found rule spans = least_of (by_rule rule spans)
