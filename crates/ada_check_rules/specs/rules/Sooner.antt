-- Which of several refusals is answered: the one that starts first, of those at one start the one of the lowest rule, and of several limits there the first in their order. Of two that are equal in this the first one of the list.
use Rattle.std.specs.Prelude.{ℕ, Bool, List, map, Option, Some}
use Rattle.ada_tree.specs.declared.naming.Span.{Span}
use Rattle.ada_static_rules.specs.Ranking.{Rank, is_earlier, earlier, earliest}
use Rattle.syn_event.specs.RuleLimit.{OverAt}
use Rattle.syn_event.specs.CheckRefusals.{CheckRefusal, by_rule, over_order}

-- refusals of one rule at one start are ranked by the limits that they tell
abbrev pub rank_of : CheckRefusal → Rank
rank_of r = record { start = r.span.start; rule = r.rule; last = over_order r.over }

-- a refusal stands before another one
abbrev pub is_before : CheckRefusal → CheckRefusal → Bool
is_before r q = is_earlier (rank_of r) (rank_of q)

-- the first of two
abbrev pub sooner : Option CheckRefusal → Option CheckRefusal → Option CheckRefusal
sooner = earlier rank_of

-- the first of a list
abbrev pub least_of : List CheckRefusal → Option CheckRefusal
least_of = earliest rank_of

-- the first of the places that a rule refuses
abbrev pub found : ℕ → List Span → Option CheckRefusal
found rule spans = least_of (by_rule rule spans)

-- the first of the places where limits are passed
abbrev pub found_over : List OverAt → Option CheckRefusal
found_over places = least_of (map (λ o. record { rule = 23; over = Some o.over; span = o.span }) places)
