-- The first of several refusals is the same however they are joined.
use Rattle.std.specs.Prelude.{◌≡◌, ℕ, List, ◌++◌, Option, None}
use Rattle.std.proofs.Common.{ap, ◌∙◌}
use Rattle.std.proofs.lemmas.List.{map-append}
use Rattle.ada_tree.specs.declared.naming.Span.{Span}
use Rattle.ada_static_rules.proofs.RankingLaws.{earlier_assoc, earlier_none, earliest_append}
use Rattle.syn_event.specs.CheckRefusals.{CheckRefusal, by_rule}
use Rattle.ada_check_rules.specs.rules.Sooner.{rank_of, sooner, least_of, found}

pub sooner_assoc : (a b c : Option CheckRefusal) → sooner (sooner a b) c ≡ sooner a (sooner b c)
sooner_assoc = earlier_assoc rank_of

pub sooner_none : (a : Option CheckRefusal) → sooner a None ≡ a
sooner_none = earlier_none rank_of

pub least_append : (xs ys : List CheckRefusal) → least_of (xs ++ ys) ≡ sooner (least_of xs) (least_of ys)
least_append = earliest_append rank_of

pub found_append : (n : ℕ) (xs ys : List Span) → found n (xs ++ ys) ≡ sooner (found n xs) (found n ys)
found_append n xs ys = ap least_of (map-append (λ s. record { rule = n; over = None; span = s }) xs ys) ∙ least_append (by_rule n xs) (by_rule n ys)

pub ruleset sooner_laws = (sooner_assoc, sooner_none, found_append)
