-- What the rule Limit says of each place of a program that meets the rules.
use Rattle.std.proofs.Common.{◌≡◌, ℕ, List, [], ◌∷◌, flat_map}
use Rattle.std.specs.List.{AllByRecursion}
use Rattle.syn_event.specs.declared.numbering.Mode.{Mode}
use Rattle.syn_event.specs.CheckScope.{CheckSite}
use Rattle.syn_event.specs.CheckRefusals.{refused_at}
use Rattle.syn_event.specs.RuleLimit.{over_limit}
use Rattle.syn_event.proofs.Nothing.{append_nothing}
use Rattle.common_lemmas.proofs.Lists.{map_empty}

-- the rule Limit refuses nothing at the place
pub record Kept (m : Mode) (names : List (List ℕ)) (x : CheckSite) : Type 0 where
  pub within : over_limit m names x.demand ≡ []

kept_one : (m : Mode) (names : List (List ℕ)) (x : CheckSite) → refused_at m names x ≡ [] → Kept m names x
kept_one m names x h = record { within = map_empty _ _ (append_nothing _ _ h).1 }

pub kept_all : (m : Mode) (names : List (List ℕ)) (xs : List CheckSite) → flat_map (refused_at m names) xs ≡ [] → AllByRecursion (Kept m names) xs
kept_all m names [] h = tt
kept_all m names (x ∷ rest) h =
    let both = append_nothing (refused_at m names x) (flat_map (refused_at m names) rest) h in
    (kept_one m names x both.0, kept_all m names rest both.1)
