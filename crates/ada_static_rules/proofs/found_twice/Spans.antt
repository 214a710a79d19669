-- The refusals of a rule are as many as its places.
use Rattle.std.proofs.Common.{◌≡◌, ℕ, List, [], ◌∷◌, refl}
use Rattle.ada_tree.specs.declared.naming.Span.{Span}
use Rattle.ada_static_rules.specs.Refusals.{by_rule}
use Rattle.common_lemmas.proofs.Lists.{not_empty}

pub no_spans : (n : ℕ) (spans : List Span) → by_rule n spans ≡ [] → spans ≡ []
no_spans n [] e = refl
no_spans n (s ∷ ss) e = absurd (not_empty _ _ e)
