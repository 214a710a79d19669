-- Things that are kept by the numbers of names.
use Rattle.std.specs.Prelude.{ℕ, nat_eq, List, [], Vec, option_map, unwrap_or}
use Rattle.std.specs.declared.alloc.Global.{Global}
use Rattle.std.specs.HashMap.{HashMap, get}

-- what is kept for a name
abbrev pub group_at : {S X : Type 0} → HashMap ℕ (Vec X Global) S → ℕ → List X
group_at groups q = unwrap_or (option_map (λ v. v.items) (get nat_eq groups q)) []
