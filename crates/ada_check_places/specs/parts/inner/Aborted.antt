-- The places of a name of an abort statement (9.10).
use Rattle.std.specs.Prelude.{ℕ, Bool, true, false, List, ◌∷◌}
use Rattle.ada_tree.specs.PlainStmt.{PCallee}
use Rattle.syn_event.specs.CheckScope.{CheckScope, CheckSite, aborts_before}
use Rattle.syn_event.specs.CheckSites.{site, callee_sites}

-- a name of an abort statement, which is the last one or has one behind it
abbrev pub aborted_one : CheckScope → ℕ → PCallee → Bool → List CheckSite
aborted_one around k c true = callee_sites around k c
aborted_one around k c false = site around (aborts_before c.name) ∷ callee_sites around k c
