-- Rule RaisePlace: a raise without a name stands in no handler (11.3).
use Rattle.std.specs.Prelude.{if◌then◌else◌, List, [], ◌∷◌}
use Rattle.ada_tree.specs.declared.naming.Span.{Span}
use Rattle.syn_event.specs.CheckScope.{CheckScope, CheckDemand, raises_again}

-- The raises without a name outside of handlers.
abbrev pub raise_place : CheckScope → CheckDemand → List Span
raise_place around (raises_again s) = if around.in_handler then [] else s ∷ []
raise_place around _ = []
