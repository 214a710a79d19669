use Rattle.std.proofs.Common.{◌≡◌, ◌++◌, map, take}
use Rattle.normal_lookups.proofs.entry_forms.add_each.Given as goal

abbrev pub invariant-loop-name : goal.invariant-loop-name
invariant-loop-name g l = l.list.items ≡ l.fn.list.items ++ map (λ w. l.what) (take l._name-index l.names)
