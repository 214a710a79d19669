-- Names that are added together to what rules 13 to 23 see.
use Rattle.std.proofs.Common.{◌≡◌, List, [], ◌∷◌, ◌++◌, refl}
use Rattle.ada_tree.specs.declared.naming.Word.{Word}
use Rattle.syn_event.specs.declared.meanings.Meant.{Meant}
use Rattle.syn_event.specs.CheckScope.{CheckScope}
use Rattle.syn_event.specs.CheckSites.{with_meant}

pub meant_joined : (m : Meant) (a : CheckScope) (xs ys : List Word) → with_meant m a (xs ++ ys) ≡ with_meant m (with_meant m a xs) ys
meant_joined m a [] ys = refl
meant_joined m a (x ∷ xs) ys = meant_joined m (record a { names = (x.name.0, m) ∷ a.names }) xs ys

pub meant_units : (m : Meant) (ws : List Word) (s : CheckScope) → (with_meant m s ws).units ≡ s.units
meant_units m [] s = refl
meant_units m (w ∷ ws) s = meant_units m ws _
