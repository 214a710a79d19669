-- Names are declared in an inner scope, and what stood before it is there again behind it.
use Rattle.std.specs.Prelude.{◌≡◌, ℕ, ◌+◌, ◌<◌, ◌≤◌, List, [], ◌∷◌, ◌++◌, length, map, take, refl}
use Rattle.std.proofs.Common.{sym, ap, ◌∙◌, get_or, length-append}
use Rattle.std.proofs.lemmas.List.{map_more}
use Rattle.std.proofs.lemmas.Grind.{take_at_read}
use Rattle.ada_tree.specs.declared.naming.Word.{Word}
use Rattle.ada_tree.specs.declared.statements.Formal.{Formal}
use Rattle.ada_tree.specs.PlainStmt.{PFormal, plain_formal}
use Rattle.ada_static_rules.specs.Scope.{Scope, Thing, marking}
use Rattle.ada_static_rules.specs.Declaring.{with_name, with_names, with_formals, formal_thing, inner_scope, seen_as}
use Rattle.ada_scopes.specs.declared.scope.Outer.{Outer}
use Rattle.ada_scopes.specs.Nested.{IsOuter, IsWithin}
use Rattle.ada_scopes.specs.inner.Inner.{IsInner}
use Rattle.common_lemmas.proofs.Numbers.{within_sum}

-- one name more at the end
names_end : (t : Thing) (s : Scope) (ws : List Word) (w : Word) → with_names t s (ws ++ w ∷ []) ≡ with_name t (with_names t s ws) w
names_end t s [] w = refl
names_end t s (v ∷ ws) w = names_end t (with_name t s v) ws w

pub names_more : (t : Thing) (s : Scope) (ws : List Word) (i : ℕ) (w d : Word) → i < length ws → w ≡ get_or ws i d
    → with_name t (with_names t s (take i ws)) w ≡ with_names t s (take (i + 1) ws)
names_more t s ws i w d inner_scope at =
    ap (with_name t (with_names t s (take i ws))) at
    ∙ sym (names_end t s (take i ws) (get_or ws i d))
    ∙ ap (with_names t s) (sym (take_at_read ws i d inner_scope).1)

-- one group of formals more at the end
formals_end : (s : Scope) (fs : List PFormal) (f : PFormal) → with_formals s (fs ++ f ∷ []) ≡ with_names (formal_thing f.mode (marking (with_formals s fs) f.mark.name)) (with_formals s fs) f.names
formals_end s [] f = refl
formals_end s (g ∷ fs) f = formals_end (with_names (formal_thing g.mode (marking s g.mark.name)) s g.names) fs f

pub formals_more : (s : Scope) (fs : List Formal) (i : ℕ) (f : Formal) → i < length fs → f ≡ get_or fs i f
    → with_names (formal_thing f.mode (marking (with_formals s (map plain_formal (take i fs))) f.mark.name)) (with_formals s (map plain_formal (take i fs))) f.names.items
    ≡ with_formals s (map plain_formal (take (i + 1) fs))
formals_more s fs i f inner_scope at =
    sym (formals_end s (map plain_formal (take i fs)) (plain_formal f))
    ∙ ap (λ x. with_formals s (map plain_formal (take i fs) ++ plain_formal x ∷ [])) at
    ∙ ap (with_formals s) (sym (map_more plain_formal fs i f inner_scope))

-- one turn of each loop
pub name_declared : (t u : Thing) (s scope new : Scope) (ws : List Word) (i : ℕ) (d : Word) → i < length ws → new ≡ with_name t scope (get_or ws i d) → t ≡ u → scope ≡ with_names u s (take i ws)
    → new ≡ with_names u s (take (i + 1) ws)
name_declared t u s scope new ws i d inner_scope is same before =
    is
    ∙ ap (λ x. with_name x scope (get_or ws i d)) same
    ∙ ap (λ x. with_name u x (get_or ws i d)) before
    ∙ names_more u s ws i (get_or ws i d) d inner_scope refl

pub group_declared : (t : Thing) (s scope new : Scope) (fs : List Formal) (i : ℕ) (f : Formal) (names : List Word) → i < length fs → f ≡ get_or fs i f → new ≡ with_names t scope names → names ≡ f.names.items
    → t ≡ formal_thing f.mode (marking scope f.mark.name) → scope ≡ with_formals s (map plain_formal (take i fs)) → new ≡ with_formals s (map plain_formal (take (i + 1) fs))
group_declared t s scope new fs i f names inner_scope at is named same before =
    is
    ∙ ap (with_names t scope) named
    ∙ ap (λ x. with_names x scope f.names.items) same
    ∙ ap (λ x. with_names (formal_thing f.mode (marking x f.mark.name)) x f.names.items) before
    ∙ formals_more s fs i f inner_scope at

inner_start : (s : Scope) → IsInner (inner_scope s) s
inner_start s = record { types_are = refl; main_is = refl; own_are = refl; bodies_are = refl; instance_is = refl; within = ([], refl) }

inner_name : (t : Thing) (i s : Scope) (w : Word) → IsInner i s → IsInner (with_name t i w) s
inner_name t i s w h = record {
  types_are = h.types_are;
  main_is = h.main_is;
  own_are = h.own_are;
  bodies_are = h.bodies_are;
  instance_is = h.instance_is;
  within = (seen_as t w.name.0 ∷ h.within.0, ap (λ l. seen_as t w.name.0 ∷ l) h.within.1);
}

inner_names : (t : Thing) (i s : Scope) (ws : List Word) → IsInner i s → IsInner (with_names t i ws) s
inner_names t i s [] h = h
inner_names t i s (w ∷ ws) h = inner_names t (with_name t i w) s ws (inner_name t i s w h)

inner_groups : (i s : Scope) (fs : List PFormal) → IsInner i s → IsInner (with_formals i fs) s
inner_groups i s [] h = h
inner_groups i s (f ∷ fs) h =
    inner_groups (with_names (formal_thing f.mode (marking i f.mark.name)) i f.names) s fs (inner_names (formal_thing f.mode (marking i f.mark.name)) i s f.names h)

pub inner_formals : (s : Scope) (fs : List PFormal) → IsInner (with_formals (inner_scope s) fs) s
inner_formals s fs = inner_groups (inner_scope s) s fs (inner_start s)

pub inner_parameter : (t : Thing) (s : Scope) (w : Word) → IsInner (with_name t (inner_scope s) w) s
inner_parameter t s w = inner_name t (inner_scope s) s w (inner_start s)

-- there are the names of the outer scope
pub room : (s i now : Scope) (outer : Outer) → IsOuter s outer → IsInner i s → now ≡ i → outer.count ≤ length now.names
room s i now outer is h same =
    within_sum outer.count (length now.names) (length h.within.0) (length s.names) is.count_is
    (ap (λ x. length x.names) same ∙ ap length h.within.1 ∙ length-append h.within.0 s.names)

-- behind an inner scope all is as before it
pub left : (s i now new : Scope) (outer : Outer) → IsOuter s outer → IsInner i s → now ≡ i
    → ((x : Scope) → IsOuter x outer → IsWithin now x → new ≡ record now { names = x.names; here = x.here }) → new ≡ s
left s i now new outer is h same gone =
    let behind : IsWithin now s = (h.within.0, ap (λ x. x.names) same ∙ h.within.1) in
    gone s is behind
    ∙ ap {A = Scope} (λ x. record x { names = s.names; here = s.here }) same
    ∙ (λ j. record { types = h.types_are j; names = s.names; here = s.here; in_main = h.main_is j; own = h.own_are j; bodies = h.bodies_are j; has_instance = h.instance_is j })
