-- The bodies of a normal form are as its replay text asks, where their scopes, their names and their entries are.
use Rattle.std.proofs.Common.{ℕ, Bool, List, [], ◌∷◌}
use Rattle.std.specs.List.{AllByRecursion}
use Rattle.ada_tree.specs.PlainStmt.{PBody}
use Rattle.ada_tree.specs.PlainDecl.{PDecl, DTaskBody}
use Rattle.ada_tree.specs.Every.{EveryBody}
use Rattle.ada_static_rules.specs.Scope.{Scope}
use Rattle.ada_static_rules.specs.Declaring.{in_body, inner_scope, after_objects, after_decl}
use Rattle.task_model.specs.Setting.{Setting}
use Rattle.normal_model.specs.RewrittenUnit.{RewrittenUnit}
use Rattle.normal_model.specs.NormalTree.{unit_for}
use Rattle.task_laws.specs.legal.asked.Asked.{AskedBody}
use Rattle.task_laws.specs.legal.asked.Kinds.{place_asks, type_asks}
use Rattle.task_laws.proofs.legal.asked.Placed.{placed_asked}
use Rattle.task_laws.proofs.legal.asked.Together.{both_asked}
use Rattle.normal_laws.specs.structure.checked.Around.{own_rules}
use Rattle.task_laws.specs.legal.alike_scopes.Laws.{IsMetBut}
use Rattle.replay_structure.specs.typed.ScopeOf.{with_scopes, form_asks}
use Rattle.replay_structure.specs.scopes.Form.{IsUnitForm, BodyForms}
use Rattle.replay_structure.specs.legal.names.form_names.Laws.{IsNamedBody}
use Rattle.replay_structure.specs.legal.names.inner.Scoped.{IsUnitScoped, BodiesScoped}
use Rattle.replay_structure.specs.legal.names.inner.Units.{HasItsEntries, IsScopedBody, BodyUnits}

module _ (old inner : ℕ → Bool) where
  -- what is asked of the statements of a unit
  pub unit-asked : (c : Scope) (its : PBody) → EveryBody (own_rules old) 1 its → IsScopedBody inner c its → AskedBody (form_asks old inner) (tt, c) 1 its
  unit-asked c its every scoped = both_asked (place_asks (own_rules old)) (with_scopes inner (type_asks IsMetBut)) tt c 1 its (placed_asked (own_rules old) 1 its every) scoped

  -- and of their scope
  pub unit-form : (u : RewrittenUnit) (c : Scope) → IsUnitScoped old c → HasItsEntries u inner c → IsUnitForm u old inner c
  unit-form u c scoped has = record { self = scoped.self; falses = scoped.falses; called = has.called; accepted = has.accepted }

  -- Each body is so.
  pub bodies-formed : (g : Setting) (xs : List PDecl) (c : Scope) → BodiesScoped g.program old c xs → AllByRecursion (IsNamedBody old) xs → BodyUnits g inner c xs → BodyForms g old inner c xs
  bodies-formed g [] c scoped named units = tt
  bodies-formed g (DTaskBody w objects its s ∷ xs) c scoped named units =
      let d : Scope = inner_scope (after_objects (in_body c w) objects) in (
        record {
          entries = scoped.0.entries;
          means = scoped.0.means;
          named = named.0.named;
          ready = scoped.0.ready;
          owns = named.0.owns;
          inits = named.0.inits;
          selfs = scoped.0.selfs;
          sites = scoped.0.sites;
          form = unit-form (unit_for g w.name) d scoped.0.unit units.0;
          asked = unit-asked d its named.0.every units.1;
        },
        bodies-formed g xs (after_decl c (DTaskBody w objects its s)) scoped.1 named.1 units.2,
      )
  bodies-formed g (_ ∷ xs) c scoped named units = absurd scoped
