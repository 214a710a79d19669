-- The scopes of the bodies of a legal program stand over its table, so they are typed as the statements ask.
use Rattle.std.proofs.Common.{◌≡◌, ℕ, Bool, false, List, [], ◌∷◌, is_some, None, refl, ap, subst}
use Rattle.std.specs.List.{AllByRecursion}
use Rattle.ada_tree.specs.declared.naming.Word.{Word}
use Rattle.ada_tree.specs.TypeTable.{TypeTable}
use Rattle.ada_static_rules.specs.StaticValue.{value_named, mark_named}
use Rattle.ada_tree.specs.PlainExpr.{PExpr}
use Rattle.ada_tree.specs.PlainDecl.{DNumber, DObject, DEnumeration, DArray, DSubtype, DException, DIntIo, DPragma, DTask, DTaskBody, PDecls, no_decl, decl_then}
use Rattle.ada_tree.specs.PlainProgram.{PProgram}
use Rattle.ada_tree.specs.Every.{Rules}
use Rattle.ada_tree.specs.WellPlaced.{IsWellPlaced}
use Rattle.ada_static_rules.specs.Scope.{Scope}
use Rattle.ada_static_rules.specs.Demand.{Demand, declares, Site}
use Rattle.ada_static_rules.specs.Sites.{if_there, scheme_sites, head_sites, expr_sites, decls_sites, body_sites}
use Rattle.ada_static_rules.specs.Declaring.{first_scope, inner_scope, after_decl, after_decls}
use Rattle.ada_static_rules.specs.Refusals.{MeetsTypeRules, types_in}
use Rattle.syn_event.specs.declared.numbering.Mode.TheVariants.{Original}
use Rattle.syn_event.specs.CheckScope.{CheckSite}
use Rattle.task_model.specs.Setting.{Setting}
use Rattle.ada_value.specs.StaticLaw.{HasSmallLiterals}
use Rattle.task_laws.specs.legal.sites.Met.{IsMet, IsCheckMet}
use Rattle.task_laws.proofs.legal.sites.Meeting.{all_met}
use Rattle.task_laws.specs.legal.types.Typed.{IsSmall}
use Rattle.task_laws.proofs.legal.types.MainScopes.{StandsWhole, bodies-stand, last-stands}
use Rattle.task_laws.proofs.legal.types.InnerScopes.{IsApartName, IsApartLocal, AreApart, inside-stands, accept-stands}
use Rattle.task_laws.proofs.legal.types.LoopScopes.{loop-stands}
use Rattle.task_laws.proofs.legal.types.BodyScopes.{BodiesStand, bodies-all, no-unclear, mark-known, expr-worth}
use Rattle.normal_laws.proofs.existence.units.Apart.{all-apart}
use Rattle.normal_laws.proofs.existence.seen_tasks.Units.{BodiesTyped}
use Rattle.normal_laws.proofs.existence.statement_forms.Typed.{HasWorth, Typing}
use Rattle.normal_laws.proofs.existence.statement_forms.Text.{text_rules, IsLocal, IsKnownPlace, AreTyped}
use Rattle.common_lemmas.proofs.Lists.{all_front}
use Rattle.common_lemmas.proofs.Options.{none_there}

-- the names that have a value
abbrev pub has_value : TypeTable → ℕ → Bool
has_value T n = is_some (value_named T record { 0 = n })

-- names that inner scopes declare are those of no value and of no type
pub locals-of : (T : TypeTable) (xs : List Site) → AreApart T xs → AllByRecursion (IsLocal T (has_value T)) xs
locals-of T [] h = tt
locals-of T (x ∷ xs) h = (λ w e. let n : IsApartName T w.name = subst (IsApartLocal T) e h.0 in (ap is_some n.value, n.mark), locals-of T xs h.1)

local-apart : (T : TypeTable) (d : Demand) → ((w : Word) → d ≡ declares false w → (has_value T w.name.0 ≡ false) × (mark_named T w.name ≡ None)) → IsApartLocal T d
local-apart T (declares false w) h = record { value = none_there (value_named T w.name) (h w refl).0; mark = (h w refl).1 }
local-apart T _ h = tt

module _ (T : TypeTable) where
  abbrev Place : Site → Type 0
  Place = IsKnownPlace T (has_value T)

  places-met : (xs : List Site) → AllByRecursion Place xs → AllByRecursion IsMet xs
  places-met [] h = tt
  places-met (x ∷ xs) h = (h.0.0, places-met xs h.1)

  places-apart : (xs : List Site) → AllByRecursion Place xs → AreApart T xs
  places-apart [] h = tt
  places-apart (x ∷ xs) h = (local-apart T x.demand h.0.1, places-apart xs h.1)

  -- an expression is worth what its static value says
  expr-typed : (s : Scope) (e : PExpr) → StandsWhole T s → HasSmallLiterals e → AllByRecursion IsMet (expr_sites s e) → HasWorth T s e
  expr-typed s e h small met =
      let k = expr-worth T s e h small met in
      record {
        kind = k.kind;
        is = k.is;
        static = λ st. let w = k.static st in record { number = w.0; static = w.1; value = w.2.value; worth = w.2.worth; position = w.2.position };
      }

  typing : Typing T (StandsWhole T)
  typing = record {
    clear = λ s id h e. no-unclear T s id h e;
    mark = λ s w h m. mark-known T s w h m;
    expr = expr-typed;
  }

-- the bodies among declarations
bodies-typed : (p : PProgram) (T : TypeTable) (place : Site → Type 0) (check_place : CheckSite → Type 0) (r : Rules) (ds : PDecls) (s : Scope) → BodiesStand T s ds → BodiesTyped p T place check_place r (StandsWhole T) s ds
bodies-typed p T place check_place r no_decl s h = tt
bodies-typed p T place check_place r (decl_then (DTaskBody w objects its sp) rest) s h = (h.0, bodies-typed p T place check_place r rest (after_decl s (DTaskBody w objects its sp)) h.1)
bodies-typed p T place check_place r (decl_then (DNumber w e sp) rest) s h = bodies-typed p T place check_place r rest (after_decl s (DNumber w e sp)) h
bodies-typed p T place check_place r (decl_then (DObject ws k x i sp) rest) s h = bodies-typed p T place check_place r rest (after_decl s (DObject ws k x i sp)) h
bodies-typed p T place check_place r (decl_then (DEnumeration w ws sp) rest) s h = bodies-typed p T place check_place r rest (after_decl s (DEnumeration w ws sp)) h
bodies-typed p T place check_place r (decl_then (DArray w i x sp) rest) s h = bodies-typed p T place check_place r rest (after_decl s (DArray w i x sp)) h
bodies-typed p T place check_place r (decl_then (DSubtype w x sp) rest) s h = bodies-typed p T place check_place r rest (after_decl s (DSubtype w x sp)) h
bodies-typed p T place check_place r (decl_then (DException ws sp) rest) s h = bodies-typed p T place check_place r rest (after_decl s (DException ws sp)) h
bodies-typed p T place check_place r (decl_then (DIntIo w sp) rest) s h = bodies-typed p T place check_place r rest (after_decl s (DIntIo w sp)) h
bodies-typed p T place check_place r (decl_then (DPragma e sp) rest) s h = bodies-typed p T place check_place r rest (after_decl s (DPragma e sp)) h
bodies-typed p T place check_place r (decl_then (DTask t sp) rest) s h = bodies-typed p T place check_place r rest (after_decl s (DTask t sp)) h

-- The scopes in the bodies of a program that meets the rules on types are typed.
pub are-typed : (p : PProgram) (made : Setting) (is_old : ℕ → Bool) → MeetsTypeRules p → IsWellPlaced p → IsSmall (types_in p) → AreTyped p made is_old (has_value (types_in p)) (StandsWhole (types_in p))
are-typed p made is_old rules placed small =
    let T = types_in p in
    let first = first_scope p.name in
    let body = body_sites (inner_scope (after_decls first p.decls)) p.body in
    record {
      typing = typing T;
      accept = λ s h stands at. accept-stands T s h stands (places-met T (head_sites s h) at) (places-apart T (head_sites s h) at);
      loop = λ s x stands at. loop-stands T s x stands (places-met T (if_there (scheme_sites s) x) at) (places-apart T (if_there (scheme_sites s) x) at);
      main = inside-stands T (after_decls first p.decls) (last-stands p rules placed small);
      bodies = bodies-typed p T (Place T) (IsCheckMet Original p.names) (text_rules is_old) p.decls first
          (bodies-all T p.decls first (bodies-stand p rules placed small)
          (all_front IsMet (decls_sites first p.decls) body (all_met p rules).1)
          (all_front _ (decls_sites first p.decls) body (all-apart p rules).1));
    }
