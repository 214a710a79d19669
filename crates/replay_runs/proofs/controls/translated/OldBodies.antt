-- Names that stay alone stand in the statements of the normal form of a legal program, whichever of its texts it is.
use Rattle.std.proofs.Common.{ℕ, zero, suc, ◌==◌, Bool, true, false, if◌then◌else◌, [], ◌∷◌, ◌++◌, unwrap_or, Option, Some, None, refl, sym, subst, arith, is_some}
use Rattle.std.specs.List.{AllByRecursion}
use Rattle.std.proofs.lemmas.Bool.{ne_eqb}
use Rattle.common_lemmas.proofs.Lists.{all_back, all_front, all_paired}
use Rattle.ada_tree.specs.declared.naming.NameId.{NameId}
use Rattle.ada_tree.specs.TypeTable.{TypeTable}
use Rattle.ada_tree.specs.PlainStmt.{no_stmt, no_handler}
use Rattle.ada_tree.specs.PlainDecl.{DTaskBody, PDecls, no_decl, decl_then}
use Rattle.ada_tree.specs.PlainProgram.{PProgram}
use Rattle.ada_tree.specs.Every.{Rules, EveryDecls, EveryProgram}
use Rattle.ada_static_rules.specs.Refusals.{MeetsTypeRules, types_in}
use Rattle.ada_static_rules.specs.Scope.{Scope}
use Rattle.ada_static_rules.specs.Demand.{Site}
use Rattle.ada_static_rules.specs.Sites.{sites, names_sites, own_sites, decl_sites, decls_sites, body_sites}
use Rattle.ada_static_rules.specs.Declaring.{before_all, first_scope, in_body, inner_scope, after_objects, after_decl, after_decls}
use Rattle.syn_event.specs.declared.numbering.TaskInfo.{TaskInfo}
use Rattle.syn_event.specs.CheckScope.{CheckScope}
use Rattle.syn_event.specs.CheckSites as check
use Rattle.syn_event.specs.Numbering.{task_at}
use Rattle.task_model.specs.Starting.{unit_among, unit_of_info, unit_of}
use Rattle.task_laws.specs.legal.sites.Met.{IsMet}
use Rattle.task_laws.proofs.legal.sites.Meeting.{all_met}
use Rattle.task_laws.proofs.legal.types.MainScopes.{StandsWhole, bodies-stand}
use Rattle.task_laws.proofs.legal.types.BodyScopes.{BodiesStand, bodies-all}
use Rattle.task_laws.specs.translation.Translations.{Programs}
use Rattle.task_laws.specs.translation.OldTexts.{Asked, only_names, OldBody, old_body, old_no_stmt, old_no_handler}
use Rattle.normal_laws.specs.structure.checked.Around.{own_rules}
use Rattle.normal_laws.specs.runs.forms.Normalisable.{made_for}
use Rattle.normal_laws.proofs.legality.Legal.{normal_meets_types}
use Rattle.normal_laws.specs.existence.Laws.{IsLegalOriginal}
use Rattle.normal_laws.specs.existence.inner.Gives.{Known, Gives}
use Rattle.normal_laws.proofs.existence.units.Apart.{all-apart}
use Rattle.normal_laws.proofs.existence.walked_statements.Walk.{body-as-asked}
use Rattle.normal_laws.proofs.existence.statement_forms.Text.{IsLocal, IsKnownPlace, AreTyped}
use Rattle.normal_laws.proofs.existence.body_forms.Typing.{locals-of, are-typed}
use Rattle.normal_laws.proofs.legality.checks.Facts as facts
use Rattle.normal_laws.proofs.existence.statements.Asked.{nothing-asked}
use Rattle.replay_runs.specs.starts.Laws.{form_in}
use Rattle.replay_runs.proofs.controls.translated.Tables.{form-small}
use Rattle.task_model.specs.Setting.{Setting}
use Rattle.ada_static_rules.specs.StaticValue.{value_named}
use Rattle.task_laws.specs.legal.rewritten_values.Values.{is_known}
use Rattle.replay_runs.specs.starts.Formals.{form_setting}

-- The normal form and a text of it, by the setting of the text and the names that stay.
abbrev pub programs_with : PProgram → Setting → (ℕ → Bool) → Programs
programs_with p made old = record {
  original = form_setting p;
  made = made;
  is_old = old;
  is_fixed = λ n. is_some (value_named (types_in (form_in p).program) record { 0 = n });
  is_known = is_known (types_in (form_in p).program);
}

-- Where names that stay alone stand in the normal form, they alone stand in its statements, whatever the text.
module _ (p : PProgram) (h : IsLegalOriginal p) (made : Setting) (old : ℕ → Bool) (stay : EveryProgram (own_rules old) (made_for p)) where
  abbrev n : PProgram
  n = made_for p

  abbrev T : TypeTable
  T = types_in n

  abbrev b : Programs
  b = programs_with p made old

  abbrev a : Asked
  a = only_names b

  abbrev r : Rules
  r = own_rules b.is_old

  abbrev Place : Site → Type 0
  Place = IsKnownPlace T b.is_fixed

  rules : MeetsTypeRules n
  rules = normal_meets_types p h

  typed : AreTyped n b.made b.is_old b.is_fixed (StandsWhole T)
  typed = are-typed n b.made b.is_old rules (facts.placed p h) (form-small p h)

  abbrev known : Known
  known = record { place = Place; check_place = λ x. Unit {0}; scopes = λ s c. StandsWhole T s }

  gives : Gives a r known
  gives = record {
    old = λ id m. m;
    free = λ s w m. (m.1 w refl).0;
    mark = λ s c w k m. typed.typing.mark s w k m.0;
    callee = λ s c k x t every at checked. tt;
    call = λ s c k x t every old at checked. tt;
    head = λ s c k x t every at checked. tt;
    wait = λ c x others t checked. tt;
    in_accept = λ s c k x t at checked. typed.accept s x t at;
    handling = λ s c t. t;
    looping = λ s c w x t at. typed.loop s x t at;
  }

  -- what stands around a place is asked of nothing
  abbrev around : CheckScope
  around = check.around_program n

  abbrev first : Scope
  first = first_scope n.name

  abbrev main_scope : Scope
  main_scope = inner_scope (after_decls first n.decls)

  -- ---- places

  places : AllByRecursion Place (sites n)
  places = all_paired IsMet (IsLocal T b.is_fixed) (sites n) (all_met n rules) (locals-of T (sites n) (all-apart n rules))

  decls-known : AllByRecursion Place (decls_sites first n.decls)
  decls-known =
      all_back Place (names_sites true before_all (n.name ∷ [])) (decls_sites first n.decls)
      (all_front Place (names_sites true before_all (n.name ∷ []) ++ decls_sites first n.decls) (body_sites main_scope n.body) places)

  body-known : AllByRecursion Place (body_sites main_scope n.body)
  body-known = all_back Place (names_sites true before_all (n.name ∷ []) ++ decls_sites first n.decls) (body_sites main_scope n.body) places

  -- ---- bodies

  -- the bodies of tasks begin at scopes that stand over the table
  bodies-are : BodiesStand T first n.decls
  bodies-are =
      bodies-all T n.decls first (bodies-stand n rules (facts.placed p h) (form-small p h))
      (all_front IsMet (decls_sites first n.decls) (body_sites main_scope n.body) (all_met n rules).1)
      (all_front _ (decls_sites first n.decls) (body_sites main_scope n.body) (all-apart n rules).1)

  of-main : OldBody a n.body
  of-main = body-as-asked a r known gives n.body main_scope around 1 typed.main stay.3 body-known (nothing-asked _)

  of-name : (ds : PDecls) (s : Scope) (name : NameId) → BodiesStand T s ds → EveryDecls r ds → AllByRecursion Place (decls_sites s ds) → OldBody a (unit_among ds name).body
  of-name no_decl s name stand every at = old_body no_stmt no_handler old_no_stmt old_no_handler
  of-name (decl_then (DTaskBody w objects its sp) rest) s name stand every at =
      by_test (w.name.0 == name.0)
      (of-name rest (after_decl s (DTaskBody w objects its sp)) name stand.1 every.1 (all_back Place (decl_sites s (DTaskBody w objects its sp)) (decls_sites (after_decl s (DTaskBody w objects its sp)) rest) at))
    where
      inside : Scope
      inside = inner_scope (after_objects (in_body s w) objects)

      here : AllByRecursion Place (decl_sites s (DTaskBody w objects its sp))
      here = all_front Place (decl_sites s (DTaskBody w objects its sp)) (decls_sites (after_decl s (DTaskBody w objects its sp)) rest) at

      by_test : (c : Bool) → OldBody a (unit_among rest name).body → OldBody a (unwrap_or (if c then Some record { in_main = false; decls = objects; body = its } else None) (unit_among rest name)).body
      by_test false later = later
      by_test true later = body-as-asked a r known gives its inside around 1 stand.0 every.0.4 (all_back Place (own_sites (in_body s w) objects) (body_sites inside its) here.1) (nothing-asked _)
  of-name (decl_then d rest) s name stand every at = of-name rest (after_decl s d) name stand every.1 (all_back Place (decl_sites s d) (decls_sites (after_decl s d) rest) at)

  of-info : (info : Option TaskInfo) → OldBody a (unit_of_info n info).body
  of-info None = old_body no_stmt no_handler old_no_stmt old_no_handler
  of-info (Some info) = of-name n.decls first info.unit bodies-are stay.2 decls-known

  pub only-old : (t : ℕ) → OldBody a (unit_of n (form_in p).numbers t).body
  only-old zero = of-main
  only-old (suc t) =
      subst (λ c. OldBody a (if c then record { in_main = true; decls = n.decls; body = n.body } else unit_of_info n (task_at (form_in p).numbers (suc t))).body)
      (sym (ne_eqb (suc t) 0 (λ e. omega (arith, e)))) (of-info (task_at (form_in p).numbers (suc t)))
