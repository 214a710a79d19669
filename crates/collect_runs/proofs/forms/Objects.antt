-- The objects with which the tasks of a normal form start have names that stay and known values, whichever of its texts it is.
use Rattle.std.proofs.Common.{ℕ, zero, suc, ℤ, Bool, true, if◌then◌else◌, [], ◌∷◌, ◌++◌, is_some, Option, Some, None, refl, sym, ap, subst, arith}
use Rattle.std.specs.List.{AllByRecursion}
use Rattle.std.proofs.lemmas.Bool.{ne_eqb}
use Rattle.std.proofs.lemmas.List.{append-nil}
use Rattle.common_lemmas.proofs.Lists.{all_front}
use Rattle.ada_tree.specs.TypeTable.{TypeTable}
use Rattle.ada_tree.specs.PlainProgram.{PProgram}
use Rattle.ada_tree.specs.Every.{EveryDecls, EveryProgram}
use Rattle.ada_static_rules.specs.Refusals.{MeetsTypeRules, types_in}
use Rattle.ada_static_rules.specs.Demand.{Site}
use Rattle.ada_static_rules.specs.Sites.{decls_sites, body_sites}
use Rattle.ada_static_rules.specs.Declaring.{first_scope, inner_scope, after_decls}
use Rattle.syn_event.specs.declared.numbering.TaskInfo.{TaskInfo}
use Rattle.syn_event.specs.Numbering.{task_at}
use Rattle.syn_event.proofs.Weaker.{less}
use Rattle.ada_value.specs.Variables.{Object, Variables}
use Rattle.task_model.specs.Starting.{objects_of, unit_of_info}
use Rattle.task_laws.proofs.legal.types.MainScopes.{main-stands}
use Rattle.task_laws.specs.translation.Translations.{Programs}
use Rattle.task_laws.specs.legal.rewritten_types.Rewriting.{staying}
use Rattle.task_laws.proofs.legal.rewritten_types.Refused.{declared_once}
use Rattle.task_laws.proofs.legal.rewritten_types.Staying.{staying_is_front}
use Rattle.task_laws.specs.legal.rewritten_values.Values.{AgreeOnValues, old_names}
use Rattle.task_laws.proofs.legal.rewritten_values.Staying.{objects_stay}
use Rattle.normal_laws.specs.structure.checked.Around.{own_rules}
use Rattle.normal_laws.specs.runs.forms.Normalisable.{made_for, IsPlain}
use Rattle.normal_laws.proofs.legality.Legal.{normal_meets_types}
use Rattle.normal_laws.specs.runs.floors.NormalFloors.{Extends, extends_none, extends_old}
use Rattle.normal_laws.specs.existence.Laws.{IsLegalOriginal}
use Rattle.normal_laws.specs.existence.units.Laws.{IsFreeLocal}
use Rattle.normal_laws.proofs.existence.units.ArrayConstants.{arrays-free}
use Rattle.normal_laws.proofs.existence.units.Lacking.{locals-free}
use Rattle.normal_laws.proofs.existence.units.Plain.{IsPlainObject, units-plain, main-plain}
use Rattle.normal_laws.proofs.existence.units.TypedNames.{stand-still}
use Rattle.normal_laws.proofs.legality.checks.Facts as facts
use Rattle.replay_runs.specs.starts.Laws.{form_in, start_before}
use Rattle.replay_runs.proofs.controls.translated.Tables.{form-small}
use Rattle.replay_runs.proofs.controls.translated.OldBodies.{programs_with}
use Rattle.task_model.specs.Setting.{Setting}

-- ---- more variables

module _ (b : Programs) where
  pub extends-over : (A V V' : Variables) → AllByRecursion (IsPlain b) A → Extends b V V' → Extends b (A ++ V) (A ++ V')
  extends-over [] V V' h e = e
  extends-over (o ∷ A) V V' h e = extends_old o (A ++ V) (A ++ V') h.0.0 h.0.1 (extends-over A V V' h.1 e)

  pub extends-same : (V : Variables) → AllByRecursion (IsPlain b) V → Extends b V V
  extends-same V h = subst (λ W. Extends b W W) (append-nil V) (extends-over V [] [] h extends_none)

module _ (p : PProgram) (h : IsLegalOriginal p) (text : PProgram) (made : Setting) (old : ℕ → Bool) (stay : EveryProgram (own_rules old) (made_for p))
    (agree : AgreeOnValues old (types_in (made_for p)) (types_in text) (made_for p).names text.names) where
  abbrev q : PProgram
  q = made_for p

  abbrev T : TypeTable
  T = types_in q

  abbrev U : TypeTable
  U = types_in text

  abbrev b : Programs
  b = programs_with p made old

  rules : MeetsTypeRules q
  rules = normal_meets_types p h

  -- ---- the objects of the normal form

  abbrev IsStarted : Object → Type 0
  IsStarted o = IsPlainObject old T U q.names text.names agree o

  abbrev Free : Site → Type 0
  Free x = IsFreeLocal T x.demand

  pub named : EveryDecls (old_names old) q.decls
  named =
      (less (own_rules old) (old_names old)
      record {
        name = λ id k. k;
        integer = λ n k. tt;
        duration = λ n k. tt;
        words = λ t k. tt;
        unary = λ op e k. tt;
        binary = λ op l r k. tt;
        bounds = λ l r k. tt;
        parts = λ n m k. tt;
        handlers = λ hs k. tt;
        pragmas = λ n l k. tt;
        object = λ c o k. tt;
        inner = λ ds k. tt;
        outer = λ ds k. tt;
        nested = λ n k. tt;
      }
      q stay).2

  places : AllByRecursion Free (decls_sites (first_scope q.name) q.decls)
  places = all_front Free (decls_sites (first_scope q.name) q.decls) (body_sites (inner_scope (after_decls (first_scope q.name) q.decls)) q.body) (locals-free q rules).1

  main-objects : AllByRecursion IsStarted (objects_of T true q.decls [])
  main-objects =
      subst (AllByRecursion IsStarted) (sym (objects_stay q.name q.decls (staying (first_scope q.name) q.decls) (declared_once q rules) (staying_is_front q rules (facts.placed p h).1) []))
      (main-plain old T U q.names text.names agree q.decls (first_scope q.name) [] places named
      (arrays-free old T U q.names text.names agree q refl rules (stand-still T q.decls (first_scope q.name) (main-stands q rules (facts.placed p h) (form-small p h)))) tt)

  info-objects : (info : Option TaskInfo) → AllByRecursion IsStarted (objects_of T (unit_of_info q info).in_main (unit_of_info q info).decls [])
  info-objects None = tt
  info-objects (Some info) = units-plain old T U q.names text.names agree q.decls (first_scope q.name) info.unit places named

  objects-plain : (t : ℕ) → AllByRecursion IsStarted (start_before p t)
  objects-plain zero = main-objects
  objects-plain (suc t) =
      subst (λ c. AllByRecursion IsStarted (objects_of T (if c then record { in_main = true; decls = q.decls; body = q.body } else unit_of_info q (task_at (form_in p).numbers (suc t))).in_main (if c then record { in_main = true; decls = q.decls; body = q.body } else unit_of_info q (task_at (form_in p).numbers (suc t))).decls []))
      (sym (ne_eqb (suc t) 0 (λ e. omega (arith, e)))) (info-objects (task_at (form_in p).numbers (suc t)))

  objects-old : (V : Variables) → AllByRecursion IsStarted V → AllByRecursion (IsPlain b) V
  objects-old [] k = tt
  objects-old (o ∷ V) k = ((k.0.old_name, (k.0.known, ap (λ (v : Option ℤ). is_some v) k.0.free)), objects-old V k.1)

  -- They are plain ones of both programs.
  pub start-plain : (t : ℕ) → AllByRecursion (IsPlain b) (start_before p t)
  start-plain t = objects-old (start_before p t) (objects-plain t)
