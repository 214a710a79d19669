-- With which objects the tasks of a replay text start: with those of the normal form, which have old names and known values, and with the variables
-- of a permit.
use Rattle.std.proofs.Common.{◌≡◌, ℕ, zero, suc, ◌<◌, ◌≤◌, ℤ, pos, Bool, true, if◌then◌else◌, List, [], ◌∷◌, ◌++◌, length, drop, is_some, Option, Some, None, refl, sym, ap, ◌∙◌, subst, append_assoc, arith}
use Rattle.std.specs.List.{AllByRecursion}
use Rattle.std.proofs.lemmas.Bool.{ne_eqb}
use Rattle.std.proofs.lemmas.List.{append-nil}
use Rattle.common_lemmas.proofs.Lists.{all_back, all_front, element_at}
use Rattle.event_machine.specs.declared.Event.{Event}
use Rattle.ada_tree.specs.TypeTable.{TypeTable}
use Rattle.ada_tree.specs.PlainProgram.{PProgram}
use Rattle.ada_tree.specs.Every.{EveryDecls}
use Rattle.ada_static_rules.specs.Refusals.{MeetsTypeRules, types_in}
use Rattle.ada_static_rules.specs.Demand.{Site}
use Rattle.ada_static_rules.specs.Sites.{decls_sites, body_sites}
use Rattle.ada_static_rules.specs.Declaring.{first_scope, inner_scope, after_decls}
use Rattle.syn_event.specs.declared.numbering.TaskInfo.{TaskInfo}
use Rattle.syn_event.specs.Numbering.{task_at}
use Rattle.syn_event.proofs.Weaker.{less}
use Rattle.ada_value.specs.declared.values.Value.TheVariants.{Number}
use Rattle.ada_value.specs.Variables.{Object, Variables}
use Rattle.task_model.specs.Starting.{objects_of, unit_of_info}
use Rattle.task_laws.proofs.legal.types.MainScopes.{main-stands}
use Rattle.task_laws.specs.translation.Translations.{Programs}
use Rattle.task_laws.specs.legal.rewritten_types.Rewriting.{staying}
use Rattle.task_laws.proofs.legal.rewritten_types.Refused.{declared_once}
use Rattle.task_laws.proofs.legal.rewritten_types.Staying.{staying_is_front}
use Rattle.task_laws.specs.legal.rewritten_values.Values.{AgreeOnValues, old_names}
use Rattle.task_laws.proofs.legal.rewritten_values.Staying.{objects_stay}
use Rattle.normal_laws.specs.structure.checked.Around.{own_rules}
use Rattle.normal_laws.specs.runs.forms.Normalisable.{made_for, IsPlain}
use Rattle.normal_laws.proofs.legality.Legal.{normal_meets_types}
use Rattle.normal_laws.specs.runs.floors.NormalFloors.{Extends, extends_none, extends_old, extends_new}
use Rattle.normal_laws.specs.existence.Laws.{IsLegalOriginal}
use Rattle.normal_laws.specs.existence.units.Laws.{IsFreeLocal}
use Rattle.normal_laws.proofs.existence.units.ArrayConstants.{arrays-free}
use Rattle.normal_laws.proofs.existence.units.Lacking.{locals-free}
use Rattle.normal_laws.proofs.existence.units.Plain.{IsPlainObject, units-plain, main-plain}
use Rattle.normal_laws.proofs.existence.units.TypedNames.{stand-still}
use Rattle.normal_laws.proofs.legality.checks.Facts as facts
use Rattle.replay_model.specs.Names.{kind_text, argument_text, index_text, added_id}
use Rattle.replay_model.specs.ReplayTree.{last_task}
use Rattle.replay_structure.proofs.legal.names.form_names.Owned.{names-old}
use Rattle.replay_structure.specs.scopes.Names.{old_name}
use Rattle.replay_structure.proofs.scopes.Names.{permits-new}
use Rattle.replay_runs.specs.starts.Laws.{permit_objects, FindsPermit, form_in, text_in, start_before, start_after}
use Rattle.replay_runs.proofs.starts.Legal.{legal_starts}
use Rattle.replay_runs.proofs.starts.Permits.{legal_finds_permits}
use Rattle.replay_runs.specs.translation.Floors.{HasPermit}
use Rattle.replay_runs.specs.controls.Asking.{unit_of_task}
use Rattle.replay_runs.specs.controls.translated.Laws.{form_and_text, PermitIsAdded, StartsWithPermit, LegalStartsWithPermit}
use Rattle.replay_runs.proofs.controls.translated.Tables.{values-alike, form-small}

-- ---- more variables

module _ (b : Programs) where
  extends-over : (A V V' : Variables) → AllByRecursion (IsPlain b) A → Extends b V V' → Extends b (A ++ V) (A ++ V')
  extends-over [] V V' h e = e
  extends-over (o ∷ A) V V' h e = extends_old o (A ++ V) (A ++ V') h.0.0 h.0.1 (extends-over A V V' h.1 e)

  extends-same : (V : Variables) → AllByRecursion (IsPlain b) V → Extends b V V
  extends-same V h = subst (λ W. Extends b W W) (append-nil V) (extends-over V [] [] h extends_none)

-- the names of a permit are added ones
pub permit_is_added : PermitIsAdded
permit_is_added p events t = let new = permits-new (made_for p) in record { kind = new.kind; argument = new.argument; index = new.index }

module _ (p : PProgram) (events : List Event) (h : IsLegalOriginal p) where
  abbrev q : PProgram
  q = made_for p

  abbrev T : TypeTable
  T = types_in q

  abbrev U : TypeTable
  U = types_in (text_in p events)

  abbrev b : Programs
  b = form_and_text p events

  abbrev old : ℕ → Bool
  old = old_name q

  abbrev agree : AgreeOnValues old T U q.names (text_in p events).names
  agree = values-alike p h events old

  rules : MeetsTypeRules q
  rules = normal_meets_types p h

  -- ---- the objects of the normal form

  abbrev IsStarted : Object → Type 0
  IsStarted o = IsPlainObject old T U q.names (text_in p events).names agree o

  abbrev Free : Site → Type 0
  Free x = IsFreeLocal T x.demand

  named : EveryDecls (old_names old) q.decls
  named =
      (less (own_rules old) (old_names old)
      record {
        name = λ id k. k;
        integer = λ n k. tt;
        duration = λ n k. tt;
        words = λ t k. tt;
        unary = λ op e k. tt;
        binary = λ op l r k. tt;
        bounds = λ l r k. tt;
        parts = λ n m k. tt;
        handlers = λ hs k. tt;
        pragmas = λ n l k. tt;
        object = λ c o k. tt;
        inner = λ ds k. tt;
        outer = λ ds k. tt;
        nested = λ n k. tt;
      }
      q (names-old p h)).2

  places : AllByRecursion Free (decls_sites (first_scope q.name) q.decls)
  places = all_front Free (decls_sites (first_scope q.name) q.decls) (body_sites (inner_scope (after_decls (first_scope q.name) q.decls)) q.body) (locals-free q rules).1

  main-objects : AllByRecursion IsStarted (objects_of T true q.decls [])
  main-objects =
      subst (AllByRecursion IsStarted) (sym (objects_stay q.name q.decls (staying (first_scope q.name) q.decls) (declared_once q rules) (staying_is_front q rules (facts.placed p h).1) []))
      (main-plain old T U q.names (text_in p events).names agree q.decls (first_scope q.name) [] places named
      (arrays-free old T U q.names (text_in p events).names agree q refl rules (stand-still T q.decls (first_scope q.name) (main-stands q rules (facts.placed p h) (form-small p h)))) tt)

  info-objects : (info : Option TaskInfo) → AllByRecursion IsStarted (objects_of T (unit_of_info q info).in_main (unit_of_info q info).decls [])
  info-objects None = tt
  info-objects (Some info) = units-plain old T U q.names (text_in p events).names agree q.decls (first_scope q.name) info.unit places named

  objects-plain : (t : ℕ) → AllByRecursion IsStarted (start_before p t)
  objects-plain zero = main-objects
  objects-plain (suc t) =
      subst (λ c. AllByRecursion IsStarted (objects_of T (if c then record { in_main = true; decls = q.decls; body = q.body } else unit_of_info q (task_at (form_in p).numbers (suc t))).in_main (if c then record { in_main = true; decls = q.decls; body = q.body } else unit_of_info q (task_at (form_in p).numbers (suc t))).decls []))
      (sym (ne_eqb (suc t) 0 (λ e. omega (arith, e)))) (info-objects (task_at (form_in p).numbers (suc t)))

  objects-old : (V : Variables) → AllByRecursion IsStarted V → AllByRecursion (IsPlain b) V
  objects-old [] k = tt
  objects-old (o ∷ V) k = ((k.0.old_name, (k.0.known, ap (λ (v : Option ℤ). is_some v) k.0.free)), objects-old V k.1)

  -- ---- the objects of the text

  -- the permit's variables stand between the added ones and the unit's own
  extended : (A O V V' : Variables) → V ≡ A ++ O → V' ≡ A ++ permit_objects q ++ O → AllByRecursion IsStarted V → Extends b V V'
  extended A O V V' before after plain =
      let all : AllByRecursion (IsPlain b) (A ++ O) = objects-old (A ++ O) (subst (AllByRecursion IsStarted) before plain) in
      let new = permits-new q in
      subst (λ W. Extends b W V') (sym before)
      (subst (λ W. Extends b (A ++ O) W) (sym (after ∙ append_assoc A (permit_objects q) O))
      (extends-over b A O (permit_objects q ++ O) (all_front (IsPlain b) A O all)
      (extends_new _ _ _ new.index (extends_new _ _ _ new.argument (extends_new _ _ _ new.kind (extends-same b O (all_back (IsPlain b) A O all)))))))

  permitted : (V : Variables) → FindsPermit q V → (t : ℕ) → HasPermit (unit_of_task p t) V
  permitted V f t = record {
    kind = (Number (pos 0), record { name = added_id q kind_text; found = f.kind });
    argument = (Number (pos 0), record { name = added_id q argument_text; found = f.argument });
    index = (Number (pos 0), record { name = added_id q index_text; found = f.index });
  }

  -- a task of the normal form beside main
  pub beside-main : (t : ℕ) → suc t ≤ last_task (form_in p).numbers → (info : TaskInfo) × (task_at (form_in p).numbers (suc t) ≡ Some info)
  beside-main t l = element_at (form_in p).numbers.tasks (suc t) (let m : suc t ≤ length (drop 1 (form_in p).numbers.tasks) = l in let k : suc t < suc (length (drop 1 (form_in p).numbers.tasks)) = omega (arith, m) in k)

  pub starts-with-permit : (t : ℕ) → t ≤ last_task (form_in p).numbers → StartsWithPermit p events t
  starts-with-permit zero l =
      let have = (legal_starts p events h).main in
      record { extends = extended _ _ (start_before p 0) (start_after p events 0) have.before have.after (objects-plain 0); permit = permitted (start_after p events 0) (legal_finds_permits p events h).main.permit 0 }
  starts-with-permit (suc t) l =
      let x = beside-main t l in
      let have = (legal_starts p events h).tasks t x.0 x.1 in
      record {
        extends = extended _ _ (start_before p (suc t)) (start_after p events (suc t)) have.before have.after (objects-plain (suc t));
        permit = permitted (start_after p events (suc t)) ((legal_finds_permits p events h).tasks t x.0 x.1).permit (suc t);
      }

pub legal_starts_with_permit : LegalStartsWithPermit
legal_starts_with_permit p events h t l = starts-with-permit p events h t l
