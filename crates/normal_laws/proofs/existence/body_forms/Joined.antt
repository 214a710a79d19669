-- The statements of each unit of a legal program are as the law of normal forms asks, in the words of that law.
use Rattle.std.proofs.Common.{◌≡◌, ℕ, ℤ, zero, suc, ◌<◌, true, if◌then◌else◌, List, length, map, find, Some, sym, ap, ◌∙◌, subst, arith}
use Rattle.std.specs.List.{AllByRecursion}
use Rattle.std.proofs.lemmas.Bool.{ne_eqb}
use Rattle.ada_tree.specs.declared.naming.NameId.{NameId}
use Rattle.ada_tree.specs.NameList.{AreNames}
use Rattle.ada_tree.specs.TypeTable.{TypeTable}
use Rattle.ada_tree.specs.PlainExpr.{PDrange}
use Rattle.ada_tree.specs.PlainProgram.{PProgram}
use Rattle.ada_static_rules.specs.Refusals.{types_in}
use Rattle.ada_tree.specs.Every.{EveryProgram}
use Rattle.ada_tree.specs.WellPlaced.{IsWellPlaced}
use Rattle.ada_static_rules.specs.Scope.{Scope, Range}
use Rattle.ada_static_rules.specs.Sites.{sites}
use Rattle.ada_static_rules.specs.Declaring.{first_scope}
use Rattle.syn_event.specs.declared.numbering.Mode.TheVariants.{Original}
use Rattle.syn_event.specs.declared.numbering.TaskInfo.{TaskInfo}
use Rattle.syn_event.specs.Legal.{Legal}
use Rattle.syn_event.specs.Numbering.{Numbering, task_at}
use Rattle.syn_event.specs.NamedTasks.{NamedTasks, task_names_of, numbered_tasks}
use Rattle.syn_event.specs.AllNumbers.{info_of_task, all_numbers}
use Rattle.task_model.specs.Starting.{Unit, unit_of_info, unit_among}
use Rattle.normal_model.specs.NormalTree.{first_running}
use Rattle.task_laws.specs.legal.rewritten_values.Values.{is_known}
use Rattle.normal_laws.specs.structure.types.Own.{own_name}
use Rattle.normal_laws.specs.structure.types.Laws.{IsOrdered, setting_of}
use Rattle.normal_laws.specs.structure.units.Laws.{TellUnits}
use Rattle.normal_laws.proofs.structure.units.Declared.{units_are_declared}
use Rattle.normal_laws.proofs.structure.units.Pairs.{names_tell_units}
use Rattle.task_laws.specs.translation.Translations.{Programs}
use Rattle.task_laws.specs.translation.OldTexts.{OldBody}
use Rattle.normal_laws.specs.runs.floors.Suited.{asked_of}
use Rattle.normal_laws.specs.runs.runs.Premises.{programs_of, unit_at, unit_before}
use Rattle.normal_laws.specs.runs.forms.Normalisable.{numbers_of, setting_for, first_for, first_task, normal_rewrite}
use Rattle.normal_laws.proofs.existence.units.Apart.{all-apart}
use Rattle.normal_laws.proofs.existence.units.TaskNames.{IsShort}
use Rattle.normal_laws.proofs.existence.units.Fields.{legal_is_ordered, legal_has_tokens, legal_names_tell}
use Rattle.normal_laws.proofs.existence.seen_tasks.Parts.{AreRanged, IsExtent, is_called}
use Rattle.normal_laws.proofs.existence.statement_forms.CalleesAsked.{RangeFacts, CalleesKnown}
use Rattle.normal_laws.proofs.existence.statement_forms.Text.{text_rules, AreTyped, TextPremises, parts-known, main-text, beside-text}
use Rattle.normal_laws.proofs.existence.body_forms.Named.{task-found}
use Rattle.normal_laws.proofs.existence.body_forms.Typing.{locals-of}

module _ (p : PProgram) (types : TypeTable) (its_numbers : Numbering) (legal : Legal p types its_numbers Original) (placed : IsWellPlaced p) (names : AreNames p.names) (inputs : List (List ℤ)) where
  abbrev T : TypeTable
  T = types_in p

  -- the program and its normal form
  abbrev b : Programs
  b = programs_of (normal_rewrite p inputs)

  -- What is taken of types: the scopes in bodies are typed, ranges that are declared are known and have variables and literals, and names are the
  -- program's own.
  pub record TypePremises (Typed : Scope → Type 0) : Type 0 where
    pub own : EveryProgram (text_rules (own_name p)) p
    pub typed : AreTyped p b.made b.is_old b.is_fixed Typed
    pub ranged : AreRanged T (first_scope p.name) p.decls
    pub rows : (id : NameId) (x : NamedTasks) (r : PDrange) (range : Range) → find (is_called id) (task_names_of p) ≡ Some x → x.index_range ≡ Some r → IsExtent T r range → RangeFacts b T r range
    pub short : AllByRecursion (λ (i : TaskInfo). IsShort i.member) (map (info_of_task p.names) (numbered_tasks T p))

  module _ (Typed : Scope → Type 0) (h : TypePremises Typed) where
    ordered : IsOrdered p
    ordered = legal_is_ordered p types its_numbers legal placed

    tell : TellUnits (setting_of p (types_in p) (all_numbers (types_in p) p))
    tell = record { declared = units_are_declared p T ordered; named = legal_names_tell p types its_numbers legal placed names }

    pub premises : TextPremises p b.made b.is_old b.is_fixed Typed
    premises = record {
      types = legal.type_rules;
      checks = legal.check_rules;
      decls_old = h.own.2;
      body_old = h.own.3;
      local = locals-of T (sites p) (all-apart p legal.type_rules);
      typed = h.typed;
      ranged = h.ranged;
      tell = names_tell_units p T ordered;
    }

    pub facts : CalleesKnown p T Typed premises.typed.typing b.made b.is_old b.is_fixed (is_known T) (parts-known p b.made b.is_old b.is_fixed Typed premises)
    facts = record {
      rows = h.rows;
      named = task-found p ordered legal.check_rules (legal_has_tokens p placed) names (parts-known p b.made b.is_old b.is_fixed Typed premises) tell h.short;
    }

    -- the field: the statements of each unit
    pub text-field : (t : ℕ) → t < length (numbers_of p).tasks → OldBody (asked_of (unit_at (normal_rewrite p inputs) t)) (unit_before (normal_rewrite p inputs) t).body
    text-field zero l = main-text p b.made b.is_old b.is_fixed Typed premises facts 0 0
    text-field (suc k) l =
        let u = beside-text p b.made b.is_old b.is_fixed Typed premises facts k l in
        let unit : unit_before (normal_rewrite p inputs) (suc k) ≡ unit_among p.decls u.info.unit =
        (ap (λ c. if c then record { in_main = true; decls = p.decls; body = p.body } else unit_of_info p (task_at (numbers_of p) (suc k))) (ne_eqb (suc k) 0 (λ e. omega (arith, e))) ∙ ap (unit_of_info p) u.at) in
        let first : first_task p (suc k) ≡ first_running (setting_for p) u.info.unit = ap (first_for (setting_for p)) u.at in
        subst (λ (y : Unit). OldBody (asked_of (unit_at (normal_rewrite p inputs) (suc k))) y.body) (sym unit)
        (subst (λ n. OldBody (asked_of (record { programs = b; first = n; number = suc k; vars = (normal_rewrite p inputs).vars (suc k) })) (unit_among p.decls u.info.unit).body) (sym first) u.text)
