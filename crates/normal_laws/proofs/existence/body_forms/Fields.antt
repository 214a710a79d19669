-- The statements of each unit of a legal program are as the law of normal forms asks, from the rules and what is known of types.
use Rattle.std.proofs.Common.{◌≡◌, ℕ, ℤ, ◌<◌, List, length, find, IfSome, Some, subst}
use Rattle.ada_tree.specs.declared.naming.NameId.{NameId}
use Rattle.ada_tree.specs.NameList.{AreNames}
use Rattle.ada_tree.specs.TypeTable.{TypeTable}
use Rattle.ada_tree.specs.PlainExpr.{PDrange}
use Rattle.ada_tree.specs.PlainProgram.{PProgram}
use Rattle.ada_static_rules.specs.Refusals.{types_in}
use Rattle.ada_tree.specs.Every.{EveryProgram}
use Rattle.ada_tree.specs.WellPlaced.{tokens, IsWellPlaced}
use Rattle.ada_static_rules.specs.Declaring.{first_scope}
use Rattle.syn_event.specs.declared.numbering.Mode.TheVariants.{Original}
use Rattle.syn_event.specs.Legal.{Legal}
use Rattle.syn_event.specs.Numbering.{Numbering}
use Rattle.syn_event.specs.NamedTasks.{NamedTasks, task_names_of}
use Rattle.task_laws.specs.legal.rewritten_values.Values.{old_names}
use Rattle.normal_laws.specs.structure.types.Own.{own_name}
use Rattle.task_laws.specs.translation.Translations.{Programs}
use Rattle.task_laws.specs.translation.OldTexts.{OldBody}
use Rattle.normal_laws.specs.runs.floors.Suited.{asked_of}
use Rattle.normal_laws.specs.runs.runs.Premises.{programs_of, unit_at, unit_before}
use Rattle.normal_laws.specs.runs.forms.Normalisable.{numbers_of, normal_rewrite}
use Rattle.task_laws.specs.legal.types.Typed.{IsSmall, HasLimits, IsTypedPart}
use Rattle.task_laws.proofs.legal.types.MainScopes.{StandsWhole, main-stands}
use Rattle.task_laws.proofs.legal.types.TaskTypes.{AllRanges, all-ranges}
use Rattle.task_laws.specs.legal.literals.Literals.{HasIndexLiterals}
use Rattle.task_laws.proofs.legal.literals.Indices.{indices-are-literals}
use Rattle.normal_laws.specs.existence.variable_types.Ready.{IsReady}
use Rattle.normal_laws.proofs.existence.variable_types.Fields.{ready-legal}
use Rattle.task_laws.proofs.legal.sites.Both.{together}
use Rattle.normal_laws.proofs.existence.units.Fields.{legal_has_tokens}
use Rattle.normal_laws.proofs.existence.units.Own.{program-own}
use Rattle.normal_laws.proofs.existence.units.Apart.{all-addressed}
use Rattle.normal_laws.proofs.existence.seen_tasks.Parts.{is_called}
use Rattle.normal_laws.proofs.existence.statement_forms.Text.{text_rules}
use Rattle.normal_laws.proofs.existence.body_forms.Typing.{are-typed}
use Rattle.normal_laws.proofs.existence.body_forms.Joined.{TypePremises, text-field}
use Rattle.normal_laws.proofs.existence.body_forms.Ranges.{ranges-known, row-same}
use Rattle.normal_laws.proofs.existence.body_forms.Rows.{members-short}
use Rattle.normal_laws.proofs.existence.body_forms.Worth.{HasRangeLiterals, row-literals}
use Rattle.normal_laws.proofs.existence.body_forms.Literals.{row-literal}
use Rattle.task_laws.proofs.legal.rewritten_types.Lookups.{find-all}
use Rattle.std.specs.List.{AllByRecursion}

module _ (p : PProgram) (types : TypeTable) (its_numbers : Numbering) (legal : Legal p types its_numbers Original) (placed : IsWellPlaced p) (names : AreNames p.names) (small : IsSmall (types_in p)) (inputs : List (List ℤ)) where
  abbrev T : TypeTable
  T = types_in p

  abbrev b : Programs
  b = programs_of (normal_rewrite p inputs)

  own : EveryProgram (old_names (own_name p)) p
  own = program-own p legal.type_rules legal.check_rules placed names (all-addressed p legal.type_rules placed small)

  -- the program is as the fields on types ask
  pub legal-ready : IsReady p
  legal-ready = ready-legal p types its_numbers Original legal placed names small own

  ranges : AllRanges T (first_scope p.name) p.decls
  ranges = all-ranges T p.names p.decls (first_scope p.name) (main-stands p legal.type_rules placed small) placed.2

  typed : AllByRecursion (IsTypedPart T) (task_names_of p)
  typed = legal-ready.tasks.parts

  -- the range of a part that is found has limits and literals
  row-known : (id : NameId) (x : NamedTasks) (r : PDrange) → find (is_called id) (task_names_of p) ≡ Some x → x.index_range ≡ Some r → (h : HasLimits T r) × HasRangeLiterals p r h
  row-known id x r found row =
      let limits : HasLimits T r = subst (λ o. IfSome o (HasLimits T)) row (find-all (IsTypedPart T) (is_called id) (task_names_of p) x typed found) in
      let indices = indices-are-literals p (record { rules = legal.type_rules; placed = placed; small = small }) in
      let literals : HasIndexLiterals T r = subst (λ o. IfSome o (HasIndexLiterals T)) row (find-all (λ (y : NamedTasks). IfSome y.index_range (HasIndexLiterals T)) (is_called id) (task_names_of p) x indices found) in
      (limits, row-literals p legal-ready placed small r limits literals)

  -- names are the program's own, and literals numbers of INTEGER
  texts : EveryProgram (text_rules (own_name p)) p
  texts =
      together (old_names (own_name p)) (tokens p.names) (text_rules (own_name p))
      record {
        name = λ id a c. a;
        integer = λ n a c. c;
        duration = λ n a c. tt;
        words = λ t a c. tt;
        unary = λ op e a c. tt;
        binary = λ op l r a c. tt;
        bounds = λ l r a c. tt;
        parts = λ n k a c. tt;
        handlers = λ hs a c. tt;
        pragmas = λ n l a c. tt;
        object = λ k o a c. tt;
        inner = λ ds a c. tt;
        outer = λ ds a c. tt;
        nested = λ k a c. tt;
      }
      p own (legal_has_tokens p placed)

  pub premises : TypePremises p types its_numbers legal placed names inputs (StandsWhole T)
  premises = record {
    own = texts;
    typed = are-typed p b.made b.is_old legal.type_rules placed small;
    ranged = ranges-known T p.decls (first_scope p.name) ranges;
    rows = λ id x r range found row ext. record { same = row-same p legal-ready id x r range found row ext; literal = λ sp i lies. let k = row-known id x r found row in row-literal p names inputs r k.0 k.1 range ext sp i lies };
    short = members-short T p.names (task_names_of p) typed;
  }

  pub legal-text : (t : ℕ) → t < length (numbers_of p).tasks → OldBody (asked_of (unit_at (normal_rewrite p inputs) t)) (unit_before (normal_rewrite p inputs) t).body
  legal-text t l = text-field p types its_numbers legal placed names inputs (StandsWhole T) premises t l
