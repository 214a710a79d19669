-- The tables of the recorder of a collecting text of a program with abort statements meet the static rules 1 and 3 to 12: their declaration, an entry of one as a number, comparisons of numbers, and assignments to an entry.
use Rattle.std.proofs.Common.{Bool, List, None, Ok, Option, Some, [], ap, ap₂, arith, false, if◌then◌else◌, int_lt, is_some, length, pos, refl, subst, sym, true, ℕ, ℤ, ◌&&◌, ◌++◌, ◌∙◌, ◌∷◌, ◌≡◌}
use Rattle.std.proofs.lemmas.Int.{ints}
use Rattle.common_lemmas.proofs.Lists.{all_joined, last_at}
use Rattle.ada_tree.specs.PlainDecl.{DObject, IOthers, OArray, PDecl, PInit, PShape}
use Rattle.ada_tree.specs.PlainExpr.{EBinary, EName, PDrange, PExpr, RGiven}
use Rattle.ada_tree.specs.PlainStmt.{PTarget}
use Rattle.ada_tree.specs.TypeTable.{TypeTable}
use Rattle.ada_tree.specs.declared.expressions.BinaryOp.{BinaryOp}
use Rattle.ada_tree.specs.declared.expressions.BinaryOp.TheVariants as binary
use Rattle.ada_tree.specs.declared.naming.NameId.{NameId}
use Rattle.ada_tree.specs.declared.naming.Span.{Span}
use Rattle.ada_tree.specs.declared.naming.Word.{Word}
use Rattle.ada_tree.specs.declared.statements.ParMode.TheVariants.{Take}
use Rattle.ada_tree.specs.declared.static_types.Kind.{Kind}
use Rattle.ada_tree.specs.declared.static_types.Kind.TheVariants.{Array}
use Rattle.ada_tree.specs.declared.static_types.Mark.{Mark}
use Rattle.ada_static_rules.specs.Declaring.{Declared, add_kind, add_mark, after_own_object, array_object, declared_object, drange_range, made_array, of_made, subind_made, with_constants, with_names, with_types}
use Rattle.ada_static_rules.specs.Demand.{Site, for_array, initializes, must_be_alike, must_not_be_empty, node}
use Rattle.ada_static_rules.specs.ExprTypes.{binary_kind, component_kind, is_other_kind, kind_of, name_kind, nodes, of_any_kind, takes}
use Rattle.ada_static_rules.specs.RuleArgCount.{index_on_scalar}
use Rattle.ada_static_rules.specs.RuleArrayUse.{whole_array}
use Rattle.ada_static_rules.specs.RuleMismatch.{misfit_index, misfit_operand, no_value, target_kind}
use Rattle.ada_static_rules.specs.RuleNotVariable.{written_name}
use Rattle.ada_static_rules.specs.RuleRangeBad.{is_fixed, raised, raises}
use Rattle.ada_static_rules.specs.RuleTextUse.{image_in_node}
use Rattle.ada_static_rules.specs.RuleReadOut.{out_formal}
use Rattle.ada_static_rules.specs.Scope.{ArrayMark, AsArray, Parameter, Range, Scope, Variable, integer_kind, kind_at, mark_at, marking_of_kind, marking_of_mark, meaning, range_of_mark, reading, reading_of, truth_kind}
use Rattle.ada_static_rules.specs.Sites.{array_init_sites, component_marks, drange_sites, expr_of, init_sites, is_task_object, may_be_task, names_sites, object_marking, own_object_sites, shape_sites, site, stmt_sites, subind_sites, target_sites, value_sites}
use Rattle.ada_static_rules.specs.StaticValue.{is_static, named, operated, value_named, value_of}
use Rattle.task_laws.proofs.legal.alike_scopes.Marks.{array-reading, kind-ranged, range-grown}
use Rattle.task_laws.proofs.legal.rewritten_types.Keeping.{grows-kind, grows-mark, grows-on}
use Rattle.task_laws.specs.legal.alike_scopes.Laws.{IsMetBut}
use Rattle.task_laws.specs.legal.rewritten_types.Agreement.{Grows}
use Rattle.normal_model.specs.Ranges.{integer_subtype, word_at}
use Rattle.normal_laws.proofs.structure.typed.Literals.{integer-marked, plain-fixed}
use Rattle.normal_laws.proofs.structure.typed.Places.{met-node, met-static, met-whole, met-writes}
use Rattle.normal_laws.proofs.structure.typed.Tests.{IsMetNode, loose}
use Rattle.normal_laws.proofs.structure.typed.Variables.{AllMetBut, of-kind, words-met}
use Rattle.replay_structure.proofs.typed.Calls.{number-met}
use Rattle.replay_structure.proofs.typed.Control.{integer-mark, integer-range}
use Rattle.replay_structure.proofs.typed.Tests.{IsFit, IsLoose, compared-fits, compared-kind}
use Rattle.replay_structure.specs.typed.Controller.{IsInteger}
use Rattle.collect_model.specs.Noting.{number}
use Rattle.collect_structure.proofs.typed.Truths.{form-met, value-met}
use Rattle.collect_structure.specs.typed.Recording.{IsInNumber, integer_values}
use Rattle.collect_model.specs.aborts.Recording.{entry_for, entry_set}
use Rattle.collect_structure.specs.aborts.typed.Recording.{IsRead, IsTable}
use Rattle.task_laws.proofs.legal.rewritten_types.Moving.{no_constants as no-constant}

-- ---- comparisons

-- a number that is not static, compared with a number
pub numbers-compared : (d : Scope) (op : BinaryOp) → takes op ≡ of_any_kind → (l r : PExpr) (s : Span) → IsFit d integer_kind l → kind_of d l ≡ Some integer_kind → is_static d.types l ≡ false →
    IsFit d integer_kind r → IsLoose d (EBinary op l r s)
numbers-compared d op o l r s h kind changes i =
    let static : (is_static d.types l && is_static d.types r) ≡ false = ap (λ b. b && is_static d.types r) changes in
    record {
      fit = record {
        kind = ap (λ t. is_other_kind (Some truth_kind) (binary_kind t (kind_of d l) (kind_of d r))) o ∙ compared-kind (kind_of d l) (kind_of d r);
        raised = loose d (EBinary op l r s) _ (raises d l ++ raises d r) static ∙ ap₂ (λ xs ys. xs ++ ys) h.raised i.raised;
        parts = (
          met-node d false (EBinary op l r s) record {
            known = refl;
            matched = ap₂ (λ t k. misfit_operand t k (kind_of d r) l r) o kind ∙ compared-fits integer_kind (kind_of d r) l r i.kind;
            readable = refl;
            counted = refl;
            arrays = refl;
            texts = refl;
          },
          all_joined (IsMetNode d) (nodes l) (nodes r) h.parts i.parts,
        );
      };
      static = static;
    }

-- an object of INTEGER that is read
pub read-fit : (d : Scope) (id : NameId) (s : Span) → IsRead d id → IsFit d integer_kind (EName id s)
read-fit d id s v = record {
  kind = ap (λ r. is_other_kind (Some integer_kind) (name_kind r)) v.read;
  raised = refl;
  parts = (
    met-node d false (EName id s) record {
      known = ap (λ o. if is_some o then [] else s ∷ []) v.means;
      matched = ap (λ r. no_value r s) v.read;
      readable = ap (λ o. out_formal o s) v.means ∙ v.seen s;
      counted = refl;
      arrays = ap (λ r. whole_array r s) v.read;
      texts = refl;
    },
    tt,
  );
}

equal-raises : (o : Option ℤ) (s : Span) (m : ℕ) → raised (operated binary.Equal s (named o) (Ok (pos m))) ≡ []
equal-raises None s m = refl
equal-raises (Some z) s m = refl

-- compared with a number that is written in the text, whether the name is that of a constant elsewhere or not
pub name-compared : (d : Scope) (id : NameId) (s : Span) (m : ℕ) → IsRead d id → IsFit d truth_kind (EBinary binary.Equal (EName id s) (number s m) s)
name-compared d id s m v =
    let e : PExpr = EBinary binary.Equal (EName id s) (number s m) s in
    record {
      kind = compared-kind (kind_of d (EName id s)) (Some integer_kind);
      raised = by_test (is_fixed d e);
      parts = (
        met-node d false e record {
          known = refl;
          matched = ap (λ r. misfit_operand of_any_kind (name_kind r) (Some integer_kind) (EName id s) (number s m)) v.read;
          readable = refl;
          counted = refl;
          arrays = refl;
          texts = refl;
        },
        ((read-fit d id s v).parts.0, (met-node d false (number s m) record { known = refl; matched = refl; readable = refl; counted = refl; arrays = refl; texts = refl }, tt)),
      );
    }
  where
    by_test : (b : Bool) → (if b then raised (value_of d.types (EBinary binary.Equal (EName id s) (number s m) s)) else []) ≡ []
    by_test true = equal-raises (value_named d.types id) s m
    by_test false = refl

-- where the names mean the same and no type goes, it is still one
pub read-step : (d d' : Scope) (id : NameId) → meaning d' id ≡ meaning d id → d'.types ≡ d.types → IsRead d id → IsRead d' id
read-step d d' id e g v = record {
  thing = v.thing;
  means = e ∙ v.means;
  read = ap₂ (λ (T : TypeTable) o. reading_of T o) g e ∙ v.read;
  seen = v.seen;
}

-- a formal of mode in of INTEGER is one
pub formal-read : (d : Scope) (id : NameId) → IsInNumber d id → IsRead d id
formal-read d id v = record { thing = Parameter Take v.place; means = v.means; read = v.read; seen = λ s. refl }

-- where the name means the same and no type goes, it is still a table
pub table-step : (d d' : Scope) (id : NameId) → meaning d' id ≡ meaning d id → Grows d.types d'.types → IsTable d id → IsTable d' id
table-step d d' id e g h = record {
  place = h.place;
  mark = h.mark;
  part = h.part;
  first = h.first;
  last = h.last;
  means = e ∙ h.means;
  there = g.mark h.place h.mark h.there;
  array = g.kind h.mark.kind (Array integer_kind h.first h.last h.part) h.array;
  parts = range-grown d.types d'.types g h.part integer_values h.parts;
}

-- ---- an entry of a table

module _ (d : Scope) (id task : NameId) (s : Span) (table : IsTable d id) (v : IsRead d task) where
  abbrev at_task : PExpr
  at_task = EName task s

  abbrev its : PExpr
  its = entry_for s id task

  table-read : reading d id ≡ AsArray integer_kind table.part
  table-read = ap (reading_of d.types) table.means ∙ array-reading d.types table.place table.mark integer_kind table.first table.last table.part table.there table.array

  task-kind : kind_of d at_task ≡ Some integer_kind
  task-kind = ap name_kind v.read

  pub entry-kind : kind_of d its ≡ Some integer_kind
  entry-kind = ap₂ (λ r o. component_kind d.types r o) table-read task-kind ∙ kind-ranged d.types table.part integer_values table.parts

  -- as a part of an expression, or all that is written
  pub entry-node : (written : Bool) → IsMetBut (site d (node written its))
  entry-node written = met-node d written its record {
    known = ap (λ o. if is_some o then [] else s ∷ []) table.means;
    matched = ap (λ r. no_value r s ++ misfit_index d r at_task) table-read ∙ of-kind d at_task integer_kind task-kind;
    readable = refl;
    counted = ap (λ r. index_on_scalar r s) table-read;
    arrays = refl;
    texts = text written;
  }
    where
      text : (b : Bool) → image_in_node b its ≡ []
      text true = refl
      text false = refl

  pub entry-fit : IsFit d integer_kind its
  entry-fit = record { kind = ap (is_other_kind (Some integer_kind)) entry-kind; raised = refl; parts = (entry-node false, (read-fit d task s v).parts) }

  -- an entry becomes a number
  pub entry-set-met : (e : PExpr) → AllMetBut (expr_of d (Some integer_kind) e) → AllMetBut (stmt_sites d (entry_set s id task e))
  entry-set-met e m =
      let target : PTarget = record { name = word_at s id; index = Some at_task } in
      all_joined IsMetBut (target_sites d target) (expr_of d (target_kind d target) e) (
        met-writes d target record {
          known = ap (λ o. if is_some o then [] else s ∷ []) table.means;
          matched = ap (λ r. misfit_index d r at_task) table-read ∙ of-kind d at_task integer_kind task-kind;
          variable = ap (λ o. written_name d (Some at_task) (reading d id) o s) table.means;
          counted = ap (λ r. index_on_scalar r s) table-read;
          arrays = refl;
        },
        (met-whole d at_task refl, ((read-fit d task s v).parts.0, tt)),
      )
      (subst (λ k. AllMetBut (expr_of d k e)) (sym entry-kind) m)

-- ---- ranges

-- `0 .. n`
abbrev pub from_main : Span → ℕ → PDrange
from_main s last = RGiven (record { first = number s 0; last = number s last })

module _ (d : Scope) (s : Span) (last : ℕ) where
  not-below : int_lt (pos last) (pos 0) ≡ false
  not-below = grind (arith, ints)

  not-empty : IsMetBut (site d (must_not_be_empty (number s 0) (number s last)))
  not-empty = record {
    known = refl;
    matched = refl;
    static = refl;
    ranged = ap (λ b. if b then s ∷ [] else []) not-below;
    variable = refl;
    readable = refl;
    counted = refl;
    chosen = refl;
    arrays = refl;
    texts = refl;
    exceptions = refl;
  }

  alike : IsMetBut (site d (must_be_alike (number s 0) (number s last)))
  alike = record { known = refl; matched = refl; static = refl; ranged = refl; variable = refl; readable = refl; counted = refl; chosen = refl; arrays = refl; texts = refl; exceptions = refl }

  -- as the index range of an array, and as the range of a loop
  pub range-met : (static : Bool) → AllMetBut (drange_sites static d (from_main s last))
  range-met true =
      let zero = number-met d 0 s integer_kind refl in
      let many = number-met d last s integer_kind refl in
      (zero.0, (zero.1.0, (met-static d (number s 0) refl, (many.0, (many.1.0, (met-static d (number s last) refl, (not-empty, (alike, tt))))))))
  range-met false =
      let zero = number-met d 0 s integer_kind refl in
      let many = number-met d last s integer_kind refl in (zero.0, (zero.1.0, (many.0, (many.1.0, (not-empty, (alike, tt))))))

-- ---- the declaration

module _ (d : Scope) (int : IsInteger d) (s : Span) (last : ℕ) (ws : List Word) where
  abbrev index : PDrange
  index = from_main s last

  abbrev range : Range
  range = record { kind = integer_kind; first = pos 0; last = pos last }

  abbrev shape : PShape
  shape = OArray index (integer_subtype s)

  abbrev value : PInit
  value = IOthers (number s 0) s

  abbrev declared : PDecl
  declared = DObject ws false shape (Some value) s

  abbrev row : Kind
  row = Array integer_kind (pos 0) (pos last) int.its.place

  abbrev row_mark : Mark
  row_mark = record { name = None; kind = length d.types.kinds; first = pos 0; last = pos last }

  abbrev pub place : ℕ
  place = length d.types.marks

  -- the types behind the declaration
  abbrev pub table_types : TypeTable
  table_types = add_mark (add_kind d.types row) row_mark

  table-thing : declared_object d false shape ≡ record { types = table_types; thing = Variable place }
  table-thing =
      ap (λ m. array_object d false m index (integer_subtype s)) (integer-marked d int.its)
      ∙ ap (λ m. of_made false (made_array None (subind_made d m None).types (drange_range d index) (subind_made d m None).mark)) (integer-marked d int.its)

  pub table-grows : Grows d.types table_types
  table-grows = grows-on (grows-kind d.types row) (grows-mark (add_kind d.types row) row_mark)

  its-mark : mark_at table_types place ≡ Some row_mark
  its-mark = last_at d.types.marks row_mark

  its-kind : kind_at table_types row_mark.kind ≡ Some row
  its-kind = last_at d.types.kinds row

  its-parts : range_of_mark table_types int.its.place ≡ Some integer_values
  its-parts = range-grown d.types table_types table-grows int.its.place integer_values (integer-range d int)

  its-marking : marking_of_mark table_types place (mark_at table_types place) ≡ ArrayMark place range int.its.place
  its-marking = ap (marking_of_mark table_types place) its-mark ∙ ap (marking_of_kind place row_mark.kind) its-kind

  -- `DED_MET, DED_ACC : array (0 .. n) of INTEGER := (others => 0);`
  pub tables-declared-met : AllMetBut (own_object_sites d declared)
  tables-declared-met =
      let its : Declared = declared_object d false shape in
      let names : List Site = names_sites (d.in_main && is_task_object its.thing) d ws in
      let about : Site = site d (initializes (for_array range) value) in
      let marks = component_marks (may_be_task d false None (Some value)) in
      all_joined IsMetBut (names ++ shape_sites d false shape (Some value)) (init_sites d its.types (object_marking its) value)
      (all_joined IsMetBut names (shape_sites d false shape (Some value)) (words-met (d.in_main && is_task_object its.thing) ws d)
      (all_joined IsMetBut (drange_sites true d index) (subind_sites true marks d (integer_subtype s)) (range-met d s last true) (integer-mark d int.its marks s, tt)))
      (subst (λ (x : Declared). AllMetBut (init_sites d x.types (object_marking x) value)) (sym table-thing)
      (subst (λ m. AllMetBut (init_sites d table_types m value)) (sym its-marking)
      (subst (λ r. AllMetBut (array_init_sites d r value ++ about ∷ [])) (sym its-parts)
      (all_joined IsMetBut (value_sites d (Some integer_values) (number s 0)) (about ∷ [])
      (value-met d integer_values (number s 0) (pos 0) (plain-fixed d int.its 0 s) refl) (form-met d (for_array range) value refl, tt)))))

  pub tables-declared-behind : after_own_object d declared ≡ with_names (Variable place) (with_types table_types d) ws
  tables-declared-behind =
      ap (λ (x : Declared). with_names x.thing (with_types (with_constants d ws (Some value) x) d) ws) table-thing
      ∙ ap (λ T. with_names (Variable place) (with_types T d) ws) (no-constant d.in_main table_types)

  -- each of the names means a table behind it
  pub table-seen : (id : NameId) → meaning (with_names (Variable place) (with_types table_types d) ws) id ≡ Some (Variable place) →
      (e : Scope) → meaning e id ≡ meaning (with_names (Variable place) (with_types table_types d) ws) id → e.types ≡ table_types → IsTable e id
  table-seen id m e same types = record {
    place = place;
    mark = row_mark;
    part = int.its.place;
    first = pos 0;
    last = pos last;
    means = same ∙ m;
    there = subst (λ (T : TypeTable). mark_at T place ≡ Some row_mark) (sym types) its-mark;
    array = subst (λ (T : TypeTable). kind_at T row_mark.kind ≡ Some row) (sym types) its-kind;
    parts = subst (λ (T : TypeTable). range_of_mark T int.its.place ≡ Some integer_values) (sym types) its-parts;
  }
