-- The tables of the controller: their declarations meet the static rules 1 and 3 to 12, behind them each table is seen as an array of INTEGER, and so is
-- a line of one as a number.
use Rattle.std.proofs.Common.{◌≡◌, ℕ, ◌≤◌, ◌==◌, ℤ, pos, negsuc, ◌-ℤ◌, ◌+ℤ◌, int_lt, int_le, Bool, true, false, ◌&&◌, ◌||◌, if◌then◌else◌, List, [], ◌∷◌, ◌++◌, length, map, flat_map, Option, Some, None, is_some, refl, sym, ap, ap₂, subst, ◌∙◌, arith}
use Rattle.std.specs.List.{AllByRecursion}
use Rattle.std.specs.Ordering.{int_eq}
use Rattle.std.proofs.lemmas.Int.{ints}
use Rattle.std.proofs.lemmas.Bool.{eq-eqb}
use Rattle.std.proofs.lemmas.Bool.Decides.{Decides-int_eq}
use Rattle.common_lemmas.proofs.Truth.{and_false, if_false}
use Rattle.common_lemmas.proofs.Lists.{all_joined, last_at, mapped_length, texts_differ}
use Rattle.std.specs.Str.{bytes_eq}
use Rattle.ada_tree.specs.declared.naming.NameId.{NameId}
use Rattle.ada_tree.specs.declared.naming.Span.{Span}
use Rattle.ada_tree.specs.declared.naming.Word.{Word}
use Rattle.ada_tree.specs.declared.static_types.Kind.{Kind as ValueKind}
use Rattle.ada_tree.specs.declared.static_types.Kind.TheVariants.{Array}
use Rattle.ada_tree.specs.declared.static_types.Mark.{Mark}
use Rattle.ada_tree.specs.TypeTable.{TypeTable}
use Rattle.ada_tree.specs.PlainExpr.{PExpr, EInteger, EName, EIndex}
use Rattle.ada_tree.specs.PlainDecl.{PInit, IOthers, IList, PDecl, PDecls, decls_of}
use Rattle.ada_tree.specs.PlainProgram.{PProgram}
use Rattle.ada_static_rules.specs.Scope.{Scope, Range, ConstantObject, LoopParameter, ArrayMark, AsScalar, AsArray, integer_kind, kind_at, mark_at, meaning, reading, reading_of, reading_of_mark, reading_of_kind, marking_of_mark, marking_of_kind, range_of_mark}
use Rattle.ada_static_rules.specs.ExprTypes.{kind_of, name_kind, component_kind, static_in, is_kind, ok_value}
use Rattle.ada_static_rules.specs.StaticValue.{value_of}
use Rattle.ada_static_rules.specs.Declaring.{Declared, add_mark, add_kind, made_array, subind_made, drange_range, of_made, array_object, declared_object, with_name, with_names, with_types, with_constants, after_own_object, after_objects}
use Rattle.ada_static_rules.specs.Demand.{Site, must_be_of, must_lie_in, must_not_be_empty, for_array, initializes}
use Rattle.ada_static_rules.specs.Sites.{site, names_sites, expr_sites, expr_of, drange_sites, subind_sites, shape_sites, component_marks, may_be_task, array_init_sites, init_sites, object_marking, is_task_object, value_sites, own_object_sites, own_sites}
use Rattle.ada_static_rules.specs.RuleMismatch.{no_value, misfit_index}
use Rattle.ada_static_rules.specs.RuleRangeBad.{is_outside}
use Rattle.ada_static_rules.specs.RuleArgCount.{index_on_scalar}
use Rattle.ada_static_rules.specs.RuleReadOut.{out_formal}
use Rattle.ada_static_rules.specs.RuleArrayUse.{whole_array}
use Rattle.ada_static_rules.specs.RuleChoiceBad.{mark_of_part, selected_range}
use Rattle.control_script.specs.declared.Op.{Op}
use Rattle.task_laws.specs.legal.rewritten_types.Agreement.{Grows, Keeps, IsScalar}
use Rattle.task_laws.specs.legal.rewritten_types.Rewriting.{IsAdded}
use Rattle.task_laws.proofs.legal.rewritten_types.Keeping.{grows-on, grows-mark, grows-kind}
use Rattle.task_laws.proofs.legal.rewritten_types.Adding.{keeps-objects}
use Rattle.task_laws.proofs.legal.alike_scopes.Inner.{own-object-main}
use Rattle.task_laws.proofs.legal.alike_scopes.Marks.{kind-ranged, scalar-reading, range-grown, scalar-grown}
use Rattle.task_laws.specs.legal.alike_scopes.Laws.{IsMetBut}
use Rattle.normal_model.specs.Ranges.{word_at, integer_subtype}
use Rattle.normal_model.specs.Members.{integer_literal}
use Rattle.normal_laws.specs.structure.placed.Placeable.{IsSmallIndex}
use Rattle.normal_laws.proofs.structure.numbers.Named.{Has}
use Rattle.normal_laws.proofs.structure.typed.Places.{met-whole, met-node, met-of, met-in, met-static}
use Rattle.normal_laws.proofs.structure.typed.Variables.{AllMetBut, words-met, of-kind}
use Rattle.normal_laws.proofs.structure.typed.Scopes.{meaning-more}
use Rattle.normal_laws.proofs.structure.typed.Literals.{integer-marked, number-fixed}
use Rattle.normal_laws.proofs.structure.typed.Choices.{choice-met}
use Rattle.replay_model.specs.declared.tables.columns.Column.{Column}
use Rattle.replay_model.specs.declared.tables.columns.Column.TheVariants.{Operation, Task, Kind, Argument, Index}
use Rattle.replay_model.specs.declared.tables.names.ControlNames.{ControlNames}
use Rattle.replay_model.specs.Names.{added_texts, operations_text, tasks_text, kinds_text, arguments_text, indices_text, added_id}
use Rattle.replay_model.specs.tables.Columns.{columns, says, table_name}
use Rattle.replay_model.specs.tables.Tables.{up_to, table_value, array_of, table_declared}
use Rattle.replay_model.specs.Controlling.{control_ids}
use Rattle.replay_structure.specs.placed.Placeable.{HasLiterals}
use Rattle.replay_structure.specs.typed.Controller.{IsInteger}
use Rattle.replay_structure.proofs.texts.Rooted.{ids-apart}
use Rattle.replay_structure.proofs.placed.Said.{all-small}
use Rattle.replay_structure.proofs.typed.Calls.{number-met}
use Rattle.replay_structure.proofs.typed.Control.{all_values, integer-range, integer-mark}
use Rattle.replay_structure.proofs.scopes.Permit.{only, objects-means, integer-step}
use Rattle.task_laws.proofs.legal.alike_scopes.Selectors.{marked-selector as selected-by}

-- ---- what is seen

-- the name means a constant array of numbers, whose index is one too
pub record IsTable (d : Scope) (id : NameId) : Type 0 where
  pub place : ℕ
  pub mark : Mark
  pub part : ℕ
  pub first : ℤ
  pub last : ℤ
  pub means : meaning d id ≡ Some (ConstantObject place)
  pub there : mark_at d.types place ≡ Some mark
  pub array : kind_at d.types mark.kind ≡ Some (Array integer_kind first last part)
  pub parts : range_of_mark d.types part ≡ Some all_values

-- the name means the parameter of a loop over numbers
pub record IsCounter (d : Scope) (id : NameId) : Type 0 where
  pub place : ℕ
  pub mark : Mark
  pub means : meaning d id ≡ Some (LoopParameter place)
  pub there : mark_at d.types place ≡ Some mark
  pub kind : mark.kind ≡ integer_kind
  pub scalar : IsScalar d.types mark.kind

-- both stay where the name means the same and no type goes
pub table-step : (d d' : Scope) (id : NameId) → meaning d' id ≡ meaning d id → Grows d.types d'.types → IsTable d id → IsTable d' id
table-step d d' id e g h = record {
  place = h.place;
  mark = h.mark;
  part = h.part;
  first = h.first;
  last = h.last;
  means = e ∙ h.means;
  there = g.mark h.place h.mark h.there;
  array = g.kind h.mark.kind (Array integer_kind h.first h.last h.part) h.array;
  parts = range-grown d.types d'.types g h.part all_values h.parts;
}

pub counter-step : (d d' : Scope) (id : NameId) → meaning d' id ≡ meaning d id → Grows d.types d'.types → IsCounter d id → IsCounter d' id
counter-step d d' id e g h = record {
  place = h.place;
  mark = h.mark;
  means = e ∙ h.means;
  there = g.mark h.place h.mark h.there;
  kind = h.kind;
  scalar = scalar-grown d.types d'.types g h.mark.kind h.scalar;
}

-- ---- a line of a table

-- a number from the first to the last value of INTEGER lies in it
small-within : (z : ℤ) → IsSmallIndex z → (int_le (negsuc 2147483647) z && int_le z (pos 2147483647)) ≡ true
small-within (pos n) h = high n h
  where
    high : (m : ℕ) → m ≤ 2147483647 → (int_le (negsuc 2147483647) (pos m) && int_le (pos m) (pos 2147483647)) ≡ true
    high m l = grind (arith, ints)
small-within (negsuc n) h = low n h
  where
    low : (m : ℕ) → m ≤ 2147483647 → (int_le (negsuc 2147483647) (negsuc m) && int_le (negsuc m) (pos 2147483647)) ≡ true
    low m l = grind (arith, ints)

module _ (d : Scope) (id n : NameId) (s : Span) (table : IsTable d id) (counter : IsCounter d n) where
  -- `DED_TS(DED_N)`
  abbrev line : PExpr
  line = EIndex (word_at s id) (EName n s) s

  table-reads : reading d id ≡ AsArray integer_kind table.part
  table-reads = ap (reading_of d.types) table.means ∙ ap (reading_of_mark d.types) table.there ∙ ap (reading_of_kind table.mark.kind) table.array

  counter-reads : reading d n ≡ AsScalar integer_kind
  counter-reads =
      ap (reading_of d.types) counter.means ∙ ap (reading_of_mark d.types) counter.there
      ∙ scalar-reading counter.mark.kind (kind_at d.types counter.mark.kind) counter.scalar.0 counter.scalar.1 ∙ ap AsScalar counter.kind

  counter-kind : kind_of d (EName n s) ≡ Some integer_kind
  counter-kind = ap name_kind counter-reads

  pub line-kind : kind_of d line ≡ Some integer_kind
  line-kind = ap₂ (λ r o. component_kind d.types r o) table-reads counter-kind ∙ kind-ranged d.types table.part all_values table.parts

  pub line-sites : AllMetBut (expr_sites d line)
  line-sites = (
    met-whole d line refl,
    (
      met-node d false line record {
        known = ap (λ o. if is_some o then [] else s ∷ []) table.means;
        matched = ap (λ r. no_value r s ++ misfit_index d r (EName n s)) table-reads ∙ of-kind d (EName n s) integer_kind counter-kind;
        readable = refl;
        counted = ap (λ r. index_on_scalar r s) table-reads;
        arrays = refl;
        texts = refl;
      },
      (
        met-node d false (EName n s) record {
          known = ap (λ o. if is_some o then [] else s ∷ []) counter.means;
          matched = ap (λ r. no_value r s) counter-reads;
          readable = ap (λ o. out_formal o s) counter.means;
          counted = refl;
          arrays = ap (λ r. whole_array r s) counter-reads;
          texts = refl;
        },
        tt,
      ),
    ),
  )

  -- it is not static, so nothing is asked of its value
  line-open : (k : ℕ) → static_in d k line ≡ None
  line-open k = ap (λ (b : Bool). if b then ok_value (value_of d.types line) else None) (and_false (is_kind k (kind_of d line)))

  -- as the index of an accept
  pub line-in : (range : Range) → range.kind ≡ integer_kind → AllMetBut (expr_of d (Some range.kind) line ++ site d (must_lie_in line (Some range)) ∷ [])
  line-in range same =
      all_joined IsMetBut (expr_of d (Some range.kind) line) (site d (must_lie_in line (Some range)) ∷ [])
      (all_joined IsMetBut (expr_sites d line) (site d (must_be_of line (Some range.kind)) ∷ []) line-sites (met-of d line (Some range.kind) (of-kind d line range.kind (line-kind ∙ ap Some (sym same))), tt))
      (met-in d line (Some range) (ap (λ o. if is_outside range o then s ∷ [] else []) (line-open range.kind)), tt)

  -- as a selector
  pub line-selects : selected_range d line ≡ Some all_values
  line-selects = selected-by d line table.part (ap mark_of_part table-reads) ∙ table.parts

-- ---- ranges

below-none : (n : ℕ) → 1 ≤ n → int_lt (pos n) (pos 1) ≡ false
below-none n h = grind (arith, ints)

module _ (d : Scope) (s : Span) (n : ℕ) (some : 1 ≤ n) where
  not-empty : IsMetBut (site d (must_not_be_empty (EInteger 1 s) (EInteger n s)))
  not-empty = record {
    known = refl;
    matched = refl;
    static = refl;
    ranged = ap (λ b. if b then s ∷ [] else []) (below-none n some);
    variable = refl;
    readable = refl;
    counted = refl;
    chosen = refl;
    arrays = refl;
    texts = refl;
    exceptions = refl;
  }

  -- `1 .. n`, as the index of an array and of a loop
  pub index-met : AllMetBut (drange_sites true d (up_to s n))
  index-met =
      let first = number-met d 1 s integer_kind refl in
      let last = number-met d n s integer_kind refl in (
        first.0,
        (
          first.1.0,
          (
            met-static d (EInteger 1 s) refl,
            (
              last.0,
              (
                last.1.0,
                (
                  met-static d (EInteger n s) refl,
                  (not-empty, (record { known = refl; matched = refl; static = refl; ranged = refl; variable = refl; readable = refl; counted = refl; chosen = refl; arrays = refl; texts = refl; exceptions = refl }, tt)),
                ),
              ),
            ),
          ),
        ),
      )

  pub loop-range-met : AllMetBut (drange_sites false d (up_to s n))
  loop-range-met =
      let first = number-met d 1 s integer_kind refl in
      let last = number-met d n s integer_kind refl in (
        first.0,
        (
          first.1.0,
          (
            last.0,
            (
              last.1.0,
              (not-empty, (record { known = refl; matched = refl; static = refl; ranged = refl; variable = refl; readable = refl; counted = refl; chosen = refl; arrays = refl; texts = refl; exceptions = refl }, tt)),
            ),
          ),
        ),
      )

-- ---- one table

as-many : (n : ℕ) → int_eq (pos n) ((pos n -ℤ pos 1) +ℤ pos 1) ≡ true
as-many n = let e : (pos n -ℤ pos 1) +ℤ pos 1 ≡ pos n = grind (arith, ints) in let same : int_eq (pos n) (pos n) ≡ true = grind (arith, Decides-int_eq) in ap (int_eq (pos n)) e ∙ same

module _ (q : PProgram) (s : Span) (made : List Op) where
  abbrev ids : ControlNames
  ids = control_ids q

  abbrev count : ℕ
  count = length made

  -- the range of the indices
  abbrev indices : Range
  indices = record { kind = integer_kind; first = pos 1; last = pos count }

  abbrev table : Column → PDecl
  table column = table_declared ids s column made

  module _ (d : Scope) (int : IsInteger d) (main : d.in_main ≡ false) where
    abbrev row : ValueKind
    row = Array integer_kind (pos 1) (pos count) int.its.place

    abbrev its_mark : Mark
    its_mark = record { name = None; kind = length d.types.kinds; first = pos 1; last = pos count }

    abbrev place : ℕ
    place = length d.types.marks

    -- the types behind the declaration
    abbrev behind_types : TypeTable
    behind_types = add_mark (add_kind d.types row) its_mark

    table-thing : declared_object d true (array_of s count) ≡ record { types = behind_types; thing = ConstantObject place }
    table-thing =
        ap (λ m. array_object d true m (up_to s count) (integer_subtype s)) (integer-marked d int.its)
        ∙ ap (λ m. of_made true (made_array None (subind_made d m None).types (drange_range d (up_to s count)) (subind_made d m None).mark)) (integer-marked d int.its)

    grown : Grows d.types behind_types
    grown = grows-on (grows-kind d.types row) (grows-mark (add_kind d.types row) its_mark)

    its-mark : mark_at behind_types place ≡ Some its_mark
    its-mark = last_at d.types.marks its_mark

    its-kind : kind_at behind_types its_mark.kind ≡ Some row
    its-kind = last_at d.types.kinds row

    its-parts : range_of_mark behind_types int.its.place ≡ Some all_values
    its-parts = range-grown d.types behind_types grown int.its.place all_values (integer-range d int)

    its-marking : marking_of_mark behind_types place (mark_at behind_types place) ≡ ArrayMark place indices int.its.place
    its-marking = ap (marking_of_mark behind_types place) its-mark ∙ ap (marking_of_kind place its_mark.kind) its-kind

    abbrev behind : NameId → Scope
    behind id = with_name (ConstantObject place) (with_types behind_types d) (word_at s id)

    table-behind : (column : Column) → after_own_object d (table column) ≡ behind (table_name ids column)
    table-behind column =
        let ws : List Word = word_at s (table_name ids column) ∷ [] in
        let init : Option PInit = Some (table_value s (map (says column) made)) in
        ap (λ (y : Declared). with_names y.thing (with_types (with_constants d ws init y) d) ws) table-thing
        ∙ ap (λ U. with_names (ConstantObject place) (with_types U d) ws) (if_false d.in_main _ behind_types main)

    table-there : (id : NameId) → IsTable (behind id) id
    table-there id = record {
      place = place;
      mark = its_mark;
      part = int.its.place;
      first = pos 1;
      last = pos count;
      means = meaning-more (ConstantObject place) (with_types behind_types d) (word_at s id) id ∙ ap (λ b. if b then Some (ConstantObject place) else meaning (with_types behind_types d) id) (eq-eqb id.0 id.0 refl);
      there = its-mark;
      array = its-kind;
      parts = its-parts;
    }

    pub table-seen : (column : Column) → IsTable (after_own_object d (table column)) (table_name ids column)
    table-seen column = subst (λ (e : Scope). IsTable e (table_name ids column)) (sym (table-behind column)) (table-there (table_name ids column))

    -- ---- its places

    -- the literal of a number in a table
    literal-met : (z : ℤ) → IsSmallIndex z → AllMetBut (value_sites d (Some all_values) (integer_literal s z))
    literal-met z h = choice-met d integer_kind (integer_literal s z) z (number-fixed d int.its z s (small-within z h)) all_values refl (small-within z h)

    literals-met : (zs : List ℤ) → AllByRecursion IsSmallIndex zs → AllMetBut (flat_map (value_sites d (Some all_values)) (map (integer_literal s) zs))
    literals-met [] h = tt
    literals-met (z ∷ zs) h =
        all_joined IsMetBut (value_sites d (Some all_values) (integer_literal s z)) (flat_map (value_sites d (Some all_values)) (map (integer_literal s) zs)) (literal-met z h.0) (literals-met zs h.1)

    -- a value of an array, or a list of as many as it has
    form-met : (value : PInit) → AllMetBut (array_init_sites d (Some all_values) value) → IsMetBut (site d (initializes (for_array indices) value)) →
        AllMetBut (array_init_sites d (Some all_values) value ++ site d (initializes (for_array indices) value) ∷ [])
    form-met value m i = all_joined IsMetBut (array_init_sites d (Some all_values) value) (site d (initializes (for_array indices) value) ∷ []) m (i, tt)

    value-met : (zs : List ℤ) → 1 ≤ length zs → length zs ≡ count → AllByRecursion IsSmallIndex zs →
        AllMetBut (array_init_sites d (Some all_values) (table_value s zs) ++ site d (initializes (for_array indices) (table_value s zs)) ∷ [])
    value-met [] some many h = let never : ⊥ = omega (arith, some) in absurd never
    value-met (z ∷ []) some many h =
        form-met (IOthers (integer_literal s z) s) (literal-met z h.0)
        record { known = refl; matched = refl; static = refl; ranged = refl; variable = refl; readable = refl; counted = refl; chosen = refl; arrays = refl; texts = refl; exceptions = refl }
    value-met (z ∷ y ∷ zs) some many h =
        form-met (IList (map (integer_literal s) (z ∷ y ∷ zs)) s) (literals-met (z ∷ y ∷ zs) h)
        record {
          known = refl;
          matched = refl;
          static = refl;
          ranged = refl;
          variable = refl;
          readable = refl;
          counted = refl;
          chosen = refl;
          arrays =
              ap (λ (n : ℕ). if int_eq (pos n) ((pos count -ℤ pos 1) +ℤ pos 1) then [] else s ∷ []) (mapped_length (integer_literal s) (z ∷ y ∷ zs) ∙ many)
              ∙ ap (λ b. if b then [] else s ∷ []) (as-many count);
          texts = refl;
          exceptions = refl;
        }

    pub table-met : (column : Column) → 1 ≤ count → AllByRecursion HasLiterals made → AllMetBut (own_object_sites d (table column))
    table-met column some h =
        let ws : List Word = word_at s (table_name ids column) ∷ [] in
        let value : PInit = table_value s (map (says column) made) in
        let its : Declared = declared_object d true (array_of s count) in
        let names : List Site = names_sites (d.in_main && (true || is_task_object its.thing)) d ws in
        let shape : List Site = shape_sites d true (array_of s count) (Some value) in
        let long = mapped_length (says column) made in
        let many : 1 ≤ length (map (says column) made) = omega (arith, long, some) in
        all_joined IsMetBut (names ++ shape) (init_sites d its.types (object_marking its) value)
        (all_joined IsMetBut names shape (words-met (d.in_main && (true || is_task_object its.thing)) ws d)
        (all_joined IsMetBut (drange_sites true d (up_to s count)) (subind_sites true (component_marks (may_be_task d true None (Some value))) d (integer_subtype s)) (index-met d s count some) (integer-mark d int.its (component_marks (may_be_task d true None (Some value))) s, tt)))
        (subst (λ (x : Declared). AllMetBut (init_sites d x.types (object_marking x) value)) (sym table-thing)
        (subst (λ m. AllMetBut (init_sites d behind_types m value)) (sym its-marking)
        (subst (λ r. AllMetBut (array_init_sites d r value ++ site d (initializes (for_array indices) value) ∷ [])) (sym its-parts)
        (value-met (map (says column) made) many long (all-small column made h)))))

  -- ---- all tables

  -- these tables, one behind the other
  abbrev pub listed : List Column → PDecls
  listed cols = decls_of (map (λ column. table_declared ids s column made) cols)

  -- the name is none of theirs
  abbrev pub IsNoTable : NameId → List Column → Type 0
  IsNoTable id cols = AllByRecursion (λ column. ((table_name ids column).0 == id.0) ≡ false) cols

  -- no two have one name
  abbrev pub AreApart : List Column → Type 0
  AreApart [] = Prim.Unit {0}
  AreApart (column ∷ cols) = IsNoTable (table_name ids column) cols × AreApart cols

  added : (id : NameId) (cols : List Column) → IsNoTable id cols → AllByRecursion (IsAdded (only id)) (map (λ column. table_declared ids s column made) cols)
  added id [] n = tt
  added id (column ∷ cols) n = ((n.0, tt), added id cols n.1)

  pub means-behind : (id : NameId) (cols : List Column) (d : Scope) → IsNoTable id cols → meaning (after_objects d (listed cols)) id ≡ meaning d id
  means-behind id cols d n = objects-means id (map (λ column. table_declared ids s column made) cols) d (added id cols n)

  pub integer-behind : (cols : List Column) (d : Scope) → d.in_main ≡ false → IsNoTable (record { 0 = 0 }) cols → IsInteger d → IsInteger (after_objects d (listed cols))
  integer-behind cols d main n int = integer-step d (after_objects d (listed cols)) (means-behind (record { 0 = 0 }) cols d n) (keeps-objects (listed cols) d main) int

  inside-behind : (column : Column) (d : Scope) → d.in_main ≡ false → (after_own_object d (table column)).in_main ≡ false
  inside-behind column d main = own-object-main (λ n. true) (table column) d ∙ main

  pub tables-met : (cols : List Column) (d : Scope) → d.in_main ≡ false → IsNoTable (record { 0 = 0 }) cols → IsInteger d → 1 ≤ count → AllByRecursion HasLiterals made → AllMetBut (own_sites d (listed cols))
  tables-met [] d main n int some h = tt
  tables-met (column ∷ cols) d main n int some h =
      all_joined IsMetBut (own_object_sites d (table column)) (own_sites (after_own_object d (table column)) (listed cols)) (table-met d int main column some h)
      (tables-met cols (after_own_object d (table column)) (inside-behind column d main) n.1 (integer-behind (column ∷ []) d main (n.0, tt) int) some h)

  -- behind them each is seen
  pub tables-seen : (cols : List Column) (d : Scope) → d.in_main ≡ false → IsNoTable (record { 0 = 0 }) cols → AreApart cols → IsInteger d →
      AllByRecursion (λ column. IsTable (after_objects d (listed cols)) (table_name ids column)) cols
  tables-seen [] d main n apart int = tt
  tables-seen (column ∷ cols) d main n apart int =
      let next : Scope = after_own_object d (table column) in
      let inside : next.in_main ≡ false = inside-behind column d main in
      let kept : Keeps (λ k. true) next.types (after_objects next (listed cols)).types = keeps-objects (listed cols) next inside in (
        table-step next (after_objects next (listed cols)) (table_name ids column) (means-behind (table_name ids column) cols next apart.0) kept.grows (table-seen d int main column),
        tables-seen cols next inside n.1 apart.1 (integer-behind (column ∷ []) d main (n.0, tt) int),
      )

-- ---- their names

-- names of two texts that every replay text adds
pub two-apart : (q : PProgram) (a b : List ℕ) → Has added_texts a → Has added_texts b → bytes_eq a b ≡ false → ((added_id q a).0 == (added_id q b).0) ≡ false
two-apart q a b h k n = ids-apart q a b h k (texts_differ a b n)

-- the names of the tables differ
pub tables-apart : (q : PProgram) (s : Span) (made : List Op) → AreApart q s made columns
tables-apart q s made = (
  (
    two-apart q tasks_text operations_text refl refl refl,
    (two-apart q kinds_text operations_text refl refl refl, (two-apart q arguments_text operations_text refl refl refl, (two-apart q indices_text operations_text refl refl refl, tt))),
  ),
  (
    (two-apart q kinds_text tasks_text refl refl refl, (two-apart q arguments_text tasks_text refl refl refl, (two-apart q indices_text tasks_text refl refl refl, tt))),
    (
      (two-apart q arguments_text kinds_text refl refl refl, (two-apart q indices_text kinds_text refl refl refl, tt)),
      ((two-apart q indices_text arguments_text refl refl refl, tt), (tt, tt)),
    ),
  ),
)

-- a name that differs from that of each table
pub no-table : (q : PProgram) (s : Span) (made : List Op) (id : NameId) → ((column : Column) → ((table_name (control_ids q) column).0 == id.0) ≡ false) → IsNoTable q s made id columns
no-table q s made id h = (h Operation, (h Task, (h Kind, (h Argument, (h Index, tt)))))

-- a table's name differs from that of a text that none of them has
pub table-other : (q : PProgram) (t : List ℕ) → Has added_texts t → bytes_eq t operations_text ≡ false → bytes_eq t tasks_text ≡ false → bytes_eq t kinds_text ≡ false → bytes_eq t arguments_text ≡ false →
    bytes_eq t indices_text ≡ false → (column : Column) → ((added_id q t).0 == (table_name (control_ids q) column).0) ≡ false
table-other q t h a b c d e Operation = two-apart q t operations_text h refl a
table-other q t h a b c d e Task = two-apart q t tasks_text h refl b
table-other q t h a b c d e Kind = two-apart q t kinds_text h refl c
table-other q t h a b c d e Argument = two-apart q t arguments_text h refl d
table-other q t h a b c d e Index = two-apart q t indices_text h refl e
