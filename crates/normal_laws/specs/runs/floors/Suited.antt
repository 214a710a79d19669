-- What is asked of a program and of the program that is made from it as its normal form, beside old names (9.1, 9.5; this project's rule): their
-- types and numbers agree, a call and an accept have what their entry asks for, and what is static is worth something.
use Rattle.std.specs.Prelude.{◌≡◌, ℕ, ℤ, Bool, true, false, List, [], ◌∷◌, Option, Some, None, is_some, is_ok, unwrap_or, Ok}
use Rattle.std.specs.List.{AllByRecursion}
use Rattle.ada_tree.specs.declared.naming.NameId.{NameId}
use Rattle.ada_tree.specs.declared.naming.Span.{Span}
use Rattle.ada_tree.specs.declared.static_types.Kind.{Kind}
use Rattle.ada_tree.specs.declared.statements.ParMode.{ParMode}
use Rattle.ada_tree.specs.declared.statements.ParMode.TheVariants.{Take, Give, Both}
use Rattle.ada_tree.specs.TypeTable.{TypeTable}
use Rattle.ada_static_rules.specs.StaticValue.{value_named}
use Rattle.ada_tree.specs.PlainExpr.{PExpr, EName, PSubind}
use Rattle.ada_tree.specs.PlainStmt.{PCallee, PArgs, PCall, PFormal, PHead, PAlt, PAlts, alt_then}
use Rattle.ada_tree.specs.PlainDecl.{OPlain, PDecl}
use Rattle.syn_event.specs.declared.numbering.TaskInfo.{TaskInfo}
use Rattle.syn_event.specs.Numbering.{task_named, entry_at}
use Rattle.ada_value.specs.declared.values.Value.{Value}
use Rattle.ada_value.specs.declared.values.Limits.{Limits}
use Rattle.ada_value.specs.declared.values.Form.{Form}
use Rattle.ada_value.specs.Values.{integer_limits, truth_limits, limits_named, lies_in, position_of}
use Rattle.ada_value.specs.Evaluating.{evaluated}
use Rattle.task_model.specs.Setting.{Setting, member_named, callee_task, entry_of, is_family, family_limits, member_index, formals_of_info}
use Rattle.task_model.specs.Starting.{form_of}
use Rattle.normal_model.specs.Names.{task_name_at}
use Rattle.normal_model.specs.Ranges.{marked, integer_subtype, truth_subtype, subtype_of_range, array_range, family_range}
use Rattle.normal_model.specs.Making.{moving}
use Rattle.normal_model.specs.Members.{index_literal, kind_of_index, members_of}
use Rattle.normal_model.specs.Calls.{Slot, entry_called, slots_called}
use Rattle.normal_model.specs.RewrittenUnit.{RewrittenUnit}
use Rattle.task_laws.specs.translation.Translations.{Programs, types_before, types_after, IsOld}
use Rattle.task_laws.specs.translation.OldTexts.{Asked}
use Rattle.task_laws.specs.translation.Scopes.{AgreeOnTypes}
use Rattle.task_laws.specs.translation.Fixed.{IsFixed, FixedExpr}

-- ---- subtypes

-- two subtypes have the same positions
abbrev pub SameRange : Limits → Limits → Type 0
SameRange l m = (z : ℤ) → lies_in l z ≡ lies_in m z

abbrev pub limits_of_form : Option Form → Limits
limits_of_form None = integer_limits
limits_of_form (Some form) = form.limits

-- the subtype of a variable that is declared so
abbrev pub declared_limits : TypeTable → PSubind → Limits
declared_limits types x = limits_of_form (form_of types (OPlain x))

-- the marks of formals are old names, and a variable of a formal's mark has the formal's subtype
pub data AreMarked (b : Programs) : List PFormal → Type 0 where
  none_marked : AreMarked b []
  marked_then : (f : PFormal) (rest : List PFormal) → IsOld b f.mark.name → limits_named (types_before b) f.mark.name ≡ declared_limits (types_after b) (marked f.mark) → AreMarked b rest → AreMarked b (f ∷ rest)

-- ---- the two programs

-- The types and numbers of the two programs agree, and the variables that are added have the subtypes of what goes to them.
pub record AreMade (b : Programs) : Type 0 where
  pub types : AgreeOnTypes b
  -- no variable has the name of a constant or of an enumeration literal
  pub statics : (id : NameId) → is_some (value_named (types_before b) id) ≡ true → IsFixed b id
  pub entries : b.made.numbers.entries ≡ b.original.numbers.entries
  pub formals : (e : ℕ) → formals_of_info b.original (entry_at b.original.numbers e) ≡ formals_of_info b.made (entry_at b.original.numbers e)
  pub marks : (e : ℕ) → AreMarked b (formals_of_info b.original (entry_at b.original.numbers e))
  pub families : (e : ℕ) → is_family b.original.numbers e ≡ true → (s : Span) →
      SameRange (family_limits (entry_at b.original.numbers e)) (declared_limits (types_after b) (subtype_of_range (types_before b) s (family_range b.original e)))
  pub truths : (s : Span) → SameRange truth_limits (declared_limits (types_after b) (truth_subtype s))
  pub integers : (s : Span) → SameRange integer_limits (declared_limits (types_after b) (integer_subtype s))

-- ---- callees

-- a task that a callee can come to: the one that is named, or the member at some index
pub data IsMeant (b : Programs) (callee : PCallee) (t : ℕ) : Type 0 where
  is_named : moving (types_before b) callee.index ≡ None → callee_task b.original [] callee ≡ Ok t → IsMeant b callee t
  is_member : (e : PExpr) (z : ℤ) → moving (types_before b) callee.index ≡ Some e → member_named b.original.numbers callee.name.name z ≡ Ok t → IsMeant b callee t

-- the literal of a member's index is worth that index
pub record IsLiteral (b : Programs) (k : Option Kind) (s : Span) (i : ℤ) : Type 0 where
  pub fixed : FixedExpr b (index_literal k s (Some i))
  pub value : Value
  pub worth : evaluated (types_after b) [] (index_literal k s (Some i)) ≡ Ok value
  pub position : position_of value ≡ i

abbrev pub HasLiteral : Programs → Option Kind → Span → TaskInfo → Type 0
HasLiteral b k s info = (i : ℤ) → info.member ≡ Some i → IsLiteral b k s i

-- A callee without index or with a static one names a task; one that is chosen has a variable of its array's range. Each task that it can come to is
-- found by its own name in the program that is made.
pub record IsCallee (b : Programs) (callee : PCallee) : Type 0 where
  pub known : moving (types_before b) callee.index ≡ None → (t : ℕ) × (callee_task b.original [] callee ≡ Ok t)
  pub named : (t : ℕ) → IsMeant b callee t → task_named b.made.numbers (task_name_at b.original t) ≡ Some t
  pub range : (e : PExpr) → moving (types_before b) callee.index ≡ Some e → (s : Span) (z : ℤ) →
      lies_in (declared_limits (types_after b) (subtype_of_range (types_before b) s (array_range b.original.program callee.name.name))) z
      ≡ is_ok (member_named b.original.numbers callee.name.name z)
  pub literals : (e : PExpr) → moving (types_before b) callee.index ≡ Some e → (s : Span) →
      AllByRecursion (HasLiteral b (kind_of_index (types_before b) (array_range b.original.program callee.name.name)) s) (members_of b.original callee.name.name)

-- ---- calls

-- the index and the actuals of a call, of a family where the truth value is true
pub data HasLists : Bool → Option PArgs → Option PExpr → List PExpr → Type 0 where
  no_lists : HasLists false None None []
  plain_lists : (args : PArgs) → HasLists false (Some args) None args.first
  family_lists : (e : PExpr) (second : Option (List PExpr)) → HasLists true (Some record { first = e ∷ []; second = second }) (Some e) (unwrap_or second [])

-- an actual whose value comes back is a variable of an old name
pub data IsCopied (b : Programs) : ParMode → PExpr → Type 0 where
  only_taken : (e : PExpr) → IsCopied b Take e
  given_back : (id : NameId) (s : Span) → IsOld b id → IsCopied b Give (EName id s)
  both_ways : (id : NameId) (s : Span) → IsOld b id → IsCopied b Both (EName id s)

-- one actual for each formal, of its mode
pub data AreCopied (b : Programs) : List Slot → List PExpr → Type 0 where
  none_copied : AreCopied b [] []
  copied_then : (x : Slot) (xs : List Slot) (e : PExpr) (es : List PExpr) → IsCopied b x.mode e → AreCopied b xs es → AreCopied b (x ∷ xs) (e ∷ es)

-- an entry is as another one: a family or not, with the same range and the same formals
pub record AreTwins (g : Setting) (e f : ℕ) : Type 0 where
  pub family : is_family g.numbers f ≡ is_family g.numbers e
  pub range : family_range g f ≡ family_range g e
  pub formals : formals_of_info g (entry_at g.numbers f) ≡ formals_of_info g (entry_at g.numbers e)

-- A call has the lists of its entry, and each task that its callee can come to has such an entry of that name.
pub record IsCall (b : Programs) (c : PCall) : Type 0 where
  pub callee : IsCallee b c.task
  pub index : Option PExpr
  pub actuals : List PExpr
  pub lists : HasLists (is_family b.original.numbers (entry_called b.original c)) c.args index actuals
  pub copies : AreCopied b (slots_called b.original c) actuals
  pub entries : (t : ℕ) → IsMeant b c.task t → AreTwins b.original (entry_called b.original c) (entry_of b.original.numbers t c.entry.name)

-- ---- accepts

-- The head of an accept in a unit that is rewritten by the number of one task, for a task of another number that runs it: only a family has an index,
-- and one that stays is in its range.
pub record IsHead (b : Programs) (first number : ℕ) (h : PHead) : Type 0 where
  pub family : (e : PExpr) → h.index ≡ Some e → is_family b.original.numbers (entry_of b.original.numbers number h.entry.name) ≡ true
  pub range : family_range b.original (entry_of b.original.numbers first h.entry.name) ≡ family_range b.original (entry_of b.original.numbers number h.entry.name)
  pub known : moving (types_before b) h.index ≡ None → (z : ℤ) × (member_index b.original [] (entry_of b.original.numbers number h.entry.name) h.index ≡ Ok z)

-- ---- waits

-- a wait has an alternative (9.7.1)
pub data HasAlternative : PAlts → Type 0 where
  has_alternative : (x : PAlt) (rest : PAlts) → HasAlternative (alt_then x rest)

-- ---- units

-- A unit as it is rewritten and run: the two programs, the number of the task by which it is rewritten, that of a task that runs it, and the
-- variables that it gets.
pub record Rewritten : Type 0 where
  pub programs : Programs
  pub first : ℕ
  pub number : ℕ
  pub vars : List PDecl

-- the unit of a task of the original
abbrev pub unit_in : Programs → ℕ → RewrittenUnit
unit_in b t = record { setting = b.original; task = t }

-- the unit as the rewriter has it
abbrev pub rewritten_unit : Rewritten → RewrittenUnit
rewritten_unit w = unit_in w.programs w.first

-- what is asked of the calls, callees, accepts and waits in it
abbrev pub asked_of : Rewritten → Asked
asked_of w = record { programs = w.programs; call = IsCall w.programs; callee = IsCallee w.programs; head = IsHead w.programs w.first w.number; wait = HasAlternative }
