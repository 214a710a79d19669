-- A normal form as the lemma of all places asks, and the operations of a controller.
--
-- procedure P is task T is entry E; end T; task body T is begin accept E; end T; begin T.E; end P;
use Rattle.std.proofs.Common.{◌≡◌, ℕ, pos, negsuc, nat_lt, ◌-◌, Bool, true, false, ◌==◌, if◌then◌else◌, List, [], ◌∷◌, ◌++◌, slice_get, unwrap_or, Option, Some, None, codes, refl, sym, ap, subst, arith}
use Rattle.std.specs.List.{AllByRecursion}
use Rattle.std.proofs.lemmas.List.Elements.{All-from_recursion}
use Rattle.common_lemmas.proofs.Lists.{holds_at}
use Rattle.ada_tree.specs.declared.naming.NameId.{NameId}
use Rattle.ada_tree.specs.declared.naming.Span.{Span}
use Rattle.ada_tree.specs.declared.naming.Word.{Word}
use Rattle.ada_tree.specs.declared.static_types.Kind.TheVariants.{Integer}
use Rattle.ada_tree.specs.declared.static_types.Mark.{Mark}
use Rattle.ada_tree.specs.NameList.{predefined}
use Rattle.ada_tree.specs.PlainStmt.{PCall, PHead, SCall, SAccept, no_stmt, stmt_then, absent, accepting, PBody, body, no_handler}
use Rattle.ada_tree.specs.PlainDecl.{PEntry, PTask, DTask, DTaskBody, no_decl, decls_of}
use Rattle.ada_tree.specs.PlainProgram.{PProgram}
use Rattle.ada_tree.specs.Every.{EveryEntry, EveryFormal, EveryPriority, EveryTask}
use Rattle.ada_static_rules.specs.Scope.{Scope, NameMeaning, Family, single, EntryPart, Thing, TypeMark, MainProcedure, mark_at, and_then, meaning, entry_named}
use Rattle.ada_static_rules.specs.Declaring.{first_mark, predefined_types, predefined_names, first_scope, after_decls, in_body, inner_scope}
use Rattle.ada_static_rules.specs.RuleArgCount.{called_entry}
use Rattle.ada_static_rules.specs.Demand.{Demand, declares_entry, accepts, addresses, calls}
use Rattle.ada_static_rules.specs.Sites.{site, sites}
use Rattle.syn_event.specs.declared.numbering.EntryInfo.{EntryInfo}
use Rattle.syn_event.specs.Numbering.{Numbering, task_named}
use Rattle.task_model.specs.Setting.{Setting, entry_of, is_family_in, is_family}
use Rattle.control_script.specs.declared.Op.{Op}
use Rattle.control_script.specs.declared.Op.TheVariants.{Go, Done, Join, Hold}
use Rattle.ada_static_rules.specs.StaticValue.{value_named, mark_named}
use Rattle.task_laws.specs.legal.rewritten_types.Agreement.{IsScalar}
use Rattle.task_laws.proofs.legal.rewritten_types.Owning.{whole-first}
use Rattle.normal_model.specs.Ranges.{kind_name}
use Rattle.normal_model.specs.NormalTree.{main_unit, unit_for}
use Rattle.normal_laws.specs.structure.checked.Around.{own_rules}
use Rattle.task_laws.specs.legal.asked.Asked.{AskedBody}
use Rattle.task_laws.specs.legal.alike_scopes.Alike.{no_thing, a_task, no_values, SameNames}
use Rattle.task_laws.specs.legal.alike_scopes.Laws.{IsMetBut}
use Rattle.task_laws.proofs.legal.alike_scopes.Tables.{types-self}
use Rattle.task_laws.proofs.legal.alike_scopes.Examples.{Self, meant, all_self}
use Rattle.normal_laws.proofs.structure.typed.Places.{met-declares}
use Rattle.normal_laws.proofs.structure.typed.Scopes.{IsNoTask, not-called}
use Rattle.replay_model.specs.declared.tables.columns.Column.{Column}
use Rattle.replay_model.specs.declared.tables.columns.Column.TheVariants.{Operation, Task, Kind, Argument, Index}
use Rattle.replay_model.specs.Names.{kind_text, argument_text, index_text, added_id}
use Rattle.replay_model.specs.tables.Columns.{table_name}
use Rattle.replay_model.specs.Controlling.{control_ids}
use Rattle.replay_model.specs.ReplayTree.{replay_of}
use Rattle.replay_structure.specs.typed.Controller.{IsInteger}
use Rattle.replay_structure.specs.typed.ScopeOf.{IsEntryOf, form_asks}
use Rattle.replay_structure.specs.scopes.More.{is_single, AreDoubled, IsReady}
use Rattle.replay_structure.specs.scopes.Form.{AreNamesApart, AreAddedNames, IsUnitForm, IsBodyForm, IsForm}
use Rattle.replay_structure.proofs.scopes.Whole.{text-met}
use Rattle.normal_laws.proofs.structure.placed.Made.{among}

-- ---- the program

abbrev nowhere : Span
nowhere = record { start = 0; end = 0 }

abbrev w : ℕ → Word
w id = record { name = record { 0 = id }; span = nowhere }

abbrev the_entry : PEntry
the_entry = record { name = w 27; family = None; formals = []; span = nowhere }

abbrev the_task : PTask
the_task = record { name = w 26; of_kind = false; entries = the_entry ∷ []; priorities = [] }

abbrev the_head : PHead
the_head = record { entry = w 27; index = None; formals = []; span = nowhere }

abbrev task_body : PBody
task_body = body (stmt_then (SAccept (accepting the_head absent) nowhere) no_stmt) no_handler

abbrev the_call : PCall
the_call = record { task = record { name = w 26; index = None }; entry = w 27; args = None }

abbrev main_body : PBody
main_body = body (stmt_then (SCall the_call nowhere) no_stmt) no_handler

abbrev q : PProgram
q = record {
  names = predefined ++ (codes "P" ∷ codes "T" ∷ codes "E" ∷ []);
  text_io = false;
  name = w 25;
  decls = decls_of (DTask the_task nowhere ∷ DTaskBody (w 26) no_decl task_body nowhere ∷ []);
  body = main_body;
}

abbrev the_numbers : Numbering
the_numbers = record {
  main = record { 0 = 25 };
  tasks = record { name = record { 0 = 25 }; added = false; unit = record { 0 = 25 }; member = None } ∷ record { name = record { 0 = 26 }; added = false; unit = record { 0 = 26 }; member = None } ∷ [];
  entries = record { name = record { 0 = 27 }; owner = 1; family = false; first = pos 0; last = pos 0; added = false; stands_for = None } ∷ [];
}

abbrev g : Setting
g = record { program = q; types = predefined_types; numbers = the_numbers }

-- the names of the program are old, and no name is declared by an accept or a loop
abbrev old : ℕ → Bool
old n = nat_lt n 28

abbrev inner : ℕ → Bool
inner n = false

-- main calls the entry, and its task ends
abbrev ops : List Op
ops = Go 0 1 1 (pos 0) ∷ Done 0 ∷ Join 1 ∷ Hold ∷ []

-- ---- names

kinds-old : (j : ℕ) → old (kind_name predefined_types j).0 ≡ true
kinds-old j = by_tests (0 == j) (1 == j)
  where
    of_mark : Option Mark → NameId
    of_mark o = unwrap_or (and_then (λ m. m.name) o) (record { 0 = 0 })

    by_tests : (a b : Bool) →
        old (of_mark (if a then Some (first_mark 0 0 (negsuc 2147483647) (pos 2147483647)) else if a then Some (first_mark 1 0 (pos 0) (pos 2147483647)) else if a then Some (first_mark 2 0 (pos 1) (pos 2147483647)) else if b then Some (first_mark 3 1 (pos 0) (pos 1)) else None)).0 ≡ true
    by_tests true b = refl
    by_tests false true = refl
    by_tests false false = refl

tables-new : (column : Column) → old (table_name (control_ids q) column).0 ≡ false
tables-new Operation = refl
tables-new Task = refl
tables-new Kind = refl
tables-new Argument = refl
tables-new Index = refl

names : AreNamesApart g old inner
names = record {
  outer = record { kind = refl; argument = refl; index = refl; control = refl; idle = refl; falses = refl };
  entries = record { never = refl; join = refl; other = refl };
  permits = record { kind = refl; argument = refl; index = refl };
  tables = record { tables = tables-new; counter = refl };
  zero = refl;
  falses = refl;
  kinds = kinds-old;
  control = refl;
  idle = refl;
  control_other = record { kind = refl; argument = refl; index = refl };
  idle_other = record { kind = refl; argument = refl; index = refl };
}

added : AreAddedNames q old
added = record { entries = record { go_done = refl; go_hold = refl; done_hold = refl; stop_rest = refl }; tasking = refl; tasks = refl }

-- ---- scopes

abbrev c1 : Scope
c1 = first_scope (w 25)

abbrev c3 : Scope
c3 = after_decls c1 (decls_of (DTask the_task nowhere ∷ []))

abbrev c4 : Scope
c4 = after_decls c3 (decls_of (DTaskBody (w 26) no_decl task_body nowhere ∷ []))

nothing : Self None
nothing = no_values (no_thing refl) (no_thing refl)

abbrev the_part : EntryPart
the_part = record { name = record { 0 = 27 }; family = single; formals = [] }

self1 : SameNames old c1 c1
self1 = record { types = types-self old predefined_types (whole-first (w 25)); things = λ id o. meant Self c1.names id nothing (all_self.1) }

self3 : SameNames old c3 c3
self3 = record {
  types = types-self old predefined_types (whole-first (w 25));
  things = λ id o. meant Self c3.names id nothing (no_values (a_task (the_part ∷ []) refl) (a_task (the_part ∷ []) refl), all_self.1);
}

integer : (c : Scope) → c.types ≡ predefined_types → meaning c (record { 0 = 0 }) ≡ Some (TypeMark 0) → IsInteger c
integer c e m = record {
  its = record {
    place = 0;
    mark = its;
    means = m;
    there = subst (λ T. mark_at T 0 ≡ Some its) (sym e) refl;
    kind = refl;
    scalar = subst (λ T. IsScalar T 0) (sym e) (Integer, refl);
    named = subst (λ T. mark_named T record { 0 = 0 } ≡ Some its) (sym e) refl;
    first = refl;
  };
  last = refl;
}
  where
    its : Mark
    its = first_mark 0 0 (negsuc 2147483647) (pos 2147483647)

ready : (c : Scope) → c.types ≡ predefined_types → meaning c (record { 0 = 0 }) ≡ Some (TypeMark 0) → IsReady q old c
ready c e m = record {
  integer = integer c e m;
  kind = subst (λ T. value_named T (added_id q kind_text) ≡ None) (sym e) refl;
  argument = subst (λ T. value_named T (added_id q argument_text) ≡ None) (sym e) refl;
  index = subst (λ T. value_named T (added_id q index_text) ≡ None) (sym e) refl;
}

-- ---- entries and numbers

-- no entry is a family
no-family : (e : ℕ) → is_family the_numbers e ≡ false
no-family e = by_test (e == 0)
  where
    by_info : (o : Option EntryInfo) (k : ℕ) → slice_get the_numbers.entries k ≡ o → is_family_in o ≡ false
    by_info None k f = refl
    by_info (Some x) k f = holds_at (λ (y : EntryInfo). y.family ≡ false) the_numbers.entries k x f (refl, tt)

    by_test : (b : Bool) → is_family_in (if b then None else slice_get the_numbers.entries (e - 1)) ≡ false
    by_test true = refl
    by_test false = by_info (slice_get the_numbers.entries (e - 1)) (e - 1) refl

-- each entry that can be called is a plain one
abbrev IsPlainlyCalled : Option Thing → Type 0
IsPlainlyCalled o = (name : NameId) (part : EntryPart) → called_entry o name ≡ Some part → part.family ≡ single

not-a-task : (x : Thing) → IsNoTask (Some x) → IsPlainlyCalled (Some x)
not-a-task x n name part e = absurd (not-called (Some x) name part n e)

no-tasks : (xs : List NameMeaning) → AllByRecursion (λ (x : NameMeaning). IsNoTask (Some x.thing)) xs → AllByRecursion (λ (x : NameMeaning). IsPlainlyCalled (Some x.thing)) xs
no-tasks [] h = tt
no-tasks (x ∷ xs) h = (not-a-task x.thing h.0, no-tasks xs h.1)

one-entry : (name : NameId) (part : EntryPart) → entry_named (the_part ∷ []) name ≡ Some part → part.family ≡ single
one-entry name part e = by_test (27 == name.0) e
  where
    by_test : (b : Bool) → (if b then Some the_part else None) ≡ Some part → part.family ≡ single
    by_test true f = let p : the_part ≡ part = cc in sym (ap (λ (x : EntryPart). x.family) p)
    by_test false f = cc

main-called : IsPlainlyCalled (Some MainProcedure)
main-called name part e = cc

none-called : IsPlainlyCalled None
none-called name part e = cc

plainly : (id name : NameId) (part : EntryPart) → called_entry (meaning c3 id) name ≡ Some part → part.family ≡ single
plainly id =
    meant IsPlainlyCalled c3.names id none-called
    (one-entry, (main-called, no-tasks predefined_names (tt, (tt, (tt, (tt, (tt, (tt, (tt, (tt, (tt, (tt, (tt, (tt, (tt, (tt, (tt, (tt, (tt, (tt, tt))))))))))))))))))))

plain-entry : (c : Scope) (e : ℕ) (fam : Family) → fam ≡ single → IsEntryOf g inner c e fam
plain-entry c e fam h = subst (IsEntryOf g inner c e) (sym h) (no-family e)

-- ---- the task

abbrev IsMetHere : Scope → Demand → Type 0
IsMetHere c x = IsMetBut (site c x)

entries-named : AreDoubled q old (the_entry ∷ [])
entries-named = record {
  named = (refl, tt);
  added = (refl, tt);
  apart = λ x y i j e.
      among (λ (z : PEntry). z.name.name.0 ≡ y.name.name.0) x (the_entry ∷ []) i (among (λ (z : PEntry). 27 ≡ z.name.name.0) y (the_entry ∷ []) j (refl, tt), tt);
  never = (refl, tt);
  join = (refl, tt);
}

every-task : EveryTask (own_rules old) the_task
every-task = (
  refl,
  All-from_recursion (EveryEntry (own_rules old)) (the_entry ∷ []) ((tt, refl, tt, All-from_recursion (EveryFormal (own_rules old)) [] tt), tt),
  All-from_recursion (EveryPriority (own_rules old)) [] tt,
  tt,
)

entry-met : IsMetHere c1 (declares_entry [] (w 27))
entry-met = record { known = refl; matched = refl; static = refl; ranged = refl; variable = refl; readable = refl; counted = refl; chosen = refl; arrays = refl; texts = refl; exceptions = refl }

-- ---- the body of the task

abbrev c_body : Scope
c_body = inner_scope (in_body c3 (w 26))

accept-met : IsMetHere c_body (accepts the_head)
accept-met = record { known = refl; matched = refl; static = refl; ranged = refl; variable = refl; readable = refl; counted = refl; chosen = refl; arrays = refl; texts = refl; exceptions = refl }

body-asked : AskedBody (form_asks old inner) (tt, c_body) 1 task_body
body-asked = (
  (
    (omega arith, tt),
    (((tt, (refl, tt, All-from_recursion (EveryFormal (own_rules old)) [] tt)), ((accept-met, tt), refl, tt)), tt),
    tt,
  ),
  (tt, tt),
  tt,
)

body-unit-form : IsUnitForm (unit_for g record { 0 = 26 }) old inner c_body
body-unit-form = record {
  self = record { types = self3.types; things = self3.things };
  falses = refl;
  called = λ id name part e. plain-entry c_body (entry_of the_numbers (unwrap_or (task_named the_numbers id) 0) name) part.family (plainly id name part e);
  accepted = λ name part e. plain-entry c_body (entry_of the_numbers (unit_for g record { 0 = 26 }).task name) part.family (one-entry name part e);
}

body-form : IsBodyForm g old inner c3 (w 26) no_decl task_body
body-form = record {
  entries = the_part ∷ [];
  means = refl;
  named = refl;
  ready = ready (in_body c3 (w 26)) refl refl;
  owns = tt;
  inits = tt;
  selfs = tt;
  sites = tt;
  form = body-unit-form;
  asked = body-asked;
}

-- ---- main

callee-met : IsMetHere (inner_scope c4) (addresses the_call.task)
callee-met = record { known = refl; matched = refl; static = refl; ranged = refl; variable = refl; readable = refl; counted = refl; chosen = refl; arrays = refl; texts = refl; exceptions = refl }

call-met : IsMetHere (inner_scope c4) (calls the_call)
call-met = record { known = refl; matched = refl; static = refl; ranged = refl; variable = refl; readable = refl; counted = refl; chosen = refl; arrays = refl; texts = refl; exceptions = refl }

main-asked : AskedBody (form_asks old inner) (tt, inner_scope c4) 1 main_body
main-asked = (
  (
    (omega arith, tt),
    ((tt, tt), ((refl, tt), ((callee-met, tt), (the_part ∷ [], refl))), ((refl, tt), (call-met, tt))),
    tt,
  ),
  (tt, tt),
  tt,
)

main-form : IsUnitForm (main_unit g) old inner (inner_scope c4)
main-form = record {
  self = record { types = self3.types; things = self3.things };
  falses = refl;
  called = λ id name part e. plain-entry (inner_scope c4) (entry_of the_numbers (unwrap_or (task_named the_numbers id) 0) name) part.family (plainly id name part e);
  accepted = λ name part e. cc;
}

-- ---- the whole

form : IsForm g old inner ops [] []
form = record {
  plain = refl;
  front = tt;
  unseen = λ id o. meant (λ x. is_single x ≡ false) c1.names id refl (refl, (refl, (refl, (refl, (refl, (refl, (refl, (refl, (refl, (refl, (refl, (refl, (refl, (refl, (refl, (refl, (refl, (refl, (refl, tt)))))))))))))))))));
  firsts_met = tt;
  variables = tt;
  along = (self1, ready c1 refl refl);
  variables_met = tt;
  tasks = ((refl, (record { family = tt; formals = tt }, tt), entries-named), tt);
  every = (every-task, tt);
  tasks_met = ((met-declares c1 true (w 26), (entry-met, tt)), tt);
  integer = integer c3 refl refl;
  bodies = (body-form, tt);
  integer_last = integer c4 refl refl;
  tasking = refl;
  form = main-form;
  asked = main-asked;
  ops_form = ((omega arith, omega arith, omega arith, omega arith), (omega arith, (omega arith, (tt, tt))));
  few_tasks = omega arith;
  single = ((refl, (the_part ∷ [], refl)), tt);
}

-- So nothing is refused in the replay text of this program with these operations.
pub met : AllByRecursion IsMetBut (sites (replay_of g ops))
met = text-met g old inner names added ops [] [] form
