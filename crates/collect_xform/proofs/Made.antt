-- A copy of a normal form whose parts became those of the collecting text is that text, and the text of a program is that of its normal form.
use Rattle.std.proofs.Common.{◌≡◌, ℕ, true, List, map, Result, Ok, Err, IfOk, OnOk, refl, sym, ap, ◌∙◌, subst}
use Rattle.ada_tree.specs.declared.shortage.Memory.{Memory}
use Rattle.ada_tree.specs.declared.whole.Program.{Program}
use Rattle.ada_tree.specs.PlainStmt.{plain_body}
use Rattle.ada_tree.specs.PlainDecl.{PDecl, plain_decl, decls_of}
use Rattle.ada_tree.specs.PlainProgram.{PProgram, plain_program}
use Rattle.ada_tree.specs.TypeTable.{TypeTable}
use Rattle.syn_event.specs.DeclaredTasks.{decl_list}
use Rattle.syn_event.specs.Numbering.{Numbering}
use Rattle.syn_event.proofs.DeclLists.{listed_back}
use Rattle.task_model.specs.Setting.{Setting}
use Rattle.normal_model.specs.NormalTree.{main_unit, normal_tree}
use Rattle.normal_model.specs.NormalNumbers.{normal_numbers}
use Rattle.replay_model.specs.ReplayTree.{normal_setting}
use Rattle.collect_model.specs.Names.{collect_names, with_added}
use Rattle.collect_model.specs.Teller.{Teller, teller_in}
use Rattle.collect_model.specs.CollectStmts.{main_body}
use Rattle.collect_model.specs.CollectTree.{collect_decls, collect_of}
use Rattle.collect_statements.specs.declared.reporter.Reporter.{Reporter}
use Rattle.collect_statements.specs.Looked.{teller_of}
use Rattle.collect_xform.specs.Looking.{AreTables}
use Rattle.collect_xform.proofs.Told.{teller-is}

-- ---- the text of a normal form

tables-are : (g : Setting) (names others : List (List ℕ)) (x : Reporter) → names ≡ others → AreTables g names x.tables.now → AreTables g others x.tables.now
tables-are g names others x same are = subst (λ ns. AreTables g ns x.tables.now) same are

-- by what main is told
composed :
    (v w : Teller) (q p : PProgram) (old new : PProgram) (ds : List PDecl) →
    v ≡ w → q ≡ p → old ≡ p →
    decls_of ds ≡ old.decls →
    new.names ≡ collect_names p → new.text_io ≡ true → new.name ≡ old.name →
    new.decls ≡ decls_of (collect_decls v q ds) →
    new.body ≡ main_body v old.body →
    new ≡ collect_of w p
composed v w q p old new ds told same copied listed names io name decls its = λ i. record {
  names = names i;
  text_io = io i;
  name = (name ∙ ap (λ (o : PProgram). o.name) copied) i;
  decls = all_decls i;
  body = (its ∙ (λ j. main_body (told j) (copied j).body)) i;
}
  where
    all_decls : new.decls ≡ decls_of (collect_decls w p (decl_list p.decls))
    all_decls =
        decls
        ∙ (λ j. decls_of (collect_decls (told j) (same j) ds))
        ∙ ap (λ l. decls_of (collect_decls w p l)) (sym (listed_back ds) ∙ ap decl_list listed ∙ ap (λ (o : PProgram). decl_list o.decls) copied)

-- `old` is the copy before it was changed, and `q` the program of which it is one
pub finished :
    (g : Setting) (x : Reporter) (q old new : Program) (names : List (List ℕ)) (done : Result (Unit {0}) Memory) →
    AreTables g names x.tables.now → x.numbers.now ≡ g.numbers → x.task ≡ 0 →
    plain_program q ≡ g.program →
    plain_program old ≡ g.program →
    names ≡ with_added old.names →
    OnOk done (new.names ≡ names) →
    OnOk done (new.text_io ≡ true) →
    OnOk done (new.name ≡ old.name) →
    OnOk done (map plain_decl new.decls.items ≡ collect_decls (teller_of x) (plain_program q) (map plain_decl old.decls.items)) →
    OnOk done (plain_body new.body ≡ main_body (teller_of x) (plain_body old.body)) →
    OnOk done (plain_program new ≡ collect_of (teller_in (main_unit g)) g.program)
finished g x q old new names (Err e) tables numbers task program copied are is_names is_io is_name is_decls is_body = tt
finished g x q old new names (Ok u) tables numbers task program copied are is_names is_io is_name is_decls is_body =
    let named : names ≡ collect_names g.program = are ∙ ap (λ (o : PProgram). with_added o.names) copied in
    composed (teller_of x) (teller_in (main_unit g)) (plain_program q) g.program (plain_program old) (plain_program new) (map plain_decl old.decls.items)
    (teller-is (main_unit g) x (tables-are g names (collect_names g.program) x named tables) numbers task)
    program copied refl
    (is_names ∙ named) is_io is_name (ap decls_of is_decls) is_body

-- ---- the text of a program

abbrev pub setting : PProgram → TypeTable → Numbering → Setting
setting q types numbers = record { program = q; types = types; numbers = numbers }

-- a normal form that was made, with its numbers
pub setting-is :
    (p q : PProgram) (types : TypeTable) (numbers renumbered : Numbering) →
    q ≡ normal_tree p types numbers →
    renumbered ≡ normal_numbers q numbers →
    setting q types renumbered ≡ normal_setting p types numbers
setting-is p q types numbers renumbered made numbered =
    let all = numbered ∙ ap (λ x. normal_numbers x numbers) made in
    λ i. record { program = made i; types = types; numbers = all i }

-- the text of one setting is that of another that is the same
pub same-text :
    {E : Type 0} (g h : Setting) (done : Result Program E) →
    g ≡ h →
    IfOk done (λ text. plain_program text ≡ collect_of (teller_in (main_unit g)) g.program) →
    IfOk done (λ text. plain_program text ≡ collect_of (teller_in (main_unit h)) h.program)
same-text g h (Err e) same step = tt
same-text g h (Ok text) same step = step ∙ ap (λ s. collect_of (teller_in (main_unit s)) s.program) same
