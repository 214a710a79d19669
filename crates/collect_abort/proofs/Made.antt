-- A copy of a normal form whose parts became those of the collecting text is that text, and the text of a program is that of its normal form.
use Rattle.std.proofs.Common.{◌≡◌, ℕ, true, List, length, map, take, Result, Ok, Err, IfOk, OnOk, refl, sym, ap, ◌∙◌, subst}
use Rattle.std.specs.Result.{IsErrAnd}
use Rattle.ada_tree.specs.declared.shortage.Memory.{Memory}
use Rattle.ada_tree.specs.declared.whole.Program.{Program}
use Rattle.ada_tree.specs.PlainStmt.{plain_body}
use Rattle.ada_tree.specs.PlainDecl.{PDecl, plain_decl, decls_of}
use Rattle.ada_tree.specs.PlainProgram.{PProgram, plain_program}
use Rattle.ada_tree.specs.TypeTable.{TypeTable}
use Rattle.syn_event.specs.DeclaredTasks.{decl_list}
use Rattle.syn_event.specs.Numbering.{Numbering}
use Rattle.syn_event.proofs.DeclLists.{listed_back}
use Rattle.task_model.specs.Setting.{Setting}
use Rattle.normal_model.specs.Names.{id_of}
use Rattle.normal_model.specs.NormalTree.{main_unit}
use Rattle.collect_xform.specs.Looking.{AreTables}
use Rattle.collect_model.specs.aborts.Names.{acceptors_text, each_text, with_recorded, with_places}
use Rattle.collect_model.specs.aborts.Places.{most_places}
use Rattle.collect_model.specs.aborts.AbortTeller.{AbortTeller, told_in, names_told}
use Rattle.collect_model.specs.aborts.AbortStmts.{main_body}
use Rattle.collect_model.specs.aborts.AbortTree.{abort_decls, abort_of, abort_tree}
use Rattle.collect_abort.specs.declared.teller.AbortReporter.{AbortReporter}
use Rattle.collect_abort.specs.Looked.{told_of}
use Rattle.collect_abort.proofs.Named.{begins-collected}
use Rattle.collect_abort.proofs.Told.{teller-is}

-- ---- the text of a normal form

tables-are : (g : Setting) (names others : List (List ℕ)) (x : AbortReporter) → names ≡ others → AreTables g names x.reporter.tables.now → AreTables g others x.reporter.tables.now
tables-are g names others x same are = subst (λ ns. AreTables g ns x.reporter.tables.now) same are

-- by what main is told
composed :
    (v w : AbortTeller) (q p : PProgram) (old new : PProgram) (ds : List PDecl) →
    v ≡ w → q ≡ p → old ≡ p →
    decls_of ds ≡ old.decls →
    new.names ≡ names_told p → new.text_io ≡ true → new.name ≡ old.name →
    new.decls ≡ decls_of (abort_decls v q ds) →
    new.body ≡ main_body v old.body →
    new ≡ abort_of w p
composed v w q p old new ds told same copied listed names io name decls its = λ i. record {
  names = names i;
  text_io = io i;
  name = (name ∙ ap (λ (o : PProgram). o.name) copied) i;
  decls = all_decls i;
  body = (its ∙ (λ j. main_body (told j) (copied j).body)) i;
}
  where
    all_decls : new.decls ≡ decls_of (abort_decls w p (decl_list p.decls))
    all_decls =
        decls
        ∙ (λ j. decls_of (abort_decls (told j) (same j) ds))
        ∙ ap (λ l. decls_of (abort_decls w p l)) (sym (listed_back ds) ∙ ap decl_list listed ∙ ap (λ (o : PProgram). decl_list o.decls) copied)

-- `old` is the copy before it was changed, and `q` the program of which it is one
pub finished :
    (g : Setting) (x : AbortReporter) (q old new : Program) (most : ℕ) (names : List (List ℕ)) (done : Result (Unit {0}) Memory) →
    AreTables g names x.reporter.tables.now → x.reporter.numbers.now ≡ g.numbers → x.reporter.task ≡ 0 →
    x.names.now ≡ names → x.acceptors ≡ id_of names acceptors_text → x.each ≡ id_of names each_text →
    plain_program q ≡ g.program →
    plain_program old ≡ g.program →
    most ≡ most_places (plain_program q) →
    names ≡ with_places (with_recorded old.names) most →
    OnOk done (new.names ≡ names) →
    OnOk done (new.text_io ≡ true) →
    OnOk done (new.name ≡ old.name) →
    OnOk done (map plain_decl new.decls.items ≡ abort_decls (told_of x) (plain_program q) (map plain_decl old.decls.items)) →
    OnOk done (plain_body new.body ≡ main_body (told_of x) (plain_body old.body)) →
    OnOk done (plain_program new ≡ abort_of (told_in (main_unit g)) g.program)
finished g x q old new most names (Err e) tables numbers task found acceptors each program copied counted are is_names is_io is_name is_decls is_body = tt
finished g x q old new most names (Ok u) tables numbers task found acceptors each program copied counted are is_names is_io is_name is_decls is_body =
    let named : names ≡ names_told g.program = are ∙ (λ i. with_places (with_recorded (copied i).names) ((counted ∙ ap most_places program) i)) in
    composed (told_of x) (told_in (main_unit g)) (plain_program q) g.program (plain_program old) (plain_program new) (map plain_decl old.decls.items)
    (teller-is (main_unit g) x (tables-are g names (names_told g.program) x named tables) numbers task (found ∙ named)
    (acceptors ∙ ap (λ ns. id_of ns acceptors_text) named) (each ∙ ap (λ ns. id_of ns each_text) named))
    program copied refl
    (is_names ∙ named) is_io is_name (ap decls_of is_decls) is_body

-- ---- the text of a program

-- the text of one setting is that of another that is the same
pub same-text :
    {E : Type 0} (g h : Setting) (done : Result Program E) →
    g ≡ h →
    IfOk done (λ text. plain_program text ≡ abort_of (told_in (main_unit g)) g.program) →
    IfOk done (λ text. plain_program text ≡ abort_of (told_in (main_unit h)) h.program)
same-text g h (Err e) same step = tt
same-text g h (Ok text) same step = step ∙ ap (λ s. abort_of (told_in (main_unit s)) s.program) same

-- the names of a text that was made begin with those of the program
pub begins :
    (p : PProgram) (types : TypeTable) (numbers : Numbering) (done : Result Program Memory) →
    IfOk done (λ text. plain_program text ≡ abort_tree p types numbers) →
    IfOk done (λ text. take (length p.names) text.names ≡ p.names)
begins p types numbers (Err e) made = tt
begins p types numbers (Ok text) made = ap (λ (q : PProgram). take (length p.names) q.names) made ∙ begins-collected p types numbers

-- nothing is asked of what has failed
pub failed : (A : Type 0) (done : Result (Unit {0}) Memory) (P : Memory → Type 0) → IsErrAnd done P → OnOk done A
failed A (Err e) P is = tt
failed A (Ok u) P is = absurd is
