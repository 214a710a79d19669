-- A program of these parts is the normal form.
use Rattle.std.proofs.Common.{◌≡◌, ℕ, max, List, [], ◌++◌, Vec, Global, length, flat_map, map, Result, Ok, Err, IfOk, OnOk, sym, ap, subst, ◌∙◌, append_assoc}
use Rattle.std.proofs.lemmas.List.{length-map, map-append}
use Rattle.ada_tree.specs.TypeTable.{TypeTable}
use Rattle.ada_tree.specs.declared.declarations.Decl.{Decl}
use Rattle.ada_tree.specs.declared.whole.Program.{Program}
use Rattle.ada_tree.specs.PlainStmt.{PBody}
use Rattle.ada_tree.specs.PlainDecl.{PDecl, decls_of, plain_decl}
use Rattle.ada_tree.specs.PlainProgram.{PProgram, plain_program}
use Rattle.ada_stmt_copy.specs.expressions.Parts.{OkWith}
use Rattle.syn_event.specs.Numbering.{Numbering}
use Rattle.syn_event.specs.DeclaredTasks.{decl_list}
use Rattle.task_model.specs.Setting.{Setting}
use Rattle.normal_model.specs.Names.{normal_names}
use Rattle.normal_model.specs.NormalStmts.{normal_body}
use Rattle.normal_model.specs.NormalTree.{bodies_of, first_decls, greatest, main_unit, main_variables, normal_decls, normal_tree, task_declared, tasks_beside, variables_needed, variables_of_body}
use Rattle.normal_lookups.specs.declared.names.names.NormalNames.{NormalNames}
use Rattle.normal_lookups.specs.names.SoFar.{AreNamesOf}
use Rattle.normal_form.specs.inner.Whole.{all_decls, named_behind}
use Rattle.syn_event.proofs.DeclLists.{listed_back}
use Rattle.normal_model.proofs.WalkLemmas.{listed-front}

decls_are : (g : Setting) → decls_of (all_decls g (main_variables g)) ≡ normal_decls g
decls_are g = listed-front (first_decls [] g.program.decls) _

pub whole_is : (g : Setting) (names : List (List ℕ)) (named : ℕ) (decls : List PDecl) (its : PBody) (vars : List PDecl) →
    names ≡ normal_names g named → named ≡ named_behind g (length vars) → decls ≡ all_decls g vars → vars ≡ main_variables g → its ≡ normal_body (main_unit g) g.program.body →
    (let made : PProgram = record { names = names; text_io = g.program.text_io; name = g.program.name; decls = decls_of decls; body = its } in made) ≡ normal_tree g.program g.types g.numbers
whole_is g names named decls its vars texts count all mine statements =
    ap (λ l. record { names = l; text_io = g.program.text_io; name = g.program.name; decls = decls_of decls; body = its }) (texts ∙ ap (normal_names g) (count ∙ ap (λ l. named_behind g (length l)) mine))
    ∙ ap (λ l. record { names = normal_names g (variables_needed g); text_io = g.program.text_io; name = g.program.name; decls = l; body = its }) (ap decls_of (all ∙ ap (all_decls g) mine) ∙ decls_are g)
    ∙ ap (λ l. record { names = normal_names g (variables_needed g); text_io = g.program.text_io; name = g.program.name; decls = normal_decls g; body = l }) statements

-- ---- the declarations

-- the declarations of the program
pub row_is : (g : Setting) (p : PProgram) (ds : List PDecl) → p ≡ g.program → p.decls ≡ decls_of ds → g.program.decls ≡ decls_of ds
row_is g p ds same row = ap (λ q. q.decls) (sym same) ∙ row

-- a list that goes behind another one
pub appended : (before more after vars : List Decl) → after ≡ before ++ more → more ≡ vars → map plain_decl after ≡ map plain_decl before ++ map plain_decl vars
appended before more after vars joined same = ap (map plain_decl) (joined ∙ ap (λ l. before ++ l) same) ∙ map-append plain_decl before vars

-- the parts that were put one behind the other are all
pub filled : {T E : Type 0} (g : Setting) (ds again : List PDecl) (begun firsts mine tasks all vars : List PDecl) (r : Result T E) → g.program.decls ≡ decls_of ds → again ≡ ds →
    firsts ≡ begun ++ decl_list (first_decls [] (decls_of ds)) → mine ≡ firsts ++ vars → tasks ≡ mine ++ flat_map (task_declared g) (tasks_beside g) → OnOk r (all ≡ tasks ++ flat_map (bodies_of g) again) →
    OnOk r (all ≡ begun ++ all_decls g vars)
filled g ds again begun firsts mine tasks all vars (Err e) row same a b c h = tt
filled g ds again begun firsts mine tasks all vars (Ok u) row same a b c h =
    let one = decl_list (first_decls [] g.program.decls) in
    let three = flat_map (task_declared g) (tasks_beside g) in
    let four = flat_map (bodies_of g) (decl_list g.program.decls) in
    h
    ∙ ap (λ l. tasks ++ flat_map (bodies_of g) l) (same ∙ sym (listed_back ds) ∙ ap decl_list (sym row))
    ∙ ap (λ l. l ++ four) (c ∙ ap (λ l. l ++ three) (b ∙ ap (λ l. l ++ vars) (a ∙ ap (λ d. begun ++ decl_list (first_decls [] d)) (sym row))))
    ∙ joined begun one vars three four
  where
    joined : (a b c d e : List PDecl) → (((a ++ b) ++ c) ++ d) ++ e ≡ a ++ (b ++ (c ++ d ++ e))
    joined a b c d e = simp append_assoc

-- how many variables have names behind them
pub counted : {T E : Type 0} (g : Setting) (ds : List PDecl) (begun before behind : ℕ) (r : Result T E) → g.program.decls ≡ decls_of ds → before ≡ begun →
    OnOk r (behind ≡ max before (greatest (map (variables_of_body g) ds))) → OnOk r (behind ≡ named_behind g begun)
counted g ds begun before behind (Err e) row same h = tt
counted g ds begun before behind (Ok u) row same h =
    h ∙ ap (λ n. max n (greatest (map (variables_of_body g) ds))) same ∙ ap (λ l. max begun (greatest (map (variables_of_body g) l))) (sym (listed_back ds) ∙ ap decl_list (sym row))

-- ---- the program

-- what is built of these parts is the normal form
pub composed : {E : Type 0} (g : Setting) (p : PProgram) (texts : List (List ℕ)) (names : NormalNames) (begun : ℕ) (mine : List Decl) (its : PBody) (decls : Result (Vec Decl Global) E) (r : Result Program E) →
    p ≡ g.program → texts ≡ names.names → begun ≡ length mine → map plain_decl mine ≡ main_variables g → its ≡ normal_body (main_unit g) g.program.body →
    IfOk decls (λ d. map plain_decl d.items ≡ all_decls g (map plain_decl mine)) → IfOk decls (λ d. AreNamesOf g names) → IfOk decls (λ d. length names.variables.items ≡ named_behind g begun) →
    IfOk r (λ q. OkWith decls (λ d. plain_program q ≡ record { names = texts; text_io = p.text_io; name = p.name; decls = decls_of (map plain_decl d.items); body = its })) →
    IfOk r (λ q. plain_program q ≡ normal_tree g.program g.types g.numbers)
composed g p texts names begun mine its decls (Err e) same text count vars statements all named numbered h = tt
composed g p texts names begun mine its (Err e) (Ok q) same text count vars statements all named numbered h = absurd h
composed g p texts names begun mine its (Ok d) (Ok q) same text count vars statements all named numbered h =
    h
    ∙ ap (λ (o : PProgram). let made : PProgram = record { names = texts; text_io = o.text_io; name = o.name; decls = decls_of (map plain_decl d.items); body = its } in made) same
    ∙ whole_is g texts (length names.variables.items) (map plain_decl d.items) its (map plain_decl mine) (text ∙ named.texts)
    (numbered ∙ ap (named_behind g) (count ∙ sym (length-map mine plain_decl))) all vars statements

-- names of the program are those of its setting
pub names_for : (g : Setting) (p : PProgram) (numbers : Numbering) (names : NormalNames) → p ≡ g.program → numbers ≡ g.numbers → ((types : TypeTable) → AreNamesOf (record { program = p; types = types; numbers = numbers }) names) → AreNamesOf g names
names_for g p numbers names same counted named =
    subst (λ (q : PProgram). AreNamesOf (record { program = q; types = g.types; numbers = g.numbers }) names) same
    (subst (λ (n : Numbering). AreNamesOf (record { program = p; types = g.types; numbers = n }) names) counted (named g.types))

-- the normal form of one setting is that of an equal one
pub same_setting : {E : Type 0} (g h : Setting) (r : Result Program E) → g ≡ h → IfOk r (λ q. plain_program q ≡ normal_tree g.program g.types g.numbers) → IfOk r (λ q. plain_program q ≡ normal_tree h.program h.types h.numbers)
same_setting g h r same made = subst (λ (k : Setting). IfOk r (λ q. plain_program q ≡ normal_tree k.program k.types k.numbers)) same made
