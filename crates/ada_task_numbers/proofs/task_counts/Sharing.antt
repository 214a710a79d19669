-- What callees copy together, list by list.
use Rattle.std.specs.Prelude.{◌≡◌, ℕ, ◌+◌, ◌*◌, ◌<◌, ◌≤◌, ◌==◌, Bool, true, false, cond, if◌then◌else◌, List, [], ◌∷◌, ◌++◌, length, map, flat_map, take, find, sum_by, min, unwrap_or, Option, Some, None, option_map, refl}
use Rattle.std.proofs.Common.{sym, ap, ◌∙◌, get_or, arith}
use Rattle.std.proofs.lemmas.List.{map_more, append-nil, take_all}
use Rattle.std.proofs.lemmas.List.Sums.{sum_by-cons}
use Rattle.std.proofs.lemmas.Grind.{flat_map-append}
use Rattle.scoped_names.specs.Meaning.{meaning_in}
use Rattle.ada_tree.specs.declared.naming.NameId.{NameId}
use Rattle.ada_tree.specs.declared.naming.Span.{Span}
use Rattle.ada_tree.specs.declared.naming.Word.{Word}
use Rattle.ada_tree.specs.declared.statements.Stmt.{Stmt}
use Rattle.ada_tree.specs.declared.statements.Arm.{Arm, out-Arm}
use Rattle.ada_tree.specs.declared.statements.CaseArm.{CaseArm, out-CaseArm}
use Rattle.ada_tree.specs.declared.statements.Handler.{Handler, out-Handler}
use Rattle.ada_tree.proofs.Rows.{plain_arm-out, plain_case_arm-out, plain_handler-out}
use Rattle.ada_tree.specs.TypeTable.{TypeTable}
use Rattle.ada_tree.specs.PlainExpr.{PExpr}
use Rattle.ada_tree.specs.PlainStmt.{PCallee, PStmt, SNull, SAssign, SDelay, SExit, SRaise, SAbort, SCall, SAccept, SWait, SConditional, STimed, SPut, SPutLine, SNewLine, SGet, SIf, SCase, SBlock, SLoop, PAlt, alternative, PArm, arm, PCaseArm, case_arm, PHandler, handler, PBody, plain_stmt, plain_arm, plain_case_arm, plain_handler, stmts_of, alts_of, arms_of, case_arms_of, handlers_of}
use Rattle.ada_tree.specs.PlainDecl.{DNumber, DObject, DEnumeration, DArray, DSubtype, DException, DIntIo, DPragma, DTask, DTaskBody, PDecls, no_decl, decl_then}
use Rattle.ada_static_rules.specs.StaticValue.{is_static}
use Rattle.syn_event.specs.NamedTasks.{NamedTasks, task_count}
use Rattle.syn_event.specs.Callees.{stmt_callees, stmts_callees, accept_callees, alt_callees, alts_callees, arms_callees, case_arms_callees, handlers_callees, body_callees}
use Rattle.syn_event.specs.Copying.{count_named, length_of_array, callee_share, callees_share, source_length, body_share, part_share}
use Rattle.ada_check_rules.specs.rules.Amounts.{many, capped, plus}
use Rattle.ada_task_numbers.specs.task_counts.inner.Shares.{Rates, array_lengths, length_among, index_rate, rate_of, shared, body_shares, share_of}
use Rattle.ada_task_numbers.specs.task_counts.inner.Copied.{own_callees, inner_callees, rest_callees, each_alt, each_arm, each_case_arm, each_handler}
use Rattle.ada_check_rules.proofs.rules.Capping.{capped_twice, capped_sum, plus_assoc, capped_product}

pub shared_none : (r : Rates) → shared r [] ≡ 0
unfolding shared
shared_none r = refl

rate_if_capped : (b : Bool) (n : ℕ) → capped (if b then 0 else capped n) ≡ (if b then 0 else capped n)
rate_if_capped true n = refl
rate_if_capped false n = capped_twice n

index_capped : (r : Rates) (id : NameId) (o : Option PExpr) → capped (index_rate r id o) ≡ index_rate r id o
index_capped r id (Some e) = rate_if_capped (is_static r.types e) (100 * length_among r.rows id)
index_capped r id None = refl

pub rate_capped : (r : Rates) (c : PCallee) → capped (rate_of r c) ≡ rate_of r c
rate_capped r c = index_capped r c.name.name c.index

pub shared_one : (r : Rates) (c : PCallee) → shared r (c ∷ []) ≡ rate_of r c
unfolding shared
shared_one r c = ap capped (add_none (rate_of r c)) ∙ rate_capped r c
  where
    add_none : (n : ℕ) → n + 0 ≡ n
    add_none n = omega arith

pub shared_cons : (r : Rates) (c : PCallee) (rest : List PCallee) → shared r (c ∷ rest) ≡ plus (rate_of r c) (shared r rest)
unfolding shared
shared_cons r c rest = refl

-- what is shared is counted as far as limits go
pub shared_capped : (r : Rates) (cs : List PCallee) → capped (shared r cs) ≡ shared r cs
unfolding shared
shared_capped r [] = refl
shared_capped r (c ∷ rest) = capped_twice (rate_of r c + shared r rest)

pub shared_append : (r : Rates) (xs ys : List PCallee) → shared r (xs ++ ys) ≡ plus (shared r xs) (shared r ys)
unfolding shared
shared_append r [] ys = sym (shared_capped r ys) ∙ ap capped (add_left (shared r ys))
  where
    add_left : (n : ℕ) → n ≡ 0 + n
    add_left n = omega arith
shared_append r (c ∷ rest) ys = ap (plus (rate_of r c)) (shared_append r rest ys) ∙ sym (plus_assoc (rate_of r c) (shared r rest) (shared r ys))

pub share_joined : (r : Rates) (xs ys : List PCallee) (a b : ℕ) → a ≡ shared r xs → b ≡ shared r ys → capped (a + b) ≡ shared r (xs ++ ys)
share_joined r xs ys a b p q = ap (λ n. capped (n + b)) p ∙ ap (λ n. capped (shared r xs + n)) q ∙ sym (shared_append r xs ys)

one_flat : {X : Type 0} (f : X → List PCallee) (ys : List PCallee) (x y : X) → x ≡ y → ys ++ flat_map f (x ∷ []) ≡ ys ++ f y
one_flat f ys x y e = ap (λ z. ys ++ flat_map f (z ∷ [])) e ∙ ap (λ zs. ys ++ zs) (append-nil (f y))

grown : {A X : Type 0} (f : X → List PCallee) (g : A → X) (xs : List A) (i : ℕ) (x d : A) → i < length xs → x ≡ get_or xs i d
    → flat_map f (map g (take (i + 1) xs)) ≡ flat_map f (map g (take i xs)) ++ f (g x)
grown f g xs i x d inside at =
    ap (flat_map f) (map_more g xs i d inside)
    ∙ flat_map-append f (map g (take i xs)) (g (get_or xs i d) ∷ [])
    ∙ one_flat f (flat_map f (map g (take i xs))) (g (get_or xs i d)) (g x) (ap g (sym at))

-- the names of an abort statement are callees themselves
abbrev pub itself : PCallee → List PCallee
itself c = c ∷ []

pub names_flat : (cs : List PCallee) → flat_map itself cs ≡ cs
names_flat [] = refl
names_flat (c ∷ cs) = ap (λ l. c ∷ l) (names_flat cs)

pub shared_end : (r : Rates) (xs : List PCallee) → shared r (xs ++ []) ≡ shared r xs
shared_end r xs = ap (shared r) (append-nil xs)

-- one turn of a loop, and its end
pub share_more : {A X : Type 0} (r : Rates) (f : X → List PCallee) (g : A → X) (xs : List A) (i : ℕ) (x : A) (a b c : ℕ) → i < length xs → x ≡ get_or xs i x
    → a ≡ shared r (flat_map f (map g (take i xs))) → b ≡ shared r (f (g x)) → c ≡ capped (a + b) → c ≡ shared r (flat_map f (map g (take (i + 1) xs)))
share_more r f g xs i x a b c inside at told here is =
    is ∙ share_joined r (flat_map f (map g (take i xs))) (f (g x)) a b told here ∙ ap (shared r) (sym (grown f g xs i x x inside at))

pub share_end : {A X : Type 0} (r : Rates) (f : X → List PCallee) (g : A → X) (xs : List A) (i : ℕ) (a : ℕ) → length xs ≤ i → a ≡ shared r (flat_map f (map g (take i xs))) → a ≡ shared r (flat_map f (map g xs))
share_end r f g xs i a done told = told ∙ ap (λ l. shared r (flat_map f (map g l))) (take_all i xs done)

-- ---- lists of the tree, by the callees of each member

pub stmts_flat : (xs : List PStmt) → stmts_callees (stmts_of xs) ≡ flat_map stmt_callees xs
stmts_flat [] = refl
stmts_flat (x ∷ xs) = ap (λ l. stmt_callees x ++ l) (stmts_flat xs)

pub alts_flat : (xs : List PAlt) → alts_callees (alts_of xs) ≡ flat_map each_alt xs
alts_flat [] = refl
alts_flat (alternative g x s ∷ xs) = ap (λ l. alt_callees x ++ l) (alts_flat xs)

pub arms_flat : (xs : List PArm) → arms_callees (arms_of xs) ≡ flat_map each_arm xs
arms_flat [] = refl
arms_flat (arm e l ∷ xs) = ap (λ r. stmts_callees l ++ r) (arms_flat xs)

pub case_arms_flat : (xs : List PCaseArm) → case_arms_callees (case_arms_of xs) ≡ flat_map each_case_arm xs
case_arms_flat [] = refl
case_arms_flat (case_arm choices l ∷ xs) = ap (λ r. stmts_callees l ++ r) (case_arms_flat xs)

pub handlers_flat : (xs : List PHandler) → handlers_callees (handlers_of xs) ≡ flat_map each_handler xs
handlers_flat [] = refl
handlers_flat (handler ws l s ∷ xs) = ap (λ r. stmts_callees l ++ r) (handlers_flat xs)

-- ---- members with statements

pub arm_told : (r : Rates) (x : Arm) (list : List Stmt) (a : ℕ) → list ≡ (out-Arm x).stmts.items → a ≡ shared r (stmts_callees (stmts_of (map plain_stmt list))) → a ≡ shared r (each_arm (plain_arm x))
arm_told r x list a same told = told ∙ ap (λ l. shared r (stmts_callees (stmts_of (map plain_stmt l)))) same ∙ ap (λ y. shared r (each_arm y)) (sym (plain_arm-out x))

pub case_arm_told : (r : Rates) (x : CaseArm) (list : List Stmt) (a : ℕ) → list ≡ (out-CaseArm x).stmts.items → a ≡ shared r (stmts_callees (stmts_of (map plain_stmt list))) → a ≡ shared r (each_case_arm (plain_case_arm x))
case_arm_told r x list a same told = told ∙ ap (λ l. shared r (stmts_callees (stmts_of (map plain_stmt l)))) same ∙ ap (λ y. shared r (each_case_arm y)) (sym (plain_case_arm-out x))

pub handler_told : (r : Rates) (x : Handler) (list : List Stmt) (a : ℕ) → list ≡ (out-Handler x).stmts.items → a ≡ shared r (stmts_callees (stmts_of (map plain_stmt list))) → a ≡ shared r (each_handler (plain_handler x))
handler_told r x list a same told = told ∙ ap (λ l. shared r (stmts_callees (stmts_of (map plain_stmt l)))) same ∙ ap (λ y. shared r (each_handler y)) (sym (plain_handler-out x))

-- ---- the parts of a statement

stmt_parts : (x : PStmt) → stmt_callees x ≡ own_callees x ++ inner_callees x ++ rest_callees x
stmt_parts (SNull s) = refl
stmt_parts (SAssign t e s) = refl
stmt_parts (SDelay d s) = refl
stmt_parts (SExit w e s) = refl
stmt_parts (SRaise w s) = refl
stmt_parts (SAbort cs s) = sym (append-nil cs) ∙ sym (append-nil (cs ++ []))
stmt_parts (SCall c s) = refl
stmt_parts (SAccept a s) = sym (append-nil (accept_callees a))
stmt_parts (SWait x o s) = refl
stmt_parts (SConditional c b o s) = refl
stmt_parts (STimed c b d a s) = refl
stmt_parts (SPut ps s) = refl
stmt_parts (SPutLine ps s) = refl
stmt_parts (SNewLine s) = refl
stmt_parts (SGet t s) = refl
stmt_parts (SIf x o s) = refl
stmt_parts (SCase e x o s) = refl
stmt_parts (SBlock b s) = sym (append-nil (body_callees b))
stmt_parts (SLoop w c l s) = sym (append-nil (stmts_callees l))

pub stmt_told : (r : Rates) (x : PStmt) (a b c ab abc : ℕ) → ab ≡ capped (a + b) → abc ≡ capped (ab + c) → a ≡ shared r (own_callees x) → b ≡ shared r (inner_callees x) → c ≡ shared r (rest_callees x) → abc ≡ shared r (stmt_callees x)
stmt_told r x a b c ab abc h g is_a is_b is_c =
    g
    ∙ share_joined r (own_callees x ++ inner_callees x) (rest_callees x) ab c (h ∙ share_joined r (own_callees x) (inner_callees x) a b is_a is_b) is_c
    ∙ ap (shared r) (sym (stmt_parts x))

-- ---- what is counted is what is copied, as far as limits go

found_length : (types : TypeTable) (x : NamedTasks) (rows : List (ℕ × ℕ)) (parts : List NamedTasks) (id : NameId) (b : Bool)
    → unwrap_or (meaning_in rows id.0) 0 ≡ capped (count_named types (find (λ y. y.name.name.0 == id.0) parts))
    → unwrap_or (option_map (λ s. s.1) (cond b (Some (x.name.name.0, capped (task_count types x))) (find (λ s. s.0 == id.0) rows))) 0 ≡ capped (count_named types (cond b (Some x) (find (λ y. y.name.name.0 == id.0) parts)))
found_length types x rows parts id true h = refl
found_length types x rows parts id false h = h

pub lengths_are : (types : TypeTable) (parts : List NamedTasks) (id : NameId) → length_among (array_lengths types parts) id ≡ capped (length_of_array types parts id)
lengths_are types [] id = refl
lengths_are types (x ∷ parts) id = found_length types x (array_lengths types parts) parts id (x.name.name.0 == id.0) (lengths_are types parts id)

hundred : (m n : ℕ) → 0 < m → min (100 * min n m) m ≡ min (100 * n) m
hundred m n h = omega arith

rate_if : (b : Bool) (n k : ℕ) → n ≡ capped k → (if b then 0 else capped (100 * n)) ≡ capped (if b then 0 else 100 * k)
rate_if true n k h = refl
rate_if false n k h = ap (λ x. capped (100 * x)) h ∙ hundred many k (omega arith)

rate_by : (types : TypeTable) (parts : List NamedTasks) (w : Word) (o : Option PExpr) → rate_of record { types = types; rows = array_lengths types parts } record { name = w; index = o } ≡ capped (callee_share types parts record { name = w; index = o })
rate_by types parts w (Some e) = rate_if (is_static types e) (length_among (array_lengths types parts) w.name) (length_of_array types parts w.name) (lengths_are types parts w.name)
rate_by types parts w None = refl

rate_is : (types : TypeTable) (parts : List NamedTasks) (c : PCallee) → rate_of record { types = types; rows = array_lengths types parts } c ≡ capped (callee_share types parts c)
rate_is types parts c = rate_by types parts c.name c.index

pub shared_is : (types : TypeTable) (parts : List NamedTasks) (cs : List PCallee) → shared record { types = types; rows = array_lengths types parts } cs ≡ capped (sum_by (callee_share types parts) cs)
unfolding shared
shared_is types parts [] = refl
shared_is types parts (c ∷ rest) =
    ap (λ n. plus n (shared record { types = types; rows = array_lengths types parts } rest)) (rate_is types parts c)
    ∙ ap (plus (capped (callee_share types parts c))) (shared_is types parts rest)
    ∙ capped_sum (callee_share types parts c) (sum_by (callee_share types parts) rest)
    ∙ ap capped (sym (sum_by-cons (callee_share types parts) c rest))

-- the share of a body
own_share : (types : TypeTable) (parts : List NamedTasks) (its : PBody) (s : Span) → plus (source_length s) (shared record { types = types; rows = array_lengths types parts } (body_callees its)) ≡ capped (source_length s + callees_share types parts its)
own_share types parts its s =
    ap (plus (source_length s)) (shared_is types parts (body_callees its)) ∙ right (source_length s) (callees_share types parts its)
  where
    right : (a b : ℕ) → capped (a + capped b) ≡ capped (a + b)
    right a b = min_right many a b
      where
        min_right : (m k l : ℕ) → min (k + min l m) m ≡ min (k + l) m
        min_right m k l = omega arith

found_name : (w n k share : ℕ) (rows : List (ℕ × ℕ)) (id : NameId) (b : Bool) → n ≡ capped share → unwrap_or (meaning_in rows id.0) 0 ≡ capped k
    → unwrap_or (option_map (λ s. s.1) (cond b (Some (w, n)) (find (λ s. s.0 == id.0) rows))) 0 ≡ capped (if b then share else k)
found_name w n k share rows id true h g = h
found_name w n k share rows id false h g = g

pub body_shares_are : (types : TypeTable) (parts : List NamedTasks) (decls : PDecls) (id : NameId) → share_of (body_shares record { types = types; rows = array_lengths types parts } decls) id ≡ capped (body_share types parts decls id)
body_shares_are types parts no_decl id = refl
body_shares_are types parts (decl_then (DNumber w e s) rest) id = body_shares_are types parts rest id
body_shares_are types parts (decl_then (DObject ws c x i s) rest) id = body_shares_are types parts rest id
body_shares_are types parts (decl_then (DEnumeration w ws s) rest) id = body_shares_are types parts rest id
body_shares_are types parts (decl_then (DArray w r x s) rest) id = body_shares_are types parts rest id
body_shares_are types parts (decl_then (DSubtype w x s) rest) id = body_shares_are types parts rest id
body_shares_are types parts (decl_then (DException ws s) rest) id = body_shares_are types parts rest id
body_shares_are types parts (decl_then (DIntIo w s) rest) id = body_shares_are types parts rest id
body_shares_are types parts (decl_then (DPragma e s) rest) id = body_shares_are types parts rest id
body_shares_are types parts (decl_then (DTask t s) rest) id = body_shares_are types parts rest id
body_shares_are types parts (decl_then (DTaskBody w objects its s) rest) id =
    found_name w.name.0 (plus (source_length s) (shared record { types = types; rows = array_lengths types parts } (body_callees its))) (body_share types parts rest id) (source_length s + callees_share types parts its) (body_shares record { types = types; rows = array_lengths types parts } rest) id (w.name.0 == id.0)
    (own_share types parts its s)
    (body_shares_are types parts rest id)

-- the share of a name that stands for tasks
pub part_share_is : (types : TypeTable) (parts : List NamedTasks) (decls : PDecls) (x : NamedTasks)
    → capped (capped (capped (task_count types x) * share_of (body_shares record { types = types; rows = array_lengths types parts } decls) x.unit.name.name)) ≡ capped (part_share types parts decls x)
part_share_is types parts decls x =
    capped_twice (capped (task_count types x) * share_of (body_shares record { types = types; rows = array_lengths types parts } decls) x.unit.name.name)
    ∙ ap (λ n. capped (capped (task_count types x) * n)) (body_shares_are types parts decls x.unit.name.name)
    ∙ capped_product (task_count types x) (body_share types parts decls x.unit.name.name)

pub ruleset sharing = (shared_none, shared_one, shared_cons, shared_append, shared_end)
