-- Variables that are declared behind others, step by step.
use Rattle.std.proofs.Common.{◌≡◌, ◌≤◌, ◌<◌, ◌+◌, ℕ, List, take, get_or, [], ◌∷◌, ◌++◌, Vec, length, map, max, Result, Ok, Err, IfOk, OnOk, Option, None, Some, is_some, true, false, true≢false, refl, sym, ap, ◌∙◌, arith, length-append, append_assoc, append-nil}
use Rattle.std.specs.declared.alloc.Global.{Global}
use Rattle.std.proofs.lemmas.List.{length-map, map-append, take_more}
use Rattle.std.proofs.lemmas.Grind.{flat_map-append}
use Rattle.ada_tree.specs.declared.naming.NameId.{NameId}
use Rattle.ada_tree.specs.declared.naming.Span.{Span}
use Rattle.ada_tree.specs.declared.naming.Word.{Word}
use Rattle.ada_tree.specs.declared.declarations.Decl.{Decl}
use Rattle.ada_tree.specs.declared.declarations.Subind.{Subind}
use Rattle.ada_tree.specs.declared.statements.Callee.{Callee}
use Rattle.ada_tree.specs.declared.expressions.Expr.{Expr}
use Rattle.ada_tree.specs.PlainExpr.{PDrange, PExpr, PSubind, plain_expr, plain_subind}
use Rattle.ada_tree.specs.PlainStmt.{PCall, plain_callee}
use Rattle.ada_tree.specs.PlainDecl.{PDecl, DObject, OPlain, plain_decl}
use Rattle.ada_stmt_copy.specs.expressions.Parts.{OkWith}
use Rattle.task_model.specs.Setting.{Setting, lists_of}
use Rattle.normal_lookups.specs.declared.names.names.NormalNames.{NormalNames}
use Rattle.normal_lookups.specs.names.SoFar.{AreNamesOf}
use Rattle.normal_model.specs.Names.{variable_name}
use Rattle.normal_model.specs.Ranges.{family_range, integer_subtype, marked, subtype_of_range, word_at}
use Rattle.normal_model.specs.Making.{kept_if, kept_subtypes}
use Rattle.normal_model.specs.Members.{callee_kept}
use Rattle.normal_model.specs.Calls.{Slot, actual_subtypes, call_subtypes, entry_called, flag_subtypes, is_chosen, lists_called, select_subtypes, slots_called}
use Rattle.normal_model.specs.Aborts.{abort_subtypes}
use Rattle.normal_model.specs.RewrittenUnit.{RewrittenUnit}
use Rattle.normal_model.specs.Variables.{more_variables, variables_declared}
use Rattle.normal_walk.specs.declared.variables.track.Track.{Track}
use Rattle.normal_walk.specs.variables.Track.{Enters, IsTrack, variables_of}
use Rattle.normal_walk.specs.variables.inner.Adding.{Adds, lists_subtypes}
use Rattle.common_lemmas.proofs.Numbers.{most_of_three}
use Rattle.normal_model.proofs.Declared.{declared_length, declared_joined}

-- ---- declarations

-- ---- one after the other

-- how many there are behind some more
grown : {g : Setting} {s : Span} {xs : List PSubind} {a b : Track} → Adds g s xs a b → length b.decls.items ≡ length a.decls.items + length xs
grown {g} {s} {xs} {a} {b} h =
    sym (length-map b.decls.items plain_decl)
    ∙ ap length h.decls
    ∙ length-append (map plain_decl a.decls.items) (variables_declared g s xs (length a.decls.items))
    ∙ ap (λ n. n + length (variables_declared g s xs (length a.decls.items))) (length-map a.decls.items plain_decl)
    ∙ ap (λ n. length a.decls.items + n) (declared_length g s xs (length a.decls.items))

pub adds_none : (g : Setting) (s : Span) (a : Track) → IsTrack g a → Adds g s [] a a
adds_none g s a h = record { names = h.names; decls = sym (append-nil (map plain_decl a.decls.items)); count = enough (length a.names.variables.items) (length a.decls.items) h.enough }
  where
    enough : (n m : ℕ) → m ≤ n → n ≡ max n m
    enough n m le = omega arith

pub adds_then : (g : Setting) (s : Span) (xs ys zs : List PSubind) (a b c : Track) → xs ++ ys ≡ zs → Adds g s xs a b → Adds g s ys b c → Adds g s zs a c
adds_then g s xs ys zs a b c joined h k = record {
  names = k.names;
  decls =
      k.decls
      ∙ ap (λ l. l ++ variables_declared g s ys (length b.decls.items)) h.decls
      ∙ append_assoc (map plain_decl a.decls.items) (variables_declared g s xs (length a.decls.items)) (variables_declared g s ys (length b.decls.items))
      ∙ ap (λ n. map plain_decl a.decls.items ++ (variables_declared g s xs (length a.decls.items) ++ variables_declared g s ys n)) (grown h)
      ∙ ap (λ l. map plain_decl a.decls.items ++ l) (sym (declared_joined g s xs ys (length a.decls.items)) ∙ ap (λ l. variables_declared g s l (length a.decls.items)) joined);
  count = most_of_three (length a.names.variables.items) (length b.names.variables.items) (length c.names.variables.items) (length b.decls.items) (length c.decls.items) (longer (length b.decls.items) (length c.decls.items) (length ys) (grown k)) h.count k.count;
}
  where
    longer : (m n d : ℕ) → n ≡ m + d → m ≤ n
    longer m n d e = omega arith

pub adds_track : (g : Setting) (s : Span) (xs : List PSubind) (a b : Track) → Adds g s xs a b → IsTrack g b
adds_track g s xs a b h = record { names = h.names; enough = within (length a.names.variables.items) (length b.decls.items) (length b.names.variables.items) h.count }
  where
    within : (n m k : ℕ) → k ≡ max n m → m ≤ k
    within n m k e = omega arith

-- ---- one variable

pub one_added : {Done Memory : Type 0} (g : Setting) (s : Span) (old : Track) (names : NormalNames) (decls : Vec Decl Global) (name : NameId) (number : ℕ) (decl : Result Decl Memory) (subtype : Result Subind Memory) (r : Result Done Memory) →
    number ≡ length old.decls.items → AreNamesOf g names → name ≡ variable_name g number → length names.variables.items ≡ max (length old.names.variables.items) (number + 1) →
    IfOk decl (λ made. OkWith subtype (λ x. plain_decl made ≡ DObject (word_at s name ∷ []) false (OPlain (plain_subind x)) None s)) →
    OnOk r (OkWith decl (λ x. decls.items ≡ old.decls.items ++ x ∷ [])) →
    OnOk r (OkWith subtype (λ x. Adds g s (plain_subind x ∷ []) old (record { names = names; decls = decls })))
one_added g s old names decls name number decl subtype (Err e) is named called count made pushed = pushed
one_added g s old names decls name number (Err e) subtype (Ok x) is named called count made pushed = absurd pushed
one_added g s old names decls name number (Ok d) (Err e) (Ok x) is named called count made pushed = absurd made
one_added g s old names decls name number (Ok d) (Ok t) (Ok x) is named called count made pushed = record {
  names = named;
  decls =
      ap (map plain_decl) pushed
      ∙ map-append plain_decl old.decls.items (d ∷ [])
      ∙ ap (λ y. map plain_decl old.decls.items ++ y ∷ []) (made ∙ ap (λ n. DObject (word_at s n ∷ []) false (OPlain (plain_subind t)) None s) (called ∙ ap (variable_name g) is));
  count = count ∙ ap (max (length old.names.variables.items)) (ap (λ n. n + 1) is ∙ sym (length-append old.decls.items (d ∷ [])) ∙ ap length (sym pushed));
}

-- ---- entering

pub enters : (u : RewrittenUnit) (s : Span) (xs : List PSubind) (old new : Track) (variables : List PDecl) → Adds u.setting s xs old new → more_variables u s xs (variables_of old) ≡ variables → Enters u.setting variables old new
enters u s xs old new variables h is = record {
  variables_are = h.decls ∙ ap (λ n. map plain_decl old.decls.items ++ variables_declared u.setting s xs n) (sym (length-map old.decls.items plain_decl)) ∙ is;
  longer = no_less (length old.decls.items) (length new.decls.items) (length xs) (grown h);
  track = adds_track u.setting s xs old new h;
  count = h.count;
}
  where
    no_less : (m n d : ℕ) → n ≡ m + d → m ≤ n
    no_less m n d e = omega arith

pub enters_none : (g : Setting) (old : Track) (variables : List PDecl) → IsTrack g old → variables_of old ≡ variables → Enters g variables old old
enters_none g old variables h is = record { variables_are = is; longer = itself (length old.decls.items); track = h; count = (adds_none g record { start = 0; end = 0 } old h).count }
  where
    itself : (n : ℕ) → n ≤ n
    itself n = omega arith

-- ---- turns of loops

-- one mark more
pub marks_more : (g : Setting) (s : Span) (marks : List Word) (i : ℕ) (d : Word) (a b c : Track) → i < length marks → Adds g s (map marked (take i marks)) a b → Adds g s (marked (get_or marks i d) ∷ []) b c → Adds g s (map marked (take (i + 1) marks)) a c
marks_more g s marks i d a b c lt h k =
    adds_then g s (map marked (take i marks)) (marked (get_or marks i d) ∷ []) (map marked (take (i + 1) marks)) a b c
    (sym (ap (map marked) (take_more marks i d lt) ∙ map-append marked (take i marks) (get_or marks i d ∷ []))) h k

-- one callee more
pub callees_more : (g : Setting) (s : Span) (callees : List Callee) (i : ℕ) (callee : Callee) (a b c : Track) → i < length callees → callee ≡ get_or callees i callee →
    Adds g s (abort_subtypes g s (map plain_callee (take i callees))) a b → Adds g s (kept_subtypes (callee_kept g s (plain_callee callee))) b c → Adds g s (abort_subtypes g s (map plain_callee (take (i + 1) callees))) a c
callees_more g s callees i callee a b c lt is h k =
    adds_then g s (abort_subtypes g s (map plain_callee (take i callees))) (kept_subtypes (callee_kept g s (plain_callee callee))) (abort_subtypes g s (map plain_callee (take (i + 1) callees))) a b c
    (sym (ap (λ l. abort_subtypes g s (map plain_callee l)) (take_more callees i callee lt ∙ ap (λ x. take i callees ++ x ∷ []) (sym is))
    ∙ ap (abort_subtypes g s) (map-append plain_callee (take i callees) (callee ∷ []))
    ∙ flat_map-append (λ x. kept_subtypes (callee_kept g s x)) (map plain_callee (take i callees)) (plain_callee callee ∷ [])
    ∙ ap (λ l. abort_subtypes g s (map plain_callee (take i callees)) ++ l) (append-nil (kept_subtypes (callee_kept g s (plain_callee callee)))))) h k

-- ---- actuals

-- the subtypes of actuals are those of as many marks as there are actuals
pub actuals_marks : (slots : List Slot) (es : List PExpr) → actual_subtypes slots es ≡ map marked (take (length es) (map (λ x. x.mark) slots))
actuals_marks [] [] = refl
actuals_marks [] (e ∷ es) = refl
actuals_marks (x ∷ slots) [] = refl
actuals_marks (x ∷ slots) (e ∷ es) = ap (λ l. marked x.mark ∷ l) (actuals_marks slots es)

-- ---- calls

-- the subtypes of a call are those of its callee and of its lists
pub call_parts : (g : Setting) (s : Span) (c : PCall) → kept_subtypes (callee_kept g s c.task) ++ lists_subtypes g s (entry_called g c) (lists_of g.numbers (entry_called g c) c.args) ≡ call_subtypes g s c
call_parts g s c =
    sym (append_assoc (kept_subtypes (callee_kept g s c.task)) (kept_subtypes (kept_if (subtype_of_range g.types s (family_range g (entry_called g c))) (lists_called g c).index)) (actual_subtypes (slots_called g c) (lists_called g c).actuals))
    ∙ ap (λ l. l ++ actual_subtypes (slots_called g c) (lists_called g c).actuals) (sym (map-append (λ x. x.subtype) (callee_kept g s c.task) (kept_if (subtype_of_range g.types s (family_range g (entry_called g c))) (lists_called g c).index)))

pub adds_same : (g : Setting) (s : Span) (xs ys : List PSubind) (a b : Track) → xs ≡ ys → Adds g s xs a b → Adds g s ys a b
adds_same g s xs ys a b same h = record { names = h.names; decls = h.decls ∙ ap (λ l. map plain_decl a.decls.items ++ variables_declared g s l (length a.decls.items)) same; count = h.count }

-- the subtypes of actuals, by the marks that are looked up
pub actuals_added : (g : Setting) (s : Span) (slots : List Slot) (es : List Expr) (marks cut : List Word) (a b : Track) → marks ≡ map (λ x. x.mark) slots → cut ≡ take (length es) marks → Adds g s (map marked cut) a b → Adds g s (actual_subtypes slots (map plain_expr es)) a b
actuals_added g s slots es marks cut a b marks_are cut_is =
    adds_same g s (map marked cut) (actual_subtypes slots (map plain_expr es)) a b
    (ap (map marked) (cut_is ∙ ap (take (length es)) marks_are)
    ∙ ap (λ n. map marked (take n (map (λ x. x.mark) slots))) (sym (length-map es plain_expr))
    ∙ sym (actuals_marks slots (map plain_expr es)))

-- the callee of a call and then its lists
pub call_added : (g : Setting) (s : Span) (c : PCall) (e : ℕ) (a b d : Track) → e ≡ entry_called g c → Adds g s (kept_subtypes (callee_kept g s c.task)) a b → Adds g s (lists_subtypes g s e (lists_of g.numbers e c.args)) b d → Adds g s (call_subtypes g s c) a d
call_added g s c e a b d is =
    adds_then g s (kept_subtypes (callee_kept g s c.task)) (lists_subtypes g s e (lists_of g.numbers e c.args)) (call_subtypes g s c) a b d
    (ap (λ n. kept_subtypes (callee_kept g s c.task) ++ lists_subtypes g s n (lists_of g.numbers n c.args)) is ∙ call_parts g s c)

-- a call of a chosen member and then the variable that tells the part
pub select_added : (g : Setting) (s : Span) (c : PCall) (a b d : Track) → is_chosen g c ≡ true → Adds g s (call_subtypes g s c) a b → Adds g s (integer_subtype s ∷ []) b d → Adds g s (select_subtypes g s c) a d
select_added g s c a b d is =
    adds_then g s (call_subtypes g s c) (integer_subtype s ∷ []) (select_subtypes g s c) a b d (ap (λ x. call_subtypes g s c ++ flag_subtypes x s) (sym is))

-- the variable of an index that moves
pub index_added : (g : Setting) (s : Span) (m : Option PExpr) (range there : Option PDrange) (a b : Track) → is_some m ≡ true → range ≡ there → Adds g s (subtype_of_range g.types s range ∷ []) a b → Adds g s (kept_subtypes (kept_if (subtype_of_range g.types s there) m)) a b
index_added g s None range there a b moves same h = absurd (true≢false (sym moves))
index_added g s (Some e) range there a b moves same h = adds_same g s (subtype_of_range g.types s range ∷ []) (subtype_of_range g.types s there ∷ []) a b (ap (λ r. subtype_of_range g.types s r ∷ []) same) h
