-- The opening values of formals, one by one.
use Rattle.std.specs.Prelude.{◌≡◌, ◌<◌, ◌≤◌, ◌+◌, ℕ, ℤ, List, [], ◌∷◌, ◌++◌, length, drop, map, slice_get, Option, Some, None, option_map, Result, Ok, Err, refl}
use Rattle.std.proofs.Common.{◌∙◌, sym, ap, get_or}
use Rattle.std.proofs.lemmas.List.{drop_all, append-nil}
use Rattle.std.proofs.lemmas.Option.{slice_get-map}
use Rattle.std.proofs.Math.Seq.{append_snoc}
use Rattle.ada_tree.specs.PlainExpr.{PExpr, plain_expr}
use Rattle.ada_tree.specs.declared.expressions.Expr.{Expr}
use Rattle.ada_tree.specs.declared.naming.NameId.{NameId}
use Rattle.ada_tree.specs.PlainStmt.{PCall}
use Rattle.ada_tree.specs.TypeTable.{TypeTable}
use Rattle.ada_value.specs.declared.values.Value.{Value}
use Rattle.ada_value.specs.declared.values.Raised.{Raised}
use Rattle.ada_value.specs.Values.{and_then, position_of}
use Rattle.ada_value.specs.Variables.{Variables}
use Rattle.ada_value.specs.Evaluating.{evaluated}
use Rattle.task_model.specs.declared.parameters.FormalParameter.{FormalParameter}
use Rattle.task_model.specs.Setting.{Setting, member_named, task_meant, callee_task, entry_of, lists_of}
use Rattle.task_model.specs.Calls.{Called, openings, called_with, called, opening_values}
use Rattle.task_waits.specs.declared.calls.calls.Member.{Member}
use Rattle.task_waits.specs.calls.Looks.{raised_by, member_called, values_or_none, opening_or}
use Rattle.task_waits.proofs.calls.Walking.{first_at, behind_at}
use Rattle.common_lemmas.proofs.Lists.{rest_at}

-- an opening value in front of others
abbrev pub with_first : Result Value Raised → Result (List Value) Raised → Result (List Value) Raised
with_first o later = and_then o (λ v. and_then later (λ vs. Ok (v ∷ vs)))

openings_first : (types : TypeTable) (vars : Variables) (f : FormalParameter) (fs : List FormalParameter) (es : List PExpr) →
    openings types vars (f ∷ fs) es ≡ with_first (opening_or types vars f (slice_get es 0)) (openings types vars fs (drop 1 es))
openings_first types vars f fs [] = refl
openings_first types vars f fs (e ∷ es) = refl

-- the opening values of the formals from a place on
pub openings_from : (types : TypeTable) (vars : Variables) (fs : List FormalParameter) (es : List PExpr) (i : ℕ) (f d : FormalParameter) → i < length fs → f ≡ get_or fs i d →
    openings types vars (drop i fs) (drop i es) ≡ with_first (opening_or types vars f (slice_get es i)) (openings types vars (drop (i + 1) fs) (drop (i + 1) es))
openings_from types vars fs es i f d h is =
    ap (λ l. openings types vars l (drop i es)) (rest_at fs i f d h is)
    ∙ openings_first types vars f (drop (i + 1) fs) (drop i es)
    ∙ (λ k. with_first (opening_or types vars f (first_at es i k)) (openings types vars (drop (i + 1) fs) (behind_at es i k)))

-- ---- what the actuals raise

raised_later : (v : Value) (later : Result (List Value) Raised) → raised_by (with_first (Ok v) later) ≡ raised_by later
raised_later v (Ok vs) = refl
raised_later v (Err x) = refl

-- the actual of a formal, as the code has it
actual_at : (es : List Expr) (i : ℕ) → slice_get (map plain_expr es) i ≡ option_map plain_expr (slice_get es i)
actual_at es i = slice_get-map plain_expr es i

-- the opening value at a place, as the code finds it
opening_at : (types : TypeTable) (vars : Variables) (es : List Expr) (i : ℕ) (f : FormalParameter) (e : Option Expr) (o : Result Value Raised) →
    e ≡ slice_get es i → o ≡ opening_or types vars f (option_map plain_expr e) → o ≡ opening_or types vars f (slice_get (map plain_expr es) i)
opening_at types vars es i f e o at opens =
    opens ∙ ap (λ a. opening_or types vars f (option_map plain_expr a)) at ∙ ap (opening_or types vars f) (sym (actual_at es i))

pub raises_on : (types : TypeTable) (vars : Variables) (fs : List FormalParameter) (es : List Expr) (i : ℕ) (f d : FormalParameter) (e : Option Expr) (v : Value) (all : Option Raised)
    → i < length fs → f ≡ get_or fs i d → e ≡ slice_get es i → Ok v ≡ opening_or types vars f (option_map plain_expr e)
    → all ≡ raised_by (openings types vars (drop i fs) (drop i (map plain_expr es)))
    → all ≡ raised_by (openings types vars (drop (i + 1) fs) (drop (i + 1) (map plain_expr es)))
raises_on types vars fs es i f d e v all h is at opens before =
    let later = openings types vars (drop (i + 1) fs) (drop (i + 1) (map plain_expr es)) in
    before
    ∙ ap raised_by (openings_from types vars fs (map plain_expr es) i f d h is)
    ∙ ap (λ o. raised_by (with_first o later)) (sym (opening_at types vars es i f e (Ok v) at opens))
    ∙ raised_later v later

pub raises_here : (types : TypeTable) (vars : Variables) (fs : List FormalParameter) (es : List Expr) (i : ℕ) (f d : FormalParameter) (e : Option Expr) (x : Raised) (all : Option Raised)
    → i < length fs → f ≡ get_or fs i d → e ≡ slice_get es i → Err x ≡ opening_or types vars f (option_map plain_expr e)
    → all ≡ raised_by (openings types vars (drop i fs) (drop i (map plain_expr es)))
    → Some x ≡ all
raises_here types vars fs es i f d e x all h is at opens before =
    let later = openings types vars (drop (i + 1) fs) (drop (i + 1) (map plain_expr es)) in
    sym
    (before
    ∙ ap raised_by (openings_from types vars fs (map plain_expr es) i f d h is)
    ∙ ap (λ o. raised_by (with_first o later)) (sym (opening_at types vars es i f e (Err x) at opens)))

pub raises_none : (types : TypeTable) (vars : Variables) (fs : List FormalParameter) (es : List PExpr) (i : ℕ) (all : Option Raised)
    → length fs ≤ i → all ≡ raised_by (openings types vars (drop i fs) es) → None ≡ all
raises_none types vars fs es i all h before = sym (before ∙ ap (λ l. raised_by (openings types vars l es)) (drop_all i fs h))

-- ---- the values, as they are put into a list

-- values in front of others that may not come out
abbrev pub behind_values : List Value → Result (List Value) Raised → Result (List Value) Raised
behind_values vs r = and_then r (λ ws. Ok (vs ++ ws))

one_more : (vs : List Value) (v : Value) (later : Result (List Value) Raised) → behind_values vs (with_first (Ok v) later) ≡ behind_values (vs ++ v ∷ []) later
one_more vs v (Ok ws) = ap Ok (sym (append_snoc vs v ws))
one_more vs v (Err x) = refl

pub behind_none : (r : Result (List Value) Raised) → r ≡ behind_values [] r
behind_none (Ok vs) = refl
behind_none (Err x) = refl

pub puts_on : (types : TypeTable) (vars : Variables) (fs : List FormalParameter) (es : List Expr) (i : ℕ) (f d : FormalParameter) (e : Option Expr) (v : Value) (vs ws : List Value) (all : Result (List Value) Raised)
    → i < length fs → f ≡ get_or fs i d → e ≡ slice_get es i → Ok v ≡ opening_or types vars f (option_map plain_expr e)
    → ws ≡ vs ++ v ∷ []
    → all ≡ behind_values vs (openings types vars (drop i fs) (drop i (map plain_expr es)))
    → all ≡ behind_values ws (openings types vars (drop (i + 1) fs) (drop (i + 1) (map plain_expr es)))
puts_on types vars fs es i f d e v vs ws all h is at opens grows before =
    let later = openings types vars (drop (i + 1) fs) (drop (i + 1) (map plain_expr es)) in
    before
    ∙ ap (behind_values vs) (openings_from types vars fs (map plain_expr es) i f d h is)
    ∙ ap (λ o. behind_values vs (with_first o later)) (sym (opening_at types vars es i f e (Ok v) at opens))
    ∙ one_more vs v later
    ∙ ap (λ l. behind_values l later) (sym grows)

pub puts_none : (types : TypeTable) (vars : Variables) (fs : List FormalParameter) (es : List Expr) (i : ℕ) (f d : FormalParameter) (e : Option Expr) (x : Raised) (vs ws : List Value) (all : Result (List Value) Raised)
    → i < length fs → f ≡ get_or fs i d → e ≡ slice_get es i → Err x ≡ opening_or types vars f (option_map plain_expr e)
    → ws ≡ []
    → all ≡ behind_values vs (openings types vars (drop i fs) (drop i (map plain_expr es)))
    → ws ≡ values_or_none all
puts_none types vars fs es i f d e x vs ws all h is at opens none before =
    let later = openings types vars (drop (i + 1) fs) (drop (i + 1) (map plain_expr es)) in
    none
    ∙ sym
    (ap values_or_none
    (before
    ∙ ap (behind_values vs) (openings_from types vars fs (map plain_expr es) i f d h is)
    ∙ ap (λ o. behind_values vs (with_first o later)) (sym (opening_at types vars es i f e (Err x) at opens))))

pub puts_all : (types : TypeTable) (vars : Variables) (fs : List FormalParameter) (es : List PExpr) (i : ℕ) (vs : List Value) (all : Result (List Value) Raised)
    → length fs ≤ i → all ≡ behind_values vs (openings types vars (drop i fs) es) → vs ≡ values_or_none all
puts_all types vars fs es i vs all h before =
    sym (ap values_or_none (before ∙ ap (λ l. behind_values vs (openings types vars l es)) (drop_all i fs h)) ∙ append-nil vs)

-- ---- calls

-- a call of which the index and then the opening values come out, or not
abbrev pub called_by_parts : ℕ → Result ℤ Raised → Result (List Value) Raised → Result Called Raised
called_by_parts e index values = and_then index (λ i. and_then values (λ vs. Ok record { entry = e; index = i; values = vs }))

pub call_named : (e : ℕ) (i : ℤ) (index : Result ℤ Raised) (values : Result (List Value) Raised) → Ok i ≡ index → None ≡ raised_by values
    → Ok record { entry = e; index = i } ≡ member_called (called_by_parts e index values)
call_named e i (Ok j) (Ok vs) is none = cc
call_named e i (Ok j) (Err x) is none = absurd (cc)
call_named e i (Err y) values is none = absurd (cc)

pub call_raises : (e : ℕ) (i : ℤ) (x : Raised) (index : Result ℤ Raised) (values : Result (List Value) Raised) → Ok i ≡ index → Some x ≡ raised_by values
    → Err x ≡ member_called (called_by_parts e index values)
call_raises e i x (Ok j) (Ok vs) is some = absurd (cc)
call_raises e i x (Ok j) (Err y) is some = cc
call_raises e i x (Err y) values is some = absurd (cc)

pub index_raises : (e : ℕ) (x : Raised) (index : Result ℤ Raised) (values : Result (List Value) Raised) → Err x ≡ index
    → Err x ≡ member_called (called_by_parts e index values)
index_raises e x (Ok j) values is = absurd (cc)
index_raises e x (Err y) values is = cc

pub call_opens : (e : ℕ) (i : ℤ) (index : Result ℤ Raised) (values : Result (List Value) Raised) → Ok i ≡ index
    → values_or_none values ≡ opening_values (Some (called_by_parts e index values))
call_opens e i (Ok j) (Ok vs) is = refl
call_opens e i (Ok j) (Err y) is = refl
call_opens e i (Err y) values is = absurd (cc)

pub index_opens : (e : ℕ) (x : Raised) (index : Result ℤ Raised) (values : Result (List Value) Raised) → Err x ≡ index
    → [] ≡ opening_values (Some (called_by_parts e index values))
index_opens e x (Ok j) values is = absurd (cc)
index_opens e x (Err y) values is = refl

-- a call of an entry of the owner that was found
pub call_by_owner : (g : Setting) (vars : Variables) (call : PCall) (owner e : ℕ) (r : Result Member Raised) → Ok owner ≡ callee_task g vars call.task → e ≡ entry_of g.numbers owner call.entry.name
    → r ≡ member_called (called_with g vars e (lists_of g.numbers e call.args)) → r ≡ member_called (called g vars call)
call_by_owner g vars call owner e r found named is =
    is
    ∙ ap (λ n. member_called (called_with g vars n (lists_of g.numbers n call.args))) named
    ∙ ap (λ (o : Result ℕ Raised). member_called (and_then o (λ w. called_with g vars (entry_of g.numbers w call.entry.name) (lists_of g.numbers (entry_of g.numbers w call.entry.name) call.args)))) found

pub call_by_none : (g : Setting) (vars : Variables) (call : PCall) (x : Raised) → Err x ≡ callee_task g vars call.task → Err x ≡ member_called (called g vars call)
call_by_none g vars call x found =
    ap (λ (o : Result ℕ Raised). member_called (and_then o (λ w. called_with g vars (entry_of g.numbers w call.entry.name) (lists_of g.numbers (entry_of g.numbers w call.entry.name) call.args)))) found

pub values_by_owner : (g : Setting) (vars : Variables) (call : PCall) (owner e : ℕ) (vs : List Value) → Ok owner ≡ callee_task g vars call.task → e ≡ entry_of g.numbers owner call.entry.name
    → vs ≡ opening_values (Some (called_with g vars e (lists_of g.numbers e call.args))) → vs ≡ opening_values (Some (called g vars call))
values_by_owner g vars call owner e vs found named is =
    is
    ∙ ap (λ n. opening_values (Some (called_with g vars n (lists_of g.numbers n call.args)))) named
    ∙ ap (λ (o : Result ℕ Raised). opening_values (Some (and_then o (λ w. called_with g vars (entry_of g.numbers w call.entry.name) (lists_of g.numbers (entry_of g.numbers w call.entry.name) call.args))))) found

pub values_by_none : (g : Setting) (vars : Variables) (call : PCall) (x : Raised) (vs : List Value) → Err x ≡ callee_task g vars call.task → vs ≡ [] → vs ≡ opening_values (Some (called g vars call))
values_by_none g vars call x vs found none =
    none ∙ ap (λ (o : Result ℕ Raised). opening_values (Some (and_then o (λ w. called_with g vars (entry_of g.numbers w call.entry.name) (lists_of g.numbers (entry_of g.numbers w call.entry.name) call.args))))) found

-- a member of an array by its index
pub task_by_index : (g : Setting) (vars : Variables) (name : NameId) (e : PExpr) (v : Value) (i : ℤ) (r : Result ℕ Raised) → Ok v ≡ evaluated g.types vars e → i ≡ position_of v
    → r ≡ member_named g.numbers name i → r ≡ task_meant g vars name (Some e)
task_by_index g vars name e v i r found at is =
    is ∙ ap (member_named g.numbers name) at ∙ ap (λ (o : Result Value Raised). and_then o (λ w. member_named g.numbers name (position_of w))) found
