-- The values that come back, and the formals as variables, one by one.
use Rattle.std.specs.Prelude.{◌≡◌, ◌<◌, ◌≤◌, ◌+◌, ◌-◌, ℕ, suc, Bool, true, false, List, [], ◌∷◌, ◌++◌, length, drop, map, slice_get, Option, Some, None, Result, Ok, Err, refl}
use Rattle.std.proofs.Common.{◌∙◌, sym, ap, get_or, arith}
use Rattle.std.proofs.lemmas.List.{drop_all, append-nil, append_assoc, length-drop, length-map, get_or-map}
use Rattle.std.proofs.Math.Seq.{drop-append_seam}
use Rattle.ada_tree.specs.declared.naming.NameId.{NameId}
use Rattle.ada_tree.specs.declared.statements.ParMode.{ParMode}
use Rattle.ada_tree.specs.declared.statements.ParMode.TheVariants.{Take, Give, Both}
use Rattle.ada_tree.specs.PlainExpr.{PExpr, plain_expr}
use Rattle.ada_tree.specs.declared.expressions.Expr.{Expr}
use Rattle.ada_tree.specs.TypeTable.{TypeTable}
use Rattle.ada_value.specs.declared.values.Value.{Value}
use Rattle.ada_value.specs.declared.values.Raised.{Raised}
use Rattle.ada_value.specs.Variables.{Object, Variables}
use Rattle.task_model.specs.declared.parameters.FormalParameter.{FormalParameter}
use Rattle.task_model.specs.Calls.{comes_back, finals_if, finals_in, Copies, variable_of, stored_back, copies_on, copied_one, copied_back, opened_object, opened_objects}
use Rattle.task_waits.specs.calls.Looks.{raised_by, vars_or, value_or_lower}
use Rattle.task_waits.proofs.calls.Walking.{first_at, behind_at}
use Rattle.common_lemmas.proofs.Lists.{rest_at, rest_none, rest_there}

-- ---- what comes back

finals_after : (vs : List Value) (b : Bool) (o : Object) (rest : List Value) → vs ++ finals_if b o rest ≡ (vs ++ finals_if b o []) ++ rest
finals_after vs true o rest = sym (append_assoc vs (finals_if true o []) rest)
finals_after vs false o rest = ap (λ l. l ++ rest) (sym (append-nil vs))

pub finals_on : (fs : List FormalParameter) (vars : Variables) (i : ℕ) (f d : FormalParameter) (o : Object) (vs ws all : List Value)
    → i < length fs → f ≡ get_or fs i d → Some o ≡ slice_get vars i → ws ≡ vs ++ finals_if (comes_back f.mode) o []
    → all ≡ vs ++ finals_in (drop i fs) (drop i vars)
    → all ≡ ws ++ finals_in (drop (i + 1) fs) (drop (i + 1) vars)
finals_on fs vars i f d o vs ws all h is at grows before =
    before
    ∙ (λ k. vs ++ finals_in (rest_at fs i f d h is k) (rest_there vars i o at k))
    ∙ finals_after vs (comes_back f.mode) o (finals_in (drop (i + 1) fs) (drop (i + 1) vars))
    ∙ ap (λ l. l ++ finals_in (drop (i + 1) fs) (drop (i + 1) vars)) (sym grows)

finals_none : (fs : List FormalParameter) → finals_in fs [] ≡ []
finals_none [] = refl
finals_none (f ∷ fs) = refl

pub finals_past : (fs : List FormalParameter) (vars : Variables) (i : ℕ) (vs all : List Value)
    → None ≡ slice_get vars i → all ≡ vs ++ finals_in (drop i fs) (drop i vars) → vs ≡ all
finals_past fs vars i vs all at before =
    sym (before ∙ ap (λ l. vs ++ finals_in (drop i fs) l) (rest_none vars i at) ∙ ap (λ l. vs ++ l) (finals_none (drop i fs)) ∙ append-nil vs)

pub finals_all : (fs : List FormalParameter) (vars : Variables) (i : ℕ) (vs all : List Value)
    → length fs ≤ i → all ≡ vs ++ finals_in (drop i fs) (drop i vars) → vs ≡ all
finals_all fs vars i vs all h before = sym (before ∙ ap (λ l. vs ++ finals_in l (drop i vars)) (drop_all i fs h) ∙ append-nil vs)

-- ---- copying back

-- the variables so far, and nothing that stopped it
abbrev so_far : Variables → Copies
so_far vars = record { vars = vars; stopped = None }

passes_one : (more : List Value → Variables → Copies) (m : ParMode) (e : PExpr) (vs : List Value) (vars : Variables) → comes_back m ≡ false → copied_one more m e vs vars ≡ more vs vars
passes_one more Take e vs vars h = refl
passes_one more Give e vs vars h = absurd (cc)
passes_one more Both e vs vars h = absurd (cc)

lacks_one : (more : List Value → Variables → Copies) (m : ParMode) (e : PExpr) (vars : Variables) → comes_back m ≡ true → copied_one more m e [] vars ≡ so_far vars
lacks_one more Take e vars h = absurd (cc)
lacks_one more Give e vars h = refl
lacks_one more Both e vars h = refl

stores_one : (more : List Value → Variables → Copies) (m : ParMode) (e : PExpr) (v : Value) (vs : List Value) (vars : Variables) → comes_back m ≡ true
    → copied_one more m e (v ∷ vs) vars ≡ copies_on (λ changed. more vs changed) vars (stored_back vars (variable_of e) v)
stores_one more Take e v vs vars h = absurd (cc)
stores_one more Give e v vs vars h = refl
stores_one more Both e v vs vars h = refl

goes_on : (more : Variables → Copies) (vars changed : Variables) (r : Result Variables Raised) → None ≡ raised_by r → changed ≡ vars_or vars r → copies_on more vars r ≡ more changed
goes_on more vars changed (Ok w) none is = ap more (sym is)
goes_on more vars changed (Err x) none is = absurd (cc)

stops_there : (more : Variables → Copies) (vars changed : Variables) (x : Raised) (r : Result Variables Raised) → Some x ≡ raised_by r → changed ≡ vars_or vars r → record { vars = changed; stopped = Some x } ≡ copies_on more vars r
stops_there more vars changed x (Ok w) some is = absurd (cc)
stops_there more vars changed x (Err y) some is = λ k. record { vars = is k; stopped = some k }

-- what is left of copying back: of the formals and the actuals from a place on, of the values from another
abbrev pub left_to_copy : List FormalParameter → List PExpr → List Value → ℕ → ℕ → Variables → Copies
left_to_copy fs es vs i j vars = copied_back (drop i fs) (drop i es) (drop j vs) vars

pub copy_none : (fs : List FormalParameter) (es : List PExpr) (vs : List Value) (i j : ℕ) (vars : Variables) (all : Copies)
    → length fs ≤ i → all ≡ left_to_copy fs es vs i j vars → record { vars = vars; stopped = None } ≡ all
copy_none fs es vs i j vars all h before = sym (before ∙ ap (λ l. copied_back l (drop i es) (drop j vs) vars) (drop_all i fs h))

copied_none : (fs : List FormalParameter) (vs : List Value) (vars : Variables) → copied_back fs [] vs vars ≡ so_far vars
copied_none [] vs vars = refl
copied_none (f ∷ fs) vs vars = refl

pub copy_past : (fs : List FormalParameter) (es : List PExpr) (vs : List Value) (i j : ℕ) (vars : Variables) (all : Copies)
    → length es ≤ i → all ≡ left_to_copy fs es vs i j vars → record { vars = vars; stopped = None } ≡ all
copy_past fs es vs i j vars all past before =
    sym (before ∙ ap (λ l. copied_back (drop i fs) l (drop j vs) vars) (drop_all i es past) ∙ copied_none (drop i fs) (drop j vs) vars)

-- copying at a formal with its actual
at_formal : (fs : List FormalParameter) (es : List PExpr) (vs : List Value) (i j : ℕ) (f d : FormalParameter) (e : PExpr) (vars : Variables)
    → i < length fs → f ≡ get_or fs i d → i < length es → e ≡ get_or es i e
    → left_to_copy fs es vs i j vars ≡ copied_one (λ ws changed. copied_back (drop (i + 1) fs) (drop (i + 1) es) ws changed) f.mode e (drop j vs) vars
at_formal fs es vs i j f d e vars h is he ise = λ k. copied_back (rest_at fs i f d h is k) (rest_at es i e e he ise k) (drop j vs) vars

pub copy_passes : (fs : List FormalParameter) (es : List PExpr) (vs : List Value) (i j : ℕ) (f d : FormalParameter) (e : PExpr) (b : Bool) (vars : Variables) (all : Copies)
    → i < length fs → f ≡ get_or fs i d → i < length es → e ≡ get_or es i e → b ≡ comes_back f.mode → b ≡ false
    → all ≡ left_to_copy fs es vs i j vars → all ≡ left_to_copy fs es vs (i + 1) j vars
copy_passes fs es vs i j f d e b vars all h is he ise asked passes before =
    before ∙ at_formal fs es vs i j f d e vars h is he ise
    ∙ passes_one (λ ws changed. copied_back (drop (i + 1) fs) (drop (i + 1) es) ws changed) f.mode e (drop j vs) vars (sym asked ∙ passes)

pub copy_lacks : (fs : List FormalParameter) (es : List PExpr) (vs : List Value) (i j : ℕ) (f d : FormalParameter) (e : PExpr) (b : Bool) (vars : Variables) (all : Copies)
    → i < length fs → f ≡ get_or fs i d → i < length es → e ≡ get_or es i e → b ≡ comes_back f.mode → b ≡ true → length vs ≤ j
    → all ≡ left_to_copy fs es vs i j vars → record { vars = vars; stopped = None } ≡ all
copy_lacks fs es vs i j f d e b vars all h is he ise asked back past before =
    let more : List Value → Variables → Copies = λ ws changed. copied_back (drop (i + 1) fs) (drop (i + 1) es) ws changed in
    sym
    (before ∙ at_formal fs es vs i j f d e vars h is he ise
    ∙ ap (λ l. copied_one more f.mode e l vars) (drop_all j vs past)
    ∙ lacks_one more f.mode e vars (sym asked ∙ back))

-- copying at a formal whose value comes back
at_value : (fs : List FormalParameter) (es : List PExpr) (vs : List Value) (i j : ℕ) (f d : FormalParameter) (e : PExpr) (v w : Value) (vars : Variables)
    → i < length fs → f ≡ get_or fs i d → i < length es → e ≡ get_or es i e → comes_back f.mode ≡ true → j < length vs → v ≡ get_or vs j w
    → left_to_copy fs es vs i j vars ≡ copies_on (λ changed. left_to_copy fs es vs (i + 1) (j + 1) changed) vars (stored_back vars (variable_of e) v)
at_value fs es vs i j f d e v w vars h is he ise back hv isv =
    let more : List Value → Variables → Copies = λ ws changed. copied_back (drop (i + 1) fs) (drop (i + 1) es) ws changed in
    at_formal fs es vs i j f d e vars h is he ise
    ∙ ap (λ l. copied_one more f.mode e l vars) (rest_at vs j v w hv isv)
    ∙ stores_one more f.mode e v (drop (j + 1) vs) vars back

pub copy_stores : (fs : List FormalParameter) (es : List PExpr) (vs : List Value) (i j : ℕ) (f d : FormalParameter) (e : PExpr) (b : Bool) (o : Option NameId) (v w : Value) (vars changed : Variables) (all : Copies)
    → i < length fs → f ≡ get_or fs i d → i < length es → e ≡ get_or es i e → b ≡ comes_back f.mode → b ≡ true → j < length vs → v ≡ get_or vs j w → o ≡ variable_of e
    → None ≡ raised_by (stored_back vars o v) → changed ≡ vars_or vars (stored_back vars o v)
    → all ≡ left_to_copy fs es vs i j vars → all ≡ left_to_copy fs es vs (i + 1) (j + 1) changed
copy_stores fs es vs i j f d e b o v w vars changed all h is he ise asked back hv isv named none stored before =
    let more : Variables → Copies = λ c. left_to_copy fs es vs (i + 1) (j + 1) c in
    before ∙ at_value fs es vs i j f d e v w vars h is he ise (sym asked ∙ back) hv isv
    ∙ ap (λ q. copies_on more vars (stored_back vars q v)) (sym named)
    ∙ goes_on more vars changed (stored_back vars o v) none stored

pub copy_stops : (fs : List FormalParameter) (es : List PExpr) (vs : List Value) (i j : ℕ) (f d : FormalParameter) (e : PExpr) (b : Bool) (o : Option NameId) (v w : Value) (x : Raised) (vars changed : Variables) (all : Copies)
    → i < length fs → f ≡ get_or fs i d → i < length es → e ≡ get_or es i e → b ≡ comes_back f.mode → b ≡ true → j < length vs → v ≡ get_or vs j w → o ≡ variable_of e
    → Some x ≡ raised_by (stored_back vars o v) → changed ≡ vars_or vars (stored_back vars o v)
    → all ≡ left_to_copy fs es vs i j vars → record { vars = changed; stopped = Some x } ≡ all
copy_stops fs es vs i j f d e b o v w x vars changed all h is he ise asked back hv isv named some stored before =
    let more : Variables → Copies = λ c. left_to_copy fs es vs (i + 1) (j + 1) c in
    stops_there more vars changed x (stored_back vars o v) some stored
    ∙ ap (λ q. copies_on more vars (stored_back vars q v)) named
    ∙ sym (before ∙ at_value fs es vs i j f d e v w vars h is he ise (sym asked ∙ back) hv isv)

-- ---- formals as variables

opened_first : (types : TypeTable) (f : FormalParameter) (fs : List FormalParameter) (vs : List Value) →
    opened_objects types (f ∷ fs) vs ≡ opened_object f (value_or_lower types f (slice_get vs 0)) ∷ opened_objects types fs (drop 1 vs)
opened_first types f fs [] = refl
opened_first types f fs (v ∷ vs) = refl

-- the formals from a place on, as variables
abbrev pub opened_from : TypeTable → List FormalParameter → List Value → ℕ → Variables
opened_from types fs vs i = opened_objects types (drop i fs) (drop i vs)

pub opens_one : (types : TypeTable) (fs : List FormalParameter) (vs : List Value) (done place : ℕ) (f d : FormalParameter) (o : Option Value) (v : Value) (old now later : Variables)
    → done < length fs → place ≡ length fs - 1 - done → f ≡ get_or fs place d → v ≡ value_or_lower types f o → o ≡ slice_get vs place
    → now ≡ opened_from types fs vs (length fs - done) ++ old
    → later ≡ opened_object f v ∷ now
    → later ≡ opened_from types fs vs (length fs - (done + 1)) ++ old
opens_one types fs vs done place f d o v old now later h at is found there before opens =
    let value : v ≡ value_or_lower types f (slice_get vs place) = found ∙ ap (value_or_lower types f) there in
    let within : place < length fs = omega arith in
    let next : place + 1 ≡ length fs - done = omega arith in
    let here : place ≡ length fs - (done + 1) = omega arith in
    opens
    ∙ (λ k. opened_object f (value k) ∷ before k)
    ∙ ap (λ n. opened_object f (value_or_lower types f (slice_get vs place)) ∷ (opened_from types fs vs n ++ old)) (sym next)
    ∙ ap (λ l. l ++ old)
    (sym
    (ap (λ l. opened_objects types l (drop place vs)) (rest_at fs place f d within is)
    ∙ opened_first types f (drop (place + 1) fs) (drop place vs)
    ∙ (λ k. opened_object f (value_or_lower types f (first_at vs place k)) ∷ opened_objects types (drop (place + 1) fs) (behind_at vs place k))))
    ∙ ap (λ n. opened_from types fs vs n ++ old) here

pub length_opened : (types : TypeTable) (fs : List FormalParameter) (vs : List Value) → length (opened_objects types fs vs) ≡ length fs
length_opened types [] vs = refl
length_opened types (f ∷ fs) [] = ap suc (length_opened types fs [])
length_opened types (f ∷ fs) (v ∷ vs) = ap suc (length_opened types fs vs)

pub opens_none : (types : TypeTable) (fs : List FormalParameter) (vs : List Value) (done : ℕ) (old now later : Variables)
    → done ≤ length fs → now ≡ opened_from types fs vs (length fs - done) ++ old → later ≡ drop done now → later ≡ old
opens_none types fs vs done old now later h before leaves =
    let opened : List Object = opened_from types fs vs (length fs - done) in
    let many : length opened ≡ done = omega (arith, length_opened types (drop (length fs - done) fs) (drop (length fs - done) vs), length-drop (length fs - done) fs) in
    leaves ∙ ap (drop done) before ∙ ap (λ n. drop n (opened ++ old)) (sym many) ∙ drop-append_seam opened old

pub opens_first : (types : TypeTable) (fs : List FormalParameter) (vs : List Value) (n : ℕ) (old : Variables) → length fs ≤ n → old ≡ opened_from types fs vs n ++ old
opens_first types fs vs n old h = ap (λ l. opened_objects types l (drop n vs) ++ old) (sym (drop_all n fs h))

pub opens_whole : (types : TypeTable) (fs : List FormalParameter) (vs : List Value) (n : ℕ) (old : Variables) → n ≡ 0 → opened_from types fs vs n ++ old ≡ opened_objects types fs vs ++ old
opens_whole types fs vs n old none = ap (λ k. opened_from types fs vs k ++ old) none

-- ---- the actuals, as the code has them

pub actual_within : (xs : List Expr) (i : ℕ) → i < length xs → i < length (map plain_expr xs)
actual_within xs i h = omega (arith, length-map xs plain_expr)

pub actual_past : (xs : List Expr) (i : ℕ) → length xs ≤ i → length (map plain_expr xs) ≤ i
actual_past xs i h = omega (arith, length-map xs plain_expr)

pub actual_here : (xs : List Expr) (i : ℕ) (x : Expr) → i < length xs → x ≡ get_or xs i x → plain_expr x ≡ get_or (map plain_expr xs) i (plain_expr x)
actual_here xs i x h is = ap plain_expr is ∙ sym (get_or-map plain_expr xs i x (plain_expr x) h)
