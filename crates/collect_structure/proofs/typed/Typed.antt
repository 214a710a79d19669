-- Each piece of a collecting text meets the static rules 1 and 3 to 12, and so does the body of a unit.
use Rattle.std.proofs.Common.{◌≡◌, ℕ, ◌==◌, ◌≤◌, Bool, true, false, not, if◌then◌else◌, List, [], ◌∷◌, Option, Some, None, is_some, IfSome, refl, sym, ap, subst, ◌∙◌, true≢false, eqb-true, eq-eqb}
use Rattle.std.specs.List.{AllByRecursion}
use Rattle.std.proofs.lemmas.List.Elements.{recursion_from_All}
use Rattle.common_lemmas.proofs.Truth.{and_left, and_right, not_true}
use Rattle.ada_tree.specs.declared.naming.NameId.{NameId}
use Rattle.ada_tree.specs.declared.naming.Span.{Span}
use Rattle.ada_tree.specs.declared.naming.Word.{Word}
use Rattle.ada_tree.specs.declared.statements.ParMode.TheVariants.{Take}
use Rattle.ada_tree.specs.TypeTable.{TypeTable}
use Rattle.ada_tree.specs.PlainExpr.{PExpr, EInteger, EName}
use Rattle.ada_tree.specs.PlainStmt.{PArgs, PChoice, PCall, PHead, PBody}
use Rattle.ada_tree.specs.PlainProgram.{PProgram}
use Rattle.ada_tree.specs.Every.{Rules, EveryWord, EveryArgs, EveryChoice}
use Rattle.ada_static_rules.specs.Scope.{Scope, Thing, Parameter, AsScalar, integer_kind, meaning, reading, reading_of, reading_of_mark, marking, mark_at, kind_at, entry_named}
use Rattle.ada_static_rules.specs.ExprTypes.{is_other_kind, name_kind}
use Rattle.ada_static_rules.specs.Declaring.{with_name, inner_scope, formal_thing, with_formals}
use Rattle.ada_static_rules.specs.RuleArrayUse.{array_in_node, whole_array}
use Rattle.ada_static_rules.specs.RuleMismatch.{no_value}
use Rattle.ada_static_rules.specs.RuleReadOut.{out_formal}
use Rattle.ada_static_rules.specs.Sites.{body_sites}
use Rattle.task_model.specs.Setting.{Setting, entry_of}
use Rattle.syn_event.specs.Numbering.{owner_of}
use Rattle.task_laws.specs.legal.asked.Asked.{Asks, AskedBody}
use Rattle.task_laws.specs.legal.asked.Kinds.{type_asks}
use Rattle.task_laws.proofs.legal.asked.Typed.{asked_typed}
use Rattle.task_laws.specs.legal.alike_scopes.Alike.{SameThing, SameTypes, SameNames}
use Rattle.task_laws.specs.legal.alike_scopes.Old.{IsOldExpr, IsOldChoice}
use Rattle.task_laws.specs.legal.alike_scopes.Laws.{IsMetBut}
use Rattle.task_laws.proofs.legal.alike_scopes.Marks.{scalar-reading}
use Rattle.normal_model.specs.RewrittenUnit.{RewrittenUnit}
use Rattle.normal_model.specs.Ranges.{word_at}
use Rattle.normal_laws.specs.structure.checked.Around.{own_rules}
use Rattle.normal_laws.proofs.structure.typed.Cases.{with_cases, cases_asked}
use Rattle.normal_laws.proofs.structure.typed.Literals.{integer-marked}
use Rattle.normal_laws.proofs.structure.typed.Places.{met-node}
use Rattle.normal_laws.proofs.structure.typed.Scopes.{meaning-more}
use Rattle.normal_laws.proofs.structure.typed.Stays.{old-expr, old-choices, no-array, condition-stays, loop-stays, choices-stay, selector-stays, handler-stays, plain-stays}
use Rattle.replay_model.specs.Asking.{member_number}
use Rattle.replay_structure.specs.typed.Controller.{IsInteger}
use Rattle.replay_structure.proofs.typed.Calls.{AreOldArgs, old-args}
use Rattle.replay_structure.proofs.typed.Tests.{IsFit, literal-fit}
use Rattle.collect_model.specs.Names.{caller_text, answer_text, collect_names, added_in}
use Rattle.collect_model.specs.Teller.{Teller}
use Rattle.collect_model.specs.Serving.{head_telling}
use Rattle.collect_model.specs.Calling.{entry_called, member_called}
use Rattle.collect_model.specs.Noting.{has_begun, has_delay, has_failed}
use Rattle.collect_model.specs.CollectStmts.{main_body, task_body}
use Rattle.collect_structure.specs.Names.{added_id}
use Rattle.collect_structure.specs.asked.Pieces.{own_call, call_call, begin_call, Pieces}
use Rattle.collect_structure.specs.typed.Told.{AreOuter, IsToldScope, unhidden, told_asks}
use Rattle.collect_structure.proofs.asked.Walk.{main-keeps, task-keeps}
use Rattle.collect_structure.proofs.typed.Notes.{CallMet, answer-met, late-met, watch-met, part-met, came-met, note-met, recorder-met}
use Rattle.collect_structure.proofs.typed.Calls.{x, callee-stays, telling-met, index-fit}
use Rattle.collect_structure.proofs.typed.Accepts.{there-is, head-met, begun-fit}
use Rattle.collect_structure.proofs.typed.Scopes.{IsStep, formals-step}
use Rattle.collect_structure.proofs.typed.Inside.{IsCallerApart, accept-scope, loop-scope-kept}
use Rattle.replay_structure.proofs.typed.Typed.{same}
use Rattle.ada_static_rules.proofs.found_twice.Declared.{formals_own as formals-own}

-- a formal of mode in of INTEGER
pub parameter-fit : (d : Scope) (id : NameId) (s : Span) (m : ℕ) → meaning d id ≡ Some (Parameter Take m) → reading_of_mark d.types (mark_at d.types m) ≡ AsScalar integer_kind → IsFit d integer_kind (EName id s)
parameter-fit d id s m means r =
    let read : reading d id ≡ AsScalar integer_kind = ap (reading_of d.types) means ∙ r in
    record {
      kind = ap (λ q. is_other_kind (Some integer_kind) (name_kind q)) read;
      raised = refl;
      parts = (
        met-node d false (EName id s) record {
          known = ap (λ o. if is_some o then [] else s ∷ []) means;
          matched = ap (λ q. no_value q s) read;
          readable = ap (λ o. out_formal o s) means;
          counted = refl;
          arrays = ap (λ q. whole_array q s) read;
          texts = refl;
        },
        tt,
      );
    }

pub integer-read : (d : Scope) (int : IsInteger d) → reading_of_mark d.types (mark_at d.types int.its.place) ≡ AsScalar integer_kind
integer-read d int = ap (reading_of_mark d.types) int.its.there ∙ scalar-reading int.its.mark.kind (kind_at d.types int.its.mark.kind) int.its.scalar.0 int.its.scalar.1 ∙ ap AsScalar int.its.kind

module _ (g : Setting) (task : ℕ) (old inner : ℕ → Bool) (outer : AreOuter g.program inner) (apart : IsCallerApart g old) where
  abbrev q : PProgram
  q = g.program

  abbrev u : RewrittenUnit
  u = record { setting = g; task = task }

  abbrev r : Rules
  r = own_rules old

  abbrev pub C : Type 0
  C = Prim.Unit {0} × Scope

  abbrev pub known : Asks C
  known = told_asks old inner

  -- a selector is of old names, and no whole array
  abbrev pub IsSelector : C → PExpr → Type 0
  IsSelector c e = IsOldExpr old e × (array_in_node c.1 e ≡ [])

  abbrev pub b : Asks C
  b = with_cases known IsSelector (IsOldChoice old)

  abbrev pub a : Asks Scope
  a = type_asks IsMetBut

  abbrev pub R : C → Scope → Type 0
  R c d = IsToldScope u old inner c.1 d

  -- nothing more is to be known of nesting
  abbrev pub H : ℕ → Type 0
  H k = Prim.Unit {0}

  pub if-args : (k : ℕ) (o : Option PArgs) → IfSome o (EveryArgs r k) → IfSome o (AreOldArgs old)
  if-args k None h = tt
  if-args k (Some args) h = old-args old k args h

  -- ---- inside an accept

  module _ (c : C) (d : Scope) (k : ℕ) (h : PHead) (rel : R c d) (i : b.head c k h) where
    abbrev inside : Scope
    inside = a.accepting d (head_telling (x g task old inner c.1 d rel) h)

    there : IsToldScope u old inner (b.accepting c h).1 inside
    there = accept-scope g task old inner outer apart c.1 d k h h.entry.span i.0.0.1 i.0.1.2 rel

    abbrev thing : Thing
    thing = formal_thing Take (marking (inner_scope d) (record { 0 = 0 }))

    abbrev w : Word
    w = word_at h.entry.span (added_id q caller_text)

    -- the scope behind the formal of the caller
    abbrev behind : Scope
    behind = with_name thing (inner_scope d) w

    step : IsStep old inner (inner_scope c.1) behind (with_formals (inner_scope c.1) h.formals) inside
    step = formals-step old inner h.formals i.0.1.2 (inner_scope c.1) behind

    -- the formal of the caller
    caller-means : meaning inside (added_id q caller_text) ≡ Some (Parameter Take rel.integer.its.place)
    caller-means =
        step.outer (added_id q caller_text) outer.caller
        ∙ meaning-more thing (inner_scope d) w (added_id q caller_text)
        ∙ ap (λ b. if b then Some thing else meaning d (added_id q caller_text)) (eq-eqb (added_id q caller_text).0 (added_id q caller_text).0 refl)
        ∙ ap (λ m. Some (formal_thing Take m)) (integer-marked d rel.integer.its)

    caller-fit : (s : Span) → IsFit inside integer_kind (EName (added_id q caller_text) s)
    caller-fit s =
        parameter-fit inside (added_id q caller_text) s rel.integer.its.place caller-means
        (subst (λ (T : TypeTable). reading_of_mark T (mark_at T rel.integer.its.place) ≡ AsScalar integer_kind) (sym step.types) (integer-read d rel.integer))

    -- what no accept and no loop hides means the same
    names : SameNames (unhidden old inner) c.1 inside
    names =
        let n : SameNames old c.1 d = rel.names in
        record {
          types = subst (SameTypes (unhidden old inner) c.1.types) (sym step.types) record {
            values = λ id e. n.types.values id (plain id e);
            marks = λ id e. n.types.marks id (plain id e);
            mark_kinds = λ id m e f. n.types.mark_kinds id m (plain id e) f;
            kinds = n.types.kinds;
            first_marks = n.types.first_marks;
            integers = n.types.integers;
            truths = n.types.truths;
          };
          things = λ id e.
              subst (λ (T : TypeTable). SameThing c.1.types T (meaning c.1 id) (meaning inside id)) (sym step.types)
              (subst (SameThing c.1.types d.types (meaning c.1 id)) (sym (stays id e)) (n.things id (plain id e)));
        }
      where
        plain : (id : NameId) → unhidden old inner id.0 ≡ true → old id.0 ≡ true
        plain id e = and_left (old id.0) (not (inner id.0)) e

        other : (id : NameId) → unhidden old inner id.0 ≡ true → ((added_id q caller_text).0 == id.0) ≡ false
        other id e = by_test ((added_id q caller_text).0 == id.0) refl
          where
            by_test : (t : Bool) → ((added_id q caller_text).0 == id.0) ≡ t → t ≡ false
            by_test false f = refl
            by_test true f = absurd (true≢false (sym (ap old (eqb-true (added_id q caller_text).0 id.0 f) ∙ and_left (old id.0) (not (inner id.0)) e) ∙ apart.new))

        stays : (id : NameId) → unhidden old inner id.0 ≡ true → meaning inside id ≡ meaning d id
        stays id e =
            step.outer id (not_true (inner id.0) (and_right (old id.0) (not (inner id.0)) e))
            ∙ meaning-more thing (inner_scope d) w id
            ∙ ap (λ b. if b then Some thing else meaning d id) (other id e)

    -- the note of the begin
    begun-met : (s : Span) → CallMet inside (begin_call (x g task old inner c.1 d rel) s h)
    begun-met s =
        let found = there-is (entry_named c.1.own h.entry.name) i.0.1.1 in
        note-met q (x g task old inner c.1 d rel) refl inside there.recorder there.answer s has_begun (EName (added_id q caller_text) s) (entry_of g.numbers task h.entry.name)
        ((x g task old inner c.1 d rel).member (entry_of g.numbers task h.entry.name) s h.index) task (caller-fit s)
        (begun-fit g task old inner c.1 d rel k h i.0.0.1 i.0.1.1 i.0.1.0 (unhidden old inner) inside names i.1
        (there.accepted h.entry.name found.0 (ap (λ l. entry_named l h.entry.name) (formals-own h.formals (inner_scope c.1)) ∙ found.1)) s)

  -- ---- all pieces

  abbrev told : Teller
  told = record { added = added_in (collect_names q); member = λ e s i. member_number g s e i; numbers = g.numbers; task = task }

  pub pieces : Pieces told H b a R
  pieces = record {
    here = λ c k s h. tt;
    here_accepted = λ c k h i. tt;
    outer = λ c d k n s rel h le. tt;
    many = λ n h. tt;
    some = λ n. tt;
    duration = λ n h. tt;
    plain = λ c d k n y i rel h le. plain-stays IsMetBut same old c.1 d rel.names k y i h.0 h.1;
    condition = λ c d k n e rel h le. condition-stays IsMetBut same old c.1 d rel.names e (old-expr old k e h.0) h.1;
    selector = λ c d k n e xs others s rel h le. selector-stays IsMetBut same old c.1 d rel.names e xs others s (old-expr old k e h.0.0) h.1 h.0.1;
    choices = λ c d k n e xs rel h le. choices-stay IsMetBut same old c.1 d rel.names e xs h.1.0 h.1.1 (old-choices old k xs (recursion_from_All (EveryChoice r k) xs h.0.0.1)) h.0.1;
    loop = λ c d k n w y rel h le. loop-stays IsMetBut same old c.1 d rel.names k w y h.0.1 h.1.0;
    looping = λ c d k w y rel h. loop-scope-kept g task old inner outer apart c.1 d k y h.0.1 h.1.1 rel;
    callee = λ c d k j n y rel h un i le. callee-stays g task old inner c.1 d rel y i.0.0 i.1.1 i.1.0;
    aborts = λ c d k n xs rel h le. tt;
    handlers = λ hs s h. tt;
    handled = λ c d k n ids ws rel h le. handler-stays IsMetBut same old c.1 d rel.names ids ws (recursion_from_All (EveryWord r) ws h.0) h.1;
    handling = λ c d rel. rel;
    wait = λ c d k n xs others s e rel near w all le. tt;
    delay = λ c d k n guard s rel near h le. tt;
    telling = λ c d k j n s y rel h un i m le. telling-met g task old inner c.1 d rel y i.0.0 i.1.1 (if-args j y.args m.0.1) m.1 s;
    head = λ c d k n h rel i le. head-met g task old inner c.1 d rel k h i.0.0.1 i.0.1.1 i.0.1.0;
    in_accept = λ c d k h rel i. there c d k h rel i;
    recorder = λ c d k n s rel h le. recorder-met q (x g task old inner c.1 d rel) refl d rel.recorder rel.answer s;
    own = λ c d k n s kind rel h few le. own-met c d rel s kind 0;
    delayed = λ c d k n xs others e s place rel h w few le. own-met c d rel s has_delay place;
    told = λ c d k j n s kind y rel h un i m few le. call-met c d rel s kind y (index-fit g task old inner c.1 d rel y i.0.0 i.1.1 (if-args j y.args m.0.1) m.1 s);
    failed = λ c d k j n s y rel h un i m le. call-met c d rel s has_failed y (index-fit g task old inner c.1 d rel y i.0.0 i.1.1 (if-args j y.args m.0.1) m.1 s);
    begun = λ c d k n s h rel i le. begun-met c d k h rel i s;
    part = λ c d k n s w rel h few le. part-met d (x g task old inner c.1 d rel) s w rel.part;
    came = λ c d k n s rel h le. came-met d (x g task old inner c.1 d rel) s rel.part;
    answered = λ c d k n s rel h le. answer-met d (added_id q answer_text) s rel.answer;
    late = λ c d k n s rel h le. late-met d s rel.tasking;
    watched = λ s l. tt;
    watch = λ c d k n s rel h le. watch-met d s rel.tasking;
    others = λ s l. tt;
    no_others = tt;
    other = λ c d k n rel h le. tt;
    null = λ c d k n s rel h le. tt;
    again = λ c d k n s rel h le. tt;
  }
    where
      own-met : (c : C) (d : Scope) (rel : R c d) (s : Span) (kind place : ℕ) → CallMet d (own_call (x g task old inner c.1 d rel) s kind place)
      own-met c d rel s kind place =
          note-met q (x g task old inner c.1 d rel) refl d rel.recorder rel.answer s kind (EInteger task s) place (EInteger 0 s) 0 (literal-fit d task s) (literal-fit d 0 s)

      call-met : (c : C) (d : Scope) (rel : R c d) (s : Span) (kind : ℕ) (y : PCall) → IsFit d integer_kind (member_called (x g task old inner c.1 d rel) s y) → CallMet d (call_call (x g task old inner c.1 d rel) s kind y)
      call-met c d rel s kind y i =
          note-met q (x g task old inner c.1 d rel) refl d rel.recorder rel.answer s kind (EInteger task s) (entry_called (x g task old inner c.1 d rel) y) (member_called (x g task old inner c.1 d rel) s y)
          (owner_of g.numbers (entry_called (x g task old inner c.1 d rel) y)) (literal-fit d task s) i

  -- ---- from what is asked of a body of the normal form

  selects : (c : C) (k : ℕ) (e : PExpr) (xs : List PChoice) (others : Bool) (s : Span) → known.selector c k e xs others s → IsSelector c e
  selects c k e xs others s h = (old-expr old k e h.0, no-array IsMetBut same c.1 e h.1.1)

  each : (c : C) (k : ℕ) (e : PExpr) (xs : List PChoice) → known.choices c k e xs → AllByRecursion (IsOldChoice old) xs
  each c k e xs h = old-choices old k xs (recursion_from_All (EveryChoice r k) xs h.0.1)

  -- The body of main, and that of a task, in the collecting text.
  pub main-met : (c : C) (d : Scope) (k : ℕ) (y : PBody) → R c d → 1 ≤ k → AskedBody known c k y → AllByRecursion IsMetBut (body_sites d (main_body told y))
  main-met c d k y rel low h = asked_typed IsMetBut d k (main_body told y) (main-keeps told H b a R pieces c d k y rel low (cases_asked known IsSelector (IsOldChoice old) selects each c k y h))

  pub task-met : (c : C) (d : Scope) (k : ℕ) (s : Span) (y : PBody) → R c d → 1 ≤ k → AskedBody known c k y → AllByRecursion IsMetBut (body_sites d (task_body told s y))
  task-met c d k s y rel low h = asked_typed IsMetBut d k (task_body told s y) (task-keeps told H b a R pieces c d k s y rel tt low (cases_asked known IsSelector (IsOldChoice old) selects each c k y h))
