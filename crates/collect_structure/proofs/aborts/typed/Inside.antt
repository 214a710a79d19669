-- What can be used inside an accept and a loop of a unit, in a collecting text of a program with abort statements: what can be used around it, the variables of the places, and the formal of the caller; and the note of the begin meets the static rules 1 and 3 to 12.
use Rattle.std.proofs.Common.{◌≡◌, ℕ, ◌==◌, Bool, true, false, not, if◌then◌else◌, Option, Some, None, is_some, IfSome, refl, sym, ap, subst, ◌∙◌, true≢false, eqb-true, eq-eqb}
use Rattle.common_lemmas.proofs.Truth.{and_left, and_right, not_true}
use Rattle.ada_tree.specs.declared.naming.NameId.{NameId}
use Rattle.ada_tree.specs.declared.naming.Span.{Span}
use Rattle.ada_tree.specs.declared.naming.Word.{Word}
use Rattle.ada_tree.specs.declared.statements.ParMode.TheVariants.{Take}
use Rattle.ada_tree.specs.TypeTable.{TypeTable}
use Rattle.ada_tree.specs.PlainExpr.{EName}
use Rattle.ada_tree.specs.PlainStmt.{PHead, PScheme, LFor, LWhile}
use Rattle.ada_tree.specs.PlainProgram.{PProgram}
use Rattle.ada_tree.specs.Every.{EveryHead}
use Rattle.ada_static_rules.specs.Scope.{Scope, Thing, Parameter, AsScalar, integer_kind, meaning, reading_of_mark, marking, mark_at, entry_named, and_then}
use Rattle.ada_static_rules.specs.Declaring.{with_name, inner_scope, formal_thing, with_formals, first_mark_of, drange_kind, loop_thing}
use Rattle.ada_static_rules.specs.Sites.{all_names, head_sites, loop_scope}
use Rattle.task_model.specs.Setting.{Setting, entry_of}
use Rattle.task_laws.specs.legal.alike_scopes.Alike.{SameThing, SameTypes, SameNames}
use Rattle.task_laws.specs.legal.alike_scopes.Old.{IsOldExpr}
use Rattle.normal_model.specs.RewrittenUnit.{RewrittenUnit}
use Rattle.normal_model.specs.Ranges.{word_at}
use Rattle.normal_laws.specs.structure.checked.Around.{own_rules}
use Rattle.normal_laws.proofs.structure.typed.Literals.{integer-marked}
use Rattle.normal_laws.proofs.structure.typed.Scopes.{meaning-more, loop-no-task}
use Rattle.normal_laws.proofs.structure.typed.Variables.{AllMetBut}
use Rattle.replay_structure.specs.typed.ScopeOf.{AreInner, IsInnerScheme}
use Rattle.replay_structure.proofs.typed.Tests.{IsFit}
use Rattle.collect_model.specs.Names.{caller_text}
use Rattle.collect_model.specs.Noting.{has_begun}
use Rattle.collect_model.specs.Serving.{head_telling}
use Rattle.collect_structure.specs.Names.{added_id}
use Rattle.collect_structure.specs.asked.Pieces.{begin_call}
use Rattle.collect_structure.specs.typed.Told.{AreOuter, IsToldScope, unhidden}
use Rattle.collect_structure.proofs.typed.Notes.{CallMet, note-met}
use Rattle.collect_structure.proofs.typed.Calls.{x}
use Rattle.collect_structure.proofs.typed.Accepts.{there-is, begun-fit}
use Rattle.collect_structure.proofs.typed.Scopes.{IsStep, formals-step, one-step}
use Rattle.collect_structure.proofs.typed.Inside.{IsCallerApart, accept-scope}
use Rattle.collect_model.specs.aborts.AbortTeller.{AbortTeller}
use Rattle.collect_structure.specs.aborts.typed.Told.{ArePlacesOuter, IsOutside, SeesPlaces}
use Rattle.collect_structure.proofs.aborts.typed.Places.{places-step}
use Rattle.collect_structure.proofs.typed.Typed.{parameter-fit, integer-read}
use Rattle.ada_static_rules.proofs.found_twice.Declared.{formals_own as formals-own}

-- ---- accepts

module _ (g : Setting) (task : ℕ) (old inner : ℕ → Bool) (outer : AreOuter g.program inner) (apart : IsCallerApart g old) (c d : Scope) (k : ℕ) (h : PHead)
    (rel : IsToldScope (record { setting = g; task = task }) old inner c d) (every : EveryHead (own_rules old) k h)
    (mine : is_some (entry_named c.own h.entry.name) ≡ true) (words : AreInner inner (all_names h.formals)) where
  abbrev q : PProgram
  q = g.program

  abbrev u : RewrittenUnit
  u = record { setting = g; task = task }

  abbrev pub inside : Scope
  inside = with_formals (inner_scope d) (head_telling (x g task old inner c d rel) h).formals

  abbrev around : Scope
  around = with_formals (inner_scope c) h.formals

  pub inside-told : IsToldScope u old inner around inside
  inside-told = accept-scope g task old inner outer apart c d k h h.entry.span every words rel

  abbrev thing : Thing
  thing = formal_thing Take (marking (inner_scope d) (record { 0 = 0 }))

  abbrev w : Word
  w = word_at h.entry.span (added_id q caller_text)

  -- the scope behind the formal of the caller
  abbrev behind : Scope
  behind = with_name thing (inner_scope d) w

  step : IsStep old inner (inner_scope c) behind around inside
  step = formals-step old inner h.formals words (inner_scope c) behind

  -- a name that the text does not hide means the same
  pub inside-means : (id : NameId) → IsOutside q inner id → meaning inside id ≡ meaning d id
  inside-means id o = step.outer id o.shown ∙ meaning-more thing (inner_scope d) w id ∙ ap (λ b. if b then Some thing else meaning d id) o.caller

  pub inside-places : (y : AbortTeller) (most : ℕ) → ArePlacesOuter q inner y most → SeesPlaces y most d → SeesPlaces y most inside
  inside-places y most o seen = places-step y most d inside (λ p i. inside-means (y.taken p) (o.taken p i)) (λ p i. inside-means (y.refused p) (o.refused p i)) step.types seen

  -- the formal of the caller
  caller-means : meaning inside (added_id q caller_text) ≡ Some (Parameter Take rel.integer.its.place)
  caller-means =
      step.outer (added_id q caller_text) outer.caller
      ∙ meaning-more thing (inner_scope d) w (added_id q caller_text)
      ∙ ap (λ b. if b then Some thing else meaning d (added_id q caller_text)) (eq-eqb (added_id q caller_text).0 (added_id q caller_text).0 refl)
      ∙ ap (λ m. Some (formal_thing Take m)) (integer-marked d rel.integer.its)

  pub caller-fit : (s : Span) → IsFit inside integer_kind (EName (added_id q caller_text) s)
  caller-fit s =
      parameter-fit inside (added_id q caller_text) s rel.integer.its.place caller-means
      (subst (λ (T : TypeTable). reading_of_mark T (mark_at T rel.integer.its.place) ≡ AsScalar integer_kind) (sym step.types) (integer-read d rel.integer))

  -- what no accept and no loop hides means the same
  names : SameNames (unhidden old inner) c inside
  names =
      let n : SameNames old c d = rel.names in
      record {
        types = subst (SameTypes (unhidden old inner) c.types) (sym step.types) record {
          values = λ id e. n.types.values id (plain id e);
          marks = λ id e. n.types.marks id (plain id e);
          mark_kinds = λ id m e f. n.types.mark_kinds id m (plain id e) f;
          kinds = n.types.kinds;
          first_marks = n.types.first_marks;
          integers = n.types.integers;
          truths = n.types.truths;
        };
        things = λ id e.
            subst (λ (T : TypeTable). SameThing c.types T (meaning c id) (meaning inside id)) (sym step.types)
            (subst (SameThing c.types d.types (meaning c id)) (sym (stays id e)) (n.things id (plain id e)));
      }
    where
      plain : (id : NameId) → unhidden old inner id.0 ≡ true → old id.0 ≡ true
      plain id e = and_left (old id.0) (not (inner id.0)) e

      other : (id : NameId) → unhidden old inner id.0 ≡ true → ((added_id q caller_text).0 == id.0) ≡ false
      other id e = by_test ((added_id q caller_text).0 == id.0) refl
        where
          by_test : (t : Bool) → ((added_id q caller_text).0 == id.0) ≡ t → t ≡ false
          by_test false f = refl
          by_test true f = absurd (true≢false (sym (ap old (eqb-true (added_id q caller_text).0 id.0 f) ∙ and_left (old id.0) (not (inner id.0)) e) ∙ apart.new))

      stays : (id : NameId) → unhidden old inner id.0 ≡ true → meaning inside id ≡ meaning d id
      stays id e = inside-means id record { shown = not_true (inner id.0) (and_right (old id.0) (not (inner id.0)) e); caller = other id e }

  -- the note of the begin
  pub begun-met : AllMetBut (head_sites c h) → IfSome h.index (IsOldExpr (unhidden old inner)) → (s : Span) → CallMet inside (begin_call (x g task old inner c d rel) s h)
  begun-met m indexed s =
      let found = there-is (entry_named c.own h.entry.name) mine in
      note-met q (x g task old inner c d rel) refl inside inside-told.recorder inside-told.answer s has_begun (EName (added_id q caller_text) s) (entry_of g.numbers task h.entry.name)
      ((x g task old inner c d rel).member (entry_of g.numbers task h.entry.name) s h.index) task (caller-fit s)
      (begun-fit g task old inner c d rel k h every mine m (unhidden old inner) inside names indexed
      (inside-told.accepted h.entry.name found.0 (ap (λ l. entry_named l h.entry.name) (formals-own h.formals (inner_scope c)) ∙ found.1)) s)

-- ---- loops

-- where a loop declares its parameter, the variables of the places are seen
pub loop-places : (q : PProgram) (old inner : ℕ → Bool) (y : AbortTeller) (most : ℕ) → ArePlacesOuter q inner y most → (d : Scope) (o : Option PScheme) →
    IfSome o (IsInnerScheme inner) → SeesPlaces y most d →
    SeesPlaces y most (loop_scope d o)
loop-places q old inner y most o d None i seen = seen
loop-places q old inner y most o d (Some (LWhile e)) i seen = seen
loop-places q old inner y most o d (Some (LFor w backwards r)) i seen =
    let thing : Thing = loop_thing (and_then (first_mark_of d.types) (drange_kind d r)) in
    let step : IsStep old inner (inner_scope d) (inner_scope d) (with_name thing (inner_scope d) w) (with_name thing (inner_scope d) w) =
    one-step old inner thing thing (loop-no-task (and_then (first_mark_of d.types) (drange_kind d r))) w i (inner_scope d) (inner_scope d) in
    places-step y most d (with_name thing (inner_scope d) w) (λ p j. step.outer (y.taken p) (o.taken p j).shown) (λ p j. step.outer (y.refused p) (o.refused p j).shown) step.types seen
