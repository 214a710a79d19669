-- The body of the recorder of a collecting text of a program with abort statements meets the static rules 1 and 3 to 12.
use Rattle.std.proofs.Common.{List, None, Some, [], ap, drop, false, length, pos, refl, subst, sym, take, ℕ, ◌++◌, ◌==◌, ◌∙◌, ◌∷◌, ◌≡◌}
use Rattle.std.specs.List.{AllByRecursion}
use Rattle.common_lemmas.proofs.Lists.{all_joined}
use Rattle.ada_tree.specs.Lexical.{IsInteger as IsLiteral}
use Rattle.ada_tree.specs.NameList.{predefined}
use Rattle.ada_tree.specs.PlainDecl.{PDecls, decls_of}
use Rattle.ada_tree.specs.PlainProgram.{PProgram}
use Rattle.ada_tree.specs.PlainStmt.{PBody, PHead, body, no_handler, stmt_then}
use Rattle.ada_tree.specs.TypeTable.{TypeTable}
use Rattle.ada_tree.specs.declared.naming.NameId.{NameId}
use Rattle.ada_tree.specs.declared.naming.Span.{Span}
use Rattle.ada_tree.specs.declared.naming.Word.{Word}
use Rattle.ada_tree.specs.declared.statements.ParMode.TheVariants.{Give, Take}
use Rattle.ada_tree.specs.declared.static_types.Kind.TheVariants.{Array}
use Rattle.ada_tree.specs.declared.static_types.Mark.{Mark}
use Rattle.ada_static_rules.specs.Declaring.{add_kind, add_mark, after_objects, after_own_object, formal_thing, in_body, inner_scope, own_entries, with_formals, with_name, with_names, with_types}
use Rattle.ada_static_rules.specs.Demand.{Site}
use Rattle.ada_static_rules.specs.Scope.{Parameter, Scope, Thing, Variable, entry_named, integer_kind, marking, marking_of, meaning, reading_of, single}
use Rattle.ada_static_rules.specs.Sites.{accept_sites, body_sites, decl_sites, head_sites, own_object_sites, own_sites, stmt_sites, stmts_sites}
use Rattle.syn_event.specs.declared.numbering.TaskInfo.{TaskInfo}
use Rattle.task_laws.proofs.legal.alike_scopes.Marks.{values-reading}
use Rattle.task_laws.proofs.legal.rewritten_types.Keeping.{grows-self, keeps-array_kind, keeps-mark, keeps-on, keeps-self, unnamed}
use Rattle.task_laws.proofs.legal.types.GoodScopes.{IsIn, names-kept, names-new, in-later as in-behind}
use Rattle.task_laws.specs.legal.alike_scopes.Laws.{IsMetBut}
use Rattle.task_laws.specs.legal.rewritten_types.Agreement.{IsScalar, Keeps}
use Rattle.normal_model.specs.Making.{one}
use Rattle.normal_model.specs.Ranges.{word_at}
use Rattle.normal_laws.proofs.structure.typed.Literals.{integer-marked}
use Rattle.normal_laws.proofs.structure.typed.Places.{gives-met}
use Rattle.normal_laws.proofs.structure.typed.Variables.{AllMetBut}
use Rattle.replay_model.specs.ReplayTree.{last_task}
use Rattle.replay_structure.proofs.scopes.Permit.{only}
use Rattle.replay_structure.proofs.typed.Control.{integer-range, listed-accept}
use Rattle.replay_structure.specs.typed.Controller.{IsInteger}
use Rattle.replay_structure.specs.typed.ScopeOf.{HasLists, IsSingle}
use Rattle.collect_model.specs.Lines.{header_put}
use Rattle.collect_model.specs.Names.{added_in, argument_text, collect_names, gone_text, index_text, kind_text, met_text, owner_text, reply_text, subject_text}
use Rattle.collect_model.specs.Recording.{flags_declared, note_formals}
use Rattle.collect_model.specs.declared.AddedNames.{AddedNames}
use Rattle.collect_structure.proofs.declares_once.Ids.{new-not-predefined, texts-apart}
use Rattle.collect_structure.proofs.typed.Added.{name-keeps, name-means, note-formals-met, predefined-step}
use Rattle.collect_structure.proofs.typed.Flags.{flags-declared-behind, flags-declared-met, flags-declared-seen, flags-step, flags-type-step}
use Rattle.collect_structure.proofs.typed.Truths.{truth-marked, truth-range}
use Rattle.collect_structure.specs.typed.Recording.{AreFlags, ArePredefined, IsFlagsType, IsInNumber, IsOutTruth, IsRecording, integer_values, truth_values}
use Rattle.collect_structure.specs.typed.Told.{note_parts}
use Rattle.collect_model.specs.aborts.AbortTeller.{AbortTeller}
use Rattle.collect_model.specs.aborts.Recording.{calls_declared, note_accept, note_taken, notes_taken, recorder_body}
use Rattle.collect_structure.proofs.aborts.typed.Noted.{IsTaking, note-taken-met}
use Rattle.collect_structure.proofs.aborts.typed.Tables.{place, table-grows, table-seen, table-step, table_types, tables-declared-behind, tables-declared-met}
use Rattle.collect_structure.specs.aborts.typed.Recording.{AreApart, IsNone, IsTable, formal_names}
use Rattle.collect_structure.proofs.typed.Recorder.{AreOther, behind-none, new-other, five-predefined, five-gone, five-met, same-formals}
use Rattle.normal_laws.proofs.legality.scopes.Kept.{word-in as in-front}

-- tasks that can be seen
abbrev pub AreSeen : Scope → List TaskInfo → Type 0
AreSeen d infos = AllByRecursion (λ (info : TaskInfo). IsSingle (meaning d info.name)) infos

-- what main is told, with other names
abbrev pub renamed : AbortTeller → AddedNames → AbortTeller
renamed x n = record {
  teller = record { added = n; member = x.teller.member; numbers = x.teller.numbers; task = x.teller.task };
  acceptors = x.acceptors;
  each = x.each;
  taken = x.taken;
  refused = x.refused;
}

module _ (q : PProgram) (begins : take (length predefined) q.names ≡ predefined) (z : AbortTeller) (apart : AreApart (renamed z (added_in (collect_names q))))
    (few : IsLiteral (length z.teller.numbers.tasks)) (s : Span) where
  abbrev x : AbortTeller
  x = renamed z (added_in (collect_names q))

  abbrev n : AddedNames
  n = added_in (collect_names q)

  abbrev infos : List TaskInfo
  infos = drop 1 z.teller.numbers.tasks

  -- tasks whose names are declared nowhere in the recorder's body
  abbrev AreFree : List TaskInfo → Type 0
  AreFree xs = AllByRecursion (λ (info : TaskInfo). IsNone (n.gone ∷ n.met ∷ z.acceptors ∷ formal_names n) info.name) xs

  -- ---- names

  abbrev last_two : List Word
  last_two = word_at s n.index ∷ word_at s n.owner ∷ []

  abbrev last_four : List Word
  last_four = word_at s n.subject ∷ word_at s n.argument ∷ last_two

  abbrev five : List Word
  five = word_at s n.kind ∷ last_four

  abbrev reply : List Word
  reply = word_at s n.reply ∷ []

  -- ---- the accept

  module _ (e : Scope) (known : ArePredefined e) (gone : AreFlags e n.gone) (met : IsTable e n.met) (acceptors : IsTable e z.acceptors) (tasks : AreSeen e infos) where
    abbrev numbered : Thing
    numbered = formal_thing Take (marking (inner_scope e) (record { 0 = 0 }))

    numbered-is : numbered ≡ Parameter Take known.integer.its.place
    numbered-is = ap (formal_thing Take) (integer-marked e known.integer.its)

    abbrev middle : Scope
    middle = with_names numbered (inner_scope e) five

    middle-kept : (id : NameId) → AreOther five id → meaning middle id ≡ meaning e id
    middle-kept id o = names-kept numbered five (inner_scope e) id o

    abbrev answering : Thing
    answering = formal_thing Give (marking middle (record { 0 = 3 }))

    answering-is : answering ≡ Parameter Give known.truth.place
    answering-is = ap (formal_thing Give) (ap (marking_of e.types) (middle-kept (record { 0 = 3 }) (five-predefined q begins s 3 refl)) ∙ truth-marked e known.truth)

    abbrev inside : Scope
    inside = with_formals (inner_scope e) (note_formals n s)

    inside-kept : (id : NameId) → AreOther five id → (n.reply.0 == id.0) ≡ false → meaning inside id ≡ meaning e id
    inside-kept id o r = names-kept answering reply middle id (r, tt) ∙ middle-kept id o

    number-means : (id : NameId) → IsIn five id → (n.reply.0 == id.0) ≡ false → meaning inside id ≡ Some (Parameter Take known.integer.its.place)
    number-means id i r = names-kept answering reply middle id (r, tt) ∙ names-new numbered five (inner_scope e) id i ∙ ap Some numbered-is

    number-seen : (id : NameId) → IsIn five id → (n.reply.0 == id.0) ≡ false → IsInNumber inside id
    number-seen id i r = record {
      place = known.integer.its.place;
      means = number-means id i r;
      values = integer-range e known.integer;
      read =
          ap (reading_of e.types) (number-means id i r) ∙ values-reading e.types known.integer.its.place integer_values (integer-range e known.integer)
          (subst (IsScalar e.types) known.integer.its.kind known.integer.its.scalar);
    }

    reply-means : meaning inside n.reply ≡ Some (Parameter Give known.truth.place)
    reply-means = name-means middle answering (word_at s n.reply) ∙ ap Some answering-is

    reply-seen : IsOutTruth inside n.reply
    reply-seen = record {
      place = known.truth.place;
      means = reply-means;
      read = ap (reading_of e.types) reply-means ∙ values-reading e.types known.truth.place truth_values (truth-range e known.truth) (subst (IsScalar e.types) known.truth.kind known.truth.scalar);
    }

    in-two : (id : NameId) → IsIn last_two id → IsIn five id
    in-two id i = in-behind (word_at s n.kind) last_four id (in-behind (word_at s n.subject) (word_at s n.argument ∷ last_two) id (in-behind (word_at s n.argument) last_two id i))

    -- a name that is none of the formals'
    free-kept : (id : NameId) → IsNone (formal_names n) id → meaning inside id ≡ meaning e id
    free-kept id f = inside-kept id (f.0, (f.1.0, (f.1.1.0, (f.1.1.1.0, (f.1.1.1.1.0, tt))))) f.1.1.1.1.1.0

    tasks-inside : (xs : List TaskInfo) → AreSeen e xs →
        AreFree xs → AreSeen inside xs
    tasks-inside [] h f = tt
    tasks-inside (info ∷ xs) h f = (
      (h.0.0, free-kept info.name f.0.1.1.1 ∙ h.0.1),
      tasks-inside xs h.1 f.1,
    )

    taking : IsTaking x inside
    taking = record {
      known = predefined-step e inside (λ k p. inside-kept (record { 0 = k }) (five-predefined q begins s k p) (new-other q begins s reply_text refl refl k p)) (keeps-self e.types) known;
      kind = number-seen n.kind (in-front (word_at s n.kind) last_four) (texts-apart q reply_text kind_text refl refl refl refl);
      subject =
          number-seen n.subject (in-behind (word_at s n.kind) last_four n.subject (in-front (word_at s n.subject) (word_at s n.argument ∷ last_two)))
          (texts-apart q reply_text subject_text refl refl refl refl);
      argument =
          number-seen n.argument
          (in-behind (word_at s n.kind) last_four n.argument
          (in-behind (word_at s n.subject) (word_at s n.argument ∷ last_two) n.argument (in-front (word_at s n.argument) last_two)))
          (texts-apart q reply_text argument_text refl refl refl refl);
      index = number-seen n.index (in-two n.index (in-front (word_at s n.index) (word_at s n.owner ∷ []))) (texts-apart q reply_text index_text refl refl refl refl);
      owner =
          number-seen n.owner (in-two n.owner (in-behind (word_at s n.index) (word_at s n.owner ∷ []) n.owner (in-front (word_at s n.owner) [])))
          (texts-apart q reply_text owner_text refl refl refl refl);
      reply = reply-seen;
      gone = flags-step e inside n.gone (inside-kept n.gone (five-gone q begins s) (texts-apart q reply_text gone_text refl refl refl refl)) (grows-self e.types) gone;
      met = table-step e inside n.met (inside-kept n.met (five-met q begins s) (texts-apart q reply_text met_text refl refl refl refl)) (grows-self e.types) met;
      acceptors = table-step e inside z.acceptors (free-kept z.acceptors apart.formals) (grows-self e.types) acceptors;
      tasks = tasks-inside infos tasks apart.tasks;
    }

    accept-met : HasLists (entry_named e.own n.note) single (note_parts q) → AllMetBut (accept_sites e (note_accept x s))
    accept-met own =
        let head : PHead = record { entry = word_at s n.note; index = None; formals = note_formals n s; span = s } in
        all_joined IsMetBut (head_sites e head) (stmts_sites inside (note_taken x s))
        (listed-accept e head single (note_parts q) own refl (same-formals q begins s) tt (note-formals-met n e known s e known.integer.its known.truth)) (note-taken-met x apart few inside taking s)

    -- the loop
    notes-met : HasLists (entry_named e.own n.note) single (note_parts q) → AllMetBut (stmt_sites e (notes_taken x s))
    notes-met own =
        let here : List Site = accept_sites e (note_accept x s) in
        behind-none (here ++ [] ++ [] ++ []) (behind-none (here ++ [] ++ []) (behind-none (here ++ []) (behind-none here (accept-met own))))

  -- ---- the body

  module _ (d : Scope) (h : IsRecording q d) (tasks : AreSeen d infos) where
    abbrev array : Thing
    array = Variable h.flags.place

    abbrev started : Scope
    started = in_body d (word_at s n.recorder)

    started-known : ArePredefined started
    started-known = predefined-step d started (λ k p. refl) (keeps-self d.types) h.predefined

    abbrev started-flags : IsFlagsType started n.flags
    started-flags = flags-type-step d started n.flags refl (grows-self d.types) h.flags

    -- behind DED_GONE
    abbrev first : Scope
    first = with_name array started (word_at s n.gone)

    first-is : after_own_object started (flags_declared n s n.gone) ≡ first
    first-is = flags-declared-behind n started started-known started-flags s n.gone

    first-known : ArePredefined first
    first-known = predefined-step started first (name-keeps started array (word_at s n.gone) (new-not-predefined q begins gone_text refl refl)) (keeps-self d.types) started-known

    -- behind DED_MET and DED_ACC
    abbrev last : ℕ
    last = last_task z.teller.numbers

    abbrev ws : List Word
    ws = word_at s n.met ∷ word_at s z.acceptors ∷ []

    abbrev int : IsInteger first
    int = first-known.integer

    abbrev types : TypeTable
    types = table_types first int s last ws

    abbrev table : Thing
    table = Variable (place first int s last ws)

    abbrev second : Scope
    second = with_names table (with_types types first) ws

    abbrev objects : PDecls
    objects = decls_of (flags_declared n s n.gone ∷ calls_declared x s ∷ [])

    second-is : after_objects started objects ≡ second
    second-is = ap (λ (e : Scope). after_own_object e (calls_declared x s)) first-is ∙ tables-declared-behind first int s last ws

    objects-met : AllMetBut (own_sites started objects)
    objects-met =
        all_joined IsMetBut (own_object_sites started (flags_declared n s n.gone)) (own_object_sites (after_own_object started (flags_declared n s n.gone)) (calls_declared x s) ++ [])
        (flags-declared-met n started started-known started-flags s n.gone)
        (subst (λ (e : Scope). AllMetBut (own_object_sites e (calls_declared x s) ++ [])) (sym first-is)
        (behind-none (own_object_sites first (calls_declared x s)) (tables-declared-met first int s last ws)))

    abbrev within : Scope
    within = inner_scope second

    types-kept : Keeps (only (record { 0 = 0 })) first.types types
    types-kept =
        let grown : TypeTable = add_kind first.types (Array integer_kind (pos 0) (pos last) int.its.place) in
        let mark : Mark = record { name = None; kind = length first.types.kinds; first = pos 0; last = pos last } in
        let kind-kept : Keeps (only (record { 0 = 0 })) first.types grown = keeps-array_kind first.types integer_kind (pos 0) (pos last) int.its.place in
        let mark-kept : Keeps (only (record { 0 = 0 })) grown (add_mark grown mark) = keeps-mark grown mark (unnamed (only (record { 0 = 0 }))) in keeps-on kind-kept mark-kept

    known-within : ArePredefined within
    known-within =
        predefined-step first within
        (λ k p.
        name-keeps (with_name table (with_types types first) (word_at s n.met)) table (word_at s z.acceptors) apart.predefined k p
        ∙ name-keeps (with_types types first) table (word_at s n.met) (new-not-predefined q begins met_text refl refl) k p)
        types-kept first-known

    kept : (id : NameId) → (n.met.0 == id.0) ≡ false → (z.acceptors.0 == id.0) ≡ false → meaning within id ≡ meaning first id
    kept id a b = names-kept table ws (with_types types first) id (a, (b, tt))

    gone-within : AreFlags within n.gone
    gone-within =
        flags-step first within n.gone (kept n.gone (texts-apart q met_text gone_text refl refl refl refl) apart.gone)
        (table-grows first int s last ws) (flags-declared-seen n started started-known started-flags s n.gone)

    table-within : (id : NameId) → IsIn ws id → IsTable within id
    table-within id i = table-seen first int s last ws id (names-new table ws (with_types types first) id i) within refl refl

    tasks-within : (xs : List TaskInfo) → AreSeen d xs →
        AreFree xs → AreSeen within xs
    tasks-within [] t f = tt
    tasks-within (info ∷ xs) t f = (
      (t.0.0, kept info.name f.0.1.0 f.0.1.1.0 ∙ names-kept array (word_at s n.gone ∷ []) started info.name (f.0.0, tt) ∙ t.0.1),
      tasks-within xs t.1 f.1,
    )

    own-within : HasLists (entry_named within.own n.note) single (note_parts q)
    own-within = subst (λ l. HasLists (entry_named l n.note) single (note_parts q)) (sym (ap own_entries h.recorder.means)) h.recorder.note

    loop-met : AllMetBut (stmt_sites within (notes_taken x s))
    loop-met =
        notes-met within known-within gone-within (table-within n.met (in-front (word_at s n.met) (word_at s z.acceptors ∷ [])))
        (table-within z.acceptors (in-behind (word_at s n.met) (word_at s z.acceptors ∷ []) z.acceptors (in-front (word_at s z.acceptors) [])))
        (tasks-within infos tasks apart.tasks) own-within

    told-met : (header : List ℕ) → AllMetBut (decl_sites d (recorder_body x s header))
    told-met header =
        let its : PBody = body (stmt_then (header_put s header) (one (notes_taken x s))) no_handler in
        let told : List Site = stmt_sites within (notes_taken x s) in (
          gives-met d (word_at s n.recorder) h.recorder.entries h.recorder.means,
          all_joined IsMetBut (own_sites started objects) (body_sites (inner_scope (after_objects started objects)) its) objects-met
              (subst (λ (e : Scope). AllMetBut (body_sites (inner_scope e) its)) (sym second-is) (behind-none (told ++ []) (behind-none told loop-met))),
        )

-- Where the recorder, the type of flags and the tasks are seen, nothing is refused in the recorder's body.
pub recorder-body-met : (q : PProgram) → take (length predefined) q.names ≡ predefined → (x : AbortTeller) → x.teller.added ≡ added_in (collect_names q) → AreApart x →
    IsLiteral (length x.teller.numbers.tasks) →
    (s : Span) (d : Scope) → IsRecording q d → AreSeen d (drop 1 x.teller.numbers.tasks) → (header : List ℕ) → AllMetBut (decl_sites d (recorder_body x s header))
recorder-body-met q begins x is apart few s d h tasks header =
    subst (λ n. AllMetBut (decl_sites d (recorder_body (renamed x n) s header))) (sym is)
    (told-met q begins x (subst (λ n. AreApart (renamed x n)) is apart) few s d h tasks header)
