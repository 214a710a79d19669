-- The body of a collecting text's recorder meets the static rules 1 and 3 to 12.
use Rattle.std.proofs.Common.{Bool, List, None, Some, [], ap, eq-eqb, eqb-true, false, length, refl, subst, sym, take, true, true≢false, ℕ, ◌&&◌, ◌++◌, ◌==◌, ◌∙◌, ◌∷◌, ◌≡◌}
use Rattle.std.specs.List.{AllByRecursion}
use Rattle.common_lemmas.proofs.Lists.{all_joined}
use Rattle.ada_tree.specs.NameList.{predefined}
use Rattle.ada_tree.specs.PlainDecl.{PDecls, decls_of}
use Rattle.ada_tree.specs.PlainProgram.{PProgram}
use Rattle.ada_tree.specs.PlainStmt.{PBody, PHead, body, no_handler, stmt_then}
use Rattle.ada_tree.specs.declared.naming.NameId.{NameId}
use Rattle.ada_tree.specs.declared.naming.Span.{Span}
use Rattle.ada_tree.specs.declared.naming.Word.{Word}
use Rattle.ada_tree.specs.declared.statements.ParMode.TheVariants.{Give, Take}
use Rattle.ada_static_rules.specs.Declaring.{after_objects, after_own_object, formal_thing, in_body, inner_scope, own_entries, with_formals, with_name, with_names}
use Rattle.ada_static_rules.specs.Demand.{Site}
use Rattle.ada_static_rules.specs.RuleArgCount.{are_same, written_formals}
use Rattle.ada_static_rules.specs.RuleDuplicate.{is_predefined}
use Rattle.ada_static_rules.specs.Scope.{Parameter, Scope, Thing, Variable, entry_named, marking, marking_of, meaning, reading_of, single}
use Rattle.ada_static_rules.specs.Sites.{accept_sites, body_sites, decl_sites, head_sites, own_object_sites, own_sites, stmt_sites, stmts_sites}
use Rattle.task_laws.proofs.legal.alike_scopes.Marks.{values-reading}
use Rattle.task_laws.proofs.legal.rewritten_types.Keeping.{grows-self, keeps-self}
use Rattle.task_laws.proofs.legal.types.GoodScopes.{IsIn, names-kept, names-new, in-later as in-behind}
use Rattle.task_laws.specs.legal.alike_scopes.Laws.{IsMetBut}
use Rattle.task_laws.specs.legal.rewritten_types.Agreement.{IsScalar}
use Rattle.normal_model.specs.Making.{one}
use Rattle.normal_model.specs.Ranges.{word_at}
use Rattle.normal_laws.proofs.structure.numbers.Named.{Has}
use Rattle.normal_laws.proofs.structure.typed.Literals.{integer-marked}
use Rattle.normal_laws.proofs.structure.typed.Places.{gives-met}
use Rattle.normal_laws.proofs.structure.typed.Variables.{AllMetBut}
use Rattle.replay_structure.proofs.typed.Control.{integer-range, listed-accept}
use Rattle.replay_structure.specs.typed.ScopeOf.{HasLists}
use Rattle.collect_model.specs.Lines.{header_put}
use Rattle.collect_model.specs.Names.{added_in, added_texts, argument_text, collect_names, flags_text, gone_text, index_text, kind_text, met_text, owner_text, reply_text, subject_text}
use Rattle.collect_model.specs.Recording.{flags_declared, note_accept, note_formals, note_taken, notes_taken, recorder_body}
use Rattle.collect_model.specs.declared.AddedNames.{AddedNames}
use Rattle.collect_structure.proofs.declares_once.Ids.{new-not-predefined, texts-apart}
use Rattle.collect_structure.proofs.typed.Added.{name-keeps, name-means, note-formals-met, predefined-step}
use Rattle.collect_structure.proofs.typed.Flags.{flags-declared-behind, flags-declared-met, flags-declared-seen, flags-step, flags-type-step}
use Rattle.collect_structure.proofs.typed.Noted.{IsTaking, note-taken-met}
use Rattle.collect_structure.proofs.typed.Truths.{truth-marked, truth-range}
use Rattle.collect_structure.specs.Names.{added_id, new_texts}
use Rattle.collect_structure.specs.typed.Recording.{AreFlags, ArePredefined, IsFlagsType, IsInNumber, IsOutTruth, IsRecording, integer_values, truth_values}
use Rattle.collect_structure.specs.typed.Told.{note_parts}
use Rattle.normal_laws.proofs.legality.scopes.Kept.{word-in as in-front}

-- names of six formals, none of which is this
abbrev pub AreOther : List Word → NameId → Type 0
AreOther ws id = AllByRecursion (λ (w : Word). (w.name.0 == id.0) ≡ false) ws

-- nothing is refused at places, and at none behind them
pub behind-none : (xs : List Site) → AllMetBut xs → AllMetBut (xs ++ [])
behind-none xs m = all_joined IsMetBut xs [] m tt

module _ (q : PProgram) (begins : take (length predefined) q.names ≡ predefined) (s : Span) where
  abbrev n : AddedNames
  n = added_in (collect_names q)

  -- ---- names

  -- a new name is none of the predefined ones
  pub new-other : (t : List ℕ) → Has added_texts t → Has new_texts t → (k : ℕ) → is_predefined k ≡ true → ((added_id q t).0 == k) ≡ false
  new-other t h i k e = by_test ((added_id q t).0 == k) refl
    where
      by_test : (b : Bool) → ((added_id q t).0 == k) ≡ b → b ≡ false
      by_test false f = refl
      by_test true f = absurd (true≢false (sym e ∙ sym (ap is_predefined (eqb-true (added_id q t).0 k f)) ∙ new-not-predefined q begins t h i))

  abbrev last_two : List Word
  last_two = word_at s n.index ∷ word_at s n.owner ∷ []

  abbrev last_four : List Word
  last_four = word_at s n.subject ∷ word_at s n.argument ∷ last_two

  abbrev five : List Word
  five = word_at s n.kind ∷ last_four

  abbrev reply : List Word
  reply = word_at s n.reply ∷ []

  pub five-predefined : (k : ℕ) → is_predefined k ≡ true → AreOther five (record { 0 = k })
  five-predefined k e = (
    new-other kind_text refl refl k e,
    (new-other subject_text refl refl k e, (new-other argument_text refl refl k e, (new-other index_text refl refl k e, (new-other owner_text refl refl k e, tt)))),
  )

  pub five-gone : AreOther five n.gone
  five-gone = (
    texts-apart q kind_text gone_text refl refl refl refl,
    (
      texts-apart q subject_text gone_text refl refl refl refl,
      (texts-apart q argument_text gone_text refl refl refl refl, (texts-apart q index_text gone_text refl refl refl refl, (texts-apart q owner_text gone_text refl refl refl refl, tt))),
    ),
  )

  pub five-met : AreOther five n.met
  five-met = (
    texts-apart q kind_text met_text refl refl refl refl,
    (
      texts-apart q subject_text met_text refl refl refl refl,
      (texts-apart q argument_text met_text refl refl refl refl, (texts-apart q index_text met_text refl refl refl refl, (texts-apart q owner_text met_text refl refl refl refl, tt))),
    ),
  )

  pub same-name : (id : NameId) → (id.0 == id.0) ≡ true
  same-name id = eq-eqb id.0 id.0 refl

  -- the formals of an accept are those of the entry
  pub same-formals : are_same (written_formals (note_formals n s)) (note_parts q) ≡ true
  same-formals = all-six (same-name n.kind) (same-name n.subject) (same-name n.argument) (same-name n.index) (same-name n.owner) (same-name n.reply)
    where
      all-six : {a b c d e f : Bool} → a ≡ true → b ≡ true → c ≡ true → d ≡ true → e ≡ true → f ≡ true →
          (a && true && true && (b && true && true && (c && true && true && (d && true && true && (e && true && true && (f && true && true && true)))))) ≡ true
      all-six h i j k l m = simp (h, i, j, k, l, m)

  -- ---- the accept

  module _ (e : Scope) (known : ArePredefined e) (gone : AreFlags e n.gone) (met : AreFlags e n.met) where
    abbrev numbered : Thing
    numbered = formal_thing Take (marking (inner_scope e) (record { 0 = 0 }))

    numbered-is : numbered ≡ Parameter Take known.integer.its.place
    numbered-is = ap (formal_thing Take) (integer-marked e known.integer.its)

    abbrev middle : Scope
    middle = with_names numbered (inner_scope e) five

    middle-kept : (id : NameId) → AreOther five id → meaning middle id ≡ meaning e id
    middle-kept id o = names-kept numbered five (inner_scope e) id o

    abbrev answering : Thing
    answering = formal_thing Give (marking middle (record { 0 = 3 }))

    answering-is : answering ≡ Parameter Give known.truth.place
    answering-is = ap (formal_thing Give) (ap (marking_of e.types) (middle-kept (record { 0 = 3 }) (five-predefined 3 refl)) ∙ truth-marked e known.truth)

    abbrev inside : Scope
    inside = with_formals (inner_scope e) (note_formals n s)

    inside-kept : (id : NameId) → AreOther five id → (n.reply.0 == id.0) ≡ false → meaning inside id ≡ meaning e id
    inside-kept id o r = names-kept answering reply middle id (r, tt) ∙ middle-kept id o

    number-means : (id : NameId) → IsIn five id → (n.reply.0 == id.0) ≡ false → meaning inside id ≡ Some (Parameter Take known.integer.its.place)
    number-means id i r = names-kept answering reply middle id (r, tt) ∙ names-new numbered five (inner_scope e) id i ∙ ap Some numbered-is

    number-seen : (id : NameId) → IsIn five id → (n.reply.0 == id.0) ≡ false → IsInNumber inside id
    number-seen id i r = record {
      place = known.integer.its.place;
      means = number-means id i r;
      values = integer-range e known.integer;
      read =
          ap (reading_of e.types) (number-means id i r) ∙ values-reading e.types known.integer.its.place integer_values (integer-range e known.integer)
          (subst (IsScalar e.types) known.integer.its.kind known.integer.its.scalar);
    }

    reply-means : meaning inside n.reply ≡ Some (Parameter Give known.truth.place)
    reply-means = name-means middle answering (word_at s n.reply) ∙ ap Some answering-is

    reply-seen : IsOutTruth inside n.reply
    reply-seen = record {
      place = known.truth.place;
      means = reply-means;
      read = ap (reading_of e.types) reply-means ∙ values-reading e.types known.truth.place truth_values (truth-range e known.truth) (subst (IsScalar e.types) known.truth.kind known.truth.scalar);
    }

    in-two : (id : NameId) → IsIn last_two id → IsIn five id
    in-two id i = in-behind (word_at s n.kind) last_four id (in-behind (word_at s n.subject) (word_at s n.argument ∷ last_two) id (in-behind (word_at s n.argument) last_two id i))

    taking : IsTaking n inside
    taking = record {
      known = predefined-step e inside (λ k p. inside-kept (record { 0 = k }) (five-predefined k p) (new-other reply_text refl refl k p)) (keeps-self e.types) known;
      kind = number-seen n.kind (in-front (word_at s n.kind) last_four) (texts-apart q reply_text kind_text refl refl refl refl);
      subject =
          number-seen n.subject (in-behind (word_at s n.kind) last_four n.subject (in-front (word_at s n.subject) (word_at s n.argument ∷ last_two)))
          (texts-apart q reply_text subject_text refl refl refl refl);
      argument =
          number-seen n.argument
          (in-behind (word_at s n.kind) last_four n.argument
          (in-behind (word_at s n.subject) (word_at s n.argument ∷ last_two) n.argument (in-front (word_at s n.argument) last_two)))
          (texts-apart q reply_text argument_text refl refl refl refl);
      index = number-seen n.index (in-two n.index (in-front (word_at s n.index) (word_at s n.owner ∷ []))) (texts-apart q reply_text index_text refl refl refl refl);
      owner =
          number-seen n.owner (in-two n.owner (in-behind (word_at s n.index) (word_at s n.owner ∷ []) n.owner (in-front (word_at s n.owner) [])))
          (texts-apart q reply_text owner_text refl refl refl refl);
      reply = reply-seen;
      gone = flags-step e inside n.gone (inside-kept n.gone five-gone (texts-apart q reply_text gone_text refl refl refl refl)) (grows-self e.types) gone;
      met = flags-step e inside n.met (inside-kept n.met five-met (texts-apart q reply_text met_text refl refl refl refl)) (grows-self e.types) met;
    }

    accept-met : HasLists (entry_named e.own n.note) single (note_parts q) → AllMetBut (accept_sites e (note_accept n s))
    accept-met own =
        let head : PHead = record { entry = word_at s n.note; index = None; formals = note_formals n s; span = s } in
        all_joined IsMetBut (head_sites e head) (stmts_sites inside (note_taken n s))
        (listed-accept e head single (note_parts q) own refl same-formals tt (note-formals-met n e known s e known.integer.its known.truth)) (note-taken-met n inside taking s)

    -- the loop
    notes-met : HasLists (entry_named e.own n.note) single (note_parts q) → AllMetBut (stmt_sites e (notes_taken n s))
    notes-met own =
        let here : List Site = accept_sites e (note_accept n s) in
        behind-none (here ++ [] ++ [] ++ []) (behind-none (here ++ [] ++ []) (behind-none (here ++ []) (behind-none here (accept-met own))))

  -- ---- the body

  module _ (d : Scope) (h : IsRecording q d) where
    abbrev array : Thing
    array = Variable h.flags.place

    abbrev started : Scope
    started = in_body d (word_at s n.recorder)

    started-known : ArePredefined started
    started-known = predefined-step d started (λ k p. refl) (keeps-self d.types) h.predefined

    abbrev started-flags : IsFlagsType started n.flags
    started-flags = flags-type-step d started n.flags refl (grows-self d.types) h.flags

    -- behind DED_GONE
    abbrev first : Scope
    first = with_name array started (word_at s n.gone)

    first-is : after_own_object started (flags_declared n s n.gone) ≡ first
    first-is = flags-declared-behind n started started-known started-flags s n.gone

    first-known : ArePredefined first
    first-known = predefined-step started first (name-keeps started array (word_at s n.gone) (new-not-predefined q begins gone_text refl refl)) (keeps-self d.types) started-known

    abbrev first-flags : IsFlagsType first n.flags
    first-flags =
        flags-type-step started first n.flags (names-kept array (word_at s n.gone ∷ []) started n.flags (texts-apart q gone_text flags_text refl refl refl refl, tt))
        (grows-self d.types) started-flags

    -- behind DED_MET
    abbrev second : Scope
    second = with_name array first (word_at s n.met)

    abbrev objects : PDecls
    objects = decls_of (flags_declared n s n.gone ∷ flags_declared n s n.met ∷ [])

    second-is : after_objects started objects ≡ second
    second-is = ap (λ (e : Scope). after_own_object e (flags_declared n s n.met)) first-is ∙ flags-declared-behind n first first-known first-flags s n.met

    objects-met : AllMetBut (own_sites started objects)
    objects-met =
        all_joined IsMetBut (own_object_sites started (flags_declared n s n.gone)) (own_object_sites (after_own_object started (flags_declared n s n.gone)) (flags_declared n s n.met) ++ [])
        (flags-declared-met n started started-known started-flags s n.gone)
        (subst (λ (e : Scope). AllMetBut (own_object_sites e (flags_declared n s n.met) ++ [])) (sym first-is)
        (behind-none (own_object_sites first (flags_declared n s n.met)) (flags-declared-met n first first-known first-flags s n.met)))

    abbrev within : Scope
    within = inner_scope second

    known-within : ArePredefined within
    known-within = predefined-step first within (name-keeps first array (word_at s n.met) (new-not-predefined q begins met_text refl refl)) (keeps-self d.types) first-known

    gone-within : AreFlags within n.gone
    gone-within =
        flags-step first within n.gone (names-kept array (word_at s n.met ∷ []) first n.gone (texts-apart q met_text gone_text refl refl refl refl, tt))
        (grows-self d.types) (flags-declared-seen n started started-known started-flags s n.gone)

    met-within : AreFlags within n.met
    met-within = flags-step second within n.met refl (grows-self d.types) (flags-declared-seen n first first-known first-flags s n.met)

    own-within : HasLists (entry_named within.own n.note) single (note_parts q)
    own-within = subst (λ l. HasLists (entry_named l n.note) single (note_parts q)) (sym (ap own_entries h.recorder.means)) h.recorder.note

    loop-met : AllMetBut (stmt_sites within (notes_taken n s))
    loop-met = notes-met within known-within gone-within met-within own-within

    -- Where the recorder and the type of flags are seen, nothing is refused in the recorder's body.
    pub recorder-body-met : (header : List ℕ) → AllMetBut (decl_sites d (recorder_body n s header))
    recorder-body-met header =
        let its : PBody = body (stmt_then (header_put s header) (one (notes_taken n s))) no_handler in
        let told : List Site = stmt_sites within (notes_taken n s) in (
          gives-met d (word_at s n.recorder) h.recorder.entries h.recorder.means,
          all_joined IsMetBut (own_sites started objects) (body_sites (inner_scope (after_objects started objects)) its) objects-met
              (subst (λ (e : Scope). AllMetBut (body_sites (inner_scope e) its)) (sym second-is) (behind-none (told ++ []) (behind-none told loop-met))),
        )
