-- What the units and the recorder's body of a collecting text of a program with abort statements name, by what those of the normal form do.
use Rattle.std.proofs.Common.{◌≡◌, ℕ, zero, suc, ◌+◌, ◌<◌, ◌≤◌, ◌^◌, ◌==◌, false, List, [], ◌∷◌, ◌++◌, drop, flat_map, length, map, take, refl, sym, ap, ◌∙◌, subst, arith}
use Rattle.std.specs.List.{AllByRecursion}
use Rattle.std.proofs.lemmas.Bool.{or_from}
use Rattle.std.proofs.lemmas.List.{append-nil, map-append}
use Rattle.std.proofs.lemmas.Grind.{flat_map-append}
use Rattle.common_lemmas.proofs.Lists.{all_back, all_front, all_joined, all_unmapped, all_weaker}
use Rattle.common_lemmas.proofs.Numbers.{unequal_turned}
use Rattle.ada_tree.specs.NameList.{predefined}
use Rattle.ada_tree.specs.declared.naming.Span.{Span}
use Rattle.ada_tree.specs.declared.naming.Word.{Word}
use Rattle.ada_tree.specs.PlainStmt.{PBody, body, no_handler, stmt_then}
use Rattle.ada_tree.specs.PlainDecl.{DTaskBody, PDecl, PDecls, decls_of}
use Rattle.ada_tree.specs.PlainProgram.{PProgram}
use Rattle.ada_static_rules.specs.RuleDuplicate.{is_among, is_predefined}
use Rattle.ada_static_rules.specs.Sites.{all_names}
use Rattle.ada_decl_rules.specs.duplicates.NamedSoFar.{object_words}
use Rattle.ada_decl_rules.specs.duplicates.NamingsInOrder.{declared}
use Rattle.ada_decl_rules.specs.declared.duplicates.namings_in_order.Naming.{Naming}
use Rattle.ada_decl_rules.specs.declared.duplicates.namings_in_order.Naming.TheVariants.{Declares, Once}
use Rattle.syn_event.specs.DeclaredTasks.{decl_list}
use Rattle.syn_event.specs.declared.numbering.TaskInfo.{TaskInfo}
use Rattle.syn_event.proofs.DeclLists.{listed_back}
use Rattle.normal_model.specs.Making.{one}
use Rattle.task_model.specs.Setting.{Setting}
use Rattle.normal_model.specs.Names.{id_of}
use Rattle.normal_model.specs.NormalTree.{main_unit}
use Rattle.normal_model.specs.Ranges.{word_at}
use Rattle.normal_laws.specs.structure.once.Apart.{AreApart, AreDistinct, IsFitIn, IsFreeOf, fixed_names}
use Rattle.normal_laws.specs.structure.once.Names.{bodies_names, body_names, case_arms_names, inner_names}
use Rattle.normal_laws.proofs.structure.numbers.Listed.{IsOneBody}
use Rattle.normal_laws.proofs.structure.numbers.Named.{Has}
use Rattle.normal_laws.proofs.structure.once.Once.{distinct-both, free-back, free-both, free-front}
use Rattle.normal_laws.proofs.legality.declares_once.DeclaredNames.{word_ids}
use Rattle.replay_structure.proofs.declares_once.Grown.{IsGood, IsSame, alone-from, declared-new, same-joined, same-then}
use Rattle.replay_structure.proofs.declares_once.Plain.{AreFresh, put-same}
use Rattle.collect_model.specs.declared.AddedNames.{AddedNames}
use Rattle.collect_model.specs.Names.{added_in, answer_text, caller_text, collect_names, gone_text, met_text, part_text, recorder_text}
use Rattle.collect_model.specs.Teller.{task_of, teller_in}
use Rattle.collect_model.specs.Lines.{header_put}
use Rattle.collect_model.specs.Recording.{note_formals}
use Rattle.collect_model.specs.CollectTree.{behind_own, unit_declared}
use Rattle.collect_structure.specs.Names.{new_texts}
use Rattle.collect_structure.proofs.declares_once.Ids.{id, ids, pick, pick-free, texts-apart}
use Rattle.collect_structure.proofs.declares_once.Units.{IsLoose, formals-fit, loose_texts, unit-fresh, words-put}
use Rattle.collect_structure.proofs.declares_once.Splits.{IsVariable}
use Rattle.collect_model.specs.aborts.AbortTeller.{AbortTeller, names_told, told_at, told_in}
use Rattle.collect_model.specs.aborts.AbortStmts.{task_body}
use Rattle.collect_model.specs.aborts.AbortTree.{abort_decl, places_declared, refused_declared, taken_declared}
use Rattle.collect_model.specs.aborts.Names.{acceptors_text, each_text, refused_text, taken_text}
use Rattle.collect_model.specs.aborts.Places.{most_places, places_in, places_of}
use Rattle.collect_model.specs.aborts.Recording.{aborts_from, notes_taken, recorder_body}
use Rattle.collect_structure.proofs.aborts.declares_once.Ids.{acceptors, free-fewer, further-new, further_ids, place_ids, places-distinct, places-fewer, refused, taken}
use Rattle.collect_structure.proofs.aborts.declares_once.Loose.{body-loose}
use Rattle.collect_structure.proofs.aborts.declares_once.Statements.{task-same}
use Rattle.collect_structure.proofs.aborts.texts.Listed.{all-places}
use Rattle.collect_structure.proofs.aborts.typed.Names.{told-teller}

-- ---- what main is told

-- It is told what it is told without aborts, and the ids of the further names.
abbrev pub teller_for : Setting → AbortTeller
teller_for g = record {
  teller = teller_in (main_unit g);
  acceptors = id_of (names_told g.program) acceptors_text;
  each = id_of (names_told g.program) each_text;
  taken = λ p. id_of (names_told g.program) (taken_text p);
  refused = λ p. id_of (names_told g.program) (refused_text p);
}

pub told-is : (g : Setting) → told_in (main_unit g) ≡ teller_for g
told-is g =
    ap
    (λ t. record {
      teller = t;
      acceptors = id_of (names_told g.program) acceptors_text;
      each = id_of (names_told g.program) each_text;
      taken = λ p. id_of (names_told g.program) (taken_text p);
      refused = λ p. id_of (names_told g.program) (refused_text p);
    })
    (told-teller g 0)

-- ---- the recorder's statements

-- the aborts name nothing that they declare
aborts-quiet : (s : Span) (u : ℕ) (infos : List TaskInfo) → case_arms_names (aborts_from s u infos) ≡ []
aborts-quiet s u [] = refl
aborts-quiet s u (info ∷ infos) = aborts-quiet s (u + 1) infos

abbrev its_body : AbortTeller → Span → List ℕ → PBody
its_body x s header = body (stmt_then (header_put s header) (one (notes_taken x s))) no_handler

-- they declare the formals of the accept, and the loop parameter
its-names : (x : AbortTeller) (s : Span) (header : List ℕ) →
    body_names (its_body x s header) ≡ declared false [] (all_names (note_formals x.teller.added s)) ++ (Declares false false (word_at s x.each) ∷ [])
its-names x s header =
    ap
    (λ (l : List Naming).
    declared false [] (all_names (note_formals x.teller.added s))
    ++ (Declares false false (word_at s x.each) ∷ (((((((((((l ++ []) ++ []) ++ []) ++ []) ++ []) ++ []) ++ []) ++ []) ++ []) ++ []) ++ [])))
    (aborts-quiet s 1 (drop 1 x.teller.numbers.tasks))

-- ---- the parts

module _ (g : Setting) (begins : take (length predefined) g.program.names ≡ predefined) (few : most_places g.program < 2 ^ 64) where
  abbrev q : PProgram
  q = g.program

  abbrev n : AddedNames
  n = added_in (collect_names q)

  abbrev x : AbortTeller
  x = teller_for g

  abbrev most : ℕ
  most = most_places q

  abbrev X : List ℕ
  X = ids q new_texts

  abbrev Y : List ℕ
  Y = X ++ further_ids q

  -- ---- the variables of places

  abbrev words_at : Span → ℕ → List Word
  words_at s k = flat_map object_words (places_declared x s k)

  place-words : (s : Span) (k : ℕ) → word_ids (words_at s k) ≡ place_ids q k
  place-words s zero = refl
  place-words s (suc k) =
      let last : List PDecl = taken_declared s (x.taken (suc k)) ∷ refused_declared s (x.refused (suc k)) ∷ [] in
      ap word_ids (flat_map-append object_words (places_declared x s k) last)
      ∙ map-append (λ (w : Word). w.name.0) (words_at s k) (flat_map object_words last)
      ∙ ap (λ (l : List ℕ). l ++ taken q (suc k) ∷ refused q (suc k) ∷ []) (place-words s k)

  pub places-variables : (s : Span) (k : ℕ) → AllByRecursion IsVariable (places_declared x s k)
  places-variables s k = all-places IsVariable x s k k (omega arith) (λ p low high. (tt, tt))

  -- they are none of the names of every collecting text
  pub places-apart : (s : Span) (k : ℕ) → k ≤ most → AreApart X (word_ids (words_at s k))
  places-apart s k l =
      subst (AreApart X) (sym (place-words s k))
      (places-fewer q (IsFreeOf X) k most l
      (all_weaker (λ y. (is_predefined y ≡ false) × IsFreeOf X y) (IsFreeOf X) (place_ids q most) (λ y both. both.1) (further-new q begins few).1.1))

  module _ (F : List ℕ) (loose : AllByRecursion (IsLoose F) (ids q loose_texts)) (further : AllByRecursion (IsLoose F) (further_ids q)) where
    abbrev Good : Naming → Type 0
    Good = IsGood F Y

    abbrev Same : List Naming → List Naming → Type 0
    Same = IsSame F Y

    pub places-fresh : (s : Span) (k : ℕ) → k ≤ most → AreFresh F Y (words_at s k)
    places-fresh s k l = record {
      fresh = all_unmapped (IsLoose F) (λ (w : Word). w.name.0) (words_at s k) (subst (AllByRecursion (IsLoose F)) (sym (place-words s k)) (places-fewer q (IsLoose F) k most l further.1.1));
      distinct = subst AreDistinct (sym (place-words s k)) (places-distinct q begins few k l);
      apart = λ here h. subst (AreApart here) (sym (place-words s k)) (places-fewer q (IsFreeOf here) k most l (all_back (IsFreeOf here) X (further_ids q) h).1.1);
      clear = λ y h. subst (λ (ys : List ℕ). IsFreeOf ys y) (sym (place-words s k)) (free-fewer q k l y (free-back X (further_ids q) y h));
    }

    -- the two variables of each unit in front of them
    unit-words : (s : Span) (k : ℕ) → k ≤ most → AreFresh F Y (flat_map object_words (unit_declared n s ++ places_declared x s k))
    unit-words s k l =
        let a = unit-fresh q F (further_ids q) loose s in
        let b = places-fresh s k l in
        let two : List ℕ = id q answer_text ∷ id q part_text ∷ [] in
        record {
          fresh = (a.fresh.0, (a.fresh.1.0, b.fresh));
          distinct =
              distinct-both two (word_ids (words_at s k)) a.distinct b.distinct
              (all_weaker (IsFreeOf X) (IsFreeOf two) (word_ids (words_at s k))
              (λ y f. or_from (id q answer_text == y) _ (pick-free q new_texts y f answer_text refl) (or_from (id q part_text == y) false (pick-free q new_texts y f part_text refl) refl))
              (places-apart s k l));
          apart = λ here h. let first = a.apart here h in (first.0, (first.1.0, b.apart here h));
          clear = λ y h. free-both two (word_ids (words_at s k)) y (a.clear y h) (b.clear y h);
        }

    -- ---- bodies

    pub caller-loose : IsLoose F (id q caller_text)
    caller-loose = pick q (IsLoose F) loose_texts loose caller_text refl

    pub caller-new : (y : ℕ) → IsFreeOf Y y → (id q caller_text == y) ≡ false
    caller-new y h = pick-free q new_texts y (free-front X (further_ids q) y h) caller_text refl

    inner-same : (w : Word) (objects : PDecls) (its : PBody) → places_in its ≤ most → AllByRecursion Good (inner_names objects its) →
        Same (inner_names objects its)
        (inner_names (decls_of (behind_own q.names (unit_declared n w.span ++ places_declared x w.span (places_in its)) (decl_list objects)))
        (task_body (told_at x (task_of x.teller.numbers w.name)) w.span its))
    inner-same w objects its l h =
        let more : List PDecl = unit_declared n w.span ++ places_declared x w.span (places_in its) in
        let put : List PDecl = behind_own q.names more (decl_list objects) in
        let own : List Naming = declared false [] (flat_map object_words (decl_list objects)) in
        let u : AbortTeller = told_at x (task_of x.teller.numbers w.name) in
        subst (λ (ds : List PDecl). Same (inner_names objects its) (declared false [] (flat_map object_words ds) ++ body_names (task_body u w.span its))) (sym (listed_back put))
        (same-joined F Y own (declared false [] (flat_map object_words put)) (body_names its) _
        (put-same F Y (flat_map object_words more) (unit-words w.span (places_in its) l) (flat_map object_words (decl_list objects)) (flat_map object_words put)
        (words-put object_words q.names more (decl_list objects)) (all_front Good own (body_names its) h))
        (task-same F Y u caller-loose.0 caller-loose.1 caller-new w.span its (all_back Good own (body_names its) h)))

    pub bodies-same : (names : List ℕ) (ds : List PDecl) → AllByRecursion IsOneBody ds → AllByRecursion (λ d. places_of d ≤ most) ds → AllByRecursion Good (bodies_names names ds) →
        Same (bodies_names names ds) (bodies_names names (map (abort_decl x q.names) ds))
    bodies-same names [] are l h = record { fit = tt; fixed = refl }
    bodies-same names (DTaskBody w objects its s ∷ ds) are l h =
        let own : List Naming = inner_names objects its in
        let rest : List Naming = bodies_names (w.name.0 ∷ names) ds in
        same-then F Y (Once (is_among names w.name.0) w) (Once (is_among names w.name.0) w) (own ++ rest) _ h.0.0 refl
        (same-joined F Y own _ rest (bodies_names (w.name.0 ∷ names) (map (abort_decl x q.names) ds)) (inner-same w objects its l.0 (all_front Good own rest h.1))
        (bodies-same (w.name.0 ∷ names) ds are.1 l.1 (all_back Good own rest h.1)))
    bodies-same names (d ∷ ds) are l h = absurd are.0

    -- ---- the recorder's body

    objects-fit : (s : Span) → AllByRecursion (IsFitIn F) (declared false [] (word_at s n.gone ∷ word_at s n.met ∷ word_at s x.acceptors ∷ []))
    objects-fit s =
        let free : IsFreeOf X (acceptors q) = (further-new q begins few).0.1 in
        let other : (t : List ℕ) → Has new_texts t → (acceptors q == id q t) ≡ false = λ t h. unequal_turned (id q t) (acceptors q) (pick-free q new_texts (acceptors q) free t h) in
        declared-new F Y [] (word_at s n.gone ∷ word_at s n.met ∷ word_at s x.acceptors ∷ [])
        (pick q (IsLoose F) loose_texts loose gone_text refl, (pick q (IsLoose F) loose_texts loose met_text refl, (further.0, tt))) (refl, (refl, (refl, tt))) (
          or_from (id q met_text == id q gone_text) _ (texts-apart q met_text gone_text refl refl refl refl) (or_from (acceptors q == id q gone_text) false (other gone_text refl) refl),
          (or_from (acceptors q == id q met_text) false (other met_text refl) refl, (refl, tt)),
        )

    its-fit : (s : Span) (header : List ℕ) → AllByRecursion (IsFitIn F) (body_names (its_body x s header))
    its-fit s header =
        subst (AllByRecursion (IsFitIn F)) (sym (its-names x s header))
        (all_joined (IsFitIn F) (declared false [] (all_names (note_formals n s))) (Declares false false (word_at s x.each) ∷ []) (formals-fit q F (further_ids q) loose s)
        ((alone-from false false (word_at s x.each) further.1.0.0 refl, (further.1.0.1, tt)), tt))

    pub recorder-body-fit : (s : Span) (header held : List ℕ) → IsFreeOf held (id q recorder_text) → AllByRecursion (IsFitIn F) (bodies_names held (recorder_body x s header ∷ []))
    recorder-body-fit s header held f =
        let objects : List Naming = declared false [] (word_at s n.gone ∷ word_at s n.met ∷ word_at s x.acceptors ∷ []) in
        let its : List Naming = body_names (its_body x s header) in
        ((f, tt), all_joined (IsFitIn F) (objects ++ its) [] (all_joined (IsFitIn F) objects its (objects-fit s) (its-fit s header)) tt)

-- it fixes no name
pub recorder-fixes : (x : AbortTeller) (s : Span) (header held : List ℕ) → fixed_names (bodies_names held (recorder_body x s header ∷ [])) ≡ []
recorder-fixes x s header held = ap fixed_names (append-nil (body_names (its_body x s header))) ∙ body-loose (its_body x s header)
