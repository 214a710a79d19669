-- The first declarations of the normal form of a legal program meet the static rules 1 and 3 to 12, as they do in the program.
use Rattle.std.proofs.Common.{◌≡◌, ℕ, Bool, true, List, [], ◌++◌, is_some, IfSome, Option, Some, None, inr, refl, sym, ap, ◌∙◌, subst}
use Rattle.std.specs.List.{AllByRecursion}
use Rattle.common_lemmas.proofs.Lists.{all_joined}
use Rattle.ada_tree.specs.declared.naming.Span.{Span}
use Rattle.ada_tree.specs.declared.naming.Word.{Word}
use Rattle.ada_tree.specs.TypeTable.{TypeTable}
use Rattle.ada_tree.specs.PlainDecl.{PShape, OPlain, OArray, PInit, PTask, PDecl, DNumber, DObject, DEnumeration, DArray, DSubtype, DException, DIntIo, DPragma, DTask, DTaskBody, PDecls, no_decl, decl_then}
use Rattle.ada_tree.specs.PlainProgram.{PProgram}
use Rattle.ada_tree.specs.Every.{EveryShape, EveryInit, EveryDecls}
use Rattle.ada_tree.specs.WellPlaced.{AreLater, BodiesLast}
use Rattle.ada_static_rules.specs.Scope.{Scope, marking, entry_named}
use Rattle.ada_static_rules.specs.Sites.{object_marking, decl_sites, decls_sites}
use Rattle.ada_static_rules.specs.Refusals.{types_in}
use Rattle.ada_static_rules.specs.Declaring.{Declared, first_scope, declared_object, after_decl}
use Rattle.syn_event.specs.NamedTasks.{NamedTasks, type_named, with_type, object_task_names, task_names_in, task_names_of}
use Rattle.task_laws.specs.legal.rewritten_types.Agreement.{Keeps, Sound, WholeTable}
use Rattle.task_laws.specs.legal.rewritten_types.Rewriting.{is_no_task, DeclareOnce}
use Rattle.task_laws.specs.legal.rewritten_types.Rewriting as rewriting
use Rattle.task_laws.specs.legal.rewritten_types.Laws.{behind}
use Rattle.task_laws.proofs.legal.rewritten_types.Keeping.{keeps-self}
use Rattle.task_laws.proofs.legal.rewritten_types.Fresh.{first-here}
use Rattle.task_laws.proofs.legal.rewritten_types.Closing.{Close, close-self, drange-alike}
use Rattle.task_laws.proofs.legal.rewritten_types.Soundness.{sound-decl, sound-first}
use Rattle.task_laws.proofs.legal.rewritten_types.Owning.{whole-decls, whole-first}
use Rattle.task_laws.specs.legal.sites.Met.{IsMet}
use Rattle.task_laws.proofs.legal.types.TypedValues.{anybody}
use Rattle.task_laws.proofs.legal.types.MainScopes.{Stands, AllStand}
use Rattle.task_laws.proofs.legal.types.TaskTypes.{DeclRanges, AllRanges, all-ranges}
use Rattle.normal_model.specs.NormalTree.{mark_of, unless_left, first_decls}
use Rattle.normal_laws.proofs.structure.once.TaskTypes.{first-types, no-task}
use Rattle.normal_laws.specs.structure.checked.Around.{own_rules}
use Rattle.normal_laws.specs.existence.Laws.{IsLegalOriginal}
use Rattle.task_laws.specs.legal.alike_scopes.Alike.{Alike}
use Rattle.task_laws.specs.legal.alike_scopes.Laws.{IsMetBut}
use Rattle.normal_laws.proofs.structure.typed.Places.{met-declares}
use Rattle.normal_laws.proofs.structure.typed.Variables.{AllMetBut}
use Rattle.normal_laws.proofs.structure.typed.Stays.{met-but}
use Rattle.normal_laws.proofs.structure.typed.Declared.{SameInit, object-stays, other-stays, IsOther, old-shape, old-init}
use Rattle.normal_laws.specs.legality.scopes.Plain.{plain_name}
use Rattle.normal_laws.proofs.legality.scopes.Parts.{HasParts, parts-first, parts-decl}
use Rattle.normal_laws.proofs.legality.scopes.Later.{AllEntries, all-entries}
use Rattle.normal_laws.proofs.legality.scopes.Kept.{is_same, IsBoth}
use Rattle.normal_laws.proofs.legality.scopes.Seeing.{parts_of, Sees, sees-step}
use Rattle.normal_laws.proofs.legality.scopes.Base.{base-same}
use Rattle.normal_laws.proofs.legality.scopes.Fronts.{Beginning, clear-behind, both, left-object, left-task, further}
use Rattle.normal_laws.proofs.legality.scopes.Main.{decl-frame, once, stand}
use Rattle.normal_laws.proofs.legality.typed_declarations.Objects.{self-init, IsRangeKnown, mark-no, object-same}

module _ (old : ℕ → Bool) (S : Scope) (T : TypeTable) (all : List NamedTasks) where
  -- what else is known of the scope behind the first declarations so far
  record IsRooted (s r : Scope) : Type 0 where
    sound : Sound r.types
    whole : WholeTable r.types
    parts : HasParts r.types
    own : s.own ≡ r.own

  rooted-left : (d : PDecl) (s r : Scope) → IsRooted s r → IsRooted (after_decl s d) r
  rooted-left d s r h = record { sound = h.sound; whole = h.whole; parts = h.parts; own = (decl-frame d s).own ∙ h.own }

  rooted-both : (d : PDecl) (s r : Scope) → IsRooted s r → IsRooted (after_decl s d) (after_decl r d)
  rooted-both d s r h = record {
    sound = sound-decl d r h.sound;
    whole = whole-decls (decl_then d no_decl) r h.whole;
    parts = parts-decl d r h.parts;
    own = (decl-frame d s).own ∙ h.own ∙ sym (decl-frame d r).own;
  }

  -- it is alike that of the program
  alike-here : (kinds : List PTask) (done : List NamedTasks) (s r : Scope) → Stands T s → Beginning S T all kinds done s r → IsRooted s r → Alike old s r
  alike-here kinds done s r stands b h = record {
    names = base-same old r s record { keeps = subst (λ U. Keeps anybody U s.types) b.close.types (keeps-self s.types); kept = b.kept } (clear-behind S T all no_decl kinds done s r tt stands b) h.sound h.whole h.parts;
    own = λ id o. ap (λ es. entry_named es id) h.own;
    main = b.close.main;
  }

  -- ---- one declaration

  -- where the index range of an array is known in the program
  range-here : (s : Scope) (ws : List Word) (c : Bool) (x : PShape) (i : Option PInit) (sp : Span) → DeclRanges T s (DObject ws c x i sp) → IsRangeKnown s x
  range-here s ws c (OPlain x) i sp h = tt
  range-here s ws c (OArray q x) i sp h = (record { kind = h.limits.limits.kind; first = h.limits.limits.first; last = h.limits.limits.last }, h.known)

  range-there : (s r : Scope) → Close s r → (x : PShape) → IsRangeKnown s x → IsRangeKnown r x
  range-there s r close (OPlain x) h = tt
  range-there s r close (OArray q x) h = (h.0, sym (drange-alike s r close q) ∙ h.1)

  -- an object of the program's that is no task
  object-met : (kinds : List PTask) (done : List NamedTasks) (s r : Scope) (ws : List Word) (c : Bool) (x : PShape) (i : Option PInit) (sp : Span) → Stands T s → Beginning S T all kinds done s r → IsRooted s r →
      IsBoth s r (DObject ws c x i sp) → DeclRanges T s (DObject ws c x i sp) → EveryShape (own_rules old) x → IfSome i (EveryInit (own_rules old)) → AllByRecursion IsMet (decl_sites s (DObject ws c x i sp)) →
      AllMetBut (decl_sites r (DObject ws c x i sp))
  object-met kinds done s r ws c x i sp stands b h nt ranges shape init m =
      object-stays IsMet met-but old s r (alike-here kinds done s r stands b h) ws c x i (declared_object s c x) (declared_object r c x)
      (subst (λ (y : Declared). SameInit (declared_object s c x).types y.types (object_marking (declared_object s c x)) (object_marking y)) (object-same s r b.close c x left right)
      (self-init (declared_object s c x).types (object_marking (declared_object s c x))))
      (old-shape IsMet met-but old x shape) (old-init IsMet met-but old i init) (inr left) m
    where
      known : IsRangeKnown s x
      known = range-here s ws c x i sp ranges

      left : is_no_task (marking s (rewriting.mark_of x)) ≡ true
      left = mark-no s c x b.sees.main known nt.0

      right : is_no_task (marking r (rewriting.mark_of x)) ≡ true
      right = mark-no r c x (sym b.close.main ∙ b.sees.main) (range-there s r b.close x known) nt.1

  -- an instance is met anywhere
  instance-met : (w : Word) (sp : Span) (r : Scope) → AllMetBut (decl_sites r (DIntIo w sp))
  instance-met w sp r = (
    record { known = refl; matched = refl; static = refl; ranged = refl; variable = refl; readable = refl; counted = refl; chosen = refl; arrays = refl; texts = refl; exceptions = refl },
    (met-declares r true w, tt),
  )

  -- what is asked at a declaration that stays and at those behind it
  then-met : (d : PDecl) (rest : PDecls) (r : Scope) → AllMetBut (decl_sites r d) → AllMetBut (decls_sites (after_decl r d) rest) → AllMetBut (decls_sites r (decl_then d rest))
  then-met d rest r = all_joined IsMetBut (decl_sites r d) (decls_sites (after_decl r d) rest)

  -- behind the first body there are instances alone
  later-met : (ds : PDecls) (kinds : List PTask) (r : Scope) → AreLater ds → AllMetBut (decls_sites r (first_decls kinds ds))
  later-met no_decl kinds r later = tt
  later-met (decl_then (DTask t sp) rest) kinds r later = later-met rest (with_type kinds t.of_kind t) r later.1
  later-met (decl_then (DTaskBody w objects its sp) rest) kinds r later = later-met rest kinds r later.1
  later-met (decl_then (DIntIo w sp) rest) kinds r later = then-met (DIntIo w sp) (first_decls kinds rest) r (instance-met w sp r) (later-met rest kinds (after_decl r (DIntIo w sp)) later.1)
  later-met (decl_then (DNumber w e sp) rest) kinds r later = absurd later.0
  later-met (decl_then (DObject ws c x i sp) rest) kinds r later = absurd later.0
  later-met (decl_then (DEnumeration w ws sp) rest) kinds r later = absurd later.0
  later-met (decl_then (DArray w q x sp) rest) kinds r later = absurd later.0
  later-met (decl_then (DSubtype w x sp) rest) kinds r later = absurd later.0
  later-met (decl_then (DException ws sp) rest) kinds r later = absurd later.0
  later-met (decl_then (DPragma e sp) rest) kinds r later = absurd later.0

  -- ---- all declarations

  -- what is known before some declarations
  record IsFront (kinds : List PTask) (done : List NamedTasks) (ds : PDecls) (s r : Scope) : Type 0 where
    listed : all ≡ done ++ task_names_in kinds ds
    begun : Beginning S T all kinds done s r
    once : DeclareOnce s ds
    stand : AllStand T s ds
    entries : AllEntries S s ds
    ranges : AllRanges T s ds
    olds : EveryDecls (own_rules old) ds
    rooted : IsRooted s r

  -- a declaration that stays and is no object
  walk-both : (d : PDecl) (rest : PDecls) (kinds : List PTask) (done : List NamedTasks) (s r : Scope) → IsFront kinds done (decl_then d rest) s r → IsOther d → Beginning S T all kinds (done ++ []) (after_decl s d) (after_decl r d) →
      all ≡ (done ++ []) ++ task_names_in kinds rest → (IsFront kinds (done ++ []) rest (after_decl s d) (after_decl r d) → AllMetBut (decls_sites (after_decl r d) (first_decls kinds rest))) →
      AllMetBut (decls_sites r (decl_then d (first_decls kinds rest)))
  walk-both d rest kinds done s r h other b listed next =
      then-met d (first_decls kinds rest) r (other-stays IsMet met-but old s r (alike-here kinds done s r h.stand.0 h.begun h.rooted) d other h.olds.0 h.stand.1)
      (next record { listed = listed; begun = b; once = h.once.1; stand = h.stand.2; entries = h.entries.1; ranges = h.ranges.1; olds = h.olds.1; rooted = rooted-both d s r h.rooted })

  -- an object, which stays where its mark is no task type
  walk-object : (ws : List Word) (c : Bool) (x : PShape) (i : Option PInit) (sp : Span) (rest : PDecls) (kinds : List PTask) (done : List NamedTasks) (s r : Scope) → IsFront kinds done (decl_then (DObject ws c x i sp) rest) s r →
      ((r' : Scope) → IsFront kinds (done ++ object_task_names kinds ws x) rest (after_decl s (DObject ws c x i sp)) r' → AllMetBut (decls_sites r' (first_decls kinds rest))) →
      AllMetBut (decls_sites r (first_decls kinds (decl_then (DObject ws c x i sp) rest)))
  walk-object ws c x i sp rest kinds done s r h next = by_type (type_named kinds (mark_of x)) refl
    where
      d : PDecl
      d = DObject ws c x i sp

      sees : Sees S kinds (done ++ object_task_names kinds ws x) (after_decl s d)
      sees = sees-step S T d kinds done s h.once.0 h.entries.0 h.ranges.0 h.begun.sees

      further-on : (r' : Scope) → Beginning S T all kinds (done ++ object_task_names kinds ws x) (after_decl s d) r' → IsRooted (after_decl s d) r' → AllMetBut (decls_sites r' (first_decls kinds rest))
      further-on r' b rooted =
          next r' record {
            listed = further S T all d kinds done rest refl h.listed;
            begun = b;
            once = h.once.1;
            stand = h.stand.2;
            entries = h.entries.1;
            ranges = h.ranges.1;
            olds = h.olds.1;
            rooted = rooted;
          }

      by_type : (o : Option PTask) → type_named kinds (mark_of x) ≡ o → AllMetBut (decls_sites r (unless_left (is_some o) d (first_decls kinds rest)))
      by_type (Some t) q = further-on r (left-object S T all ws c x i sp kinds done s r t q h.ranges.0 h.once.0 sees h.begun) (rooted-left d s r h.rooted)
      by_type None q =
          let nt : IsBoth s r d = (no-task kinds s c x h.begun.types (ap is_some q), no-task [] r c x h.begun.types' refl) in
          then-met d (first_decls kinds rest) r (object-met kinds done s r ws c x i sp h.stand.0 h.begun h.rooted nt h.ranges.0 h.olds.0.2 h.olds.0.4 h.stand.1)
          (further-on (after_decl r d) (both S T all d kinds done s r tt nt refl refl refl h.once.0 sees h.begun) (rooted-both d s r h.rooted))

  walk : (ds : PDecls) (kinds : List PTask) (done : List NamedTasks) (s r : Scope) → BodiesLast ds → IsFront kinds done ds s r → AllMetBut (decls_sites r (first_decls kinds ds))
  walk no_decl kinds done s r last h = tt
  walk (decl_then (DTaskBody w objects its sp) rest) kinds done s r last h = later-met rest kinds r last
  walk (decl_then (DTask t sp) rest) kinds done s r last h =
      let d : PDecl = DTask t sp in
      walk rest (with_type kinds t.of_kind t) (done ++ parts_of kinds d) (after_decl s d) r last record {
        listed = further S T all d kinds done rest refl h.listed;
        begun = left-task S T all t sp kinds done s r h.once.0.0 (sees-step S T d kinds done s h.once.0 h.entries.0 h.ranges.0 h.begun.sees) h.begun;
        once = h.once.1;
        stand = h.stand.2;
        entries = h.entries.1;
        ranges = h.ranges.1;
        olds = h.olds.1;
        rooted = rooted-left d s r h.rooted;
      }
  walk (decl_then (DObject ws c x i sp) rest) kinds done s r last h =
      walk-object ws c x i sp rest kinds done s r h (λ r' b. walk rest kinds (done ++ object_task_names kinds ws x) (after_decl s (DObject ws c x i sp)) r' last b)
  walk (decl_then (DNumber w e sp) rest) kinds done s r last h = walk-both (DNumber w e sp) rest kinds done s r h tt (both S T all (DNumber w e sp) kinds done s r tt tt refl refl refl h.once.0 (sees-step S T (DNumber w e sp) kinds done s h.once.0 h.entries.0 h.ranges.0 h.begun.sees) h.begun)
      (further S T all (DNumber w e sp) kinds done rest refl h.listed) (λ b. walk rest kinds (done ++ []) (after_decl s (DNumber w e sp)) (after_decl r (DNumber w e sp)) last b)
  walk (decl_then (DEnumeration w ws sp) rest) kinds done s r last h = walk-both (DEnumeration w ws sp) rest kinds done s r h tt (both S T all (DEnumeration w ws sp) kinds done s r tt tt refl refl refl h.once.0 (sees-step S T (DEnumeration w ws sp) kinds done s h.once.0 h.entries.0 h.ranges.0 h.begun.sees) h.begun)
      (further S T all (DEnumeration w ws sp) kinds done rest refl h.listed) (λ b. walk rest kinds (done ++ []) (after_decl s (DEnumeration w ws sp)) (after_decl r (DEnumeration w ws sp)) last b)
  walk (decl_then (DArray w q x sp) rest) kinds done s r last h = walk-both (DArray w q x sp) rest kinds done s r h tt (both S T all (DArray w q x sp) kinds done s r tt tt refl refl refl h.once.0 (sees-step S T (DArray w q x sp) kinds done s h.once.0 h.entries.0 h.ranges.0 h.begun.sees) h.begun)
      (further S T all (DArray w q x sp) kinds done rest refl h.listed) (λ b. walk rest kinds (done ++ []) (after_decl s (DArray w q x sp)) (after_decl r (DArray w q x sp)) last b)
  walk (decl_then (DSubtype w x sp) rest) kinds done s r last h = walk-both (DSubtype w x sp) rest kinds done s r h tt (both S T all (DSubtype w x sp) kinds done s r tt tt refl refl refl h.once.0 (sees-step S T (DSubtype w x sp) kinds done s h.once.0 h.entries.0 h.ranges.0 h.begun.sees) h.begun)
      (further S T all (DSubtype w x sp) kinds done rest refl h.listed) (λ b. walk rest kinds (done ++ []) (after_decl s (DSubtype w x sp)) (after_decl r (DSubtype w x sp)) last b)
  walk (decl_then (DException ws sp) rest) kinds done s r last h = walk-both (DException ws sp) rest kinds done s r h tt (both S T all (DException ws sp) kinds done s r tt tt refl refl refl h.once.0 (sees-step S T (DException ws sp) kinds done s h.once.0 h.entries.0 h.ranges.0 h.begun.sees) h.begun)
      (further S T all (DException ws sp) kinds done rest refl h.listed) (λ b. walk rest kinds (done ++ []) (after_decl s (DException ws sp)) (after_decl r (DException ws sp)) last b)
  walk (decl_then (DIntIo w sp) rest) kinds done s r last h = walk-both (DIntIo w sp) rest kinds done s r h tt (both S T all (DIntIo w sp) kinds done s r tt tt refl refl refl h.once.0 (sees-step S T (DIntIo w sp) kinds done s h.once.0 h.entries.0 h.ranges.0 h.begun.sees) h.begun)
      (further S T all (DIntIo w sp) kinds done rest refl h.listed) (λ b. walk rest kinds (done ++ []) (after_decl s (DIntIo w sp)) (after_decl r (DIntIo w sp)) last b)
  walk (decl_then (DPragma e sp) rest) kinds done s r last h = walk-both (DPragma e sp) rest kinds done s r h tt (both S T all (DPragma e sp) kinds done s r tt tt refl refl refl h.once.0 (sees-step S T (DPragma e sp) kinds done s h.once.0 h.entries.0 h.ranges.0 h.begun.sees) h.begun)
      (further S T all (DPragma e sp) kinds done rest refl h.listed) (λ b. walk rest kinds (done ++ []) (after_decl s (DPragma e sp)) (after_decl r (DPragma e sp)) last b)

-- The first declarations of the normal form of a legal program meet the rules.
pub firsts-met : (p : PProgram) → IsLegalOriginal p → EveryDecls (own_rules (plain_name p)) p.decls → AllMetBut (decls_sites (first_scope p.name) (first_decls [] p.decls))
firsts-met p legal olds =
    walk (plain_name p) (behind p.name p.decls) (types_in p) (task_names_of p) p.decls [] [] (first_scope p.name) (first_scope p.name) legal.placed.1 record {
      listed = refl;
      begun = record {
        sees = record { main = refl; here = first-here p.name; types = tt; parts = tt };
        close = close-self (first_scope p.name);
        kept = λ id. is_same refl;
        types = first-types p.name;
        types' = first-types p.name;
      };
      once = (once p legal).1;
      stand = stand p legal;
      entries = all-entries p.names p.decls (first_scope p.name) (stand p legal) legal.placed.2 (first-here p.name) (once p legal).1;
      ranges = all-ranges (types_in p) p.names p.decls (first_scope p.name) (stand p legal) legal.placed.2;
      olds = olds;
      rooted = record { sound = sound-first p.name; whole = whole-first p.name; parts = parts-first; own = refl };
    }
