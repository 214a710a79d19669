-- What stays in the normal form meets the rules 13 to 23 there, where it does in the program, also a few levels deeper.
use Rattle.std.proofs.Common.{◌≡◌, ℕ, ◌+◌, ◌≤◌, Bool, true, not, ◌||◌, if◌then◌else◌, List, [], ◌∷◌, length, sym, ap, ◌∙◌, arith}
use Rattle.std.specs.List.{list_any}
use Rattle.ada_tree.specs.declared.naming.NameId.{NameId}
use Rattle.ada_tree.specs.declared.naming.Span.{Span}
use Rattle.ada_tree.specs.declared.naming.Word.{Word}
use Rattle.ada_tree.specs.PlainStmt.{PHead}
use Rattle.ada_tree.specs.PlainDecl.{PDecl}
use Rattle.syn_event.specs.declared.numbering.Mode.TheVariants.{Original, Any}
use Rattle.syn_event.specs.declared.limits.What.TheVariants.{Nesting}
use Rattle.syn_event.specs.CheckScope.{CheckScope, CheckSite, declares, accepts, counts}
use Rattle.syn_event.specs.CheckSites as check
use Rattle.syn_event.specs.DeclaredTasks.{text_of}
use Rattle.syn_event.specs.RuleAcceptPlace.{is_among, is_own_entry}
use Rattle.syn_event.specs.RuleExitPlace.{is_left}
use Rattle.task_laws.specs.legal.sites.Met.{IsCheckMet}
use Rattle.task_model.specs.Setting.{Setting}
use Rattle.normal_laws.proofs.structure.placed.Depth.{depth-of}
use Rattle.normal_laws.proofs.structure.placed.Tasks.{declared-length}
use Rattle.normal_laws.specs.structure.checked.Around.{own_rules, IsAround}
use Rattle.normal_laws.proofs.structure.checked.Places.{met-deep, met-name, met-use, met-accept, met-exit, met-raise}
use Rattle.normal_laws.proofs.structure.checked.Parts.{Stay, StayIn}

-- a part may stand five deeper in the normal form
abbrev pub Near : ℕ → ℕ → Type 0
Near k n = n ≤ k + 5

module _ (g : Setting) (own : ℕ → Bool) (vars : List PDecl) (names names' : List (List ℕ))
    (texts : (id : NameId) → own id.0 ≡ true → text_of names' id ≡ text_of names id) (c d : CheckScope) (rel : IsAround g own vars c d) where
  abbrev M : CheckSite → Type 0
  M = IsCheckMet Original names

  abbrev M' : CheckSite → Type 0
  M' = IsCheckMet Any names'

  deep : (k n : ℕ) (s : Span) → n ≤ k + 5 → M (check.site c (counts Nesting 0 k s)) → M' (check.site d (counts Nesting 0 n s))
  deep k n s le m = let i : k ≤ 40 = depth-of names c k s m in met-deep names' d n s (omega (arith, i, le))

  pub name-stays : (w : Word) → own w.name.0 ≡ true → M (check.site c (declares w)) → M' (check.site d (declares w))
  name-stays w h m =
      let l : length (text_of names w.name) ≤ 120 = declared-length names c w m in
      let e : length (text_of names' w.name) ≡ length (text_of names w.name) = ap (λ (t : List ℕ). length t) (texts w.name h) in
      met-name names' d w (omega (arith, l, e))

  pub stay : Stay (own_rules own) M M' Near c d
  stay = record {
    next = λ k n le. omega (arith, le);
    deep = λ k n s le h m. deep k n s le m;
    used = λ id s h m. met-use names' d id s (rel.hidden id s h m.shared);
    name = name-stays;
  }

  -- an accept with that entry and place
  pub accept-stays : (x y : PHead) → x.entry.name ≡ y.entry.name → x.span ≡ y.span → M (check.site c (accepts x)) → M' (check.site d (accepts y))
  accept-stays x y e f m =
      met-accept names' d y
      (ap (λ s. if not (is_own_entry d.own y.entry.name) || is_among d.accepting y.entry.name then s ∷ [] else []) (sym f)
      ∙ ap (λ id. if not (is_own_entry d.own id) || is_among d.accepting id then x.span ∷ [] else []) (sym e)
      ∙ ap (λ t. if not t || is_among d.accepting x.entry.name then x.span ∷ [] else []) (rel.entries x.entry.name)
      ∙ ap (λ l. if not (is_own_entry c.own x.entry.name) || is_among l x.entry.name then x.span ∷ [] else []) rel.accepting
      ∙ m.accepts)

  pub stay-in : StayIn (own_rules own) M M' Near c d
  stay-in = record {
    parts = stay;
    left = λ w s m. met-exit names' d w s (ap (λ l. if list_any (is_left w) l then [] else s ∷ []) rel.loops ∙ m.exits);
    raised = λ s m. met-raise names' d s (ap (λ t. if t then [] else s ∷ []) rel.in_handler ∙ m.raises);
  }
