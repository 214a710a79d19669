-- What stays of a text in another text that keeps some names meets the rules 13 to 23 there, where it does in the first, also deeper.
use Rattle.std.proofs.Common.{◌≡◌, ℕ, ◌+◌, ◌≤◌, Bool, true, false, not, ◌||◌, ◌&&◌, nat_le, nat_lt, if◌then◌else◌, List, [], ◌∷◌, length, refl, ap, ◌∙◌, arith}
use Rattle.std.specs.List.{list_any}
use Rattle.std.proofs.lemmas.Bool.{ltb-false}
use Rattle.ada_tree.specs.declared.naming.NameId.{NameId}
use Rattle.ada_tree.specs.declared.naming.Span.{Span}
use Rattle.ada_tree.specs.declared.naming.Word.{Word}
use Rattle.ada_tree.specs.PlainStmt.{PHead}
use Rattle.ada_tree.specs.Every.{Rules, no_rules}
use Rattle.syn_event.specs.declared.numbering.Mode.TheVariants.{Any}
use Rattle.syn_event.specs.declared.limits.What.{What}
use Rattle.syn_event.specs.CheckScope.{CheckScope, CheckSite, meaning, declares, uses, addresses, accepts, counts}
use Rattle.syn_event.specs.CheckSites as check
use Rattle.syn_event.specs.DeclaredTasks.{text_of}
use Rattle.syn_event.specs.RuleAcceptPlace.{is_among, is_own_entry}
use Rattle.syn_event.specs.RuleExitPlace.{is_left}
use Rattle.syn_event.specs.RuleMainEntry.{no_task}
use Rattle.syn_event.specs.RuleSharedVariable.{shared_name, in_body_of, shared_variable}
use Rattle.syn_event.proofs.Nothing.{test_fails}
use Rattle.task_laws.specs.legal.sites.Met.{IsCheckMet}
use Rattle.normal_laws.proofs.structure.checked.Places.{met-deep, met-name, met-use, met-callee, met-accept, met-exit, met-raise}
use Rattle.normal_laws.proofs.structure.checked.Parts.{Stay, StayOut, StayIn}

-- The number of a limit that is not passed, where nothing stands before.
pub under-limit : (limit n : ℕ) → nat_lt limit (0 + n) ≡ false → n ≤ limit
under-limit limit n e = let l : 0 + n ≤ limit = ltb-false limit (0 + n) e in omega (arith, l)

-- What is counted at a place keeps to the limits at any other.
pub counted-stays : (names names' : List (List ℕ)) (c d : CheckScope) (what : What) (before here : ℕ) (s : Span) →
    IsCheckMet Any names (check.site c (counts what before here s)) →
    IsCheckMet Any names' (check.site d (counts what before here s))
counted-stays names names' c d what before here s m = record {
  shared = refl;
  accepts = refl;
  selects = refl;
  twice = refl;
  reserved = refl;
  main = refl;
  order = refl;
  bodies = refl;
  exits = refl;
  raises = refl;
  limits = m.limits;
}

-- each name is a kept one, and no part stands deeper than 100; in the other text a part may stand 200 deeper
abbrev pub keeping : (ℕ → Bool) → Rules
keeping kept = record no_rules { name = λ id. kept id.0 ≡ true; nested = λ k. k ≤ 100 }

abbrev pub Deeper : ℕ → ℕ → Type 0
Deeper k n = n + 100 ≤ k + 300

-- what the rules that stay ask of what stands around a place of each of the texts, but for the loops
pub record Beside (kept : ℕ → Bool) (c d : CheckScope) : Type 0 where
  pub meant : (id : NameId) → kept id.0 ≡ true → meaning d id ≡ meaning c id
  pub inside : (spans : List Span) → in_body_of d.own spans ≡ in_body_of c.own spans
  pub entries : (id : NameId) → is_own_entry c.own id ≡ true → is_own_entry d.own id ≡ true
  pub accepting : d.accepting ≡ c.accepting
  pub in_handler : c.in_handler ≡ true → d.in_handler ≡ true

-- a kept name that is no shared variable in the one is none in the other
abbrev pub UsesStay : (ℕ → Bool) → CheckScope → CheckScope → Type 0
UsesStay kept c d = (id : NameId) (s : Span) → kept id.0 ≡ true → shared_variable c (uses id s) ≡ [] → shared_variable d (uses id s) ≡ []

module _ (names names' : List (List ℕ)) (kept : ℕ → Bool)
    (same : (id : NameId) → kept id.0 ≡ true → text_of names' id ≡ text_of names id) (c d : CheckScope) where
  abbrev M : CheckSite → Type 0
  M = IsCheckMet Any names

  abbrev M' : CheckSite → Type 0
  M' = IsCheckMet Any names'

  pub name-stays : (w : Word) → kept w.name.0 ≡ true → M (check.site c (declares w)) → M' (check.site d (declares w))
  name-stays w h m =
      let l : length (text_of names w.name) ≤ 150 = under-limit 150 (length (text_of names w.name))
      (test_fails (nat_le 0 150 && nat_lt 150 (0 + length (text_of names w.name))) _ m.limits) in
      let e : length (text_of names' w.name) ≡ length (text_of names w.name) = ap (λ (t : List ℕ). length t) (same w.name h) in
      met-name names' d w (omega (arith, l, e))

  pub stay : UsesStay kept c d → Stay (keeping kept) M M' Deeper c d
  stay shown = record {
    next = λ k n le. omega (arith, le);
    deep = λ k n s le small m. met-deep names' d n s (omega (arith, small, le));
    used = λ id s h m. met-use names' d id s (shown id s h m.shared);
    name = name-stays;
  }

  pub stay-out : UsesStay kept c d → StayOut (keeping kept) M M' Deeper c d
  stay-out shown = record { parts = stay shown; level = omega arith; counted = λ what before here s m. counted-stays names names' c d what before here s m }

  module _ (b : Beside kept c d) where
    pub uses-stay : UsesStay kept c d
    uses-stay id s o h = ap (λ m. in_body_of d.own (shared_name m s)) (b.meant id o) ∙ b.inside (shared_name (meaning c id) s) ∙ h

    pub addressed-stays : (w : Word) → kept w.name.0 ≡ true → M (check.site c (addresses w)) → M' (check.site d (addresses w))
    addressed-stays w h m = met-callee names' d w (ap (λ o. no_task o w.span) (b.meant w.name h) ∙ m.main)

    pub accept-stays : (h : PHead) → M (check.site c (accepts h)) → M' (check.site d (accepts h))
    accept-stays h m =
        met-accept names' d h
        (go (is_own_entry c.own h.entry.name) refl (is_among c.accepting h.entry.name) (ap (λ l. is_among l h.entry.name) b.accepting)
        (test_fails (not (is_own_entry c.own h.entry.name) || is_among c.accepting h.entry.name) h.span m.accepts))
      where
        go : (x : Bool) → is_own_entry c.own h.entry.name ≡ x → (y : Bool) → is_among d.accepting h.entry.name ≡ y → (not x || y) ≡ false →
            (if not (is_own_entry d.own h.entry.name) || is_among d.accepting h.entry.name then h.span ∷ [] else []) ≡ []
        go false e y f i = absurd (cc)
        go true e y f i =
            ap (λ t. if not t || is_among d.accepting h.entry.name then h.span ∷ [] else []) (b.entries h.entry.name e)
            ∙ ap (λ t. if t then h.span ∷ [] else []) (f ∙ i)

    handled : (s : Span) (t : Bool) → c.in_handler ≡ t → (if t then [] else s ∷ []) ≡ [] → (if d.in_handler then [] else s ∷ []) ≡ []
    handled s true e i = ap (λ t. if t then [] else s ∷ []) (b.in_handler e)
    handled s false e i = cc

    pub stay-in : d.loops ≡ c.loops → StayIn (keeping kept) M M' Deeper c d
    stay-in loops = record {
      parts = stay uses-stay;
      left = λ w s m. met-exit names' d w s (ap (λ l. if list_any (is_left w) l then [] else s ∷ []) loops ∙ m.exits);
      raised = λ s m. met-raise names' d s (handled s c.in_handler refl m.raises);
    }
