-- What tables tell a unit is what the definitions tell it.
use Rattle.std.proofs.Common.{◌≡◌, ℕ, zero, suc, ◌-◌, ◌==◌, cond, Bool, true, false, List, [], ◌∷◌, map, slice_get, unwrap_or, Option, Some, None, refl, ap, ◌∙◌}
use Rattle.ada_tree.specs.declared.naming.NameId.{NameId}
use Rattle.ada_tree.specs.declared.naming.Span.{Span}
use Rattle.ada_tree.specs.declared.static_types.Kind.{Kind}
use Rattle.ada_tree.specs.declared.static_types.Kind.TheVariants as kind
use Rattle.ada_tree.specs.TypeTable.{TypeTable}
use Rattle.ada_tree.specs.PlainExpr.{PExpr, PDrange}
use Rattle.syn_event.specs.declared.numbering.EntryInfo.{EntryInfo}
use Rattle.syn_event.specs.DeclaredTasks.{text_of}
use Rattle.task_model.specs.Setting.{Setting}
use Rattle.normal_model.specs.Names.{id_of}
use Rattle.normal_model.specs.Ranges.{kind_of_range, family_range, range_of_info}
use Rattle.normal_model.specs.RewrittenUnit.{RewrittenUnit}
use Rattle.replay_model.specs.Names.{double_text, replay_names}
use Rattle.replay_model.specs.Asking.{as_number, number_in, member_number}
use Rattle.replay_asking.specs.declared.speaker.Speaker.{Speaker}
use Rattle.replay_asking.specs.Looked.{number_by, member_by, mark_of, double_of, voice_of}
use Rattle.replay_statements.specs.rules.Meant.{voice_in}
use Rattle.replay_declarations.specs.ids.Looking.{mark_of_kind, mark_of_range, mark_at, marks_of, AreTables}

-- ---- numbers of members

number-kind : (types : TypeTable) (s : Span) (k : ℕ) (o : Option Kind) (e : PExpr) → number_by (mark_of_kind types k o) s e ≡ as_number types s k o e
number-kind types s k None e = refl
number-kind types s k (Some kind.Integer) e = refl
number-kind types s k (Some kind.Truth) e = refl
number-kind types s k (Some (kind.Enumeration names)) e = refl
number-kind types s k (Some (kind.Array index first last part)) e = refl

number-range : (types : TypeTable) (s : Span) (r : Option PDrange) (e : PExpr) → number_by (mark_of_range types r) s e ≡ number_in types s r e
number-range types s None e = refl
number-range types s (Some r) e = number-kind types s (kind_of_range types r) (slice_get types.kinds (kind_of_range types r)) e

member-is : (g : Setting) (m : Option NameId) (e : ℕ) → m ≡ mark_at g e → (s : Span) (index : Option PExpr) → member_by m s index ≡ member_number g s e index
member-is g m e is s None = refl
member-is g m e is s (Some i) = ap (λ n. number_by n s i) is ∙ number-range g.types s (family_range g e) i

-- ---- marks

-- what a list of marks gives is what the list from which they were made gives
marks-at : (g : Setting) (xs : List EntryInfo) (k : ℕ) → unwrap_or (slice_get (map (λ info. mark_of_range g.types (range_of_info g (Some info))) xs) k) None ≡ mark_of_range g.types (range_of_info g (slice_get xs k))
marks-at g [] k = refl
marks-at g (x ∷ xs) zero = refl
marks-at g (x ∷ xs) (suc k) = marks-at g xs k

-- the mark that tables give an entry
marks-is : (g : Setting) (x : Speaker) → x.tables.now.marks.items ≡ marks_of g → (e : ℕ) → mark_of x e ≡ mark_at g e
marks-is g x are e =
    ap (λ marks. cond (e == 0) None (unwrap_or (slice_get marks (e - 1)) None)) are ∙ by (e == 0)
  where
    by : (b : Bool) → cond b None (unwrap_or (slice_get (marks_of g) (e - 1)) None) ≡ mark_of_range g.types (range_of_info g (cond b None (slice_get g.numbers.entries (e - 1))))
    by true = refl
    by false = marks-at g g.numbers.entries (e - 1)

-- ---- doubles

double-is : {X : Type 0} (f : List ℕ → X) (names : List (List ℕ)) (k : ℕ) → unwrap_or (slice_get (map f names) k) (f []) ≡ f (unwrap_or (slice_get names k) [])
double-is f [] k = refl
double-is f (t ∷ names) zero = refl
double-is f (t ∷ names) (suc k) = double-is f names k

doubles-is : (g : Setting) (names : List (List ℕ)) (x : Speaker) → AreTables g names x.tables.now → (id : NameId) → double_of x id ≡ id_of names (double_text (text_of g.program.names id))
doubles-is g names x are id =
    (λ i. unwrap_or (slice_get (are.doubles i) id.0) (are.other i)) ∙ double-is (λ t. id_of names (double_text t)) g.program.names id.0

-- ---- all

pub voice-is :
    (u : RewrittenUnit) (x : Speaker) →
    AreTables u.setting (replay_names u.setting.program) x.tables.now →
    x.numbers.now ≡ u.setting.numbers →
    x.task ≡ u.task →
    voice_of x ≡ voice_in u
voice-is u x are numbers task = λ i. record {
  added = are.added i;
  double = λ id. doubles-is u.setting (replay_names u.setting.program) x are id i;
  member = λ e s index. member-is u.setting (mark_of x e) e (marks-is u.setting x are.marks e) s index i;
  numbers = numbers i;
  task = task i;
}
