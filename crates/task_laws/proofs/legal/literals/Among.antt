-- Literals among kinds, where one more kind stands behind them.
use Rattle.std.proofs.Common.{◌≡◌, ◌+◌, ℕ, suc, List, [], ◌∷◌, ◌++◌, length, option_map, Option, Some, None, refl, ap, ◌∙◌, arith}
use Rattle.ada_tree.specs.declared.naming.NameId.{NameId}
use Rattle.ada_tree.specs.declared.static_types.Kind.{Kind}
use Rattle.ada_static_rules.specs.StaticValue.{position_in, first_of_two}
use Rattle.task_laws.specs.legal.rewritten_types.Agreement.{Literal, literal_among}

-- the literal at a position of the kind at a place
abbrev pub at_kind : ℕ → Option ℕ → Option Literal
at_kind k o = option_map (λ n. record { kind = k; position = n }) o

three : (a b c : Option Literal) → first_of_two a (first_of_two b c) ≡ first_of_two (first_of_two a b) c
three (Some x) b c = refl
three None b c = refl

alone : (k j : ℕ) (o : Option ℕ) → k ≡ j → first_of_two (at_kind k o) None ≡ at_kind j o
alone k j (Some n) e = ap (λ i. Some record { kind = i; position = n }) e
alone k j None e = refl

-- A literal is one of the kinds before or one of the last.
pub among-last : (ks : List Kind) (k : ℕ) (x : Kind) (id : NameId) → literal_among (ks ++ x ∷ []) k id ≡ first_of_two (literal_among ks k id) (at_kind (length ks + k) (position_in id x))
among-last [] k x id = let e : k ≡ 0 + k = omega arith in alone k (0 + k) (position_in id x) e
among-last (y ∷ ks) k x id =
    let e : length ks + suc k ≡ suc (length ks) + k = omega arith in
    let a = at_kind k (position_in id y) in
    ap (first_of_two a) (among-last ks (suc k) x id)
    ∙ three a (literal_among ks (suc k) id) (at_kind (length ks + suc k) (position_in id x))
    ∙ ap (λ n. first_of_two (first_of_two a (literal_among ks (suc k) id)) (at_kind n (position_in id x))) e
