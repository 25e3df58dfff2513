-- What the productions without statements spell is found.
use Rattle.std.proofs.Common.{◌≡◌, ℕ, zero, suc, ◌+◌, ◌<◌, ◌≤◌, Bool, true, false, cond, List, [], ◌∷◌, length, drop, Some, refl, sym, ◌∙◌, ap, subst, arith}
use Rattle.std.proofs.lemmas.Option.{same_Some}
use Rattle.x64_syntax.specs.declared.keywords.Keyword.TheVariants as word
use Rattle.vale_syntax.specs.declared.token.Token.{Token}
use Rattle.vale_syntax.specs.declared.spot.Spot.{Spot}
use Rattle.vale_syntax.specs.declared.mark.Mark.{Mark}
use Rattle.vale_syntax.specs.declared.mark.Mark.TheVariants as mark
use Rattle.vale_syntax.specs.declared.lookahead.Lookahead.{Lookahead}
use Rattle.vale_syntax.specs.declared.lookahead.Lookahead.TheVariants as see
use Rattle.vale_syntax.specs.declared.expr.Name.{Name}
use Rattle.vale_syntax.specs.declared.statement.SortName.{SortName}
use Rattle.x64_syntax.specs.declared.type_words.Sort.TheVariants as sort
use Rattle.vale_syntax.specs.declared.declaration.KindName.{KindName}
use Rattle.vale_syntax.specs.declared.declaration.Bind.{Bind}
use Rattle.vale_syntax.specs.declared.declaration.Param.{Param}
use Rattle.vale_syntax.specs.declared.declaration.Param.TheVariants as param
use Rattle.vale_syntax.specs.declared.declaration.Direction.{Direction}
use Rattle.vale_syntax.specs.declared.declaration.Direction.TheVariants as direction
use Rattle.vale_syntax.specs.declared.declaration.ReadPlace.{ReadPlace}
use Rattle.vale_syntax.specs.Operators.{any}
use Rattle.vale_syntax.specs.Peek.{peek, spot_of}
use Rattle.vale_syntax.specs.Trees.{Ex}
use Rattle.vale_syntax.specs.Expressions.{Spells, name_of, depth_limit}
use Rattle.vale_syntax.specs.Options.{◌>>=◌ as ◌>=>◌}
use Rattle.vale_syntax.specs.Statements.{Expression, sort_at}
use Rattle.vale_syntax.specs.Declarations.{IsName, name as is_name_, IsBind, bind as is_bind, secret, open_, IsPlace, place as is_place, IsParam, operand_param, out_param, inline_param, ghost_param, block_param as is_block, kind_at, direction_by}
use Rattle.vale_syntax.proofs.Complete.{loose, found}
use Rattle.vale_syntax.proofs.Grows.{spells_short}
use Rattle.expr_parser.specs.inner.Reads.{expression as expression_front}
use Rattle.vale_parser.specs.inner.Productions.{plain_only, expression}
use Rattle.vale_syntax.specs.inner.Marks.{mark_eq}
use Rattle.vale_parser.specs.inner.Parts.{bind as and_then, expect, before}
use Rattle.vale_parser.specs.inner.Productions.{only_if, is_name, is_secret, name, sort_behind, kind_behind, bind, place_at, place, operand_at, out_at, inline_by, inline_at, ghost_at, block_at, secret_param_by, secret_param, param_by, parameter}
use Rattle.vale_parser.proofs.Parts.{bound, expect_found}

-- dropping twice
pub dd : (m n : ℕ) (ts : List Token) → drop n (drop m ts) ≡ drop (m + n) ts
dd zero n ts = ap (λ k. drop k ts) (same n)
  where
    same : (n : ℕ) → n ≡ 0 + n
    same n = omega arith
dd (suc m) n [] = none n (suc m + n)
  where
    none : (n k : ℕ) → drop {A = Token} n [] ≡ drop k []
    none n k = nothing n ∙ sym (nothing k)
      where
        nothing : (n : ℕ) → drop {A = Token} n [] ≡ []
        nothing zero = refl
        nothing (suc n) = refl
dd (suc m) n (t ∷ ts) = dd m n ts ∙ ap (λ k. drop k (t ∷ ts)) (next m n)
  where
    next : (m n : ℕ) → suc (m + n) ≡ suc m + n
    next m n = omega arith

-- nothing that goes on with an expression follows
unfoldable pub Ends : Lookahead → Type 0
Ends f = suc any < loose f

-- what is spelled is found, and taken where it has no stamped names
pub expression_front_found : {d : ℕ} {ts : List Token} {x : Ex} {rest : List Token} → Spells any d ts x rest → d ≤ depth_limit → Ends (peek rest) → expression ts ≡ plain_only ts (x, rest)
unfolding expression_front Ends
expression_front_found {ts = ts} s shallow h = ap (λ o. and_then (o >=> λ g. Some (g.tree, g.rest)) (plain_only ts)) (found s depth_limit shallow h)

pub expression_found : (ts : List Token) (x : Ex) (rest : List Token) → Expression ts x rest → Ends (peek rest) → expression ts ≡ Some (x, rest)
expression_found ts x rest e h = expression_front_found e.spelled e.shallow h ∙ ap (λ b. only_if b (Some (x, rest))) e.plain

pub expression_short : (ts : List Token) (x : Ex) (rest : List Token) → Expression ts x rest → length rest ≤ length ts
expression_short ts x rest e = spells_short e.spelled

-- an expression before a mark
pub before_found : (m : Mark) (ts : List Token) (x : Ex) (rest : List Token) → mark_eq m m ≡ true → Ends (see.Mark m) → Expression ts x rest → peek rest ≡ see.Mark m → before m (expression ts) ≡ Some (x, drop 1 rest)
before_found m ts x rest eq ends e p =
    bound (expression ts) (x, rest) (λ p. and_then (expect m p.1) (λ rest. Some (p.0, rest))) _ (expression_found ts x rest e (subst Ends (sym p) ends))
    (bound (expect m rest) (drop 1 rest) (λ l. Some (x, l)) _ (expect_found m rest eq p) refl)

pub semicolon_found : (ts : List Token) (x : Ex) (rest : List Token) → Expression ts x rest → peek rest ≡ see.Mark mark.Semicolon → before mark.Semicolon (expression ts) ≡ Some (x, drop 1 rest)
unfolding Ends loose
semicolon_found ts x rest e p = before_found mark.Semicolon ts x rest refl (omega arith) e p

pub round_found : (ts : List Token) (x : Ex) (rest : List Token) → Expression ts x rest → peek rest ≡ see.Mark mark.RoundClose → before mark.RoundClose (expression ts) ≡ Some (x, drop 1 rest)
unfolding Ends loose
round_found ts x rest e p = before_found mark.RoundClose ts x rest refl (omega arith) e p

pub name_found : (ts : List Token) → peek ts ≡ see.Name → name ts ≡ Some (name_of ts, drop 1 ts)
name_found ts p = ap (λ f. only_if (is_name f) (Some (name_of ts, drop 1 ts))) p

pub sort_behind_found : (ts : List Token) (s : SortName) → peek ts ≡ see.Mark mark.Colon → sort_at (drop 1 ts) ≡ Some s → sort_behind ts ≡ Some (s, drop 2 ts)
sort_behind_found ts s p q =
    bound (expect mark.Colon ts) (drop 1 ts) (λ rest. and_then (sort_at rest) (λ s. Some (s, drop 1 rest))) _ (expect_found mark.Colon ts refl p)
    (bound (sort_at (drop 1 ts)) s (λ s. Some (s, drop 1 (drop 1 ts))) _ q (ap (λ l. Some (s, l)) (dd 1 1 ts)))

kind_behind_found : (ts : List Token) (k : KindName) → peek ts ≡ see.Mark mark.Colon → kind_at (drop 1 ts) ≡ Some k → kind_behind ts ≡ Some (k, drop 2 ts)
kind_behind_found ts k p q =
    bound (expect mark.Colon ts) (drop 1 ts) (λ rest. and_then (kind_at rest) (λ k. Some (k, drop 1 rest))) _ (expect_found mark.Colon ts refl p)
    (bound (kind_at (drop 1 ts)) k (λ k. Some (k, drop 1 (drop 1 ts))) _ q (ap (λ l. Some (k, l)) (dd 1 1 ts)))

pub is_name_found : (ts : List Token) (n : Name) (rest : List Token) → IsName ts n rest → name ts ≡ Some (n, rest)
is_name_found ts n rest (is_name_ p) = name_found ts p

pub bind_found : (ts : List Token) (b : Bind) (rest : List Token) → IsBind ts b rest → bind ts ≡ Some (b, rest)
unfolding bind
bind_found ts b rest (is_bind {s = s} p q r) =
    bound (name ts) (name_of ts, drop 1 ts) (λ n. and_then (sort_behind n.1) (λ s. Some (record { name = n.0; sort = s.0 }, s.1))) _ (name_found ts p)
    (bound (sort_behind (drop 1 ts)) (s, drop 2 (drop 1 ts)) (λ s. Some (record { name = name_of ts; sort = s.0 }, s.1)) _ (sort_behind_found (drop 1 ts) s q (ap sort_at (dd 1 1 ts) ∙ r))
    (ap (λ l. Some (record { name = name_of ts; sort = s }, l)) (dd 1 2 ts)))

place_at_found : (s : Spot) (b : Bool) (ts : List Token) → peek ts ≡ see.Name → place_at s b ts ≡ Some (record { spot = s; is_secret = b; name = name_of ts }, drop 1 ts)
place_at_found s b ts p = bound (name ts) (name_of ts, drop 1 ts) (λ n. Some (record { spot = s; is_secret = b; name = n.0 }, n.1)) _ (name_found ts p) refl

pub place_found : (ts : List Token) (r : ReadPlace) (rest : List Token) → IsPlace ts r rest → place ts ≡ Some (r, rest)
unfolding place
place_found ts r rest (is_place {mid = mid} (secret q) p) =
    ap (λ f. cond (is_secret f) (place_at (spot_of ts) true (drop 1 ts)) (place_at (spot_of ts) false ts)) q ∙ place_at_found (spot_of ts) true (drop 1 ts) p
place_found ts r rest (is_place {mid = mid} open_ p) =
    ap (λ f. cond (is_secret f) (place_at (spot_of ts) true (drop 1 ts)) (place_at (spot_of ts) false ts)) p ∙ place_at_found (spot_of ts) false ts p

-- parameters
operand_found : (s : Spot) (b : Bool) (d : Direction) (k : KindName) (ts : List Token) → peek ts ≡ see.Name → peek (drop 1 ts) ≡ see.Mark mark.Colon → kind_at (drop 2 ts) ≡ Some k → operand_at s b d ts ≡ Some (param.Operand s b d (name_of ts) k, drop 3 ts)
operand_found s b d k ts p q r =
    bound (name ts) (name_of ts, drop 1 ts) (λ n. and_then (kind_behind n.1) (λ k. Some (param.Operand s b d n.0 k.0, k.1))) _ (name_found ts p)
    (bound (kind_behind (drop 1 ts)) (k, drop 2 (drop 1 ts)) (λ k. Some (param.Operand s b d (name_of ts) k.0, k.1)) _ (kind_behind_found (drop 1 ts) k q (ap kind_at (dd 1 1 ts) ∙ r))
    (ap (λ l. Some (param.Operand s b d (name_of ts) k, l)) (dd 1 2 ts)))

out_found : (s : Spot) (k : KindName) (ts : List Token) → peek ts ≡ see.Name → peek (drop 1 ts) ≡ see.Mark mark.Colon → kind_at (drop 2 ts) ≡ Some k → out_at s ts ≡ Some (param.Out s (name_of ts) k, drop 3 ts)
out_found s k ts p q r =
    bound (name ts) (name_of ts, drop 1 ts) (λ n. and_then (kind_behind n.1) (λ k. Some (param.Out s n.0 k.0, k.1))) _ (name_found ts p)
    (bound (kind_behind (drop 1 ts)) (k, drop 2 (drop 1 ts)) (λ k. Some (param.Out s (name_of ts) k.0, k.1)) _ (kind_behind_found (drop 1 ts) k q (ap kind_at (dd 1 1 ts) ∙ r))
    (ap (λ l. Some (param.Out s (name_of ts) k, l)) (dd 1 2 ts)))

inline_found : (s t : Spot) (ts : List Token) → peek ts ≡ see.Name → peek (drop 1 ts) ≡ see.Mark mark.Colon → sort_at (drop 2 ts) ≡ Some (record { sort = sort.Int; spot = t }) → inline_at s ts ≡ Some (param.Inline s (name_of ts), drop 3 ts)
inline_found s t ts p q r =
    bound (name ts) (name_of ts, drop 1 ts) (λ n. and_then (sort_behind n.1) (λ t. inline_by t.0.sort (param.Inline s n.0, t.1))) _ (name_found ts p)
    (bound (sort_behind (drop 1 ts)) (record { sort = sort.Int; spot = t }, drop 2 (drop 1 ts)) (λ t. inline_by t.0.sort (param.Inline s (name_of ts), t.1)) _ (sort_behind_found (drop 1 ts) (record { sort = sort.Int; spot = t }) q (ap sort_at (dd 1 1 ts) ∙ r))
    (ap (λ l. Some (param.Inline s (name_of ts), l)) (dd 1 2 ts)))

ghost_found : (s : Spot) (t : SortName) (ts : List Token) → peek ts ≡ see.Name → peek (drop 1 ts) ≡ see.Mark mark.Colon → sort_at (drop 2 ts) ≡ Some t → ghost_at s ts ≡ Some (param.Ghost s (name_of ts) t, drop 3 ts)
ghost_found s t ts p q r =
    bound (name ts) (name_of ts, drop 1 ts) (λ n. and_then (sort_behind n.1) (λ t. Some (param.Ghost s n.0 t.0, t.1))) _ (name_found ts p)
    (bound (sort_behind (drop 1 ts)) (t, drop 2 (drop 1 ts)) (λ t. Some (param.Ghost s (name_of ts) t.0, t.1)) _ (sort_behind_found (drop 1 ts) t q (ap sort_at (dd 1 1 ts) ∙ r))
    (ap (λ l. Some (param.Ghost s (name_of ts) t, l)) (dd 1 2 ts)))

-- behind `secret` or nothing
guarded_operand : (s : Spot) (b : Bool) (d : Direction) (k : KindName) (f : Lookahead) (ts : List Token) → direction_by f ≡ Some d → peek ts ≡ see.Name → peek (drop 1 ts) ≡ see.Mark mark.Colon → kind_at (drop 2 ts) ≡ Some k
    → secret_param_by s b f ts ≡ Some (param.Operand s b d (name_of ts) k, drop 3 ts)
guarded_operand s b d k (see.Keyword word.In) ts e p q r = subst (λ d. operand_at s b direction.In ts ≡ Some (param.Operand s b d (name_of ts) k, drop 3 ts)) (same_Some direction.In d e) (operand_found s b direction.In k ts p q r)
guarded_operand s b d k (see.Keyword word.InOut) ts e p q r = subst (λ d. operand_at s b direction.InOut ts ≡ Some (param.Operand s b d (name_of ts) k, drop 3 ts)) (same_Some direction.InOut d e) (operand_found s b direction.InOut k ts p q r)
guarded_operand s b d k _ ts e p q r = absurd cc

block_found : (s : Spot) (b : Bool) (ts : List Token) → peek ts ≡ see.Name → block_at s b ts ≡ Some (param.Block s b (name_of ts), drop 1 ts)
block_found s b ts p = bound (name ts) (name_of ts, drop 1 ts) (λ n. Some (param.Block s b n.0, n.1)) _ (name_found ts p) refl

-- a parameter that isn't secret begins with its own word
open_param : (f : Lookahead) (d : Direction) (ts : List Token) → direction_by f ≡ Some d → param_by f ts ≡ secret_param (spot_of ts) false ts
open_param (see.Keyword word.In) d ts e = refl
open_param (see.Keyword word.InOut) d ts e = refl
open_param _ d ts e = absurd cc

pub parameter_found : (ts : List Token) (p : Param) (rest : List Token) → IsParam ts p rest → parameter ts ≡ Some (p, rest)
unfolding parameter
parameter_found ts p rest (operand_param {d = d} {k = k} (secret q) e a b c) =
    ap (λ f. param_by f ts) q
    ∙ guarded_operand (spot_of ts) true d k (peek (drop 1 ts)) (drop 1 (drop 1 ts)) e a (ap peek (dd 1 1 (drop 1 ts)) ∙ b) (ap kind_at (dd 1 2 (drop 1 ts)) ∙ c)
    ∙ ap (λ l. Some (param.Operand (spot_of ts) true d (name_of (drop 1 (drop 1 ts))) k, l)) (dd 1 3 (drop 1 ts))
parameter_found ts p rest (operand_param {d = d} {k = k} open_ e a b c) =
    open_param (peek ts) d ts e
    ∙ guarded_operand (spot_of ts) false d k (peek ts) (drop 1 ts) e a (ap peek (dd 1 1 ts) ∙ b) (ap kind_at (dd 1 2 ts) ∙ c)
    ∙ ap (λ l. Some (param.Operand (spot_of ts) false d (name_of (drop 1 ts)) k, l)) (dd 1 3 ts)
parameter_found ts p rest (out_param {k = k} q a b c) =
    ap (λ f. param_by f ts) q ∙ out_found (spot_of ts) k (drop 1 ts) a (ap peek (dd 1 1 ts) ∙ b) (ap kind_at (dd 1 2 ts) ∙ c)
    ∙ ap (λ l. Some (param.Out (spot_of ts) (name_of (drop 1 ts)) k, l)) (dd 1 3 ts)
parameter_found ts p rest (inline_param {s = s} q a b c) =
    ap (λ f. param_by f ts) q ∙ inline_found (spot_of ts) s (drop 1 ts) a (ap peek (dd 1 1 ts) ∙ b) (ap sort_at (dd 1 2 ts) ∙ c)
    ∙ ap (λ l. Some (param.Inline (spot_of ts) (name_of (drop 1 ts)), l)) (dd 1 3 ts)
parameter_found ts p rest (ghost_param {s = s} q a b c) =
    ap (λ f. param_by f ts) q ∙ ghost_found (spot_of ts) s (drop 1 ts) a (ap peek (dd 1 1 ts) ∙ b) (ap sort_at (dd 1 2 ts) ∙ c)
    ∙ ap (λ l. Some (param.Ghost (spot_of ts) (name_of (drop 1 ts)) s, l)) (dd 1 3 ts)
parameter_found ts p rest (is_block (secret q) e a) =
    ap (λ f. param_by f ts) q ∙ ap (λ f. secret_param_by (spot_of ts) true f (drop 1 (drop 1 ts))) e ∙ block_found (spot_of ts) true (drop 1 (drop 1 ts)) a
    ∙ ap (λ l. Some (param.Block (spot_of ts) true (name_of (drop 1 (drop 1 ts))), l)) (dd 1 1 (drop 1 ts))
parameter_found ts p rest (is_block open_ e a) =
    ap (λ f. param_by f ts) e ∙ ap (λ f. secret_param_by (spot_of ts) false f (drop 1 ts)) e ∙ block_found (spot_of ts) false (drop 1 ts) a
    ∙ ap (λ l. Some (param.Block (spot_of ts) false (name_of (drop 1 ts)), l)) (dd 1 1 ts)
