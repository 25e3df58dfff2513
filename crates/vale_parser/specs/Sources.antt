-- Declarations, one behind the other.
use Rattle.std.specs.Prelude.{◌≡◌, List, [], ◌∷◌}
use Rattle.vale_syntax.specs.declared.spot.Spot.{Spot}
use Rattle.vale_syntax.specs.declared.token.Token.{Token}
use Rattle.vale_syntax.specs.Peek.{spot_of}
use Rattle.vale_syntax.specs.Programs.{De}
use Rattle.vale_syntax.specs.Declarations.{Declaration}

-- the tokens begin with the declarations, and the others follow
pub data Front : List Token → List De → List Token → Type 0 where
  no_more : {ts : List Token} → Front ts [] ts
  one_more : {ts mid rest : List Token} {x : De} {xs : List De} → Declaration ts x mid → Front mid xs rest → Front ts (x ∷ xs) rest

-- behind some declarations there are tokens, the first of which stands there, and no front of them is a declaration
pub record StopsAt (ts : List Token) (first : Spot) : Type 0 where
  pub decls : List De
  pub rest : List Token
  pub front : Front ts decls rest
  pub some : rest ≡ [] → ⊥
  pub here : spot_of rest ≡ first
  pub none : (x : De) (behind : List Token) → Declaration rest x behind → ⊥
