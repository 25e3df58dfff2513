-- Lists of things in the grammar, over what spells one of them.
use Rattle.std.specs.Prelude.{◌≡◌, List, [], ◌∷◌, ◌++◌, drop}
use Rattle.vale_syntax.specs.declared.token.Token.{Token}
use Rattle.vale_syntax.specs.declared.mark.Mark.TheVariants as mark
use Rattle.vale_syntax.specs.declared.lookahead.Lookahead.TheVariants as see
use Rattle.vale_syntax.specs.Peek.{peek}

-- What spells a thing: the tokens begin with it, and the others follow.
abbrev pub Relation : Type 0 → Type 1
Relation A = List Token → A → List Token → Type 0

-- behind some things, more of them, each behind a comma
pub data Commas {A : Type 0} (Item : Relation A) : List A → List Token → List A → List Token → Type 0 where
  commas_end : {xs : List A} {ts : List Token} → Commas Item xs ts xs ts
  commas_next : {xs ys : List A} {y : A} {ts mid rest : List Token} → peek ts ≡ see.Mark mark.Comma → Item (drop 1 ts) y mid → Commas Item (xs ++ y ∷ []) mid ys rest → Commas Item xs ts ys rest

-- one or more things, joined by commas
pub data CommaList {A : Type 0} (Item : Relation A) : List Token → List A → List Token → Type 0 where
  comma_items : {x : A} {xs : List A} {ts mid rest : List Token} → Item ts x mid → Commas Item (x ∷ []) mid xs rest → CommaList Item ts xs rest

-- things joined by commas, and the closing round bracket
pub data ClosedList {A : Type 0} (Item : Relation A) : List Token → List A → List Token → Type 0 where
  no_items : {ts : List Token} → peek ts ≡ see.Mark mark.RoundClose → ClosedList Item ts [] (drop 1 ts)
  some_items : {xs : List A} {ts mid : List Token} → CommaList Item ts xs mid → peek mid ≡ see.Mark mark.RoundClose → ClosedList Item ts xs (drop 1 mid)

-- behind some things, more of them, one behind the other
pub data Many {A : Type 0} (Item : Relation A) : List A → List Token → List A → List Token → Type 0 where
  many_end : {xs : List A} {ts : List Token} → Many Item xs ts xs ts
  many_next : {xs ys : List A} {y : A} {ts mid rest : List Token} → Item ts y mid → Many Item (xs ++ y ∷ []) mid ys rest → Many Item xs ts ys rest
