-- What there are lists of in the grammar, as one type, over which the loops are written.
use Rattle.std.specs.Prelude.{Some}
use Rattle.vale_syntax.specs.declared.expr.Name.{Name}
use Rattle.vale_syntax.specs.declared.declaration.Bind.{Bind}
use Rattle.vale_syntax.specs.declared.declaration.Param.{Param}
use Rattle.vale_syntax.specs.declared.declaration.ReadPlace.{ReadPlace}
use Rattle.vale_syntax.specs.Trees.{Ex}
use Rattle.vale_syntax.specs.Programs.{Ar, Cl, LCl}
use Rattle.vale_parser.specs.inner.Parts.{bind as and_then, Parser}

pub data Thing : Type 0 where
  AnExpr : Ex → Thing
  AnArg : Ar → Thing
  AParam : Param → Thing
  ABind : Bind → Thing
  AName : Name → Thing
  APlace : ReadPlace → Thing
  AClause : Cl → Thing
  ALClause : LCl → Thing

abbrev pub thing_parser : {A : Type 0} → (A → Thing) → Parser A → Parser Thing
thing_parser f item ts = and_then (item ts) (λ p. Some (f p.0, p.1))
