use Rattle.std.proofs.Common.{◌≡◌, drop, map}
use Rattle.vale_syntax.specs.inner.CodeTrees.{tree as ex, exs}
use Rattle.term_core.specs.Terms.{tree}
use Rattle.operand_types.specs.TermIn.{terms_of, range_of}
use Rattle.operand_types.specs.inner.Walks.{known, behind}
use Rattle.operand_types.proofs.terms.Over.+terms.Given as goal

-- the terms so far, and those of the rest behind them, are all
abbrev pub invariant-list-loop-arg : goal.invariant-list-loop-arg
invariant-list-loop-arg g l = behind (map tree l.made) (terms_of (known (g.N.Names.sorts l.self.names.now) l.bound l.self.funs.now) (exs (map ex (drop l.arg-index l.args)))) ≡ terms_of (known (g.N.Names.sorts l.self.names.now) l.bound l.self.funs.now) (exs (map ex l.args))

abbrev pub invariant-range-loop-number : goal.invariant-range-loop-number
invariant-range-loop-number g l = behind (map tree l.made) (range_of (known (g.N.Names.sorts l.self.names.now) l.bound l.self.funs.now) l.name.text l.number (exs (map ex (drop l.number l.args)))) ≡ range_of (known (g.N.Names.sorts l.self.names.now) l.bound l.self.funs.now) l.name.text 1 (exs (map ex (drop 1 l.args)))
