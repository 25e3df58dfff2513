use Rattle.std.proofs.Common.{refl, subst}
use Rattle.vale_syntax.specs.Expressions.{IsExpr}
use Rattle.vale_syntax.specs.inner.CodeTrees.{tree}
use Rattle.vale_cases.proofs.sources.printed.Goals as goal

pub print_expr-requires : goal.print_expr-requires
print_expr-requires c =
    let x = tree c.in-Ok-read_expr.e in
    let is : IsExpr c.in-Ok.read.items x = subst (λ ts. IsExpr ts x) c.as_slice.ensures.value c.in-Ok-read_expr.ensures.ok in
    c.printed_as_spelled.ensures.writable x 0 c.args.text.now (record { tokens = c.in-Ok.read.items; lexes = c.in-Ok.ensures; tree = x; depth = is.depth; spelled = is.spelled; same = refl })
