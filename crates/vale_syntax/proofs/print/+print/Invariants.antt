use Rattle.std.proofs.Common.{◌≡◌, ◌++◌, true, map, drop}
use Rattle.vale_syntax.specs.inner.CodeTrees.{tree, exs}
use Rattle.vale_syntax.specs.inner.Print.{list_text}
use Rattle.vale_syntax.proofs.print.+print.Given as goal

-- what is written so far and the text of the others are that of all
abbrev pub invariant-push_list-loop-e : goal.invariant-push_list-loop-e
invariant-push_list-loop-e l = l.out.items ++ list_text l.is_first (exs (map tree (drop l.e-index l.list))) ≡ l.fn.out.items ++ list_text true (exs (map tree l.list))
