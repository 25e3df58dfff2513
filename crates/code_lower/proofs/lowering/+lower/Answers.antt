use Rattle.std.proofs.Common.{◌∙◌, ap, sym, ◌++◌}
use Rattle.x64_syntax.specs.Code.{Done, If, Loop}
use Rattle.x64_syntax.specs.inner.Nodes.{node_tree, prog}
use Rattle.code_lower.specs.Lowered.{code_items}
use Rattle.code_lower.proofs.Pushed.{if_items, loop_items, if_tree, loop_tree}
use Rattle.code_lower.proofs.lowering.+lower.Goals as goal

pub push_node-returns-in_ok-close_if-in-If-clause-value : goal.push_node-returns-in_ok-close_if-in-If-clause-value
push_node-returns-in_ok-close_if-in-If-clause-value t c =
    let i = c.in-If in
    let opened = c.in_ok-place-in-If.ensures in
    let one = c.in_ok-one-in-If.ensures in
    let turned = c.in_ok-place-in-If-2.ensures in
    let two = c.in_ok-two-in-If.ensures in
    if_items _ _ _ _ _ _ _ _ _ _ _ _ _ _ _ _ _ _ opened.value opened.place one.value one.count c.label.ensures turned.value turned.place two.value two.count c.label-in-If.ensures c.in_ok-close_if-in-If.ensures
    ∙ ap (λ ns. c.args.items.now.items ++ code_items c.args.next (If i.cmp i.left i.right (prog ns) (prog c.as_slice-in-If.result.now) Done)) c.as_slice.ensures
    ∙ ap (λ ns. c.args.items.now.items ++ code_items c.args.next (If i.cmp i.left i.right (prog i.yes) (prog ns) Done)) c.as_slice-in-If.ensures
    ∙ ap (λ p. c.args.items.now.items ++ code_items c.args.next p) (sym (if_tree i.cmp i.left i.right i.yes i.no Done))
    ∙ ap (λ n. c.args.items.now.items ++ code_items c.args.next (node_tree n Done)) (sym i.is)

pub push_node-returns-in_ok-close_loop-in-Loop-clause-value : goal.push_node-returns-in_ok-close_loop-in-Loop-clause-value
push_node-returns-in_ok-close_loop-in-Loop-clause-value t c =
    let i = c.in-Loop in
    let opened = c.in_ok-place-in-Loop.ensures in
    let test = c.in_ok-test-in-Loop.ensures in
    loop_items _ _ _ _ _ _ _ _ _ _ _ _ _ _ _ _ c.label-in-Loop.ensures opened.value opened.place test.value test.count c.label-in-Loop-3.ensures c.compare.ensures c.when.ensures c.label-in-Loop-2.ensures c.in_ok-close_loop-in-Loop.ensures
    ∙ ap (λ ns. c.args.items.now.items ++ code_items c.args.next (Loop i.cmp i.left i.right (prog ns) Done)) c.as_slice-in-Loop.ensures
    ∙ ap (λ p. c.args.items.now.items ++ code_items c.args.next p) (sym (loop_tree i.cmp i.left i.right i.body Done))
    ∙ ap (λ n. c.args.items.now.items ++ code_items c.args.next (node_tree n Done)) (sym i.is)
