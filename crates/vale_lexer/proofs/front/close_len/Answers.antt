use Rattle.std.proofs.Common.{sym, ◌∙◌, ap, codes}
use Rattle.vale_syntax.specs.Tokens.{begins}
use Rattle.vale_lexer.proofs.Loops.{close_here, close_next, close_end}
use Rattle.vale_lexer.proofs.front.close_len.Goals as goal

pub returns-then-begins-clause-value : goal.returns-then-begins-clause-value
returns-then-begins-clause-value c =
    let begun = sym (ap (begins (codes "*/")) c.split_at.ensures.back) ∙ sym c.begins.ensures.value ∙ c.if-begins.true in
    close_here c.loop-i.i c.args.bytes.now c.loop-i.invariant begun

pub loop-i-preserved : goal.loop-i-preserved
loop-i-preserved c =
    let begun = sym (ap (begins (codes "*/")) c.split_at.ensures.back) ∙ sym c.begins.ensures.value ∙ c.if-begins.false in
    close_next c.loop-i.i c.args.bytes.now c.loop-i.invariant begun

pub returns-clause-value : goal.returns-clause-value
returns-clause-value c = close_end _ _ c.loop-i.invariant c.loop-i-test.false
