use Rattle.std.proofs.Common.{◌≡◌, ◌+◌, suc, pos, false, sym, ap, ◌∙◌, arith, Some, get_or}
use Rattle.std.specs.Prelude.{if◌then◌else◌}
use Rattle.term_core.specs.declared.literal.Literal.TheVariants as literal
use Rattle.term_core.specs.Literals.{literal_value}
use Rattle.term_core.specs.Rules.{is_variable}
use Rattle.term_value.proofs.Knowing.{known_from, known_at, known_behind}
use Rattle.term_value.proofs.known.argument_of.Goals as goal

pub loop-k-preserved : goal.loop-k-preserved
loop-k-preserved c =
    let ps = c.args.params.now in
    let vs = c.args.args.now in
    let k = c.loop-k.k in
    let p = c.index-params-k.result in
    let v = literal.Int (pos 0) in
    let text = c.args.name.now in
    let s = c.args.sort in
    let other : is_variable (get_or ps k p) text s ≡ false = ap (λ q. is_variable q text s) (sym c.index-params-k.is) ∙ sym c.is_variable.ensures ∙ c.if-is_variable.false in
    let here = known_at ps vs k p v text s (omega arith) (omega arith) in
    let next : k + 1 ≡ suc k = omega arith in
    ap (λ j. known_from ps vs j text s) next
    ∙ sym (here ∙ ap (λ b. if b then Some (literal_value (get_or vs k v)) else known_from ps vs (suc k) text s) other)
    ∙ c.loop-k.invariant

pub returns : goal.returns
returns c =
    sym (known_behind c.args.params.now c.args.args.now c.loop-k.k c.args.name.now c.args.sort (omega arith)) ∙ c.loop-k.invariant
