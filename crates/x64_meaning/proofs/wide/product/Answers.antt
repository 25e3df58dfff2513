use Rattle.std.proofs.Common.{◌≡◌, ◌/◌, ◌%◌, ◌<◌, sym, ap, ◌∙◌, arith, rules, mod-eq_of_lt}
use Rattle.aes_words.specs.Polynomials.{bit}
use Rattle.aes_words.specs.Rounds.{half, carryless}
use Rattle.term_core.specs.Value.{T128}
use Rattle.x64_meaning.proofs.XmmForms.{half_is}
use Rattle.x64_meaning.proofs.wide.product.Goals as goal

pub returns : goal.returns
returns c =
    let a = c.args.a in
    let s = c.args.s in
    let n = c.args.n in
    let lt : c.clmul64.result < T128 = search rules in
    let first : c.extracted.result ≡ half a (bit n 0) = c.extracted.ensures ∙ half_is a (n % 2) (search rules) (omega arith) ∙ ap (half a) (let e : n % 2 ≡ bit n 0 = omega arith in e) in
    let second : c.extracted-2.result ≡ half s (bit n 4) = c.extracted-2.ensures ∙ half_is s (n / 16 % 2) (search rules) (omega arith) ∙ ap (half s) (let e : n / 16 % 2 ≡ bit n 4 = omega arith in e) in
    sym (mod-eq_of_lt lt) ∙ ap (λ k. k % T128) (c.clmul64.ensures ∙ ap (λ k. carryless k c.extracted-2.result) first ∙ ap (carryless (half a (bit n 0))) second)
