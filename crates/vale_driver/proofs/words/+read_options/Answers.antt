use Rattle.std.proofs.Common.{◌≡◌, ◌-◌, ◌∷◌, length, take, drop, sym, ap, ◌∙◌, true}
use Rattle.vale_driver.specs.Words.{read_options, with_option, is_option, name_of, texts}
use Rattle.vale_driver.specs.inner.Phases.{options_of}
use Rattle.vale_driver.proofs.Options.{first_text, with_equals, without_equals, cut_there, cut_nowhere}
use Rattle.vale_driver.proofs.words.+read_options.Goals as goal

pub returns-in-Some : goal.returns-in-Some
returns-in-Some t c =
    let o = options_of c.args.options in
    let p = options_of c.in_ok-with.field-0 in
    let words = c.args.words.now in
    let rest = take (length words - 1) (drop 1 words) in
    let w = c.deref-2.result.now in
    let cut = cut_there w c.in-Some.name c.in-Some.value c.in-Some.ensures.cases in
    let all = first_text words c.word-item.result w c.in-len1-up.len_at_least c.word-item.is c.deref-2.ensures in
    let option : is_option w ≡ true = ap is_option (c.deref-2.ensures ∙ sym c.deref.ensures) ∙ sym c.if-not-is_option.ensures in
    let with = c.in_ok-with.ensures ∙ ap (λ n. with_option o n c.in-Some.value.now) cut.1 ∙ ap (λ v. with_option o (name_of w) v) cut.2 in
    c.read_options.ensures ∙ sym (ap (read_options o) all ∙ with_equals o p w (texts rest) option cut.0 with)

pub returns : goal.returns
returns t c =
    let o = options_of c.args.options in
    let p = options_of c.in_ok-with-2.field-0 in
    let words = c.args.words.now in
    let rest = take (length words - 1) (drop 1 words) in
    let more = take (length rest - 1) (drop 1 rest) in
    let w = c.deref-2.result.now in
    let all = first_text words c.word-item.result w c.in-len1-up.len_at_least c.word-item.is c.deref-2.ensures in
    let behind = first_text rest c.value-item.result c.deref-4.result.now c.in-len1-up-rest.len_at_least c.value-item.is c.deref-4.ensures in
    let option : is_option w ≡ true = ap is_option (c.deref-2.ensures ∙ sym c.deref.ensures) ∙ sym c.if-not-is_option.ensures in
    let none = cut_nowhere w c.in_default-split_once.ensures.cases in
    let with = c.in_ok-with-2.ensures in
    c.read_options-2.ensures ∙ sym (ap (read_options o) all ∙ ap (λ l. read_options o (w ∷ l)) behind ∙ without_equals o p w c.deref-4.result.now (texts more) option none (with ∙ ap (λ n. with_option o n c.deref-4.result.now) (c.deref-3.ensures ∙ sym c.deref-2.ensures)))
