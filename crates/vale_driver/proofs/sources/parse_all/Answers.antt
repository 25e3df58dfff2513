use Rattle.std.proofs.Common.{◌+◌, Err, ap, ◌∙◌, subst, drop, map}
use Rattle.std.proofs.lemmas.List.{map-append}
use Rattle.vale_syntax.specs.inner.CodeTrees.{decl_tree}
use Rattle.vale_syntax.specs.Declarations.{AreDecls}
use Rattle.vale_parser.specs.Sources.{StopsAt}
use Rattle.vale_driver.proofs.Files.{turn, parsed_one, refused_decl, parsed_all}
use Rattle.vale_driver.proofs.RingCode.{drop_all}
use Rattle.vale_driver.proofs.sources.parse_all.Goals as goal
use Rattle.vale_driver.specs.Causes as cause
use Rattle.vale_driver.specs.Causes.{refusal_of}

pub returns-in-Err-NotADecl-clause-stops : goal.returns-in-Err-NotADecl-clause-stops
returns-in-Err-NotADecl-clause-stops c =
    let k = c.loop-source.source-index in
    refused_decl (map decl_tree c.loop-source.decls.items) c.source-item.result (drop (k + 1) c.args.scanned.now) (drop k c.args.scanned.now) c.args.scanned.now c.in_ok-refused-in-Err-NotADecl.refused
    (turn c.args.scanned.now k c.source-item.result c.loop-source-test.true c.source-item.is)
    record { first = c.in-Err-NotADecl.first; stops = subst (λ l. StopsAt l c.in-Err-NotADecl.first) c.deref.ensures.value (c.in-Err-NotADecl.ensures.not_a_decl c.in-Err-NotADecl.first (ap Err c.in-Err-NotADecl.field-0-is)); is = c.in_ok-refused-in-Err-NotADecl.ensures ∙ ap (λ s. refusal_of (cause.NoDeclaration c.source-item.result.name.now s.at)) c.in-Err-NotADecl.first-is }
    c.loop-source.invariant

pub loop-source-preserved : goal.loop-source-preserved
loop-source-preserved c =
    let k = c.loop-source.source-index in
    parsed_one (map decl_tree c.loop-source.decls.items) (map decl_tree c.append.new.self.items) c.source-item.result (map decl_tree c.in-Ok.read.items) (drop (k + 1) c.args.scanned.now) (drop k c.args.scanned.now) c.args.scanned.now
    (turn c.args.scanned.now k c.source-item.result c.loop-source-test.true c.source-item.is) (subst (λ l. AreDecls l (map decl_tree c.in-Ok.read.items)) c.deref.ensures.value c.in-Ok.ensures.ok) (ap (map decl_tree) c.in_ok-append-in-Ok.ensures.items ∙ map-append decl_tree c.loop-source.decls.items c.in-Ok.read.items) c.loop-source.invariant

pub returns-clause-parsed : goal.returns-clause-parsed
returns-clause-parsed c = parsed_all _ (drop c.loop-source.source-index c.args.scanned.now) _ (drop_all c.loop-source.source-index c.args.scanned.now c.loop-source-test.false) c.loop-source.invariant
