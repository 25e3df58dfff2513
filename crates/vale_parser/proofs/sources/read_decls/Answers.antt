use Rattle.std.proofs.Common.{[], ◌∷◌, map, sym, ◌∙◌}
use Rattle.std.proofs.lemmas.Bool.{eqb-true}
use Rattle.std.proofs.lemmas.List.{map-append, nil_from_length}
use Rattle.vale_syntax.specs.inner.CodeTrees.{decl_tree}
use Rattle.vale_parser.specs.Sources.{no_more}
use Rattle.vale_parser.proofs.FoundDeclarations.{declaration_shorter}
use Rattle.vale_parser.proofs.SoundDeclarations.{declaration_sound}
use Rattle.vale_parser.proofs.Whole.{front_last, front_all, none_here, not_empty}
use Rattle.vale_parser.proofs.sources.read_decls.Goals as goal

pub loop-rest-init : goal.loop-rest-init
loop-rest-init c = rw c.new-decls.ensures.items no_more

pub loop-rest-smaller : goal.loop-rest-smaller
loop-rest-smaller c = declaration_shorter _ _ _ (declaration_sound _ _ _ c.in-Ok.ensures)

pub loop-rest-preserved : goal.loop-rest-preserved
loop-rest-preserved c = rw (c.in_ok-push-in-Ok.ensures.items, map-append decl_tree c.loop-rest.decls.items (c.in-Ok.next.part ∷ [])) (front_last c.loop-rest.invariant (declaration_sound _ _ _ c.in-Ok.ensures))

pub returns-in-Err-NoMatch-clause-not_a_decl : goal.returns-in-Err-NoMatch-clause-not_a_decl
returns-in-Err-NoMatch-clause-not_a_decl c = λ first e.
    let gone = rw c.in-Err-NoMatch.field-0-is at c.in-Err-NoMatch.ensures in
    record {
      decls = map decl_tree c.loop-rest.decls.items;
      rest = c.loop-rest.rest.now;
      front = c.loop-rest.invariant;
      some = not_empty c.loop-rest.rest.now (sym c.is_empty.ensures ∙ c.loop-rest-test.true);
      here = sym c.spot_of.ensures ∙ cc e;
      none = none_here c.loop-rest.rest.now gone;
    }

pub returns-clause-ok : goal.returns-clause-ok
returns-clause-ok c = front_all c.loop-rest.rest.now c.loop-rest.invariant (nil_from_length _ (eqb-true _ _ (sym c.is_empty.ensures ∙ c.loop-rest-test.false)))
