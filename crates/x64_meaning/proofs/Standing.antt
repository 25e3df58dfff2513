-- Where items stand in a list.
use Rattle.std.proofs.Common.{◌≡◌, ◌+◌, ◌<◌, List, [], ◌∷◌, ◌++◌, length, ap, ◌∙◌, subst, arith, append_assoc, length-append}
use Rattle.std.specs.Prelude.{Some}
use Rattle.std.proofs.Math.Seq.{get_or-append_seam}
use Rattle.std.proofs.lemmas.List.{append-nil}
use Rattle.std.proofs.lemmas.Option.{slice_get-get_or}
use Rattle.x64_syntax.specs.declared.items.Item.{Item}
use Rattle.x64_meaning.specs.Run.{StandAt}

pub stands_between : (front is back : List Item) → StandAt (front ++ (is ++ back)) (length front) is
stands_between front [] back = tt
stands_between front (i ∷ is) back =
    let within : length front < length (front ++ i ∷ (is ++ back)) = omega (arith, length-append front (i ∷ (is ++ back))) in
    let here = slice_get-get_or (front ++ i ∷ (is ++ back)) (length front) i within ∙ ap Some (get_or-append_seam front i (is ++ back) i) in
    let n : length (front ++ i ∷ []) ≡ length front + 1 = omega (arith, length-append front (i ∷ [])) in
    let rest = stands_between (front ++ i ∷ []) is back in
    let rest' = subst (λ l. StandAt l (length (front ++ i ∷ [])) is) (append_assoc front (i ∷ []) (is ++ back)) rest in
    (here, subst (λ m. StandAt (front ++ i ∷ (is ++ back)) m is) n rest')

pub stands_behind : (front is : List Item) → StandAt (front ++ is) (length front) is
stands_behind front is = subst (λ l. StandAt (front ++ l) (length front) is) (append-nil is) (stands_between front is [])
