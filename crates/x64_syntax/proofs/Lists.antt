-- Lists that are the same have the same parts.
use Rattle.std.proofs.Common.{◌≡◌, List, ◌∷◌, drop, get_or, ap}

pub same_head : {X : Type 0} {x y : X} {xs ys : List X} → x ∷ xs ≡ y ∷ ys → x ≡ y
same_head {x = x} e = ap (λ l. get_or l 0 x) e

pub same_tail : {X : Type 0} {x y : X} {xs ys : List X} → x ∷ xs ≡ y ∷ ys → xs ≡ ys
same_tail e = ap (drop 1) e
