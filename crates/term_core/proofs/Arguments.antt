-- Arguments one behind the other.
use Rattle.std.proofs.Common.{◌≡◌, ℕ, Bool, true, false, cond, List, [], ◌∷◌, ◌++◌, sym, ap, append_assoc}
use Rattle.std.specs.Prelude.{codes}
use Rattle.std.proofs.lemmas.List.{append-nil}
use Rattle.term_core.specs.Printed.{commas}

-- the others, behind some or none
abbrev pub behind : Bool → List (List ℕ) → List ℕ
behind true as_ = commas as_
behind false [] = []
behind false (a ∷ as_) = codes ", " ++ commas (a ∷ as_)

commas-cons : (a : List ℕ) (as_ : List (List ℕ)) → commas (a ∷ as_) ≡ a ++ behind false as_
commas-cons a [] = sym (append-nil a)
commas-cons a (b ∷ bs) = append_assoc a (codes ", ") (commas (b ∷ bs))

pub behind-cons : (is_first : Bool) (a : List ℕ) (as_ : List (List ℕ)) → behind is_first (a ∷ as_) ≡ cond is_first [] (codes ", ") ++ (a ++ behind false as_)
behind-cons true a as_ = commas-cons a as_
behind-cons false a as_ = ap (λ l. codes ", " ++ l) (commas-cons a as_)
