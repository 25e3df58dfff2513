-- What is told of files, and what they hold.
use Rattle.std.specs.Prelude.{◌≡◌, ℕ, List, [], ◌∷◌, Option, IfSome}

-- a file holds what is told of it, where something is
abbrev pub IsAsTold : Option (List ℕ) → List ℕ → Type 0
IsAsTold told held = IfSome told (λ t. held ≡ t)

-- each file of a list does
abbrev pub EachAsTold : (List ℕ → Option (List ℕ)) → List (List ℕ) → List (List ℕ) → Type 0
EachAsTold tells [] [] = Unit {0}
EachAsTold tells (name ∷ names) (held ∷ others) = IsAsTold (tells name) held × EachAsTold tells names others
EachAsTold tells _ _ = ⊥
