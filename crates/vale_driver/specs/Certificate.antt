-- The certificates that are read: one section with one `ring` step.
use Rattle.std.specs.Prelude.{◌≡◌, ℕ, ◌<◌, ◌≤◌, ◌^◌, Bool, true, false, List, [], ◌∷◌, ◌++◌, length, decimal, codes}
use Rattle.std.specs.List.{AllByRecursion}
use Rattle.vale_driver.specs.Limits.{certificate_limit}

-- the highest number that a hypothesis of a source can have
abbrev pub hypothesis_limit : ℕ
hypothesis_limit = 20479

-- a hypothesis's number and a factor
abbrev pub Pair : Type 0
Pair = ℕ × ℕ

abbrev pub FitsPair : Pair → Type 0
FitsPair p = (p.0 ≤ hypothesis_limit) × (p.1 < 2 ^ 64)

abbrev pub pair_text : Pair → List ℕ → List ℕ
pair_text p rest = codes "[" ++ (decimal p.0 ++ (codes "," ++ (decimal p.1 ++ (codes "]" ++ rest))))

-- the pairs with commas between them, and what follows
abbrev pub more_text : List Pair → List ℕ → List ℕ
more_text [] rest = rest
more_text (p ∷ ps) rest = codes "," ++ pair_text p (more_text ps rest)

abbrev pub pairs_text : List Pair → List ℕ → List ℕ
pairs_text [] rest = rest
pairs_text (p ∷ ps) rest = pair_text p (more_text ps rest)

-- the text of a certificate for a procedure of a name
abbrev pub certificate_text : List ℕ → List Pair → List ℕ → List ℕ
certificate_text name ps rest =
    codes "{\"condition\":\"" ++ (name ++ (codes "()#0\"}\n[\"ring\",[" ++ pairs_text ps (codes "]]" ++ rest)))

-- nothing, or a newline
abbrev pub last : Bool → List ℕ
last false = []
last true = 10 ∷ []

-- A text is that of such a certificate. Its last newline may lack.
pub record Proves (text name : List ℕ) (ps : List Pair) : Type 0 where
  pub fits : AllByRecursion FitsPair ps
  pub short : length text ≤ certificate_limit
  pub newline : Bool
  pub text_is : text ≡ certificate_text name ps (last newline)
