-- The lines that are written to `err`.
use Rattle.std.specs.Prelude.{ℕ, List, ◌++◌, Option, Some, None, decimal, codes}
use Rattle.vale_driver.specs.declared.status.Refusal.{Refusal}

abbrev pub or_dash : Option (List ℕ) → List ℕ
or_dash None = codes "-"
or_dash (Some text) = text

abbrev pub number_or_dash : Option ℕ → List ℕ
number_or_dash None = codes "-"
number_or_dash (Some n) = decimal n

-- the line of a refusal: E, its number, the file, the place, who, and the cause, with `-` for a part that is absent
unfoldable pub refusal_line : Refusal → List ℕ
refusal_line r =
    codes "E" ++ (decimal r.number ++ ((codes " " ++ or_dash r.file) ++ ((codes " " ++ number_or_dash r.at) ++ ((codes " " ++ or_dash r.who) ++ (codes " " ++ (r.cause ++ codes "\n"))))))

unfoldable pub usage_line : List ℕ
usage_line = codes "usage: vale COMMAND [OPTIONS] FILE..\n"

unfoldable pub read_fault_line : List ℕ
read_fault_line = codes "read fault\n"
