-- Conditions by their names.
use Rattle.std.specs.Prelude.{ℕ, List, codes, Option, Some, None, if◌then◌else◌}
use Rattle.std.specs.Str.{bytes_eq}
use Rattle.x64_syntax.specs.declared.conditions.Cond.{Cond}
use Rattle.x64_syntax.specs.declared.conditions.Cond.TheVariants as condition

abbrev pub cond_of : List ℕ → Option Cond
cond_of name =
    if bytes_eq name (codes "e") then Some condition.E
    else if bytes_eq name (codes "ne") then Some condition.Ne
    else if bytes_eq name (codes "b") then Some condition.B
    else if bytes_eq name (codes "be") then Some condition.Be
    else if bytes_eq name (codes "a") then Some condition.A
    else if bytes_eq name (codes "ae") then Some condition.Ae
    else None
