-- The name of an export that isn't at fault is new.
use Rattle.std.proofs.Common.{◌≡◌, ℕ, Bool, true, false, List, Option, Some, None, refl}
use Rattle.std.specs.Prelude.{not, if◌then◌else◌}
use Rattle.x64_syntax.specs.Words.{is_export_text}
use Rattle.vale_syntax.specs.Programs.{De, Procedure, Lemma, Function, Export}
use Rattle.vale_syntax.specs.declared.expr.Name.{Name as AName}
use Rattle.name_scopes.specs.Faults.{Fault, told_at, ◌<|>◌}
use Rattle.name_scopes.specs.declared.fault.ScopeFault.TheVariants.{Reserved, Twice}
use Rattle.name_scopes.specs.Globals.{Table, name_of}
use Rattle.name_scopes.specs.Names.{Texts, has}
use Rattle.name_scopes.specs.Declarations.{export_at, decl_fault}
use Rattle.name_scopes.specs.Sources.{refused}
use Rattle.name_scopes.specs.inner.Walks.{is_new_export}

pub first_free : {F : Type 0} (a b : Option F) → (a <|> b) ≡ None → a ≡ None
first_free None b h = refl
first_free (Some f) b h = absurd cc

pub unrefused : (who : List ℕ) (o : Option Fault) → refused who o ≡ None → o ≡ None
unrefused who None h = refl
unrefused who (Some f) h = absurd cc

unheld : (exports : Texts) (n : AName) → export_at exports n ≡ None → not (has exports n.text) ≡ true
unheld exports n h = by_text (is_export_text n.text) (has exports n.text) h
  where
    by_text : (b c : Bool) → told_at n.spot (if not b then Some Reserved else if c then Some Twice else None) ≡ None → not c ≡ true
    by_text true true h = absurd cc
    by_text true false h = refl
    by_text false c h = absurd cc

pub new_export : (of : Table) (exports : Texts) (k : ℕ) (d : De) → refused (name_of d).text (decl_fault of exports k d) ≡ None → is_new_export exports d ≡ true
unfolding decl_fault
new_export of exports k (Procedure s n ps cs b) h = refl
new_export of exports k (Lemma s n bs cs b) h = refl
new_export of exports k (Function s n bs t z x) h = refl
new_export of exports k (Export s n p a) h = unheld exports n (first_free _ _ (unrefused n.text _ h))
