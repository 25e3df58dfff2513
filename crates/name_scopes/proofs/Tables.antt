-- Tables of borrowed names.
use Rattle.std.proofs.Common.{◌≡◌, ℕ, Bool, true, false, cond, List, [], ◌∷◌, Option, Some, None, refl, sym, ◌∙◌, ap}
use Rattle.std.specs.Prelude.{is_some, if◌then◌else◌}
use Rattle.std.specs.Borrow.{Bor}
use Rattle.std.specs.Map.{lookup}
use Rattle.std.specs.Str.{bytes_eq}
use Rattle.indexmap.specs.IndexMap.{insert_entry}
use Rattle.name_scopes.specs.declared.globals.GlobalDecl.{GlobalDecl}
use Rattle.name_scopes.specs.Faults.{◌<|>◌}

abbrev pub Entries : Type 0
Entries = List (Bor (List ℕ) × GlobalDecl)

abbrev pub found : List ℕ → Entries → Option GlobalDecl
found n es = lookup (λ k. bytes_eq n k.now) es

abbrev pub if_named : List ℕ → List ℕ → GlobalDecl → Option GlobalDecl
if_named n name g = if bytes_eq n name then Some g else None

abbrev pub Added : List ℕ → Bor (List ℕ) → GlobalDecl → Entries → Type 0
Added n name g es = found n (insert_entry (λ k key. bytes_eq k.now key.now) es name g) ≡ (found n es <|> if_named n name.now g)

-- behind a new name, names stand for what they stood for, and else for the new one
pub added : (n : List ℕ) (name : Bor (List ℕ)) (g : GlobalDecl) (es : Entries) → found name.now es ≡ None → Added n name g es
added n name g [] h = by_name (bytes_eq n name.now) refl
  where
    by_name : (b : Bool) → bytes_eq n name.now ≡ b → cond b (Some g) None ≡ (if b then Some g else None)
    by_name true e = refl
    by_name false e = refl
added n name g (e ∷ es) h = by_key (bytes_eq name.now e.0.now) refl (added n name g es)
  where
    by_found : (b : Bool) → Added n name g es → cond b (Some e.1) (found n (insert_entry (λ k key. bytes_eq k.now key.now) es name g)) ≡ (cond b (Some e.1) (found n es) <|> if_named n name.now g)
    by_found true k = refl
    by_found false k = k

    by_key : (b : Bool) → bytes_eq name.now e.0.now ≡ b → (found name.now es ≡ None → Added n name g es) → found n (if b then (e.0, g) ∷ es else e ∷ insert_entry (λ k key. bytes_eq k.now key.now) es name g) ≡ (found n (e ∷ es) <|> if_named n name.now g)
    by_key true q go = absurd cc
    by_key false q go = by_found (bytes_eq n e.0.now) (go (sym (ap (λ b. cond b (Some e.1) (found name.now es)) q) ∙ h))

pub absent : (o : Option GlobalDecl) (b : Bool) → b ≡ is_some o → b ≡ false → o ≡ None
absent None b p q = refl
absent (Some g) b p q = absurd cc
