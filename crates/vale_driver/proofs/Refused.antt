-- Why a build ends without a text.
use Rattle.std.proofs.Common.{◌≡◌, ℕ, List, Option, Some, subst, arith, false}
use Rattle.std.specs.Prelude.{IfSome, Vec, Ok}
use Rattle.std.specs.declared.alloc.Global.{Global}
use Rattle.straight_line.specs.declared.form.StraightLine.{StraightLine}
use Rattle.vale_driver.specs.declared.status.Refusal.{Refusal}
use Rattle.vale_driver.specs.Certificate.{Pair, Proves}
use Rattle.vale_driver.specs.Limits.{certificate_limit}
use Rattle.vale_driver.specs.Ring.{ring_closes}
use Rattle.vale_driver.specs.Build.{condition_hyps, condition_goal}
use Rattle.vale_driver.specs.Sources.{sources_from, later}
use Rattle.vale_driver.specs.Builds.{Behind, no_certificate, no_step, BuildRefused}
use Rattle.vale_driver.specs.inner.Stops.{Fetched, SourcesSpell, SourcesRefused, FileHolds, CertificateRefusal}
use Rattle.vale_driver.specs.Causes.{refusal_of}
use Rattle.vale_driver.proofs.Files.{told_or_nothing, is_told, long_bytes, fetched_none, tokens_of, are_read}
use Rattle.vale_driver.specs.Causes as cause

-- a certificate that is too long isn't of the form
pub certificate_long : (told : Option (List ℕ)) (cert name : List ℕ) (r : Refusal) (before after : ℕ) (o : Option (Vec ℕ Global)) → ((v : Vec ℕ Global) → o ≡ Some v → ⊥) → Fetched told certificate_limit before after (Ok o) → r ≡ refusal_of (cause.NoCertificate cert) → CertificateRefusal told cert name r
certificate_long told cert name r before after o gone fetched is =
    let (long, holds, more) = long_bytes certificate_limit told (fetched_none told certificate_limit before after o gone fetched) in
    record {
      is = is;
      none = record { held = long; holds = holds; reads = λ steps p. (let short = p.short in omega (arith, short, more)) };
    }

pub certificate_read : (told : Option (List ℕ)) (P : List ℕ → Type 0) (v bytes : List ℕ) → IfSome told (λ held. v ≡ held) → bytes ≡ v → P bytes → FileHolds told P
certificate_read told P v bytes holds e h = record { held = v; holds = holds; reads = subst P e h }

-- the refusals of the sources and of what comes behind them
pub sources_refused : (tells : List ℕ → Option (List ℕ)) (cert : List ℕ) (files : List (List ℕ)) (r : Refusal) → SourcesRefused tells files r → BuildRefused tells (record { cert = cert; files = files }) r
sources_refused tells cert files r h = record {
  held = record { sources = h.contents; cert = told_or_nothing (tells cert) };
  holds = record { sources = h.holds; cert = is_told (tells cert) };
  first = h.first cert (told_or_nothing (tells cert));
}

behind : (tells : List ℕ → Option (List ℕ)) (cert : List ℕ) (files : List (List ℕ)) (p : StraightLine) (r : Refusal) (h : SourcesSpell tells files p) (held : List ℕ) → IfSome (tells cert) (λ told. held ≡ told) → Behind (record { cert = cert; files = files }) (record { sources = h.contents; cert = held }) r → BuildRefused tells (record { cert = cert; files = files }) r
behind tells cert files p r h held holds k = record {
  held = record { sources = h.contents; cert = held };
  holds = record { sources = h.holds; cert = holds };
  first = later h.short (later (tokens_of (sources_from 0 files h.contents) h.spells.decls h.spells.declared) (later (are_read (sources_from 0 files h.contents) h.spells.decls h.spells.declared) k));
}

pub certificate_refused : (tells : List ℕ → Option (List ℕ)) (told : Option (List ℕ)) (cert : List ℕ) (files : List (List ℕ)) (p : StraightLine) (r : Refusal) → SourcesSpell tells files p → told ≡ tells cert → CertificateRefusal told cert p.name r → BuildRefused tells (record { cert = cert; files = files }) r
certificate_refused tells told cert files p r h same k =
    let c = k.none in
    behind tells cert files p r h c.held (subst (λ o. IfSome o (λ t. c.held ≡ t)) same c.holds) (no_certificate record { program = p; spells = h.spells; not_of_form = c.reads; is = k.is })

pub step_refused : (tells : List ℕ → Option (List ℕ)) (told : Option (List ℕ)) (cert : List ℕ) (files : List (List ℕ)) (p : StraightLine) (ps : List Pair) (r : Refusal) → SourcesSpell tells files p → told ≡ tells cert → FileHolds told (λ c. Proves c p.name ps) → ring_closes (condition_hyps p) (condition_goal p) ps ≡ false → r ≡ refusal_of (cause.NoStep cert p.name) → BuildRefused tells (record { cert = cert; files = files }) r
step_refused tells told cert files p ps r h same c open_ is =
    behind tells cert files p r h c.held (subst (λ o. IfSome o (λ t. c.held ≡ t)) same c.holds) (no_step record { program = p; steps = ps; spells = h.spells; proves = c.reads; not_closed = open_; is = is })
