-- There is one first refusal at most, and none where all is accepted.
use Rattle.std.proofs.Common.{◌≡◌, ℕ, List, [], ◌∷◌, ◌++◌, map, Option, Some, None, refl, sym, ap, ◌∙◌, subst, arith, inl, inr}
use Rattle.std.specs.Prelude.{IfSome, drop}
use Rattle.std.specs.List.{AllByRecursion}
use Rattle.std.proofs.lemmas.Bool.{false≢true}
use Rattle.std.proofs.lemmas.Option.{same_Some}
use Rattle.vale_syntax.specs.declared.token.Token.{Token}
use Rattle.vale_syntax.specs.declared.token.NotAToken.{NotAToken}
use Rattle.vale_syntax.specs.declared.spot.Spot.{Spot}
use Rattle.vale_syntax.specs.Tokens.{All, Nothing}
use Rattle.vale_syntax.specs.Programs.{De}
use Rattle.vale_syntax.specs.Declarations.{AreDecls}
use Rattle.vale_parser.specs.Sources.{StopsAt}
use Rattle.vale_parser.proofs.Whole as decls
use Rattle.straight_line.specs.declared.form.StraightLine.{StraightLine}
use Rattle.straight_line.specs.Form.{straight_line}
use Rattle.vale_driver.specs.declared.status.Refusal.{Refusal}
use Rattle.vale_driver.specs.Certificate.{Pair, Proves}
use Rattle.vale_driver.specs.inner.CertificateFront.{certificate_at}
use Rattle.vale_driver.specs.Ring.{ring_closes}
use Rattle.vale_driver.specs.Build.{condition_hyps, condition_goal}
use Rattle.vale_driver.specs.Sources.{Source, FirstOf, Phase, now, later, IsShort, IsTooLong, HasTokens, LacksToken, IsRead, HasDecls, LacksDeclaration, Declared, Spells, AreNoForm}
use Rattle.vale_driver.specs.Words.{BuildWords}
use Rattle.vale_driver.specs.Builds.{BuildFiles, BuildHolds, BuildTold, sources_of, Behind, no_form, no_certificate, no_step, CertificateRefused, BuildRefusal, Accepted}
use Rattle.vale_driver.specs.Told.{EachAsTold}
use Rattle.vale_driver.specs.Causes.{refusal_of}
use Rattle.vale_driver.proofs.Files.{tokens_of, are_read}
use Rattle.vale_driver.proofs.CertificateLaws.{certificate_takes}
use Rattle.vale_driver.specs.Causes as cause

module _ {A : Type 0} (P : A → Type 0) (R : A → Refusal → Type 0) (apart : (x : A) (r : Refusal) → P x → R x r → ⊥) where
  none_of : (xs : List A) (r : Refusal) → AllByRecursion P xs → FirstOf P R xs r → ⊥
  none_of [] r all h = h
  none_of (x ∷ xs) r all (inl h) = apart x r all.0 h
  none_of (x ∷ xs) r all (inr h) = none_of xs r all.1 h.1

  module _ (once : (x : A) (r q : Refusal) → R x r → R x q → r ≡ q) where
    first_once : (xs : List A) (r q : Refusal) → FirstOf P R xs r → FirstOf P R xs q → r ≡ q
    first_once [] r q h k = absurd h
    first_once (x ∷ xs) r q (inl h) (inl k) = once x r q h k
    first_once (x ∷ xs) r q (inl h) (inr k) = absurd (apart x r k.0 h)
    first_once (x ∷ xs) r q (inr h) (inl k) = absurd (apart x q h.0 k)
    first_once (x ∷ xs) r q (inr h) (inr k) = first_once xs r q h.1 k.1

    phase_once : (xs : List A) (Later : Refusal → Type 0) → ((r q : Refusal) → Later r → Later q → r ≡ q) → (r q : Refusal) → Phase P R xs Later r → Phase P R xs Later q → r ≡ q
    phase_once xs Later go r q (now h) (now k) = first_once xs r q h k
    phase_once xs Later go r q (now h) (later all k) = absurd (none_of xs r all h)
    phase_once xs Later go r q (later all h) (now k) = absurd (none_of xs q all k)
    phase_once xs Later go r q (later all h) (later too k) = go r q h k

  phase_none : (xs : List A) (Later : Refusal → Type 0) (r : Refusal) → AllByRecursion P xs → (Later r → ⊥) → Phase P R xs Later r → ⊥
  phase_none xs Later r all go (now h) = none_of xs r all h
  phase_none xs Later r all go (later too h) = go h

-- sizes
short_apart : (s : Source) (r : Refusal) → IsShort s → IsTooLong s r → ⊥
short_apart s r short h = let long = h.long in omega (arith, short, long)

long_once : (s : Source) (r q : Refusal) → IsTooLong s r → IsTooLong s q → r ≡ q
long_once s r q h k = h.is ∙ sym k.is

-- tokens
tokens_apart : (s : Source) (r : Refusal) → HasTokens s → LacksToken s r → ⊥
tokens_apart s r h k = differ (sym h.all ∙ k.nothing) where
  differ : {ts : List Token} {why : NotAToken} {at : ℕ} → All ts ≡ Nothing why at → ⊥
  differ e = absurd cc

token_once : (s : Source) (r q : Refusal) → LacksToken s r → LacksToken s q → r ≡ q
token_once s r q h k = h.is ∙ same (sym h.nothing ∙ k.nothing) ∙ sym k.is where
  same : {why other : NotAToken} {at place : ℕ} → Nothing why at ≡ Nothing other place → refusal_of (cause.NoToken s.name at why) ≡ refusal_of (cause.NoToken s.name place other)
  same e = cc

-- declarations
same_tokens : {ts us : List Token} → All ts ≡ All us → ts ≡ us
same_tokens e = cc

decls_apart : (s : Source) (r : Refusal) → IsRead s → LacksDeclaration s r → ⊥
decls_apart s r h k =
    let e = same_tokens (sym (h.1.all) ∙ k.all) in
    decls.either k.tokens h.0 k.first (subst (λ ts. AreDecls ts h.0) e h.1.are) k.stops

decl_once : (s : Source) (r q : Refusal) → LacksDeclaration s r → LacksDeclaration s q → r ≡ q
decl_once s r q h k =
    let e = same_tokens (sym h.all ∙ k.all) in
    let same = decls.place k.tokens h.first k.first (subst (λ ts. StopsAt ts h.first) e h.stops) k.stops in
    h.is ∙ ap (λ (p : Spot). refusal_of (cause.NoDeclaration s.name p.at)) same ∙ sym k.is

decls_once : (s : Source) (xs ys : List De) → HasDecls s xs → HasDecls s ys → xs ≡ ys
decls_once s xs ys h k =
    let e = same_tokens (sym h.all ∙ k.all) in
    decls.all k.tokens xs ys (subst (λ ts. AreDecls ts xs) e h.are) k.are

declared_once : (ss : List Source) (xs ys : List De) → Declared ss xs → Declared ss ys → xs ≡ ys
declared_once [] xs ys h k = h ∙ sym k
declared_once (s ∷ ss) xs ys h k =
    let (a, b, has, more, is) = h in
    let (c, d, has', more', is') = k in
    is ∙ ap (λ l. l ++ b) (decls_once s a c has has') ∙ ap (λ l. c ++ l) (declared_once ss b d more more') ∙ sym is'

spells_once : (ss : List Source) (p q : StraightLine) → Spells ss p → Spells ss q → p ≡ q
spells_once ss p q h k = same_Some _ _ (sym h.is_form ∙ ap straight_line (declared_once ss h.decls k.decls h.declared k.declared) ∙ k.is_form)

form_apart : (ss : List Source) (file : Option (List ℕ)) (p : StraightLine) (r : Refusal) → Spells ss p → AreNoForm file ss r → ⊥
form_apart ss file p r h k = differ (sym h.is_form ∙ ap straight_line (declared_once ss h.decls k.decls h.declared k.declared) ∙ k.none) where
  differ : {a : StraightLine} → Some a ≡ None → ⊥
  differ e = absurd cc

proves_once : (c name : List ℕ) (ps qs : List Pair) → Proves c name ps → Proves c name qs → ps ≡ qs
proves_once c name ps qs h k =
    same_Some _ _ (sym (certificate_takes name ps h.newline h.fits) ∙ ap (certificate_at name) (sym h.text_is ∙ k.text_is) ∙ certificate_takes name qs k.newline k.fits)

module _ (b : BuildWords) (h : BuildFiles) where
  certificate_apart : (p : StraightLine) (ps : List Pair) (r : Refusal) → Spells (sources_of b h) p → Proves h.cert p.name ps → CertificateRefused b h r → ⊥
  certificate_apart p ps r spells proves k =
      let e = spells_once (sources_of b h) p k.program spells k.spells in
      k.not_of_form ps (subst (λ (q : StraightLine). Proves h.cert q.name ps) e proves)

  closes_same : (p q : StraightLine) (ps qs : List Pair) → Spells (sources_of b h) p → Spells (sources_of b h) q → Proves h.cert p.name ps → Proves h.cert q.name qs → ring_closes (condition_hyps p) (condition_goal p) ps ≡ ring_closes (condition_hyps q) (condition_goal q) qs
  closes_same p q ps qs sp sq pp pq =
      let e = spells_once (sources_of b h) p q sp sq in
      let f = proves_once h.cert q.name ps qs (subst (λ (x : StraightLine). Proves h.cert x.name ps) e pp) pq in
      ap (λ (x : StraightLine). ring_closes (condition_hyps x) (condition_goal x) ps) e ∙ ap (λ xs. ring_closes (condition_hyps q) (condition_goal q) xs) f

  behind_once : (r q : Refusal) → Behind b h r → Behind b h q → r ≡ q
  behind_once r q (no_form x) (no_form y) = x.is ∙ sym y.is
  behind_once r q (no_form x) (no_certificate y) = absurd (form_apart (sources_of b h) _ y.program r y.spells x)
  behind_once r q (no_form x) (no_step y) = absurd (form_apart (sources_of b h) _ y.program r y.spells x)
  behind_once r q (no_certificate x) (no_form y) = absurd (form_apart (sources_of b h) _ x.program q x.spells y)
  behind_once r q (no_certificate x) (no_certificate y) = x.is ∙ sym y.is
  behind_once r q (no_certificate x) (no_step y) = absurd (certificate_apart y.program y.steps r y.spells y.proves x)
  behind_once r q (no_step x) (no_form y) = absurd (form_apart (sources_of b h) _ x.program q x.spells y)
  behind_once r q (no_step x) (no_certificate y) = absurd (certificate_apart x.program x.steps q x.spells x.proves y)
  behind_once r q (no_step x) (no_step y) = x.is ∙ ap (λ (p : StraightLine). refusal_of (cause.NoStep b.cert p.name)) (spells_once (sources_of b h) x.program y.program x.spells y.spells) ∙ sym y.is

  pub refused_once : (r q : Refusal) → BuildRefusal b h r → BuildRefusal b h q → r ≡ q
  refused_once r q x y =
      phase_once IsShort IsTooLong short_apart long_once (sources_of b h) _
      (phase_once HasTokens LacksToken tokens_apart token_once (sources_of b h) _
      (phase_once IsRead LacksDeclaration decls_apart decl_once (sources_of b h) _ behind_once)) r q x y

  behind_none : (p : StraightLine) (ps : List Pair) (r : Refusal) → Accepted b h p ps → Behind b h r → ⊥
  behind_none p ps r a (no_form x) = form_apart (sources_of b h) _ p r a.spells x
  behind_none p ps r a (no_certificate x) = certificate_apart p ps r a.spells a.proves x
  behind_none p ps r a (no_step x) = false≢true (sym x.not_closed ∙ closes_same x.program p x.steps ps x.spells a.spells x.proves a.proves ∙ a.closes)

  pub accepted_none : (p : StraightLine) (ps : List Pair) (r : Refusal) → Accepted b h p ps → BuildRefusal b h r → ⊥
  accepted_none p ps r a x =
      phase_none IsShort IsTooLong short_apart (sources_of b h) _ r a.short
      (phase_none HasTokens LacksToken tokens_apart (sources_of b h) _ r (tokens_of (sources_of b h) a.spells.decls a.spells.declared)
      (phase_none IsRead LacksDeclaration decls_apart (sources_of b h) _ r (are_read (sources_of b h) a.spells.decls a.spells.declared) (behind_none p ps r a))) x

-- what a told file holds is what is told of it
told_same : (tells : List ℕ → Option (List ℕ)) (files xs ys : List (List ℕ)) → map tells files ≡ map Some xs → EachAsTold tells files ys → ys ≡ xs
told_same tells [] [] [] e h = refl
told_same tells [] [] (y ∷ ys) e h = absurd h
told_same tells [] (x ∷ xs) [] e h = absurd cc
told_same tells [] (x ∷ xs) (y ∷ ys) e h = absurd h
told_same tells (n ∷ ns) xs [] e h = absurd h
told_same tells (n ∷ ns) [] (y ∷ ys) e h = absurd cc
told_same tells (n ∷ ns) (x ∷ xs) (y ∷ ys) e h =
    let first : tells n ≡ Some x = cc in
    let rest : map tells ns ≡ map Some xs = ap (λ l. drop 1 l) e in
    let same : y ≡ x = subst (λ o. IfSome o (λ told. y ≡ told)) first h.0 in
    ap (λ z. z ∷ ys) same ∙ ap (λ l. x ∷ l) (told_same tells ns xs ys rest h.1)

pub held_same : (tells : List ℕ → Option (List ℕ)) (b : BuildWords) (h k : BuildFiles) → BuildTold tells b h → BuildHolds tells b k → k ≡ h
held_same tells b h k t s =
    let sources = told_same tells b.files h.sources k.sources t.sources s.sources in
    let cert = subst (λ o. IfSome o (λ told. k.cert ≡ told)) t.cert s.cert in
    ap (λ x. record { sources = x; cert = k.cert }) sources ∙ ap (λ x. record { sources = h.sources; cert = x }) cert
