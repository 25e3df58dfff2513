-- The answer where no count rose is exactly the one that the files ask for.
use Rattle.std.proofs.Common.{◌≡◌, ℕ, List, Option, Some, None, refl, sym, ap, ◌∙◌, subst, inl, inr}
use Rattle.std.specs.Prelude.{IfSome, IsSome, IfErr, Result, Ok, Err, ◌⊎◌}
use Rattle.std.proofs.lemmas.Bool.{false≢true}
use Rattle.vale_driver.specs.declared.status.Refusal.{Refusal}
use Rattle.vale_driver.specs.declared.status.Status.{Status}
use Rattle.vale_driver.specs.declared.status.Status.TheVariants.{Done, Refused, Usage, ReadFault, WriteFault, NoMemory}
use Rattle.vale_driver.specs.Words.{Build, Command, Read, Eval, BuildWords}
use Rattle.vale_driver.specs.Builds.{Accepted, BuildRefusal, BuildRefused}
use Rattle.vale_driver.specs.inner.Stops.{StopsBy}
use Rattle.vale_driver.specs.Texts.{TextRefused, TextRead, EvalRefused, IsReport}
use Rattle.vale_driver.specs.Commands.{Held, TellsAll, FirstRefusal, IsRefused, IsOutput}
use Rattle.vale_driver.specs.Ends.{Files, Stream, Takes, Asks, SomeOutput, IsUnwritten, Ends, IsQuiet, Exactly}
use Rattle.vale_driver.specs.inner.Says.{SaysOr}
use Rattle.vale_driver.specs.declared.stop.Stop.{Stop}
use Rattle.vale_driver.specs.declared.stop.Stop.TheVariants as stop
use Rattle.vale_driver.proofs.Once.{held_same, refused_once, accepted_none}
use Rattle.vale_driver.proofs.OneText.{text_once, text_none, eval_once, eval_none}

none_some : {c : Command} → None ≡ Some c → ⊥
none_some e = absurd cc

-- what a file holds that is told of
told_is : (told : Option (List ℕ)) (x y : List ℕ) → told ≡ Some x → IfSome told (λ t. y ≡ t) → y ≡ x
told_is told x y e h = subst (λ o. IfSome o (λ t. y ≡ t)) e h

-- what stops a build stops the command
pub build_stops : {X : Type 0} (tells : List ℕ → Option (List ℕ)) (b : BuildWords) (F : Type 0) (r : Result X Stop) → IfErr r (StopsBy (BuildRefused tells b) F) → IfErr r (StopsBy (IsRefused tells (Build b)) F)
build_stops tells b F (Ok x) h = tt
build_stops tells b F (Err (stop.Refused r)) h = record { held = h.held; holds = h.holds; first = h.first }
build_stops tells b F (Err stop.ReadFault) h = h
build_stops tells b F (Err stop.NoMemory) h = tt

module _ (tells : List ℕ → Option (List ℕ)) where
  -- a refusal is one of what is told
  still_refused : (c : Command) (h : Held c) (q : Refusal) → TellsAll tells c h → IsRefused tells c q → FirstRefusal c h q
  still_refused (Build b) h q t w = subst (λ k. BuildRefusal b k q) (held_same tells b h w.held t w.holds) w.first
  still_refused (Read file) h q t w = subst (λ k. TextRefused file k q) (told_is (tells file) h w.held t w.holds) w.first
  still_refused (Eval e) h q t w =
      subst (λ k. EvalRefused e k h.state q) (told_is (tells e.text) h.text w.held.text t.0 w.holds.0)
      (subst (λ k. EvalRefused e w.held.text k q) (told_is (tells e.state) h.state w.held.state t.1 w.holds.1) w.first)

  first_once : (c : Command) (h : Held c) (r q : Refusal) → FirstRefusal c h r → FirstRefusal c h q → r ≡ q
  first_once (Build b) h r q x y = refused_once b h r q x y
  first_once (Read file) h r q x y = text_once file h r q x y
  first_once (Eval e) h r q x y = eval_once e h.text h.state r q x y

  one_refusal : (c : Command) (h : Held c) (q r : Refusal) → TellsAll tells c h → IsRefused tells c q → FirstRefusal c h r → q ≡ r
  one_refusal c h q r t w f = first_once c h q r (still_refused c h q t w) f

  -- what is written refuses nothing
  output_none : (c : Command) (h : Held c) (r : Refusal) (out : List ℕ) → TellsAll tells c h → IsOutput tells c out → FirstRefusal c h r → ⊥
  output_none (Build b) h r out t w f =
      accepted_none b h w.program w.steps r (subst (λ k. Accepted b k w.program w.steps) (held_same tells b h w.held t w.holds) w.accepted) f
  output_none (Read file) h r out t w f =
      text_none file h r w.reading.items (subst (λ k. TextRead k w.reading.items) (told_is (tells file) h w.text t w.holds) w.reading.read) f
  output_none (Eval e) h r out t w f =
      let text = told_is (tells e.text) h.text w.held.text t.0 w.holds.0 in
      let state = told_is (tells e.state) h.state w.held.state t.1 w.holds.1 in
      eval_none e h.text h.state r out (subst (λ k. IsReport e k h.state out) text (subst (λ k. IsReport e w.held.text k out) state w.report)) f

-- The answer where no call failed follows from what is known after each answer.
module _ (form : Option Command) (f : Files) (out err : Stream) (quiet : IsQuiet f out err) where
  asked : (c : Command) (P : Command → Type 0) → form ≡ Some c → Asks form P → P c
  asked c P e a = subst (λ f. Asks f P) e a

  no_command : (P : Command → Type 0) → form ≡ None → Asks form P → ⊥
  no_command P e a = subst (λ f. Asks f P) e a

  no_front : IsUnwritten form f out err → ⊥
  no_front (inl u) = quiet.output u.0
  no_front (inr u) = quiet.line u.0

  quiet_usage : (status : Status) → Ends form f out err status → form ≡ None → status ≡ Usage
  quiet_usage Done h e = absurd (no_command _ e h.0)
  quiet_usage (Refused r) h e = absurd (no_command _ e h.0)
  quiet_usage Usage h e = refl
  quiet_usage ReadFault h e = absurd (quiet.store h.1.0)
  quiet_usage WriteFault h e = absurd (no_front h)
  quiet_usage NoMemory h e = absurd (false≢true (subst IsSome e h.0))

  quiet_refused : (status : Status) (c : Command) (h : Held c) (r : Refusal) → Ends form f out err status → form ≡ Some c → TellsAll f.tells c h → FirstRefusal c h r → (status ≡ Refused r) ⊎ (status ≡ NoMemory)
  quiet_refused Done c h r ends e t first =
      let w = asked c (λ c. SomeOutput f c (Takes out)) e ends.0 in
      absurd (output_none f.tells c h r w.text t w.output first)
  quiet_refused (Refused q) c h r ends e t first =
      let w = asked c (λ c. IsRefused f.tells c q) e ends.0 in
      inl (ap Refused (one_refusal f.tells c h q r t w first))
  quiet_refused Usage c h r ends e t first = absurd (none_some (sym ends.0 ∙ e))
  quiet_refused ReadFault c h r ends e t first = absurd (quiet.store ends.1.0)
  quiet_refused WriteFault c h r ends e t first = absurd (no_front ends)
  quiet_refused NoMemory c h r ends e t first = inr refl

  quiet_done : (status : Status) (c : Command) (h : Held c) → Ends form f out err status → form ≡ Some c → TellsAll f.tells c h → ((r : Refusal) → FirstRefusal c h r → ⊥) → (status ≡ Done) ⊎ (status ≡ NoMemory)
  quiet_done Done c h ends e t none = inl refl
  quiet_done (Refused q) c h ends e t none =
      let w = asked c (λ c. IsRefused f.tells c q) e ends.0 in
      absurd (none q (still_refused f.tells c h q t w))
  quiet_done Usage c h ends e t none = absurd (none_some (sym ends.0 ∙ e))
  quiet_done ReadFault c h ends e t none = absurd (quiet.store ends.1.0)
  quiet_done WriteFault c h ends e t none = absurd (no_front ends)
  quiet_done NoMemory c h ends e t none = inr refl

pub ends_exactly : (form : Option Command) (f : Files) (out err : Stream) (status : Status) → Ends form f out err status → Exactly form f out err status
ends_exactly form f out err status ends = λ quiet. record {
  usage = quiet_usage form f out err quiet status ends;
  refused = λ c h r. quiet_refused form f out err quiet status c h r ends;
  done = λ c h. quiet_done form f out err quiet status c h ends;
}

pub usage_exactly : (form : Option Command) (f : Files) (out err : Stream) (line : List ℕ) (status : Status) → form ≡ None → SaysOr Usage err line status → Exactly form f out err status
usage_exactly form f out err line status none (inl said) = λ quiet. record {
  usage = λ e. said.0;
  refused = λ c h r e t first. absurd (none_some (sym none ∙ e));
  done = λ c h e t none_first. absurd (none_some (sym none ∙ e));
}
usage_exactly form f out err line status none (inr failed) = λ quiet. absurd (quiet.line failed.1.0)
