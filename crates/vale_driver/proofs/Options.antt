-- Options one after the other.
use Rattle.std.proofs.Common.{◌≡◌, ℕ, ◌-◌, ◌≤◌, Bool, true, false, List, [], ◌∷◌, length, get_or, take, drop, Some, None, sym, ap, ◌∙◌, arith}
use Rattle.std.specs.Prelude.{String, string_bytes, option_map, option_and_then, if◌then◌else◌}
use Rattle.std.specs.Borrow.{Bor}
use Rattle.std.specs.declared.alloc.Global.{Global}
use Rattle.std.proofs.lemmas.Bool.{lt-ltb, le-ltb}
use Rattle.std.proofs.lemmas.List.{take_all}
use Rattle.std.proofs.lemmas.Str.Pattern.{IsSplitOnceResult, split_once_first}
use Rattle.vale_driver.specs.Words.{Options, with_option, is_option, has_equals, name_of, value_of, read_options, eval_form, is_eval_command, one_file, eval_file, step_count, texts}

-- a list by its first item and the rest
pub split_first : {X : Type 0} (xs : List X) (x : X) → 1 ≤ length xs → x ≡ get_or xs 0 x → xs ≡ x ∷ take (length xs - 1) (drop 1 xs)
split_first [] x some_ e = absurd (omega (arith, some_))
split_first (y ∷ ys) x some_ e =
    let n : length (y ∷ ys) - 1 ≡ length ys = omega arith in
    ap (λ z. z ∷ ys) (sym e) ∙ ap (λ l. x ∷ l) (sym (take_all (length (y ∷ ys) - 1) ys (omega (arith, n))))

pub first_text : (words : List (String Global)) (word : String Global) (bytes : List ℕ) → 1 ≤ length words → word ≡ get_or words 0 word → bytes ≡ string_bytes word → texts words ≡ bytes ∷ texts (take (length words - 1) (drop 1 words))
first_text words word bytes some_ e is =
    ap texts (split_first words word some_ e) ∙ ap (λ b. b ∷ texts (take (length words - 1) (drop 1 words))) (sym is)

pub with_equals : (o p : Options) (w : List ℕ) (ws : List (List ℕ)) → is_option w ≡ true → has_equals w ≡ true → Some p ≡ with_option o (name_of w) (value_of w) → read_options o (w ∷ ws) ≡ read_options p ws
with_equals o p w [] h k e =
    ap (λ (b : Bool). if b then (if has_equals w then option_map (λ p. (p, [])) (with_option o (name_of w) (value_of w)) else None) else Some (o, w ∷ [])) h
    ∙ ap (λ (b : Bool). if b then option_map (λ p. (p, [])) (with_option o (name_of w) (value_of w)) else None) k ∙ ap (option_map (λ p. (p, []))) (sym e)
with_equals o p w (v ∷ ws) h k e =
    ap (λ (b : Bool). if b then (if has_equals w then option_and_then (λ p. read_options p (v ∷ ws)) (with_option o (name_of w) (value_of w)) else option_and_then (λ p. read_options p ws) (with_option o w v)) else Some (o, w ∷ (v ∷ ws))) h
    ∙ ap (λ (b : Bool). if b then option_and_then (λ p. read_options p (v ∷ ws)) (with_option o (name_of w) (value_of w)) else option_and_then (λ p. read_options p ws) (with_option o w v)) k
    ∙ ap (option_and_then (λ p. read_options p (v ∷ ws))) (sym e)

pub without_equals : (o p : Options) (w v : List ℕ) (ws : List (List ℕ)) → is_option w ≡ true → has_equals w ≡ false → Some p ≡ with_option o w v → read_options o (w ∷ (v ∷ ws)) ≡ read_options p ws
without_equals o p w v ws h k e =
    ap (λ (b : Bool). if b then (if has_equals w then option_and_then (λ p. read_options p (v ∷ ws)) (with_option o (name_of w) (value_of w)) else option_and_then (λ p. read_options p ws) (with_option o w v)) else Some (o, w ∷ (v ∷ ws))) h
    ∙ ap (λ (b : Bool). if b then option_and_then (λ p. read_options p (v ∷ ws)) (with_option o (name_of w) (value_of w)) else option_and_then (λ p. read_options p ws) (with_option o w v)) k
    ∙ ap (option_and_then (λ p. read_options p ws)) (sym e)

-- where a word is cut at its first `=`
pub cut_there : (w : List ℕ) (name value : Bor (List ℕ)) → IsSplitOnceResult 61 w (Some (name, value)) → (has_equals w ≡ true) × (name.now ≡ name_of w) × (value.now ≡ value_of w)
cut_there w name value h =
    let p = split_once_first 61 w (Some (name, value)) h (omega arith) in
    (lt-ltb _ _ p.0, p.1, p.2)

pub cut_nowhere : (w : List ℕ) → IsSplitOnceResult 61 w None → has_equals w ≡ false
cut_nowhere w h =
    let p = split_once_first 61 w None h (omega arith) in
    le-ltb _ _ (omega (arith, p))

-- a run without a number of steps
pub no_steps : (o : Options) (files : List (List ℕ)) (file entry state steps : List ℕ) → is_eval_command o ≡ true → one_file files ≡ Some file → o.entry ≡ Some entry → o.state ≡ Some state → o.steps ≡ Some steps → step_count steps ≡ None → eval_form o files ≡ None
no_steps o files file entry state steps h f e s n none =
    ap (λ (b : Bool). if b then option_and_then (λ file. eval_file o.entry o.state o.steps file) (one_file files) else None) h
    ∙ ap (option_and_then (λ file. eval_file o.entry o.state o.steps file)) f
    ∙ ap (λ x. eval_file x o.state o.steps file) e ∙ ap (λ x. eval_file (Some entry) x o.steps file) s ∙ ap (λ x. eval_file (Some entry) (Some state) x file) n
    ∙ ap (option_map _) none
