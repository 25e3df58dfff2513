-- Looking for variables one by one finds what the list of all of them has.
use Rattle.std.proofs.Common.{◌≡◌, ℕ, Bool, true, false, List, [], ◌∷◌, ◌++◌, refl, sym, ap, ◌∙◌, ◌&&◌, Option, Some, None}
use Rattle.std.specs.Prelude.{option_map, flat_map, cond, if◌then◌else◌}
use Rattle.std.specs.List.{list_all}
use Rattle.std.specs.Str.{bytes_eq}
use Rattle.x64_syntax.specs.declared.type_words.Sort.{Sort}
use Rattle.x64_syntax.specs.declared.type_words.Sort.TheVariants as sort
use Rattle.term_core.specs.declared.functions.Variable.{Variable}
use Rattle.term_core.specs.Terms.{Tm, Tms, Name, Int, W64, W128, TruthTerm, Un, Bin, Ite, Put, PutDword, Clmul, Shift, Call, All, no_tms, more_tms, tms}
use Rattle.term_core.specs.Sorted.{variables, all_variables, first_named, is_of_sort, has_sort, one_sort_each}
use Rattle.term_core.specs.inner.Uses.{or_else, first_sort, first_sort_all, first_in, is_the, agrees, all_agree}

-- the sort of what is found
abbrev found : List ℕ → List Variable → Option Sort
found name vs = option_map (λ v. v.sort) (first_named name vs)

found_after : (name : List ℕ) (vs ws : List Variable) → found name (vs ++ ws) ≡ or_else (found name vs) (found name ws)
found_after name [] ws = refl
found_after name (v ∷ vs) ws = by_cases (bytes_eq v.name name) (first_named name (vs ++ ws)) (first_named name vs) (found name ws) (found_after name vs ws)
  where
    by_cases : (c : Bool) (o p : Option Variable) (q : Option Sort) → option_map (λ x. x.sort) o ≡ or_else (option_map (λ x. x.sort) p) q → option_map (λ x. x.sort) (cond c (Some v) o) ≡ or_else (option_map (λ x. x.sort) (cond c (Some v) p)) q
    by_cases true o p q h = refl
    by_cases false o p q h = h

grouped : (a b c : Option Sort) → or_else (or_else a b) c ≡ or_else a (or_else b c)
grouped (Some s) b c = refl
grouped None b c = refl

two : (name : List ℕ) (vs ws : List Variable) (a b : Option Sort) → a ≡ found name vs → b ≡ found name ws → or_else a b ≡ found name (vs ++ ws)
two name vs ws a b p q = ap (λ o. or_else o b) p ∙ ap (or_else (found name vs)) q ∙ sym (found_after name vs ws)

three : (name : List ℕ) (us vs ws : List Variable) (a b c : Option Sort) → a ≡ found name us → b ≡ found name vs → c ≡ found name ws → or_else (or_else a b) c ≡ found name (us ++ (vs ++ ws))
three name us vs ws a b c p q r = grouped a b c ∙ two name us (vs ++ ws) a (or_else b c) p (two name vs ws b c q r)

bound_first : (c : Bool) (v : Variable) (o : Option Variable) (q : Option Sort) → q ≡ option_map (λ x. x.sort) o → (if c then Some v.sort else q) ≡ option_map (λ x. x.sort) (cond c (Some v) o)
bound_first true v o q h = refl
bound_first false v o q h = h

-- the variables of two terms, and of three
first_two : (name : List ℕ) (t u : Tm) → first_sort name t ≡ found name (variables t) → first_sort name u ≡ found name (variables u) → or_else (first_sort name t) (first_sort name u) ≡ found name (variables t ++ variables u)
first_two name t u = two name (variables t) (variables u) (first_sort name t) (first_sort name u)

first_three : (name : List ℕ) (t u v : Tm) → first_sort name t ≡ found name (variables t) → first_sort name u ≡ found name (variables u) → first_sort name v ≡ found name (variables v) → or_else (or_else (first_sort name t) (first_sort name u)) (first_sort name v) ≡ found name (variables t ++ (variables u ++ variables v))
first_three name t u v = three name (variables t) (variables u) (variables v) (first_sort name t) (first_sort name u) (first_sort name v)

mutual
  first_is : (name : List ℕ) (t : Tm) → first_sort name t ≡ found name (variables t)
  first_is name (Name text s) = bound_first (bytes_eq text name) (record { name = text; sort = s }) None None refl
  first_is name (Int z) = refl
  first_is name (W64 n) = refl
  first_is name (W128 n) = refl
  first_is name (TruthTerm b) = refl
  first_is name (Un op t) = first_is name t
  first_is name (Bin op t u) = first_two name t u (first_is name t) (first_is name u)
  first_is name (Ite c t u) = first_three name c t u (first_is name c) (first_is name t) (first_is name u)
  first_is name (Put x i w) = first_three name x i w (first_is name x) (first_is name i) (first_is name w)
  first_is name (PutDword x j w) = first_three name x j w (first_is name x) (first_is name j) (first_is name w)
  first_is name (Clmul t u n) = first_two name t u (first_is name t) (first_is name u)
  first_is name (Shift op n t) = first_is name t
  first_is name (Call k s args) = first_all_is name args
  first_is name (All text low high body) =
      bound_first (bytes_eq text name) (record { name = text; sort = sort.Int }) (first_named name (variables low ++ (variables high ++ variables body))) (or_else (or_else (first_sort name low) (first_sort name high)) (first_sort name body)) (first_three name low high body (first_is name low) (first_is name high) (first_is name body))

  first_all_is : (name : List ℕ) (ts : Tms) → first_sort_all name ts ≡ found name (all_variables ts)
  first_all_is name no_tms = refl
  first_all_is name (more_tms t ts) = two name (variables t) (all_variables ts) (first_sort name t) (first_sort_all name ts) (first_is name t) (first_all_is name ts)

all_after : (p : Variable → Bool) (vs ws : List Variable) → list_all p (vs ++ ws) ≡ (list_all p vs && list_all p ws)
all_after p [] ws = refl
all_after p (v ∷ vs) ws = ap (λ c. p v && c) (all_after p vs ws) ∙ by_cases (p v) (list_all p vs) (list_all p ws)
  where
    by_cases : (c e f : Bool) → (c && (e && f)) ≡ ((c && e) && f)
    by_cases true e f = refl
    by_cases false e f = refl

-- each variable has the sort of its name
abbrev fits_in : (List ℕ → Option Sort) → Variable → Bool
fits_in of v = is_the v.sort (of v.name)

all_two : (p : Variable → Bool) (vs ws : List Variable) (a b : Bool) → a ≡ list_all p vs → b ≡ list_all p ws → (a && b) ≡ list_all p (vs ++ ws)
all_two p vs ws a b h k = ap (λ c. c && b) h ∙ ap (λ c. list_all p vs && c) k ∙ sym (all_after p vs ws)

one : (c : Bool) → c ≡ (c && true)
one true = refl
one false = refl

agree_two : (of : List ℕ → Option Sort) (t u : Tm) → agrees of t ≡ list_all (fits_in of) (variables t) → agrees of u ≡ list_all (fits_in of) (variables u) → (agrees of t && agrees of u) ≡ list_all (fits_in of) (variables t ++ variables u)
agree_two of t u = all_two (fits_in of) (variables t) (variables u) (agrees of t) (agrees of u)

agree_three : (of : List ℕ → Option Sort) (t u v : Tm) → agrees of t ≡ list_all (fits_in of) (variables t) → agrees of u ≡ list_all (fits_in of) (variables u) → agrees of v ≡ list_all (fits_in of) (variables v) → (agrees of t && (agrees of u && agrees of v)) ≡ list_all (fits_in of) (variables t ++ (variables u ++ variables v))
agree_three of t u v h k l = all_two (fits_in of) (variables t) (variables u ++ variables v) (agrees of t) (agrees of u && agrees of v) h (agree_two of u v k l)

mutual
  agrees_is : (of : List ℕ → Option Sort) (t : Tm) → agrees of t ≡ list_all (fits_in of) (variables t)
  agrees_is of (Name text s) = one (is_the s (of text))
  agrees_is of (Int z) = refl
  agrees_is of (W64 n) = refl
  agrees_is of (W128 n) = refl
  agrees_is of (TruthTerm b) = refl
  agrees_is of (Un op t) = agrees_is of t
  agrees_is of (Bin op t u) = agree_two of t u (agrees_is of t) (agrees_is of u)
  agrees_is of (Ite c t u) = agree_three of c t u (agrees_is of c) (agrees_is of t) (agrees_is of u)
  agrees_is of (Put x i w) = agree_three of x i w (agrees_is of x) (agrees_is of i) (agrees_is of w)
  agrees_is of (PutDword x j w) = agree_three of x j w (agrees_is of x) (agrees_is of j) (agrees_is of w)
  agrees_is of (Clmul t u n) = agree_two of t u (agrees_is of t) (agrees_is of u)
  agrees_is of (Shift op n t) = agrees_is of t
  agrees_is of (Call k s args) = all_agree_is of args
  agrees_is of (All text low high body) = ap (λ c. is_the sort.Int (of text) && c) (agree_three of low high body (agrees_is of low) (agrees_is of high) (agrees_is of body))

  all_agree_is : (of : List ℕ → Option Sort) (ts : Tms) → all_agree of ts ≡ list_all (fits_in of) (all_variables ts)
  all_agree_is of no_tms = refl
  all_agree_is of (more_tms t ts) = all_two (fits_in of) (variables t) (all_variables ts) (agrees of t) (all_agree of ts) (agrees_is of t) (all_agree_is of ts)

all_of_list : (ts : List Tm) → all_variables (tms ts) ≡ flat_map variables ts
all_of_list [] = refl
all_of_list (t ∷ ts) = ap (λ vs. variables t ++ vs) (all_of_list ts)

-- what is found has that sort
sort_is : (s : Sort) (o : Option Variable) → is_the s (option_map (λ v. v.sort) o) ≡ is_of_sort s o
sort_is s None = refl
sort_is s (Some v) = refl

same_test : {A : Type 0} (p q : A → Bool) → ((x : A) → p x ≡ q x) → (xs : List A) → list_all p xs ≡ list_all q xs
same_test p q e [] = refl
same_test p q e (x ∷ xs) = ap (λ c. c && list_all p xs) (e x) ∙ ap (λ c. q x && c) (same_test p q e xs)

-- the sort with which a name stands first in the sequent is that of its first variable
first_in_is : (hyps : List Tm) (goal : Tm) (name : List ℕ) → first_in hyps goal name ≡ found name (flat_map variables (goal ∷ hyps))
first_in_is hyps goal name = two name (variables goal) (flat_map variables hyps) (first_sort name goal) (first_sort_all name (tms hyps)) (first_is name goal) (first_all_is name (tms hyps) ∙ ap (found name) (all_of_list hyps))

pub one_sort : (hyps : List Tm) (goal : Tm) → (agrees (first_in hyps goal) goal && all_agree (first_in hyps goal) (tms hyps)) ≡ one_sort_each (flat_map variables (goal ∷ hyps))
one_sort hyps goal =
    all_two (fits_in (first_in hyps goal)) (variables goal) (flat_map variables hyps) (agrees (first_in hyps goal) goal) (all_agree (first_in hyps goal) (tms hyps)) (agrees_is (first_in hyps goal) goal) (all_agree_is (first_in hyps goal) (tms hyps) ∙ ap (list_all (fits_in (first_in hyps goal))) (all_of_list hyps))
    ∙ same_test (fits_in (first_in hyps goal)) (has_sort (flat_map variables (goal ∷ hyps))) (λ v. ap (is_the v.sort) (first_in_is hyps goal v.name) ∙ sort_is v.sort (first_named v.name (flat_map variables (goal ∷ hyps)))) (flat_map variables (goal ∷ hyps))
