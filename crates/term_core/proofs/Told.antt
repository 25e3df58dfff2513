-- Each legible term is the one that its text says.
use Rattle.std.proofs.Common.{◌≡◌, ℕ, zero, suc, ◌^◌, ◌<◌, ◌≤◌, ℤ, pos, negsuc, Bool, true, false, cond, ◌&&◌, not, List, [], ◌∷◌, ◌++◌, Option, Some, None, refl, sym, ◌∙◌, ap, subst, arith, append_assoc, decimal}
use Rattle.std.specs.Prelude.{nat_lt, nat_abs, slice_get, codes, is_none}
use Rattle.std.specs.List.{list_all, list_any}
use Rattle.std.specs.Str.{bytes_eq}
use Rattle.std.proofs.lemmas.List.Folds.{list_all-append, list_any-append}
use Rattle.std.proofs.lemmas.Bool.{and_parts, or_parts, leb-true, ltb-true, false≢true}
use Rattle.std.proofs.lemmas.Slice.Eq.{bytes_eq-Decides}
use Rattle.x64_syntax.specs.declared.type_words.Sort.{Sort}
use Rattle.x64_syntax.specs.declared.type_words.Sort.TheVariants as sort
use Rattle.x64_syntax.specs.declared.built_in.BuiltIn.{BuiltIn}
use Rattle.x64_syntax.specs.Words.{built_in_of}
use Rattle.term_core.specs.declared.operator.Operator.{Operator}
use Rattle.term_core.specs.declared.operator.Operator.TheVariants as operator
use Rattle.term_core.specs.declared.operator.UnOp.{UnOp}
use Rattle.term_core.specs.declared.operator.UnOp.TheVariants as un
use Rattle.term_core.specs.declared.operator.BinOp.{BinOp}
use Rattle.term_core.specs.declared.operator.BinOp.TheVariants as bin
use Rattle.term_core.specs.declared.operator.CountedOp.{CountedOp}
use Rattle.term_core.specs.declared.functions.Variable.{Variable}
use Rattle.term_core.specs.declared.functions.BrokenRule.{BrokenRule}
use Rattle.term_core.specs.declared.functions.BrokenRule.TheVariants.{BuiltIn as BuiltInName, NameTwice}
use Rattle.term_core.specs.Operators.{sort_eq, both_are, bin_takes, bin_sort, sum_sort, bits_sort}
use Rattle.term_core.specs.Terms.{Tm, Tms, Name, Int, W64, W128, TruthTerm, Un, Bin, Ite, Put, PutDword, Clmul, Shift, Call, All, no_tms, more_tms, tm_sort}
use Rattle.term_core.specs.Functions.{Function}
use Rattle.term_core.specs.Rules.{broken_rule, all_obey}
use Rattle.term_core.specs.Sorted.{tms_sorts, fun_takes, ite_takes, put_takes, all_takes, well_sorted, all_well_sorted, variables, all_variables, variable}
use Rattle.term_core.specs.Printed.{operator_word, commas, call_text, infix_text, name_of, printed, printed_all}
use Rattle.term_core.specs.Legible.{is_term_name, in_range, all_in_range, is_legible, IsLegible, AreLegible}
use Rattle.term_core.proofs.Comparing.{sort_eq_is}
use Rattle.term_core.proofs.Forms.{Form, atom, between, bang, done, round, Forms, no_forms, more_forms, text_on, list_on, others_on, is_mark_byte, IsWord, Good, GoodForms, told_by_text}
use Rattle.term_core.proofs.Words.{name_word, name_said, name_differs, no_minus, whole_said, word_said, wide_said, negative_said, decimal_word, suffix_word, negative_word}
use Rattle.term_core.proofs.Operations
use Rattle.term_core.proofs.Operations.{operation, number_in, result_of, function_call, named_call, call_term, mark_operator, IsCalled}
use Rattle.term_core.proofs.Back.{back, backs, IsAtom, with_index, back-with_index, text-with_index, good-with_index}

-- no operator gives an array
bits_no_array : (s : Sort) → sort_eq (bits_sort s) sort.Arr ≡ false
bits_no_array sort.Int = refl
bits_no_array sort.Bool = refl
bits_no_array sort.W64 = refl
bits_no_array sort.W128 = refl
bits_no_array sort.Arr = refl

sum_no_array : (s : Sort) → sort_eq (sum_sort s) sort.Arr ≡ false
sum_no_array sort.Int = refl
sum_no_array sort.Bool = refl
sum_no_array sort.W64 = refl
sum_no_array sort.W128 = refl
sum_no_array sort.Arr = refl

-- The term is that of a form, whose text is its own; an array's is no operation between two others.
record Reads (fs : List Function) (sorts : List ℕ → Sort) (t : Tm) : Type 0 where
  form : Form
  good : Good form
  said : back fs sorts form ≡ t
  text : (r : List ℕ) → printed fs t ++ r ≡ text_on form r
  array : sort_eq (tm_sort t) sort.Arr ≡ true → IsAtom form

-- these texts are those of the forms
Written : List (List ℕ) → Forms → Type 0
Written [] no_forms = Unit {0}
Written [] (more_forms x xs) = ⊥
Written (a ∷ as_) no_forms = ⊥
Written (a ∷ as_) (more_forms x xs) = ((r : List ℕ) → a ++ r ≡ text_on x r) × Written as_ xs

commas_on : (as_ : List (List ℕ)) (xs : Forms) → Written as_ xs → (r : List ℕ) → commas as_ ++ r ≡ list_on xs r
unfolding Written
commas_on [] no_forms w r = refl
commas_on [] (more_forms x xs) w r = absurd w
commas_on (a ∷ as_) no_forms w r = absurd w
commas_on (a ∷ []) (more_forms x no_forms) w r = w.0 r
commas_on (a ∷ []) (more_forms x (more_forms y ys)) w r = absurd w.1
commas_on (a ∷ b ∷ cs) (more_forms x no_forms) w r = absurd w.1
commas_on (a ∷ b ∷ cs) (more_forms x (more_forms y ys)) w r =
    append_assoc (a ++ codes ", ") (commas (b ∷ cs)) r ∙ append_assoc a (codes ", ") (commas (b ∷ cs) ++ r)
    ∙ ap (λ l. a ++ (44 ∷ (32 ∷ l))) (commas_on (b ∷ cs) (more_forms y ys) w.1 r)
    ∙ w.0 (44 ∷ (32 ∷ text_on y (others_on ys r)))

call_on : (w : List ℕ) (as_ : List (List ℕ)) (xs : Forms) → Written as_ xs → (r : List ℕ) → call_text w as_ ++ r ≡ w ++ (40 ∷ list_on xs (41 ∷ r))
call_on w as_ xs h r =
    append_assoc ((w ++ codes "(") ++ commas as_) (codes ")") r ∙ append_assoc (w ++ codes "(") (commas as_) (41 ∷ r)
    ∙ append_assoc w (codes "(") (commas as_ ++ (41 ∷ r)) ∙ ap (λ l. w ++ (40 ∷ l)) (commas_on as_ xs h (41 ∷ r))

infix_on : (a o b r : List ℕ) → infix_text o a b ++ r ≡ 40 ∷ (a ++ (32 ∷ (o ++ (32 ∷ (b ++ (41 ∷ r))))))
infix_on a o b r =
    let mark = (codes " " ++ o) ++ codes " " in
    append_assoc (((codes "(" ++ a) ++ mark) ++ b) (codes ")") r ∙ append_assoc ((codes "(" ++ a) ++ mark) b (41 ∷ r)
    ∙ append_assoc (codes "(" ++ a) mark (b ++ (41 ∷ r)) ∙ ap (λ l. 40 ∷ (a ++ l)) (append_assoc (codes " " ++ o) (codes " ") (b ++ (41 ∷ r)))

module _ (fs : List Function) (sorts : List ℕ → Sort) where
  two : (f : Tm → Tm → Tm) {a b c d : Tm} → a ≡ c → b ≡ d → f a b ≡ f c d
  two f {b = b} {c = c} p q = ap (λ a. f a b) p ∙ ap (f c) q

  three : (f : Tm → Tm → Tm → Tm) {a b c d e g : Tm} → a ≡ d → b ≡ e → c ≡ g → f a b c ≡ f d e g
  three f {b = b} {c = c} {d = d} {e = e} p q r = ap (λ a. f a b c) p ∙ ap (λ b. f d b c) q ∙ ap (f d e) r

  -- a word with arguments
  call_reads : (w : List ℕ) (t : Tm) (as_ : List (List ℕ)) (xs : Forms) → IsWord w → GoodForms xs → Written as_ xs → call_term fs w (backs fs sorts xs) ≡ t → printed fs t ≡ call_text w as_ → Reads fs sorts t
  call_reads w t as_ xs word good written said e = record {
    form = atom w (round xs done);
    good = (word, (good, tt));
    said = said;
    text = λ r. ap (λ l. l ++ r) e ∙ call_on w as_ xs written r;
    array = λ h. tt;
  }

  -- an operator by its word
  operation_reads : (op : Operator) → IsCalled op → (t : Tm) (as_ : List (List ℕ)) (xs : Forms) → GoodForms xs → Written as_ xs → operation op (backs fs sorts xs) ≡ t → printed fs t ≡ call_text (operator_word op) as_ → Reads fs sorts t
  operation_reads op c t as_ xs good written said e = call_reads (operator_word op) t as_ xs c.word good written (c.called fs (backs fs sorts xs) ∙ said) e

  -- an operator between its arguments
  infix_reads : (op : BinOp) (o : List ℕ) (a b : Tm) → list_all is_mark_byte o ≡ true → mark_operator o ≡ op → printed fs (Bin op a b) ≡ infix_text o (printed fs a) (printed fs b) → sort_eq (bin_sort op (tm_sort a)) sort.Arr ≡ false → Reads fs sorts a → Reads fs sorts b
      → Reads fs sorts (Bin op a b)
  infix_reads op o a b mark is e none x y = record {
    form = between o x.form y.form;
    good = (mark, (x.good, y.good));
    said = ap (λ p. Bin p (back fs sorts x.form) (back fs sorts y.form)) is ∙ two (Bin op) x.said y.said;
    text = λ r. ap (λ l. l ++ r) e ∙ infix_on (printed fs a) o (printed fs b) r ∙ ap (λ l. 40 ∷ (printed fs a ++ (32 ∷ (o ++ (32 ∷ l))))) (y.text (41 ∷ r)) ∙ ap (λ l. 40 ∷ l) (x.text (32 ∷ (o ++ (32 ∷ text_on y.form (41 ∷ r)))));
    array = λ h. absurd (false≢true (sym none ∙ h));
  }

  index_reads : (x i : Tm) → sort_eq (tm_sort x) sort.Arr ≡ true → Reads fs sorts x → Reads fs sorts i → Reads fs sorts (Bin bin.Index x i)
  unfolding printed
  index_reads x i arr p q = record {
    form = with_index p.form q.form;
    good = good-with_index p.form q.form p.good q.good;
    said = back-with_index fs sorts p.form q.form (p.array arr) ∙ two (Bin bin.Index) p.said q.said;
    text = λ r.
        append_assoc ((printed fs x ++ codes "[") ++ printed fs i) (codes "]") r ∙ append_assoc (printed fs x ++ codes "[") (printed fs i) (93 ∷ r)
        ∙ append_assoc (printed fs x) (codes "[") (printed fs i ++ (93 ∷ r)) ∙ ap (λ l. printed fs x ++ (91 ∷ l)) (q.text (93 ∷ r))
        ∙ p.text (91 ∷ text_on q.form (93 ∷ r)) ∙ sym (text-with_index p.form q.form r (p.array arr));
    array = λ h. absurd (false≢true h);
  }

  un_called : (op : UnOp) (a : Tm) → IsCalled (operator.Un op) → printed fs (Un op a) ≡ call_text (operator_word (operator.Un op)) (printed fs a ∷ []) → Reads fs sorts a → Reads fs sorts (Un op a)
  unfolding Written
  un_called op a c e x = operation_reads (operator.Un op) c (Un op a) (printed fs a ∷ []) (more_forms x.form no_forms) (x.good, tt) (x.text, tt) (ap (Un op) x.said) e

  un_reads : (op : UnOp) (a : Tm) → Reads fs sorts a → Reads fs sorts (Un op a)
  unfolding printed Written
  un_reads un.Neg a x = call_reads (codes "-") (Un un.Neg a) (printed fs a ∷ []) (more_forms x.form no_forms) (record { some = omega arith; all = refl }) (x.good, tt) (x.text, tt) (ap (Un un.Neg) x.said) refl
  un_reads un.LogicNot a x = record {
    form = bang x.form;
    good = x.good;
    said = ap (Un un.LogicNot) x.said;
    text = λ r. ap (λ l. 33 ∷ l) (x.text r);
    array = λ h. absurd (false≢true h);
  }
  un_reads un.Int a x = un_called un.Int a Operations.un_int refl x
  un_reads un.Word a x = un_called un.Word a Operations.un_word refl x
  un_reads un.Not a x = un_called un.Not a Operations.un_not refl x
  un_reads un.Hi a x = un_called un.Hi a Operations.un_hi refl x
  un_reads un.Lo a x = un_called un.Lo a Operations.un_lo refl x
  un_reads un.Len a x = un_called un.Len a Operations.un_len refl x

  bin_called : (op : BinOp) (a b : Tm) → IsCalled (operator.Bin op) → printed fs (Bin op a b) ≡ call_text (operator_word (operator.Bin op)) (printed fs a ∷ printed fs b ∷ []) → Reads fs sorts a → Reads fs sorts b → Reads fs sorts (Bin op a b)
  unfolding Written
  bin_called op a b c e x y = operation_reads (operator.Bin op) c (Bin op a b) (printed fs a ∷ printed fs b ∷ []) (more_forms x.form (more_forms y.form no_forms)) (x.good, (y.good, tt)) (x.text, (y.text, tt)) (two (Bin op) x.said y.said) e

  bin_reads : (op : BinOp) (a b : Tm) → bin_takes op (tm_sort a) (tm_sort b) ≡ true → Reads fs sorts a → Reads fs sorts b → Reads fs sorts (Bin op a b)
  unfolding printed
  bin_reads bin.Add a b h x y = infix_reads bin.Add (codes "+") a b refl refl refl (sum_no_array (tm_sort a)) x y
  bin_reads bin.Sub a b h x y = infix_reads bin.Sub (codes "-") a b refl refl refl (sum_no_array (tm_sort a)) x y
  bin_reads bin.Mul a b h x y = infix_reads bin.Mul (codes "*") a b refl refl refl (sum_no_array (tm_sort a)) x y
  bin_reads bin.Eq a b h x y = infix_reads bin.Eq (codes "==") a b refl refl refl refl x y
  bin_reads bin.Lt a b h x y = infix_reads bin.Lt (codes "<") a b refl refl refl refl x y
  bin_reads bin.Le a b h x y = infix_reads bin.Le (codes "<=") a b refl refl refl refl x y
  bin_reads bin.LogicAnd a b h x y = infix_reads bin.LogicAnd (codes "&&") a b refl refl refl refl x y
  bin_reads bin.LogicOr a b h x y = infix_reads bin.LogicOr (codes "||") a b refl refl refl refl x y
  bin_reads bin.Implies a b h x y = infix_reads bin.Implies (codes "==>") a b refl refl refl refl x y
  bin_reads bin.Index a b h x y = index_reads a b (and_parts (sort_eq (tm_sort a) sort.Arr) _ h).0 x y
  bin_reads bin.Div a b h x y = bin_called bin.Div a b Operations.bin_div refl x y
  bin_reads bin.Mod a b h x y = bin_called bin.Mod a b Operations.bin_mod refl x y
  bin_reads bin.And a b h x y = bin_called bin.And a b Operations.bin_and refl x y
  bin_reads bin.Or a b h x y = bin_called bin.Or a b Operations.bin_or refl x y
  bin_reads bin.Xor a b h x y = bin_called bin.Xor a b Operations.bin_xor refl x y
  bin_reads bin.Mulhi a b h x y = bin_called bin.Mulhi a b Operations.bin_mulhi refl x y
  bin_reads bin.Pair a b h x y = bin_called bin.Pair a b Operations.bin_pair refl x y
  bin_reads bin.Paddd a b h x y = bin_called bin.Paddd a b Operations.bin_paddd refl x y
  bin_reads bin.Pshufb a b h x y = bin_called bin.Pshufb a b Operations.bin_pshufb refl x y
  bin_reads bin.Aesenc a b h x y = bin_called bin.Aesenc a b Operations.bin_aesenc refl x y
  bin_reads bin.Aesenclast a b h x y = bin_called bin.Aesenclast a b Operations.bin_aesenclast refl x y
  bin_reads bin.ByteAt a b h x y = bin_called bin.ByteAt a b Operations.bin_byteat refl x y
  bin_reads bin.DwordAt a b h x y = bin_called bin.DwordAt a b Operations.bin_dwordat refl x y

  name_reads : (text : List ℕ) (s : Sort) → is_legible sorts (variable text s) ≡ true → Reads fs sorts (Name text s)
  unfolding printed
  name_reads text s h =
      let parts = and_parts (is_term_name text) _ h in
      record {
        form = atom text done;
        good = (name_word text parts.0, tt);
        said = name_said sorts text parts.0 ∙ ap (Name text) (sym (sort_eq_is s (sorts text) parts.1));
        text = λ r. refl;
        array = λ e. tt;
      }

  int_reads : (z : ℤ) → nat_abs z ≤ 2 ^ 127 → Reads fs sorts (Int z)
  unfolding printed
  int_reads (pos n) h = record {
    form = atom (decimal n) done;
    good = (decimal_word n (omega (arith, h)), tt);
    said = whole_said sorts n (omega (arith, h));
    text = λ r. refl;
    array = λ e. tt;
  }
  int_reads (negsuc n) h = record {
    form = atom (45 ∷ decimal (suc n)) done;
    good = (negative_word (suc n) (omega (arith, h)), tt);
    said = negative_said sorts n (omega (arith, h));
    text = λ r. refl;
    array = λ e. tt;
  }

  word_reads : (n : ℕ) → n < 2 ^ 64 → Reads fs sorts (W64 n)
  unfolding printed
  word_reads n h = record {
    form = atom (decimal n ++ codes "w") done;
    good = (suffix_word n (codes "w") (omega (arith, h)) refl, tt);
    said = word_said sorts n (omega (arith, h));
    text = λ r. refl;
    array = λ e. tt;
  }

  wide_reads : (n : ℕ) → n < 2 ^ 128 → Reads fs sorts (W128 n)
  unfolding printed
  wide_reads n h = record {
    form = atom (decimal n ++ codes "v") done;
    good = (suffix_word n (codes "v") (omega (arith, h)) refl, tt);
    said = wide_said sorts n (omega (arith, h));
    text = λ r. refl;
    array = λ e. tt;
  }

  truth_reads : (b : Bool) → Reads fs sorts (TruthTerm b)
  unfolding printed
  truth_reads true = record {
    form = atom (codes "true") done;
    good = (record { some = omega arith; all = refl }, tt);
    said = refl;
    text = λ r. refl;
    array = λ e. tt;
  }
  truth_reads false = record {
    form = atom (codes "false") done;
    good = (record { some = omega arith; all = refl }, tt);
    said = refl;
    text = λ r. refl;
    array = λ e. tt;
  }

  -- an operator on three terms
  three_reads : (op : Operator) (f : Tm → Tm → Tm → Tm) (a b c : Tm) → IsCalled op → ((x y z : Tm) → operation op (more_tms x (more_tms y (more_tms z no_tms))) ≡ f x y z)
      → printed fs (f a b c) ≡ call_text (operator_word op) (printed fs a ∷ printed fs b ∷ printed fs c ∷ []) → Reads fs sorts a → Reads fs sorts b → Reads fs sorts c → Reads fs sorts (f a b c)
  unfolding Written
  three_reads op f a b c called is e x y z =
      operation_reads op called (f a b c) (printed fs a ∷ printed fs b ∷ printed fs c ∷ []) (more_forms x.form (more_forms y.form (more_forms z.form no_forms)))
      (x.good, (y.good, (z.good, tt))) (x.text, (y.text, (z.text, tt)))
      (is (back fs sorts x.form) (back fs sorts y.form) (back fs sorts z.form) ∙ three f x.said y.said z.said) e

  clmul_reads : (a b : Tm) (n : ℕ) → n < 256 → Reads fs sorts a → Reads fs sorts b → Reads fs sorts (Clmul a b n)
  unfolding printed Written
  clmul_reads a b n h x y =
      operation_reads operator.Clmul Operations.clmul_called (Clmul a b n) (printed fs a ∷ printed fs b ∷ decimal n ∷ []) (more_forms x.form (more_forms y.form (more_forms (atom (decimal n) done) no_forms)))
      (x.good, (y.good, ((decimal_word n (omega (arith, h)), tt), tt))) (x.text, (y.text, ((λ r. refl), tt)))
      (ap (λ t. operation operator.Clmul (more_tms (back fs sorts x.form) (more_tms (back fs sorts y.form) (more_tms t no_tms)))) (whole_said sorts n (omega (arith, h)))
      ∙ two (λ a b. Clmul a b n) x.said y.said) refl

  shift_reads : (op : CountedOp) (n : ℕ) (a : Tm) → n < 256 → Reads fs sorts a → Reads fs sorts (Shift op n a)
  unfolding printed Written
  shift_reads op n a h x =
      operation_reads (operator.Counted op) (Operations.counted_called op) (Shift op n a) (printed fs a ∷ decimal n ∷ []) (more_forms x.form (more_forms (atom (decimal n) done) no_forms))
      (x.good, ((decimal_word n (omega (arith, h)), tt), tt)) (x.text, ((λ r. refl), tt))
      (ap (λ t. operation (operator.Counted op) (more_tms (back fs sorts x.form) (more_tms t no_tms))) (whole_said sorts n (omega (arith, h))) ∙ ap (Shift op n) x.said) refl

  all_reads : (text : List ℕ) (low high body : Tm) → is_term_name text ≡ true → Reads fs sorts low → Reads fs sorts high → Reads fs sorts body → Reads fs sorts (All text low high body)
  unfolding printed Written
  all_reads text low high body h x y z =
      operation_reads operator.All Operations.all_called (All text low high body) (text ∷ printed fs low ∷ printed fs high ∷ printed fs body ∷ [])
      (more_forms (atom text done) (more_forms x.form (more_forms y.form (more_forms z.form no_forms))))
      ((name_word text h, tt), (x.good, (y.good, (z.good, tt)))) ((λ r. refl), (x.text, (y.text, (z.text, tt))))
      (ap (λ t. operation operator.All (more_tms t (more_tms (back fs sorts x.form) (more_tms (back fs sorts y.form) (more_tms (back fs sorts z.form) no_tms))))) (name_said sorts text h)
      ∙ three (All text) x.said y.said z.said) refl

-- what a function's number and its name say of each other
record IsNumbered (earlier fs : List Function) (k : ℕ) (f : Function) : Type 0 where
  no_operator : is_none (built_in_of f.name) ≡ true
  fresh : list_any (λ g. bytes_eq g.name f.name) earlier ≡ false
  number : number_in fs f.name ≡ k

-- a rule that isn't the first broken one holds
rule_holds : (holds : Bool) (rest : Option BrokenRule) (rule : BrokenRule) → is_none (cond holds rest (Some rule)) ≡ true → (holds ≡ true) × (is_none rest ≡ true)
rule_holds true rest rule h = (refl, h)
rule_holds false rest rule h = absurd (false≢true h)

not_true : (b : Bool) → not b ≡ true → b ≡ false
not_true false h = refl
not_true true h = absurd (false≢true h)

obeys : (earlier : List Function) (f : Function) → is_none (broken_rule earlier f) ≡ true → (is_none (built_in_of f.name) ≡ true) × (list_any (λ g. bytes_eq g.name f.name) earlier ≡ false)
obeys earlier f h =
    let operators = rule_holds (is_none (built_in_of f.name)) _ BuiltInName h in
    let names = rule_holds (not (list_any (λ g. bytes_eq g.name f.name) earlier)) _ NameTwice operators.1 in
    (operators.0, not_true _ names.0)

some_is : (f g : Function) → Some g ≡ Some f → g ≡ f
some_is f g e = cc

no_function : (f : Function) → None ≡ Some f → ⊥
no_function f e = cc

none_is : (o : Option BuiltIn) → is_none o ≡ true → o ≡ None
none_is None h = refl
none_is (Some b) h = absurd (false≢true h)

numbered : (earlier fs : List Function) (k : ℕ) (f : Function) → all_obey earlier fs ≡ true → slice_get fs k ≡ Some f → IsNumbered earlier fs k f
numbered earlier [] k f h e = absurd (no_function f e)
numbered earlier (g ∷ fs) zero f h e = subst (λ f. IsNumbered earlier (g ∷ fs) 0 f) (some_is f g e) itself
  where
    itself : IsNumbered earlier (g ∷ fs) 0 g
    itself =
        let o = obeys earlier g (and_parts _ _ h).0 in
        record { no_operator = o.0; fresh = o.1; number = ap (λ t. cond t 0 (suc (number_in fs g.name))) ((bytes_eq-Decides g.name g.name).1 refl) }
numbered earlier (g ∷ fs) (suc k) f h e =
    let n = numbered (earlier ++ g ∷ []) fs k f (and_parts _ _ h).1 e in
    let others = or_parts _ _ (sym (list_any-append (λ g. bytes_eq g.name f.name) earlier (g ∷ [])) ∙ n.fresh) in
    let differs = (or_parts (bytes_eq g.name f.name) _ others.1).0 in
    record {
      no_operator = n.no_operator;
      fresh = others.0;
      number = ap (λ t. cond t 0 (suc (number_in fs f.name))) differs ∙ ap suc n.number;
    }

named : (fs : List Function) (k : ℕ) (f : Function) → list_all (λ f. is_term_name f.name) fs ≡ true → slice_get fs k ≡ Some f → is_term_name f.name ≡ true
named [] k f h e = absurd (no_function f e)
named (g ∷ fs) zero f h e = ap (λ f. is_term_name f.name) (sym (some_is f g e)) ∙ (and_parts (is_term_name g.name) _ h).0
named (g ∷ fs) (suc k) f h e = named fs k f (and_parts (is_term_name g.name) _ h).1 e

record ReadsAll (fs : List Function) (sorts : List ℕ → Sort) (ts : Tms) : Type 0 where
  forms : Forms
  good : GoodForms forms
  said : backs fs sorts forms ≡ ts
  written : Written (printed_all fs ts) forms

function_reads : (fs : List Function) (sorts : List ℕ → Sort) → AreLegible fs → (k : ℕ) (s : Sort) (args : Tms) (o : Option Function) → slice_get fs k ≡ o → fun_takes o s (tms_sorts args) ≡ true → ReadsAll fs sorts args → Reads fs sorts (Call k s args)
unfolding printed
function_reads fs sorts a k s args None e h x = absurd (false≢true h)
function_reads fs sorts a k s args (Some f) e h x =
    call_reads fs sorts f.name (Call k s args) (printed_all fs args) x.forms (name_word f.name legible) x.good x.written said (ap (λ o. call_text (name_of o) (printed_all fs args)) e)
  where
    legible : is_term_name f.name ≡ true
    legible = named fs k f a.names e

    said : call_term fs f.name (backs fs sorts x.forms) ≡ Call k s args
    said =
        let n = numbered [] fs k f a.obey e in
        let us = backs fs sorts x.forms in
        ap (λ t. cond t (operation (operator.Un un.Neg) us) (named_call fs f.name (built_in_of f.name) us)) (name_differs f.name (codes "-") legible no_minus)
        ∙ ap (λ o. named_call fs f.name o us) (none_is (built_in_of f.name) n.no_operator)
        ∙ ap (λ k. function_call fs k us) n.number
        ∙ ap (λ o. Call k (result_of o) us) e
        ∙ ap (λ s. Call k s us) (sym (sort_eq_is s f.result (and_parts (sort_eq s f.result) _ h).0))
        ∙ ap (Call k s) x.said

module _ (fs : List Function) (sorts : List ℕ → Sort) (a : AreLegible fs) where
  parts : (vs ws : List Variable) → list_all (is_legible sorts) (vs ++ ws) ≡ true → (list_all (is_legible sorts) vs ≡ true) × (list_all (is_legible sorts) ws ≡ true)
  parts vs ws h = and_parts _ _ (sym (list_all-append (is_legible sorts) vs ws) ∙ h)

  sorted_three : (t u w : Tm) → (well_sorted fs t && (well_sorted fs u && well_sorted fs w)) ≡ true → (well_sorted fs t ≡ true) × (well_sorted fs u ≡ true) × (well_sorted fs w ≡ true)
  sorted_three t u w h =
      let first = and_parts (well_sorted fs t) _ h in
      let others = and_parts (well_sorted fs u) (well_sorted fs w) first.1 in
      (first.0, others.0, others.1)

  legible_three : (t u w : Tm) → list_all (is_legible sorts) (variables t ++ (variables u ++ variables w)) ≡ true
      → (list_all (is_legible sorts) (variables t) ≡ true) × (list_all (is_legible sorts) (variables u) ≡ true) × (list_all (is_legible sorts) (variables w) ≡ true)
  legible_three t u w h =
      let first = parts (variables t) (variables u ++ variables w) h in
      let others = parts (variables u) (variables w) first.1 in
      (first.0, others.0, others.1)

  range_three : (t u w : Tm) → (in_range t && (in_range u && in_range w)) ≡ true → (in_range t ≡ true) × (in_range u ≡ true) × (in_range w ≡ true)
  range_three t u w h =
      let first = and_parts (in_range t) _ h in
      let others = and_parts (in_range u) (in_range w) first.1 in
      (first.0, others.0, others.1)

  printed_ite : (c t u : Tm) → printed fs (Ite c t u) ≡ call_text (operator_word operator.Ite) (printed fs c ∷ printed fs t ∷ printed fs u ∷ [])
  unfolding printed
  printed_ite c t u = refl

  printed_put : (x i w : Tm) → printed fs (Put x i w) ≡ call_text (operator_word operator.Put) (printed fs x ∷ printed fs i ∷ printed fs w ∷ [])
  unfolding printed
  printed_put x i w = refl

  printed_put_dword : (x j w : Tm) → printed fs (PutDword x j w) ≡ call_text (operator_word operator.PutDword) (printed fs x ∷ printed fs j ∷ printed fs w ∷ [])
  unfolding printed
  printed_put_dword x j w = refl

  mutual
    unfolding printed_all Written

    reads : (t : Tm) → well_sorted fs t ≡ true → list_all (is_legible sorts) (variables t) ≡ true → in_range t ≡ true → Reads fs sorts t
    reads (Name text s) h v n = name_reads fs sorts text s (and_parts (is_legible sorts (variable text s)) _ v).0
    reads (Int z) h v n = int_reads fs sorts z (leb-true (nat_abs z) (2 ^ 127) n)
    reads (W64 m) h v n = word_reads fs sorts m (ltb-true m (2 ^ 64) n)
    reads (W128 m) h v n = wide_reads fs sorts m (ltb-true m (2 ^ 128) n)
    reads (TruthTerm b) h v n = truth_reads fs sorts b
    reads (Un op t) h v n = un_reads fs sorts op t (reads t (and_parts _ (well_sorted fs t) h).1 v n)
    reads (Bin op t u) h v n =
        let s = and_parts (bin_takes op (tm_sort t) (tm_sort u)) _ h in
        let hs = and_parts (well_sorted fs t) (well_sorted fs u) s.1 in
        let vs = parts (variables t) (variables u) v in
        let ns = and_parts (in_range t) (in_range u) n in
        bin_reads fs sorts op t u s.0 (reads t hs.0 vs.0 ns.0) (reads u hs.1 vs.1 ns.1)
    reads (Ite c t u) h v n =
        let hs = sorted_three c t u (and_parts (ite_takes (tm_sort c) (tm_sort t) (tm_sort u)) _ h).1 in
        let vs = legible_three c t u v in
        let ns = range_three c t u n in
        three_reads fs sorts operator.Ite Ite c t u Operations.ite_called (λ x y z. refl) (printed_ite c t u) (reads c hs.0 vs.0 ns.0) (reads t hs.1 vs.1 ns.1) (reads u hs.2 vs.2 ns.2)
    reads (Put x i w) h v n =
        let hs = sorted_three x i w (and_parts (put_takes (tm_sort x) (tm_sort i) (tm_sort w)) _ h).1 in
        let vs = legible_three x i w v in
        let ns = range_three x i w n in
        three_reads fs sorts operator.Put Put x i w Operations.put_called (λ x y z. refl) (printed_put x i w) (reads x hs.0 vs.0 ns.0) (reads i hs.1 vs.1 ns.1) (reads w hs.2 vs.2 ns.2)
    reads (PutDword x j w) h v n =
        let hs = sorted_three x j w (and_parts (put_takes (tm_sort x) (tm_sort j) (tm_sort w)) _ h).1 in
        let vs = legible_three x j w v in
        let ns = range_three x j w n in
        three_reads fs sorts operator.PutDword PutDword x j w Operations.put_dword_called (λ x y z. refl) (printed_put_dword x j w) (reads x hs.0 vs.0 ns.0) (reads j hs.1 vs.1 ns.1) (reads w hs.2 vs.2 ns.2)
    reads (Clmul t u m) h v n =
        let hs = and_parts (well_sorted fs t) (well_sorted fs u) (and_parts (both_are sort.W128 (tm_sort t) (tm_sort u)) _ h).1 in
        let vs = parts (variables t) (variables u) v in
        let small = and_parts (nat_lt m 256) _ n in
        let ns = and_parts (in_range t) (in_range u) small.1 in
        clmul_reads fs sorts t u m (ltb-true m 256 small.0) (reads t hs.0 vs.0 ns.0) (reads u hs.1 vs.1 ns.1)
    reads (Shift op m t) h v n =
        let small = and_parts (nat_lt m 256) _ n in
        shift_reads fs sorts op m t (ltb-true m 256 small.0) (reads t (and_parts _ (well_sorted fs t) h).1 v small.1)
    reads (Call k s args) h v n =
        let takes = and_parts (fun_takes (slice_get fs k) s (tms_sorts args)) _ h in
        function_reads fs sorts a k s args (slice_get fs k) refl takes.0 (reads_all args takes.1 v n)
    reads (All text low high body) h v n =
        let hs = sorted_three low high body (and_parts (all_takes (tm_sort low) (tm_sort high) (tm_sort body)) _ h).1 in
        let name = and_parts (is_legible sorts (variable text sort.Int)) _ v in
        let vs = legible_three low high body name.1 in
        let ns = range_three low high body n in
        all_reads fs sorts text low high body (and_parts (is_term_name text) _ name.0).0 (reads low hs.0 vs.0 ns.0) (reads high hs.1 vs.1 ns.1) (reads body hs.2 vs.2 ns.2)

    reads_all : (ts : Tms) → all_well_sorted fs ts ≡ true → list_all (is_legible sorts) (all_variables ts) ≡ true → all_in_range ts ≡ true → ReadsAll fs sorts ts
    reads_all no_tms h v n = record { forms = no_forms; good = tt; said = refl; written = tt }
    reads_all (more_tms t ts) h v n =
        let hs = and_parts (well_sorted fs t) (all_well_sorted fs ts) h in
        let vs = parts (variables t) (all_variables ts) v in
        let ns = and_parts (in_range t) (all_in_range ts) n in
        let x = reads t hs.0 vs.0 ns.0 in
        let xs = reads_all ts hs.1 vs.1 ns.1 in
        record {
          forms = more_forms x.form xs.forms;
          good = (x.good, xs.good);
          said = ap (λ t. more_tms t (backs fs sorts xs.forms)) x.said ∙ ap (more_tms t) xs.said;
          written = (x.text, xs.written);
        }

-- The text of a legible term is that of no other.
pub told_apart : (fs : List Function) (sorts : List ℕ → Sort) (t u : Tm) → AreLegible fs → IsLegible fs sorts t → IsLegible fs sorts u → printed fs t ≡ printed fs u → t ≡ u
told_apart fs sorts t u a g h e =
    let x = reads fs sorts a t g.sorted g.names g.numbers in
    let y = reads fs sorts a u h.sorted h.names h.numbers in
    sym x.said ∙ ap (back fs sorts) (told_by_text x.form y.form x.good y.good (sym (x.text []) ∙ ap (λ l. l ++ []) e ∙ y.text [])) ∙ y.said
