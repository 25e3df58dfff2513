-- What the loop over lines keeps, and where it ends.
use Rattle.std.proofs.Common.{◌≡◌, ℕ, ◌+◌, ◌≤◌, ◌<◌, Bool, true, false, List, [], ◌∷◌, ◌++◌, refl, sym, ap, ◌∙◌, subst, arith, length, length-append}
use Rattle.std.specs.Prelude.{◌&&◌, ◌==◌, not, codes, Option, Some, None, option_map, option_and_then, if◌then◌else◌}
use Rattle.std.specs.List.{list_all}
use Rattle.std.specs.Str.{bytes_eq}
use Rattle.std.proofs.lemmas.Bool.{and_from, false≢true, eqb-true}
use Rattle.std.proofs.lemmas.List.{append-nil, append_assoc, append_cancel_left}
use Rattle.x64_syntax.specs.declared.items.Item.{Item}
use Rattle.x64_syntax.specs.Programs.{is_ordered}
use Rattle.gas_text.specs.Gas.{unlines, items_text, gas_text}
use Rattle.gas_text.specs.inner.Apart.{sides_of}
use Rattle.gas_text.specs.inner.Reading.{Sofar, next, run}
use Rattle.gas_text.specs.Text.{newlines, Begins, BadLine, bad, early}
use Rattle.gas_text.proofs.Cuts.{lacks, cut_at}
use Rattle.gas_text.proofs.Counts.{bytes_same}
use Rattle.gas_text.proofs.Order.{ordered_parts}
use Rattle.gas_text.proofs.Lines.{all_lines, text_lines, all_lines_clean, all_clean_append, unlines_append, front_lines, newlines_none, newlines_lines}
use Rattle.gas_text.proofs.Machine.{start, run_append, valid_start, pending, held, Ran, runs_sound, begins, runs_complete}

-- where a text is cut

pub record Split (b : ℕ) (xs front rest : List ℕ) : Type 0 where
  pub is : xs ≡ front ++ b ∷ rest
  pub clean : lacks b front ≡ true

abbrev first : Option (List ℕ × List ℕ) → List ℕ
first None = []
first (Some p) = p.0

abbrev second : Option (List ℕ × List ℕ) → List ℕ
second None = []
second (Some p) = p.1

pub cut_splits : (b : ℕ) (xs front rest : List ℕ) → sides_of b xs ≡ Some (front, rest) → Split b xs front rest
cut_splits b [] front rest e = absurd cc
cut_splits b (x ∷ xs) front rest e = by_test (x == b) refl (sides_of b xs) refl (λ f r k. cut_splits b xs f r k) e where
  by_test : (t : Bool) → (x == b) ≡ t → (o : Option (List ℕ × List ℕ)) → sides_of b xs ≡ o → ((f r : List ℕ) → sides_of b xs ≡ Some (f, r) → Split b xs f r) → if◌then◌else◌ {A = Option (List ℕ × List ℕ)} t (Some ([], xs)) (option_map (λ p. (x ∷ p.0, p.1)) o) ≡ Some (front, rest) → Split b (x ∷ xs) front rest
  by_test true t o h go e =
      let nothing : [] ≡ front = ap first e in
      let same : xs ≡ rest = ap second e in
      subst (λ f. Split b (x ∷ xs) f rest) nothing (record { is = ap (λ y. y ∷ xs) (eqb-true x b t) ∙ ap (λ r. b ∷ r) same; clean = refl })
  by_test false t None h go e = absurd cc
  by_test false t (Some p) h go e =
      let s = go p.0 p.1 h in
      let longer : x ∷ p.0 ≡ front = ap first e in
      let same : p.1 ≡ rest = ap second e in
      subst (λ f. Split b (x ∷ xs) f rest) longer (record { is = ap (λ l. x ∷ l) s.is ∙ ap (λ r. x ∷ (p.0 ++ b ∷ r)) same; clean = and_from _ _ (ap not t) s.clean })

pub cut_lacks : (b : ℕ) (xs : List ℕ) → sides_of b xs ≡ None → lacks b xs ≡ true
cut_lacks b [] e = refl
cut_lacks b (x ∷ xs) e = by_test (x == b) (sides_of b xs) refl (λ k. cut_lacks b xs k) e where
  by_test : (t : Bool) (o : Option (List ℕ × List ℕ)) → sides_of b xs ≡ o → (sides_of b xs ≡ None → lacks b xs ≡ true) → if◌then◌else◌ {A = Option (List ℕ × List ℕ)} t (Some ([], xs)) (option_map (λ p. (x ∷ p.0, p.1)) o) ≡ None → (not t && lacks b xs) ≡ true
  by_test true o h go e = absurd cc
  by_test false None h go e = go h
  by_test false (Some p) h go e = absurd cc

-- Some lines were read, and what they are of the text.
pub record Going (text rest : List ℕ) (so : Sofar) (number : ℕ) : Type 0 where
  pub done : List (List ℕ)
  pub clean : list_all (lacks 10) done ≡ true
  pub is : text ≡ codes ".text\n" ++ (unlines done ++ rest)
  pub ran : run start done ≡ Some so
  pub line : number ≡ length done + 2

pub going_start : (text rest : List ℕ) → sides_of 10 text ≡ Some (codes ".text", rest) → Going text rest start 2
going_start text rest e = record { done = []; clean = refl; is = (cut_splits 10 text (codes ".text") rest e).is; ran = refl; line = refl }

module _ (text rest : List ℕ) (so : Sofar) (number : ℕ) (g : Going text rest so number) where
  ran : Ran g.done so
  unfolding items_text
  ran = runs_sound [] g.done start so (record { valid = valid_start; held_ = held_start }) g.ran where
    held_start : held start ≡ []
    held_start = refl

  -- the text so far
  front : List ℕ
  front = codes ".text\n" ++ unlines g.done

  front_begins : Begins front
  unfolding front
  front_begins = subst (λ t. Begins (codes ".text\n" ++ t)) ran.held_ (begins so ran.valid)

  front_lines_are : newlines front + 1 ≡ number
  unfolding front
  front_lines_are = let a = newlines_lines g.done g.clean in let b = g.line in omega (arith, a, b)

  module _ (line behind : List ℕ) (c : sides_of 10 rest ≡ Some (line, behind)) where
    split : Split 10 rest line behind
    split = cut_splits 10 rest line behind c

    pub going_next : (after : Sofar) → next so line ≡ Some after → Going text behind after (number + 1)
    going_next after n = record {
      done = g.done ++ line ∷ [];
      clean = all_clean_append g.done (line ∷ []) g.clean (and_from _ _ split.clean refl);
      is =
          g.is
          ∙ ap (λ t. codes ".text\n" ++ t)
          (ap (λ r. unlines g.done ++ r) (split.is ∙ sym (append_assoc line (codes "\n") behind)) ∙ sym (append_assoc (unlines g.done) (line ++ codes "\n") behind) ∙ ap (λ t. t ++ behind) (sym (unlines_append g.done (line ∷ []))));
      ran = run_append start g.done (line ∷ []) ∙ ap (λ o. option_and_then (λ s. run s (line ∷ [])) o) g.ran ∙ ap (λ o. option_and_then (λ s. run s []) o) n;
      line = let l = length-append g.done (line ∷ []) in let k = g.line in omega (arith, l, k);
    }

    pub going_bad : next so line ≡ None → BadLine text number
    unfolding front
    going_bad n =
        bad front line behind
        (g.is ∙ ap (λ t. codes ".text\n" ++ (unlines g.done ++ t)) split.is)
        (newlines_none line split.clean)
        front_begins
        no_more
        (sym front_lines_are)
      where
        no_more : Begins ((codes ".text\n" ++ unlines g.done) ++ (line ++ codes "\n")) → ⊥
        no_more b =
            let lines_are : unlines (all_lines b.items) ≡ unlines (g.done ++ line ∷ []) ++ b.rest =
            sym (text_lines b.items) ∙ append_cancel_left (codes ".text\n") _ _ b.is ∙ ap (λ t. t ++ b.rest) (sym (unlines_append g.done (line ∷ []))) in
            let clean = all_clean_append g.done (line ∷ []) g.clean (and_from _ _ split.clean refl) in
            let f = front_lines (g.done ++ line ∷ []) (all_lines b.items) b.rest clean (all_lines_clean b.items (ordered_parts b.items b.ordered).items) lines_are in
            let stops : run start (g.done ++ line ∷ []) ≡ None = run_append start g.done (line ∷ []) ∙ ap (λ o. option_and_then (λ s. run s (line ∷ [])) o) g.ran ∙ ap (λ o. option_and_then (λ s. run s []) o) n in
            let never : run start (all_lines b.items) ≡ None = ap (run start) f.is ∙ run_append start (g.done ++ line ∷ []) f.more ∙ ap (λ o. option_and_then (λ s. run s f.more) o) stops in
            no_option (sym never ∙ runs_complete b.items b.ordered)
          where
            no_option : {A : Type 0} {a : A} → None ≡ Some a → ⊥
            no_option e = cc

  module _ (c : sides_of 10 rest ≡ None) where
    lacks_rest : lacks 10 rest ≡ true
    lacks_rest = cut_lacks 10 rest c

    -- the text of items is these lines and no more
    all_read : (items : List Item) → is_ordered items ≡ true → gas_text items ≡ text → (rest ≡ []) × (so ≡ record { items = items; awaited = None })
    all_read items h e =
        let lines_are : unlines (all_lines items) ≡ unlines g.done ++ rest = sym (text_lines items) ∙ append_cancel_left (codes ".text\n") _ _ (e ∙ g.is) in
        let f = front_lines g.done (all_lines items) rest g.clean (all_lines_clean items (ordered_parts items h).items) lines_are in
        by_more f.more f.is f.behind
      where
        same_of : Some so ≡ Some (record { items = items; awaited = None }) → so ≡ record { items = items; awaited = None }
        same_of e = cc

        by_more : (more : List (List ℕ)) → all_lines items ≡ g.done ++ more → rest ≡ unlines more → (rest ≡ []) × (so ≡ record { items = items; awaited = None })
        by_more [] is behind = (behind, same_of (sym g.ran ∙ ap (run start) (sym (append-nil g.done) ∙ sym is) ∙ runs_complete items h))
        by_more (l ∷ ls) is behind = absurd (false≢true (sym (has_newline l ls) ∙ ap (lacks 10) (sym behind) ∙ lacks_rest)) where
          has_newline : (l : List ℕ) (ls : List (List ℕ)) → lacks 10 (unlines (l ∷ ls)) ≡ false
          has_newline [] ls = refl
          has_newline (b ∷ l) ls = by_test (b == 10) (has_newline l ls) where
            by_test : (t : Bool) → lacks 10 (l ++ 10 ∷ unlines ls) ≡ false → (not t && lacks 10 (l ++ 10 ∷ unlines ls)) ≡ false
            by_test true k = refl
            by_test false k = k

    pub going_done : rest ≡ [] → so.awaited ≡ None → (is_ordered so.items ≡ true) × (gas_text so.items ≡ text)
    going_done empty none = (
      ran.valid.ordered,
      ap (λ t. codes ".text\n" ++ t) (sym (append-nil (items_text so.items)) ∙ ap (λ a. items_text so.items ++ pending a) (sym none) ∙ ran.held_ ∙ sym (append-nil (unlines g.done)) ∙ ap (λ r. unlines g.done ++ r) (sym empty))
          ∙ sym g.is,
    )

    pub going_early : ((rest ≡ []) × (so.awaited ≡ None) → ⊥) → BadLine text number
    unfolding front
    going_early more =
        early front rest g.is (newlines_none rest lacks_rest) front_begins
        (λ items h e. let r = all_read items h e in more (r.0, ap (λ s. s.awaited) r.1))
        (sym front_lines_are)

nothing_begins : Begins []
unfolding items_text
nothing_begins = record { items = []; rest = codes ".text\n"; ordered = refl; is = refl }

-- a text without the first line
pub no_start : (text : List ℕ) → ((rest : List ℕ) → sides_of 10 text ≡ Some (codes ".text", rest) → ⊥) → BadLine text 1
no_start text other = by_cut (sides_of 10 text) refl where
  by_cut : (o : Option (List ℕ × List ℕ)) → sides_of 10 text ≡ o → BadLine text 1
  by_cut None c = early [] text refl (newlines_none text (cut_lacks 10 text c)) nothing_begins (λ items h e. other (items_text items) (ap (sides_of 10) (sym e) ∙ cut_at 10 (codes ".text") (items_text items) refl)) refl
  by_cut (Some p) c =
      let s = cut_splits 10 text p.0 p.1 c in
      bad [] p.0 p.1 s.is (newlines_none p.0 s.clean) nothing_begins
      (λ b. let same : Some (codes ".text", items_text b.items) ≡ Some (p.0, b.rest) =
      sym (cut_at 10 (codes ".text") (items_text b.items) refl) ∙ ap (sides_of 10) (b.is ∙ append_assoc p.0 (codes "\n") b.rest) ∙ cut_at 10 p.0 b.rest s.clean in
      let line : codes ".text" ≡ p.0 = ap (λ o. first o) same in
      other p.1 (c ∙ ap (λ l. Some (l, p.1)) (sym line)))
      refl

pub no_start_none : (text : List ℕ) → sides_of 10 text ≡ None → BadLine text 1
no_start_none text c = no_start text (λ rest e. no_option (sym c ∙ e)) where
  no_option : {A : Type 0} {a : A} → None ≡ Some a → ⊥
  no_option e = cc

pub no_start_other : (text line rest : List ℕ) → sides_of 10 text ≡ Some (line, rest) → bytes_eq line (codes ".text") ≡ false → BadLine text 1
no_start_other text line rest c h = no_start text (λ r e. false≢true (sym h ∙ ap (λ l. bytes_eq l (codes ".text")) (ap (λ o. first o) (sym c ∙ e)) ∙ bytes_same (codes ".text")))

pub shorter : (text line behind : List ℕ) → sides_of 10 text ≡ Some (line, behind) → length behind < length text
shorter text line behind c =
    let s = cut_splits 10 text line behind c in
    let l = ap (λ t. length t) s.is in
    let k = length-append line (codes "\n" ++ behind) in
    omega (arith, l, k)

lines_long : (ls : List (List ℕ)) → length ls ≤ length (unlines ls)
lines_long [] = omega arith
lines_long (l ∷ ls) = let more = lines_long ls in let k = length-append l (codes "\n" ++ unlines ls) in omega (arith, more, k)

-- the number of a line is at most the length of the text
pub number_fits : (text rest : List ℕ) (so : Sofar) (number : ℕ) → Going text rest so number → number ≤ length text
number_fits text rest so number g =
    let n = g.line in
    let l = lines_long g.done in
    let t = ap (λ t. length t) g.is in
    let k = length-append (unlines g.done) rest in
    omega (arith, n, l, t, k)
