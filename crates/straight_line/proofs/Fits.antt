-- What holds of every procedure of the form.
use Rattle.std.proofs.Common.{◌≡◌, ℕ, ◌≤◌, ◌^◌, ◌-◌, not, ℤ, pos, negsuc, ◌≤ℤ◌, ◌<ℤ◌, ◌-ℤ◌, Bool, true, false, cond, List, [], ◌∷◌, ◌++◌, length, is_some, Option, Some, None, refl, sym, ◌∙◌, ap, subst, arith}
use Rattle.std.specs.Prelude.{◌&&◌, int_lt, int_le, nat_le, ◌==◌, codes, Result, Ok, Err, IfOk}
use Rattle.std.specs.List.{find, AllByRecursion}
use Rattle.std.proofs.lemmas.Bool.{and_parts, false≢true, leb-true}
use Rattle.std.proofs.lemmas.Option.{cond_some}
use Rattle.std.proofs.lemmas.Float.{T_from_true}
use Rattle.std.proofs.lemmas.Int.{ints}
use Rattle.std.specs.Int.Signed.{lt_z_yes, lt_z_no, le_z_yes}
use Rattle.std.specs.Str.{bytes_eq}
use Rattle.x64_syntax.specs.declared.places.Reg.{Reg as GeneralReg}
use Rattle.x64_syntax.specs.declared.places.Reg.TheVariants.{Rsp}
use Rattle.x64_syntax.specs.declared.operands.Opr.{Opr}
use Rattle.x64_syntax.specs.declared.operands.Opr.TheVariants.{R, Imm}
use Rattle.x64_syntax.specs.declared.instructions.AluOp.TheVariants as alu
use Rattle.x64_syntax.specs.declared.instructions.Ins.{Ins}
use Rattle.x64_syntax.specs.declared.instructions.Ins.TheVariants.{Mov, Alu}
use Rattle.x64_syntax.specs.Places.{reg_of, reg_eq}
use Rattle.x64_syntax.specs.Words.{is_export_text, is_reserved_name}
use Rattle.x64_syntax.proofs.PlaceLemmas.{reg_eq_is}
use Rattle.vale_syntax.specs.declared.expr.Name.{Name as AName}
use Rattle.vale_syntax.specs.declared.declaration.ReadPlace.{ReadPlace}
use Rattle.vale_syntax.specs.Options.{◌>>=◌}
use Rattle.vale_syntax.specs.Trees.{Ex, Int, Name}
use Rattle.vale_syntax.specs.Programs.{Ar, Value, Cl, St, CallStatement, Reads, Modifies, Ensures, De, Procedure, Export}
use Rattle.vale_syntax.proofs.Sound.{bind_some}
use Rattle.vale_syntax.specs.declared.fault.MatchFault.{MatchFault}
use Rattle.straight_line.specs.declared.form.Promise.{Promise}
use Rattle.straight_line.specs.declared.form.StraightLine.{StraightLine}
use Rattle.vale_syntax.specs.inner.Matches.{Gives}
use Rattle.straight_line.specs.Form.{but_rsp, register, among, listed_register, unless, readable_register, reads_from, are_modified, promise, named_register, signed_word, constant, source, instruction, operands, statement, statement_list, statements_from, statement_limit, body, clauses_of, are_names, procedure_, pair_of, has}
use Rattle.straight_line.specs.inner.Fits.{IsSource, IsInstruction, IsStraight}

all_last : {A : Type 0} (P : A → Type 0) (xs : List A) (x : A) → AllByRecursion P xs → P x → AllByRecursion P (xs ++ x ∷ [])
all_last P [] x h k = (k, tt)
all_last P (y ∷ xs) x h k = (h.0, all_last P xs x h.1 k)

module _ {A : Type 0} (p : A → Bool) where
  passes : (xs : List A) (y : A) → find p xs ≡ Some y → p y ≡ true
  passes [] y h = absurd cc
  passes (x ∷ xs) y h = by_test (passes xs y) (p x) refl h where
    by_test : (find p xs ≡ Some y → p y ≡ true) → (b : Bool) → p x ≡ b → cond b (Some x) (find p xs) ≡ Some y → p y ≡ true
    by_test go true e k = cc
    by_test go false e k = go k

found : (rs : List GeneralReg) (r q : GeneralReg) → among rs r ≡ Some q → has rs q ≡ true
found rs r q h =
    let same = reg_eq_is q r (passes (λ x. reg_eq x r) rs q h) in
    ap (λ o. is_some o) (ap (among rs) same ∙ h)

listed_has : (rs : List GeneralReg) (n : AName) (q : GeneralReg) → listed_register rs n ≡ Some q → has rs q ≡ true
listed_has rs n q h = let (r, e, k) = bind_some (register n) (among rs) q h in found rs r q k

named_has : (rs : List GeneralReg) (x : Ex) (q : GeneralReg) → named_register rs x ≡ Some q → has rs q ≡ true
named_has rs (Name n) q h = listed_has rs n q h
named_has rs _ q h = absurd cc

-- the constants of a range, as words with a sign
Within : ℕ → ℤ → Type 0
Within n z = (negsuc (n - 1) ≤ℤ z) × (z <ℤ pos n)

wide : (z i : ℤ) → constant (negsuc (2 ^ 63 - 1)) (pos (2 ^ 64)) z ≡ Some i → Within (2 ^ 63) i
unfolding Within
wide z i h =
    let tested = cond_some (int_le (negsuc (2 ^ 63 - 1)) z && int_lt z (pos (2 ^ 64))) (signed_word z) i h in
    let parts = and_parts _ _ tested.0 in
    by_sign (le_z_yes (T_from_true _ parts.0)) (lt_z_yes (T_from_true _ parts.1)) tested.1 (int_lt z (pos (2 ^ 63))) refl where
      by_sign : negsuc (2 ^ 63 - 1) ≤ℤ z → z <ℤ pos (2 ^ 64) → signed_word z ≡ i → (b : Bool) → int_lt z (pos (2 ^ 63)) ≡ b → Within (2 ^ 63) i
      by_sign lowest end is true e =
          let same : z ≡ i = ap (λ b. cond b z (z -ℤ pos (2 ^ 64))) (sym e) ∙ is in
          let below : z <ℤ pos (2 ^ 63) = lt_z_yes (T_from_true _ e) in
          subst (Within (2 ^ 63)) same (lowest, below)
      by_sign lowest end is false e =
          let same : z -ℤ pos (2 ^ 64) ≡ i = ap (λ b. cond b z (z -ℤ pos (2 ^ 64))) (sym e) ∙ is in
          let above : pos (2 ^ 63) ≤ℤ z = lt_z_no (T_from_true _ (ap (λ b. not b) e)) in
          subst (Within (2 ^ 63)) same (omega (arith, ints), omega (arith, ints))

short : (z i : ℤ) → constant (negsuc (2 ^ 31 - 1)) (pos (2 ^ 31)) z ≡ Some i → Within (2 ^ 31) i
unfolding Within
short z i h =
    let tested = cond_some (int_le (negsuc (2 ^ 31 - 1)) z && int_lt z (pos (2 ^ 31))) (signed_word z) i h in
    let parts = and_parts _ _ tested.0 in
    by_sign (le_z_yes (T_from_true _ parts.0)) (lt_z_yes (T_from_true _ parts.1)) tested.1 (int_lt z (pos (2 ^ 63))) refl where
      by_sign : negsuc (2 ^ 31 - 1) ≤ℤ z → z <ℤ pos (2 ^ 31) → signed_word z ≡ i → (b : Bool) → int_lt z (pos (2 ^ 63)) ≡ b → Within (2 ^ 31) i
      by_sign lowest end is true e =
          let same : z ≡ i = ap (λ b. cond b z (z -ℤ pos (2 ^ 64))) (sym e) ∙ is in
          subst (Within (2 ^ 31)) same (lowest, end)
      by_sign lowest end is false e =
          let above : pos (2 ^ 63) ≤ℤ z = lt_z_no (T_from_true _ (ap (λ b. not b) e)) in
          absurd (omega (arith, ints))

source_fits : (rs : List GeneralReg) (n : ℕ) (lowest end : ℤ) (x : Ex) (o : Opr) → ((z i : ℤ) → constant lowest end z ≡ Some i → Within n i) → source rs lowest end x ≡ Some o → IsSource rs n o
unfolding Within
source_fits rs n lowest end (Int s z) o fits h =
    let (i, e, k) = bind_some (constant lowest end z) (λ i. Some (Imm i)) o h in
    let same : Imm i ≡ o = cc in
    subst (IsSource rs n) same (fits z i e)
source_fits rs n lowest end x o fits h = of_register (named_register rs x) refl h where
  of_register : (found : Option GeneralReg) → named_register rs x ≡ found → (found >>= λ r. Some (R r)) ≡ Some o → IsSource rs n o
  of_register None e k = absurd cc
  of_register (Some r) e k = let same : R r ≡ o = cc in subst (IsSource rs n) same (named_has rs x r e)

instruction_fits : (rs : List GeneralReg) (name : List ℕ) (d : GeneralReg) (x : Ex) (i : Ins) → has rs d ≡ true → instruction rs name d x ≡ Some i → IsInstruction rs i
instruction_fits rs name d x i h k = by_move (bytes_eq name (codes "Mov64")) k where
  by_sum : (b : Bool) → cond b (source rs (negsuc (2 ^ 31 - 1)) (pos (2 ^ 31)) x >>= λ s. Some (Alu alu.Add d s)) None ≡ Some i → IsInstruction rs i
  by_sum true k =
      let (s, e, q) = bind_some (source rs (negsuc (2 ^ 31 - 1)) (pos (2 ^ 31)) x) (λ s. Some (Alu alu.Add d s)) i k in
      let same : Alu alu.Add d s ≡ i = cc in
      subst (IsInstruction rs) same (h, source_fits rs (2 ^ 31) (negsuc (2 ^ 31 - 1)) (pos (2 ^ 31)) x s short e)
  by_sum false k = absurd cc

  by_move : (b : Bool) → cond b (source rs (negsuc (2 ^ 63 - 1)) (pos (2 ^ 64)) x >>= λ s. Some (Mov d s)) (cond (bytes_eq name (codes "Add64")) (source rs (negsuc (2 ^ 31 - 1)) (pos (2 ^ 31)) x >>= λ s. Some (Alu alu.Add d s)) None) ≡ Some i → IsInstruction rs i
  by_move true k =
      let (s, e, q) = bind_some (source rs (negsuc (2 ^ 63 - 1)) (pos (2 ^ 64)) x) (λ s. Some (Mov d s)) i k in
      let same : Mov d s ≡ i = cc in
      subst (IsInstruction rs) same (h, source_fits rs (2 ^ 63) (negsuc (2 ^ 63 - 1)) (pos (2 ^ 64)) x s wide e)
  by_move false k = by_sum (bytes_eq name (codes "Add64")) k

operands_fit : (rs : List GeneralReg) (name : List ℕ) (xs : List Ar) (i : Ins) → operands rs name xs ≡ Some i → IsInstruction rs i
operands_fit rs name (Value a ∷ Value b ∷ []) i h =
    let (d, e, k) = bind_some (named_register rs a) (λ d. instruction rs name d b) i h in
    instruction_fits rs name d b i (named_has rs a d e) k
operands_fit rs name _ i h = absurd cc

statement_fits : (rs : List GeneralReg) (x : St) (i : Ins) → statement rs x ≡ Some i → IsInstruction rs i
statement_fits rs (CallStatement f xs) i h = operands_fit rs f.text xs i h
statement_fits rs _ i h = absurd cc

statements_fit : (rs : List GeneralReg) (before : List Ins) (xs : List St) (is : List Ins) → AllByRecursion (IsInstruction rs) before → statements_from rs before xs ≡ Some is → AllByRecursion (IsInstruction rs) is
unfolding statements_from
statements_fit rs before [] is ok h = let same : before ≡ is = cc in subst (AllByRecursion (IsInstruction rs)) same ok
statements_fit rs before (x ∷ xs) is ok h =
    let (i, e, k) = bind_some (statement rs x) (λ i. statements_from rs (before ++ i ∷ []) xs) is h in
    statements_fit rs (before ++ i ∷ []) xs is (all_last (IsInstruction rs) before i ok (statement_fits rs x i e)) k

-- rsp is none of the registers
not_rsp : (o : Option GeneralReg) (r : GeneralReg) → but_rsp o ≡ Some r → reg_eq r Rsp ≡ false
not_rsp (Some Rsp) r h = absurd cc
not_rsp o r h = by_test (reg_eq r Rsp) refl where
  by_test : (b : Bool) → reg_eq r Rsp ≡ b → b ≡ false
  by_test true e = let same : r ≡ Rsp = reg_eq_is r Rsp e in absurd cc
  by_test false e = refl

no_rsp_yet : (rs : List GeneralReg) (r : GeneralReg) → has rs Rsp ≡ false → reg_eq r Rsp ≡ false → has (rs ++ r ∷ []) Rsp ≡ false
no_rsp_yet [] r h k = rw k refl
no_rsp_yet (q ∷ rs) r h k = by_test (λ m. no_rsp_yet rs r m k) (reg_eq q Rsp) refl h where
  by_test : (has rs Rsp ≡ false → has (rs ++ r ∷ []) Rsp ≡ false) → (b : Bool) → reg_eq q Rsp ≡ b → is_some (cond b (Some q) (among rs Rsp)) ≡ false → has (q ∷ (rs ++ r ∷ [])) Rsp ≡ false
  by_test go true e m = absurd (false≢true (sym m))
  by_test go false e m = ap (λ b. is_some (cond b (Some q) (among (rs ++ r ∷ []) Rsp))) e ∙ go m

readable_fits : (before : List GeneralReg) (p : ReadPlace) (r : GeneralReg) → readable_register before p ≡ Some r → reg_eq r Rsp ≡ false
readable_fits before p r h = by_secret p.is_secret h where
  of_register : (q : GeneralReg) (o : Option GeneralReg) → unless o q ≡ Some r → q ≡ r
  of_register q (Some x) e = absurd cc
  of_register q None e = cc

  by_secret : (b : Bool) → cond b None (register p.name >>= λ q. unless (among before q) q) ≡ Some r → reg_eq r Rsp ≡ false
  by_secret true k = absurd cc
  by_secret false k =
      let (q, e, m) = bind_some (register p.name) (λ q. unless (among before q) q) r k in
      not_rsp (reg_of p.name.text) r (e ∙ ap (λ x. Some x) (of_register q (among before q) m))

reads_fit : (before : List GeneralReg) (ps : List ReadPlace) (rs : List GeneralReg) → has before Rsp ≡ false → reads_from before ps ≡ Some rs → has rs Rsp ≡ false
unfolding reads_from
reads_fit before [] rs ok h = let same : before ≡ rs = cc in subst (λ l. has l Rsp ≡ false) same ok
reads_fit before (p ∷ ps) rs ok h =
    let (r, e, k) = bind_some (readable_register before p) (λ r. reads_from (before ++ r ∷ []) ps) rs h in
    reads_fit (before ++ r ∷ []) ps rs (no_rsp_yet before r ok (readable_fits before p r e)) k

clauses_fit : (cs : List Cl) (c : List GeneralReg × Promise) → clauses_of cs ≡ Some c → has c.0 Rsp ≡ false
clauses_fit (Reads s ps ∷ Modifies t ns ∷ Ensures u x ∷ []) c h =
    let (rs, e, k) = bind_some (reads_from [] ps) (λ rs. cond (are_modified rs ns) (promise rs x >>= λ e. Some (rs, e)) None) c h in
    by_names rs (are_modified rs ns) (reads_fit [] ps rs refl e) k where
      by_names : (rs : List GeneralReg) (b : Bool) → has rs Rsp ≡ false → cond b (promise rs x >>= λ e. Some (rs, e)) None ≡ Some c → has c.0 Rsp ≡ false
      by_names rs false ok k = absurd cc
      by_names rs true ok k =
          let (e, f, m) = bind_some (promise rs x) (λ e. Some (rs, e)) c k in
          let same : (rs, e) ≡ c = cc in
          subst (λ p. has p.0 Rsp ≡ false) same ok
clauses_fit _ c h = absurd cc

procedure_fits : (name : List ℕ) (cs : List Cl) (xs : List St) (export : List ℕ) (p : StraightLine) → is_export_text export ≡ true → procedure_ name cs xs export ≡ Some p → IsStraight p
procedure_fits name cs xs export p ok h =
    let (c, e, k) = bind_some (clauses_of cs) (λ c. body c.0 xs >>= λ is. Some (record { name = name; registers = c.0; instructions = is; promise = c.1; export = export })) p h in
    let (is, f, m) = bind_some (body c.0 xs) (λ is. Some (record { name = name; registers = c.0; instructions = is; promise = c.1; export = export })) p k in
    let (js, g, n) = bind_some (statements_from c.0 [] xs) (λ is. cond (nat_le 1 (length is) && nat_le (length is) statement_limit) (Some is) None) is f in
    let tested = cond_some (nat_le 1 (length js) && nat_le (length js) statement_limit) js is n in
    let counted = and_parts _ _ tested.0 in
    let made : StraightLine = record { name = name; registers = c.0; instructions = is; promise = c.1; export = export } in
    let same : made ≡ p = cc in
    subst IsStraight same record {
      export = ok;
      few = subst (λ l. length l ≤ statement_limit) tested.1 (leb-true _ _ counted.1);
      rsp = clauses_fit cs c e;
      each = statements_fit c.0 [] xs is tt (g ∙ ap (λ l. Some l) tested.1);
    }

pair_fits : (d e : De) (p : StraightLine) → pair_of d e ≡ Some p → IsStraight p
pair_fits (Procedure s n ps cs xs) (Export t x q args) p h = by_test (((length ps == 0) && (length args == 0)) && are_names n.text x.text q.text) refl h where
  by_test : (b : Bool) → (((length ps == 0) && (length args == 0)) && are_names n.text x.text q.text ≡ b) → cond b (procedure_ n.text cs (statement_list xs) x.text) None ≡ Some p → IsStraight p
  by_test true e k = procedure_fits n.text cs (statement_list xs) x.text p (and_parts (not (is_reserved_name n.text)) (is_export_text x.text) (and_parts (not (is_reserved_name n.text) && is_export_text x.text) (bytes_eq q.text n.text) (and_parts ((length ps == 0) && (length args == 0)) (are_names n.text x.text q.text) e).1).0).1 k
  by_test false e k = absurd cc
pair_fits _ _ p h = absurd cc

pub pair_given : (d e : De) (r : Result StraightLine MatchFault) → Gives (λ x. x) r (pair_of d e) → IfOk r IsStraight
pair_given d e (Ok p) h = pair_fits d e p h
pair_given d e (Err f) h = tt
