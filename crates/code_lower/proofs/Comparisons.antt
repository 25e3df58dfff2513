-- What a comparison leaves: flags by which the jumps of its test go.
use Rattle.std.proofs.Common.{◌≡◌, ℕ, suc, ◌+◌, ◌-◌, ◌%◌, ◌<◌, ◌≤◌, Bool, true, false, not, ◌||◌, List, [], ◌∷◌, length, refl, sym, ap, ◌∙◌, arith, pos, mod-eq_of_lt, cond, ◌⊎◌, inl, inr, leb}
use Rattle.std.specs.Prelude.{◌&&◌, ◌==◌, ◌≢◌, nat_lt, nat_le, Some, None, slice_set, slice_index_or, if◌then◌else◌}
use Rattle.std.specs.List.{find}
use Rattle.std.proofs.Math.Nat.{add-mod_right}
use Rattle.std.proofs.lemmas.Nat.{mod_below}
use Rattle.std.proofs.lemmas.Bool.Decides.{leb_tells, eqb_tells}
use Rattle.x64_syntax.specs.declared.places.Reg.{Reg as GeneralReg}
use Rattle.x64_syntax.specs.declared.places.MachinePlace.TheVariants.{Reg}
use Rattle.x64_syntax.specs.declared.places.FlagName.TheVariants.{Cf, Zf}
use Rattle.x64_syntax.specs.declared.operands.Opr.{Opr}
use Rattle.x64_syntax.specs.declared.operands.Opr.TheVariants.{R, Imm, M}
use Rattle.x64_syntax.specs.declared.conditions.Cmp.{Cmp}
use Rattle.x64_syntax.specs.declared.conditions.Cmp.TheVariants as cmp
use Rattle.x64_syntax.specs.declared.conditions.Cond.{Cond}
use Rattle.x64_syntax.specs.declared.conditions.Cond.TheVariants as cond
use Rattle.x64_syntax.specs.Instructions.{cond_flags}
use Rattle.x64_syntax.specs.declared.type_words.Sort.TheVariants as sort
use Rattle.term_core.specs.Value.{T, Whole, word, word_of, whole, cast}
use Rattle.x64_meaning.specs.declared.machine.Flag.{Flag as FlagValue}
use Rattle.x64_meaning.specs.declared.machine.Flag.TheVariants.{Undefined}
use Rattle.x64_meaning.specs.State.{State, read, flag, flag_from}
use Rattle.x64_meaning.specs.Exp.{no_words}
use Rattle.x64_meaning.specs.inner.Steps.{flag_if, is_one, flags_meet}
use Rattle.x64_meaning.specs.Run.{Done, does, after, is_undefined, cond_holds}
use Rattle.x64_meaning.proofs.Numbers.{word_of-lt}
use Rattle.x64_meaning.proofs.Plain.{cond_by_flags}
use Rattle.code_lower.specs.Lowered.{compare, when, unless}
use Rattle.code_lower.specs.Guarded.{compares, operand, stays}
use Rattle.code_lower.proofs.Flags.{Four}

-- comparisons by two of them
at_most : (a b : ℕ) → nat_le a b ≡ (nat_lt a b || (a == b))
at_most a b = by (leb_tells a b) (leb_tells (suc a) b) (eqb_tells a b)
  where
    by : ((leb a b ≡ true) × (a ≤ b)) ⊎ ((leb a b ≡ false) × (b < a)) → ((leb (suc a) b ≡ true) × (suc a ≤ b)) ⊎ ((leb (suc a) b ≡ false) × (b < suc a)) → (((a == b) ≡ true) × (a ≡ b)) ⊎ (((a == b) ≡ false) × (a ≢ b)) → nat_le a b ≡ (nat_lt a b || (a == b))
    by (inl p) (inl q) r = p.0 ∙ sym (ap (λ x. x || (a == b)) q.0)
    by (inl p) (inr q) (inl r) = p.0 ∙ sym (ap (λ x. x || (a == b)) q.0 ∙ r.0)
    by (inl p) (inr q) (inr r) = absurd (r.1 (let le = p.1 in let lt = q.1 in omega (arith, le, lt)))
    by (inr p) (inl q) r = absurd (let lt = p.1 in let le = q.1 in omega (arith, le, lt))
    by (inr p) (inr q) (inl r) = absurd (let lt = p.1 in let e = r.1 in omega (arith, e, lt))
    by (inr p) (inr q) (inr r) = p.0 ∙ sym (ap (λ x. x || (a == b)) q.0 ∙ r.0)

at_least : (a b : ℕ) → nat_le b a ≡ not (nat_lt a b)
at_least a b = by (leb_tells (suc a) b) (leb_tells b a)
  where
    by : ((leb (suc a) b ≡ true) × (suc a ≤ b)) ⊎ ((leb (suc a) b ≡ false) × (b < suc a)) → ((leb b a ≡ true) × (b ≤ a)) ⊎ ((leb b a ≡ false) × (a < b)) → nat_le b a ≡ not (nat_lt a b)
    by (inl p) (inl q) = absurd (let lt = p.1 in let le = q.1 in omega (arith, le, lt))
    by (inl p) (inr q) = q.0 ∙ sym (ap not p.0)
    by (inr p) (inl q) = q.0 ∙ sym (ap not p.0)
    by (inr p) (inr q) = absurd (let lt = p.1 in let le = q.1 in omega (arith, le, lt))

neither : (x y : Bool) → (not x && not y) ≡ not (x || y)
neither true y = refl
neither false y = refl

not_not : (x : Bool) → not (not x) ≡ x
not_not true = refl
not_not false = refl

-- a difference of words is 0 where they are equal
no_difference : (t a b : ℕ) → a < t → b < t → (((a + t - b) % t) == 0) ≡ (a == b)
no_difference t a b la lb = by (eqb_tells a b) (leb_tells a b)
  where
    not_zero : (n : ℕ) → (n ≡ 0 → ⊥) → (a == b) ≡ false → (n == 0) ≡ (a == b)
    not_zero n differ e = by_test (eqb_tells n 0) where
      by_test : (((n == 0) ≡ true) × (n ≡ 0)) ⊎ (((n == 0) ≡ false) × (n ≢ 0)) → (n == 0) ≡ (a == b)
      by_test (inl p) = absurd (differ p.1)
      by_test (inr p) = p.0 ∙ sym e

    by : (((a == b) ≡ true) × (a ≡ b)) ⊎ (((a == b) ≡ false) × (a ≢ b)) → ((leb a b ≡ true) × (a ≤ b)) ⊎ ((leb a b ≡ false) × (b < a)) → (((a + t - b) % t) == 0) ≡ (a == b)
    by (inl p) q =
        let e : a + t - b ≡ 0 + t = let same = p.1 in omega (arith, same) in
        let none : (a + t - b) % t ≡ 0 = ap (λ n. n % t) e ∙ add-mod_right 0 t ∙ mod-eq_of_lt (omega (arith, la)) in
        ap (λ n. n == 0) none ∙ sym p.0
    by (inr p) (inl q) =
        let le = q.1 in
        let small : (a + t - b) % t ≡ a + t - b = mod-eq_of_lt (by_order p.1 le) in
        not_zero _ (λ z. absurd (let r = sym small ∙ z in omega (arith, la, lb, r))) p.0
      where
        by_order : a ≢ b → a ≤ b → a + t - b < t
        by_order differ le = by_tell (leb_tells (suc a) b) where
          by_tell : ((leb (suc a) b ≡ true) × (suc a ≤ b)) ⊎ ((leb (suc a) b ≡ false) × (b < suc a)) → a + t - b < t
          by_tell (inl x) = let lt = x.1 in omega (arith, lt, lb)
          by_tell (inr x) = absurd (differ (let lt = x.1 in omega (arith, lt, le)))
    by (inr p) (inr q) =
        let lt = q.1 in
        let e : a + t - b ≡ (a - b) + t = omega (arith, lt) in
        let left : (a + t - b) % t ≡ a - b = ap (λ n. n % t) e ∙ add-mod_right (a - b) t ∙ mod-eq_of_lt (omega (arith, la)) in
        not_zero _ (λ z. absurd (let r = sym left ∙ z in omega (arith, lt, r))) p.0

-- the flags of a comparison of two numbers
pub record Tell (s : State) (a b : ℕ) : Type 0 where
  pub carry : flag s Cf ≡ flag_if (nat_lt a b)
  pub zero_ : flag s Zf ≡ flag_if (a == b)

is_one_if : (b : Bool) → is_one (flag_if b) ≡ b
is_one_if true = refl
is_one_if false = refl

defined_if : (b : Bool) → is_undefined (flag_if b) ≡ false
defined_if true = refl
defined_if false = refl

module _ (s : State) (a b : ℕ) (t : Tell s a b) where
  cf : is_one (flag s Cf) ≡ nat_lt a b
  cf = ap is_one t.carry ∙ is_one_if (nat_lt a b)

  zf : is_one (flag s Zf) ≡ (a == b)
  zf = ap is_one t.zero_ ∙ is_one_if (a == b)

  no_cf : is_undefined (flag s Cf) ≡ false
  no_cf = ap is_undefined t.carry ∙ defined_if (nat_lt a b)

  no_zf : is_undefined (flag s Zf) ≡ false
  no_zf = ap is_undefined t.zero_ ∙ defined_if (a == b)

  pub all_defined : (c : Cond) → find (λ f. is_undefined (flag s f)) (cond_flags c) ≡ None
  all_defined cond.E = ap (λ x. cond x (Some Zf) None) no_zf
  all_defined cond.Ne = ap (λ x. cond x (Some Zf) None) no_zf
  all_defined cond.B = ap (λ x. cond x (Some Cf) None) no_cf
  all_defined cond.Ae = ap (λ x. cond x (Some Cf) None) no_cf
  all_defined cond.Be = ap (λ x. cond x (Some Cf) (cond (is_undefined (flag s Zf)) (Some Zf) None)) no_cf ∙ ap (λ x. cond x (Some Zf) None) no_zf
  all_defined cond.A = ap (λ x. cond x (Some Cf) (cond (is_undefined (flag s Zf)) (Some Zf) None)) no_cf ∙ ap (λ x. cond x (Some Zf) None) no_zf

  either : (is_one (flag s Cf) || is_one (flag s Zf)) ≡ nat_le a b
  either = ap (λ x. x || is_one (flag s Zf)) cf ∙ ap (λ x. nat_lt a b || x) zf ∙ sym (at_most a b)

  none : (not (is_one (flag s Cf)) && not (is_one (flag s Zf))) ≡ not (nat_le a b)
  none = neither (is_one (flag s Cf)) (is_one (flag s Zf)) ∙ ap not either

  met : (c : Cmp) → flags_meet (when c) s ≡ compares c a b
  met cmp.Eq = zf
  met cmp.Ne = ap not zf
  met cmp.Lt = cf
  met cmp.Le = either
  met cmp.Gt = none ∙ ap not (at_least b a) ∙ not_not (nat_lt b a)
  met cmp.Ge = ap not cf ∙ sym (at_least a b)

  not_met : (c : Cmp) → flags_meet (unless c) s ≡ not (compares c a b)
  not_met cmp.Eq = ap not zf
  not_met cmp.Ne = zf ∙ sym (not_not (a == b))
  not_met cmp.Lt = ap not cf
  not_met cmp.Le = none
  not_met cmp.Gt = either ∙ at_least b a
  not_met cmp.Ge = cf ∙ sym (not_not (nat_lt a b)) ∙ ap not (sym (at_least a b))

  pub taken : (c : Cmp) → cond_holds (when c) s ≡ compares c a b
  taken c = cond_by_flags s (when c) ∙ met c

  pub not_taken : (c : Cmp) → cond_holds (unless c) s ≡ not (compares c a b)
  not_taken c = cond_by_flags s (unless c) ∙ not_met c

-- the first two of four flags that are set in order
first_flags : (fs : List FlagValue) (c z n o : FlagValue) → length fs ≡ 4 → (slice_index_or (slice_set (slice_set (slice_set (slice_set fs 0 c) 1 z) 2 n) 3 o) 0 Undefined ≡ c) × (slice_index_or (slice_set (slice_set (slice_set (slice_set fs 0 c) 1 z) 2 n) 3 o) 1 Undefined ≡ z)
first_flags (_ ∷ _ ∷ _ ∷ _ ∷ []) c z n o h = (refl, refl)
first_flags [] c z n o h = absurd (omega (arith, h))
first_flags (_ ∷ []) c z n o h = absurd (omega (arith, h))
first_flags (_ ∷ _ ∷ []) c z n o h = absurd (omega (arith, h))
first_flags (_ ∷ _ ∷ _ ∷ []) c z n o h = absurd (omega (arith, h))
first_flags (_ ∷ _ ∷ _ ∷ _ ∷ _ ∷ fs) c z n o h = absurd (omega (arith, h))

flag_where : (b : Bool) → flag_from (whole (if b then Whole (pos 1) else cast sort.Int (Whole (pos 0)))) ≡ flag_if b
flag_where true = refl
flag_where false = refl

-- the comparison is done without an access, and its flags tell of the two words
pub record Compared (s t : State) (l : GeneralReg) (o : Opr) : Type 0 where
  pub done : does (compare l o) s ≡ Done t []
  pub tell : Tell t (word (read s (Reg l))) (operand s o)

pub compared : (stack : ℕ) (s : State) (l : GeneralReg) (o : Opr) → Four s → stays stack s (compare l o) None ≡ true → Compared s (after s no_words (compare l o)) l o
compared stack s l (R r) four h =
    let f = first_flags s.flags _ _ _ _ four in
    let a = word (read s (Reg l)) in
    let b = word (read s (Reg r)) in
    record {
      done = refl;
      tell = record {
        carry = f.0 ∙ flag_where (nat_lt a b);
        zero_ = f.1 ∙ flag_where (((a + T - b) % T) == 0) ∙ ap flag_if (no_difference T a b (mod_below _ T (omega arith)) (mod_below _ T (omega arith)));
      };
    }
compared stack s l (Imm z) four h =
    let f = first_flags s.flags _ _ _ _ four in
    let a = word (read s (Reg l)) in
    let lt = word_of-lt z in
    let e : word_of z % T % T ≡ word_of z = ap (λ n. n % T) (mod-eq_of_lt lt) ∙ mod-eq_of_lt lt in
    record {
      done = refl;
      tell = record {
        carry = f.0 ∙ flag_where (nat_lt a (word_of z % T % T)) ∙ ap (λ n. flag_if (nat_lt a n)) e;
        zero_ =
            f.1 ∙ flag_where (((a + T - word_of z % T % T) % T) == 0)
            ∙ ap (λ n. flag_if (((a + T - n) % T) == 0)) e ∙ ap flag_if (no_difference T a (word_of z) (mod_below _ T (omega arith)) lt);
      };
    }
compared stack s l (M m) four h = absurd cc
