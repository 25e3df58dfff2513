-- The bytes of parts of numbers, and what is stored.
use Rattle.std.proofs.Common.{◌≡◌, ℕ, ◌/◌, ◌%◌, ◌<◌, ◌^◌, List, [], ◌++◌, take, Option, None, Some, refl, sym, ap, ◌∙◌, subst, arith}
use Rattle.std.specs.Prelude.{Result}
use Rattle.std.specs.Int.{to_le_bytes, w32, w64, w128}
use Rattle.x64_syntax.specs.declared.places.Reg.{Reg as GeneralReg}
use Rattle.x64_syntax.specs.declared.places.Xmm.{Xmm as XmmReg}
use Rattle.x64_syntax.specs.declared.operands.Mem.{Mem}
use Rattle.x64_syntax.specs.declared.instructions.Ins.{Ins}
use Rattle.x64_syntax.specs.declared.instructions.Ins.TheVariants.{Store4, XStore}
use Rattle.x64_blocks.specs.Memory.{Range, store}
use Rattle.term_core.specs.Value.{T, T128}
use Rattle.x64_meaning.specs.declared.machine.Obs.{Obs}
use Rattle.x64_meaning.specs.declared.machine.Fault.{Fault}
use Rattle.x64_meaning.specs.State.{State, reg}
use Rattle.x64_meaning.specs.Exp.{no_words}
use Rattle.x64_meaning.specs.Run.{after, with_stored, stored_bytes}
use Rattle.x64_meaning.specs.inner.Steps.{xmm, Puts, Acts}

-- the bytes of the lower half of a word
low_bytes : (n : ℕ) → to_le_bytes w32 (n % 2 ^ 32) ≡ take 4 (to_le_bytes w64 (n % T) ++ [])
low_bytes n =
    let e0 : n % 2 ^ 32 % 256 ≡ n % T % 256 = omega arith in
    let e1 : n % 2 ^ 32 / 256 ^ 1 % 256 ≡ n % T / 256 ^ 1 % 256 = omega arith in
    let e2 : n % 2 ^ 32 / 256 ^ 2 % 256 ≡ n % T / 256 ^ 2 % 256 = omega arith in
    let e3 : n % 2 ^ 32 / 256 ^ 3 % 256 ≡ n % T / 256 ^ 3 % 256 = omega arith in
    rw (e0, e1, e2, e3) refl

-- the bytes of both words of a number
wide_bytes : (n : ℕ) → to_le_bytes w128 n ≡ to_le_bytes w64 (n % T) ++ to_le_bytes w64 (n / T)
wide_bytes n =
    let e0 : n % 256 ≡ n % T % 256 = omega arith in
    let e1 : n / 256 ^ 1 % 256 ≡ n % T / 256 ^ 1 % 256 = omega arith in
    let e2 : n / 256 ^ 2 % 256 ≡ n % T / 256 ^ 2 % 256 = omega arith in
    let e3 : n / 256 ^ 3 % 256 ≡ n % T / 256 ^ 3 % 256 = omega arith in
    let e4 : n / 256 ^ 4 % 256 ≡ n % T / 256 ^ 4 % 256 = omega arith in
    let e5 : n / 256 ^ 5 % 256 ≡ n % T / 256 ^ 5 % 256 = omega arith in
    let e6 : n / 256 ^ 6 % 256 ≡ n % T / 256 ^ 6 % 256 = omega arith in
    let e7 : n / 256 ^ 7 % 256 ≡ n % T / 256 ^ 7 % 256 = omega arith in
    let e8 : n / 256 ^ 8 % 256 ≡ n / T % 256 = omega arith in
    let e9 : n / 256 ^ 9 % 256 ≡ n / T / 256 ^ 1 % 256 = omega arith in
    let e10 : n / 256 ^ 10 % 256 ≡ n / T / 256 ^ 2 % 256 = omega arith in
    let e11 : n / 256 ^ 11 % 256 ≡ n / T / 256 ^ 3 % 256 = omega arith in
    let e12 : n / 256 ^ 12 % 256 ≡ n / T / 256 ^ 4 % 256 = omega arith in
    let e13 : n / 256 ^ 13 % 256 ≡ n / T / 256 ^ 5 % 256 = omega arith in
    let e14 : n / 256 ^ 14 % 256 ≡ n / T / 256 ^ 6 % 256 = omega arith in
    let e15 : n / 256 ^ 15 % 256 ≡ n / T / 256 ^ 7 % 256 = omega arith in
    rw (e0, e1, e2, e3, e4, e5, e6, e7, e8, e9, e10, e11, e12, e13, e14, e15) refl

put_acts : (s new : State) (i : Ins) (a size : ℕ) (o : Option (List Range)) (r : Result (Option Obs) Fault) → after s no_words i ≡ s → Puts o a size s new r → Acts (with_stored s i a size o) s new r
put_acts s new i a size None r stays h = h
put_acts s new i a size (Some bs) r stays h = (h.0, h.1 ∙ ap {A = State} (λ t. record t { blocks = bs }) (sym stays))

pub low_acts : (s new : State) (m : Mem) (x : GeneralReg) (a : ℕ) (r : Result (Option Obs) Fault) → Puts (store s.blocks a (to_le_bytes w32 (reg s x % 2 ^ 32))) a 4 s new r → Acts (with_stored s (Store4 m x) a 4 (store s.blocks a (stored_bytes s (Store4 m x)))) s new r
low_acts s new m x a r h =
    subst (λ bytes. Acts (with_stored s (Store4 m x) a 4 (store s.blocks a bytes)) s new r) (low_bytes (reg s x))
    (put_acts s new (Store4 m x) a 4 (store s.blocks a (to_le_bytes w32 (reg s x % 2 ^ 32))) r refl h)

pub wide_acts : (s new : State) (m : Mem) (x : XmmReg) (a : ℕ) (r : Result (Option Obs) Fault) → xmm s x < T128 → Puts (store s.blocks a (to_le_bytes w128 (xmm s x))) a 16 s new r → Acts (with_stored s (XStore m x) a 16 (store s.blocks a (stored_bytes s (XStore m x)))) s new r
wide_acts s new m x a r lt h =
    let n = xmm s x in
    let low : ((n % T128) % T) % T ≡ n % T = omega arith in
    let high : ((n % T128) / T) % T ≡ n / T = omega (arith, lt) in
    let bytes : stored_bytes s (XStore m x) ≡ to_le_bytes w64 (n % T) ++ to_le_bytes w64 (n / T) = rw (low, high) refl in
    subst (λ bytes. Acts (with_stored s (XStore m x) a 16 (store s.blocks a bytes)) s new r) (wide_bytes n ∙ sym bytes)
    (put_acts s new (XStore m x) a 16 (store s.blocks a (to_le_bytes w128 n)) r refl h)
