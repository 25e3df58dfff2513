-- Operations on words, as formulas over whole numbers.
use Rattle.std.specs.Prelude.{ℕ, ◌+◌, ◌-◌, ◌*◌, ◌/◌, ◌%◌, ◌^◌, Bool, true, false, nat_lt, nat_le, List, [], ◌∷◌, map}

abbrev pub T : ℕ
T = 2 ^ 64

abbrev pub bit : Bool → ℕ
bit false = 0
bit true = 1

abbrev pub sum : ℕ → ℕ → Bool → ℕ
sum a b c = (a + b + bit c) % T

abbrev pub carries : ℕ → ℕ → Bool → Bool
carries a b c = nat_le T (a + b + bit c)

-- 2 T more than a - b - c, which isn't negative
abbrev pub difference : ℕ → ℕ → Bool → ℕ
difference a b c = (a + 2 * T - (b + bit c)) % T

abbrev pub borrows : ℕ → ℕ → Bool → Bool
borrows a b c = nat_lt a (b + bit c)

abbrev pub upper : ℕ → ℕ → ℕ
upper a b = (a * b) / T

abbrev pub lower : ℕ → ℕ → ℕ
lower a b = (a * b) % T

-- the bits that leave at the one end come in at the other
abbrev pub rol : ℕ → ℕ → ℕ
rol a n = (a * 2 ^ n) % T + a / 2 ^ (64 - n)

abbrev pub ror : ℕ → ℕ → ℕ
ror a n = a / 2 ^ n + (a * 2 ^ (64 - n)) % T

abbrev pub byte : ℕ → ℕ → ℕ
byte a k = (a / 256 ^ k) % 256

abbrev pub bytes_of : ℕ → List ℕ
bytes_of a = map (byte a) (0 ∷ 1 ∷ 2 ∷ 3 ∷ 4 ∷ 5 ∷ 6 ∷ 7 ∷ [])
