-- Numbers as words write them.
use Rattle.std.specs.Prelude.{ℕ, ◌+◌, ◌-◌, ◌*◌, cond, ◌&&◌, List, [], ◌∷◌, ℤ, pos, neg_ℤ, Some, None, Option, ◌==◌, nat_le, nat_lt}
use Rattle.std.specs.Option.{option_map}

-- what a byte is worth as a digit of base 16 or less; 16 where it is no digit
abbrev pub digit : ℕ → ℕ
digit b =
    cond (nat_le 48 b && nat_le b 57) (b - 48) (cond (nat_le 65 b && nat_le b 70) (b - 55) (cond (nat_le 97 b && nat_le b 102) (b - 87) 16))

-- the same, where it is a digit
abbrev pub digit_of : ℕ → Option ℕ
digit_of b = cond (nat_lt (digit b) 16) (Some (digit b)) None

-- the number that digits write with n in front of them
abbrev pub value : ℕ → ℕ → List ℕ → Option ℕ
value base n [] = Some n
value base n (b ∷ bs) = cond (nat_lt (digit b) base) (value base (n * base + digit b) bs) None

abbrev pub at_most : ℕ → Option ℕ → Option ℕ
at_most most None = None
at_most most (Some n) = cond (nat_le n most) (Some n) None

-- n and one digit more, as a number from 0 to most
abbrev pub with_digit : ℕ → ℕ → ℕ → ℕ → Option ℕ
with_digit base most n b = cond (nat_lt (digit b) base) (at_most most (Some (n * base + digit b))) None

-- a number from 0 to most, in at least one digit
abbrev pub number : ℕ → ℕ → List ℕ → Option ℕ
number base most [] = None
number base most (b ∷ bs) = at_most most (value base 0 (b ∷ bs))

-- the numbers of 32 bits
abbrev pub unsigned : List ℕ → Option ℕ
unsigned = number 10 4294967295

-- a number from -2147483648 to 2147483647
abbrev pub signed : List ℕ → Option ℤ
signed [] = None
signed (b ∷ bs) =
    cond (b == 45) (option_map (λ n. neg_ℤ (pos n)) (number 10 2147483648 bs)) (option_map pos (number 10 2147483647 (b ∷ bs)))
