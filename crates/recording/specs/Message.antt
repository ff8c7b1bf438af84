-- The bytes of a message, as words of hex digits.
use Rattle.std.specs.Prelude.{ℕ, ◌+◌, ◌*◌, cond, ◌&&◌, List, [], ◌∷◌, ◌++◌, Ok, Err, Result, nat_lt}
use Rattle.text.specs.declared.problem.Problem.{Problem}
use Rattle.text.specs.declared.problem.Problem.TheVariants.{MessageForm}
use Rattle.text.specs.Argument.{and_then}
use Rattle.text.specs.Number.{digit}

-- the byte that two digits make
abbrev pub byte_of : ℕ → ℕ → Result ℕ Problem
byte_of high low = cond (nat_lt high 16 && nat_lt low 16) (Ok (high * 16 + low)) (Err MessageForm)

-- two hex digits
unfoldable pub hex_byte : ℕ → ℕ → Result ℕ Problem
hex_byte high low = byte_of (digit high) (digit low)

-- the bytes so far, and then those of a word
abbrev pub hex_bytes : List ℕ → List ℕ → Result (List ℕ) Problem
hex_bytes so_far [] = Ok so_far
hex_bytes so_far (high ∷ []) = Err MessageForm
hex_bytes so_far (high ∷ (low ∷ word)) = and_then (hex_byte high low) λ byte. hex_bytes (so_far ++ byte ∷ []) word

-- the bytes so far, and then those of the words
abbrev pub message_bytes : List ℕ → List (List ℕ) → Result (List ℕ) Problem
message_bytes so_far [] = Ok so_far
message_bytes so_far (word ∷ ws) = and_then (hex_bytes so_far word) λ more. message_bytes more ws
