-- What `{:08x}` prints of a number is its eight digits.
use Rattle.std.proofs.Common.{◌≡◌, ℕ, zero, suc, ◌+◌, ◌-◌, ◌/◌, ◌%◌, ◌^◌, ◌≤◌, ◌<◌, false, List, [], ◌∷◌, ◌++◌, length, replicate, Some, codes, slice_index, refl, sym, ap, ap₂, ◌∙◌, ⊎_elim, arith}
use Rattle.std.specs.Fmt.{digits, digits_onto, digit_glyph, padded_integral, format_spec, char_count, digits_output, styled_digits_output}
use Rattle.std.specs.List.{range_with_len}
use Rattle.std.proofs.Math.Nat.{pow-suc, eq-zero-or-pos}
use Rattle.std.proofs.lemmas.Bool.{ne_eqb}
use Rattle.std.proofs.lemmas.List.{append-nil}
use Rattle.std.proofs.lemmas.Grind.{common_steps}
use Rattle.hex.specs.Hex.{encode_lower, encode_with}
use Rattle.report.specs.Digits.{hex, hex_digit}

-- the lowest k digits of n, before what comes after them
low_digits : ℕ → ℕ → List ℕ → List ℕ
low_digits zero n after = after
low_digits (suc k) n after = low_digits k (n / 16) (digit_glyph false (n % 16) ∷ after)

zeros_more : (k : ℕ) (after : List ℕ) → replicate k 48 ++ (48 ∷ after) ≡ 48 ∷ replicate k 48 ++ after
zeros_more zero after = refl
zeros_more (suc k) after = ap (λ ds. 48 ∷ ds) (zeros_more k after)

low_zeros : (k : ℕ) (after : List ℕ) → low_digits k 0 after ≡ replicate k 48 ++ after
unfolding low_digits
low_zeros zero after = refl
low_zeros (suc k) after = low_zeros k (48 ∷ after) ∙ zeros_more k after

-- n before what comes after it, in m + 1 digits at most
spelled : ℕ → ℕ → List ℕ → List ℕ
spelled m n after = digits_onto (suc m) 16 false n after

abbrev ends : ℕ → List ℕ → List ℕ
ends n after = digit_glyph false (n % 16) ∷ after

one_digit : (m n : ℕ) (after : List ℕ) → n / 16 ≡ 0 → spelled m n after ≡ ends n after
unfolding spelled
one_digit m n after none = rw none refl

one_more_digit : (m n : ℕ) (after : List ℕ) → 0 < n / 16 → spelled (suc m) n after ≡ spelled m (n / 16) (ends n after)
unfolding spelled
one_more_digit m n after some = rw (ne_eqb (n / 16) 0 (λ e. omega arith)) refl

last_digit : (m k n z : ℕ) (after : List ℕ) → n / 16 ≡ 0 → z ≡ suc k + length after - length (spelled m n after) → replicate z 48 ++ spelled m n after ≡ low_digits (suc k) n after
unfolding low_digits
last_digit m k n z after none long =
    let one = one_digit m n after none in
    let zeros : z ≡ k = long ∙ ap (λ ds. suc k + length after - length ds) one ∙ omega arith in
    ap₂ (λ y ds. replicate y 48 ++ ds) zeros one ∙ sym (low_zeros k (ends n after)) ∙ ap (λ high. low_digits k high (ends n after)) (sym none)

-- a number of at most k + 1 digits, with zeros before it that make them so many
filled : (m k n z : ℕ) (after : List ℕ) → k ≤ m → n < 16 ^ suc k → z ≡ suc k + length after - length (spelled m n after) → replicate z 48 ++ spelled m n after ≡ low_digits (suc k) n after
unfolding low_digits
filled m zero n z after few small long = last_digit m zero n z after (omega arith) long
filled zero (suc k) n z after few small long = absurd (omega arith)
filled (suc m) (suc k) n z after few small long =
    ⊎_elim (λ none. last_digit (suc m) (suc k) n z after none long)
    (λ some.
    let more = one_more_digit m n after some in
    let zeros = long ∙ ap (λ ds. suc (suc k) + length after - length ds) more ∙ omega arith in
    ap (λ ds. replicate z 48 ++ ds) more ∙ filled m k (n / 16) z (ends n after) (omega arith) (omega (arith, pow-suc 16 (suc k))) zeros)
    (eq-zero-or-pos (n / 16))

glyph : (d : ℕ) → d < 16 → digit_glyph false d ≡ slice_index (range_with_len 48 10 ++ range_with_len 97 6) d
glyph d small = grind (arith, common_steps)

shifted_glyph : (n m d : ℕ) → d ≡ n / m → digit_glyph false (d % 16) ≡ hex_digit (n / m)
shifted_glyph n m d e = glyph (d % 16) (omega arith) ∙ ap hex_digit e

low_hex : (n : ℕ) → low_digits 8 n [] ≡ hex n
unfolding hex low_digits
low_hex n =
    let d1 = glyph (n % 16) (omega arith) in
    let d2 = shifted_glyph n 16 (n / 16) refl in
    let d3 = shifted_glyph n 0x100 (n / 16 / 16) (omega arith) in
    let d4 = shifted_glyph n 0x1000 (n / 16 / 16 / 16) (omega arith) in
    let d5 = shifted_glyph n 0x1_0000 (n / 16 / 16 / 16 / 16) (omega arith) in
    let d6 = shifted_glyph n 0x10_0000 (n / 16 / 16 / 16 / 16 / 16) (omega arith) in
    let d7 = shifted_glyph n 0x100_0000 (n / 16 / 16 / 16 / 16 / 16 / 16) (omega arith) in
    let d8 = shifted_glyph n 0x1000_0000 (n / 16 / 16 / 16 / 16 / 16 / 16 / 16) (omega arith) in
    cc

zeros_before : (ds : List ℕ) → padded_integral (format_spec 32 0 4 8 (2 ^ 64 - 1)) false [] ds ≡ replicate (8 - length ds) 48 ++ ds
unfolding padded_integral char_count
zeros_before ds = ap₂ (λ k ds. replicate k 48 ++ ds) (omega arith) (append-nil ds)

as_spelled : (n : ℕ) → digits 16 false n ≡ spelled 63 n []
unfolding digits spelled
as_spelled n = refl

pub hex_word : (n : ℕ) → n < 2 ^ 32 → padded_integral (format_spec 32 0 4 8 (2 ^ 64 - 1)) false [] (digits 16 false n) ≡ hex n
hex_word n small =
    zeros_before (digits 16 false n)
    ∙ ap (λ ds. replicate (8 - length ds) 48 ++ ds) (as_spelled n)
    ∙ filled 63 7 n (8 - length (spelled 63 n [])) [] (omega arith) small refl
    ∙ low_hex n

pub hex_output : (d : _) (s : _) (n : ℕ) → n < 2 ^ 32 → digits_output d ≡ Some (digits 16 false n) → s ≡ format_spec 32 0 4 8 (2 ^ 64 - 1)
    → styled_digits_output d s ≡ Some (hex n)
hex_output d s n small digits spec = rw (digits, spec, hex_word n small) refl

-- the digits of the four bytes, the highest byte first
pub byte_pairs : (n : ℕ) → encode_lower (n / 0x100_0000 % 256 ∷ n / 0x1_0000 % 256 ∷ n / 256 % 256 ∷ n % 256 ∷ []) ≡ hex n
unfolding encode_with hex
byte_pairs n =
    let digit : ℕ → ℕ = slice_index (codes "0123456789abcdef") in
    let d1 : digit (n % 256 % 16) ≡ digit (n % 16) = ap digit (omega arith) in
    let d2 : digit (n % 256 / 16) ≡ digit (n / 16 % 16) = ap digit (omega arith) in
    let d3 : digit (n / 256 % 256 % 16) ≡ digit (n / 0x100 % 16) = ap digit (omega arith) in
    let d4 : digit (n / 256 % 256 / 16) ≡ digit (n / 0x1000 % 16) = ap digit (omega arith) in
    let d5 : digit (n / 0x1_0000 % 256 % 16) ≡ digit (n / 0x1_0000 % 16) = ap digit (omega arith) in
    let d6 : digit (n / 0x1_0000 % 256 / 16) ≡ digit (n / 0x10_0000 % 16) = ap digit (omega arith) in
    let d7 : digit (n / 0x100_0000 % 256 % 16) ≡ digit (n / 0x100_0000 % 16) = ap digit (omega arith) in
    let d8 : digit (n / 0x100_0000 % 256 / 16) ≡ digit (n / 0x1000_0000 % 16) = ap digit (omega arith) in
    cc
