-- The words of bytes, by place, and words back from the signed numbers that they stand for.
use Rattle.std.proofs.Common.{◌≡◌, ℕ, ◌+◌, ◌*◌, ◌/◌, ◌^◌, ◌<◌, ◌≤◌, List, length, get_or, ℤ, pos, negsuc, refl, ap, ◌∙◌, ⊎_elim, zero-add, arith, w32, to_z, of_z}
use Rattle.std.proofs.lemmas.List.FromFn.{length-map-range_with_len, get_or-map-range_with_len, fill_by_all}
use Rattle.std.proofs.lemmas.List.{get_or_past}
use Rattle.std.proofs.lemmas.Int.{ints, of_z-to_z}
use Rattle.std.proofs.lemmas.Bool.{cases_lt}
use Rattle.std.proofs.lemmas.Bool.Decides.{nat_tests}
use Rattle.model.specs.Word.{word, words, int, int_word}

module _ (bytes : List ℕ) where
  pub length_words : length (words bytes) ≡ length bytes / 4
  unfolding words
  length_words = length-map-range_with_len (word bytes) 0 (length bytes / 4)

  pub get_or_words : (i : ℕ) → i < length bytes / 4 → get_or (words bytes) i 0 ≡ word bytes i
  unfolding words
  get_or_words i h = get_or-map-range_with_len (word bytes) 0 (length bytes / 4) i i 0 h (zero-add i)

  pub words_all : (ws : List ℕ) → length ws ≡ length bytes / 4 → ((i : ℕ) → i < length bytes / 4 → get_or ws i 0 ≡ word bytes i) → ws ≡ words bytes
  unfolding words
  words_all ws n h = fill_by_all (word bytes) ws (length bytes / 4) 0 n h

  word_below : ((i : ℕ) → get_or bytes i 0 < 256) → (i : ℕ) → word bytes i < 2 ^ 32
  word_below h i = omega (arith, h (4 * i), h (4 * i + 1), h (4 * i + 2), h (4 * i + 3))

-- also past the end, where a word is 0
pub words_below : (bytes : List ℕ) → ((i : ℕ) → get_or bytes i 0 < 256) → (i : ℕ) → get_or (words bytes) i 0 < 2 ^ 32
words_below bytes h i =
    ⊎_elim (λ (low : i < length bytes / 4). rw (get_or_words bytes i low) (word_below bytes h i))
    (λ (high : length bytes / 4 ≤ i). rw (get_or_past (words bytes) i 0 (rw (length_words bytes) high)) (omega arith))
    (cases_lt i (length bytes / 4))

int_is : (w : ℕ) → w < 2 ^ 32 → int w ≡ to_z w32 w
unfolding int
int_is w h = grind (arith, ints, nat_tests)

int_word_is : (z : ℤ) → int_word z ≡ of_z w32 z
int_word_is (pos n) = refl
int_word_is (negsuc n) = refl

pub int_word_int : (w : ℕ) → w < 2 ^ 32 → int_word (int w) ≡ w
int_word_int w h = int_word_is (int w) ∙ ap (of_z w32) (int_is w h) ∙ of_z-to_z w32 w h
