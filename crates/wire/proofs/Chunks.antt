-- The words of bytes, chunk by chunk.
use Rattle.std.proofs.Common.{◌≡◌, ℕ, zero, suc, ◌+◌, ◌*◌, ◌/◌, ◌<◌, List, map, length, take, drop, get_or, refl, ap, ◌∙◌, add-zero, arith, w32}
use Rattle.std.specs.Int.{from_le_bytes}
use Rattle.std.specs.List.{range_with_len}
use Rattle.std.specs.Simd.{first_chunks}
use Rattle.std.proofs.lemmas.List.{get_or-take, get_or-drop, drop-drop}
use Rattle.model.specs.Word.{word, words}

module _ (bytes : List ℕ) where
  chunk_word : (i : ℕ) → from_le_bytes w32 (take 4 (drop (4 * i) bytes)) ≡ word bytes i
  chunk_word i =
      let at : (k : ℕ) → k < 4 → get_or (take 4 (drop (4 * i) bytes)) k 0 ≡ get_or bytes (4 * i + k) 0 = λ k h. get_or-take 4 (drop (4 * i) bytes) k 0 h ∙ get_or-drop (4 * i) bytes k 0 in
      let first = at 0 (omega arith) ∙ ap (λ n. get_or bytes n 0) (add-zero (4 * i)) in
      rw (first, at 1 (omega arith), at 2 (omega arith), at 3 (omega arith)) refl

  chunk_words : (k i : ℕ) → map (from_le_bytes w32) (first_chunks 4 k (drop (4 * i) bytes)) ≡ map (word bytes) (range_with_len i k)
  chunk_words zero i = refl
  chunk_words (suc k) i =
      let next : drop 4 (drop (4 * i) bytes) ≡ drop (4 * (i + 1)) bytes = drop-drop 4 (4 * i) bytes ∙ ap (λ n. drop n bytes) (omega arith) in
      rw (chunk_word i, next, chunk_words k (i + 1)) refl

  pub words_by_chunks : map (from_le_bytes w32) (first_chunks 4 (length bytes / 4) bytes) ≡ words bytes
  unfolding words
  words_by_chunks = chunk_words (length bytes / 4) 0
