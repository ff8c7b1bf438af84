-- How the runs at the front of a text part it into lines and words.
use Rattle.std.proofs.Common.{◌≡◌, ℕ, ◌+◌, ◌<◌, Bool, true, false, List, [], ◌∷◌, ◌++◌, length, take, drop, sym, refl, ◌∙◌, ⊎_elim, append_assoc, append-nil, add-one, one-add, arith, length-append, length-take}
use Rattle.std.specs.List.{prefix_len}
use Rattle.std.proofs.lemmas.List.{drop-drop}
use Rattle.std.proofs.lemmas.List.Sums.{prefix_len-le-length}
use Rattle.std.proofs.lemmas.Bool.{cases_Bool}
use Rattle.text.specs.Bytes.{blank, comment, newline, in_word, in_line}
use Rattle.text.specs.Lines.{before, lines, lines_on}
use Rattle.text.specs.Words.{words, words_on}

before_some : (bs : List ℕ) (rest : List (List ℕ)) → 0 < length bs → before bs rest ≡ bs ∷ rest
before_some [] rest h = absurd (omega arith)
before_some (b ∷ bs) rest h = refl

-- a first line with what was read of it
lines_split : (front xs : List ℕ) → 0 < length front + length xs → lines_on front xs ≡ (front ++ take (prefix_len in_line xs) xs) ∷ lines (drop (prefix_len in_line xs + 1) xs)
lines_split front [] h = rw append-nil (before_some front [] (omega arith))
lines_split front (b ∷ bs) h =
    ⊎_elim (λ end. rw end (simp append-nil))
    (λ (on : newline b ≡ false).
    let more = lines_split (front ++ b ∷ []) bs (simp length-append (omega arith)) in
    rw on (simp (one-add, add-one) (more ∙ simp (append_assoc, add-one))))
    (cases_Bool (newline b))

-- the line of n bytes, and what follows its end
pub next_line : (xs line rest after : List ℕ) (n : ℕ) → n ≡ prefix_len in_line xs → 0 < length xs → line ≡ take n xs → rest ≡ drop n xs → after ≡ drop 1 rest → lines xs ≡ line ∷ lines after
next_line xs line rest after n count some front back past =
    rw (front, past, back, drop-drop 1 n xs, count) (lines_split [] xs (omega arith))

-- blanks in front of a word
words_skip : (xs : List ℕ) → words xs ≡ words (drop (prefix_len blank xs) xs)
words_skip [] = refl
words_skip (b ∷ bs) = ⊎_elim (λ on. rw on (simp one-add (words_skip bs))) (λ end. rw end (rw end)) (cases_Bool (blank b))

leading_once : (p : ℕ → Bool) (xs : List ℕ) → prefix_len p (drop (prefix_len p xs) xs) ≡ 0
leading_once p [] = refl
leading_once p (b ∷ bs) = ⊎_elim (λ on. rw on (simp one-add (leading_once p bs))) (λ end. rw end (rw end)) (cases_Bool (p b))

-- a first word with what was read of it
words_split : (front xs : List ℕ) → words_on front xs ≡ before (front ++ take (prefix_len in_word xs) xs) (words (drop (prefix_len in_word xs) xs))
words_split front [] = rw append-nil
words_split front (b ∷ bs) =
    ⊎_elim (λ end. rw end (simp append-nil (rw end)))
    (λ no-blank-here.
    ⊎_elim (λ end. rw no-blank-here (rw end (simp append-nil (rw no-blank-here (rw end)))))
    (λ on. rw no-blank-here (rw on (simp one-add (words_split (front ++ b ∷ []) bs ∙ simp append_assoc))))
    (cases_Bool (comment b)))
    (cases_Bool (blank b))

-- no blank and no word in front: nothing, or a comment
words_none : (xs : List ℕ) → prefix_len blank xs ≡ 0 → prefix_len in_word xs ≡ 0 → words xs ≡ []
words_none [] f g = refl
words_none (b ∷ bs) f g =
    ⊎_elim (λ (is : blank b ≡ true). absurd (omega (arith, rw is at f)))
    (λ (no-blank : blank b ≡ false). ⊎_elim (λ is. rw no-blank (rw is)) (λ (is : comment b ≡ false). absurd (omega (arith, rw is at (rw no-blank at g)))) (cases_Bool (comment b)))
    (cases_Bool (blank b))

-- m blanks, and then a word of n bytes
module _ (xs line : List ℕ) (m n : ℕ) (e : m ≡ prefix_len blank xs) (l : line ≡ drop m xs) (f : n ≡ prefix_len in_word line) where
  skipped : words xs ≡ words line
  skipped = words_skip xs ∙ rw (l, e)

  pub next_word : 0 < n → words xs ≡ take n line ∷ words (drop n line)
  next_word h =
      let long = prefix_len-le-length in_word line in
      skipped ∙ rw f (words_split [] line) ∙ before_some (take n line) _ (simp length-take (omega arith))

  -- where that has no byte, xs holds no word, and neither does what follows
  pub no_word : n ≡ 0 → (words xs ≡ []) × (words (drop n line) ≡ [])
  no_word h =
      let none = words_none line (rw (l, e) (leading_once blank xs)) (sym f ∙ h) in
      (skipped ∙ none, rw h none)
