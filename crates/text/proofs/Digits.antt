-- How digits are read one after another.
use Rattle.std.proofs.Common.{◌≡◌, ℕ, ◌+◌, ◌*◌, ◌<◌, ◌≤◌, true, ltb, leb, List, [], ◌∷◌, length, get_or, drop, Some, None, Option, sym, refl, ap, ◌∙◌, ⊎_elim, option_and_then, false, le-mul_of_pos_right, arith}
use Rattle.std.proofs.lemmas.List.{at_drop_more, at_drop_all}
use Rattle.std.proofs.lemmas.Bool.{cases_Bool, lt-leb, le-leb, ltb-true, leb-true, leb-false}
use Rattle.text.specs.Number.{digit, value, at_most, with_digit, number}

pub number_some : (base most : ℕ) (xs : List ℕ) → 0 < length xs → number base most xs ≡ at_most most (value base 0 xs)
number_some base most [] h = absurd (omega arith)
number_some base most (b ∷ bs) h = refl

-- more digits do not make a number smaller
too_large : (base most n : ℕ) (xs : List ℕ) → most < n → at_most most (value base n xs) ≡ None
too_large base most n [] h = rw (lt-leb n most h)
too_large base most n (b ∷ bs) h =
    ⊎_elim
    (λ (t : ltb (digit b) base ≡ true).
    let low = ltb-true (digit b) base t in
    let more = le-mul_of_pos_right {m = base} n (omega arith) in
    rw t (too_large base most (n * base + digit b) bs (omega arith)))
    (λ f. rw f)
    (cases_Bool (ltb (digit b) base))

at_most_low : (most n : ℕ) (o : Option ℕ) → at_most most o ≡ Some n → n ≤ most
at_most_low most n None e = cc
at_most_low most n (Some m) e =
    ⊎_elim (λ t. let low = leb-true m most t in let same : m ≡ n = grind arith in omega arith) (λ f. absurd (grind arith)) (cases_Bool (leb m most))

-- a number that is read is never more than most
pub number_low : (base most n : ℕ) (xs : List ℕ) → Some n ≡ number base most xs → n ≤ most
number_low base most n [] e = cc
number_low base most n (b ∷ bs) e = at_most_low most n (value base 0 (b ∷ bs)) (sym e)

-- a digit in front of others
with_more : (base most n b : ℕ) (bs : List ℕ) → at_most most (value base n (b ∷ bs)) ≡ option_and_then (λ m. at_most most (value base m bs)) (with_digit base most n b)
with_more base most n b bs =
    ⊎_elim
    (λ (t : ltb (digit b) base ≡ true).
    let more = n * base + digit b in
    ⊎_elim
    (λ (low : leb more most ≡ true). rw t (rw low))
    (λ (high : leb more most ≡ false). rw t (rw high (too_large base most more bs (leb-false more most high))))
    (cases_Bool (leb more most)))
    (λ f. rw f)
    (cases_Bool (ltb (digit b) base))

with_digit_low : (base most n b m : ℕ) → with_digit base most n b ≡ Some m → m ≤ most
with_digit_low base most n b m e =
    ⊎_elim
    (λ (t : ltb (digit b) base ≡ true). at_most_low most m (Some (n * base + digit b)) (rw t at e))
    (λ (f : ltb (digit b) base ≡ false). let none = rw f at e in absurd cc)
    (cases_Bool (ltb (digit b) base))

-- one digit of xs on: n is what the digits before i write
module _ (base most n : ℕ) (xs : List ℕ) (i : ℕ) (h : i < length xs) (so_far : at_most most (value base n (drop i xs)) ≡ number base most xs) where
  next_digit : number base most xs ≡ option_and_then (λ m. at_most most (value base m (drop (i + 1) xs))) (with_digit base most n (get_or xs i 0))
  next_digit =
      sym so_far ∙ at_drop_more (λ ys. at_most most (value base n ys)) xs i 0 h ∙ with_more base most n (get_or xs i 0) (drop (i + 1) xs)

  pub no_more : with_digit base most n (get_or xs i 0) ≡ None → None ≡ number base most xs
  no_more e = sym (next_digit ∙ rw e)

  pub one_more : (m : ℕ) → with_digit base most n (get_or xs i 0) ≡ Some m → (m ≤ most) × (at_most most (value base m (drop (i + 1) xs)) ≡ number base most xs)
  one_more m e = (with_digit_low base most n (get_or xs i 0) m e, sym (next_digit ∙ rw e))

pub all_digits : (base most n : ℕ) (xs : List ℕ) (i : ℕ) → length xs ≤ i → n ≤ most → at_most most (value base n (drop i xs)) ≡ number base most xs → Some n ≡ number base most xs
all_digits base most n xs i h low so_far =
    let end : value base n (drop i xs) ≡ Some n = at_drop_all (value base n) xs i h in
    sym (ap (at_most most) end ∙ rw (le-leb n most low)) ∙ so_far
