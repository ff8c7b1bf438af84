-- A part of a row of a frame that is w wide.
use Rattle.std.proofs.Common.{◌≡◌, ℕ, ◌+◌, ◌-◌, ◌*◌, ◌<◌, ◌≤◌, cond, ◌&&◌, eqb, ltb, leb, List, length, get_or, arith}
use borrow.Rule.Slice.PartMut.{put_mid}
use Rattle.std.proofs.lemmas.Nat.{mul-le}
use Rattle.std.proofs.lemmas.List.{places}
use Rattle.std.proofs.lemmas.Bool.Decides.{nat_tests}

-- the places of a row that a part has are those of that row and of its columns
pub in_row : (w y x n j i : ℕ) → x + n ≤ w → i < w → (leb (y * w + x) (j * w + i) && ltb (j * w + i) (y * w + x + n)) ≡ (eqb j y && (leb x i && ltb i (x + n)))
in_row w y x n j i wide inw =
    let above = mul-le (j + 1) w y w in
    let below = mul-le (y + 1) w j w in
    grind (arith, nat_tests)

-- what stands at n after a write to the k places from a on
pub get_or_put_mid : (a k : ℕ) (xs ys : List ℕ) → a + k ≤ length xs → length ys ≡ k → (n : ℕ) → get_or (put_mid a k xs ys) n 0 ≡ cond (leb a n && ltb n (a + k)) (get_or ys (n - a) 0) (get_or xs n 0)
get_or_put_mid a k xs ys fits long n = grind (arith, nat_tests, places)

-- a part of the row y is written, from x on, each of its n pixels by f
pub row_written : (w y x n m : ℕ) (xs ys : List ℕ) (f : ℕ → ℕ → ℕ) → m ≡ n → x + n ≤ w → y * w + w ≤ length xs → length ys ≡ m → ((k : ℕ) → k < m → get_or ys k 0 ≡ f k (get_or xs (y * w + x + k) 0)) → (i j : ℕ) → i < w → get_or (put_mid (y * w + x) m xs ys) (j * w + i) 0 ≡ cond (eqb j y && (leb x i && ltb i (x + n))) (f (i - x) (get_or xs (j * w + i) 0)) (get_or xs (j * w + i) 0)
row_written w y x n m xs ys f same wide fits long each i j inw =
    let put = get_or_put_mid (y * w + x) m xs ys (omega arith) long (j * w + i) in
    let here = in_row w y x n j i wide inw in
    let wrote = each (i - x) in
    grind (arith, nat_tests)
