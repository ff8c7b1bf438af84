-- Pixels row by row, and the picture that they are.
use Rattle.std.proofs.Common.{◌≡◌, ℕ, zero, suc, ◌+◌, ◌*◌, ◌/◌, ◌%◌, ◌<◌, List, length, get_or, replicate, sym, ap, ◌∙◌, mul_comm, zero-mul, arith}
use Rattle.std.proofs.lemmas.Nat.{rows, div-add-mod', div_below, mod_below, div-mul-add, mod-mul-add, mul-add-lt}
use Rattle.std.proofs.lemmas.List.FromFn.{fill_by_all, get_or-map-range_with_len, length-map-range_with_len}
use Rattle.std.proofs.lemmas.List.{get_or-replicate}
use Rattle.model.specs.declared.size.Size.{Size}
use Rattle.raster.specs.Raster.{at, raster, Everywhere}

-- a product that a number is below has no factor 0
pub wide : (w h k : ℕ) → k < w * h → 0 < w
wide zero h k l = absurd (omega (arith, zero-mul h))
wide (suc w) h k l = omega arith

module _ (size : Size) where
  -- pixels that agree with f everywhere are its raster
  pub rastered : (f : ℕ → ℕ → ℕ) (pixels : List ℕ) → length pixels ≡ size.width * size.height → Everywhere size (λ x y. at size.width pixels x y ≡ f x y) → pixels ≡ raster size f
  rastered f pixels long each =
      let w = size.width in
      let h = size.height in
      fill_by_all (λ k. f (k % w) (k / w)) pixels (w * h) 0 long
      (λ k l.
      let some = wide w h k l in
      ap (λ i. get_or pixels i 0) (sym (div-add-mod' k w)) ∙ each (k % w) (k / w) (mod_below k w some) (div_below k w h some (rw (mul_comm h w) l)))

  pub at_raster : (f : ℕ → ℕ → ℕ) (x y : ℕ) → x < size.width → y < size.height → at size.width (raster size f) x y ≡ f x y
  at_raster f x y hx hy =
      let w = size.width in
      let h = size.height in
      get_or-map-range_with_len (λ k. f (k % w) (k / w)) 0 (w * h) (y * w + x) (y * w + x) 0 (mul-add-lt y w x h hy hx) (omega arith) ∙ rw (div-mul-add y w x hx, mod-mul-add y w x hx)

  pub at_replicate : (n p x y : ℕ) → n ≡ size.width * size.height → x < size.width → y < size.height → at size.width (replicate n p) x y ≡ p
  at_replicate n p x y is hx hy = grind (arith, rows, get_or-replicate)

  -- pictures that agree everywhere have one raster
  pub raster_same : (f g : ℕ → ℕ → ℕ) → Everywhere size (λ x y. f x y ≡ g x y) → raster size f ≡ raster size g
  raster_same f g same =
      rastered g (raster size f) (length-map-range_with_len _ 0 _) (λ x y hx hy. at_raster f x y hx hy ∙ same x y hx hy)
