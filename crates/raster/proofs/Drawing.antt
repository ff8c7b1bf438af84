-- One row of an element drawn: what a frame's pixel is then.
use Rattle.std.proofs.Common.{◌≡◌, ℕ, ◌+◌, ◌-◌, ◌*◌, ◌<◌, cond, ◌&&◌, eqb, ltb, leb, List, get_or, arith}
use Rattle.std.proofs.lemmas.Bool.Decides.{nat_tests}
use Rattle.model.specs.declared.element.Element.{Element}
use Rattle.model.specs.Scene.{inside, laid, source}
use Rattle.raster.specs.declared.clip.Run.{Run}
use Rattle.raster.specs.Clip.{Clipped}

module _ (e : Element) (m part : List ℕ) {w h : ℕ} {a d : Run} (across : Clipped e.x e.width w a) (down : Clipped e.y e.height h d) (row n x y old v v' : ℕ) (hx : x < w) (hy : y < h) where
  abbrev rows_to : ℕ → ℕ
  rows_to r = cond (inside e.x e.width x && (leb d.from y && ltb y (d.from + r))) (laid e (get_or m (source e x y) 0) old) old

  pub row_drawn : row < d.count → n ≡ a.count → ((k : ℕ) → k < a.count → get_or part k 0 ≡ get_or m (e.first + (d.skip + row) * e.stride + (a.skip + k)) 0) → v ≡ rows_to row → v' ≡ cond (eqb y (d.from + row) && (leb a.from x && ltb x (a.from + n))) (laid e (get_or part (x - a.from) 0) v) v → v' ≡ rows_to (row + 1)
  row_drawn low long pixels before after =
      let is = across.exact x hx in
      let column = across.lies (x - a.from) in
      let line = down.lies row low in
      let pixel = pixels (x - a.from) in
      grind (arith, nat_tests)
