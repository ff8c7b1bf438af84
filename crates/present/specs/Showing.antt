-- What stands on the glass of a presenter.
use Rattle.std.specs.Prelude.{◌≡◌, ℕ, Bool, List, MatchBool}
use Rattle.std.specs.List.{AllByRecursion}
use Rattle.model.specs.declared.element.Element.{Element}
use Rattle.model.specs.declared.size.Size.{Size}
use Rattle.model.specs.Buffer.{SameOn}
use Rattle.model.specs.Pixel.{black}
use Rattle.model.specs.Scene.{picture}
use Rattle.raster.specs.Raster.{Everywhere}

-- what a presenter can be asked to do
pub data Act : Type 0 where
  switched_off : Act
  switched_on : Act
  -- the scene and the pixel memory that it was handed
  showed : List Element → List ℕ → Act

-- a glass: the pixel that it has at x, y with a pixel memory
abbrev pub Glass : Type 0
Glass = List ℕ → ℕ → ℕ → ℕ

-- the elements of a shown scene whose pixels the glass may still read from the pixel memory: all of them
abbrev pub read : List Element → List Element
read scene = scene

-- the glass is the picture of the scene with the memory m, for every memory that is equal to m where it may still be read
abbrev pub Shows : Glass → Size → List Element → List ℕ → Type 0
Shows glass size scene m =
    (other : List ℕ) → AllByRecursion (SameOn other m) (read scene) → Everywhere size (λ x y. glass other x y ≡ picture scene m x y)

-- the glass is black, for every memory
abbrev pub Black : Glass → Size → Type 0
Black glass size = (other : List ℕ) → Everywhere size (λ x y. glass other x y ≡ black)

-- what is left of a presenter p that was to be lit and then to show a scene, where lighting was accepted or not
abbrev pub LitAndShown : {P : Type 0} → (P → Act → P → Type 0) → Bool → P → List Element → List ℕ → P → Type 0
LitAndShown {P} left lights p scene m q =
    MatchBool lights ((on : P) × (left p switched_on on × left on (showed scene m) q)) (left p switched_on q)
