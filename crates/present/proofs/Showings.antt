-- Pixel memories that hold the same on every span.
use Rattle.std.proofs.Common.{ℕ, List, [], ◌∷◌, refl}
use Rattle.std.specs.List.{AllByRecursion}
use Rattle.model.specs.declared.element.Element.{Element}
use Rattle.model.specs.Buffer.{SameOn}

-- a pixel memory is equal to itself
pub same_self : (m : List ℕ) (es : List Element) → AllByRecursion (SameOn m m) es
same_self m [] = tt
same_self m (e ∷ es) = ((λ k h. refl), same_self m es)
