-- The scene: which surfaces are shown, and where.
use Rattle.std.specs.Prelude.{ℕ, zero, suc, cond, List, [], ◌∷◌, map, ℤ, ◌+ℤ◌, Option, ◌==◌, flat_map}
use Rattle.std.specs.Option.{option_map_or}
use Rattle.model.specs.declared.element.Element.{Element}
use Rattle.rules.specs.declared.buffer.Buffer.{Buffer}
use Rattle.rules.specs.State.{Model, surface_at, buffer_at}

-- a surface that is shown: its place, the buffer that it holds, and its position on the output
pub record Shown : Type 0 where
  pub surface : ℕ
  pub buffer : ℕ
  pub x : ℤ
  pub y : ℤ

-- a place of an order of p: p itself gives its own, and a child is walked by go
abbrev pub walk_place : (ℕ → List Shown) → ℕ → Shown → ℕ → List Shown
walk_place go p own c = cond (c == p) (own ∷ []) (go c)

-- a surface without a current hold gives nothing, nor do its children
abbrev pub walk_held : Option ℕ → (ℕ → List Shown) → List Shown
walk_held hold given = option_map_or given hold []

-- p at x, y, and its children, in a tree that is not deeper than n
unfoldable pub walk_in : ℕ → Model → ℤ → ℤ → ℕ → List Shown
walk_in zero m x y p = []
walk_in (suc n) m x y p =
    walk_held (surface_at m p).current.hold λ b.
    flat_map (walk_place (λ c. walk_in n m (x +ℤ (surface_at m c).current.x) (y +ℤ (surface_at m c).current.y) c) p (record { surface = p; buffer = b; x = x; y = y }))
    (surface_at m p).current.order

-- the surfaces that are shown, bottom first
abbrev pub shown : Model → List Shown
shown m = flat_map (λ p. walk_in 32 m (surface_at m p).current.x (surface_at m p).current.y p) m.roots

-- a buffer record as an element at x, y
abbrev pub element_at : ℤ → ℤ → Buffer → Element
element_at x y b =
    record { x = x; y = y; first = b.first; width = b.width; height = b.height; stride = b.stride; format = b.format }

abbrev pub element_of : Model → Shown → Element
element_of m s = element_at s.x s.y (buffer_at m s.buffer)

abbrev pub scene : Model → List Element
scene m = map (element_of m) (shown m)
