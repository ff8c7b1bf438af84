-- Lists with room for so many elements.
use Rattle.std.specs.Prelude.{ℕ, List, [], ◌∷◌, ◌++◌, take}
use Rattle.list.specs.declared.indices.Indices.{Indices}

-- one more at the end of a list with room for n; a full list stays as it is
abbrev pub pushed : {T : Type 0} → ℕ → List T → T → List T
pushed n xs x = take n (xs ++ x ∷ [])

-- the indices, without the places that are not filled yet
abbrev pub elements : Indices → List ℕ
elements l = take l.count l.places
