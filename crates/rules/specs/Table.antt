-- Tables, where each place has a record or is free, and lists of numbered places.
use Rattle.std.specs.Prelude.{ℕ, suc, Bool, false, not, List, [], ◌∷◌, is_none, None, Some, filter, filter_map, Option, option_map, unwrap_or, ◌==◌, slice_index_or, slice_set}
use Rattle.list.specs.Place.{place}

-- whether there is a value that passes the test
abbrev pub some_and : {A : Type 0} → (A → Bool) → Option A → Bool
some_and test None = false
some_and test (Some a) = test a

-- the record at a place; a free place, and one past the table, is read as d
abbrev pub record_at : {A : Type 0} → A → List (Option A) → ℕ → A
record_at d t p = unwrap_or (slice_index_or t p None) d

-- the records of a table
abbrev pub records : {A : Type 0} → List (Option A) → List A
records t = filter_map (λ o. o) t

-- a free place: the lowest
abbrev pub free_place : {A : Type 0} → List (Option A) → Option ℕ
free_place t = place is_none t

-- the first place whose record passes the test
abbrev pub place_with : {A : Type 0} → (A → Bool) → List (Option A) → Option ℕ
place_with test t = place (some_and test) t

-- the record at a place changed, if there is one
abbrev pub changed : {A : Type 0} → ℕ → (A → A) → List (Option A) → List (Option A)
changed p f t = slice_set t p (option_map f (slice_index_or t p None))

-- each element changed, by its place, where the first has place i
abbrev pub each_from : {A : Type 0} → (ℕ → A → A) → ℕ → List A → List A
each_from f i [] = []
each_from f i (a ∷ rest) = f i a ∷ each_from f (suc i) rest

abbrev pub each : {A : Type 0} → (ℕ → A → A) → List A → List A
each f xs = each_from f 0 xs

-- a list of places without one of them
abbrev pub without : ℕ → List ℕ → List ℕ
without p ps = filter (λ q. not (q == p)) ps
