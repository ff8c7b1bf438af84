-- The formats of a buffer's pixels, by their numbers.
use Rattle.std.specs.Prelude.{◌≡◌, ℕ, ◌<◌, Result, MatchResult}
use Rattle.model.specs.declared.format.Format.{Format}
use Rattle.model.specs.declared.format.Format.TheVariants.{Argb8888, Xrgb8888}
use Rattle.model.specs.declared.format.UnknownFormat.{UnknownFormat}

abbrev pub format_number : Format → ℕ
format_number Argb8888 = 0
format_number Xrgb8888 = 1

-- the result is the format with that number, or an error where the number is above both
abbrev pub Decodes : ℕ → Result Format UnknownFormat → Type 0
Decodes number r = MatchResult r (λ format. format_number format ≡ number) (λ _. 1 < number)
