-- Scenes all of whose elements are sound.
use Rattle.std.proofs.Common.{◌≡◌, ℕ, ◌<◌, true, ◌&&◌, List, length, get_or, refl, arith}
use Rattle.std.specs.List.{list_all}
use Rattle.std.proofs.lemmas.List.Recursion.{and_at, same_from_clauses}
use Rattle.std.proofs.lemmas.Bool.Decides.{nat_tests}
use Rattle.model.specs.declared.element.Element.{Element}
use Rattle.model.specs.Buffer.{sound, all_sound}
use Rattle.raster.specs.Sound.{Sound}

pub sound_parts : (n : ℕ) (e : Element) → sound n e ≡ true → Sound n e
sound_parts n e t = grind (arith, nat_tests)

pub all_sound_at : (n : ℕ) (es : List Element) (k : ℕ) (d : Element) → k < length es → all_sound n es ≡ true → Sound n (get_or es k d)
all_sound_at n es k d h t = sound_parts n (get_or es k d) (and_at (all_sound n) (sound n) refl (λ _ _. refl) es k d h t)

pub all_sound_is : (n : ℕ) (es : List Element) → list_all (sound n) es ≡ all_sound n es
all_sound_is n es = same_from_clauses (list_all (sound n)) (all_sound n) (λ e rest. sound n e && rest) refl (λ _ _. refl) (λ _ _. refl) es
