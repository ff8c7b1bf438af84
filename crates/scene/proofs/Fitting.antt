-- The fills of a file that was parsed fit its pixel memory.
use Rattle.std.proofs.Common.{◌≡◌, ℕ, ◌+◌, ◌≤◌, Bool, true, false, cond, ltb, ◌⊎◌, List, [], ◌∷◌, ◌++◌, Some, None, Ok, Err, codes, Option, Result, refl, subst, inl, inr, ⊎_elim}
use Rattle.std.specs.Option.{ok_or}
use Rattle.std.specs.List.{AllByRecursion}
use Rattle.std.specs.Str.{bytes_eq}
use Rattle.std.proofs.ByRecursion.{All-push}
use Rattle.std.proofs.lemmas.Bool.{ltb-false}
use Rattle.text.specs.declared.pixel.PixelRun.{PixelRun}
use Rattle.text.specs.declared.problem.Argument.TheVariants.{First}
use Rattle.text.specs.declared.problem.BadLine.{BadLine}
use Rattle.text.specs.declared.problem.Problem.{Problem}
use Rattle.text.specs.declared.problem.Problem.TheVariants.{SecondConsole, UnknownLine, PixelForm, PixelsPastEnd}
use Rattle.scene.specs.declared.content.Console.{Console}
use Rattle.scene.specs.declared.content.Item.{Item}
use Rattle.scene.specs.declared.content.Item.TheVariants.{Fill, Element}
use Rattle.text.specs.Argument.{and_then, unsigned_argument}
use Rattle.scene.specs.Fits.{Fits}
use Rattle.text.specs.First.{first_line, on_line}
use Rattle.text.specs.Lines.{lines, first_of, after_first}
use Rattle.text.specs.Pixel.{pixels_of}
use Rattle.scene.specs.Scene.{item_by, item_line, items_after, scene_of}
use Rattle.scene.specs.SceneLine.{console_line, placed_pixels, fills, pixels_line, element_line}
use Rattle.text.specs.Words.{words}

-- a chain that ends well went well before
and_then_ok : {A B E : Type 0} (r : Result A E) (next : A → Result B E) (b : B) → and_then r next ≡ Ok b → (a : A) × (r ≡ Ok a) × (next a ≡ Ok b)
and_then_ok (Ok a) next b e = (a, refl, e)
and_then_ok (Err x) next b e = absurd cc

on_line_ok : {A : Type 0} (n : ℕ) (r : Result A Problem) (a : A) → on_line n r ≡ Ok a → r ≡ Ok a
on_line_ok n (Ok x) a e = cc
on_line_ok n (Err x) a e = absurd cc

cond_ok : {A E : Type 0} (t : Bool) (x : E) (r : Result A E) (a : A) → cond t (Err x) r ≡ Ok a → (t ≡ false) × (r ≡ Ok a)
cond_ok true x r a e = absurd cc
cond_ok false x r a e = (refl, e)

cond_either : {A E : Type 0} (t : Bool) (x y : Result A E) (a : A) → cond t x y ≡ Ok a → (x ≡ Ok a) ⊎ (y ≡ Ok a)
cond_either true x y a e = inl e
cond_either false x y a e = inr e

never_ok : {A E : Type 0} (t : Bool) (x y : E) (a : A) → cond t (Err x) (Err y) ≡ Ok a → ⊥
never_ok true x y a e = cc
never_ok false x y a e = cc

module _ (n : ℕ) where
  placed_fits : (first : ℕ) (word : List ℕ) (run : PixelRun) → placed_pixels n first word ≡ Ok run → first + run.count ≤ n
  placed_fits first word run e =
      let found = and_then_ok (ok_or (pixels_of word) PixelForm) _ run e in
      let inside = cond_ok (ltb n (first + found.0.count)) PixelsPastEnd (Ok found.0) run found.2 in
      let same : found.0 ≡ run = cc in
      let low = ltb-false n (first + found.0.count) inside.0 in
      subst (λ (r : PixelRun). first + r.count ≤ n) same low

  fills_fit : (ws : List (List ℕ)) (first : ℕ) (so_far items : List Item) → AllByRecursion (Fits n) so_far → fills n first so_far ws ≡ Ok items → AllByRecursion (Fits n) items
  fills_fit [] first so_far items h e = let same : so_far ≡ items = cc in subst (AllByRecursion (Fits n)) same h
  fills_fit (word ∷ ws) first so_far items h e =
      let found = and_then_ok (placed_pixels n first word) _ items e in
      fills_fit ws _ _ items (All-push (Fits n) so_far (Fill first found.0) h (placed_fits first word found.0 found.1)) found.2

  item_fit : (o : Option (List ℕ)) (ws : List (List ℕ)) (so_far items : List Item) → AllByRecursion (Fits n) so_far → item_by n so_far o ws ≡ Ok items → AllByRecursion (Fits n) items
  item_fit None ws so_far items h e = let same : so_far ≡ items = cc in subst (AllByRecursion (Fits n)) same h
  item_fit (Some word) ws so_far items h e =
      ⊎_elim
      (λ (p : pixels_line n so_far ws ≡ Ok items).
      let found = and_then_ok (unsigned_argument First (first_of ws)) _ items p in fills_fit (after_first ws) found.0 so_far items h found.2)
      (λ q.
      ⊎_elim
      (λ (p : and_then (element_line ws) (λ element. Ok (so_far ++ Element element ∷ [])) ≡ Ok items).
      let found = and_then_ok (element_line ws) _ items p in
      let same : so_far ++ Element found.0 ∷ [] ≡ items = cc in
      subst (AllByRecursion (Fits n)) same (All-push (Fits n) so_far (Element found.0) h tt))
      (λ r. absurd (never_ok (bytes_eq word (codes "console")) SecondConsole UnknownLine items r))
      (cond_either (bytes_eq word (codes "element")) _ _ items q))
      (cond_either (bytes_eq word (codes "pixels")) _ _ items e)

  items_fit : (ls : List (List ℕ)) (m : ℕ) (so_far items : List Item) → AllByRecursion (Fits n) so_far → items_after n m so_far ls ≡ Ok items → AllByRecursion (Fits n) items
  items_fit [] m so_far items h e = let same : so_far ≡ items = cc in subst (AllByRecursion (Fits n)) same h
  items_fit (l ∷ ls) m so_far items h e =
      let found = and_then_ok (on_line (m + 1) (item_line n so_far (words l))) _ items e in
      items_fit ls (m + 1) found.0 items (item_fit (first_of (words l)) (after_first (words l)) so_far found.0 h (on_line_ok (m + 1) (item_line n so_far (words l)) found.0 found.1)) found.2

fits_of : (c d : Console) (xs ys : List Item) → ◌≡◌ {A = Result (Console × List Item) BadLine} (Ok (c, xs)) (Ok (d, ys)) → AllByRecursion (Fits c.pixels) xs → AllByRecursion (Fits d.pixels) ys
fits_of c d xs ys e h =
    let same : ◌≡◌ {A = Console × List Item} (c, xs) (d, ys) = cc in
    subst (λ (p : Console × List Item). AllByRecursion (Fits p.0.pixels) p.1) same h

-- what was parsed fits
pub scene_fits : (text : List ℕ) (console : Console) (items : List Item) → scene_of text ≡ Ok (console, items) → AllByRecursion (Fits console.pixels) items
scene_fits text console items e =
    let first = and_then_ok (first_line 0 (lines text)) _ (console, items) e in
    let head = and_then_ok (on_line first.0.0 (console_line (words first.0.1))) _ (console, items) first.2 in
    let tail = and_then_ok (items_after head.0.pixels first.0.0 [] first.0.2) _ (console, items) head.2 in
    fits_of head.0 console tail.0 items tail.2 (items_fit head.0.pixels first.0.2 first.0.0 [] tail.0 tt tail.1)
