-- What stands in a line that a text was printed into.
use Rattle.std.proofs.Common.{◌≡◌, ℕ, List, [], ◌∷◌, ◌++◌, Option, Some, None, IfSome, sym, ap, ◌∙◌}
use Rattle.std.proofs.Math.Path.{subst}
use Rattle.std.specs.Fmt.{WritesText}
use Rattle.std.specs.Fmt.InlineText.{inline_text, IsIntact, AppendsIfIntact}
use Rattle.std.specs.List.{concat, FoldsTo}
use Rattle.std.specs.declared.fmt.InlineText.{InlineText}
use Rattle.std.proofs.lemmas.List.{append_assoc, append-nil}

module _ {n : ℕ} where
  -- after some calls, what they wrote together
  after_calls : (s : InlineText n) (parts : List (List ℕ)) (t : InlineText n) → FoldsTo AppendsIfIntact s parts t → AppendsIfIntact s (concat parts) t
  after_calls s [] t same intact = (subst IsIntact same intact, ap inline_text (sym same) ∙ sym (append-nil (inline_text s)))
  after_calls s (x ∷ parts) t calls intact =
      let first = calls.1 intact in
      let rest = after_calls calls.0 parts t calls.2 first.0 in
      (rest.0, rest.1 ∙ ap (λ l. l ++ concat parts) first.1 ∙ append_assoc (inline_text s) x (concat parts))

  pub printed : (s t : InlineText n) (output : Option (List ℕ)) → IsIntact s → inline_text s ≡ [] → WritesText AppendsIfIntact s output t → IfSome output (λ text. inline_text t ≡ text)
  printed s t None intact empty wrote = wrote
  printed s t (Some text) intact empty wrote =
      (after_calls s wrote.parts t wrote.calls intact).1 ∙ ap (λ l. l ++ concat wrote.parts) empty ∙ wrote.whole
