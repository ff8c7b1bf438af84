use Rattle.std.proofs.Common.{◌≡◌, ◌<◌, true, false, sym, ◌∙◌, arith, ⊎_elim}
use Rattle.std.proofs.lemmas.Bool.{cases_Bool, eqb-true, eqb-false}
use Rattle.text.proofs.Parted.{next_word, no_word}
use Rattle.text.proofs.words.split_word.Goals as goal

pub returns : goal.returns
returns c =
    let no = no_word c.args.line.now c.split_at.result.1.now _ _ c.blanks.ensures.count c.split_at.ensures.back c.word_length.ensures.count in
    let law = next_word c.args.line.now c.split_at.result.1.now _ _ c.blanks.ensures.count c.split_at.ensures.back c.word_length.ensures.count in
    record {
      parts =
          ⊎_elim
          (λ (t : c.is_empty.result ≡ true).
          let n : c.word_length.result ≡ 0 = omega (arith, eqb-true _ 0 (sym c.is_empty.ensures ∙ t)) in
          rw c.then_some.ensures (rw t (no n).0))
          (λ (f : c.is_empty.result ≡ false).
          let n : 0 < c.word_length.result = omega (arith, eqb-false _ 0 (sym c.is_empty.ensures ∙ f)) in
          rw c.then_some.ensures (rw f (law n ∙ simp (c.split_at-2.ensures.front, c.split_at-2.ensures.back))))
          (cases_Bool c.is_empty.result);
    }
