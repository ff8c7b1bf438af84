-- The answer, the CRC and the rows, one after the other.
use Rattle.std.proofs.Common.{◌≡◌, List, ℕ, [], ◌++◌, Ok, vec_items, append_assoc, ap, ◌∙◌}
use Rattle.report.specs.Report.{answer_line, glass_line, row_lines}
use Rattle.draw.specs.Report.{shown_text}
use Rattle.draw.proofs.output.report_text.Goals.{in-Ok+in_ok-write_answer-in-Ok+in_ok-write_glass-in-Ok+in_ok-write_rows-in-Ok, in-Err+in_ok-write_answer-in-Err}
use Rattle.draw.proofs.output.report_text.Goals as goal

three : (a b d none first second third : List ℕ) → none ≡ [] → first ≡ none ++ a → second ≡ first ++ b → third ≡ second ++ d → third ≡ a ++ (b ++ d)
three a b d none first second third e f g h = h ∙ ap (λ s. s ++ d) (g ∙ ap (λ s. s ++ b) (f ∙ ap (λ s. s ++ a) e)) ∙ append_assoc a b d

pub returns-clause-shown : goal.returns-clause-shown
unfolding shown_text
returns-clause-shown c =
    elim c.match-shown.branch [
      | in-Ok+in_ok-write_answer-in-Ok+in_ok-write_glass-in-Ok+in_ok-write_rows-in-Ok w ↦
          let a = answer_line (Ok tt) in
          let text = three a (glass_line w.deref.result.now) (row_lines c.args.width w.deref-in-Ok.result.now) (vec_items c.new-text.result) (vec_items w.write_answer.new.out) (vec_items w.write_glass.new.out) (vec_items w.write_rows.new.out) c.new-text.ensures.items w.in_ok-write_answer-in-Ok.ensures w.in_ok-write_glass-in-Ok.ensures w.in_ok-write_rows-in-Ok.ensures in
          let glass = ap (λ pixels. a ++ (glass_line pixels ++ row_lines c.args.width w.deref-in-Ok.result.now)) w.deref.ensures.value in
          let rows = ap (λ pixels. a ++ (glass_line (vec_items w.in-Ok.glass) ++ row_lines c.args.width pixels)) w.deref-in-Ok.ensures.value in
          rw w.in-Ok.is (ap vec_items w.text-is ∙ text ∙ glass ∙ rows)
      | in-Err+in_ok-write_answer-in-Err w ↦ rw w.in-Err.is tt
    ]
