use Rattle.std.proofs.Common.{◌≡◌, ℕ, ◌+◌, ◌-◌, ◌≤◌, List, length, replicate, ap, ◌∙◌, arith, length-drop, length-take, rules}
use borrow.Rule.Slice.PartMut.{put_mid}
use Rattle.std.proofs.lemmas.List.{drop-drop}
use Rattle.std.proofs.lemmas.Bool.{le-leb}
use Rattle.text.specs.declared.pixel.PixelRun.{PixelRun}
use Rattle.scene.specs.Items.{filled}
use Rattle.scene.proofs.items.fill_run.Goals as goal

-- a run that was written to its places
written : (first : ℕ) (run : PixelRun) (memory pixels : List ℕ) → first + run.count ≤ length memory → pixels ≡ replicate run.count run.pixel → put_mid first (first + run.count - first) memory pixels ≡ filled first run memory
unfolding filled
written first run memory pixels fits e =
    let k : first + run.count - first ≡ run.count = omega arith in
    rw (e, k, drop-drop run.count first memory, le-leb (first + run.count) (length memory) fits)

pub returns-then-end-memory : goal.returns-then-end-memory
returns-then-end-memory c =
    written c.args.first c.args.run c.args.memory.now c.fill.new.self c.if-end-memory.true (c.fill.ensures.after (λ y e. e) ∙ ap (λ n. replicate n c.args.run.pixel) (simp (length-take, length-drop) (omega arith)))

pub returns-else-end-memory : goal.returns-else-end-memory
unfolding filled
returns-else-end-memory c = search rules
