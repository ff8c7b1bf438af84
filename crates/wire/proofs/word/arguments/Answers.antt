use Rattle.std.proofs.Common.{◌≡◌, ◌<◌, true, eqb, length, [], get_or, set, sym, ap, ◌∙◌, subst, arith, rules, w32}
use Rattle.std.specs.Int.{from_le_bytes}
use Rattle.std.proofs.lemmas.List.{ext_get_or, get_or-map, length-map}
use Rattle.std.proofs.lemmas.List.Edits.{fill_by_more}
use Rattle.std.proofs.lemmas.Bool.{eq-eqb}
use Rattle.model.specs.Word.{words}
use Rattle.wire.proofs.word.arguments.Goals as goal

pub loop-i-preserved : goal.loop-i-preserved
loop-i-preserved g c =
    let chunks = c.chunks-chunks.result.now in
    let all = words c.args.body.now in
    let i = c.loop-i.i in
    let low : i < length c.loop-i.words = omega arith in
    let here : c.from_le_bytes.result ≡ get_or all i 0 = c.from_le_bytes.ensures ∙ sym (get_or-map (from_le_bytes w32) chunks i [] 0 c.loop-i-test.true) ∙ ap (λ l. get_or l i 0) c.chunks-chunks.ensures in (
      search rules,
      λ k h. subst (λ v. get_or (set c.loop-i.words i v) k 0 ≡ get_or all k 0) (sym here) (fill_by_more (λ k. get_or all k 0) c.loop-i.words i 0 low c.loop-i.invariant.1 k h),
    )

pub returns : goal.returns
returns g c =
    let all = words c.args.body.now in
    let count : length all ≡ g.row.N = sym (ap length c.chunks-chunks.ensures) ∙ length-map c.chunks-chunks.result.now (from_le_bytes w32) ∙ c.if-chunks.false in
    let same : c.loop-i.words ≡ all = ext_get_or 0 c.loop-i.words all (c.loop-i.invariant.0 ∙ sym count) (λ k h. c.loop-i.invariant.1 k (omega arith)) in
    let long : eqb (length all) g.row.N ≡ true = eq-eqb (length all) g.row.N count in
    rw (same, long)
