use Rattle.std.proofs.Common.{◌≡◌, ◌∙◌, arith, w32, SFits, rules}
use Rattle.std.proofs.lemmas.Int.{to_z-of_z}
use Rattle.raster.proofs.Drawing.{row_drawn}
use Rattle.raster.proofs.draw.Frame.draw.Goals as goal

pub loop-row-preserved : goal.loop-row-preserved
loop-row-preserved c =
    let e = c.args.e.now in
    let fx : SFits w32 e.x = search rules in
    let fy : SFits w32 e.y = search rules in
    let across = simp to_z-of_z at c.clip-across.ensures in
    let down = simp to_z-of_z at c.clip-down.ensures in
    let before = c.loop-row.invariant in
    let row = c.put_row.ensures in
    record {
      size = row.size ∙ before.size;
      lender = row.lender ∙ before.lender;
      pixels = λ x y hx hy.
          row_drawn e c.args.memory.now c.span_row-from.result.now across down c.loop-row.row _ x y _ _ _ hx hy c.loop-row-test.true c.span_row-from.ensures.size c.span_row-from.ensures.pixels (before.pixels x y hx hy) (rw before.size at row.pixels x y hx hy);
    }

pub returns : goal.returns
returns c =
    let e = c.args.e.now in
    let fy : SFits w32 e.y = search rules in
    let down = simp to_z-of_z at c.clip-down.ensures in
    let done : c.loop-row.row ≡ c.clip-down.result.count = omega arith in
    let all = rw done at c.loop-row.invariant in
    record { size = all.size; lender = all.lender; pixels = λ x y hx hy. rw (down.exact y hy) (all.pixels x y hx hy) }
