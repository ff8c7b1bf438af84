use Rattle.std.proofs.Common.{◌+◌, ◌-◌, ◌*◌, length, get_or, refl, arith, rules}
use Rattle.std.proofs.lemmas.List.{places}
use Rattle.std.proofs.lemmas.Nat.{row_fits_turned}
use Rattle.std.proofs.lemmas.Bool.Decides.{nat_tests}
use Rattle.model.specs.Scene.{laid}
use Rattle.raster.proofs.Rows.{row_written}
use Rattle.raster.proofs.draw.Frame.put_row.Goals as goal

pub returns : goal.returns
returns c =
    let from = c.args.from.now in
    let size = c.args.self.now.size in
    let start = c.args.y * size.width + c.args.x in
    let n = length from in
    let fits = row_fits_turned c.args.y size.width size.width size.height c.requires.row (omega arith) in
    record {
      size = refl;
      lender = refl;
      pixels = λ i j hi _.
          row_written size.width c.args.y c.args.x n (start + n - start) c.args.self.now.pixels.now c.draw_row.new.to (λ k d. laid c.args.e.now (get_or from k 0) d)
          (omega arith) c.requires.columns (omega arith) (search (rules, places))
          (λ k l. let row = c.draw_row.ensures k (search (rules, places)) in grind (arith, nat_tests, places))
          i j hi;
    }
