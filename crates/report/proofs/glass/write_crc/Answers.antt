-- The eight digits.
use Rattle.std.proofs.Common.{arith}
use Rattle.report.proofs.Hex.{hex_output}
use Rattle.report.proofs.glass.write_crc.Goals as goal

pub returns : goal.returns
returns c =
    let digits = hex_output c.in_radix.result c.laid_out.result c.args.crc (omega arith) c.in_radix.ensures c.laid_out.ensures in
    rw digits at c.append.ensures
