-- A line is what was printed into it.
use Rattle.std.proofs.Common.{rules}
use Rattle.std.specs.Fmt.{WritesText}
use Rattle.std.specs.Fmt.InlineText.{AppendsIfIntact}
use Rattle.report.proofs.Lines.{printed}
use Rattle.report.proofs.append.line_of.Goals as goal

pub returns : goal.returns
returns g c =
    let wrote : WritesText AppendsIfIntact c.new-line.result (g.T.Display.output c.args.text.now) c.write.new.self = search rules in
    printed _ _ _ c.new-line.ensures.intact c.new-line.ensures.text wrote
