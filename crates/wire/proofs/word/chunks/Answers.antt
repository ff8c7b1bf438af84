use Rattle.std.proofs.Common.{ap, map, ◌∙◌}
use Rattle.std.specs.Int.{w32, from_le_bytes}
use Rattle.wire.proofs.Chunks.{words_by_chunks}
use Rattle.wire.proofs.word.chunks.Goals as goal

pub returns : goal.returns
returns c =
    ap (map (from_le_bytes w32)) c.as_chunks.ensures.front ∙ words_by_chunks c.args.bytes.now
