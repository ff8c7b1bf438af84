use Rattle.std.proofs.Common.{◌≡◌, ◌*◌, ◌/◌, ◌%◌, length, ap, ◌∙◌, arith}
use Rattle.std.proofs.lemmas.List.FromFn.{fill_by_all}
use Rattle.raster.specs.Raster.{raster}
use Rattle.present.proofs.readback.read_glass.Goals as goal

pub returns-clause-pixels : goal.returns-clause-pixels
returns-clause-pixels g c =
    let f = g.P.Presenter.glass c.args.p.now c.args.memory.now in
    let size = c.size-size.result in
    let long : length c.loop-place.pixels ≡ size.width * size.height = c.loop-place.auto.pixels ∙ c.if-pixels.false ∙ c.pixels.ensures in
    fill_by_all (λ k. f (k % size.width) (k / size.width)) c.loop-place.pixels (size.width * size.height) 0 long (λ k h. c.loop-place.invariant k (omega arith))
    ∙ ap (λ s. raster s f) c.size-size.ensures.value
