-- The glass that was read is that of the output after the first frame, which shows the scene.
use Rattle.std.proofs.Common.{◌≡◌, ◌*◌, true, eqb, length, sym, refl, ap, ◌∙◌}
use Rattle.std.proofs.lemmas.Bool.{cond-true, and_from, eq-eqb}
use Rattle.model.specs.Scene.{picture}
use Rattle.raster.specs.Raster.{raster}
use Rattle.raster.proofs.Rasters.{raster_same}
use Rattle.present.proofs.Showings.{same_self}
use Rattle.draw.proofs.show.show_on.Goals as goal

pub returns-clause-pixels : goal.returns-clause-pixels
returns-clause-pixels g c _ long =
    let shown = c.in_ok-first_frame.ensures in
    let size = g.P.Presenter.extent c.args.p.now in
    let after = g.P.Presenter.extent c.first_frame.new.p in
    let m = c.args.memory.now in
    let scene = c.args.scene.now in
    let glass = g.P.Presenter.glass c.first_frame.new.p m in
    let n = length c.args.pixels.now in
    let fits : n ≡ after.width * after.height = long ∙ ap (λ s. s.width * s.height) (sym shown.size) in
    let reads : c.read_glass.result ≡ true = c.read_glass.ensures.reads ∙ and_from (g.P.Presenter.lit c.first_frame.new.p) (eqb n (after.width * after.height)) (shown.lights refl) (eq-eqb n (after.width * after.height) fits) in
    c.read_glass.ensures.pixels
    ∙ cond-true c.read_glass.result (raster after glass) c.args.pixels.now reads
    ∙ ap (λ s. raster s glass) shown.size
    ∙ raster_same size glass (picture scene m) (λ x y hx hy. shown.shows refl m (same_self m scene) x y hx hy)
