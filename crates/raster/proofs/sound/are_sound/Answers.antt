use Rattle.std.proofs.Common.{◌∙◌, rules}
use Rattle.std.proofs.lemmas.Iterator.{YieldsList-from_slice}
use Rattle.std.proofs.lemmas.Iterator.Search.{all_from_yields_List}
use Rattle.model.specs.Buffer.{sound}
use Rattle.raster.proofs.Sounds.{all_sound_is}
use Rattle.raster.proofs.sound.are_sound.Goals as goal

pub returns : goal.returns
returns c =
    all_from_yields_List (sound c.args.pixels) _ _ _ c.all.ensures.ran (YieldsList-from_slice c.args.scene.now cc) (λ x b q k. search rules)
    ∙ all_sound_is c.args.pixels c.args.scene.now
