-- The bytes of the pixels, four at a time.
use Rattle.std.proofs.Common.{◌≡◌, ℕ, List, [], ◌∷◌, fold, bit_xor, rules, refl, ap, ◌∙◌}
use Rattle.report.specs.Crc.{fed, bytes, pixel_bytes}
use Rattle.report.proofs.crc.crc32.Goals as goal

four_at_once : (crc : ℕ) (pixels : List ℕ) → fold (λ c p. fold fed c (pixel_bytes p)) crc pixels ≡ fold fed crc (bytes pixels)
four_at_once crc [] = refl
four_at_once crc (p ∷ pixels) = four_at_once (fold fed crc (pixel_bytes p)) pixels

pub returns : goal.returns
returns c =
    let each : c.fold.result ≡ fold (λ crc p. fold fed crc (pixel_bytes p)) 0xffff_ffff c.args.pixels.now = search rules in
    ap (λ crc. bit_xor crc 0xffff_ffff) (each ∙ four_at_once 0xffff_ffff c.args.pixels.now)
