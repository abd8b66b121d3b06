-- The remainder is what the fold comes to.
use Rattle.std.proofs.Common.{◌≡◌, sym, ◌∙◌, fold, arith}
use Rattle.std.proofs.lemmas.Grind.{common_steps}
use Rattle.checksum.specs.Checksum.{one_byte, checksum}
use Rattle.checksum.proofs.ChecksumLaws.{remainder-fold}
use Rattle.checksum.proofs.checksum.Goals as goal

pub returns : goal.returns
unfolding checksum
returns c =
    let folded : c.fold.result ≡ fold one_byte 0 c.args.payload.now = grind (arith, common_steps) in
    folded ∙ sym (remainder-fold 0 c.args.payload.now)
