-- `image::bytes::put_word` meets its contract. Assumes nothing.
use Rattle.std.proofs.Common.{◌∙◌, arith}
use Rattle.image.proofs.Numbers.{two-bytes, put-written}
use Rattle.image.proofs.bytes.put_word.Goals as goal

pub returns : goal.returns
returns c = put-written _ _ _ _ _ (c.copy_from_slice.ensures.after ∙ c.to_le_bytes.ensures ∙ two-bytes _) (omega arith)
